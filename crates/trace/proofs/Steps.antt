-- A line where it stands in a trace: as it is, or refused. Assumes nothing.
use Rattle.std.specs.Prelude.{Result, Ok, Err}
use Rattle.std.proofs.Common.{◌≡◌, ℕ, Bool, true, false, cond, refl, ap, ◌∙◌, arith}
use Rattle.text.specs.declared.line.Event as line
use Rattle.text.specs.declared.line.Line.{Line}
use Rattle.text.specs.declared.line.Line.TheVariants.{Start, Sent, Event}
use Rattle.text.specs.declared.line.BadField.{BadField}
use Rattle.trace.specs.Placed.{early, placed_at}
use Rattle.trace.specs.Replay.{bad_text, counted, sent_read, event_read, read_line}
use Rattle.trace.specs.declared.replay.Replay.{Replay}

-- ---- before an accepted start
sent_early : (r : Replay) (time inflight packet bytes : ℕ) → r.started ≡ false → bad_text r ≡ sent_read r time inflight packet bytes
unfolding sent_read
sent_early r time inflight packet bytes h = rw h

event_early : (r : Replay) (e : line.Event) → r.started ≡ false → bad_text r ≡ event_read r e
unfolding event_read
event_early r e h = rw h

-- ---- a line where it stands: as it is, or refused
pub placed_start : (t : Bool) (l : Result Line BadField) (time rtt : ℕ) → placed_at t l ≡ Ok (Start time rtt) → l ≡ Ok (Start time rtt)
unfolding placed_at early
placed_start true l time rtt h = h
placed_start false (Err b) time rtt h = absurd (let z : ◌≡◌ {A = ℕ} 0 1 = cc in omega arith)
placed_start false (Ok (Start t r)) time rtt h = h
placed_start false (Ok (Sent t i n b)) time rtt h = absurd (let z : ◌≡◌ {A = ℕ} 0 1 = cc in omega arith)
placed_start false (Ok (Event e)) time rtt h = absurd (let z : ◌≡◌ {A = ℕ} 0 1 = cc in omega arith)

pub placed_sent : (t : Bool) (l : Result Line BadField) (time inflight packet bytes : ℕ) → placed_at t l ≡ Ok (Sent time inflight packet bytes) → (t ≡ true) × (l ≡ Ok (Sent time inflight packet bytes))
unfolding placed_at early
placed_sent true l time inflight packet bytes h = (refl, h)
placed_sent false (Err b) time inflight packet bytes h = absurd (let z : ◌≡◌ {A = ℕ} 0 1 = cc in omega arith)
placed_sent false (Ok (Start t r)) time inflight packet bytes h = absurd (let z : ◌≡◌ {A = ℕ} 0 1 = cc in omega arith)
placed_sent false (Ok (Sent t i n b)) time inflight packet bytes h = absurd (let z : ◌≡◌ {A = ℕ} 0 1 = cc in omega arith)
placed_sent false (Ok (Event e)) time inflight packet bytes h = absurd (let z : ◌≡◌ {A = ℕ} 0 1 = cc in omega arith)

pub placed_event : (t : Bool) (l : Result Line BadField) (v : line.Event) → placed_at t l ≡ Ok (Event v) → (t ≡ true) × (l ≡ Ok (Event v))
unfolding placed_at early
placed_event true l v h = (refl, h)
placed_event false (Err b) v h = absurd (let z : ◌≡◌ {A = ℕ} 0 1 = cc in omega arith)
placed_event false (Ok (Start t r)) v h = absurd (let z : ◌≡◌ {A = ℕ} 0 1 = cc in omega arith)
placed_event false (Ok (Sent t i n b)) v h = absurd (let z : ◌≡◌ {A = ℕ} 0 1 = cc in omega arith)
placed_event false (Ok (Event e)) v h = absurd (let z : ◌≡◌ {A = ℕ} 0 1 = cc in omega arith)

-- where it is refused, it is answered so
pub placed_bad : (r : Replay) (l : Result Line BadField) (t : Bool) (b : BadField) → r.started ≡ t → placed_at t l ≡ Err b → bad_text (counted r) ≡ read_line r l
unfolding placed_at early read_line counted
placed_bad r (Err j) t b h e = refl
placed_bad r (Ok (Start time rtt)) true b h e = absurd (let z : ◌≡◌ {A = ℕ} 0 1 = cc in omega arith)
placed_bad r (Ok (Start time rtt)) false b h e = absurd (let z : ◌≡◌ {A = ℕ} 0 1 = cc in omega arith)
placed_bad r (Ok (Sent time inflight packet bytes)) true b h e = absurd (let z : ◌≡◌ {A = ℕ} 0 1 = cc in omega arith)
placed_bad r (Ok (Sent time inflight packet bytes)) false b h e = sent_early (counted r) time inflight packet bytes h
placed_bad r (Ok (Event v)) true b h e = absurd (let z : ◌≡◌ {A = ℕ} 0 1 = cc in omega arith)
placed_bad r (Ok (Event v)) false b h e = event_early (counted r) v h

-- the next is started where the one before it is
pub counted_started : (r next : Replay) → next ≡ counted r → r.started ≡ true → next.started ≡ true
unfolding counted
counted_started r next e h = ap (λ (q : Replay). q.started) e ∙ h
