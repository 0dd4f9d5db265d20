-- A line in a replay, beside what `mend` knows of it. Assumes nothing.
use Rattle.std.specs.Prelude.{Result, Ok, Err}
use Prim.Native.Nat.{ℕ}
use Rattle.std.specs.Prelude.{Option, None}
use mathlib.Core.Bool.{Bool, true, false, cond, ◌||◌, true≢false}
use mathlib.Core.Path.{◌≡◌, refl, sym, ap, ◌∙◌}
use lib.Dec.{eqb}
use Rattle.state.specs.declared.refusals.Rows.{Rows}
use Rattle.state.specs.declared.network_model.NetworkModel.{NetworkModel}
use Rattle.state.specs.Answers.{settled}
use Rattle.state.specs.Refusals.{row_of, up_to_four, asked_of, first_of}
use Rattle.state.specs.NetworkModel.{start_number, start_model, start_rows}
use Rattle.state.specs.Faults.{start_faults, sent_faults, started_faults, whole_record, whole_sample}
use Rattle.changes.specs.Changes.{sent_rows, sent_number, sent_next}
use Rattle.events.specs.Event.{event_number, event_rows}
use Rattle.text.specs.declared.line.Event as line
use Rattle.text.specs.declared.line.Line.{Line}
use Rattle.text.specs.declared.line.Line.TheVariants.{Start, Sent, Event}
use Rattle.text.specs.declared.line.BadField.{BadField}
use Rattle.trace.specs.Made.{params, moment, duration, begins, record_of, sample_of, acked_by, occurs_number, occurs_next, ends_round}
use Rattle.trace.specs.Placed.{early, placed_at}
use Rattle.trace.specs.Tally.{one_more, no_tally}
use Rattle.trace.specs.Replay as Read
use Rattle.trace.specs.Replay.{answered, answered_by, bad_text, counted, with_model, begun_with, start_read, sent_read, event_read, read_line}
use Rattle.trace.specs.declared.replay.Replay.{Replay}
use Rattle.trace.specs.declared.replay.Stepped.{Stepped}
use Rattle.mending.specs.Laws.{aside}
use Rattle.mending.proofs.Lines.{placed_refused}

-- ---- no call is refused with 6
not_six : (a b c d u f : Bool) → eqb (asked_of a b c d u f) 6 ≡ false
unfolding up_to_four row_of
not_six true b c d true f = refl
not_six true b c d false f = refl
not_six false true c d true f = refl
not_six false true c d false f = refl
not_six false false true d true f = refl
not_six false false true d false f = refl
not_six false false false true true f = refl
not_six false false false true false f = refl
not_six false false false false true f = refl
not_six false false false false false true = refl
not_six false false false false false false = refl

first_not_six : (r : Rows) → eqb (first_of r) 6 ≡ false
first_not_six r = not_six r.stored r.argument r.earlier r.lower r.unsent r.full

start_not_six : (time rtt : ℕ) → eqb (start_number params (duration rtt) (moment time)) 6 ≡ false
unfolding start_number
start_not_six time rtt = first_not_six (start_rows params (duration rtt) (moment time))

sent_not_six : (m : NetworkModel) (time inflight bytes : ℕ) → eqb (sent_number m (moment time) inflight bytes) 6 ≡ false
unfolding sent_number
sent_not_six m time inflight bytes = first_not_six (sent_rows m (moment time) inflight bytes)

occurs_not_six : (m : NetworkModel) (e : line.Event) → eqb (occurs_number m e) 6 ≡ false
unfolding occurs_number event_number
occurs_not_six m e = first_not_six (event_rows m params (record_of e) (sample_of e) (acked_by e.number))

-- ---- a line where it stands
abbrev pub is_refused : Result Line BadField → Bool
is_refused (Err b) = true
is_refused (Ok l) = false

-- whether a start was accepted after it
abbrev pub started_after : Bool → Result Line BadField → Bool
started_after t (Err b) = t
started_after t (Ok (Start time rtt)) = t || begins time rtt
started_after t (Ok (Sent time inflight number bytes)) = t
started_after t (Ok (Event e)) = t

or_true : (t : Bool) → (t || true) ≡ true
or_true true = refl
or_true false = refl

pub or_false : (t : Bool) → (t || false) ≡ t
or_false true = refl
or_false false = refl

-- the same without line number and tally
abbrev pub bare : Replay → Replay
bare r = record { line = 0; started = r.started; model = r.model; tally = no_tally }

-- what a line does to a replay
pub record Goes (r : Replay) (l : Result Line BadField) (x : Stepped) : Type 0 where
  pub six : eqb x.row.refusal 6 ≡ is_refused (placed_at r.started l)
  pub number : x.row.line ≡ one_more r.line
  pub line : x.replay.line ≡ one_more r.line
  pub started : x.replay.started ≡ started_after r.started (placed_at r.started l)
  pub dropped : is_refused (placed_at r.started l) ≡ true → bare x.replay ≡ bare r

goes_bad : (r : Replay) (l : Result Line BadField) (b : BadField) → placed_at r.started l ≡ Err b → Goes r l (bad_text (counted r))
unfolding answered Read.row_of counted
goes_bad r l b e = record { six = sym (ap is_refused e); number = refl; line = refl; started = sym (ap (started_after r.started) e); dropped = λ _. refl }

-- a call is made, and R is the replay after it
goes_call : (r : Replay) (l p : Result Line BadField) (n : ℕ) (part : Option ℕ) (ended : Bool) (R : Replay) → placed_at r.started l ≡ p → is_refused p ≡ false → eqb n 6 ≡ false → R.line ≡ one_more r.line → R.started ≡ started_after r.started p → Goes r l (answered n part ended R)
unfolding answered Read.row_of
goes_call r l p n part ended R e f six number started =
    record { six = six ∙ sym (ap is_refused e ∙ f); number = number; line = number; started = started ∙ sym (ap (started_after r.started) e); dropped = λ h. absurd (true≢false (sym h ∙ ap is_refused e ∙ f)) }

placed_is : (t : Bool) (l : Result Line BadField) → t ≡ true → placed_at t l ≡ l
unfolding placed_at
placed_is t l h = rw h

placed_first : (t : Bool) (time rtt : ℕ) → placed_at t (Ok (Start time rtt)) ≡ Ok (Start time rtt)
unfolding placed_at early
placed_first true time rtt = refl
placed_first false time rtt = refl

placed_early : (t : Bool) (l : Result Line BadField) → t ≡ false → placed_at t l ≡ early l
unfolding placed_at
placed_early t l h = rw h

goes_start : (r : Replay) (time rtt : ℕ) → Goes r (Ok (Start time rtt)) (start_read (counted r) time rtt)
unfolding start_read answered_by settled counted begins
goes_start r time rtt = go (eqb (start_number params (duration rtt) (moment time)) 0) refl
  where
    next : Bool → Replay
    next d = cond d (begun_with (counted r) (start_model params (duration rtt) (moment time))) (counted r)

    line : (d : Bool) → (next d).line ≡ one_more r.line
    line true = refl
    line false = refl

    begun : (d : Bool) → (next d).started ≡ (r.started || d)
    begun true = sym (or_true r.started)
    begun false = sym (or_false r.started)

    go : (d : Bool) → eqb (start_number params (duration rtt) (moment time)) 0 ≡ d → Goes r (Ok (Start time rtt)) (answered_by (start_number params (duration rtt) (moment time)) (start_faults (duration rtt) (moment time)) false (next d))
    go d e = goes_call r (Ok (Start time rtt)) (Ok (Start time rtt)) _ _ false (next d) (placed_first r.started time rtt) refl (start_not_six time rtt) (line d) (begun d ∙ ap (λ (b : Bool). r.started || b) (sym e))

goes_sent : (r : Replay) (time inflight packet bytes : ℕ) → Goes r (Ok (Sent time inflight packet bytes)) (sent_read (counted r) time inflight packet bytes)
unfolding sent_read answered_by counted early
goes_sent r time inflight packet bytes = go r.started refl
  where
    n : ℕ
    n = sent_number r.model (moment time) inflight bytes

    go : (t : Bool) → r.started ≡ t → Goes r (Ok (Sent time inflight packet bytes)) (cond t (answered_by n (sent_faults (moment time) inflight bytes) false (with_model (counted r) (settled n (sent_next r.model (moment time) inflight packet bytes) r.model))) (bad_text (counted r)))
    go true e = goes_call r (Ok (Sent time inflight packet bytes)) (Ok (Sent time inflight packet bytes)) n _ false _ (placed_is r.started (Ok (Sent time inflight packet bytes)) e) refl (sent_not_six r.model time inflight bytes) refl refl
    go false e = goes_bad r (Ok (Sent time inflight packet bytes)) (record { field = 0 }) (placed_early r.started (Ok (Sent time inflight packet bytes)) e)

goes_event : (r : Replay) (v : line.Event) → Goes r (Ok (Event v)) (event_read (counted r) v)
unfolding event_read answered_by counted early
goes_event r v = go r.started refl
  where
    n : ℕ
    n = occurs_number r.model v

    go : (t : Bool) → r.started ≡ t → Goes r (Ok (Event v)) (cond t (answered_by n (started_faults true whole_record (record_of v) whole_sample (sample_of v)) (ends_round r.model v) (with_model (counted r) (settled n (occurs_next r.model v) r.model))) (bad_text (counted r)))
    go true e = goes_call r (Ok (Event v)) (Ok (Event v)) n _ _ _ (placed_is r.started (Ok (Event v)) e) refl (occurs_not_six r.model v) refl refl
    go false e = goes_bad r (Ok (Event v)) (record { field = 0 }) (placed_early r.started (Ok (Event v)) e)

pub goes : (r : Replay) (l : Result Line BadField) → Goes r l (read_line r l)
unfolding read_line
goes r (Err b) = goes_bad r (Err b) b (placed_refused r.started b.field)
goes r (Ok (Start time rtt)) = goes_start r time rtt
goes r (Ok (Sent time inflight packet bytes)) = goes_sent r time inflight packet bytes
goes r (Ok (Event v)) = goes_event r v

-- ---- neither the number of a line nor the tally decides anything else
pub record Alike (x y : Stepped) : Type 0 where
  pub row : aside x.row ≡ aside y.row
  pub replay : bare x.replay ≡ bare y.replay

alike_answered : (n : ℕ) (part : Option ℕ) (ended : Bool) (r q : Replay) → bare r ≡ bare q → Alike (answered n part ended r) (answered n part ended q)
unfolding answered Read.row_of
alike_answered n part ended r q e =
    record {
      row = ap (λ (b : Replay). Read.row_of b n part) e;
      replay = e;
    }

bare_step : (r : Replay) (l : Result Line BadField) → Alike (read_line r l) (read_line (bare r) l)
unfolding read_line start_read sent_read event_read answered_by counted settled
bare_step r (Err b) = alike_answered 6 None false (counted r) (counted (bare r)) refl
bare_step r (Ok (Start time rtt)) = go (eqb n 0)
  where
    n : ℕ
    n = start_number params (duration rtt) (moment time)

    m : NetworkModel
    m = start_model params (duration rtt) (moment time)

    same : (d : Bool) → bare (cond d (begun_with (counted r) m) (counted r)) ≡ bare (cond d (begun_with (counted (bare r)) m) (counted (bare r)))
    same true = refl
    same false = refl

    go : (d : Bool) → Alike (answered_by n (start_faults (duration rtt) (moment time)) false (cond d (begun_with (counted r) m) (counted r))) (answered_by n (start_faults (duration rtt) (moment time)) false (cond d (begun_with (counted (bare r)) m) (counted (bare r))))
    go d = alike_answered n _ false _ _ (same d)
bare_step r (Ok (Sent time inflight packet bytes)) = go r.started
  where
    n : ℕ
    n = sent_number r.model (moment time) inflight bytes

    next : Replay → Stepped
    next q = answered_by n (sent_faults (moment time) inflight bytes) false (with_model (counted q) (settled n (sent_next r.model (moment time) inflight packet bytes) r.model))

    go : (t : Bool) → Alike (cond t (next r) (bad_text (counted r))) (cond t (next (bare r)) (bad_text (counted (bare r))))
    go true = alike_answered n _ false _ _ refl
    go false = alike_answered 6 None false (counted r) (counted (bare r)) refl
bare_step r (Ok (Event v)) = go r.started
  where
    n : ℕ
    n = occurs_number r.model v

    next : Replay → Stepped
    next q = answered_by n (started_faults true whole_record (record_of v) whole_sample (sample_of v)) (ends_round r.model v) (with_model (counted q) (settled n (occurs_next r.model v) r.model))

    go : (t : Bool) → Alike (cond t (next r) (bad_text (counted r))) (cond t (next (bare r)) (bad_text (counted (bare r))))
    go true = alike_answered n _ _ _ _ refl
    go false = alike_answered 6 None false (counted r) (counted (bare r)) refl

pub same_step : (r q : Replay) (l : Result Line BadField) → bare r ≡ bare q → Alike (read_line r l) (read_line q l)
same_step r q l e =
    let a = bare_step r l in
    let b = bare_step q l in
    record {
      row = a.row ∙ ap (λ (p : Replay). aside (read_line p l).row) e ∙ sym b.row;
      replay = a.replay ∙ ap (λ (p : Replay). bare (read_line p l).replay) e ∙ sym b.replay;
    }
