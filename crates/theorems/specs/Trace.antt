-- Traces (document 02, request j): what the functions that the program `replay` is made of return, and the exact
-- value of inflight_lo beside a replay (crates/trace/specs/Replay.antt), by the rules of
-- crates/drift/specs/Exact.antt on the calls that the lines make. Definitions only; Theorems.antt says how to read
-- them.
use Rattle.std.specs.Prelude.{ℕ, ◌^◌, ◌≤◌, cond, List, [], ◌∷◌, ◌++◌, ◌≡◌, length, Option, None, Some, Result, Ok, Err}
use Rattle.std.proofs.lemmas.List.Edits.{sets}
use Rattle.state.specs.declared.network_model.NetworkModel.{NetworkModel}
use Rattle.state.specs.Answers.{settled, zero_moment}
use Rattle.state.specs.NetworkModel.{start_number}
use Rattle.state.specs.Cycle.{cycle_new}
use Rattle.drift.specs.Calls as C
use Rattle.drift.specs.Calls.{State}
use Rattle.drift.specs.Exact.{Exact, unset, inflight_effect}
use Rattle.text.specs.declared.line.Line.{Line}
use Rattle.text.specs.declared.line.Line.TheVariants.{Start, Sent, Event}
use Rattle.text.specs.declared.line.BadField.{BadField}
use Rattle.text.specs.Line.{line_of}
use Rattle.text.specs.Word.{same}
use Rattle.rows.specs.Digits.{Put}
use Rattle.rows.specs.declared.row.State as shown
use Rattle.rows.specs.Row.{row_text}
use Rattle.trace.specs.declared.replay.Replay.{Replay}
use Rattle.trace.specs.Made.{params, acked_by, record_of, sample_of}
use Rattle.trace.specs.Replay.{begin, stepped}
use Rattle.trace.specs.Stream.{after, kept_of, between}
use Rattle.trace.specs.Pieces.{run_of, run_text}
use Rattle.text.proofs.line.parse as text
use Rattle.text.proofs.word.same_text as same_text
use Rattle.rows.proofs.row.put_row as rows
use Rattle.trace.proofs.replay.Replay as replay
use Rattle.trace.proofs.stream as stream
use Rattle.theorems.specs.Runs.{Gives, AsksNothing}
use Rattle.theorems.specs.Steps.{Step, begins, makes, keeps, moment, duration, exact_step}

-- ---- the contracts ask nothing of the arguments
pub record TraceUnasked : Type 0 where
  pub line : AsksNothing text.Reads.Asked
  pub same_text : AsksNothing same_text.Reads.Asked
  pub new : AsksNothing replay.new.Reads.Asked
  pub step : AsksNothing replay.step.Reads.Asked
  pub run : AsksNothing stream.run.Reads.Asked
  pub keep : AsksNothing stream.keep.Reads.Asked

-- ---- P holds of every outcome that a contract allows
abbrev pub Always : {K : Type 0} {A E : K → Type 0} {R : Type 0} →
    ((κ : K) → A κ → R → E κ → Type 0) → ((κ : K) → A κ → R → E κ → Type 0) → Type 0
Always {K} {A} {E} {R} learnt P = (κ : K) (a : A κ) (x : R) (e : E κ) → learnt κ a x e → P κ a x e

-- of these it is what the definitions say: of a line's bytes (crates/text/specs/Line.antt) and of two texts, of a
-- line on a replay (crates/trace/specs/Replay.antt), of the lines of a piece from an index on, and of a line that is
-- not ended (Stream.antt and Pieces.antt there); and of `put_row`, which asks for room, that the row stands at the
-- index, and nothing else is changed (`Put`, crates/rows/specs/Digits.antt). `sets l i t` is l with the text t from
-- its index i on
pub record TraceDefined : Type 0 where
  pub line : Gives text.Reads.Learnt (λ κ a. line_of a.0.now)
  pub same_text : Gives same_text.Reads.Learnt (λ κ a. same a.0.now a.1.0.now)
  pub row :
      Always rows.Reads.Learnt
      (λ κ a x e. Put a.0.now e.0.now a.1.0 (row_text a.1.1.0) x)
  pub new : Gives replay.new.Reads.Learnt (λ κ a. begin)
  pub step : Gives replay.step.Reads.Learnt (λ κ a. stepped a.0 a.1.0.now)
  pub run :
      Always stream.run.Reads.Learnt
      (λ κ a x e.
      let out = a.1.1.1.0.now in
      (x ≡ run_of a.0 a.1.0.now a.1.1.0 (length out))
      × (e.1.1.1.0.now ≡ sets out 0 (run_text a.0 a.1.0.now a.1.1.0 (length out))))
  pub keep :
      Always stream.keep.Reads.Learnt
      (λ κ a x e.
      let kept = kept_of (between a.0.now a.1.0 a.1.1.0) in
      (x ≡ length kept) × (e.0.now ≡ sets a.0.now 0 kept))

-- ---- the exact value. The call that a line makes: an accepted start, or a send or an event after one. (An event's
-- finish does nothing to inflight_lo)
unfoldable pub line_step : Replay → Result Line BadField → Step
line_step r (Err b) = keeps
line_step r (Ok (Start time rtt)) =
    settled (start_number params (duration rtt) (moment time)) (begins params (duration rtt) (moment time)) keeps
line_step r (Ok (Sent time inflight number bytes)) =
    cond r.started (makes (C.other (C.sent (moment time) inflight number bytes))) keeps
line_step r (Ok (Event e)) =
    cond r.started (makes (C.event params (record_of e) (sample_of e) (acked_by e.number))) keeps

-- a model beside a cycle, of which these calls read nothing
abbrev pub beside : NetworkModel → State
beside m = record { model = m; cycle = cycle_new zero_moment }

-- the exact value after a line, and after lines, by b = parts / 2^24
unfoldable pub exact_line : (parts : ℕ) → Replay → Result Line BadField → Exact → Exact
exact_line parts r l x = exact_step inflight_effect parts (line_step r l) (beside r.model) x

unfoldable pub exact_lines : (parts : ℕ) → Replay → List (List ℕ) → Exact → Exact
exact_lines parts r [] x = x
exact_lines parts r (l ∷ ls) x = exact_lines parts (stepped r l).replay ls (exact_line parts r (line_of l) x)

-- the window that a line has
abbrev pub window_of : Result Line BadField → ℕ
window_of (Err b) = 0
window_of (Ok (Start time rtt)) = 0
window_of (Ok (Sent time inflight number bytes)) = 0
window_of (Ok (Event e)) = e.cwnd

-- every accepted line, so one whose row shows 0 as its refusal, has a window of at most 16,777,216 bytes
abbrev pub SmallLines : Replay → List (List ℕ) → Type 0
SmallLines r [] = Unit {0}
SmallLines r (l ∷ ls) =
    ((stepped r l).row.refusal ≡ 0 → window_of (line_of l) ≤ 2 ^ 24) × SmallLines (stepped r l).replay ls

-- the lo that a row shows: none, as long as the state is not shown
abbrev pub shown_lo : Option shown.State → Option ℕ
shown_lo None = None
shown_lo (Some s) = s.lo

-- of any lines from the beginning of a replay, the lo that the row of the last one shows is near the exact one
abbrev pub InRows : (parts : ℕ) (Near : Option ℕ → Exact → Type 0) → Type 0
InRows parts Near =
    (lines : List (List ℕ)) (last : List ℕ) → SmallLines begin (lines ++ (last ∷ [])) →
    Near (shown_lo (stepped (after begin lines) last).row.state) (exact_lines parts begin (lines ++ (last ∷ [])) unset)
