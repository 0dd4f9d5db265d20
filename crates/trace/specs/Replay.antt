-- A replay: document 02, request j. "Each line shows the state after it, a refused line the unchanged one; the replay
-- goes on. Before an accepted start, the state columns are empty. A second start begins afresh."
use Rattle.std.specs.Prelude.{ℕ, ◌-◌, ◌^◌, Bool, true, false, cond, List, eqb, Option, None, Some, Result, Ok, Err}
use Rattle.std.specs.Bool.{then_some}
use Rattle.units.specs.Reply.{kind_in}
use Rattle.filters.specs.MaxBandwidthFilter.{max_get}
use Rattle.state.specs.declared.network_model.NetworkModel.{NetworkModel}
use Rattle.state.specs.Answers.{settled, zero_length, zero_moment}
use Rattle.state.specs.NetworkModel.{start_number, start_model}
use Rattle.state.specs.Faults.{first, replied, start_faults, sent_faults, started_faults, whole_record, whole_sample}
use Rattle.changes.specs.Changes.{sent_number, sent_next}
use Rattle.text.specs.declared.line.Event as line
use Rattle.text.specs.declared.line.Line.{Line}
use Rattle.text.specs.declared.line.Line.TheVariants.{Start, Sent, Event}
use Rattle.text.specs.declared.line.BadField.{BadField}
use Rattle.text.specs.Line.{line_of}
use Rattle.rows.specs.declared.row.Row.{Row}
use Rattle.rows.specs.declared.row.State.{State}
use Rattle.trace.specs.Made.{params, moment, duration, record_of, sample_of, occurs_number, occurs_next, ends_round}
use Rattle.trace.specs.Tally.{one_more, no_tally, tallied}
use Rattle.trace.specs.declared.replay.Replay.{Replay}
use Rattle.trace.specs.declared.replay.Stepped.{Stepped}

-- before the first line: no line is counted, no start was accepted. Its model is shown nowhere, and no call is made
-- on it
unfoldable pub begin : Replay
begin = record { line = 0; started = false; model = start_model params zero_length zero_moment; tally = no_tally }

-- ---- the row. "An unset bound is an empty field": inflight_lo and inflight_hi are unset where they are 2^64 - 1
unfoldable pub bound : ℕ → Option ℕ
bound n = cond (eqb n (2 ^ 64 - 1)) None (Some n)

unfoldable pub state_of : NetworkModel → State
state_of m =
    record {
      round = m.rounds.count;
      maxbw = (max_get m.maxbw).0;
      lo = bound m.lower.inflight;
      hi = bound m.high;
    }

unfoldable pub row_of : Replay → (refusal : ℕ) (part : Option ℕ) → Row
row_of r refusal part =
    record { line = r.line; refusal = refusal; part = part; state = then_some r.started (state_of r.model) }

-- a line is answered: r is the replay after it, but for the tally; `ended` says that a round ended with it
unfoldable pub answered : (refusal : ℕ) (part : Option ℕ) (ended : Bool) → Replay → Stepped
answered refusal part ended r =
    record {
      replay = record {
        line = r.line;
        started = r.started;
        model = r.model;
        tally = tallied r.tally ended r.model.lower.inflight (row_of r refusal part);
      };
      row = row_of r refusal part;
    }

-- the part of a 2 is the kind of its bound; no other refusal has one, and its kind is 0
abbrev pub part_of : (kind : ℕ) → Option ℕ
part_of kind = cond (eqb kind 0) None (Some kind)

-- "2 is written 2.1 to 2.9": a call's number, and the kind of the first of its faults where that is 2
unfoldable pub answered_by : (number : ℕ) (faults : List ℕ) (ended : Bool) → Replay → Stepped
answered_by number faults ended r = answered number (part_of (kind_in (replied number (first faults)))) ended r

-- refused with 6
abbrev pub bad_text : Replay → Stepped
bad_text r = answered 6 None false r

-- ---- the next line is counted, whatever it is
unfoldable pub counted : Replay → Replay
counted r = record { line = one_more r.line; started = r.started; model = r.model; tally = r.tally }

abbrev pub with_model : Replay → NetworkModel → Replay
with_model r m = record { line = r.line; started = r.started; model = m; tally = r.tally }

abbrev pub begun_with : Replay → NetworkModel → Replay
begun_with r m = record { line = r.line; started = true; model = m; tally = r.tally }

-- "A second start begins afresh"; a refused one leaves the state unchanged
unfoldable pub start_read : Replay → (time rtt : ℕ) → Stepped
start_read r time rtt =
    let n = start_number params (duration rtt) (moment time) in
    answered_by n (start_faults (duration rtt) (moment time)) false
    (settled n (begun_with r (start_model params (duration rtt) (moment time))) r)

-- "a send or event before any accepted start" is refused with 6, "asked before all others"
unfoldable pub sent_read : Replay → (time inflight number bytes : ℕ) → Stepped
sent_read r time inflight number bytes =
    let m = r.model in
    let n = sent_number m (moment time) inflight bytes in
    cond r.started
    (answered_by n (sent_faults (moment time) inflight bytes) false
    (with_model r (settled n (sent_next m (moment time) inflight number bytes) m)))
    (bad_text r)

unfoldable pub event_read : Replay → line.Event → Stepped
event_read r e =
    let m = r.model in
    let n = occurs_number m e in
    cond r.started
    (answered_by n (started_faults true whole_record (record_of e) whole_sample (sample_of e)) (ends_round m e)
    (with_model r (settled n (occurs_next m e) m)))
    (bad_text r)

-- ---- a line, as it is read, on the state before it: the state after it, and its row
unfoldable pub read_line : Replay → Result Line BadField → Stepped
read_line r (Err b) = bad_text (counted r)
read_line r (Ok (Start time rtt)) = start_read (counted r) time rtt
read_line r (Ok (Sent time inflight number bytes)) = sent_read (counted r) time inflight number bytes
read_line r (Ok (Event e)) = event_read (counted r) e

-- the same by its bytes
unfoldable pub stepped : Replay → List ℕ → Stepped
stepped r s = read_line r (line_of s)
