-- The page of theorems, proved (specs/Theorems.antt). Assumes nothing.
use Prim.Native.Nat.{ℕ, ◌^◌, ◌≤◌}
use mathlib.Core.Bool.{true, ◌&&◌}
use mathlib.Core.Logic.{inl, inr}
use mathlib.Core.Path.{◌≡◌, refl}
use lib.Dec.{leb}
use borrow.Author.Tests.{leb-true}
use Rattle.state.specs.Bounds.{moment_ok}
use Rattle.state.proofs.Rows.{and_left, and_right}
use Rattle.laws.proofs.Examples.{marked_examples_lem, reason_examples_lem, round_examples_lem}
use Rattle.filters.proofs.Greatest.{greatest_is}
use Rattle.events.proofs.Examples.{unsent_events_lem}
use Rattle.events.proofs.NeverSent.{never_sent_lem}
use Rattle.events.proofs.OnlyGreatest as events
use Rattle.dispatch.proofs.Alike as dispatch
use Rattle.laws.proofs.Contracts.{every_call}
use Rattle.laws.proofs.Reasons.{reasons}
use Rattle.laws.proofs.Named.{every_fault}
use Rattle.laws.proofs.Replies.{every_reply}
use Rattle.words.specs.Word.{flag_fits}
use Rattle.dispatch.proofs.RoundTrip.{round_trip}
use Rattle.arguments.proofs.Tested.{fits_where, tested}
use Rattle.calls.specs.Enter.{down_at}
use Rattle.rtt.proofs.Exact as estimates
use Rattle.rtt.proofs.Examples as samples
use Rattle.trips.proofs.Returned as returned
use Rattle.worth.proofs.Worth.{every_run}
use Rattle.worth.proofs.Returned.{every_returned}
use Rattle.worth.proofs.Examples.{worked}
use Rattle.theorems.specs.Runs.{Unasked}
use Rattle.theorems.specs.Steps.{moment}
use Rattle.theorems.specs.Theorems.{Theorems}
use Rattle.theorems.proofs.Casts.{casts}
use Rattle.theorems.proofs.Answered.{answer_bytes}
use Rattle.theorems.proofs.Decoded.{every_outcome}
use Rattle.theorems.proofs.Estimates.{pair_shows}
use Rattle.theorems.proofs.Exported as exported
use Rattle.theorems.proofs.Follow as follow
use Rattle.text.proofs.Examples.{lines_worked}
use Rattle.trace.proofs.Laws.{trace_laws}
use Rattle.trace.proofs.Examples.{traces_worked}
use Rattle.mending.proofs.Laws.{mend_laws}
use Rattle.mending.proofs.Examples.{mends_worked}
use Rattle.theorems.proofs.Trace as trace
use Rattle.theorems.proofs.Mend as mend
use Rattle.theorems.proofs.Left.{left_whole, from_form, left_within, started_within, left_taken}
use Rattle.theorems.proofs.Note.{noted, last_noted}
use Rattle.theorems.proofs.Numbers.{every_number}
use Rattle.theorems.proofs.Refused.{refused}
use Rattle.theorems.proofs.Blames.{call_blames, run_blames, filter_blames, slope_blames}
use Rattle.theorems.proofs.Rows.{every_row}
use Rattle.theorems.proofs.Rtt.{rtt_is, one_rtt_outcome, rtt_row_lem, rtt_keeps, left_is, in_bytes}
use Rattle.theorems.proofs.RttAnswers.{word_is, left_bounds, left_encodes, in_answers}
use Rattle.theorems.proofs.RttCalls.{every_rtt_call, every_rtt_reply, rtt_blames}

-- call 40 with a flag that is neither 0 nor 1 is given a moment that is out of bounds
down_flags : (a b n : ℕ) → moment_ok (down_at a b n) ≡ true → (a ≤ 1) × (b ≤ 1) × (down_at a b n ≡ moment n)
down_flags a b n h =
    let fit = fits_where (λ m. leb m (2 ^ 62)) (flag_fits a && flag_fits b) n refl h in
    (leb-true a 1 (and_left (flag_fits a) (flag_fits b) fit), leb-true b 1 (and_right (flag_fits a) (flag_fits b) fit), rw fit)

unasked : Unasked
unasked =
    record {
      run = λ κ a. tt;
      run_lists = λ κ a. tt;
      filter_run = λ κ a. tt;
      raise_slope = λ κ a. tt;
      rtt_run = λ κ a. tt;
      u64_to_f32 = λ κ a. tt;
      u64_to_f64 = λ κ a. tt;
      f32_to_u64_lem = λ κ a. tt;
      f64_round_to_u64_lem = λ κ a. tt;
      scale = λ κ a. tt;
      bandwidth = λ κ a. tt;
      bytes = λ κ a. tt;
    }

pub theorems : Theorems
theorems =
    record {
      any = unasked;
      run_row_lem = exported.run_row_lem;
      filter_row = exported.filter_row;
      slope_row_lem = exported.slope_row_lem;
      rtt_row_lem = rtt_row_lem;
      run_fault = run_blames;
      filter_fault = filter_blames;
      slope_fault = slope_blames;
      rtt_fault = rtt_blames;
      run_keeps = exported.run_keeps;
      filter_keeps = exported.filter_keeps;
      slope_keeps = exported.slope_keeps;
      rtt_keeps = rtt_keeps;
      run_bounds = λ r ran b c done h. elim h [ inl e ↦ left_within r ran done (from_form r.state b) c e | inr e ↦ started_within r ran done (from_form r.state b) c e ];
      run_again = λ r ran b c done. left_taken r ran done (from_form r.state b) c;
      run_left = left_whole;
      call_answered = answer_bytes;
      call_row_lem = every_row;
      call_refused = refused;
      call_fault = call_blames;
      words = tested;
      down_flags = down_flags;
      words_back = round_trip;
      calls = every_reply;
      calls_faults = every_fault;
      calls_bounds = every_call;
      rtt_calls = every_rtt_reply;
      rtt_call = every_rtt_call;
      rtt_left_lem = left_is;
      rtt_bounds = left_bounds;
      rtt_again = left_encodes;
      rtt_answered = word_is;
      run_defined = exported.run_is;
      filter_defined = exported.filter_is;
      slope_defined = exported.slope_is;
      rtt_defined = rtt_is;
      conversions = exported.conversions;
      casts = casts;
      one_outcome = exported.one_outcome;
      one_rtt_outcome = one_rtt_outcome;
      steps = every_outcome;
      numbers = every_number;
      examples = marked_examples_lem;
      greatest = greatest_is;
      round_examples_lem = round_examples_lem;
      only_greatest = events.only_greatest;
      only_greatest_call = dispatch.only_greatest;
      never_sent_lem = never_sent_lem;
      unsent_events_lem = unsent_events_lem;
      note = noted;
      last_sent = last_noted;
      reasons = reasons;
      reason_examples_lem = reason_examples_lem;
      worth = every_run;
      worth_returned = every_returned;
      worth_written = pair_shows;
      worth_worked = worked;
      inflight = follow.inflight;
      bandwidth = follow.bandwidth;
      usual_inflight = follow.usual_inflight;
      usual_bandwidth = follow.usual_bandwidth;
      rtt = estimates.every_run;
      rtt_returned = returned.every_returned;
      rtt_bytes = in_bytes;
      rtt_answers_lem = in_answers;
      rtt_examples_lem = samples.rtt_examples_lem;
      rtt_worked = samples.worked;
      trace_any = trace.unasked;
      trace_defined = trace.defined;
      trace_laws = trace_laws;
      trace_lines = lines_worked;
      trace_worked = traces_worked;
      trace_inflight = trace.trace_follows;
      usual_trace = trace.trace_under;
      mend_any = mend.unasked;
      mend_defined = mend.defined;
      mend_laws = mend_laws;
      mend_worked = mends_worked;
    }
