-- The lower bounds in the bytes and in the answers follow the exact run. Assumes nothing.
use Rattle.std.specs.Prelude.{Option, None, Some}
use Prim.Native.Nat.{ℕ, ◌-◌, ◌^◌, ◌≤◌, ◌<◌}
use mathlib.Core.Bool.{Bool, true, false, cond, not}
use mathlib.Core.List.{List, [], ◌∷◌, ◌++◌}
use mathlib.Core.Path.{◌≡◌, refl, sym, ap, subst, ◌∙◌}
use native.Mathlib.Omega.{arith}
use lib.Dec.{eqb}
use lib.Ieee.{Float}
use lib.Ieee.Exact.{HasValue}
use lib.ListN.{get_or}
use Rattle.numbers.specs.Scaling.{complement, parts_of}
use Rattle.units.specs.declared.time.Duration.{Duration}
use Rattle.units.specs.declared.time.Moment.{Moment}
use Rattle.state.specs.declared.network_model.NetworkModel.{NetworkModel}
use Rattle.state.specs.declared.params.Params.{Params}
use Rattle.state.specs.Answers.{settled}
use Rattle.state.specs.Refusals.{row_of}
use Rattle.state.proofs.FirstFault.{no_two}
use Rattle.state.specs.NetworkModel.{model_ok, stored_number}
use Rattle.state.specs.declared.congestion_event.CongestionEvent.{CongestionEvent}
use Rattle.state.specs.declared.congestion_event.CongestionEventSample.{CongestionEventSample}
use Rattle.state.specs.declared.cycle.Cycle.{Cycle}
use Rattle.words.proofs.Laws.{get_or_words_at}
use Rattle.words.specs.Maybe.{bandwidth_of}
use Rattle.layout.specs.NetworkModel.{model_from}
use Rattle.arguments.specs.Params.{params_from}
use Rattle.arguments.specs.CongestionEvent.{event_from_word, event_from}
use Rattle.arguments.specs.Sample.{sample_from}
use Rattle.calls.specs.Ask.{ask_of, read_more}
use Rattle.dispatch.specs.Outcome.{ask_outcome, outcome_of}
use Rattle.drift.specs.Calls as C
use Rattle.drift.specs.Calls.{Call, State, after, run, started}
use Rattle.drift.specs.Exact.{Effect, Exact, unset, inflight_effect, bandwidth_effect, exact_run}
use Rattle.drift.specs.Drift as D
use Rattle.drift.specs.Drift.{low_of, inflight_low, bandwidth_low, Follows, Along, OfEvent, IsAny, IsBeta, usual_beta, usual_parts, Under}
use Rattle.drift.proofs.Inflight.{inflight_drift}
use Rattle.drift.proofs.Bandwidth.{bandwidth_drift}
use Rattle.drift.proofs.Usual.{usual_inflight_drift, usual_bandwidth_drift}
use Rattle.theorems.specs.Steps.{outcome_in}
use Rattle.theorems.specs.Runs.{Run, Ran, AreBytes, state_from, call, before, answer_word, Accepted, Each, History, exact_after, exact_runs, exact_before, low_word, inflight_in, bandwidth_in, HasBetaWord, HasSmallWords, OfEvents}
use Rattle.theorems.specs.Theorems.{InState, InAnswers, InflightNear, BandwidthNear}
use Rattle.theorems.proofs.Answered.{outcome_of_call, reply_word_lem, value_word}
use Rattle.theorems.proofs.Events.{each_fair}
use Rattle.theorems.proofs.Exported.{each_last}
use Rattle.theorems.proofs.Left.{from_form, walk_form}
use Rattle.theorems.proofs.Reached.{Reached, Made, all_made, of_reached}

-- ---- the lower bounds in any bytes are those of the state that they encode
inflight_in_lem : (bytes : List ℕ) → inflight_in bytes ≡ inflight_low (state_from bytes)
unfolding low_word inflight_low state_from model_from
inflight_in_lem bytes = ap (λ (n : ℕ). cond (eqb n (2 ^ 64 - 1)) None (Some n)) (sym (get_or_words_at bytes 0 51 17 (omega arith)))

bandwidth_in_lem : (bytes : List ℕ) → bandwidth_in bytes ≡ bandwidth_low (state_from bytes)
unfolding bandwidth_in bandwidth_low state_from model_from
bandwidth_in_lem bytes = λ i. low_of (bandwidth_of (sym (get_or_words_at bytes 0 51 15 (omega arith)) i) (sym (get_or_words_at bytes 0 51 16 (omega arith)) i))

-- ---- what is known of an event's words is known of its call
abbrev pub Small : Float → Params → CongestionEvent → CongestionEventSample → Type 0
Small beta p e y = (p.beta ≡ beta) × (e.window ≤ 2 ^ 24) × (y.inflight ≤ 2 ^ 24)

abbrev Fixed : Float → Params → CongestionEvent → CongestionEventSample → Type 0
Fixed beta p e y = p.beta ≡ beta

small_words : (beta : Float) (w : List ℕ) → HasBetaWord beta w × HasSmallWords w → Small beta (params_from w) (event_from w) (sample_from w)
unfolding params_from event_from_word sample_from
small_words beta w h = (h.0, h.1.0, h.1.1)

fixed_words : (beta : Float) (w : List ℕ) → HasBetaWord beta w → Fixed beta (params_from w) (event_from w) (sample_from w)
unfolding params_from
fixed_words beta w h = h

of_event : (Q R : Params → CongestionEvent → CongestionEventSample → Type 0) → ((p : Params) (e : CongestionEvent) (y : CongestionEventSample) → Q p e y → R p e y) → (c : Call) → OfEvent Q c → OfEvent R c
of_event Q R f (C.event p e y acked) h = f p e y h
of_event Q R f (C.cap bytes) h = tt
of_event Q R f C.clear_inflight h = tt
of_event Q R f C.clear_bandwidth h = tt
of_event Q R f (C.cruise now) h = tt
of_event Q R f (C.refill rounds now) h = tt
of_event Q R f (C.other c) h = tt

along_map : (P R : Call → Type 0) → ((c : Call) → P c → R c) → (calls : List Call) (s : State) → Along P calls s → Along R calls s
along_map P R f [] s h = tt
along_map P R f (c ∷ calls) s h = (λ done. f c (h.0 done), along_map P R f calls (after c s) h.1)

-- ---- call 35 answers inflight_lo
asked : (w : List ℕ) (s : State) → get_or w 0 0 ≡ 35 → ((outcome_in w s).reply ≡ stored_number s.model) × ((outcome_in w s).value ≡ settled (stored_number s.model) s.model.lower.inflight 0)
unfolding outcome_of ask_outcome ask_of read_more
asked w s e = rw e (refl, refl)

stored_plain : (m : NetworkModel) → eqb (stored_number m) 2 ≡ false
unfolding stored_number
stored_plain m = no_two (not (model_ok m)) false false false false

stored_small : (m : NetworkModel) → stored_number m < 2 ^ 64
unfolding stored_number row_of
stored_small m = go (model_ok m)
  where
    go : (t : Bool) → row_of (not t) false false false false < 2 ^ 64
    go true = omega arith
    go false = omega arith

-- ---- for any theorem of runs of calls, `Q` of the events in them
module _ (effect : Call → State → Effect) (parts : ℕ) (P : List ℕ → Type 0) (Q : Params → CongestionEvent → CongestionEventSample → Type 0) (of_words : (w : List ℕ) → P w → Q (params_from w) (event_from w) (sample_from w)) (low : State → Option ℕ) (Near : Option ℕ → Exact → Type 0)
    (theorem : (p : Params) (rtt : Duration) (now : Moment) (y : Cycle) (calls : List Call) → Along (OfEvent Q) calls (started p rtt now y) → Near (low (run calls (started p rtt now y))) (exact_run effect parts calls (started p rtt now y) unset)) where
  made : (runs : List Run) (r : Run) → History (runs ++ (r ∷ [])) → Each (OfEvents P) (runs ++ (r ∷ [])) → Made effect parts (OfEvent Q) r (exact_runs effect parts runs unset)
  made runs r h e = all_made effect parts (OfEvent Q) runs r h.order (each_fair effect parts P Q of_words (runs ++ (r ∷ [])) h.ran h.bytes e)

  reached : (s : State) (x : Exact) → Reached effect parts (OfEvent Q) s x → Near (low s) x
  reached = of_reached effect parts (OfEvent Q) (λ s x. Near (low s) x) theorem

  in_state : (find : List ℕ → Option ℕ) → ((bytes : List ℕ) → find bytes ≡ low (state_from bytes)) → InState P find effect parts Near
  in_state find same runs r h e =
      let x = exact_after effect parts r (exact_runs effect parts runs unset) in
      subst (λ (l : Option ℕ). Near l x) (sym (same r.left)) (reached (state_from r.left) x (made runs r h e).after)

module _ (parts : ℕ) (P : List ℕ → Type 0) (Q : Params → CongestionEvent → CongestionEventSample → Type 0) (of_words : (w : List ℕ) → P w → Q (params_from w) (event_from w) (sample_from w)) (Near : Option ℕ → Exact → Type 0)
    (theorem : (p : Params) (rtt : Duration) (now : Moment) (y : Cycle) (calls : List Call) → Along (OfEvent Q) calls (started p rtt now y) → Near (inflight_low (run calls (started p rtt now y))) (exact_run inflight_effect parts calls (started p rtt now y) unset)) where
  -- the word that call 35 answers
  answered_low : (runs : List Run) (r : Run) (i : ℕ) → History (runs ++ (r ∷ [])) → Accepted 35 r i → low_word (answer_word r i 1) ≡ inflight_low (before r i)
  unfolding low_word inflight_low settled
  answered_low runs r i h a =
      let ran = each_last Ran runs r h.ran in
      let bytes = each_last (λ r. AreBytes r.state × AreBytes r.calls) runs r h.bytes in
      let s = before r i in
      let form = walk_form r.calls r.lists bytes.1 i (state_from r.state) (from_form r.state bytes.0) in
      let t = asked (call r i) s a.named in
      let small = stored_small s.model in
      let zero : stored_number s.model ≡ 0 = sym t.0 ∙ sym (reply_word_lem r ran a.done i a.made (subst (λ (n : ℕ). eqb n 2 ≡ false) (sym t.0) (stored_plain s.model)) (subst (λ (n : ℕ). n < 2 ^ 64) (sym t.0) small)) ∙ a.accepted in
      let value : (outcome_of_call r i).value ≡ s.model.lower.inflight = t.1 ∙ rw zero in
      ap (λ (n : ℕ). cond (eqb n (2 ^ 64 - 1)) None (Some n))
      (value_word r ran a.done i a.made (subst (λ (n : ℕ). n < 2 ^ 64) (sym value) form.bound.low_inflight) ∙ value)

  asks : (n : ℕ) → n ≡ 35 → n ≡ 0 → ⊥
  asks n e z = omega (arith, e, z)

  in_answers : InAnswers P inflight_effect parts Near
  in_answers runs r i h e a =
      let x = exact_before inflight_effect parts r i (exact_runs inflight_effect parts runs unset) in
      subst (λ (l : Option ℕ). Near l x) (sym (answered_low runs r i h a))
      (reached inflight_effect parts P Q of_words inflight_low Near theorem (before r i) x
      ((made inflight_effect parts P Q of_words inflight_low Near theorem runs r h e).middle a.done i a.made (asks _ a.named)))

  both : ((bytes : List ℕ) → inflight_in bytes ≡ inflight_low (state_from bytes)) → InState P inflight_in inflight_effect parts Near × InAnswers P inflight_effect parts Near
  both same = (in_state inflight_effect parts P Q of_words inflight_low Near theorem inflight_in same, in_answers)

-- ---- the four
pub fixed : (beta : Float) (calls : List Call) (s : State) → Along (OfEvent (Small beta)) calls s → Along (D.HasBeta beta) calls s
fixed beta = along_map (OfEvent (Small beta)) (D.HasBeta beta) (of_event (Small beta) (Fixed beta) (λ p e y h. h.0))

pub small : (beta : Float) (calls : List Call) (s : State) → Along (OfEvent (Small beta)) calls s → Along D.IsSmall calls s
small beta = along_map (OfEvent (Small beta)) D.IsSmall (of_event (Small beta) (λ p e y. (e.window ≤ 2 ^ 24) × (y.inflight ≤ 2 ^ 24)) (λ p e y h. (h.1, h.2)))

any : (P : Call → Type 0) (calls : List Call) (s : State) → Along P calls s → Along IsAny calls s
any P = along_map P IsAny (λ c h. tt)

pub inflight : (beta : Float) → IsBeta beta →
    let parts = parts_of (complement beta) in
    HasValue (complement beta) false parts (2 ^ 24) × InflightNear beta parts (Follows 1 1 parts)
inflight beta is =
    let parts = parts_of (complement beta) in
    let drift = inflight_drift beta is in (
      drift.0,
      both parts (λ w. HasBetaWord beta w × HasSmallWords w) (Small beta) (small_words beta) (Follows 1 1 parts) (λ p rtt now y calls h. drift.1 p rtt now y calls (fixed beta calls _ h) (small beta calls _ h)) inflight_in_lem,
    )

pub bandwidth : (beta : Float) → IsBeta beta → let parts = parts_of (complement beta) in BandwidthNear beta parts (Follows 4097 8192 parts)
bandwidth beta is =
    let parts = parts_of (complement beta) in
    in_state bandwidth_effect parts (HasBetaWord beta) (Fixed beta) (fixed_words beta) bandwidth_low (Follows 4097 8192 parts)
    (λ p rtt now y calls h. (bandwidth_drift beta is).1 p rtt now y calls h (any _ calls _ h)) bandwidth_in bandwidth_in_lem

pub usual_inflight : InflightNear usual_beta usual_parts (Under 334)
usual_inflight =
    both usual_parts (λ w. HasBetaWord usual_beta w × HasSmallWords w) (Small usual_beta) (small_words usual_beta) (Under 334)
    (λ p rtt now y calls h. usual_inflight_drift p rtt now y calls (fixed usual_beta calls _ h) (small usual_beta calls _ h)) inflight_in_lem

pub usual_bandwidth : BandwidthNear usual_beta usual_parts (Under 167)
usual_bandwidth =
    in_state bandwidth_effect usual_parts (HasBetaWord usual_beta) (Fixed usual_beta) (fixed_words usual_beta) bandwidth_low (Under 167)
    (λ p rtt now y calls h. usual_bandwidth_drift p rtt now y calls h (any _ calls _ h)) bandwidth_in bandwidth_in_lem
