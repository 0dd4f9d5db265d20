-- A call that carries an event, or counts rounds, and is done leaves the model, and the event's the record too, within the bounds. beta is an f32, so the format holds it. Assumes nothing.
use Rattle.std.specs.Prelude.{Option, None, Some}
use Prim.Native.Nat.{ℕ, min, max, ◌+◌, ◌-◌, ◌^◌, ◌≤◌}
use Rattle.units.specs.declared.time.Duration.{Duration}
use mathlib.Core.Bool.{Bool, true, false, cond, not, ◌&&◌, ◌||◌}
use mathlib.Core.List.{List}
use mathlib.Core.Path.{◌≡◌, refl, sym, ◌∙◌, subst}
use native.Mathlib.Omega.{arith}
use Rattle.std.proofs.lemmas.Bool as Bools
use lib.Dec.{T, leb, ltb, eqb}
use lib.Ieee.{Float, binary32, fits, le, of_bits}
use borrow.Author.Tests.{leb-true, le-leb, ltb-false, not-false}
use Rattle.numbers.specs.Scaling.{scaled, scaled_f64, complement, parts_of, Parts}
use Rattle.numbers.proofs.ScaleLaws.{scale_bound, scale_f64_law}
use Rattle.numbers.proofs.Complement.{complement_law}
use Rattle.units.specs.declared.bandwidth.Bandwidth.{Bandwidth}
use Rattle.filters.specs.declared.max_bandwidth_filter.MaxBandwidthFilter.{MaxBandwidthFilter}
use Rattle.filters.specs.declared.min_rtt_filter.MinRttFilter.{MinRttFilter}
use Rattle.units.specs.declared.time.Moment.{Moment}
use Rattle.units.specs.Bandwidth.{larger_of, times_f32}
use Rattle.filters.specs.MaxBandwidthFilter.{max_get, max_update}
use Rattle.filters.specs.MinRttFilter.{min_update}
use Rattle.state.specs.declared.network_model.NetworkModel.{NetworkModel}
use Rattle.state.specs.declared.params.Params.{Params}
use Rattle.state.specs.declared.parts.Latest.{Latest}
use Rattle.state.specs.declared.parts.Lower.{Lower}
use Rattle.state.specs.declared.parts.Round.{Round}
use Rattle.state.specs.declared.parts.Totals.{Totals}
use Rattle.state.specs.Bounds.{within, bytes_ok, bytes_or_unset_ok, total_ok, moment_ok, length_ok, bandwidth_ok, maybe_ok, gain_ok}
use Rattle.state.specs.Params.{beta_ok, params_ok}
use Rattle.state.specs.Parts.{round_ok, latest_ok, lower_ok, totals_ok, round_new}
use Rattle.state.specs.NetworkModel.{maxbw_ok, minrtt_ok, model_tests, model_ok, with_round, with_minrtt, with_growth}
use Rattle.laws.proofs.Model.{arms, round_new_ok}
use Rattle.state.proofs.Rows.{row_stored, row_argument, and_left, and_right, and_both, or_left, or_right, all_at, all_put}
use Rattle.state.specs.declared.congestion_event.CongestionEvent.{CongestionEvent}
use Rattle.state.specs.declared.congestion_event.CongestionEventSample.{CongestionEventSample}
use Rattle.state.specs.declared.congestion_event.SendTimeState.{SendTimeState}
use Rattle.events.specs.Event as E
use Rattle.events.proofs.Room.{no_row}
use Rattle.state.specs.CongestionEvent as H
use Rattle.judge.specs.Judge as J

larger_ok : (a b k : ℕ) → leb a k ≡ true → leb b k ≡ true → leb (max a b) k ≡ true
larger_ok a b k p q = le-leb (max a b) k (omega (arith, leb-true a k p, leb-true b k q))

-- ---- part by part
pub most_kept : (f : MaxBandwidthFilter) (b : Option Bandwidth) (c l : Bool) → maxbw_ok f ≡ true → maybe_ok b ≡ true → maxbw_ok (E.maxbw_after f b c l) ≡ true
unfolding max_update
most_kept f None c l h k = h
most_kept f (Some b) c l h k =
    arms maxbw_ok (c && (not l || ltb (max_get f).0 b.0)) (max_update f b) f
    (and_both (bandwidth_ok f.slot0) (leb (max f.slot1.0 b.0) (2 ^ 40)) (and_left (bandwidth_ok f.slot0) (bandwidth_ok f.slot1) h) (larger_ok f.slot1.0 b.0 (2 ^ 40) (and_right (bandwidth_ok f.slot0) (bandwidth_ok f.slot1) h) k)) h

least_kept : (f : MinRttFilter) (r : Option Duration) (now : Moment) → minrtt_ok f ≡ true → H.maybe_length_ok r ≡ true → moment_ok now ≡ true → minrtt_ok (E.minrtt_after f r now) ≡ true
unfolding min_update
least_kept f None now h k t = h
least_kept f (Some d) now h k t = arms minrtt_ok (ltb d.0 f.rtt.0) (record { rtt = d; timestamp = now }) f (and_both (length_ok d) (moment_ok now) k t) h

-- the largest of the filter
pub most_max : (f : MaxBandwidthFilter) → maxbw_ok f ≡ true → bandwidth_ok (max_get f) ≡ true
unfolding max_get
most_max f h = larger_ok f.slot0.0 f.slot1.0 (2 ^ 40) (and_left (bandwidth_ok f.slot0) (bandwidth_ok f.slot1) h) (and_right (bandwidth_ok f.slot0) (bandwidth_ok f.slot1) h)

seed_kept : (b : Option Bandwidth) (w : Bandwidth) → maybe_ok b ≡ true → bandwidth_ok w ≡ true → bandwidth_ok (E.seed_of b w) ≡ true
seed_kept None w h k = k
seed_kept (Some b) w h k = h

raised_kept : (l : Latest) (s : CongestionEventSample) → latest_ok l ≡ true → maybe_ok s.bandwidth ≡ true → bytes_ok s.inflight ≡ true → latest_ok (E.latest_raised l s) ≡ true
unfolding E.latest_raised
raised_kept l s h b n =
    and_both (bandwidth_ok (E.raised_bandwidth l.bandwidth s.bandwidth)) (leb (max l.inflight s.inflight) (2 ^ 40)) (go s.bandwidth b) (larger_ok l.inflight s.inflight (2 ^ 40) (and_right (bandwidth_ok l.bandwidth) (bytes_ok l.inflight) h) n)
  where
    go : (x : Option Bandwidth) → maybe_ok x ≡ true → bandwidth_ok (E.raised_bandwidth l.bandwidth x) ≡ true
    go None k = and_left (bandwidth_ok l.bandwidth) (bytes_ok l.inflight) h
    go (Some x) k = larger_ok l.bandwidth.0 x.0 (2 ^ 40) (and_left (bandwidth_ok l.bandwidth) (bytes_ok l.inflight) h) k

latest_kept : (l : Latest) (t : Bool) (s : CongestionEventSample) → latest_ok l ≡ true → maybe_ok s.bandwidth ≡ true → bytes_ok s.inflight ≡ true → latest_ok (E.latest_after l t s) ≡ true
unfolding E.latest_after
latest_kept l t s h b n =
    arms latest_ok t (record { bandwidth = E.seed_of s.bandwidth l.bandwidth; inflight = E.newest_of l.inflight s.inflight }) l
    (and_both (bandwidth_ok (E.seed_of s.bandwidth l.bandwidth)) (bytes_ok (E.newest_of l.inflight s.inflight))
    (seed_kept s.bandwidth l.bandwidth b (and_left (bandwidth_ok l.bandwidth) (bytes_ok l.inflight) h))
    (arms bytes_ok (ltb 0 s.inflight) s.inflight l.inflight n (and_right (bandwidth_ok l.bandwidth) (bytes_ok l.inflight) h))) h

-- ---- the lower bounds: the factor is at most 1
module _ (b : Float) (v : Parts b) where
  at_most_one : parts_of b ≤ 2 ^ 24
  at_most_one = omega (arith, v.not_all)

  slower_kept : (x : Bandwidth) → bandwidth_ok x ≡ true → bandwidth_ok (times_f32 x b) ≡ true
  unfolding times_f32
  slower_kept x h =
      let n = leb-true x.0 (2 ^ 40) h in
      le-leb (scaled_f64 x.0 b) (2 ^ 40) (omega (arith, (scale_f64_law x.0 (parts_of b) (2 ^ 24) b n (omega arith) at_most_one v.value).1))

  cut_kept : (n : ℕ) → bytes_ok n ≡ true → bytes_ok (scaled n b) ≡ true
  cut_kept n h = le-leb (scaled n b) (2 ^ 40) (scale_bound n (parts_of b) (2 ^ 24) b (leb-true n (2 ^ 40) h) (omega arith) at_most_one v.value)

set_or : (n : ℕ) → bytes_or_unset_ok n ≡ true → eqb n (2 ^ 64 - 1) ≡ false → bytes_ok n ≡ true
set_or n h k = go (bytes_ok n) (eqb n (2 ^ 64 - 1)) h k
  where
    go : (a c : Bool) → (a || c) ≡ true → c ≡ false → a ≡ true
    go true c p q = refl
    go false c p q = sym q ∙ p

start_kept : (lo window : ℕ) → bytes_or_unset_ok lo ≡ true → bytes_ok window ≡ true → bytes_ok (E.start_of lo window) ≡ true
start_kept lo window h k = go (eqb lo (2 ^ 64 - 1)) refl
  where
    go : (t : Bool) → eqb lo (2 ^ 64 - 1) ≡ t → bytes_ok (cond t window lo) ≡ true
    go true e = k
    go false e = set_or lo h e

lower_kept : (l : Lower) (t : Bool) (most : Bandwidth) (latest : Latest) (window : ℕ) (beta : Float) → Parts (complement beta)
    → lower_ok l ≡ true → bandwidth_ok most ≡ true → latest_ok latest ≡ true → bytes_ok window ≡ true → lower_ok (E.lower_after l t most latest window beta) ≡ true
unfolding E.lower_after E.lower_reduced
lower_kept l t most latest window beta v h m k w =
    let b = complement beta in
    let x = larger_of latest.bandwidth (times_f32 (E.seed_of l.bandwidth most) b) in
    let n = scaled (E.start_of l.inflight window) b in
    arms lower_ok t (record { bandwidth = Some x; inflight = max latest.inflight n }) l
    (and_both (bandwidth_ok x) (bytes_or_unset_ok (max latest.inflight n))
    (larger_ok latest.bandwidth.0 (times_f32 (E.seed_of l.bandwidth most) b).0 (2 ^ 40) (and_left (bandwidth_ok latest.bandwidth) (bytes_ok latest.inflight) k)
    (slower_kept b v (E.seed_of l.bandwidth most) (seed_kept l.bandwidth most (and_left (maybe_ok l.bandwidth) (bytes_or_unset_ok l.inflight) h) m)))
    (Bools.or_left (bytes_ok (max latest.inflight n)) (eqb (max latest.inflight n) (2 ^ 64 - 1))
    (larger_ok latest.inflight n (2 ^ 40) (and_right (bandwidth_ok latest.bandwidth) (bytes_ok latest.inflight) k)
    (cut_kept b v (E.start_of l.inflight window) (start_kept l.inflight window (and_right (maybe_ok l.bandwidth) (bytes_or_unset_ok l.inflight) h) w))))) h

-- ---- the round's sums: the totals rise by what the event lost and acked
least_inflight : (least n : ℕ) → bytes_ok n ≡ true → bytes_or_unset_ok (min least n) ≡ true
least_inflight least n h = Bools.or_left (bytes_ok (min least n)) (eqb (min least n) (2 ^ 64 - 1)) (le-leb (min least n) (2 ^ 40) (omega (arith, leb-true n (2 ^ 40) h)))

module _ (r : Round) (old new : Totals) (delivered inflight : ℕ) (H : round_ok r old ≡ true) (K : totals_ok new ≡ true)
    (A : old.acked ≤ new.acked) (L : old.lost ≤ new.lost) (D : delivered ≤ new.acked) (I : bytes_ok inflight ≡ true) where
  abbrev lost : ℕ
  lost = new.lost - old.lost

  lost_was : r.lost ≤ old.lost
  unfolding round_ok
  lost_was = leb-true _ _ (and_right (total_ok r.lost && total_ok r.delivered && bytes_or_unset_ok r.mininflight) (leb r.lost old.lost) (and_left _ (leb r.delivered old.acked) H))

  delivered_was : r.delivered ≤ old.acked
  unfolding round_ok
  delivered_was = leb-true _ _ (and_right (total_ok r.lost && total_ok r.delivered && bytes_or_unset_ok r.mininflight && leb r.lost old.lost) (leb r.delivered old.acked) H)

  acked_ok : new.acked ≤ 2 ^ 62
  acked_ok = leb-true _ _ (and_left (total_ok new.acked) (total_ok new.lost) K)

  lost_ok : new.lost ≤ 2 ^ 62
  lost_ok = leb-true _ _ (and_right (total_ok new.acked) (total_ok new.lost) K)

  lost_now : cond (ltb 0 lost) (r.lost + lost) r.lost ≤ new.lost
  lost_now = go (ltb 0 lost)
    where
      go : (t : Bool) → cond t (r.lost + lost) r.lost ≤ new.lost
      go true = omega (arith, lost_was, L)
      go false = omega (arith, lost_was, L)

  delivered_now : max r.delivered delivered ≤ new.acked
  delivered_now = omega (arith, delivered_was, A, D)

  round_kept : round_ok (E.round_after r lost delivered inflight) new ≡ true
  unfolding round_ok E.round_after
  round_kept =
      let x = cond (ltb 0 lost) (r.lost + lost) r.lost in
      let y = max r.delivered delivered in
      let z = min r.mininflight inflight in
      and_both (total_ok x && total_ok y && bytes_or_unset_ok z && leb x new.lost) (leb y new.acked)
      (and_both (total_ok x && total_ok y && bytes_or_unset_ok z) (leb x new.lost)
      (and_both (total_ok x && total_ok y) (bytes_or_unset_ok z) (and_both (total_ok x) (total_ok y) (le-leb x (2 ^ 62) (omega (arith, lost_now, lost_ok))) (le-leb y (2 ^ 62) (omega (arith, delivered_now, acked_ok)))) (least_inflight r.mininflight inflight I))
      (le-leb x new.lost lost_now))
      (le-leb y new.acked delivered_now)

delivered_le : (t : SendTimeState) (acked total : ℕ) → E.delivered_by t acked total ≤ total
unfolding E.delivered_by
delivered_le t acked total = go (ltb 0 acked && t.valid && ltb t.acked total)
  where
    go : (x : Bool) → cond x (total - t.acked) 0 ≤ total
    go true = omega arith
    go false = omega arith

-- ---- beta within its bounds gives a factor of whole parts
beta_parts : (p : Params) → T (fits binary32 p.beta) → params_ok p ≡ true → Parts (complement p.beta)
unfolding params_ok within of_bits
beta_parts p F h =
    let b : beta_ok p.beta ≡ true = and_left _ _ (and_left _ _ (and_left _ _ (and_left _ _ (and_left _ _ (and_left _ _ (and_left _ _ h)))))) in
    complement_law p.beta F (subst T (sym (and_left (le (of_bits binary32 0x3a80_0000) p.beta) (le p.beta (of_bits binary32 0x3f7f_c000)) b)) tt)
    (subst T (sym (and_right (le (of_bits binary32 0x3a80_0000) p.beta) (le p.beta (of_bits binary32 0x3f7f_c000)) b)) tt)

less_ok : (a b k : ℕ) → leb a k ≡ true → leb (a - b) k ≡ true
less_ok a b k h = le-leb (a - b) k (omega (arith, leb-true a k h))

-- ---- the event
module _ (m : NetworkModel) (p : Params) (e : CongestionEvent) (s : CongestionEventSample) (acked : List ℕ) (N : E.event_number m p e s acked ≡ 0) where
  pub event_model : model_ok m ≡ true
  unfolding E.event_number
  event_model = and_left (model_ok m) (params_ok p) (not-false (model_ok m && params_ok p) (no_row m p e s acked N).1.stored_fine)

  event_params : params_ok p ≡ true
  unfolding E.event_number
  event_params = and_right (model_ok m) (params_ok p) (not-false (model_ok m && params_ok p) (no_row m p e s acked N).1.stored_fine)

  event_record : H.event_ok e ≡ true
  unfolding E.event_number
  event_record = and_left (H.event_ok e) (H.sample_ok s) (not-false (H.event_ok e && H.sample_ok s) (no_row m p e s acked N).1.argument_fine)

  pub event_sample : H.sample_ok s ≡ true
  unfolding E.event_number
  event_sample = and_right (H.event_ok e) (H.sample_ok s) (not-false (H.event_ok e && H.sample_ok s) (no_row m p e s acked N).1.argument_fine)

  acked_up : m.totals.acked ≤ s.totals.acked
  unfolding E.event_number
  acked_up = ltb-false _ _ (or_left (ltb s.totals.acked m.totals.acked) (ltb s.totals.lost m.totals.lost) (no_row m p e s acked N).1.no_lower)

  lost_up : m.totals.lost ≤ s.totals.lost
  unfolding E.event_number
  lost_up = ltb-false _ _ (or_right (ltb s.totals.acked m.totals.acked) (ltb s.totals.lost m.totals.lost) (no_row m p e s acked N).1.no_lower)

  abbrev after : CongestionEvent
  after = E.event_next m e s acked

  inflight_ok : bytes_ok (e.prior - E.bytes_acked m s - E.bytes_lost m s) ≡ true
  unfolding H.event_tests
  inflight_ok = less_ok (e.prior - E.bytes_acked m s) (E.bytes_lost m s) (2 ^ 40) (less_ok e.prior (E.bytes_acked m s) (2 ^ 40) (all_at (H.event_tests e) 2 event_record))

  pub event_record_kept : H.event_ok (E.event_next m e s acked) ≡ true
  unfolding H.event_tests H.sample_tests E.event_next E.event_after E.state_after
  event_record_kept =
      let totals : totals_ok s.totals ≡ true = all_at (H.sample_tests s) 7 event_sample in
      simp (
        all_at (H.event_tests e) 0 event_record,
        all_at (H.event_tests e) 1 event_record,
        all_at (H.event_tests e) 2 event_record,
        inflight_ok,
        less_ok s.totals.acked m.totals.acked (2 ^ 62) (and_left (total_ok s.totals.acked) (total_ok s.totals.lost) totals),
        less_ok s.totals.lost m.totals.lost (2 ^ 62) (and_right (total_ok s.totals.acked) (total_ok s.totals.lost) totals),
        bandwidth s.bandwidth (all_at (H.sample_tests s) 0 event_sample),
        rtt s.rtt (all_at (H.sample_tests s) 3 event_sample),
        arms H.state_ok s.state.valid s.state e.state (all_at (H.sample_tests s) 6 event_sample) (all_at (H.event_tests e) 8 event_record),
      )
    where
      bandwidth : (x : Option Bandwidth) → maybe_ok x ≡ true → maybe_ok (E.bandwidth_after e.bandwidth x (E.is_changed m s)) ≡ true
      bandwidth None h = all_at (H.event_tests e) 6 event_record
      bandwidth (Some b) h = arms maybe_ok (E.is_changed m s) (Some b) e.bandwidth h (all_at (H.event_tests e) 6 event_record)

      rtt : (x : Option Duration) → H.maybe_length_ok x ≡ true → H.maybe_length_ok (E.rtt_after e.rtt x) ≡ true
      rtt None h = all_at (H.event_tests e) 7 event_record
      rtt (Some d) h = h

  pub event_model_kept : T (fits binary32 p.beta) → model_ok (E.model_next m p e s acked) ≡ true
  unfolding model_tests H.event_tests H.sample_tests E.model_next E.model_after E.event_next E.event_after E.maxbw_next E.round_next E.adapt_lower_bounds
  event_model_kept fit =
      let bandwidth = all_at (H.sample_tests s) 0 event_sample in
      let inflight = all_at (H.sample_tests s) 4 event_sample in
      let totals = all_at (H.sample_tests s) 7 event_sample in
      let most = most_kept m.maxbw s.bandwidth (E.is_changed m s) s.applimited (all_at (model_tests m) 0 event_model) bandwidth in
      let raised = raised_kept m.latest s (all_at (model_tests m) 3 event_model) bandwidth inflight in
      simp (
        most,
        least_kept m.minrtt s.rtt e.time (all_at (model_tests m) 1 event_model) (all_at (H.sample_tests s) 3 event_sample) (all_at (H.event_tests e) 0 event_record),
        round_kept m.round m.totals s.totals (E.delivered_by after.state (E.bytes_acked m s) s.totals.acked) (e.prior - E.bytes_acked m s - E.bytes_lost m s) (all_at (model_tests m) 2 event_model) totals acked_up lost_up (delivered_le after.state (E.bytes_acked m s) s.totals.acked) inflight_ok,
        latest_kept (E.latest_raised m.latest s) after.ended s raised bandwidth inflight,
        lower_kept m.lower (E.acts after.ended after.probing (E.round_next m after s).lost) (max_get (E.maxbw_next m s)) (E.latest_raised m.latest s) e.window p.beta (beta_parts p fit event_params) (all_at (model_tests m) 4 event_model) (most_max (E.maxbw_next m s) most) raised (all_at (H.event_tests e) 1 event_record),
        all_at (model_tests m) 5 event_model,
        all_at (model_tests m) 6 event_model,
        all_at (model_tests m) 7 event_model,
        and_both (maybe_ok s.send) (maybe_ok s.ack) (all_at (H.sample_tests s) 1 event_sample) (all_at (H.sample_tests s) 2 event_sample),
        totals,
        all_at (H.event_tests e) 0 event_record,
      )

-- ---- the calls that judge the round
judged : (m : NetworkModel) (p : Params) (e : CongestionEvent) (full : Bool) → J.judged_number m p e full ≡ 0 → (model_ok m ≡ true) × (H.event_ok e ≡ true)
unfolding J.judged_number
judged m p e full h =
    (and_left (model_ok m) (params_ok p) (row_stored (model_ok m && params_ok p) (not (H.event_ok e)) false false full h), row_argument (not (model_ok m && params_ok p)) (H.event_ok e) false false full h)

pub finish_kept : (m : NetworkModel) (e : CongestionEvent) → E.finish_number m e ≡ 0 → model_ok (E.finish_next m e) ≡ true
unfolding model_tests E.finish_number E.finish_next with_round
finish_kept m e done =
    let h = row_stored (model_ok m) (not (H.event_ok e)) false false false done in
    arms model_ok e.ended (with_round m round_new) m (all_put (model_tests m) 2 (round_ok round_new m.totals) h (round_new_ok m.totals)) h

pub expire_kept : (m : NetworkModel) (p : Params) (e : CongestionEvent) → J.judged_number m p e false ≡ 0 → model_ok (J.expire_next m p e) ≡ true
unfolding model_tests H.event_tests J.expire_next with_minrtt
expire_kept m p e done = all_put (model_tests m) 1 (minrtt_ok (J.minrtt_expired e.rtt e.time m.minrtt p.period)) h (go e.rtt (all_at (H.event_tests e) 7 k))
  where
    h : model_ok m ≡ true
    h = (judged m p e false done).0

    k : H.event_ok e ≡ true
    k = (judged m p e false done).1

    go : (x : Option Duration) → H.maybe_length_ok x ≡ true → minrtt_ok (J.minrtt_expired x e.time m.minrtt p.period) ≡ true
    go None l = all_at (model_tests m) 1 h
    go (Some d) l = arms minrtt_ok (J.is_due e.time m.minrtt p.period) (record { rtt = d; timestamp = e.time }) m.minrtt (and_both (length_ok d) (moment_ok e.time) l (all_at (H.event_tests e) 0 k)) (all_at (model_tests m) 1 h)

pub growth_kept : (m : NetworkModel) (p : Params) (e : CongestionEvent) → J.judged_number m p e (J.growth_full m p e) ≡ 0 → model_ok (J.growth_next m p e) ≡ true
unfolding model_tests J.growth_next with_growth J.growth_after J.growth_flat
growth_kept m p e done = go (J.has_grown m.growth (max_get m.maxbw) p)
  where
    h : model_ok m ≡ true
    h = (judged m p e (J.growth_full m p e) done).0

    go : (t : Bool) → model_ok (with_growth m (cond t (record { reached = m.growth.reached; baseline = max_get m.maxbw; flat = 0; queueing = m.growth.queueing; ignore = m.growth.ignore }) (J.growth_flat m.growth e.state p))) ≡ true
    go true = all_put (model_tests m) 7 (bandwidth_ok (max_get m.maxbw)) h (most_max m.maxbw (all_at (model_tests m) 0 h))
    go false = h

pub queue_kept : (m : NetworkModel) (p : Params) (gain : Float) → J.queue_number m p gain ≡ 0 → model_ok (J.queue_next m p gain) ≡ true
unfolding model_tests J.queue_number J.queue_next with_growth J.queue_after
queue_kept m p gain done = go (J.is_queueing m gain)
  where
    h : model_ok m ≡ true
    h = and_left (model_ok m) (params_ok p) (row_stored (model_ok m && params_ok p) (not (gain_ok gain)) false false (J.is_queueing m gain && eqb m.growth.queueing (2 ^ 64 - 1)) done)

    go : (t : Bool) → model_ok (with_growth m (J.queue_after m.growth t p)) ≡ true
    go true = h
    go false = h
