-- A call of the model that is done leaves the model within its bounds. Assumes nothing.
use Prim.Native.Nat.{ℕ, min, ◌-◌, ◌^◌}
use mathlib.Core.Bool.{Bool, true, false, cond, not, ◌&&◌}
use mathlib.Core.Path.{◌≡◌, refl}
use native.Mathlib.Nat.{min-eq_left, min-eq_right, le_of_lt}
use Rattle.std.proofs.lemmas.Bool.{cond_both}
use lib.Dec.{leb, eqb}
use lib.ListN.{set}
use native.Mathlib.Omega.{arith}
use borrow.Author.Tests.{leb-true, leb-false, le-leb}
use Rattle.filters.specs.declared.max_bandwidth_filter.MaxBandwidthFilter.{MaxBandwidthFilter}
use lib.Ieee.{Float}
use Rattle.units.specs.declared.time.Duration.{Duration}
use Rattle.units.specs.declared.time.Moment.{Moment}
use Rattle.filters.specs.MaxBandwidthFilter.{max_advance}
use Rattle.units.specs.Time.{is_before}
use Rattle.state.specs.declared.network_model.NetworkModel.{NetworkModel}
use Rattle.state.specs.declared.parts.Lower.{Lower}
use Rattle.state.specs.declared.parts.Totals.{Totals}
use Rattle.state.specs.Bounds.{bytes_ok, bytes_or_unset_ok, total_ok, length_ok, fraction_ok, gain_ok, bandwidth_ok, maybe_ok, moment_ok}
use Rattle.state.specs.Params.{beta_ok, threshold_ok, params_ok}
use Rattle.state.specs.Parts.{round_ok, lower_ok, round_new, round_sent, lower_capped}
use Rattle.state.specs.NetworkModel.{maxbw_ok, model_tests, model_ok, with_maxbw, with_rounds, with_round, with_lower, with_growth, with_moment, with_begun, with_high, with_gains, with_minrtt, growth_restarted, model_new, start_number, stored_number, given_number, restart_next, cap_next, clear_inflight_next, clear_bandwidth_next, advance_next}
use Rattle.state.specs.declared.params.Params.{Params}
use Rattle.changes.specs.Changes.{sent_number, sent_next, reached_next, pacing_next, cwnd_next, postponed, postpone_number, postpone_next}
use Rattle.state.proofs.Rows.{and_left, and_right, and_both, all_at, all_put, row_stored, row_argument}

-- a test holds of both arms
pub arms : {A : Type 0} (ok : A → Bool) (t : Bool) (x y : A) → ok x ≡ true → ok y ≡ true → ok (cond t x y) ≡ true
arms ok t x y p q = cond_both t x y (λ v. ok v ≡ true) (λ _. p) (λ _. q)

-- ---- the parts
pub round_new_ok : (t : Totals) → round_ok round_new t ≡ true
unfolding round_ok
round_new_ok t = and_both (leb 0 t.lost) (leb 0 t.acked) (le-leb 0 t.lost (omega arith)) (le-leb 0 t.acked (omega arith))

pub min_ok : (a b : ℕ) → bytes_or_unset_ok a ≡ true → bytes_or_unset_ok b ≡ true → bytes_or_unset_ok (min a b) ≡ true
min_ok a b p q = go (leb a b) refl
  where
    go : (t : Bool) → leb a b ≡ t → bytes_or_unset_ok (min a b) ≡ true
    go true e = rw (min-eq_left (leb-true a b e)) p
    go false e = rw (min-eq_right (le_of_lt (leb-false a b e))) q

pub lower_capped_ok : (l : Lower) (cap : ℕ) → lower_ok l ≡ true → bytes_or_unset_ok cap ≡ true → lower_ok (lower_capped l cap) ≡ true
unfolding lower_capped
lower_capped_ok l cap h k =
    arms lower_ok (eqb l.inflight (2 ^ 64 - 1)) l (record { bandwidth = l.bandwidth; inflight = min cap l.inflight }) h
    (and_both (maybe_ok l.bandwidth) (bytes_or_unset_ok (min cap l.inflight)) (and_left (maybe_ok l.bandwidth) (bytes_or_unset_ok l.inflight) h)
    (min_ok cap l.inflight k (and_right (maybe_ok l.bandwidth) (bytes_or_unset_ok l.inflight) h)))

pub max_advance_ok : (f : MaxBandwidthFilter) → maxbw_ok f ≡ true → maxbw_ok (max_advance f) ≡ true
unfolding max_advance
max_advance_ok f h =
    arms maxbw_ok (eqb f.slot1.0 0) f (record { slot0 = f.slot1; slot1 = record { 0 = 0 } }) h
    (and_both (bandwidth_ok f.slot1) true (and_right (bandwidth_ok f.slot0) (bandwidth_ok f.slot1) h) refl)

-- ---- the steps
pub high_ok : (m : NetworkModel) → model_ok m ≡ true → bytes_or_unset_ok m.high ≡ true
unfolding model_tests
high_ok m h = all_at (model_tests m) 5 h

pub moment_kept : (m : NetworkModel) (now : Moment) → model_ok m ≡ true → moment_ok now ≡ true → model_ok (with_moment m now) ≡ true
unfolding model_tests with_moment
moment_kept m now h k = all_put (model_tests m) 10 (moment_ok now) h k

pub restart_kept : (m : NetworkModel) → model_ok m ≡ true → model_ok (restart_next m) ≡ true
unfolding model_tests restart_next growth_restarted with_growth with_rounds with_round
restart_kept m h = all_put (model_tests m) 2 (round_ok round_new m.totals) h (round_new_ok m.totals)

pub cap_kept : (m : NetworkModel) (cap : ℕ) → model_ok m ≡ true → bytes_or_unset_ok cap ≡ true → model_ok (cap_next m cap) ≡ true
unfolding model_tests cap_next with_lower
cap_kept m cap h k =
    all_put (model_tests m) 4 (lower_ok (lower_capped m.lower cap)) h (lower_capped_ok m.lower cap (all_at (model_tests m) 4 h) k)

pub clear_inflight_kept : (m : NetworkModel) → model_ok m ≡ true → model_ok (clear_inflight_next m) ≡ true
unfolding model_tests clear_inflight_next with_lower
clear_inflight_kept m h =
    let b = maybe_ok m.lower.bandwidth in
    all_put (model_tests m) 4 (lower_ok (record { bandwidth = m.lower.bandwidth; inflight = 2 ^ 64 - 1 })) h
    (and_both b true (and_left b (bytes_or_unset_ok m.lower.inflight) (all_at (model_tests m) 4 h)) refl)

pub clear_bandwidth_kept : (m : NetworkModel) → model_ok m ≡ true → model_ok (clear_bandwidth_next m) ≡ true
unfolding model_tests clear_bandwidth_next with_lower
clear_bandwidth_kept m h =
    let i = bytes_or_unset_ok m.lower.inflight in
    all_put (model_tests m) 4 i h (and_right (maybe_ok m.lower.bandwidth) i (all_at (model_tests m) 4 h))

pub advance_kept : (m : NetworkModel) → model_ok m ≡ true → model_ok (advance_next m) ≡ true
unfolding model_tests advance_next with_maxbw
advance_kept m h = all_put (model_tests m) 0 (maxbw_ok (max_advance m.maxbw)) h (max_advance_ok m.maxbw (all_at (model_tests m) 0 h))

-- ---- the start, the send and the setters
new_kept : (cwnd pacing : Float) (ignore : Bool) (rtt : Duration) (now : Moment) → gain_ok cwnd ≡ true → gain_ok pacing ≡ true → length_ok rtt ≡ true → moment_ok now ≡ true → model_ok (model_new cwnd pacing ignore rtt now) ≡ true
unfolding model_tests model_new round_ok
new_kept cwnd pacing ignore rtt now c p r t = simp (c, p, r, t)

fifth_sixth : (a b c d e f g h : Bool) → (a && b && c && d && e && f && g && h) ≡ true → (e ≡ true) × (f ≡ true)
fifth_sixth a b c d e f g h k =
    let six = and_left (a && b && c && d && e && f) g (and_left (a && b && c && d && e && f && g) h k) in
    (and_right (a && b && c && d) e (and_left (a && b && c && d && e) f six), and_right (a && b && c && d && e) f six)

gains_of_lem : (p : Params) → params_ok p ≡ true → (gain_ok p.cwnd ≡ true) × (gain_ok p.pacing ≡ true)
unfolding params_ok
gains_of_lem p = fifth_sixth (beta_ok p.beta) (fraction_ok p.loss) (fraction_ok p.headroom) (threshold_ok p.growth) (gain_ok p.cwnd) (gain_ok p.pacing) (length_ok p.period) (length_ok p.base)

pub start_kept : (p : Params) (rtt : Duration) (now : Moment) → start_number p rtt now ≡ 0 → model_ok (model_new p.cwnd p.pacing p.ignore rtt now) ≡ true
unfolding start_number
start_kept p rtt now h =
    let times = row_argument (not (params_ok p)) (length_ok rtt && moment_ok now) false false false h in
    let gains = gains_of_lem p (row_stored (params_ok p) (not (length_ok rtt && moment_ok now)) false false false h) in
    new_kept p.cwnd p.pacing p.ignore rtt now gains.0 gains.1 (and_left (length_ok rtt) (moment_ok now) times) (and_right (length_ok rtt) (moment_ok now) times)

-- a call with no argument, and one with an argument of which `fine` says whether it is within its bounds
pub stored : (m : NetworkModel) → stored_number m ≡ 0 → model_ok m ≡ true
unfolding stored_number
stored m h = row_stored (model_ok m) false false false false h

pub given_stored : (m : NetworkModel) (fine : Bool) → given_number m fine ≡ 0 → model_ok m ≡ true
unfolding given_number
given_stored m fine h = row_stored (model_ok m) (not fine) false false false h

pub given_fine : (m : NetworkModel) (fine : Bool) → given_number m fine ≡ 0 → fine ≡ true
unfolding given_number
given_fine m fine h = row_argument (not (model_ok m)) fine false false false h

pub sent_kept : (m : NetworkModel) (now : Moment) (inflight packet bytes : ℕ) → sent_number m now inflight bytes ≡ 0 → model_ok (sent_next m now inflight packet bytes) ≡ true
unfolding sent_number model_tests sent_next with_moment with_begun with_rounds with_round round_sent round_ok
sent_kept m now inflight packet bytes done =
    let given = moment_ok now && bytes_ok inflight && bytes_ok bytes in
    let h = row_stored (model_ok m) (not given) (is_before now m.moment) false false done in
    let fine = and_left (moment_ok now && bytes_ok inflight) (bytes_ok bytes) (row_argument (not (model_ok m)) given (is_before now m.moment) false false done) in
    let t = and_left (moment_ok now) (bytes_ok inflight) fine in
    let i = and_right (moment_ok now) (bytes_ok inflight) fine in
    let r = m.round in
    let was = all_at (model_tests m) 2 h in
    let sums = total_ok r.lost && total_ok r.delivered in
    let a = and_left (sums && bytes_or_unset_ok r.mininflight && leb r.lost m.totals.lost) (leb r.delivered m.totals.acked) was in
    let b = and_left (sums && bytes_or_unset_ok r.mininflight) (leb r.lost m.totals.lost) a in
    let least = min_ok r.mininflight inflight (and_right sums (bytes_or_unset_ok r.mininflight) b) (simp i) in
    let round =
    and_both (sums && bytes_or_unset_ok (min r.mininflight inflight) && leb r.lost m.totals.lost) (leb r.delivered m.totals.acked)
    (and_both (sums && bytes_or_unset_ok (min r.mininflight inflight)) (leb r.lost m.totals.lost) (and_both sums (bytes_or_unset_ok (min r.mininflight inflight)) (and_left sums (bytes_or_unset_ok r.mininflight) b) least)
    (and_right (sums && bytes_or_unset_ok r.mininflight) (leb r.lost m.totals.lost) a))
    (and_right (sums && bytes_or_unset_ok r.mininflight && leb r.lost m.totals.lost) (leb r.delivered m.totals.acked) was) in
    all_put (set (model_tests m) 2 (sums && bytes_or_unset_ok (min r.mininflight inflight) && leb r.lost m.totals.lost && leb r.delivered m.totals.acked)) 10 (moment_ok now) (all_put (model_tests m) 2 (sums && bytes_or_unset_ok (min r.mininflight inflight) && leb r.lost m.totals.lost && leb r.delivered m.totals.acked) h round) t

pub reached_kept : (m : NetworkModel) → model_ok m ≡ true → model_ok (reached_next m) ≡ true
unfolding model_tests reached_next with_growth
reached_kept m h = h

pub pacing_kept : (m : NetworkModel) (g : Float) → model_ok m ≡ true → gain_ok g ≡ true → model_ok (pacing_next m g) ≡ true
unfolding model_tests pacing_next with_gains
pacing_kept m g h k = all_put (model_tests m) 6 (gain_ok m.gains.cwnd && gain_ok g) h (and_both (gain_ok m.gains.cwnd) (gain_ok g) (and_left (gain_ok m.gains.cwnd) (gain_ok m.gains.pacing) (all_at (model_tests m) 6 h)) k)

pub cwnd_kept : (m : NetworkModel) (g : Float) → model_ok m ≡ true → gain_ok g ≡ true → model_ok (cwnd_next m g) ≡ true
unfolding model_tests cwnd_next with_gains
cwnd_kept m g h k = all_put (model_tests m) 6 (gain_ok g && gain_ok m.gains.pacing) h (and_both (gain_ok g) (gain_ok m.gains.pacing) k (and_right (gain_ok m.gains.cwnd) (gain_ok m.gains.pacing) (all_at (model_tests m) 6 h)))

pub high_kept : (m : NetworkModel) (n : ℕ) → model_ok m ≡ true → bytes_or_unset_ok n ≡ true → model_ok (with_high m n) ≡ true
unfolding model_tests with_high
high_kept m n h k = all_put (model_tests m) 5 (bytes_or_unset_ok n) h k

pub postpone_kept : (m : NetworkModel) (d : Duration) → postpone_number m d ≡ 0 → model_ok (postpone_next m d) ≡ true
unfolding model_tests postpone_number postpone_next with_minrtt
postpone_kept m d done =
    let h = given_stored m (length_ok d && moment_ok (postponed m d)) done in
    let k = and_right (length_ok d) (moment_ok (postponed m d)) (given_fine m (length_ok d && moment_ok (postponed m d)) done) in
    all_put (model_tests m) 1 (length_ok m.minrtt.rtt && moment_ok (postponed m d)) h (and_both (length_ok m.minrtt.rtt) (moment_ok (postponed m d)) (and_left (length_ok m.minrtt.rtt) (moment_ok m.minrtt.timestamp) (all_at (model_tests m) 1 h)) k)
