-- The faults of a call are there exactly where its row 2 holds: list by list. Laws over plain variables. Assumes nothing.
use Prim.Native.Nat.{ℕ, zero, suc, ◌+◌, ◌*◌}
use mathlib.Core.Bool.{Bool, true, false, cond, ◌&&◌}
use mathlib.Core.List.{List, [], ◌∷◌}
use mathlib.Core.Path.{◌≡◌, refl, sym, ap, ◌∙◌}
use native.Mathlib.Omega.{arith}
use lib.Dec.{eqb}
use lib.Ieee.{Float}
use borrow.Author.Tests.{ne_eqb}
use Rattle.units.specs.declared.bandwidth.Bandwidth.{Bandwidth}
use Rattle.units.specs.declared.time.Duration.{Duration}
use Rattle.units.specs.declared.time.Moment.{Moment}
use Rattle.state.specs.Bounds.{bytes_ok, bytes_or_unset_ok, total_ok, moment_ok, length_ok, bandwidth_ok, maybe_ok, gain_ok, all_from, all}
use Rattle.state.specs.CongestionEvent.{maybe_length_ok, event_tests, event_ok, sample_tests, sample_ok}
use Rattle.state.specs.Cycle.{rounds_ok}
use Rattle.state.specs.declared.congestion_event.CongestionEvent.{CongestionEvent}
use Rattle.state.specs.declared.congestion_event.CongestionEventSample.{CongestionEventSample}
use Rattle.state.proofs.Rows.{and_left, and_right}
use Rattle.state.specs.Faults.{unless, first, record_faults, whole_record, sample_faults, whole_sample, start_faults, sent_faults, started_faults, gain_faults, bdp_faults, bdp1_faults, limit_faults, postpone_faults, down_faults, now_faults, refill_faults, up_faults, slope_faults}

-- ---- tests with the places and kinds of their faults
abbrev pub Test : Type 0
Test = Bool × (ℕ × ℕ)

-- kinds are counted from 1
unfoldable pub faults_from : List Test → List ℕ
faults_from [] = []
faults_from (t ∷ tests) = unless t.0 t.1.0 (suc t.1.1) ∷ faults_from tests

unfoldable pub every : List Test → Bool
every [] = true
every (t ∷ tests) = t.0 && every tests

-- of one fault after others
pub more : (f : ℕ) (l : List ℕ) → eqb (first (f ∷ l)) 0 ≡ (eqb f 0 && eqb (first l) 0)
unfolding first
more f l = go (eqb f 0) refl
  where
    go : (t : Bool) → eqb f 0 ≡ t → eqb (cond t (first l) f) 0 ≡ (t && eqb (first l) 0)
    go true e = refl
    go false e = e

at_fault : (t : Bool) (p k : ℕ) → eqb (unless t p (suc k)) 0 ≡ t
at_fault true p k = refl
at_fault false p k = ne_eqb (suc k + 256 * p) 0 (λ e. omega (arith, e))

pub complete : (tests : List Test) → eqb (first (faults_from tests)) 0 ≡ every tests
unfolding first faults_from every
complete [] = refl
complete (t ∷ tests) =
    more (unless t.0 t.1.0 (suc t.1.1)) (faults_from tests)
    ∙ ap (λ (b : Bool). b && eqb (first (faults_from tests)) 0) (at_fault t.0 t.1.0 t.1.1)
    ∙ ap (λ (b : Bool). t.0 && b) (complete tests)

-- where every test holds, each does
unfoldable pub test_at : List Test → ℕ → Bool
test_at [] i = true
test_at (t ∷ tests) zero = t.0
test_at (t ∷ tests) (suc i) = test_at tests i

pub every_at : (tests : List Test) (i : ℕ) → every tests ≡ true → test_at tests i ≡ true
unfolding every test_at
every_at [] i h = refl
every_at (t ∷ tests) zero h = and_left t.0 (every tests) h
every_at (t ∷ tests) (suc i) h = every_at tests i (and_right t.0 (every tests) h)

-- two tests of which each holds where the other does
pub same_test : (a b : Bool) → (a ≡ true → b ≡ true) → (b ≡ true → a ≡ true) → a ≡ b
same_test true true p q = refl
same_test true false p q = sym (p refl)
same_test false true p q = q refl
same_test false false p q = refl

-- ---- tests one after the other, and all of them
pub and_one : (a : Bool) → (a && true) ≡ a
and_one true = refl
and_one false = refl

pub and_two : (a b : Bool) → (a && (b && true)) ≡ (a && b)
and_two true b = and_one b
and_two false b = refl

pub and_three : (a b c : Bool) → (a && (b && (c && true))) ≡ (a && b && c)
and_three true b c = and_two b c
and_three false b c = refl

swapped : (a b : Bool) → (a && (b && true)) ≡ (b && a)
swapped true true = refl
swapped true false = refl
swapped false true = refl
swapped false false = refl

in_row : (t b c : Bool) → (t && b && c) ≡ (t && (b && c))
in_row true b c = refl
in_row false b c = refl

unfoldable pub all_right : List Bool → Bool
all_right [] = true
all_right (t ∷ l) = t && all_right l

from_right : (t : Bool) (l : List Bool) → all_from t l ≡ (t && all_right l)
unfolding all_right
from_right t [] = sym (and_one t)
from_right t (b ∷ l) = from_right (t && b) l ∙ in_row t b (all_right l)

pub all_right_lem : (l : List Bool) → all l ≡ all_right l
all_right_lem l = from_right true l

-- the last two tests as one
module _ (x y : Bool) where
  last_two : (x && (y && true)) ≡ ((x && y) && true)
  last_two = sym (in_row x y true)

-- ---- the lists of calls that are given values
pub start_complete : (rtt : Duration) (now : Moment) → eqb (first (start_faults rtt now)) 0 ≡ (length_ok rtt && moment_ok now)
unfolding start_faults faults_from every
start_complete rtt now = complete ((length_ok rtt, (1, 3)) ∷ (moment_ok now, (2, 8)) ∷ []) ∙ and_two (length_ok rtt) (moment_ok now)

pub sent_complete : (now : Moment) (inflight bytes : ℕ) → eqb (first (sent_faults now inflight bytes)) 0 ≡ (moment_ok now && bytes_ok inflight && bytes_ok bytes)
unfolding sent_faults faults_from every
sent_complete now inflight bytes = complete ((moment_ok now, (1, 8)) ∷ (bytes_ok inflight, (2, 1)) ∷ (bytes_ok bytes, (4, 1)) ∷ []) ∙ and_three (moment_ok now) (bytes_ok inflight) (bytes_ok bytes)

pub record_complete : (place : ℕ) (e : CongestionEvent) → eqb (first (record_faults place whole_record e)) 0 ≡ event_ok e
unfolding record_faults event_tests faults_from every all_right
record_complete p e =
    complete
    ((moment_ok e.time, (p, 8))
    ∷ (bytes_ok e.window, (p, 0))
    ∷ (bytes_ok e.prior, (p, 1))
    ∷ (bytes_ok e.inflight, (p, 1))
    ∷ (total_ok e.acked, (p, 4))
    ∷ (total_ok e.lost, (p, 4))
    ∷ (true, (p, 7))
    ∷ (true, (p, 7))
    ∷ (true, (p, 7))
    ∷ (maybe_ok e.bandwidth, (p, 2))
    ∷ (true, (p, 7))
    ∷ (maybe_length_ok e.rtt, (p, 3))
    ∷ (true, (p, 7))
    ∷ (true, (p, 7))
    ∷ (total_ok e.state.acked, (p, 4))
    ∷ (bytes_ok e.state.inflight, (p, 1))
    ∷ [])
    ∙ rw (last_two (total_ok e.state.acked) (bytes_ok e.state.inflight)) (sym (all_right_lem (event_tests e)))

pub sample_complete : (s : CongestionEventSample) → eqb (first (sample_faults whole_sample s)) 0 ≡ sample_ok s
unfolding sample_faults sample_tests faults_from every all_right
sample_complete s =
    complete
    ((true, (3, 7))
    ∷ (maybe_ok s.bandwidth, (3, 2))
    ∷ (true, (3, 7))
    ∷ (maybe_ok s.send, (3, 2))
    ∷ (true, (3, 7))
    ∷ (maybe_ok s.ack, (3, 2))
    ∷ (true, (3, 7))
    ∷ (true, (3, 7))
    ∷ (maybe_length_ok s.rtt, (3, 3))
    ∷ (bytes_ok s.inflight, (3, 1))
    ∷ (bytes_ok s.extra, (3, 1))
    ∷ (true, (3, 7))
    ∷ (true, (3, 7))
    ∷ (total_ok s.state.acked, (3, 4))
    ∷ (bytes_ok s.state.inflight, (3, 1))
    ∷ (total_ok s.totals.acked, (3, 4))
    ∷ (total_ok s.totals.lost, (3, 4))
    ∷ [])
    ∙ rw (last_two (total_ok s.totals.acked) (total_ok s.totals.lost), sym (in_row (total_ok s.state.acked) (bytes_ok s.state.inflight) ((total_ok s.totals.acked && total_ok s.totals.lost) && true)))
    (sym (all_right_lem (sample_tests s)))

pub started_complete : (e : CongestionEvent) (s : CongestionEventSample) → eqb (first (started_faults true whole_record e whole_sample s)) 0 ≡ (event_ok e && sample_ok s)
unfolding started_faults first
started_complete e s =
    more (first (record_faults 2 whole_record e)) (first (sample_faults whole_sample s) ∷ [])
    ∙ ap (λ (b : Bool). b && eqb (first (first (sample_faults whole_sample s) ∷ [])) 0) (record_complete 2 e)
    ∙ ap (λ (b : Bool). event_ok e && b) (more (first (sample_faults whole_sample s)) [] ∙ and_one (eqb (first (sample_faults whole_sample s)) 0) ∙ sample_complete s)

pub gain_complete : (gain : Float) → eqb (first (gain_faults true gain)) 0 ≡ gain_ok gain
unfolding gain_faults faults_from every
gain_complete gain = complete ((true, (1, 7)) ∷ (gain_ok gain, (1, 6)) ∷ []) ∙ and_one (gain_ok gain)

pub bdp_complete : (b : Bandwidth) (gain : Float) → eqb (first (bdp_faults b true gain)) 0 ≡ (bandwidth_ok b && gain_ok gain)
unfolding bdp_faults faults_from every
bdp_complete b gain = complete ((bandwidth_ok b, (1, 2)) ∷ (true, (2, 7)) ∷ (gain_ok gain, (2, 6)) ∷ []) ∙ and_two (bandwidth_ok b) (gain_ok gain)

pub bdp1_complete : (b : Bandwidth) → eqb (first (bdp1_faults b)) 0 ≡ bandwidth_ok b
unfolding bdp1_faults faults_from every
bdp1_complete b = complete ((bandwidth_ok b, (1, 2)) ∷ []) ∙ and_one (bandwidth_ok b)

pub limit_complete : (bytes : ℕ) → eqb (first (limit_faults bytes)) 0 ≡ bytes_or_unset_ok bytes
unfolding limit_faults faults_from every
limit_complete bytes = complete ((bytes_or_unset_ok bytes, (1, 1)) ∷ []) ∙ and_one (bytes_or_unset_ok bytes)

pub postpone_complete : (d : Duration) (t : Moment) → eqb (first (postpone_faults d t)) 0 ≡ (length_ok d && moment_ok t)
unfolding postpone_faults faults_from every
postpone_complete d t = complete ((length_ok d, (1, 3)) ∷ (moment_ok t, (1, 8)) ∷ []) ∙ and_two (length_ok d) (moment_ok t)

pub down_complete : (now : Moment) → eqb (first (down_faults true true now)) 0 ≡ (moment_ok now && true)
unfolding down_faults faults_from every
down_complete now = complete ((true, (1, 7)) ∷ (true, (2, 7)) ∷ (moment_ok now, (3, 8)) ∷ [])

pub now_complete : (now : Moment) → eqb (first (now_faults now)) 0 ≡ moment_ok now
unfolding now_faults faults_from every
now_complete now = complete ((moment_ok now, (1, 8)) ∷ []) ∙ and_one (moment_ok now)

pub cruise_complete : (now : Moment) → eqb (first (now_faults now)) 0 ≡ (moment_ok now && true)
cruise_complete now = now_complete now ∙ sym (and_one (moment_ok now))

pub refill_complete : (rounds : ℕ) (now : Moment) → eqb (first (refill_faults rounds now)) 0 ≡ (moment_ok now && rounds_ok rounds)
unfolding refill_faults faults_from every
refill_complete rounds now = complete ((rounds_ok rounds, (1, 5)) ∷ (moment_ok now, (2, 8)) ∷ []) ∙ swapped (rounds_ok rounds) (moment_ok now)

pub up_complete : (now : Moment) (window : ℕ) → eqb (first (up_faults now window)) 0 ≡ (moment_ok now && bytes_ok window)
unfolding up_faults faults_from every
up_complete now window = complete ((moment_ok now, (1, 8)) ∷ (bytes_ok window, (2, 0)) ∷ []) ∙ and_two (moment_ok now) (bytes_ok window)

pub slope_complete : (window : ℕ) → eqb (first (slope_faults window)) 0 ≡ bytes_ok window
unfolding slope_faults faults_from every
slope_complete window = complete ((bytes_ok window, (1, 0)) ∷ []) ∙ and_one (bytes_ok window)
