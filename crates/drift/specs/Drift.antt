-- How far inflight_lo and bandwidth_lo can have moved. Statements only; proofs/ proves them.
--
-- In words. beta is the share that a loss takes off, b the float 1 - beta: a reduction multiplies a lower bound by b
-- and rounds. The exact value x comes of the same rules on exact fractions (Exact.antt), in the same run, and k counts
-- the reductions since it was last unset. Start a model, whether the start is refused or not, beside any cycle. Make
-- any calls, in any order; a refused one counts as not made. Let every accepted event have this beta and, for
-- inflight_lo, a window and an inflight sample of at most 2^24 bytes. Then inflight_lo is unset exactly where x is.
-- Where it is set,
--     |inflight_lo - x| < k    and    |inflight_lo - x| < 1 / (1 - b).
-- bandwidth_lo has the same with 4097 / 8192 = 1/2 + 2^-13 in place of 1, for all windows and samples.
--
-- In symbols. `ℕ` is the whole numbers from 0, and `a - b` of them is 0 where b is larger. `f x y` is f of x and y:
-- arguments have no brackets around them. `x : A` says that x is of the kind A. `(x : A) → B` reads "for every x of
-- the kind A, B", and `A → B` "if A, then B"; between kinds of values it is a function from A to B. `A × B` is "A and
-- B", `a ≡ b` "a equals b", `⊥` "never", `Unit` "nothing is asked". `T t` says that the test t gives true; `eqb a b` is
-- the test whether a equals b. `cond t a b` is a where t is true, and b elsewhere. `x.f` is the field f of x. `λ x. A`
-- is A as a function of x. `let x = a in B` is B, in which x stands for a. `Type 0` is the kind of statements. `[]` is
-- the empty list, `c ∷ calls` a list whose first is c. `fits binary32 x` tests whether x is an f32, `of_bits` reads one
-- from its bits, and `HasValue x false a c` says that x is finite, not negative, and a / c in size. `unfoldable`,
-- `abbrev` and `pub` say who may look inside a name, and add nothing to what it means.
--
-- In numbers. inflight_lo is unset, the window is 1300 bytes, and every round has a loss. At beta 0.3 b is
-- 11744051 / 2^24. After k reductions the exact value is 1300 b^k = num / 2^(24 k), with num = 1300 * 11744051^k:
--
--     k   stored                         num   num / 2^(24 k)   stored - exact
--     1      910                 15267266300   909.99998450..    0.00001549..
--     2      637          179299554057781300   636.99997830..    0.00002169..
--     3      445   2105703107131840534046300   445.89997721..   -0.89997721..
--
-- After the third, `Follows 1 1 11744051 (Some 445) (over num 72 3)` is `Near 1 1 11744051 445 num 72 3`. Its
-- `counted` is 0 < 3. Its `by_count` is 0.89997.. < 3 * 1 / 1, multiplied by 2^72: |445 * 2^72 - num| < 3 * 2^72, which
-- is 4250022254848413951580 < 14167099448608935641088. Its `by_rate` is 0.89997.. < 1 / (1 - b) = 3.33333..: with
-- 1 - b = 5033165 / 2^24, both sides multiplied by 2^72 * 5033165. `Under 334 (Some 445) (over num 72 3)` is
-- 0.89997.. < 3.34. The runs and these statements are computed in Examples.antt (`drift_examples`, `EpisodeFollows`).
use Rattle.std.specs.Prelude.{ℕ, ◌+◌, ◌-◌, ◌*◌, ◌^◌, ◌≤◌, ◌<◌, cond, true, false, List, [], ◌∷◌, ◌≡◌, T, eqb, Float, Option, None, Some}
use Rattle.units.specs.declared.bandwidth.Bandwidth.{Bandwidth}
use Rattle.std.specs.Float.{binary32}
use Rattle.std.specs.Float.Ieee.{of_bits, fits}
use Rattle.std.specs.Float.Ieee.Exact.{HasValue}
use Rattle.numbers.specs.Scaling.{complement, parts_of}
use Rattle.units.specs.declared.time.Duration.{Duration}
use Rattle.units.specs.declared.time.Moment.{Moment}
use Rattle.state.specs.declared.params.Params.{Params}
use Rattle.state.specs.Params.{beta_ok}
use Rattle.state.specs.declared.congestion_event.CongestionEvent.{CongestionEvent}
use Rattle.state.specs.declared.congestion_event.CongestionEventSample.{CongestionEventSample}
use Rattle.state.specs.declared.cycle.Cycle.{Cycle}
use Rattle.drift.specs.Calls as Calls
use Rattle.drift.specs.Calls.{Call, State, number_of, after, run, started}
use Rattle.drift.specs.Exact.{Effect, Exact, unset, over, inflight_effect, bandwidth_effect, exact_run}

-- ---- a lower bound as it is stored: unset, or a number. inflight_lo is unset where it is 2^64 - 1
unfoldable pub inflight_low : State → Option ℕ
inflight_low s = let n = s.model.lower.inflight in cond (eqb n (2 ^ 64 - 1)) None (Some n)

abbrev pub low_of : Option Bandwidth → Option ℕ
low_of None = None
low_of (Some b) = Some b.0

unfoldable pub bandwidth_low : State → Option ℕ
bandwidth_low s = low_of s.model.lower.bandwidth

-- ---- how near it is. All is multiplied out, so that every number is whole
-- |n - num / 2^exponent| < times * u / v, multiplied by 2^exponent and by v
pub record Nearer (n num exponent times u v : ℕ) : Type 0 where
  pub not_over : n * 2 ^ exponent * v < num * v + times * u * 2 ^ exponent
  pub not_short : num * v < n * 2 ^ exponent * v + times * u * 2 ^ exponent

-- n is stored, num / 2^exponent is exact, and k reductions were made by b = parts / 2^24, each off by less than u / v
pub record Near (u v parts n num exponent k : ℕ) : Type 0 where
  pub counted : 0 < k
  -- |n - exact| < k * u / v
  pub by_count : Nearer n num exponent k u v
  -- |n - exact| < (u / v) / (1 - b), where 1 - b is (2^24 - parts) / 2^24
  pub by_rate : Nearer n num exponent (2 ^ 24) u (v * (2 ^ 24 - parts))

-- the stored one is set exactly where the exact one is, and then near it
abbrev pub Follows : (u v parts : ℕ) → Option ℕ → Exact → Type 0
Follows u v parts None unset = Unit {0}
Follows u v parts None (over num exponent k) = ⊥
Follows u v parts (Some n) unset = ⊥
Follows u v parts (Some n) (over num exponent k) = Near u v parts n num exponent k

-- ---- the runs: P holds of every call that is done
abbrev pub Along : (Call → Type 0) → List Call → State → Type 0
Along P [] s = Unit {0}
Along P (c ∷ calls) s = (number_of c s ≡ 0 → P c) × Along P calls (after c s)

-- Q of the event that a call carries
abbrev pub OfEvent : (Params → CongestionEvent → CongestionEventSample → Type 0) → Call → Type 0
OfEvent Q (Calls.event p e y acked) = Q p e y
OfEvent Q (Calls.cap bytes) = Unit {0}
OfEvent Q Calls.clear_inflight = Unit {0}
OfEvent Q Calls.clear_bandwidth = Unit {0}
OfEvent Q (Calls.cruise now) = Unit {0}
OfEvent Q (Calls.refill rounds now) = Unit {0}
OfEvent Q (Calls.other c) = Unit {0}

-- beta is fixed
abbrev pub HasBeta : Float → Call → Type 0
HasBeta beta = OfEvent (λ p e y. p.beta ≡ beta)

-- windows and inflight samples are at most 16,777,216 bytes
abbrev pub IsSmall : Call → Type 0
IsSmall = OfEvent (λ p e y. (e.window ≤ 2 ^ 24) × (y.inflight ≤ 2 ^ 24))

abbrev pub IsAny : Call → Type 0
IsAny c = Unit {0}

-- an f32 that document 01 allows as beta: "beta from 1/1024 to 1023/1024"
pub record IsBeta (beta : Float) : Type 0 where
  pub format : T (fits binary32 beta)
  pub range : beta_ok beta ≡ true

-- ---- the theorem: b is exactly parts / 2^24, and after any list of calls from a fresh model, beside any cycle y, the
-- number follows its exact run. u / v bounds what one reduction is off, `effect` is what a call does to the number,
-- `low` the number as it is stored, P what is asked of every accepted event besides beta
abbrev pub Drift : (u v : ℕ) → (Call → State → Effect) → (State → Option ℕ) → (Call → Type 0) → Type 0
Drift u v effect low P =
    (beta : Float) → IsBeta beta →
    let parts = parts_of (complement beta) in
    HasValue (complement beta) false parts (2 ^ 24)
    × ((p : Params) (rtt : Duration) (now : Moment) (y : Cycle) (calls : List Call) →
    let s = started p rtt now y in
    Along (HasBeta beta) calls s →
    Along P calls s →
    Follows u v parts (low (run calls s)) (exact_run effect parts calls s unset))

-- inflight_lo: less than k bytes, and less than 1 / (1 - b) bytes
abbrev pub InflightDrift : Type 0
InflightDrift = Drift 1 1 inflight_effect inflight_low IsSmall

-- bandwidth_lo: with 4097 / 8192 bits per second for each reduction
abbrev pub BandwidthDrift : Type 0
BandwidthDrift = Drift 4097 8192 bandwidth_effect bandwidth_low IsAny

-- ---- at beta 0.3, the f32 with the bits 3E99999A, b is 11744051 / 2^24
abbrev pub usual_beta : Float
usual_beta = of_bits binary32 0x3e99_999a

abbrev pub usual_parts : ℕ
usual_parts = 11744051

-- the stored one differs from the exact one by less than so many hundredths
abbrev pub Under : (hundredths : ℕ) → Option ℕ → Exact → Type 0
Under h None unset = Unit {0}
Under h None (over num exponent k) = ⊥
Under h (Some n) unset = ⊥
Under h (Some n) (over num exponent k) = Nearer n num exponent h 1 100

abbrev pub UsualDrift : (hundredths : ℕ) → (Call → State → Effect) → (State → Option ℕ) → (Call → Type 0) → Type 0
UsualDrift h effect low P =
    (p : Params) (rtt : Duration) (now : Moment) (y : Cycle) (calls : List Call) →
    let s = started p rtt now y in
    Along (HasBeta usual_beta) calls s →
    Along P calls s →
    Under h (low (run calls s)) (exact_run effect usual_parts calls s unset)

-- under 3.34 bytes
abbrev pub UsualInflightDrift : Type 0
UsualInflightDrift = UsualDrift 334 inflight_effect inflight_low IsSmall

-- under 1.67 bits per second
abbrev pub UsualBandwidthDrift : Type 0
UsualBandwidthDrift = UsualDrift 167 bandwidth_effect bandwidth_low IsAny
