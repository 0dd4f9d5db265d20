-- The estimator worked out: by computing. Assumes nothing.
use Prim.Native.Nat.{min, ◌+◌, ◌-◌}
use mathlib.Core.Bool.{Bool, true, false, cond, true≢false}
use mathlib.Core.Path.{◌≡◌, refl, sym, ap}
use native.Mathlib.Omega.{arith}
use lib.Dec.{leb}
use borrow.Author.Tests.{leb-true, leb-false, lt-ltb, ltb-true}
use Rattle.units.specs.declared.time.Duration.{Duration}
use Rattle.numbers.specs.Examples.{all}
use Rattle.state.specs.Answers.{settled}
use Rattle.state.specs.Faults.{first}
use Rattle.state.specs.Refusals.{row_of}
use Rattle.rtt.specs.Rtt.{stats_tests, given_number, new_faults, new_number, stats_new, new_left, update_faults, update_number, first_sample, lesser, delay_taken, plausible, adjusted, later_sample, update_next, update_left, delay_number, minimum_shown}
use Rattle.rtt.specs.Exact.{taken_by}
use Rattle.rtt.specs.Examples.{ns, rtt_examples, low_smoothed, low_variation, high_variation, Worked}

pub rtt_examples_lem : all rtt_examples ≡ true
unfolding all rtt_examples settled first row_of stats_tests given_number new_faults new_number stats_new new_left update_faults update_number first_sample delay_taken plausible adjusted later_sample update_next update_left delay_number minimum_shown taken_by
rtt_examples_lem = refl

-- where the sample is below the minimum nothing is taken off, or 0 is
late : (minimum latest taken : Duration) → plausible (lesser minimum latest) latest taken ≡ plausible minimum latest taken
unfolding plausible
late m l d = go (leb (min m.0 l.0 + d.0) l.0) (leb (m.0 + d.0) l.0) refl refl
  where
    off : Duration
    off = ns (l.0 - d.0)

    go : (x y : Bool) → leb (min m.0 l.0 + d.0) l.0 ≡ x → leb (m.0 + d.0) l.0 ≡ y → cond x off l ≡ cond y off l
    go true true e f = refl
    go false false e f = refl
    go true false e f = ap ns (omega (arith, leb-true (min m.0 l.0 + d.0) l.0 e, leb-false (m.0 + d.0) l.0 f))
    go false true e f = absurd (omega (arith, leb-false (min m.0 l.0 + d.0) l.0 e, leb-true (m.0 + d.0) l.0 f))

pub worked : Worked
unfolding settled row_of stats_tests given_number new_number stats_new new_left update_number first_sample delay_taken plausible adjusted later_sample update_next update_left taken_by
worked =
    record {
      late_minimum = late;
      smoothed = ltb-true _ _ refl;
      variation_below = ltb-true _ _ refl;
      variation_above = ltb-true _ _ refl;
      not_13_below = λ h. true≢false (sym (lt-ltb _ _ (h low_smoothed)));
      not_19_below = λ h. true≢false (sym (lt-ltb _ _ (h low_variation)));
      not_13_above = λ h. true≢false (sym (lt-ltb _ _ (h high_variation)));
    }
