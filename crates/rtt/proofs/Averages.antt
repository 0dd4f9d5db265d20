-- One sample on the stored averages and on the exact ones, over plain numbers. d is 8^past, f is 7^past. Assumes nothing.
use Prim.Native.Nat.{ℕ, ◌+◌, ◌-◌, ◌*◌, ◌≤◌, ◌<◌}
use mathlib.Core.Path.{◌≡◌, ap₂, ◌∙◌}
use native.Mathlib.Nat.{add-mul, mul_comm, mul-sub, mul-le-mul_right}
use native.Mathlib.Omega.{arith}
use Rattle.rtt.specs.Rtt.{distance, smoothed_after, variation_after}

-- ---- what the divisions cut off
smoothed_up : (s a : ℕ) → 8 * smoothed_after s a ≤ 7 * s + a
smoothed_up s a = omega arith

smoothed_down : (s a : ℕ) → 7 * s + a ≤ 8 * smoothed_after s a + 14
smoothed_down s a = omega arith

variation_up : (v s a : ℕ) → 4 * variation_after v s a ≤ 3 * v + distance s a
variation_up v s a = omega arith

variation_down : (v s a : ℕ) → 3 * v + distance s a ≤ 4 * variation_after v s a + 6
variation_down v s a = omega arith

-- ---- the distance, multiplied
less_times : (a b d : ℕ) → (a - b) * d ≡ a * d - b * d
less_times a b d = mul_comm (a - b) d ∙ mul-sub d a b ∙ ap₂ (λ (x y : ℕ). x - y) (mul_comm d a) (mul_comm d b)

distance_times : (s a d : ℕ) → distance s a * d ≡ distance (s * d) (a * d)
distance_times s a d = add-mul (s - a) (a - s) d ∙ ap₂ (λ (x y : ℕ). x + y) (less_times s a d) (less_times a s d)

module _ (s a sum d : ℕ) (not_above : s * d ≤ sum) where
  -- ---- the smoothed value
  pub still_not_above : smoothed_after s a * (8 * d) ≤ 7 * sum + a * d
  still_not_above = omega (arith, not_above, mul-le-mul_right d (smoothed_up s a))

  pub still_below : (f : ℕ) → sum + 14 * f ≤ (s + 14) * d → 7 * sum + a * d + 14 * (7 * f) ≤ (smoothed_after s a + 14) * (8 * d)
  still_below f h = omega (arith, h, mul-le-mul_right d (smoothed_down s a))

  -- ---- the variation: the exact distance is off by less than 14 d
  module _ (v spread : ℕ) (under : sum < (s + 14) * d) where
    pub above_on : v * (2 * d) < spread + 14 * (2 * d) → variation_after v s a * (2 * (8 * d)) < 6 * spread + 4 * distance sum (a * d) + 14 * (2 * (8 * d))
    above_on h =
        let times = distance_times s a d in
        let near : distance (s * d) (a * d) ≤ distance sum (a * d) + 14 * d = omega (arith, under, not_above) in
        omega (arith, h, times, near, mul-le-mul_right d (variation_up v s a))

    pub below_on : spread < (v + 20) * (2 * d) → 6 * spread + 4 * distance sum (a * d) < (variation_after v s a + 20) * (2 * (8 * d))
    below_on h =
        let times = distance_times s a d in
        let near : distance sum (a * d) ≤ distance (s * d) (a * d) + 14 * d = omega (arith, under, not_above) in
        omega (arith, h, times, near, mul-le-mul_right d (variation_down v s a))

-- ---- no average passes a bound that neither it nor the sample passes
pub smoothed_within : (s a m : ℕ) → s ≤ m → a ≤ m → smoothed_after s a ≤ m
smoothed_within s a m p q = omega (arith, p, q)

pub variation_within : (v s a m : ℕ) → v ≤ m → s ≤ m → a ≤ m → variation_after v s a ≤ m
variation_within v s a m p q r = omega (arith, p, q, r)
