-- The lesser of two lengths, and a delay that is taken, are no longer than what they are made from. Assumes nothing.
use Prim.Native.Nat.{◌^◌, ◌≤◌}
use mathlib.Core.Bool.{Bool, true, false, cond}
use mathlib.Core.Path.{◌≡◌}
use native.Mathlib.Omega.{arith}
use Rattle.units.specs.declared.time.Duration.{Duration}
use Rattle.rtt.specs.Rtt.{lesser, delay_taken}

pub lesser_most : (a b r : Duration) → r ≡ lesser a b → a.0 ≤ 2 ^ 36 → r.0 ≤ 2 ^ 36
lesser_most a b r e h = rw e (omega (arith, h))

pub taken_most : (limit delay r : Duration) (c : Bool) → r ≡ delay_taken limit delay c → delay.0 ≤ 2 ^ 36 → r.0 ≤ 2 ^ 36
unfolding delay_taken
taken_most limit delay r c e h = rw e (go c)
  where
    go : (t : Bool) → (cond t (lesser delay limit) delay).0 ≤ 2 ^ 36
    go true = omega (arith, h)
    go false = h
