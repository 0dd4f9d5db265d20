-- What private functions answer on the way. These definitions follow the code: no public contract and no theorem cites
-- them, so that a reader need not believe them. They stand under specs/ because a contract may cite nothing else.
use Rattle.std.specs.Prelude.{◌≡◌, ℕ, ◌-◌, ◌/◌, ◌^◌, ◌<◌, ◌≤◌, ◌⊎◌}

-- n without its lowest k digits has at most p, and exactly p unless k is 0
abbrev pub Cut : ℕ → ℕ → ℕ → Type 0
Cut p n k = (n / 2 ^ k < 2 ^ p) × ((k ≡ 0) ⊎ (2 ^ (p - 1) ≤ n / 2 ^ k))

-- int_to_float.rt, `spare_digits`: k is how many digits an n of 64 has beyond p
pub record Spare (p n k : ℕ) : Type 0 where
  pub cut : Cut p n k
  pub few : k ≤ 64 - p
