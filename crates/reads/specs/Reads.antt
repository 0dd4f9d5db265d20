-- What the calls that only answer make of the stored numbers: network_model.rs. The other reads answer one number as it
-- is stored, and the products are `bdp_of` (crates/state/specs/NetworkModel.antt).
use Rattle.std.specs.Prelude.{ℕ, ◌-◌, Float, Option, None, Some}
use Rattle.units.specs.declared.bandwidth.Bandwidth.{Bandwidth}
use Rattle.units.specs.Bandwidth.{smaller_of}
use Rattle.numbers.specs.Scaling.{scaled}

-- bandwidth_estimate: the smaller of bandwidth_lo, if it is set, and the maximum
abbrev pub estimate_of : Option Bandwidth → Bandwidth → Bandwidth
estimate_of None most = most
estimate_of (Some lo) most = smaller_of lo most

-- inflight_hi_with_headroom: the difference saturates, as ℕ's does
unfoldable pub headroom_of : ℕ → Float → ℕ
headroom_of high headroom = high - scaled high headroom
