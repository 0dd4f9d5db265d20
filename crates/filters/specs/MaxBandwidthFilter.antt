-- The max bandwidth filter: document 01, "Filters and rounds"; network_model.rs, MaxBandwidthFilter.
use Rattle.std.specs.Prelude.{cond, eqb}
use Rattle.units.specs.declared.bandwidth.Bandwidth.{Bandwidth}
use Rattle.filters.specs.declared.max_bandwidth_filter.MaxBandwidthFilter.{MaxBandwidthFilter}
use Rattle.units.specs.Bandwidth.{larger_of}

-- both slots are zero: network_model.rs, BBRv2NetworkModel::new
abbrev pub max_new : MaxBandwidthFilter
max_new = record { slot0 = record { 0 = 0 }; slot1 = record { 0 = 0 } }

-- the larger of two slots: get
unfoldable pub max_get : MaxBandwidthFilter → Bandwidth
max_get f = larger_of f.slot0 f.slot1

-- "update raises slot 1": update
unfoldable pub max_update : MaxBandwidthFilter → Bandwidth → MaxBandwidthFilter
max_update f s = record { slot0 = f.slot0; slot1 = larger_of f.slot1 s }

-- "advance does nothing if slot 1 is zero, else moves it to slot 0 and zeroes it": advance
unfoldable pub max_advance : MaxBandwidthFilter → MaxBandwidthFilter
max_advance f = cond (eqb f.slot1.0 0) f (record { slot0 = f.slot1; slot1 = record { 0 = 0 } })
