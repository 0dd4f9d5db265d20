-- The min RTT filter: document 01, "Filters and rounds"; network_model.rs, MinRttFilter.
use Rattle.std.specs.Prelude.{cond, ltb}
use Rattle.filters.specs.declared.min_rtt_filter.MinRttFilter.{MinRttFilter}
use Rattle.units.specs.declared.time.Duration.{Duration}
use Rattle.units.specs.declared.time.Moment.{Moment}

-- a round trip with its moment: BBRv2NetworkModel::new, and force_update
abbrev pub min_force : Duration → Moment → MinRttFilter
min_force s t = record { rtt = s; timestamp = t }

-- "replaced only by a strictly smaller sample, with its moment": update
unfoldable pub min_update : MinRttFilter → Duration → Moment → MinRttFilter
min_update f s t = cond (ltb s.0 f.rtt.0) (min_force s t) f
