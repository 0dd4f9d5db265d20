-- Any two replies that the contract of a public function allows coincide: a line for each, about what its contract says (`Reads.Learnt`).
use Prim.Native.Nat.{ℕ}
use mathlib.Core.List.{List}
use mathlib.Core.Path.{◌≡◌, refl, sym, ◌∙◌}
use lib.Dec.{eqb}
use Rattle.filters.specs.declared.windowed_filter.Reason.TheVariants.{Unchanged}
use Rattle.numbers.specs.OneReply.{OneReply, OneOutcome}
use Rattle.units.proofs.refusal.Number.{number_injective, no_argument}
use Rattle.filters.specs.declared.windowed_filter.Estimates.{Estimates}
use Rattle.filters.specs.declared.windowed_filter.Reason.{Reason}
use Rattle.filters.specs.declared.windowed_filter.Stepped.{Stepped}
use Rattle.filters.specs.declared.windowed_filter.WindowedFilter.{WindowedFilter}
use Rattle.filters.specs.declared.round_trip_counter.RoundTripCounter.{RoundTripCounter}
use mathlib.Core.Bool.{Bool, false}
use Rattle.filters.specs.RoundTripCounter.{listed, rounds_full, rounds_number}
use Rattle.filters.specs.WindowedFilter.{is_after, windowed_number}
use Rattle.filters.proofs.max_bandwidth_filter.MaxBandwidthFilter as max-bandwidth-filter-maxbandwidthfilter
use Rattle.filters.proofs.min_rtt_filter.MinRttFilter as min-rtt-filter-minrttfilter
use Rattle.filters.proofs.round_trip_counter.RoundTripCounter as round-trip-counter-roundtripcounter
use Rattle.filters.proofs.round_trip_counter.greatest_of as round-trip-counter-greatest-of
use Rattle.filters.proofs.windowed_filter.step as windowed-filter-step
use Rattle.filters.proofs.windowed_filter.Reason as windowed-filter-reason
use Rattle.filters.proofs.windowed_filter.WindowedFilter as windowed-filter-windowedfilter

pub stepped :
    {a a' : Estimates} {b b' : Reason} → a ≡ a' → b ≡ b' →
    ◌≡◌ {A = Stepped} (record { estimates = a; reason = b }) (record { estimates = a'; reason = b' })
stepped p q = cc

no_full : (c : RoundTripCounter) (acked : List ℕ) → eqb (rounds_number c acked) 2 ≡ false
unfolding rounds_number
no_full c acked = no_argument (rounds_full c acked) 5 refl

no_earlier : (f : WindowedFilter) (t : ℕ) → eqb (windowed_number f t) 2 ≡ false
unfolding windowed_number
no_earlier f t = no_argument (is_after f.held t) 3 refl

pub one_max_bandwidth_filter_maxbandwidthfilter_new : OneReply max-bandwidth-filter-maxbandwidthfilter.new.Reads.Learnt
one_max_bandwidth_filter_maxbandwidthfilter_new κ a x y s t p q = p ∙ sym q

pub one_max_bandwidth_filter_maxbandwidthfilter_get : OneReply max-bandwidth-filter-maxbandwidthfilter.get.Reads.Learnt
one_max_bandwidth_filter_maxbandwidthfilter_get κ a x y s t p q = p ∙ sym q

pub one_max_bandwidth_filter_maxbandwidthfilter_update : OneReply max-bandwidth-filter-maxbandwidthfilter.update.Reads.Learnt
one_max_bandwidth_filter_maxbandwidthfilter_update κ a x y s t p q = p ∙ sym q

pub one_max_bandwidth_filter_maxbandwidthfilter_advance : OneReply max-bandwidth-filter-maxbandwidthfilter.advance.Reads.Learnt
one_max_bandwidth_filter_maxbandwidthfilter_advance κ a x y s t p q = p ∙ sym q

pub one_min_rtt_filter_minrttfilter_new : OneReply min-rtt-filter-minrttfilter.new.Reads.Learnt
one_min_rtt_filter_minrttfilter_new κ a x y s t p q = p ∙ sym q

pub one_min_rtt_filter_minrttfilter_get : OneReply min-rtt-filter-minrttfilter.get.Reads.Learnt
one_min_rtt_filter_minrttfilter_get κ a x y s t p q = p ∙ sym q

pub one_min_rtt_filter_minrttfilter_get_timestamps : OneReply min-rtt-filter-minrttfilter.get_timestamps.Reads.Learnt
one_min_rtt_filter_minrttfilter_get_timestamps κ a x y s t p q = p ∙ sym q

pub one_min_rtt_filter_minrttfilter_update : OneReply min-rtt-filter-minrttfilter.update.Reads.Learnt
one_min_rtt_filter_minrttfilter_update κ a x y s t p q = p ∙ sym q

pub one_min_rtt_filter_minrttfilter_force_update : OneReply min-rtt-filter-minrttfilter.force_update.Reads.Learnt
one_min_rtt_filter_minrttfilter_force_update κ a x y s t p q = p ∙ sym q

pub one_round_trip_counter_roundtripcounter_new : OneReply round-trip-counter-roundtripcounter.new.Reads.Learnt
one_round_trip_counter_roundtripcounter_new κ a x y s t p q = p ∙ sym q

pub one_round_trip_counter_roundtripcounter_on_packet_sent : OneReply round-trip-counter-roundtripcounter.on_packet_sent.Reads.Learnt
one_round_trip_counter_roundtripcounter_on_packet_sent κ a x y s t p q = p ∙ sym q

pub one_round_trip_counter_roundtripcounter_on_packets_acked : OneOutcome round-trip-counter-roundtripcounter.on_packets_acked.Reads.Learnt (λ κ e. e.0.now)
one_round_trip_counter_roundtripcounter_on_packets_acked κ a x y s t p q = (number_injective x y false _ (no_full a.0.now a.1.0.now) p.0 q.0 (p.1.1 ∙ sym q.1.1), p.1.0 ∙ sym q.1.0)

pub one_round_trip_counter_roundtripcounter_on_greatest_acked : OneOutcome round-trip-counter-roundtripcounter.on_greatest_acked.Reads.Learnt (λ κ e. e.0.now)
one_round_trip_counter_roundtripcounter_on_greatest_acked κ a x y s t p q = (number_injective x y false _ (no_full a.0.now (listed a.1.0)) p.0 q.0 (p.1.1 ∙ sym q.1.1), p.1.0 ∙ sym q.1.0)

pub one_round_trip_counter_greatest_of : OneReply round-trip-counter-greatest-of.Reads.Learnt
one_round_trip_counter_greatest_of κ a x y s t p q = p ∙ sym q

pub one_round_trip_counter_roundtripcounter_restart_round : OneReply round-trip-counter-roundtripcounter.restart_round.Reads.Learnt
one_round_trip_counter_roundtripcounter_restart_round κ a x y s t p q = p ∙ sym q

pub one_windowed_filter_windowedfilter_new : OneReply windowed-filter-windowedfilter.new.Reads.Learnt
one_windowed_filter_windowedfilter_new κ a x y s t p q = p ∙ sym q

pub one_windowed_filter_windowedfilter_reset : OneReply windowed-filter-windowedfilter.reset.Reads.Learnt
one_windowed_filter_windowedfilter_reset κ a x y s t p q = p ∙ sym q

pub one_windowed_filter_windowedfilter_clear : OneReply windowed-filter-windowedfilter.clear.Reads.Learnt
one_windowed_filter_windowedfilter_clear κ a x y s t p q = p ∙ sym q

pub one_windowed_filter_windowedfilter_get_best : OneReply windowed-filter-windowedfilter.get_best.Reads.Learnt
one_windowed_filter_windowedfilter_get_best κ a x y s t p q = p ∙ sym q

pub one_windowed_filter_windowedfilter_get_second_best : OneReply windowed-filter-windowedfilter.get_second_best.Reads.Learnt
one_windowed_filter_windowedfilter_get_second_best κ a x y s t p q = p ∙ sym q

pub one_windowed_filter_windowedfilter_get_third_best : OneReply windowed-filter-windowedfilter.get_third_best.Reads.Learnt
one_windowed_filter_windowedfilter_get_third_best κ a x y s t p q = p ∙ sym q

pub one_windowed_filter_windowedfilter_update : OneOutcome windowed-filter-windowedfilter.update.Reads.Learnt (λ κ e. e.0.now)
one_windowed_filter_windowedfilter_update κ a x y s t p q = (number_injective x y Unchanged _ (no_earlier a.0.now a.1.1.0) p.0 q.0 (p.1.1 ∙ sym q.1.1), p.1.0 ∙ sym q.1.0)

pub one_windowed_filter_step : OneReply windowed-filter-step.Reads.Learnt
one_windowed_filter_step κ a x y s t p q = stepped (p.0 ∙ sym q.0) (p.1 ∙ sym q.1)

pub one_windowed_filter_reason_number : OneReply windowed-filter-reason.number.Reads.Learnt
one_windowed_filter_reason_number κ a x y s t p q = p ∙ sym q
