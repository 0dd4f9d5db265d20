-- The model's state, part by part (src/parts.rt): document 01's bounds of each, and what a round's start, a send and a
-- cap make of it (network_model.rs).
use Rattle.std.specs.Prelude.{ℕ, ◌-◌, ◌^◌, min, Bool, false, cond, ◌&&◌, ◌||◌, [], ◌∷◌, leb, eqb}
use Rattle.state.specs.declared.parts.Gains.{Gains}
use Rattle.state.specs.declared.parts.Growth.{Growth}
use Rattle.state.specs.declared.parts.Latest.{Latest}
use Rattle.state.specs.declared.parts.Lower.{Lower}
use Rattle.state.specs.declared.parts.Rates.{Rates}
use Rattle.state.specs.declared.parts.Round.{Round}
use Rattle.state.specs.declared.parts.Totals.{Totals}
use Rattle.state.specs.Bounds.{all, bytes_ok, bytes_or_unset_ok, total_ok, bandwidth_ok, maybe_ok, gain_ok}

-- ---- the bounds
-- "Bytes lost in the round must not exceed the stored total lost, nor bytes delivered in the round the stored total
-- acked"
unfoldable pub round_ok : Round → Totals → Bool
round_ok s t =
    all
    (total_ok s.lost
    ∷ total_ok s.delivered
    ∷ bytes_or_unset_ok s.mininflight
    ∷ leb s.lost t.lost
    ∷ leb s.delivered t.acked
    ∷ [])

abbrev pub latest_ok : Latest → Bool
latest_ok l = bandwidth_ok l.bandwidth && bytes_ok l.inflight

abbrev pub lower_ok : Lower → Bool
lower_ok l = maybe_ok l.bandwidth && bytes_or_unset_ok l.inflight

abbrev pub gains_ok : Gains → Bool
gains_ok g = gain_ok g.cwnd && gain_ok g.pacing

abbrev pub growth_ok : Growth → Bool
growth_ok g = bandwidth_ok g.baseline

abbrev pub rates_ok : Rates → Bool
rates_ok r = maybe_ok r.send && maybe_ok r.ack

abbrev pub totals_ok : Totals → Bool
totals_ok t = total_ok t.acked && total_ok t.lost

-- on_new_round
abbrev pub round_new : Round
round_new = record { lost = 0; losses = 0; delivered = 0; mininflight = 2 ^ 64 - 1; hilimited = false }

-- on_packet_sent: the minimum takes the bytes in flight before the packet; the flag is set where inflight_hi is reached
unfoldable pub round_sent : Round → ℕ → Bool → Round
round_sent s inflight hit =
    record {
      lost = s.lost;
      losses = s.losses;
      delivered = s.delivered;
      mininflight = min s.mininflight inflight;
      hilimited = s.hilimited || hit;
    }

-- cap_inflight_lo: "An unset inflight_lo is left unset by a cap"
unfoldable pub lower_capped : Lower → ℕ → Lower
lower_capped l cap =
    cond (eqb l.inflight (2 ^ 64 - 1)) l (record { bandwidth = l.bandwidth; inflight = min cap l.inflight })
