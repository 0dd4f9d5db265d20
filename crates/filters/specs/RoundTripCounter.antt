-- Rounds: document 01, "Filters and rounds"; network_model.rs, RoundTripCounter; document 02, request d.
use Rattle.std.specs.Prelude.{ℕ, max, ◌+◌, ◌-◌, ◌^◌, Bool, true, false, cond, not, ◌&&◌, List, [], ◌∷◌, ltb, eqb, Option, None, Some}
use Rattle.filters.specs.declared.round_trip_counter.RoundTripCounter.{RoundTripCounter}

-- nothing counted, nothing sent, no end: BBRv2NetworkModel::new
abbrev pub rounds_new : RoundTripCounter
rounds_new = record { count = 0; sent = 0; end = None }

-- a packet's number becomes the last sent: on_packet_sent
unfoldable pub rounds_sent : RoundTripCounter → ℕ → RoundTripCounter
rounds_sent c n = record { count = c.count; sent = n; end = c.end }

-- "the end becomes the last sent number": restart_round
unfoldable pub rounds_restart : RoundTripCounter → RoundTripCounter
rounds_restart c = record { count = c.count; sent = c.sent; end = Some c.sent }

-- "no end is set yet or that number is greater than the end": on_packets_acked
abbrev pub is_past : Option ℕ → ℕ → Bool
is_past None n = true
is_past (Some k) n = ltb k n

-- the greatest of a number and of a list's
abbrev pub most_of : ℕ → List ℕ → ℕ
most_of n [] = n
most_of n (k ∷ acked) = most_of (max n k) acked

-- request d: "Take the greatest number in the slice." An empty one has none
abbrev pub greatest : List ℕ → Option ℕ
greatest [] = None
greatest (n ∷ acked) = Some (most_of n acked)

-- "The empty list still ends no round."
abbrev pub is_passed_by : Option ℕ → Option ℕ → Bool
is_passed_by e None = false
is_passed_by e (Some n) = is_past e n

unfoldable pub ends_round : Option ℕ → List ℕ → Bool
ends_round e acked = is_passed_by e (greatest acked)

-- a number that may be missing, as a list: what a caller hands on who has looked for the greatest
abbrev pub listed : Option ℕ → List ℕ
listed None = []
listed (Some n) = n ∷ []

-- "Replies and bounds", row 5: "the call's rule adds 1 to a counter that is 2^64 - 1"
unfoldable pub rounds_full : RoundTripCounter → List ℕ → Bool
rounds_full c acked = ends_round c.end acked && eqb c.count (2 ^ 64 - 1)

unfoldable pub rounds_number : RoundTripCounter → List ℕ → ℕ
rounds_number c acked = cond (rounds_full c acked) 5 0

-- a refusal answers no
unfoldable pub rounds_ended : RoundTripCounter → List ℕ → Bool
rounds_ended c acked = ends_round c.end acked && not (rounds_full c acked)

-- "the count rises and the end becomes the last sent number"; a refusal, and an event that ends no round, leave the
-- counter as it is
unfoldable pub rounds_acked : RoundTripCounter → List ℕ → RoundTripCounter
rounds_acked c acked =
    cond (rounds_ended c acked)
    (record { count = c.count + 1; sent = c.sent; end = Some c.sent })
    c
