-- What an event's call is given: the sampler's answer in words 1 to 17 of the call, the acked packets' numbers by words
-- 18 to 21. A flag that no writer writes, and a place outside of the lists, make the extra acked bytes out of bounds.
-- Definitions only.
use Rattle.std.specs.Prelude.{ℕ, ◌+◌, Bool, cond, ◌&&◌, ◌||◌, List, [], ◌∷◌, ◌++◌, leb, length, take, drop}
use Rattle.state.specs.declared.congestion_event.CongestionEventSample.{CongestionEventSample}
use Rattle.words.specs.Word.{word, or_outside, flag_word, flag_of, flag_fits}
use Rattle.words.specs.Maybe.{maybe_words, bandwidth_maybe, bandwidth_of, length_maybe, length_of}
use Rattle.arguments.specs.CongestionEvent.{send_time_state_of}

-- ---- the acked numbers: word 18 says how many. Up to three are the first of words 19 to 21. More stand in the lists,
-- from the place on that word 19 names. Of a call the words 0 to 48 are its own, and the words from 49 on are the
-- lists' (`call_at`, crates/dispatch/specs/OneCall.antt)
abbrev pub acked_count : List ℕ → ℕ
acked_count l = word l 18

abbrev pub list_place : List ℕ → ℕ
list_place l = 49 + word l 19

-- there are as many as the count says: up to three always are, more where the lists have so many from that place on
unfoldable pub acked_fits : List ℕ → Bool
acked_fits l = leb (acked_count l) 3 || leb (list_place l + acked_count l) (length l)

-- where they have not, there are none, and the event is refused
unfoldable pub acked_of : List ℕ → List ℕ
acked_of l =
    cond (leb (acked_count l) 3)
    (take (acked_count l) (word l 19 ∷ word l 20 ∷ word l 21 ∷ []))
    (cond (acked_fits l) (take (acked_count l) (drop (list_place l) l)) [])

-- ---- the sampler's answer. Its three flags, sample_is_app_limited and the send state's is_valid and is_app_limited;
-- and the place of the acked numbers
unfoldable pub sample_fits : List ℕ → Bool
sample_fits l = flag_fits (word l 7) && flag_fits (word l 12) && flag_fits (word l 13) && acked_fits l

unfoldable pub sample_from : List ℕ → CongestionEventSample
sample_from l =
    record {
      bandwidth = bandwidth_of (word l 1) (word l 2);
      send = bandwidth_of (word l 3) (word l 4);
      ack = bandwidth_of (word l 5) (word l 6);
      applimited = flag_of (word l 7);
      rtt = length_of (word l 8) (word l 9);
      inflight = word l 10;
      extra = or_outside (sample_fits l) (word l 11);
      state = send_time_state_of (word l 12) (word l 13) (word l 14) (word l 15);
      totals = record { acked = word l 16; lost = word l 17 };
    }

-- ---- into words: what a caller writes for the sampler's answer (docs/LAYOUT.md)
unfoldable pub sample_words : CongestionEventSample → List ℕ
sample_words s =
    maybe_words (bandwidth_maybe s.bandwidth)
    ++ maybe_words (bandwidth_maybe s.send)
    ++ maybe_words (bandwidth_maybe s.ack)
    ++ flag_word s.applimited
    ∷ maybe_words (length_maybe s.rtt)
    ++ s.inflight
    ∷ s.extra
    ∷ flag_word s.state.valid
    ∷ flag_word s.state.applimited
    ∷ s.state.acked
    ∷ s.state.inflight
    ∷ s.totals.acked
    ∷ s.totals.lost
    ∷ []
