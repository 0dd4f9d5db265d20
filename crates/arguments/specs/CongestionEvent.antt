-- An event's record in 16 words: words 22 to 37 of a call. A flag that no writer writes makes a moment that is out of
-- bounds. Definitions only.
use Rattle.std.specs.Prelude.{ℕ, zero, suc, ◌+◌, Bool, ◌&&◌, List, [], ◌∷◌, ◌++◌}
use Rattle.state.specs.declared.congestion_event.CongestionEvent.{CongestionEvent}
use Rattle.state.specs.declared.congestion_event.SendTimeState.{SendTimeState}
use Rattle.words.specs.Word.{word, or_outside, flag_word, flag_of, flag_fits}
use Rattle.words.specs.Maybe.{maybe_words, bandwidth_maybe, bandwidth_of, length_maybe, length_of}

-- last_packet_send_state
abbrev pub send_time_state_of : ℕ → ℕ → ℕ → ℕ → SendTimeState
send_time_state_of valid limited acked inflight =
    record {
      valid = flag_of valid;
      applimited = flag_of limited;
      acked = acked;
      inflight = inflight;
    }

-- ---- from words: the record whose first word is word i
-- its four flags: end_of_round_trip, is_probing_for_bandwidth, the send state's is_valid and is_app_limited
unfoldable pub event_fits : List ℕ → ℕ → Bool
event_fits l i =
    flag_fits (word l (i + 6)) && flag_fits (word l (i + 7)) && flag_fits (word l (i + 12))
    && flag_fits (word l (i + 13))

unfoldable pub event_from_word : List ℕ → ℕ → CongestionEvent
event_from_word l i =
    record {
      time = record { 0 = or_outside (event_fits l i) (word l i) };
      window = word l (i + 1);
      prior = word l (i + 2);
      inflight = word l (i + 3);
      acked = word l (i + 4);
      lost = word l (i + 5);
      ended = flag_of (word l (i + 6));
      probing = flag_of (word l (i + 7));
      bandwidth = bandwidth_of (word l (i + 8)) (word l (i + 9));
      rtt = length_of (word l (i + 10)) (word l (i + 11));
      state = send_time_state_of (word l (i + 12)) (word l (i + 13)) (word l (i + 14)) (word l (i + 15));
    }

abbrev pub event_from : List ℕ → CongestionEvent
event_from l = event_from_word l 22

-- the words of a call's record as they were handed in
unfoldable pub words_from : List ℕ → ℕ → ℕ → List ℕ
words_from l i zero = []
words_from l i (suc n) = word l i ∷ words_from l (i + 1) n

abbrev pub event_in : List ℕ → List ℕ
event_in l = words_from l 22 16

-- ---- into words
unfoldable pub event_words : CongestionEvent → List ℕ
event_words e =
    e.time.0
    ∷ e.window
    ∷ e.prior
    ∷ e.inflight
    ∷ e.acked
    ∷ e.lost
    ∷ flag_word e.ended
    ∷ flag_word e.probing
    ∷ maybe_words (bandwidth_maybe e.bandwidth)
    ++ maybe_words (length_maybe e.rtt)
    ++ flag_word e.state.valid
    ∷ flag_word e.state.applimited
    ∷ e.state.acked
    ∷ e.state.inflight
    ∷ []
