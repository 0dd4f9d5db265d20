-- Which argument of a call of a run is at fault, by the call's number (docs/LAYOUT.md, document 02, request b): the
-- faults of its arguments in the order of their places, of what its words stand for. A word that no writer writes is at
-- fault itself, at its own field: 2.8, at the place of its argument. Definitions only.
use Rattle.std.specs.Prelude.{ℕ, Bool, false, cond, ◌&&◌, ◌||◌, List, [], ◌∷◌, leb, eqb}
use Rattle.units.specs.declared.bandwidth.Bandwidth.{Bandwidth}
use Rattle.units.specs.declared.time.Duration.{Duration}
use Rattle.units.specs.declared.time.Moment.{Moment}
use Rattle.state.specs.declared.congestion_event.CongestionEvent.{CongestionEvent}
use Rattle.state.specs.declared.congestion_event.CongestionEventSample.{CongestionEventSample}
use Rattle.state.specs.declared.faults.RecordFits.{RecordFits}
use Rattle.state.specs.declared.faults.SampleFits.{SampleFits}
use Rattle.state.specs.Faults.{list_length, unless, start_faults, sent_faults, started_faults, event_faults, gain_faults, bdp_faults, bdp1_faults, limit_faults, postpone_faults, down_faults, now_faults, refill_faults, up_faults, slope_faults}
use Rattle.units.specs.Time.{plus}
use Rattle.words.specs.Word.{word, flag_fits, float_of, float_fits}
use Rattle.words.specs.Maybe.{maybe_fits}
use Rattle.arguments.specs.CongestionEvent.{event_from}
use Rattle.arguments.specs.Sample.{acked_fits, sample_from}

-- ---- an event's record, words 22 to 37: which of its words are a writer's
unfoldable pub record_fits : List ℕ → RecordFits
record_fits w =
    record {
      ended = flag_fits (word w 28);
      probing = flag_fits (word w 29);
      bandwidth = maybe_fits (word w 30) (word w 31);
      rtt = maybe_fits (word w 32) (word w 33);
      valid = flag_fits (word w 34);
      applimited = flag_fits (word w 35);
    }

-- and what it is, with its moment as it stands: `event_from` puts that out of bounds for a flag that is no writer's
unfoldable pub record_in : List ℕ → CongestionEvent
record_in w =
    let e = event_from w in
    record {
      time = record { 0 = word w 22 };
      window = e.window;
      prior = e.prior;
      inflight = e.inflight;
      acked = e.acked;
      lost = e.lost;
      ended = e.ended;
      probing = e.probing;
      bandwidth = e.bandwidth;
      rtt = e.rtt;
      state = e.state;
    }

-- ---- what the sampler says, words 1 to 17; the acked numbers that `sample_from` asks for too are an argument of their
-- own
unfoldable pub sample_fits_in : List ℕ → SampleFits
sample_fits_in w =
    record {
      bandwidth = maybe_fits (word w 1) (word w 2);
      send = maybe_fits (word w 3) (word w 4);
      ack = maybe_fits (word w 5) (word w 6);
      applimited = flag_fits (word w 7);
      rtt = maybe_fits (word w 8) (word w 9);
      valid = flag_fits (word w 12);
      limited = flag_fits (word w 13);
    }

unfoldable pub sample_in : List ℕ → CongestionEventSample
sample_in w =
    let s = sample_from w in
    record {
      bandwidth = s.bandwidth;
      send = s.send;
      ack = s.ack;
      applimited = s.applimited;
      rtt = s.rtt;
      inflight = s.inflight;
      extra = word w 11;
      state = s.state;
      totals = s.totals;
    }

-- ---- by the call's number
abbrev at : ℕ → Moment
at n = record { 0 = n }

abbrev lasting : ℕ → Duration
lasting n = record { 0 = n }

abbrev rate : ℕ → Bandwidth
rate n = record { 0 = n }

-- a number that is no call's is 2.8, at place 0
abbrev pub no_call : List ℕ
no_call = unless false 0 list_length ∷ []

-- calls 4 to 7 are given an event's record; call 6 a number beside it, which is free
abbrev pub is_about_event : ℕ → Bool
is_about_event call = leb 4 call && leb call 7

-- calls 8, 12 to 14, 19 to 21 and 23 to 38 are given nothing
abbrev pub is_given_nothing : ℕ → Bool
is_given_nothing call =
    eqb call 8 || leb 12 call && leb call 14 || leb 19 call && leb call 21 || leb 23 call && leb call 38

-- calls 40 to 45, with the numbers in words 1 to 3
unfoldable pub entry_faults : (call a b c : ℕ) → List ℕ
entry_faults call a b c =
    cond (eqb call 40) (down_faults (flag_fits a) (flag_fits b) (at c))
    (cond (eqb call 41) (now_faults (at a))
    (cond (eqb call 42) (refill_faults a (at b))
    (cond (eqb call 43) (up_faults (at a) b)
    (cond (eqb call 44) []
    (cond (eqb call 45) (slope_faults a)
    no_call)))))

-- the calls below 40 that are given no record, with the numbers in words 1, 2 and 4. `least` is the moment of the
-- minimum round trip in the model that the call is made on, which call 22 postpones
unfoldable pub number_faults : (call a b d : ℕ) → (least : Moment) → List ℕ
number_faults call a b d least =
    cond (eqb call 0) (start_faults (lasting b) (at a))
    (cond (eqb call 1) (sent_faults (at a) b d)
    (cond (eqb call 9 || eqb call 15 || eqb call 16) (gain_faults (float_fits a) (float_of a))
    (cond (eqb call 10) (bdp_faults (rate a) (float_fits b) (float_of b))
    (cond (eqb call 11) (bdp1_faults (rate a))
    (cond (eqb call 17 || eqb call 18) (limit_faults a)
    (cond (eqb call 22) (postpone_faults (lasting a) (plus least (lasting a)))
    (cond (is_given_nothing call) []
    no_call)))))))

-- all calls but 3
unfoldable pub other_faults : List ℕ → (least : Moment) → List ℕ
other_faults w least =
    let call = word w 0 in
    cond (is_about_event call) (event_faults (record_fits w) (record_in w))
    (cond (leb 40 call) (entry_faults call (word w 1) (word w 2) (word w 3))
    (number_faults call (word w 1) (word w 2) (word w 4) least))

-- call 3 is an event's start: the acked numbers, the record, what the sampler says
unfoldable pub faults_of : List ℕ → (least : Moment) → List ℕ
faults_of w least =
    cond (eqb (word w 0) 3)
    (started_faults (acked_fits w) (record_fits w) (record_in w) (sample_fits_in w) (sample_in w))
    (other_faults w least)
