-- That the statements of specs/Drift.antt are not empty, and that a premise is needed: runs at beta 0.3, worked out.
use Rattle.std.specs.Prelude.{ℕ, zero, suc, ◌+◌, ◌*◌, ◌^◌, Bool, true, false, cond, ◌&&◌, List, [], ◌∷◌, ◌++◌, eqb, ltb, Option, None, Some}
use Rattle.state.specs.declared.params.Params.{Params}
use Rattle.state.specs.NetworkModel.{one}
use Rattle.units.specs.declared.time.Moment.{Moment}
use Rattle.state.specs.declared.congestion_event.CongestionEvent.{CongestionEvent}
use Rattle.state.specs.declared.congestion_event.CongestionEventSample.{CongestionEventSample}
use Rattle.state.specs.Cycle.{fresh_cycle}
use Rattle.drift.specs.Calls.{Call, event, cap, clear_inflight, cruise, refill, other, sent, finish, State, run, started}
use Rattle.drift.specs.Exact.{Exact, unset, over, inflight_effect, bandwidth_effect, exact_run}
use Rattle.drift.specs.Drift.{inflight_low, bandwidth_low, Follows, Under, usual_beta, usual_parts}

-- ---- a run of lossy rounds: in each a packet is sent, and an event acks it and loses a byte
abbrev params : Params
params =
    record {
      beta = usual_beta;
      loss = one;
      headroom = one;
      growth = one;
      cwnd = one;
      pacing = one;
      rounds = 3;
      queueing = 0;
      period = record { 0 = 0 };
      base = record { 0 = 0 };
      ignore = true;
    }

abbrev pub moment : Moment
moment = record { 0 = 0 }

-- the record of an event in a window
abbrev told : (window : ℕ) (probing ended : Bool) → CongestionEvent
told window probing ended =
    record {
      time = moment;
      window = window;
      prior = 0;
      inflight = 0;
      acked = 0;
      lost = 0;
      ended = ended;
      probing = probing;
      bandwidth = None;
      rtt = None;
      state = record { valid = false; applimited = false; acked = 0; inflight = 0 };
    }

-- the sampler's answer in round n
abbrev heard : (n lost rate : ℕ) → CongestionEventSample
heard n lost rate =
    record {
      bandwidth = Some (record { 0 = rate });
      send = None;
      ack = None;
      applimited = false;
      rtt = None;
      inflight = 0;
      extra = 0;
      state = record { valid = false; applimited = false; acked = 0; inflight = 0 };
      totals = record { acked = n; lost = lost };
    }

abbrev sends : (n : ℕ) → Call
sends n = other (sent moment 0 n 0)

abbrev acks : (window : ℕ) (probing : Bool) (n lost rate : ℕ) → Call
acks window probing n lost rate = event params (told window probing false) (heard n lost rate) (n ∷ [])

-- the first sample of the bandwidth is `rate`, every later one 1
abbrev pub lossy : (window rate rounds : ℕ) → List Call
lossy window rate zero = []
lossy window rate (suc n) =
    lossy window rate n ++ (sends (suc n) ∷ acks window false (suc n) (suc n) (cond (eqb n 0) rate 1) ∷ [])

abbrev fresh : State
fresh = started params (record { 0 = 0 }) moment (fresh_cycle moment)

-- ---- how far the stored number is from the exact one: below it, or above it, by more than so many tenths
abbrev pub is_below : (tenths : ℕ) → Option ℕ → Exact → Bool
is_below t None x = false
is_below t (Some n) unset = false
is_below t (Some n) (over num exponent k) = ltb (n * 2 ^ exponent * 10 + t * 2 ^ exponent) (num * 10)

abbrev pub is_above : (tenths : ℕ) → Option ℕ → Exact → Bool
is_above t None x = false
is_above t (Some n) unset = false
is_above t (Some n) (over num exponent k) = ltb (num * 10 + t * 2 ^ exponent) (n * 2 ^ exponent * 10)

-- exactly so: num / 2^exponent, after k reductions
abbrev is_over : (num exponent k : ℕ) → Exact → Bool
is_over num exponent k unset = false
is_over num exponent k (over a e c) = eqb a num && eqb e exponent && eqb c k

-- stored is n
abbrev is_at : ℕ → Option ℕ → Bool
is_at n None = false
is_at n (Some m) = eqb n m

abbrev is_unset : Exact → Bool
is_unset unset = true
is_unset (over num exponent k) = false

-- 1300 b^k is numerator k / 2^(24 k)
abbrev pub numerator : ℕ → ℕ
numerator k = 1300 * usual_parts ^ k

abbrev reductions : Exact → ℕ
reductions unset = 0
reductions (over num exponent k) = k

abbrev low : List Call → Option ℕ
low calls = inflight_low (run calls fresh)

abbrev exact : List Call → Exact
exact calls = exact_run inflight_effect usual_parts calls fresh unset

abbrev bandwidth : List Call → Exact
bandwidth calls = exact_run bandwidth_effect usual_parts calls fresh unset

-- ---- the runs
abbrev deep : List Call
deep = lossy 14744309 1 19

abbrev fast : List Call
fast = lossy 1300 196960228154 20

-- after 19 rounds: an event that is refused (its window is out of bounds), one while probing, one without a loss, and a
-- cap by inflight_hi, which is unset
abbrev quiet : List Call
quiet =
    acks (2 ^ 41) false 20 20 1
    ∷ sends 20
    ∷ acks 1300 true 20 20 1
    ∷ other (finish (told 0 false true))
    ∷ sends 21
    ∷ acks 1300 false 21 20 1
    ∷ cruise moment
    ∷ []

unfoldable pub drift_examples : List Bool
drift_examples =
    -- 19 reductions of 14,744,309 bytes: more than 2.8 bytes below the exact value
    eqb (reductions (exact deep)) 19
    ∷ is_below 28 (low deep) (exact deep)
    -- 1300 bytes become 910 in one reduction: above the exact value
    ∷ is_above 0 (low (lossy 1300 1 1)) (exact (lossy 1300 1 1))
    -- the loss episode of Drift.antt: what is stored after one, two and three reductions, the exact values, and their
    -- numerators
    ∷ is_at 910 (low (lossy 1300 1 1))
    ∷ is_at 637 (low (lossy 1300 1 2))
    ∷ is_at 445 (low (lossy 1300 1 3))
    ∷ is_over (numerator 1) 24 1 (exact (lossy 1300 1 1))
    ∷ is_over (numerator 2) 48 2 (exact (lossy 1300 1 2))
    ∷ is_over (numerator 3) 72 3 (exact (lossy 1300 1 3))
    ∷ eqb (numerator 1) 15_267_266_300
    ∷ eqb (numerator 2) 179_299_554_057_781_300
    ∷ eqb (numerator 3) 2_105_703_107_131_840_534_046_300
    -- 1097 bytes become 536 in two reductions: more than 1.5 bytes below, so that k - 1 is no bound
    ∷ eqb (reductions (exact (lossy 1097 1 2))) 2
    ∷ is_below 15 (low (lossy 1097 1 2)) (exact (lossy 1097 1 2))
    -- 16,777,223 bytes, above 2^24: one reduction, and more than 1 byte off
    ∷ eqb (reductions (exact (lossy 16777223 1 1))) 1
    ∷ is_above 10 (low (lossy 16777223 1 1)) (exact (lossy 16777223 1 1))
    -- a cap to 5 bytes leaves the exponent, 19 * 24, and the count as they were
    ∷ is_over (5 * 2 ^ 456) 456 19 (exact (deep ++ (cap 5 ∷ [])))
    -- nothing in the quiet calls is a reduction; a clear starts the count again
    ∷ eqb (reductions (exact (deep ++ quiet))) 19
    ∷ is_over (numerator 1) 24 1 (exact (deep ++ (clear_inflight ∷ sends 20 ∷ acks 1300 false 20 20 1 ∷ [])))
    ∷ is_unset (exact (deep ++ (refill 0 moment ∷ [])))
    -- 196,960,228,154 bits per second: after 20 reductions, of which the first two don't lower it, more than 1.4 below
    -- the exact value
    ∷ eqb (reductions (bandwidth fast)) 20
    ∷ is_below 14 (bandwidth_low (run fast fresh)) (bandwidth fast)
    ∷ []

-- what the theorems say of the loss episode's numbers, after k reductions: under k bytes, 1 / (1 - b) bytes, and 3.34
abbrev pub FollowsAt : (k stored : ℕ) → Type 0
FollowsAt k stored =
    Follows 1 1 usual_parts (Some stored) (over (numerator k) (24 * k) k)
    × Under 334 (Some stored) (over (numerator k) (24 * k) k)

pub record EpisodeFollows : Type 0 where
  pub first : FollowsAt 1 910
  pub second : FollowsAt 2 637
  pub third : FollowsAt 3 445
