-- The round-trip estimator: document 02, request a: "the estimator of RFC 9002 section 5 and the crate's
-- `src/recovery/rtt.rs`: latest, minimum, smoothed and variation, in nanoseconds, the averages in the order of Appendix
-- A.7". For each call the number of its reply, its faults and what it leaves. Sentences in quotes are request a's or,
-- where a remark says so, rtt.rs's.
use Rattle.std.specs.Prelude.{ℕ, min, ◌+◌, ◌-◌, ◌*◌, ◌/◌, Bool, true, false, cond, not, ◌&&◌, List, [], ◌∷◌, leb, Option, None, Some}
use Rattle.units.specs.declared.time.Duration.{Duration}
use Rattle.state.specs.Answers.{settled, zero_length}
use Rattle.state.specs.Bounds.{length_ok, all}
use Rattle.state.specs.Faults.{a_length, list_length, unless}
use Rattle.state.specs.Refusals.{no_rows, stored, argument, first_of}
use Rattle.state.specs.declared.refusals.Rows.{Rows}
use Rattle.rtt.specs.declared.rtt.RttStats.{RttStats}

-- ---- its bounds: document 01, "lengths of time 2^36 ns", of what is stored
unfoldable pub stats_tests : RttStats → List Bool
stats_tests s =
    length_ok s.latest
    ∷ length_ok s.minimum
    ∷ length_ok s.smoothed
    ∷ length_ok s.variation
    ∷ length_ok s.limit
    ∷ []

abbrev pub stats_ok : RttStats → Bool
stats_ok s = all (stats_tests s)

-- ---- the rows: "Refusals: 2, also for a sample over 2^36 ns", and document 01's 1 for what is stored
abbrev pub asked_rows : RttStats → (fine : Bool) → Rows
asked_rows s fine = stored (not (stats_ok s)) (argument (not fine) no_rows)

-- a call that is given what `fine` says is within its bounds or not
unfoldable pub given_number : RttStats → (fine : Bool) → ℕ
given_number s fine = first_of (asked_rows s fine)

-- a call that is given nothing
unfoldable pub stored_number : RttStats → ℕ
stored_number s = first_of (stored (not (stats_ok s)) no_rows)

-- ---- new: initial_rtt, max_ack_delay. There is nothing stored yet
unfoldable pub new_faults : (initial limit : Duration) → List ℕ
new_faults initial limit = unless (length_ok initial) 1 a_length ∷ unless (length_ok limit) 2 a_length ∷ []

abbrev pub new_rows : (initial limit : Duration) → Rows
new_rows initial limit = argument (not (length_ok initial && length_ok limit)) no_rows

unfoldable pub new_number : (initial limit : Duration) → ℕ
new_number initial limit = first_of (new_rows initial limit)

-- rtt.rs, `new`: `Duration::ZERO`, the initial length as minimum and smoothed, `initial_rtt / 2`, no sample yet
unfoldable pub stats_new : (initial limit : Duration) → RttStats
stats_new initial limit =
    record {
      latest = zero_length;
      minimum = initial;
      smoothed = initial;
      variation = record { 0 = initial.0 / 2 };
      limit = limit;
      sampled = false;
    }

-- refused, it has no earlier estimator to give back: it leaves a fresh one of 0 and 0
unfoldable pub new_left : (initial limit : Duration) → RttStats
new_left initial limit =
    settled (new_number initial limit) (stats_new initial limit) (stats_new zero_length zero_length)

-- ---- update_rtt: latest_rtt, ack_delay, handshake_confirmed. Every number handed in is tested (docs/DECISIONS.md,
-- 17), on the first sample too. A flag that is given as a word has a test of its form beside the others', `fits`
unfoldable pub update_faults : (latest delay : Duration) (fits : Bool) → List ℕ
update_faults latest delay fits =
    unless (length_ok latest) 1 a_length
    ∷ unless (length_ok delay) 2 a_length
    ∷ unless fits 3 list_length
    ∷ []

unfoldable pub update_number : RttStats → (latest delay : Duration) (fits : Bool) → ℕ
update_number s latest delay fits = given_number s (length_ok latest && length_ok delay && fits)

-- "The first sample is taken whole": `latest_rtt`, and half of it as variation
unfoldable pub first_sample : RttStats → (latest : Duration) → RttStats
first_sample s latest =
    record {
      latest = latest;
      minimum = latest;
      smoothed = latest;
      variation = record { 0 = latest.0 / 2 };
      limit = s.limit;
      sampled = true;
    }

-- the lesser of two lengths: the minimum is that of all samples since the first (RFC 9002, 5.2, for a sample; rtt.rs
-- forgets those older than 300 s, by a file that is missing: docs/DIFFERENCES.md)
abbrev pub lesser : Duration → Duration → Duration
lesser a b = record { 0 = min a.0 b.0 }

-- rtt.rs: "Limit ack_delay by max_ack_delay after handshake confirmation."
unfoldable pub delay_taken : (limit delay : Duration) (confirmed : Bool) → Duration
delay_taken limit delay confirmed = cond confirmed (lesser delay limit) delay

-- rtt.rs: "Adjust for acknowledgment delay if plausible.": `latest_rtt >= *self.min_rtt + ack_delay`, and the minimum
-- has this sample in it ("min_rtt ignores acknowledgment delay.")
unfoldable pub plausible : (minimum latest taken : Duration) → Duration
plausible minimum latest taken =
    cond (leb (minimum.0 + taken.0) latest.0) (record { 0 = latest.0 - taken.0 }) latest

unfoldable pub adjusted : RttStats → (latest delay : Duration) (confirmed : Bool) → Duration
adjusted s latest delay confirmed =
    plausible (lesser s.minimum latest) latest (delay_taken s.limit delay confirmed)

-- rtt.rs, `abs_diff`: ℕ's difference stops at 0, so one of the two is 0
abbrev pub distance : ℕ → ℕ → ℕ
distance a b = (a - b) + (b - a)

-- `self.smoothed_rtt * 7 / 8 + adjusted_rtt / 8`, each division rounded down
abbrev pub smoothed_after : (smoothed adjusted : ℕ) → ℕ
smoothed_after smoothed adjusted = smoothed * 7 / 8 + adjusted / 8

-- `self.rttvar * 3 / 4` plus `abs_diff / 4`, from the smoothed value before this sample: "in the order of Appendix A.7"
abbrev pub variation_after : (variation smoothed adjusted : ℕ) → ℕ
variation_after variation smoothed adjusted = variation * 3 / 4 + distance smoothed adjusted / 4

-- a sample past the first, adjusted
unfoldable pub later_sample : RttStats → (latest adjusted : Duration) → RttStats
later_sample s latest adjusted =
    record {
      latest = latest;
      minimum = lesser s.minimum latest;
      smoothed = record { 0 = smoothed_after s.smoothed.0 adjusted.0 };
      variation = record { 0 = variation_after s.variation.0 s.smoothed.0 adjusted.0 };
      limit = s.limit;
      sampled = true;
    }

unfoldable pub update_next : RttStats → (latest delay : Duration) (confirmed : Bool) → RttStats
update_next s latest delay confirmed =
    cond s.sampled (later_sample s latest (adjusted s latest delay confirmed)) (first_sample s latest)

unfoldable pub update_left : RttStats → (latest delay : Duration) (confirmed fits : Bool) → RttStats
update_left s latest delay confirmed fits =
    settled (update_number s latest delay fits) (update_next s latest delay confirmed) s

-- ---- update_max_ack_delay: max_ack_delay (recovery.rs: `self.rtt_stats.max_ack_delay = max_ack_delay`)
unfoldable pub delay_faults : (limit : Duration) → List ℕ
delay_faults limit = unless (length_ok limit) 1 a_length ∷ []

unfoldable pub delay_number : RttStats → (limit : Duration) → ℕ
delay_number s limit = given_number s (length_ok limit)

unfoldable pub delay_next : RttStats → (limit : Duration) → RttStats
delay_next s limit =
    record {
      latest = s.latest;
      minimum = s.minimum;
      smoothed = s.smoothed;
      variation = s.variation;
      limit = limit;
      sampled = s.sampled;
    }

unfoldable pub delay_left : RttStats → (limit : Duration) → RttStats
delay_left s limit = settled (delay_number s limit) (delay_next s limit) s

-- ---- min_rtt: rtt.rs answers `None` until the first sample
unfoldable pub minimum_shown : RttStats → Option Duration
minimum_shown s = cond s.sampled (Some s.minimum) None
