-- A state in the form of the code's types: every number in 64 bits, the two gains f32. What is read from words is in form, and so is what is within document 01's bounds and has its other
-- numbers so (`Free`). What is written of a state in form is read back. Assumes nothing.
use Rattle.std.specs.Prelude.{Option, None, Some}
use Prim.Native.Nat.{ℕ, zero, suc, ◌+◌, ◌-◌, ◌^◌, ◌<◌}
use Rattle.units.specs.declared.time.Duration.{Duration}
use Rattle.units.specs.declared.bandwidth.Bandwidth.{Bandwidth}
use mathlib.Core.Bool.{Bool, true, false, ◌&&◌, ◌||◌}
use mathlib.Core.List.{List, [], ◌∷◌, ◌++◌}
use mathlib.Core.Path.{◌≡◌, refl, ◌∙◌}
use native.Mathlib.Omega.{arith}
use lib.Dec.{T, leb, eqb}
use lib.Ieee.{Float, binary32, fits}
use lib.Ieee.Bits.{to_bits-lt}
use lib.ListN.{get_or}
use borrow.Author.Tests.{leb-true, eqb-true}
use Rattle.filters.specs.declared.round_trip_counter.RoundTripCounter.{RoundTripCounter}
use Rattle.state.specs.declared.network_model.NetworkModel.{NetworkModel}
use Rattle.state.specs.declared.parts.Gains.{Gains}
use Rattle.state.specs.Bounds.{bytes_or_unset_ok, bandwidth_ok, length_ok, moment_ok, bytes_ok, total_ok, maybe_ok}
use Rattle.state.specs.Parts.{round_ok}
use Rattle.state.specs.NetworkModel.{model_tests, model_ok}
use Rattle.state.proofs.Rows.{and_left, and_right, all_at}
use Rattle.state.specs.declared.cycle.Cycle.{Cycle}
use Rattle.state.specs.declared.cycle.CyclePhase.{CyclePhase}
use Rattle.state.specs.declared.cycle.CyclePhase.TheVariants.{NotStarted, Up, Down, Cruise, Refill}
use Rattle.state.specs.Cycle.{wait_ok, up_bytes_ok, cycle_tests, cycle_ok}
use Rattle.words.proofs.Laws.{AllWords}
use Rattle.words.specs.Word.{outside, flag_word, flag_of, float_word}
use Rattle.words.specs.Maybe.{is_unset, number_in, maybe_of, pair_of, bandwidth_of}
use Rattle.layout.specs.NetworkModel.{model_from, model_words}
use Rattle.layout.specs.Cycle.{phase_word, cycle_from, cycle_words}
use Rattle.words.proofs.Back.{float_fits_lem}
use Rattle.drift.specs.Calls.{State}
use Rattle.theorems.proofs.Choice.{either}

abbrev pub Word : ℕ → Type 0
Word n = n < 2 ^ 64

abbrev pub Single : Float → Type 0
Single x = T (fits binary32 x)

-- of what may be unset, its number
abbrev pub MaybeForm : {A : Type 0} → (A → ℕ) → Option A → Type 0
MaybeForm number None = Unit {0}
MaybeForm number (Some x) = Word (number x)

abbrev pub PlainForm : Option ℕ → Type 0
PlainForm x = MaybeForm (λ n. n) x

abbrev pub BandwidthForm : Option Bandwidth → Type 0
BandwidthForm x = MaybeForm (λ b. b.0) x

abbrev pub LengthForm : Option Duration → Type 0
LengthForm x = MaybeForm (λ d. d.0) x

-- "Counters and packet numbers are free"; the gains' range says nothing of their format
pub record Free (rounds : RoundTripCounter) (l f q : ℕ) (gains : Gains) : Type 0 where
  pub count : Word rounds.count
  pub sent : Word rounds.sent
  pub end : PlainForm rounds.end
  pub losses : Word l
  pub flat : Word f
  pub queueing : Word q
  pub cwnd : Single gains.cwnd
  pub pacing : Single gains.pacing

abbrev pub FreeModel : NetworkModel → Type 0
FreeModel m = Free m.rounds m.round.losses m.growth.flat m.growth.queueing m.gains

-- what `model_ok` bounds
pub record Bound (m : NetworkModel) : Type 0 where
  pub slot0 : Word m.maxbw.slot0.0
  pub slot1 : Word m.maxbw.slot1.0
  pub rtt : Word m.minrtt.rtt.0
  pub timestamp : Word m.minrtt.timestamp.0
  pub lost : Word m.round.lost
  pub delivered : Word m.round.delivered
  pub mininflight : Word m.round.mininflight
  pub bandwidth : Word m.latest.bandwidth.0
  pub inflight : Word m.latest.inflight
  pub low_bandwidth : BandwidthForm m.lower.bandwidth
  pub low_inflight : Word m.lower.inflight
  pub high : Word m.high
  pub baseline : Word m.growth.baseline.0
  pub send : BandwidthForm m.rates.send
  pub ack : BandwidthForm m.rates.ack
  pub acked_total : Word m.totals.acked
  pub lost_total : Word m.totals.lost
  pub moment : Word m.moment.0

abbrev pub FreeCycle : Cycle → Type 0
FreeCycle y = Word y.stay.rounds × Word y.wait.rounds

-- what `cycle_ok` bounds
pub record BoundCycle (y : Cycle) : Type 0 where
  pub entered : Word y.stay.entered.0
  pub start : Word y.wait.start.0
  pub length : LengthForm y.wait.length
  pub rounds : Word y.slope.rounds
  pub bytes : PlainForm y.slope.bytes
  pub acked : Word y.slope.acked

pub record InForm (s : State) : Type 0 where
  pub free : FreeModel s.model
  pub bound : Bound s.model
  pub free_cycle : FreeCycle s.cycle
  pub bound_cycle : BoundCycle s.cycle

-- every number of a list
pub data Words : List ℕ → Type 0 where
  none : Words []
  also : {x : ℕ} {l : List ℕ} → Word x → Words l → Words (x ∷ l)

-- ---- within their bounds
word_of : (n k : ℕ) → k < 2 ^ 64 → leb n k ≡ true → Word n
word_of n k l h = omega (arith, leb-true n k h)

bytes_word : (n : ℕ) → leb n (2 ^ 40) ≡ true → Word n
bytes_word n h = word_of n (2 ^ 40) (omega arith) h

total_word : (n : ℕ) → leb n (2 ^ 62) ≡ true → Word n
total_word n h = word_of n (2 ^ 62) (omega arith) h

length_word : (n : ℕ) → leb n (2 ^ 36) ≡ true → Word n
length_word n h = word_of n (2 ^ 36) (omega arith) h

unset_word : (n : ℕ) → bytes_or_unset_ok n ≡ true → Word n
unset_word n h = go (leb n (2 ^ 40)) (eqb n (2 ^ 64 - 1)) refl refl h
  where
    go : (a b : Bool) → leb n (2 ^ 40) ≡ a → eqb n (2 ^ 64 - 1) ≡ b → (a || b) ≡ true → Word n
    go true b p q k = bytes_word n p
    go false true p q k = omega (arith, eqb-true n (2 ^ 64 - 1) q)
    go false false p q k = bytes_word n (p ∙ k)

maybe_word : (x : Option Bandwidth) → maybe_ok x ≡ true → BandwidthForm x
maybe_word None h = tt
maybe_word (Some b) h = bytes_word b.0 h

pub bound_ok : (m : NetworkModel) → model_ok m ≡ true → Bound m
unfolding model_tests round_ok
bound_ok m h =
    let most = all_at (model_tests m) 0 h in
    let least = all_at (model_tests m) 1 h in
    let round = all_at (model_tests m) 2 h in
    let latest = all_at (model_tests m) 3 h in
    let lower = all_at (model_tests m) 4 h in
    let rates = all_at (model_tests m) 8 h in
    let totals = all_at (model_tests m) 9 h in
    let r = m.round in
    let t = m.totals in
    let sums = and_left (total_ok r.lost && total_ok r.delivered && bytes_or_unset_ok r.mininflight) (leb r.lost t.lost) (and_left (total_ok r.lost && total_ok r.delivered && bytes_or_unset_ok r.mininflight && leb r.lost t.lost) (leb r.delivered t.acked) round) in
    let both = and_left (total_ok r.lost && total_ok r.delivered) (bytes_or_unset_ok r.mininflight) sums in
    record {
      slot0 = bytes_word _ (and_left (bandwidth_ok m.maxbw.slot0) (bandwidth_ok m.maxbw.slot1) most);
      slot1 = bytes_word _ (and_right (bandwidth_ok m.maxbw.slot0) (bandwidth_ok m.maxbw.slot1) most);
      rtt = length_word _ (and_left (length_ok m.minrtt.rtt) (moment_ok m.minrtt.timestamp) least);
      timestamp = total_word _ (and_right (length_ok m.minrtt.rtt) (moment_ok m.minrtt.timestamp) least);
      lost = total_word _ (and_left (total_ok r.lost) (total_ok r.delivered) both);
      delivered = total_word _ (and_right (total_ok r.lost) (total_ok r.delivered) both);
      mininflight = unset_word _ (and_right (total_ok r.lost && total_ok r.delivered) (bytes_or_unset_ok r.mininflight) sums);
      bandwidth = bytes_word _ (and_left (bandwidth_ok m.latest.bandwidth) (bytes_ok m.latest.inflight) latest);
      inflight = bytes_word _ (and_right (bandwidth_ok m.latest.bandwidth) (bytes_ok m.latest.inflight) latest);
      low_bandwidth = maybe_word m.lower.bandwidth (and_left (maybe_ok m.lower.bandwidth) (bytes_or_unset_ok m.lower.inflight) lower);
      low_inflight = unset_word _ (and_right (maybe_ok m.lower.bandwidth) (bytes_or_unset_ok m.lower.inflight) lower);
      high = unset_word _ (all_at (model_tests m) 5 h);
      baseline = bytes_word _ (all_at (model_tests m) 7 h);
      send = maybe_word m.rates.send (and_left (maybe_ok m.rates.send) (maybe_ok m.rates.ack) rates);
      ack = maybe_word m.rates.ack (and_right (maybe_ok m.rates.send) (maybe_ok m.rates.ack) rates);
      acked_total = total_word _ (and_left (total_ok t.acked) (total_ok t.lost) totals);
      lost_total = total_word _ (and_right (total_ok t.acked) (total_ok t.lost) totals);
      moment = total_word _ (all_at (model_tests m) 10 h);
    }

wait_word : (x : Option Duration) → wait_ok x ≡ true → LengthForm x
wait_word None h = tt
wait_word (Some d) h = word_of d.0 (2 ^ 36 + 500_000) (omega arith) h

up_word : (x : Option ℕ) → up_bytes_ok x ≡ true → PlainForm x
up_word None h = tt
up_word (Some n) h = bytes_word n h

pub bound_cycle_ok : (y : Cycle) → cycle_ok y ≡ true → BoundCycle y
unfolding cycle_tests
bound_cycle_ok y h =
    record {
      entered = total_word _ (all_at (cycle_tests y) 0 h);
      start = total_word _ (all_at (cycle_tests y) 1 h);
      length = wait_word y.wait.length (all_at (cycle_tests y) 2 h);
      rounds = word_of _ 30 (omega arith) (all_at (cycle_tests y) 3 h);
      bytes = up_word y.slope.bytes (all_at (cycle_tests y) 4 h);
      acked = bytes_word _ (all_at (cycle_tests y) 5 h);
    }

-- ---- read from words
number_word : (set n : ℕ) → Word n → Word (number_in set n)
number_word set n h = either Word (flag_of set) n outside h (omega arith)

module _ (w : List ℕ) (h : AllWords w) where
  read_maybe : {A : Type 0} (P : Option A → Type 0) (some : ℕ → Option A) → P None → ((n : ℕ) → Word n → P (some n)) → (i j : ℕ) → P (maybe_of None some (get_or w i 0) (get_or w j 0))
  read_maybe P some p q i j =
      let set = get_or w i 0 in let n = get_or w j 0 in either P (is_unset set n) None (some (number_in set n)) p (q (number_in set n) (number_word set n (h j)))

  read_free : FreeModel (model_from w)
  unfolding model_from
  read_free =
      record {
        count = h 0;
        sent = h 1;
        end = read_maybe PlainForm (λ n. Some n) tt (λ n l. l) 2 3;
        losses = h 9;
        flat = h 24;
        queueing = h 25;
        cwnd = float_fits_lem (get_or w 19 0);
        pacing = float_fits_lem (get_or w 20 0);
      }

  read_bandwidth : (i j : ℕ) → BandwidthForm (bandwidth_of (get_or w i 0) (get_or w j 0))
  read_bandwidth i j = read_maybe BandwidthForm (λ n. Some (record { 0 = n })) tt (λ n l. l) i j

  read_bound : Bound (model_from w)
  unfolding model_from
  read_bound =
      record {
        slot0 = h 4;
        slot1 = h 5;
        rtt = h 6;
        timestamp = h 7;
        lost = h 8;
        delivered = h 10;
        mininflight = h 11;
        bandwidth = h 13;
        inflight = h 14;
        low_bandwidth = read_bandwidth 15 16;
        low_inflight = h 17;
        high = h 18;
        baseline = h 23;
        send = read_bandwidth 27 28;
        ack = read_bandwidth 29 30;
        acked_total = h 31;
        lost_total = h 32;
        moment = h 33;
      }

  read_cycle_free : FreeCycle (cycle_from w)
  unfolding cycle_from
  read_cycle_free = (h 38, h 39)

  read_cycle_bound : BoundCycle (cycle_from w)
  unfolding cycle_from
  read_cycle_bound =
      record {
        entered = h 37;
        start = h 36;
        length = read_maybe LengthForm (λ n. Some (record { 0 = n })) tt (λ n l. l) 40 41;
        rounds = h 42;
        bytes = read_maybe PlainForm (λ n. Some n) tt (λ n l. l) 43 44;
        acked = h 45;
      }

  pub read_form : InForm (record { model = model_from w; cycle = cycle_from w })
  read_form = record { free = read_free; bound = read_bound; free_cycle = read_cycle_free; bound_cycle = read_cycle_bound }

-- ---- written into words
pub flag_word_lem : (b : Bool) → Word (flag_word b)
flag_word_lem true = omega arith
flag_word_lem false = omega arith

float_word_lem : (x : Float) → Single x → Word (float_word x)
float_word_lem x h = omega (arith, to_bits-lt binary32 x h)

phase_word_lem : (p : CyclePhase) → Word (phase_word p)
phase_word_lem NotStarted = omega arith
phase_word_lem Up = omega arith
phase_word_lem Down = omega arith
phase_word_lem Cruise = omega arith
phase_word_lem Refill = omega arith

pair_words : {A : Type 0} (number : A → ℕ) (x : Option A) → MaybeForm number x → Word (pair_of number x).0 × Word (pair_of number x).1
pair_words number None h = (omega arith, omega arith)
pair_words number (Some x) h = (omega arith, h)

pub at_words : (l : List ℕ) → Words l → AllWords l
at_words [] none i = omega arith
at_words (x ∷ l) (also p h) zero = p
at_words (x ∷ l) (also p h) (suc i) = at_words l h i

pub append_words : (a b : List ℕ) → Words a → Words b → Words (a ++ b)
append_words [] b none q = q
append_words (x ∷ a) b (also p h) q = also p (append_words a b h q)

model_words_lem : (m : NetworkModel) → FreeModel m → Bound m → Words (model_words m)
unfolding model_words
model_words_lem m f b =
    let end = pair_words (λ n. n) m.rounds.end f.end in
    let low = pair_words (λ b. b.0) m.lower.bandwidth b.low_bandwidth in
    let send = pair_words (λ b. b.0) m.rates.send b.send in
    let ack = pair_words (λ b. b.0) m.rates.ack b.ack in
    also f.count (also f.sent (also end.0 (also end.1 (also b.slot0 (also b.slot1
    (also b.rtt (also b.timestamp (also b.lost (also f.losses (also b.delivered (also b.mininflight
    (also (flag_word_lem m.round.hilimited) (also b.bandwidth (also b.inflight (also low.0 (also low.1 (also b.low_inflight
    (also b.high (also (float_word_lem _ f.cwnd) (also (float_word_lem _ f.pacing) (also (flag_word_lem m.cwndlimited) (also (flag_word_lem m.growth.reached) (also b.baseline
    (also f.flat (also f.queueing (also (flag_word_lem m.growth.ignore) (also send.0 (also send.1 (also ack.0
    (also ack.1 (also b.acked_total (also b.lost_total (also b.moment (also (flag_word_lem m.begun) none))))))))))))))))))))))))))))))))))

cycle_words_lem : (y : Cycle) → FreeCycle y → BoundCycle y → Words (cycle_words y)
unfolding cycle_words
cycle_words_lem y f b =
    let length = pair_words (λ d. d.0) y.wait.length b.length in
    let up = pair_words (λ n. n) y.slope.bytes b.bytes in
    also (phase_word_lem y.stay.phase) (also b.start (also b.entered (also f.0 (also f.1 (also length.0
    (also length.1 (also b.rounds (also up.0 (also up.1 (also b.acked (also (flag_word_lem y.slope.applimited)
    (also (flag_word_lem y.advanced) (also (flag_word_lem y.probing) (also (flag_word_lem y.last.high) (also (flag_word_lem y.last.risky) none)))))))))))))))

pub form_words : (s : State) → InForm s → AllWords (model_words s.model ++ cycle_words s.cycle)
form_words s h =
    at_words (model_words s.model ++ cycle_words s.cycle)
    (append_words (model_words s.model) (cycle_words s.cycle) (model_words_lem s.model h.free h.bound) (cycle_words_lem s.cycle h.free_cycle h.bound_cycle))
