-- The faults of a call in words are there exactly where its row 2 holds: of its records, its floats and its flags. Assumes nothing.
use Rattle.std.specs.Prelude.{None, Some}
use Prim.Native.Nat.{ℕ, ◌^◌}
use mathlib.Core.Bool.{Bool, true, false, cond, ◌&&◌, ◌||◌}
use mathlib.Core.List.{List, [], ◌∷◌}
use mathlib.Core.Path.{◌≡◌, refl, sym, ap, ◌∙◌}
use lib.Dec.{ltb, eqb}
use lib.Ieee.{nan, binary32, of_bits, le}
use Rattle.units.specs.declared.bandwidth.Bandwidth.{Bandwidth}
use Rattle.state.specs.declared.congestion_event.CongestionEvent.{CongestionEvent}
use Rattle.state.specs.declared.congestion_event.CongestionEventSample.{CongestionEventSample}
use Rattle.state.specs.declared.faults.RecordFits.{RecordFits}
use Rattle.state.specs.declared.faults.SampleFits.{SampleFits}
use Rattle.state.specs.Bounds.{bytes_ok, total_ok, moment_ok, bandwidth_ok, maybe_ok, gain_ok, within}
use Rattle.state.specs.CongestionEvent.{maybe_length_ok, event_tests, event_ok, sample_tests, sample_ok}
use Rattle.state.specs.Faults.{list_length, unless, first, record_faults, sample_faults, started_faults, gain_faults, bdp_faults, down_faults}
use Rattle.state.proofs.Rows.{and_left, and_right, and_both, all_at}
use Rattle.state.proofs.Complete.{Test, faults_from, every, more, complete, test_at, every_at, same_test, and_one, and_two, and_three, all_right, all_right_lem}
use Rattle.words.specs.Word.{word, or_outside, flag_of, flag_fits, float_of, float_fits}
use Rattle.words.specs.Maybe.{is_unset, maybe_fits, bandwidth_of, length_of}
use Rattle.arguments.specs.CongestionEvent.{event_fits, event_from_word, event_from}
use Rattle.arguments.specs.Sample.{acked_fits, sample_fits, sample_from}
use Rattle.places.specs.Places.{record_fits, record_in, sample_fits_in, sample_in}

-- ---- words that no writer writes are out of bounds
beyond : (fits : Bool) (n : ℕ) → moment_ok (record { 0 = or_outside fits n }) ≡ (fits && moment_ok (record { 0 = n }))
beyond true n = refl
beyond false n = refl

bytes_beyond : (fits : Bool) (n : ℕ) → bytes_ok (or_outside fits n) ≡ (fits && bytes_ok n)
bytes_beyond true n = refl
bytes_beyond false n = refl

rate_fits : (set n : ℕ) → maybe_ok (bandwidth_of set n) ≡ true → maybe_fits set n ≡ true
rate_fits set n h = go (is_unset set n) (flag_of set) h
  where
    go : (u s : Bool) → maybe_ok (cond u None (Some (record { 0 = or_outside s n }))) ≡ true → (u || s) ≡ true
    go true s h = refl
    go false true h = refl
    go false false h = h

length_fits : (set n : ℕ) → maybe_length_ok (length_of set n) ≡ true → maybe_fits set n ≡ true
length_fits set n h = go (is_unset set n) (flag_of set) h
  where
    go : (u s : Bool) → maybe_length_ok (cond u None (Some (record { 0 = or_outside s n }))) ≡ true → (u || s) ≡ true
    go true s h = refl
    go false true h = refl
    go false false h = h

-- one test of form
list_at_fault : (t : Bool) → eqb (unless t 1 list_length) 0 ≡ t
list_at_fault true = refl
list_at_fault false = refl

-- ---- an event's record
abbrev record_tests : ℕ → RecordFits → CongestionEvent → List Test
record_tests p f e =
    (moment_ok e.time, (p, 8))
    ∷ (bytes_ok e.window, (p, 0))
    ∷ (bytes_ok e.prior, (p, 1))
    ∷ (bytes_ok e.inflight, (p, 1))
    ∷ (total_ok e.acked, (p, 4))
    ∷ (total_ok e.lost, (p, 4))
    ∷ (f.ended, (p, 7))
    ∷ (f.probing, (p, 7))
    ∷ (f.bandwidth, (p, 7))
    ∷ (maybe_ok e.bandwidth, (p, 2))
    ∷ (f.rtt, (p, 7))
    ∷ (maybe_length_ok e.rtt, (p, 3))
    ∷ (f.valid, (p, 7))
    ∷ (f.applimited, (p, 7))
    ∷ (total_ok e.state.acked, (p, 4))
    ∷ (bytes_ok e.state.inflight, (p, 1))
    ∷ []

event_there : (w : List ℕ) (p : ℕ) → every (record_tests p (record_fits w) (record_in w)) ≡ true → event_ok (event_from w) ≡ true
unfolding every record_fits record_in event_from_word event_fits event_tests all_right test_at
event_there w p h =
    let tests = record_tests p (record_fits w) (record_in w) in
    let ended : flag_fits (word w 28) ≡ true = every_at tests 6 h in
    let probing : flag_fits (word w 29) ≡ true = every_at tests 7 h in
    let valid : flag_fits (word w 34) ≡ true = every_at tests 12 h in
    let limited : flag_fits (word w 35) ≡ true = every_at tests 13 h in
    let time : moment_ok (record { 0 = word w 22 }) ≡ true = every_at tests 0 h in
    let window : bytes_ok (word w 23) ≡ true = every_at tests 1 h in
    let prior : bytes_ok (word w 24) ≡ true = every_at tests 2 h in
    let inflight : bytes_ok (word w 25) ≡ true = every_at tests 3 h in
    let acked : total_ok (word w 26) ≡ true = every_at tests 4 h in
    let lost : total_ok (word w 27) ≡ true = every_at tests 5 h in
    let rate : maybe_ok (bandwidth_of (word w 30) (word w 31)) ≡ true = every_at tests 9 h in
    let rtt : maybe_length_ok (length_of (word w 32) (word w 33)) ≡ true = every_at tests 11 h in
    let total : total_ok (word w 36) ≡ true = every_at tests 14 h in
    let flight : bytes_ok (word w 37) ≡ true = every_at tests 15 h in
    all_right_lem (event_tests (event_from w))
    ∙ rw (beyond (flag_fits (word w 28) && flag_fits (word w 29) && flag_fits (word w 34) && flag_fits (word w 35)) (word w 22), ended, probing, valid, limited, time, window, prior, inflight, acked, lost, rate, rtt, total, flight)

event_back : (w : List ℕ) (p : ℕ) → event_ok (event_from w) ≡ true → every (record_tests p (record_fits w) (record_in w)) ≡ true
unfolding every record_fits record_in event_from_word event_fits event_tests
event_back w p h =
    let tests = event_tests (event_from w) in
    let a = flag_fits (word w 28) in
    let b = flag_fits (word w 29) in
    let c = flag_fits (word w 34) in
    let d = flag_fits (word w 35) in
    let moment : (a && b && c && d && moment_ok (record { 0 = word w 22 })) ≡ true = sym (beyond (a && b && c && d) (word w 22)) ∙ all_at tests 0 h in
    let flags = and_left (a && b && c && d) (moment_ok (record { 0 = word w 22 })) moment in
    let three = and_left (a && b && c) d flags in
    let two = and_left (a && b) c three in
    let ended : flag_fits (word w 28) ≡ true = and_left a b two in
    let probing : flag_fits (word w 29) ≡ true = and_right a b two in
    let valid : flag_fits (word w 34) ≡ true = and_right (a && b) c three in
    let limited : flag_fits (word w 35) ≡ true = and_right (a && b && c) d flags in
    let time : moment_ok (record { 0 = word w 22 }) ≡ true = and_right (a && b && c && d) (moment_ok (record { 0 = word w 22 })) moment in
    let window : bytes_ok (word w 23) ≡ true = all_at tests 1 h in
    let prior : bytes_ok (word w 24) ≡ true = all_at tests 2 h in
    let inflight : bytes_ok (word w 25) ≡ true = all_at tests 3 h in
    let acked : total_ok (word w 26) ≡ true = all_at tests 4 h in
    let lost : total_ok (word w 27) ≡ true = all_at tests 5 h in
    let rate : maybe_ok (bandwidth_of (word w 30) (word w 31)) ≡ true = all_at tests 6 h in
    let rtt : maybe_length_ok (length_of (word w 32) (word w 33)) ≡ true = all_at tests 7 h in
    let state : (total_ok (word w 36) && bytes_ok (word w 37)) ≡ true = all_at tests 8 h in
    let total : total_ok (word w 36) ≡ true = and_left (total_ok (word w 36)) (bytes_ok (word w 37)) state in
    let flight : bytes_ok (word w 37) ≡ true = and_right (total_ok (word w 36)) (bytes_ok (word w 37)) state in
    let set-rate : maybe_fits (word w 30) (word w 31) ≡ true = rate_fits (word w 30) (word w 31) rate in
    let set-rtt : maybe_fits (word w 32) (word w 33) ≡ true = length_fits (word w 32) (word w 33) rtt in
    rw (time, window, prior, inflight, acked, lost, ended, probing, set-rate, rate, set-rtt, rtt, valid, limited, total, flight)

pub event_asked : (w : List ℕ) (p : ℕ) → eqb (first (record_faults p (record_fits w) (record_in w))) 0 ≡ event_ok (event_from w)
unfolding record_faults faults_from
event_asked w p =
    let tests = record_tests p (record_fits w) (record_in w) in
    complete tests ∙ same_test (every tests) (event_ok (event_from w)) (event_there w p) (event_back w p)

-- ---- what the sampler says, and the acked numbers
abbrev sampler_tests : SampleFits → CongestionEventSample → List Test
sampler_tests f s =
    (f.bandwidth, (3, 7))
    ∷ (maybe_ok s.bandwidth, (3, 2))
    ∷ (f.send, (3, 7))
    ∷ (maybe_ok s.send, (3, 2))
    ∷ (f.ack, (3, 7))
    ∷ (maybe_ok s.ack, (3, 2))
    ∷ (f.applimited, (3, 7))
    ∷ (f.rtt, (3, 7))
    ∷ (maybe_length_ok s.rtt, (3, 3))
    ∷ (bytes_ok s.inflight, (3, 1))
    ∷ (bytes_ok s.extra, (3, 1))
    ∷ (f.valid, (3, 7))
    ∷ (f.limited, (3, 7))
    ∷ (total_ok s.state.acked, (3, 4))
    ∷ (bytes_ok s.state.inflight, (3, 1))
    ∷ (total_ok s.totals.acked, (3, 4))
    ∷ (total_ok s.totals.lost, (3, 4))
    ∷ []

abbrev extra_fits : List ℕ → Bool
extra_fits w = flag_fits (word w 7) && flag_fits (word w 12) && flag_fits (word w 13) && acked_fits w

sample_there : (w : List ℕ) → acked_fits w ≡ true → every (sampler_tests (sample_fits_in w) (sample_in w)) ≡ true → sample_ok (sample_from w) ≡ true
unfolding every sample_fits_in sample_in sample_from sample_fits sample_tests all_right test_at
sample_there w numbers h =
    let tests = sampler_tests (sample_fits_in w) (sample_in w) in
    let rate : maybe_ok (bandwidth_of (word w 1) (word w 2)) ≡ true = every_at tests 1 h in
    let send : maybe_ok (bandwidth_of (word w 3) (word w 4)) ≡ true = every_at tests 3 h in
    let ack : maybe_ok (bandwidth_of (word w 5) (word w 6)) ≡ true = every_at tests 5 h in
    let applimited : flag_fits (word w 7) ≡ true = every_at tests 6 h in
    let rtt : maybe_length_ok (length_of (word w 8) (word w 9)) ≡ true = every_at tests 8 h in
    let inflight : bytes_ok (word w 10) ≡ true = every_at tests 9 h in
    let extra : bytes_ok (word w 11) ≡ true = every_at tests 10 h in
    let valid : flag_fits (word w 12) ≡ true = every_at tests 11 h in
    let limited : flag_fits (word w 13) ≡ true = every_at tests 12 h in
    let total : total_ok (word w 14) ≡ true = every_at tests 13 h in
    let flight : bytes_ok (word w 15) ≡ true = every_at tests 14 h in
    let acked : total_ok (word w 16) ≡ true = every_at tests 15 h in
    let lost : total_ok (word w 17) ≡ true = every_at tests 16 h in
    all_right_lem (sample_tests (sample_from w))
    ∙ rw (bytes_beyond (extra_fits w) (word w 11), applimited, valid, limited, numbers, rate, send, ack, rtt, inflight, extra, total, flight, acked, lost)

sample_back : (w : List ℕ) → sample_ok (sample_from w) ≡ true → (acked_fits w ≡ true) × (every (sampler_tests (sample_fits_in w) (sample_in w)) ≡ true)
unfolding every sample_fits_in sample_in sample_from sample_fits sample_tests
sample_back w h =
    let tests = sample_tests (sample_from w) in
    let a = flag_fits (word w 7) in
    let b = flag_fits (word w 12) in
    let c = flag_fits (word w 13) in
    let beyond : (extra_fits w && bytes_ok (word w 11)) ≡ true = sym (bytes_beyond (extra_fits w) (word w 11)) ∙ all_at tests 5 h in
    let flags = and_left (extra_fits w) (bytes_ok (word w 11)) beyond in
    let three = and_left (a && b && c) (acked_fits w) flags in
    let two = and_left (a && b) c three in
    let rate : maybe_ok (bandwidth_of (word w 1) (word w 2)) ≡ true = all_at tests 0 h in
    let send : maybe_ok (bandwidth_of (word w 3) (word w 4)) ≡ true = all_at tests 1 h in
    let ack : maybe_ok (bandwidth_of (word w 5) (word w 6)) ≡ true = all_at tests 2 h in
    let rtt : maybe_length_ok (length_of (word w 8) (word w 9)) ≡ true = all_at tests 3 h in
    let set-rate : maybe_fits (word w 1) (word w 2) ≡ true = rate_fits (word w 1) (word w 2) rate in
    let set-send : maybe_fits (word w 3) (word w 4) ≡ true = rate_fits (word w 3) (word w 4) send in
    let set-ack : maybe_fits (word w 5) (word w 6) ≡ true = rate_fits (word w 5) (word w 6) ack in
    let set-rtt : maybe_fits (word w 8) (word w 9) ≡ true = length_fits (word w 8) (word w 9) rtt in
    let applimited : flag_fits (word w 7) ≡ true = and_left a b two in
    let valid : flag_fits (word w 12) ≡ true = and_right a b two in
    let limited : flag_fits (word w 13) ≡ true = and_right (a && b) c three in
    let inflight : bytes_ok (word w 10) ≡ true = all_at tests 4 h in
    let extra : bytes_ok (word w 11) ≡ true = and_right (extra_fits w) (bytes_ok (word w 11)) beyond in
    let state : (total_ok (word w 14) && bytes_ok (word w 15)) ≡ true = all_at tests 6 h in
    let total : total_ok (word w 14) ≡ true = and_left (total_ok (word w 14)) (bytes_ok (word w 15)) state in
    let flight : bytes_ok (word w 15) ≡ true = and_right (total_ok (word w 14)) (bytes_ok (word w 15)) state in
    let totals : (total_ok (word w 16) && total_ok (word w 17)) ≡ true = all_at tests 7 h in
    let acked : total_ok (word w 16) ≡ true = and_left (total_ok (word w 16)) (total_ok (word w 17)) totals in
    let lost : total_ok (word w 17) ≡ true = and_right (total_ok (word w 16)) (total_ok (word w 17)) totals in
    (and_right (a && b && c) (acked_fits w) flags, rw (set-rate, rate, set-send, send, set-ack, ack, applimited, set-rtt, rtt, inflight, extra, valid, limited, total, flight, acked, lost))

sample_asked : (w : List ℕ) → (acked_fits w && eqb (first (sample_faults (sample_fits_in w) (sample_in w))) 0) ≡ sample_ok (sample_from w)
unfolding sample_faults faults_from
sample_asked w =
    let tests = sampler_tests (sample_fits_in w) (sample_in w) in
    ap (λ (b : Bool). acked_fits w && b) (complete tests)
    ∙ same_test (acked_fits w && every tests) (sample_ok (sample_from w))
    (λ h. sample_there w (and_left (acked_fits w) (every tests) h) (and_right (acked_fits w) (every tests) h))
    (λ h. let b = sample_back w h in simp (b.0, b.1))

in_order : (a e s : Bool) → (a && (e && (s && true))) ≡ (e && (a && s))
in_order true e s = ap (λ (b : Bool). e && b) (and_one s)
in_order false true s = refl
in_order false false s = refl

pub started_asked : (w : List ℕ) → eqb (first (started_faults (acked_fits w) (record_fits w) (record_in w) (sample_fits_in w) (sample_in w))) 0 ≡ (event_ok (event_from w) && sample_ok (sample_from w))
unfolding started_faults first
started_asked w =
    let numbers = unless (acked_fits w) 1 list_length in
    let record' = first (record_faults 2 (record_fits w) (record_in w)) in
    let sampler = first (sample_faults (sample_fits_in w) (sample_in w)) in
    let test : eqb numbers 0 ≡ acked_fits w = list_at_fault (acked_fits w) in
    more numbers (record' ∷ sampler ∷ [])
    ∙ rw test (ap (λ (b : Bool). acked_fits w && b) (more record' (sampler ∷ []) ∙ rw (event_asked w 2) (ap (λ (b : Bool). event_ok (event_from w) && b) (more sampler []))))
    ∙ in_order (acked_fits w) (event_ok (event_from w)) (eqb sampler 0)
    ∙ ap (λ (b : Bool). event_ok (event_from w) && b) (sample_asked w)

-- ---- floats
gain_beyond : (w : ℕ) → gain_ok (float_of w) ≡ true → float_fits w ≡ true
unfolding within le of_bits
gain_beyond w h = go (ltb w (2 ^ 32)) h
  where
    go : (t : Bool) → gain_ok (cond t (of_bits binary32 w) nan) ≡ true → t ≡ true
    go true h = refl
    go false h = h

gain_fits : (w : ℕ) → (float_fits w && gain_ok (float_of w)) ≡ gain_ok (float_of w)
gain_fits w = same_test (float_fits w && gain_ok (float_of w)) (gain_ok (float_of w)) (and_right (float_fits w) (gain_ok (float_of w))) (λ h. and_both (float_fits w) (gain_ok (float_of w)) (gain_beyond w h) h)

pub gain_asked : (w : ℕ) → eqb (first (gain_faults (float_fits w) (float_of w))) 0 ≡ gain_ok (float_of w)
unfolding gain_faults faults_from every
gain_asked w = complete ((float_fits w, (1, 7)) ∷ (gain_ok (float_of w), (1, 6)) ∷ []) ∙ and_two (float_fits w) (gain_ok (float_of w)) ∙ gain_fits w

pub bdp_asked : (b : Bandwidth) (w : ℕ) → eqb (first (bdp_faults b (float_fits w) (float_of w))) 0 ≡ (bandwidth_ok b && gain_ok (float_of w))
unfolding bdp_faults faults_from every
bdp_asked b w =
    complete ((bandwidth_ok b, (1, 2)) ∷ (float_fits w, (2, 7)) ∷ (gain_ok (float_of w), (2, 6)) ∷ [])
    ∙ ap (λ (t : Bool). bandwidth_ok b && t) (and_two (float_fits w) (gain_ok (float_of w)) ∙ gain_fits w)

-- ---- the flags of call 40
pub down_asked : (a b c : ℕ) → eqb (first (down_faults (flag_fits a) (flag_fits b) (record { 0 = c }))) 0 ≡ (moment_ok (record { 0 = or_outside (flag_fits a && flag_fits b) c }) && true)
unfolding down_faults faults_from every
down_asked a b c =
    complete ((flag_fits a, (1, 7)) ∷ (flag_fits b, (2, 7)) ∷ (moment_ok (record { 0 = c }), (3, 8)) ∷ [])
    ∙ and_three (flag_fits a) (flag_fits b) (moment_ok (record { 0 = c }))
    ∙ sym (beyond (flag_fits a && flag_fits b) c)
    ∙ sym (and_one (moment_ok (record { 0 = or_outside (flag_fits a && flag_fits b) c })))
