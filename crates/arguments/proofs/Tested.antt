-- What passes the bounds is written as it was handed in (specs/Tested.antt). Assumes nothing.
use Rattle.std.specs.Prelude.{None, Some}
use Prim.Native.Nat.{ℕ, zero, suc, ◌+◌, ◌^◌, ◌≤◌, ◌<◌}
use mathlib.Core.Bool.{Bool, true, false, cond, not, ◌&&◌, true≢false}
use mathlib.Core.List.{List, [], ◌∷◌, ◌++◌}
use mathlib.Core.Path.{◌≡◌, refl, sym, ◌∙◌}
use native.Mathlib.Omega.{arith}
use lib.Dec.{T, ltb, leb, eqb}
use lib.Ieee.{Float, nan, inf, fin, binary32, of_bits, to_bits, le, is_nan}
use lib.Ieee.Bits.{to_bits-of_bits}
use lib.ListN.{length, get_or, take, drop, length-take}
use borrow.Author.Tests.{eqb-true, leb-true, ltb-true}
use Rattle.state.specs.Bounds.{all, within, maybe_ok}
use Rattle.state.specs.Params.{params_ok}
use Rattle.state.proofs.Rows.{and_left, and_right, all_at}
use Rattle.state.specs.CongestionEvent.{maybe_length_ok, event_tests, sample_tests}
use Rattle.words.specs.Word.{outside, or_outside, flag_word, flag_of, flag_fits, float_word, float_of}
use Rattle.words.specs.Maybe.{unset, held, is_unset, maybe_of, bandwidth_maybe, bandwidth_of, length_maybe, length_of}
use Rattle.arguments.specs.CongestionEvent.{event_fits, event_from_word, event_from, words_from, event_words}
use Rattle.arguments.specs.Sample.{acked_fits, acked_of, sample_fits, sample_from, sample_words}
use Rattle.arguments.specs.Params.{params_from, params_words}
use Rattle.arguments.specs.Tested.{Tested}
use Rattle.arguments.proofs.Acked.{acked_listed, place_fits, many_long}

-- ---- a flag
flag_same : (w : ℕ) → flag_fits w ≡ true → flag_word (flag_of w) ≡ w
flag_same zero h = refl
flag_same (suc zero) h = refl
flag_same (suc (suc n)) h = absurd (omega (arith, leb-true (suc (suc n)) 1 h))

-- ---- a number that is given with flags
pub fits_where : (ok : ℕ → Bool) (fits : Bool) (n : ℕ) → ok outside ≡ false → ok (or_outside fits n) ≡ true → fits ≡ true
fits_where ok true n bad h = refl
fits_where ok false n bad h = sym bad ∙ h

-- ---- an f32
number_where : (low high : ℕ) (x : Float) → within low high x ≡ true → T (not (is_nan x))
unfolding within le is_nan
number_where low high nan h = absurd (true≢false (sym (and_right (le (of_bits binary32 low) nan) false h)))
number_where low high (inf s) h = tt
number_where low high (fin s m e) h = tt

float_same : (low high w : ℕ) → within low high (float_of w) ≡ true → float_word (float_of w) ≡ w
unfolding is_nan
float_same low high w h = go (ltb w (2 ^ 32)) refl (number_where low high (float_of w) h)
  where
    go : (t : Bool) → ltb w (2 ^ 32) ≡ t → T (not (is_nan (cond t (of_bits binary32 w) nan))) → to_bits binary32 (cond t (of_bits binary32 w) nan) ≡ w
    go true e plain = to_bits-of_bits binary32 w (ltb-true w (2 ^ 32) e) plain
    go false e plain = absurd plain

-- ---- what may be unset
pair_same : {A : Type 0} (none : A) (some : ℕ → A) (f : A → ℕ × ℕ) (ok : A → Bool) → f none ≡ unset → ((n : ℕ) → f (some n) ≡ held n) → ok (some outside) ≡ false →
    (a b : ℕ) → ok (maybe_of none some a b) ≡ true → f (maybe_of none some a b) ≡ (a, b)
pair_same none some f ok p q bad a b h = go (is_unset a b) (eqb a 1) refl refl h
  where
    go : (u s : Bool) → is_unset a b ≡ u → eqb a 1 ≡ s → ok (cond u none (some (or_outside s b))) ≡ true → f (cond u none (some (or_outside s b))) ≡ (a, b)
    go true s e k g =
        let x = sym (eqb-true a 0 (and_left (eqb a 0) (eqb b 0) e)) in
        let y = sym (eqb-true b 0 (and_right (eqb a 0) (eqb b 0) e)) in
        p ∙ (λ i. (x i, y i))
    go false true e k g = let x = sym (eqb-true a 1 k) in q b ∙ (λ i. (x i, b))
    go false false e k g = absurd (true≢false (sym g ∙ bad))

bandwidth_same : (a b : ℕ) → maybe_ok (bandwidth_of a b) ≡ true → bandwidth_maybe (bandwidth_of a b) ≡ (a, b)
bandwidth_same a b h = pair_same None (λ n. Some (record { 0 = n })) bandwidth_maybe maybe_ok refl (λ n. refl) refl a b h

length_same : (a b : ℕ) → maybe_length_ok (length_of a b) ≡ true → length_maybe (length_of a b) ≡ (a, b)
length_same a b h = pair_same None (λ n. Some (record { 0 = n })) length_maybe maybe_length_ok refl (λ n. refl) refl a b h

-- ---- all of them
event_same : (l : List ℕ) → all (event_tests (event_from l)) ≡ true → event_words (event_from l) ≡ words_from l 22 16
unfolding event_tests event_from_word event_fits event_words words_from
event_same l h =
    let fits = fits_where (λ n. leb n (2 ^ 62)) (event_fits l 22) (get_or l 22 0) refl (all_at (event_tests (event_from l)) 0 h) in
    let rate = bandwidth_same (get_or l 30 0) (get_or l 31 0) (all_at (event_tests (event_from l)) 6 h) in
    let time = length_same (get_or l 32 0) (get_or l 33 0) (all_at (event_tests (event_from l)) 7 h) in
    let a = flag_fits (get_or l 28 0) in
    let b = flag_fits (get_or l 29 0) in
    let c = flag_fits (get_or l 34 0) in
    let d = flag_fits (get_or l 35 0) in
    let ended = flag_same (get_or l 28 0) (and_left a b (and_left (a && b) c (and_left (a && b && c) d fits))) in
    let probing = flag_same (get_or l 29 0) (and_right a b (and_left (a && b) c (and_left (a && b && c) d fits))) in
    let valid = flag_same (get_or l 34 0) (and_right (a && b) c (and_left (a && b && c) d fits)) in
    let limited = flag_same (get_or l 35 0) (and_right (a && b && c) d fits) in
    simp (fits, rate, time, ended, probing, valid, limited)

sample_fine : (l : List ℕ) → all (sample_tests (sample_from l)) ≡ true → sample_fits l ≡ true
unfolding sample_tests sample_from
sample_fine l h = fits_where (λ n. leb n (2 ^ 40)) (sample_fits l) (get_or l 11 0) refl (all_at (sample_tests (sample_from l)) 5 h)

sample_same : (l : List ℕ) → all (sample_tests (sample_from l)) ≡ true → sample_words (sample_from l) ≡ words_from l 1 17
unfolding sample_tests sample_from sample_fits sample_words words_from
sample_same l h =
    let fits = sample_fine l h in
    let rate = bandwidth_same (get_or l 1 0) (get_or l 2 0) (all_at (sample_tests (sample_from l)) 0 h) in
    let send = bandwidth_same (get_or l 3 0) (get_or l 4 0) (all_at (sample_tests (sample_from l)) 1 h) in
    let ack = bandwidth_same (get_or l 5 0) (get_or l 6 0) (all_at (sample_tests (sample_from l)) 2 h) in
    let time = length_same (get_or l 8 0) (get_or l 9 0) (all_at (sample_tests (sample_from l)) 3 h) in
    let a = flag_fits (get_or l 7 0) in
    let b = flag_fits (get_or l 12 0) in
    let c = flag_fits (get_or l 13 0) in
    let d = acked_fits l in
    let app = flag_same (get_or l 7 0) (and_left a b (and_left (a && b) c (and_left (a && b && c) d fits))) in
    let valid = flag_same (get_or l 12 0) (and_right a b (and_left (a && b) c (and_left (a && b && c) d fits))) in
    let limited = flag_same (get_or l 13 0) (and_right (a && b) c (and_left (a && b && c) d fits)) in
    simp (fits, rate, send, ack, time, app, valid, limited)

-- so that the acked numbers are there
sample_acked : (l : List ℕ) → all (sample_tests (sample_from l)) ≡ true → acked_fits l ≡ true
unfolding sample_fits
sample_acked l h = and_right (flag_fits (get_or l 7 0) && flag_fits (get_or l 12 0) && flag_fits (get_or l 13 0)) (acked_fits l) (sample_fine l h)

acked_count_lem : (l : List ℕ) → all (sample_tests (sample_from l)) ≡ true → length (acked_of l) ≡ get_or l 18 0
unfolding acked_of
acked_count_lem l h = go (leb (get_or l 18 0) 3) refl
  where
    go : (t : Bool) → leb (get_or l 18 0) 3 ≡ t → length (cond t (take (get_or l 18 0) (get_or l 19 0 ∷ get_or l 20 0 ∷ get_or l 21 0 ∷ [])) (cond (acked_fits l) (take (get_or l 18 0) (drop (49 + get_or l 19 0) l)) [])) ≡ get_or l 18 0
    go true e = rw length-take (omega (arith, leb-true (get_or l 18 0) 3 e))
    go false e = rw (sample_acked l h) (many_long l e (sample_acked l h))

acked_listed_in : (l lists : List ℕ) → length l ≡ 49 → 3 < get_or l 18 0 → all (sample_tests (sample_from (l ++ lists))) ≡ true → (get_or l 19 0 + get_or l 18 0 ≤ length lists) × (acked_of (l ++ lists) ≡ take (get_or l 18 0) (drop (get_or l 19 0) lists))
acked_listed_in l lists n more h =
    let fits = sample_acked (l ++ lists) h in
    (place_fits l lists n more fits, acked_listed l lists n more fits)

params_same : (l : List ℕ) → params_ok (params_from l) ≡ true → params_words (params_from l) ≡ words_from l 38 11
unfolding params_ok params_from params_words words_from
params_same l h =
    let beta = within 0x3a80_0000 0x3f7f_c000 (float_of (get_or l 38 0)) in
    let loss = within 0 0x3f80_0000 (float_of (get_or l 39 0)) in
    let room = within 0 0x3f80_0000 (float_of (get_or l 40 0)) in
    let grow = within 0x3f80_0000 0x4100_0000 (float_of (get_or l 41 0)) in
    let cwnd = within 0x3a80_0000 0x4100_0000 (float_of (get_or l 42 0)) in
    let pacing = within 0x3a80_0000 0x4100_0000 (float_of (get_or l 43 0)) in
    let period = leb (or_outside (flag_fits (get_or l 48 0)) (get_or l 46 0)) (2 ^ 36) in
    let base = leb (get_or l 47 0) (2 ^ 36) in
    let h7 = and_left (beta && loss && room && grow && cwnd && pacing && period) base h in
    let h6 = and_left (beta && loss && room && grow && cwnd && pacing) period h7 in
    let h5 = and_left (beta && loss && room && grow && cwnd) pacing h6 in
    let h4 = and_left (beta && loss && room && grow) cwnd h5 in
    let h3 = and_left (beta && loss && room) grow h4 in
    let h2 = and_left (beta && loss) room h3 in
    let fits = fits_where (λ n. leb n (2 ^ 36)) (flag_fits (get_or l 48 0)) (get_or l 46 0) refl (and_right (beta && loss && room && grow && cwnd && pacing) period h7) in
    let x1 = float_same 0x3a80_0000 0x3f7f_c000 (get_or l 38 0) (and_left beta loss h2) in
    let x2 = float_same 0 0x3f80_0000 (get_or l 39 0) (and_right beta loss h2) in
    let x3 = float_same 0 0x3f80_0000 (get_or l 40 0) (and_right (beta && loss) room h3) in
    let x4 = float_same 0x3f80_0000 0x4100_0000 (get_or l 41 0) (and_right (beta && loss && room) grow h4) in
    let x5 = float_same 0x3a80_0000 0x4100_0000 (get_or l 42 0) (and_right (beta && loss && room && grow) cwnd h5) in
    let x6 = float_same 0x3a80_0000 0x4100_0000 (get_or l 43 0) (and_right (beta && loss && room && grow && cwnd) pacing h6) in
    simp (fits, flag_same (get_or l 48 0) fits, x1, x2, x3, x4, x5, x6)

pub tested : Tested
tested =
    record {
      event = event_same;
      sample = sample_same;
      count = acked_count_lem;
      from_lists = acked_listed_in;
      gain = float_same 0x3a80_0000 0x4100_0000;
      parameters = params_same;
    }
