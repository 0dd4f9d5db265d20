-- Words encode a state exactly where each flag, float, phase and thing that may be unset is written as it is read. Assumes nothing.
use Rattle.std.specs.Prelude.{None, Some}
use Prim.Native.Nat.{ℕ, zero, suc, ◌%◌, ◌^◌, ◌≤◌, ◌<◌}
use mathlib.Core.Bool.{Bool, true, false, not, cond, ◌&&◌, ◌||◌, and_assoc, and-true}
use mathlib.Core.List.{List}
use mathlib.Core.Path.{◌≡◌, refl, sym, ap, ◌∙◌}
use native.Mathlib.Omega.{arith}
use lib.Dec.{T, leb, eqb}
use lib.Ieee.{Float, binary32, of_bits, to_bits, is_nan}
use lib.Ieee.Bits.{to_bits-of_bits, nan_bits_is}
use borrow.Author.Tests.{eq-eqb, ne_eqb, eqb-true, eqb-false, lt-leb, leb-true, leb-false, lt-ltb, le-ltb}
use Rattle.numbers.proofs.Fields.{plain_bits, nan_bits_lem}
use Rattle.state.proofs.Rows.{and_left, and_right}
use Rattle.words.specs.Word.{flag_word, flag_of, flag_fits, float_word, float_of}
use Rattle.words.specs.Maybe.{unset, held, is_unset, maybe_fits, number_in, bandwidth_maybe, bandwidth_of, plain_maybe, plain_of, length_maybe, length_of}
use Rattle.layout.specs.NetworkModel.{model_from, model_words}
use Rattle.layout.specs.Cycle.{cycle_from, cycle_words, phase_word, phase_of}
use Rattle.layout.specs.Form.{float_fits, phase_fits, early_fits, late_fits, cycle_fits}
use Rattle.layout.specs.StateWords.{same_words, is_state}

same : (n : ℕ) → eqb n n ≡ true
same n = eq-eqb n n refl

eqb_swap : (a b : ℕ) → eqb a b ≡ eqb b a
eqb_swap a b = go (eqb b a) refl
  where
    go : (t : Bool) → eqb b a ≡ t → eqb a b ≡ t
    go true h = eq-eqb a b (sym (eqb-true b a h))
    go false h = ne_eqb a b (λ e. eqb-false b a h (sym e))

-- ---- one word
flag : (w : ℕ) → eqb (flag_word (flag_of w)) w ≡ flag_fits w
flag zero = refl
flag (suc zero) = refl
flag (suc (suc n)) = rw (ne_eqb (suc (suc n)) 1 (λ e. omega arith), ne_eqb 0 (suc (suc n)) (λ e. omega arith), lt-leb (suc (suc n)) 1 (omega arith))

phase : (w : ℕ) → eqb (phase_word (phase_of w)) w ≡ phase_fits w
phase zero = refl
phase (suc zero) = refl
phase (suc (suc zero)) = refl
phase (suc (suc (suc zero))) = refl
phase (suc (suc (suc (suc zero)))) = refl
phase (suc (suc (suc (suc (suc n))))) =
    let w = suc (suc (suc (suc (suc n)))) in
    rw (ne_eqb w 0 (λ e. omega arith), ne_eqb w 1 (λ e. omega arith), ne_eqb w 2 (λ e. omega arith), ne_eqb w 3 (λ e. omega arith), ne_eqb 4 w (λ e. omega arith), lt-leb w 4 (omega arith))

-- a pattern of 32 bits
narrow : (w : ℕ) → w ≤ 0xffff_ffff → eqb (to_bits binary32 (of_bits binary32 w)) w ≡ (leb (w % 0x8000_0000) 0x7f80_0000 || eqb w 0x7fc0_0000)
unfolding to_bits
narrow w h = go (leb (w % 0x8000_0000) 0x7f80_0000) refl
  where
    go : (t : Bool) → leb (w % 0x8000_0000) 0x7f80_0000 ≡ t → eqb (to_bits binary32 (of_bits binary32 w)) w ≡ (t || eqb w 0x7fc0_0000)
    go true e =
        let plain : T (not (is_nan (of_bits binary32 w))) = rw (← nan_bits_is binary32 w) (plain_bits binary32 w (leb-true _ _ e)) in
        eq-eqb _ w (to_bits-of_bits binary32 w (omega arith) plain)
    go false e = ap (λ (x : Float). eqb (to_bits binary32 x) w) (nan_bits_lem binary32 w (leb-false _ _ e)) ∙ eqb_swap 0x7fc0_0000 w

-- a pattern, or more
float : (w : ℕ) → eqb (float_word (float_of w)) w ≡ float_fits w
unfolding float_fits to_bits
float w = go (leb w 0xffff_ffff) refl
  where
    go : (t : Bool) → leb w 0xffff_ffff ≡ t → eqb (float_word (float_of w)) w ≡ (t && (leb (w % 0x8000_0000) 0x7f80_0000 || eqb w 0x7fc0_0000))
    go true e = let low : w ≤ 0xffff_ffff = leb-true _ _ e in rw (lt-ltb w (2 ^ 32) (omega arith)) (narrow w low)
    go false e =
        let high : 0xffff_ffff < w = leb-false _ _ e in
        rw (le-ltb w (2 ^ 32) (omega arith)) (ne_eqb 0x7fc0_0000 w (λ e. omega (arith, high, e)))

-- ---- two words
cond_out : {A : Type 0} (f : A → ℕ × ℕ) (b : Bool) (x y : A) → f (cond b x y) ≡ cond b (f x) (f y)
cond_out f true x y = refl
cond_out f false x y = refl

pair : (m : ℕ × ℕ) (a b : ℕ) (t : Bool) → m ≡ cond (is_unset a b) unset (held (number_in a b)) → (eqb m.0 a && (eqb m.1 b && t)) ≡ (maybe_fits a b && t)
pair m a b t e = go (is_unset a b) (eqb a 1) refl refl
  where
    go : (u s : Bool) → is_unset a b ≡ u → eqb a 1 ≡ s → (eqb m.0 a && (eqb m.1 b && t)) ≡ ((u || s) && t)
    go true true h k = rw (e, h, eqb_swap 0 a, and_left (eqb a 0) (eqb b 0) h, eqb_swap 0 b, and_right (eqb a 0) (eqb b 0) h)
    go true false h k = rw (e, h, eqb_swap 0 a, and_left (eqb a 0) (eqb b 0) h, eqb_swap 0 b, and_right (eqb a 0) (eqb b 0) h)
    go false true h k = rw (e, h, eqb_swap 1 a, k, same b)
    go false false h k = rw (e, h, eqb_swap 1 a, k)

end_pair : (a b : ℕ) (t : Bool) → (eqb (plain_maybe (plain_of a b)).0 a && (eqb (plain_maybe (plain_of a b)).1 b && t)) ≡ (maybe_fits a b && t)
end_pair a b t = pair (plain_maybe (plain_of a b)) a b t (cond_out plain_maybe (is_unset a b) None (Some (number_in a b)))

rate_pair : (a b : ℕ) (t : Bool) → (eqb (bandwidth_maybe (bandwidth_of a b)).0 a && (eqb (bandwidth_maybe (bandwidth_of a b)).1 b && t)) ≡ (maybe_fits a b && t)
rate_pair a b t = pair (bandwidth_maybe (bandwidth_of a b)) a b t (cond_out bandwidth_maybe (is_unset a b) None (Some (record { 0 = number_in a b })))

wait_pair : (a b : ℕ) (t : Bool) → (eqb (length_maybe (length_of a b)).0 a && (eqb (length_maybe (length_of a b)).1 b && t)) ≡ (maybe_fits a b && t)
wait_pair a b t = pair (length_maybe (length_of a b)) a b t (cond_out length_maybe (is_unset a b) None (Some (record { 0 = number_in a b })))

-- ---- all of them
pub form : (w : List ℕ) → is_state w ≡ (early_fits w && late_fits w && cycle_fits w)
unfolding is_state same_words model_from model_words cycle_from cycle_words early_fits late_fits cycle_fits
form w = simp (same, flag, float, phase, end_pair, rate_pair, wait_pair, and_assoc, and-true)
