-- One call of a run of the round-trip estimator, and its public functions: refused exactly when the rows say, and the first fault is named (specs/Rtt.antt). Assumes nothing.
use Prim.Native.Nat.{ℕ, ◌%◌, ◌<◌}
use mathlib.Core.Bool.{Bool, true, false, cond, not, ◌&&◌, ◌||◌, true≢false}
use mathlib.Core.List.{List, [], ◌∷◌}
use mathlib.Core.Path.{◌≡◌, refl, sym, ap, subst, ◌∙◌}
use lib.Dec.{eqb}
use lib.ListN.{length}
use Rattle.units.specs.declared.time.Duration.{Duration}
use Rattle.state.specs.Answers.{zero_length}
use Rattle.state.specs.Bounds.{length_ok}
use Rattle.state.specs.Faults.{first}
use Rattle.state.specs.declared.refusals.Rows.{Rows}
use Rattle.state.proofs.Complete as tests
use Rattle.state.proofs.Complete.{faults_from, complete, and_one, and_two, and_three}
use Rattle.words.specs.Word.{flag_of, flag_fits}
use Rattle.rtt.specs.declared.rtt.RttStats.{RttStats}
use Rattle.rtt.specs.Rtt.{given_number, stored_number, new_faults, new_number, stats_new, new_left, update_faults, update_number, update_next, update_left, delay_faults, delay_number, delay_next, delay_left}
use Rattle.rtt.proofs.Exact.{given_fine}
use Rattle.trips.specs.Trips.{ns, call_row, call_faults, call_left, rtt_row, rtt_faults}
use Rattle.guovssalu.specs.RttRun.{rtt_reply}
use Rattle.laws.specs.Replies.{Exactly}
use Rattle.laws.proofs.Named.{flipped, names}
use Rattle.laws.proofs.Replies.{exactly, answered}
use Rattle.theorems.specs.Blames.{Named}
use Rattle.theorems.specs.Rtt.{RttRun, RttRan, rtt_rows, RttCall, EveryRttReply}
use Rattle.theorems.proofs.Blames.{row_below, word_named, two_some, worded, either_uneven, byte}
use Rattle.theorems.proofs.Choice.{both, settled_taken, settled_kept}
use Rattle.theorems.proofs.Rtt.{rtt_is, rtt_row_lem, rtt_row_is}

-- ---- there is no fault exactly where every argument is within its bounds
new_complete : (initial limit : Duration) → eqb (first (new_faults initial limit)) 0 ≡ (length_ok initial && length_ok limit)
unfolding new_faults faults_from tests.every
new_complete initial limit = complete ((length_ok initial, (1, 3)) ∷ (length_ok limit, (2, 3)) ∷ []) ∙ and_two (length_ok initial) (length_ok limit)

update_complete : (latest delay : Duration) (fits : Bool) → eqb (first (update_faults latest delay fits)) 0 ≡ (length_ok latest && length_ok delay && fits)
unfolding update_faults faults_from tests.every
update_complete latest delay fits = complete ((length_ok latest, (1, 3)) ∷ (length_ok delay, (2, 3)) ∷ (fits, (3, 7)) ∷ []) ∙ and_three (length_ok latest) (length_ok delay) fits

delay_complete : (limit : Duration) → eqb (first (delay_faults limit)) 0 ≡ length_ok limit
unfolding delay_faults faults_from tests.every
delay_complete limit = complete ((length_ok limit, (1, 3)) ∷ []) ∙ and_one (length_ok limit)

-- ---- a call in words
module _ (s : RttStats) (n a b c : ℕ) where
  pub call_row_lem : Exactly (call_row s n a b c) (rtt_rows s n a b c)
  unfolding call_row rtt_rows new_number update_number delay_number given_number
  call_row_lem =
      both (λ (k : ℕ) (r : Rows). Exactly k r) (eqb n 0) _ _ _ _ (exactly _ _ refl)
      (both (λ (k : ℕ) (r : Rows). Exactly k r) (eqb n 1) _ _ _ _ (exactly _ _ refl)
      (both (λ (k : ℕ) (r : Rows). Exactly k r) (eqb n 2) _ _ _ _ (exactly _ _ refl) (exactly _ _ refl)))

  call_asked : (rtt_rows s n a b c).argument ≡ not (eqb (first (call_faults n a b c)) 0)
  unfolding rtt_rows call_faults first
  call_asked =
      let R : Rows → List ℕ → Type 0 = λ r l. r.argument ≡ not (eqb (first l) 0) in
      both R (eqb n 0) _ _ _ _ (flipped (new_complete (ns a) (ns b)))
      (both R (eqb n 1) _ _ _ _ (flipped (update_complete (ns a) (ns b) (flag_fits c)))
      (both R (eqb n 2) _ _ _ _ (flipped (delay_complete (ns a))) refl))

  call_refused : (call_row s n a b c ≡ 0 → ⊥) → call_left s n a b c ≡ cond (eqb n 0) (stats_new zero_length zero_length) s
  unfolding call_row call_left new_left update_left delay_left
  call_refused = go (eqb n 0) (eqb n 1) (eqb n 2)
    where
      go : (x y z : Bool) →
          (cond x (new_number (ns a) (ns b)) (cond y (update_number s (ns a) (ns b) (flag_fits c)) (cond z (delay_number s (ns a)) (given_number s false))) ≡ 0 → ⊥) →
          cond x (new_left (ns a) (ns b)) (cond y (update_left s (ns a) (ns b) (flag_of c) (flag_fits c)) (cond z (delay_left s (ns a)) s)) ≡ cond x (stats_new zero_length zero_length) s
      go true y z h = settled_kept _ _ _ h
      go false true z h = settled_kept _ _ _ h
      go false false true h = settled_kept _ _ _ h
      go false false false h = refl

  call_done : call_row s n a b c ≡ 0 →
      call_left s n a b c ≡ cond (eqb n 0) (stats_new (ns a) (ns b)) (cond (eqb n 1) (update_next s (ns a) (ns b) (flag_of c)) (delay_next s (ns a)))
  unfolding call_row call_left new_left update_left delay_left
  call_done = go (eqb n 0) (eqb n 1) (eqb n 2)
    where
      go : (x y z : Bool) →
          cond x (new_number (ns a) (ns b)) (cond y (update_number s (ns a) (ns b) (flag_fits c)) (cond z (delay_number s (ns a)) (given_number s false))) ≡ 0 →
          cond x (new_left (ns a) (ns b)) (cond y (update_left s (ns a) (ns b) (flag_of c) (flag_fits c)) (cond z (delay_left s (ns a)) s))
          ≡ cond x (stats_new (ns a) (ns b)) (cond y (update_next s (ns a) (ns b) (flag_of c)) (delay_next s (ns a)))
      go true y z h = settled_taken _ _ _ h
      go false true z h = settled_taken _ _ _ h
      go false false true h = settled_taken _ _ _ h
      go false false false h = absurd (true≢false (sym (given_fine s false h).1))

  pub every_rtt_call : RttCall s n a b c
  every_rtt_call =
      record {
        row = call_row_lem;
        asked = call_asked;
        word = word_named (call_row s n a b c) _ (row_below _ (rtt_rows s n a b c) call_row_lem) (λ two z. two_some (rtt_rows s n a b c).argument _ call_asked (call_row_lem.is2.0 two).1 z);
        refused = call_refused;
        done = call_done;
      }

-- ---- the public functions
pub every_rtt_reply : EveryRttReply
unfolding new_number new_left update_number update_left delay_number delay_left given_number stored_number
every_rtt_reply =
    record {
      new = λ κ a x e p. (answered _ p.0 p.1.0, names x _ _ p.0 p.1.1 (flipped (new_complete a.1.0 a.1.1.0)));
      made = λ initial limit κ x s p. (answered _ p.0 p.1.0, names x _ _ p.0 p.1.1 (flipped (new_complete initial limit)));
      updated = λ κ a x e p. (answered _ p.0 p.1.0, names x _ _ p.0 p.1.1 (flipped (update_complete a.1.0 a.1.1.0 true)));
      limited = λ κ a x e p. (answered _ p.0 p.1.0, names x _ _ p.0 p.1.1 (flipped (delay_complete a.1.0)));
      latest = λ t κ x s p. answered _ p.0 p.1;
      smoothed = λ t κ x s p. answered _ p.0 p.1;
      variation = λ t κ x s p. answered _ p.0 p.1;
      minimum = λ t κ x s p. answered _ p.0 p.1;
    }

-- ---- the run itself names the first of its own
pub rtt_blames : (r : RttRun) → RttRan r → Named r.reply (rtt_row r.state r.calls (length r.answers)) (rtt_faults r.state r.calls)
unfolding rtt_reply rtt_faults faults_from tests.every
rtt_blames r h =
    let a = eqb (length r.state) 48 in
    let b = eqb (length r.calls % 32) 0 in
    let row = rtt_row_is r h in
    worded r.reply _ _ (not a || not b) (rtt_is r h).0 (subst (λ (n : ℕ). n < 256) row (byte r.reply)) (λ e. ((rtt_row_lem r h).second.0 (row ∙ e)).1)
    (either_uneven a b ∙ ap not (sym (complete ((a, (1, 7)) ∷ (b, (2, 7)) ∷ []))))
