-- Each call names the first of its faults (specs/Named.antt): a line a call. Assumes nothing.
use Prim.Native.Nat.{ℕ, zero, suc, ◌<◌}
use mathlib.Core.Bool.{Bool, true, false, not, true≢false}
use mathlib.Core.List.{List, [], ◌∷◌}
use mathlib.Core.Path.{◌≡◌, refl, sym, ap, ◌∙◌}
use native.Mathlib.Omega.{arith}
use borrow.Author.Tests.{eq-eqb, ne_eqb, eqb-true}
use lib.Dec.{eqb}
use lib.ListN.{get_or}
use Rattle.std.specs.Prelude.{Result}
use Rattle.units.specs.declared.refusal.Refusal.{Refusal}
use Rattle.units.specs.Reply.{number, fault}
use Rattle.state.specs.declared.refusals.Rows.{Rows}
use Rattle.state.specs.Refusals.{first_of}
use Rattle.state.specs.Faults.{first, named}
use Rattle.state.specs.NetworkModel.{start_number, given_number}
use Rattle.state.specs.Cycle.{fresh_number}
use Rattle.state.proofs.Complete.{start_complete, sent_complete, record_complete, started_complete, gain_complete, bdp_complete, bdp1_complete, limit_complete, postpone_complete, down_complete, now_complete, cruise_complete, refill_complete, up_complete, slope_complete}
use Rattle.changes.specs.Changes.{sent_number, postpone_number}
use Rattle.events.specs.Event.{event_number, finish_number}
use Rattle.judge.specs.Judge.{judged_number, growth_full, queue_number}
use Rattle.phases.specs.Phases.{entry_number, slope_number}
use Rattle.laws.specs.Named.{IsFirst, Names, EveryFault}
use Rattle.laws.proofs.Replies.{exactly}

-- ---- what `first` is
later : (f : ℕ) (l : List ℕ) → f ≡ 0 → first (f ∷ l) ≡ first l
unfolding first
later f l e = rw (eq-eqb f 0 e)

here : (f : ℕ) (l : List ℕ) → (f ≡ 0 → ⊥) → first (f ∷ l) ≡ f
unfolding first
here f l e = rw (ne_eqb f 0 e)

next_before : (f : ℕ) (l : List ℕ) (rest : IsFirst l (first l)) → f ≡ 0 → (i : ℕ) → i < suc rest.place → get_or (f ∷ l) i 0 ≡ 0
next_before f l rest z zero b = z
next_before f l rest z (suc i) b = rest.before i (omega (arith, b))

next_found : (f : ℕ) (l : List ℕ) → (first (f ∷ l) ≡ 0 → ⊥) → ((first l ≡ 0 → ⊥) → IsFirst l (first l)) → (t : Bool) → eqb f 0 ≡ t → IsFirst (f ∷ l) (first (f ∷ l))
next_found f l h more true e =
    let z = eqb-true f 0 e in
    let same = later f l z in
    let rest = more (λ g. h (same ∙ g)) in
    record { place = suc rest.place; stands = rest.stands ∙ sym same; fault = h; before = next_before f l rest z }
next_found f l h more false e =
    let no : f ≡ 0 → ⊥ = λ z. true≢false (sym (eq-eqb f 0 z) ∙ e) in
    record { place = 0; stands = sym (here f l no); fault = h; before = λ i b. absurd (omega (arith, b)) }

pub found : (l : List ℕ) → (first l ≡ 0 → ⊥) → IsFirst l (first l)
unfolding first
found [] h = absurd (h refl)
found (f ∷ l) h = next_found f l h (λ g. found l g) (eqb f 0) refl

next_none : (f : ℕ) (l : List ℕ) → first (f ∷ l) ≡ 0 → (first l ≡ 0 → (i : ℕ) → get_or l i 0 ≡ 0) → (t : Bool) → eqb f 0 ≡ t → (i : ℕ) → get_or (f ∷ l) i 0 ≡ 0
next_none f l h more true e zero = eqb-true f 0 e
next_none f l h more true e (suc i) = more (sym (later f l (eqb-true f 0 e)) ∙ h) i
next_none f l h more false e i = let no : f ≡ 0 → ⊥ = λ z. true≢false (sym (eq-eqb f 0 z) ∙ e) in absurd (no (sym (here f l no) ∙ h))

pub none : (l : List ℕ) → first l ≡ 0 → (i : ℕ) → get_or l i 0 ≡ 0
none [] h i = refl
none (f ∷ l) h i = next_none f l h (λ g. none l g) (eqb f 0) refl i

-- ---- a contract says a reply's number by its rows, and its fault by that number
module _ {B : Type 0} (reply : Result B Refusal) (r : Rows) (faults : List ℕ) where
  pub names : number reply ≡ first_of r → fault reply ≡ named (first_of r) (first faults) → r.argument ≡ not (eqb (first faults) 0) → Names reply r faults
  unfolding named
  names p q a =
      record {
        asked = a;
        names = λ two.
            let is = sym p ∙ two in
            let same : fault reply ≡ first faults = q ∙ simp is in
            let some : first faults ≡ 0 → ⊥ = λ z. true≢false (sym ((exactly r (number reply) p).is2.0 two).1 ∙ a ∙ rw (eq-eqb (first faults) 0 z)) in
            rw same (found faults some);
        silent = λ no. q ∙ simp (ne_eqb (first_of r) 2 (λ e. no (p ∙ e)));
      }

-- where the test of row 2 is that there is no fault
pub flipped : {a b : Bool} → a ≡ b → not b ≡ not a
flipped e = ap not (sym e)

pub every_fault : EveryFault
unfolding start_number given_number sent_number postpone_number event_number finish_number judged_number growth_full queue_number fresh_number entry_number slope_number
every_fault = record {
  firsts = record { found = found; none = none };
  start = λ κ a x e p. names x _ _ p.0 p.1.1 (flipped (start_complete a.1.1.0 a.1.1.1.0));
  made = λ q rtt t κ x s p. names x _ _ p.0 p.1.1 (flipped (start_complete rtt t));
  sent = λ κ a x e p. names x _ _ p.0 p.1.1 (flipped (sent_complete a.1.0 a.1.1.0 a.1.1.1.1.0));
  starts = λ κ a x e p. names x _ _ p.0 p.1.1.1 (flipped (started_complete a.1.1.0.now a.1.1.1.0));
  finish = λ κ a x e p. names x _ _ p.0 p.1.1 (flipped (record_complete 1 a.1.0));
  expire = λ κ a x e p. names x _ _ p.0 p.1.1.1 (flipped (record_complete 1 a.1.1.0));
  is_inflight_too_high = λ m q e limit κ x s p. names x _ _ p.0 p.1.1 (flipped (record_complete 1 e));
  growth = λ κ a x e p. names x _ _ p.0 p.1.1.1 (flipped (record_complete 1 a.1.1.0));
  queue = λ κ a x e p. names x _ _ p.0 p.1.1 (flipped (gain_complete a.1.1.0));
  bdp = λ m b gain κ x s p. names x _ _ p.0 p.1.1 (flipped (bdp_complete b gain));
  bdp1 = λ m b κ x s p. names x _ _ p.0 p.1.1 (flipped (bdp1_complete b));
  pacing = λ κ a x e p. names x _ _ p.0 p.1.1 (flipped (gain_complete a.1.0));
  cwnd = λ κ a x e p. names x _ _ p.0 p.1.1 (flipped (gain_complete a.1.0));
  high = λ κ a x e p. names x _ _ p.0 p.1.1 (flipped (limit_complete a.1.0));
  cap = λ κ a x e p. names x _ _ p.0 p.1.1 (flipped (limit_complete a.1.0));
  postpone = λ κ a x e p. names x _ _ p.0 p.1.1 (flipped (postpone_complete a.1.0 _));
  fresh = λ κ a x e p. names x _ _ p.0 p.1.1 (flipped (now_complete a.1.0));
  made_cycle = λ t κ x s p. names x _ _ p.0 p.1.1 (flipped (now_complete t));
  down = λ κ a x e p. names x _ _ p.0 p.1.1.1 (flipped (down_complete a.1.1.1.1.1.0));
  cruise = λ κ a x e p. names x _ _ p.0 p.1.1.1 (flipped (cruise_complete a.1.1.0));
  refill = λ κ a x e p. names x _ _ p.0 p.1.1.1 (flipped (refill_complete a.1.1.0 a.1.1.1.0));
  up = λ κ a x e p. names x _ _ p.0 p.1.1.1 (flipped (up_complete a.1.1.0 a.1.1.1.0));
  slope = λ κ a x e p. names x _ _ p.0 p.1.1 (flipped (slope_complete a.1.0));
}
