-- What holds of the reason that an update of a windowed filter answers (crates/filters/specs/Reason.antt): document 02,
-- request f. Statements only; crates/theorems/specs/Theorems.antt says how to read them, and Replies.antt beside this
-- file what `EveryOutcome` says of a contract. crates/filters/specs/Examples.antt has each of the four pairs worked
-- out.
use Rattle.std.specs.Prelude.{ℕ, Bool, true, false, ◌⊎◌, ◌↔◌, ◌≡◌, Some}
use Rattle.units.specs.Reply.{kept}
use Rattle.filters.specs.declared.windowed_filter.Estimates.{Estimates}
use Rattle.filters.specs.declared.windowed_filter.Reason.{Reason}
use Rattle.filters.specs.declared.windowed_filter.Reason.TheVariants.{AllReplaced, SecondRaised, ThirdRaised, PromotedOnce, PromotedTwice, QuarterRefresh, HalfRefresh, Unchanged}
use Rattle.filters.specs.declared.windowed_filter.Sample.{Sample}
use Rattle.filters.specs.Reason.{raised_reason, later_reason, reason_of}
use Rattle.filters.specs.WindowedFilter.{is_replaced, best_of}
use Rattle.filters.proofs.windowed_filter.WindowedFilter as windowed
use Rattle.laws.specs.Replies.{EveryOutcome}

-- a step acts where it names anything but Unchanged
abbrev pub Acts : Reason → Type 0
Acts r = r ≡ Unchanged → ⊥

-- step 2 names the one and the later steps the other, each by itself
abbrev pub Meet : Estimates → Sample → ℕ → (raised later : Reason) → Type 0
Meet e new w raised later = (raised_reason e new ≡ raised) × (later_reason e new w ≡ later)

-- the reasons with which the best estimate can move
abbrev pub moves_best : Reason → Bool
moves_best AllReplaced = true
moves_best SecondRaised = false
moves_best ThirdRaised = false
moves_best PromotedOnce = true
moves_best PromotedTwice = true
moves_best QuarterRefresh = false
moves_best HalfRefresh = false
moves_best Unchanged = false

pub record Reasons : Type 0 where
  -- "unchanged" exactly when the update left the filter as it was; a refused one does, and is read as unchanged
  pub unchanged :
      EveryOutcome windowed.update.Reads.Learnt
      (λ κ a x e. (kept x Unchanged ≡ Unchanged) ↔ (e.0.now ≡ a.0.now))
  -- "why the best estimate moved": it moves with step 1 and step 3 alone
  pub best :
      EveryOutcome windowed.update.Reads.Learnt
      (λ κ a x e. moves_best (kept x Unchanged) ≡ false → best_of e.0.now.held ≡ best_of a.0.now.held)
  -- where step 1 does not act: "If step 2 of document 01 and a later step both act, the later one is named", and where
  -- no later step acts, step 2
  pub later : (e : Estimates) (new : Sample) (w : ℕ) → is_replaced e new w ≡ false →
      Acts (later_reason e new w) → reason_of (Some e) new w ≡ later_reason e new w
  pub earlier : (e : Estimates) (new : Sample) (w : ℕ) → is_replaced e new w ≡ false →
      later_reason e new w ≡ Unchanged → reason_of (Some e) new w ≡ raised_reason e new
  -- step 2 and a later step both act in four ways and no other
  pub both : (e : Estimates) (new : Sample) (w : ℕ) → Acts (raised_reason e new) → Acts (later_reason e new w) →
      Meet e new w SecondRaised PromotedOnce
      ⊎ (Meet e new w ThirdRaised PromotedOnce
      ⊎ (Meet e new w ThirdRaised PromotedTwice
      ⊎ Meet e new w ThirdRaised QuarterRefresh))
