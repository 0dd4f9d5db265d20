-- Why the estimates moved: document 02, request f. "An update shall also answer one of: all replaced, second raised,
-- third raised, promoted once, promoted twice, quarter refresh, half refresh, unchanged. If step 2 of document 01 and a
-- later step both act, the later one is named." So the name is that of the step that acted last, whatever the three
-- estimates then are: they may all be new after step 3 too. All replaced is step 1, raised step 2, promoted step 3,
-- quarter refresh step 4, half refresh step 5, unchanged none.
use Rattle.std.specs.Prelude.{ℕ, ◌/◌, cond, ltb, Option, None, Some}
use Rattle.filters.specs.declared.windowed_filter.Estimates.{Estimates}
use Rattle.filters.specs.declared.windowed_filter.Reason.{Reason}
use Rattle.filters.specs.declared.windowed_filter.Reason.TheVariants.{AllReplaced, SecondRaised, ThirdRaised, PromotedOnce, PromotedTwice, QuarterRefresh, HalfRefresh, Unchanged}
use Rattle.filters.specs.declared.windowed_filter.Sample.{Sample}
use Rattle.filters.specs.declared.windowed_filter.WindowedFilter.{WindowedFilter}
use Rattle.filters.specs.WindowedFilter.{sample_at, is_older, is_replaced, raised, lingers, is_after}

-- "numbered 0 to 7 in this order"
abbrev pub reason_number : Reason → ℕ
reason_number AllReplaced = 0
reason_number SecondRaised = 1
reason_number ThirdRaised = 2
reason_number PromotedOnce = 3
reason_number PromotedTwice = 4
reason_number QuarterRefresh = 5
reason_number HalfRefresh = 6
reason_number Unchanged = 7

-- step 2, by its two tests
unfoldable pub raised_reason : Estimates → Sample → Reason
raised_reason e new =
    cond (ltb e.second.sample new.sample) SecondRaised
    (cond (ltb e.third.sample new.sample) ThirdRaised Unchanged)

-- step 3: "if the new best is still too old" it promotes twice
unfoldable pub shifted_reason : Estimates → Sample → ℕ → Reason
shifted_reason e new w = cond (is_older e.second w new.time) PromotedTwice PromotedOnce

-- steps 4 and 5, by their tests; where neither acts, what acted before them
unfoldable pub renewed_reason : Estimates → Sample → ℕ → (before : Reason) → Reason
renewed_reason e new w before =
    cond (lingers e.second e.best (w / 4) new.time) QuarterRefresh
    (cond (lingers e.third e.second (w / 2) new.time) HalfRefresh before)

-- steps 3 to 5, of which the first that applies is the last
unfoldable pub aged_reason : Estimates → Sample → ℕ → (before : Reason) → Reason
aged_reason e new w before =
    cond (is_older e.best w new.time) (shifted_reason e new w) (renewed_reason e new w before)

-- step 1, "empty" too; else the steps after it, 3 to 5 on the estimates that step 2 leaves
abbrev pub reason_of : Option Estimates → Sample → ℕ → Reason
reason_of None new w = AllReplaced
reason_of (Some e) new w =
    cond (is_replaced e new w) AllReplaced (aged_reason (raised e new) new w (raised_reason e new))

-- a refused update leaves the filter unchanged, and says so
unfoldable pub windowed_reason : WindowedFilter → ℕ → ℕ → Reason
windowed_reason f s t = cond (is_after f.held t) Unchanged (reason_of f.held (sample_at s t) f.window)

-- what steps 3 to 5 name by themselves, after step 2: Unchanged where none of them acts
abbrev pub later_reason : Estimates → Sample → ℕ → Reason
later_reason e new w = aged_reason (raised e new) new w Unchanged
