-- The windowed filter: document 01, "Filters and rounds", windowed filter, steps 1 to 5; windowed_filter.rs.
use Rattle.std.specs.Prelude.{ℕ, ◌-◌, ◌/◌, Bool, false, cond, ◌&&◌, ◌||◌, ltb, eqb, Option, None, Some}
use Rattle.filters.specs.declared.windowed_filter.Estimates.{Estimates}
use Rattle.filters.specs.declared.windowed_filter.Sample.{Sample}
use Rattle.filters.specs.declared.windowed_filter.WindowedFilter.{WindowedFilter}

-- a sample with its time
abbrev pub sample_at : ℕ → ℕ → Sample
sample_at s t = record { sample = s; time = t }

-- three estimates, from the best to the third
abbrev pub estimates : Sample → Sample → Sample → Estimates
estimates a b c = record { best = a; second = b; third = c }

-- "all three become the new sample"
abbrev pub all_three : Sample → Estimates
all_three new = estimates new new new

-- "All age tests are strictly greater": an estimate's age at a time is above a limit
abbrev pub is_older : Sample → ℕ → ℕ → Bool
is_older e limit t = ltb limit (t - e.time)

-- step 1, of a filter that is not empty: "new sample > best, or age of third > window"
unfoldable pub is_replaced : Estimates → Sample → ℕ → Bool
is_replaced e new w = ltb e.best.sample new.sample || is_older e.third w new.time

-- step 2: "sample > second: second and third become it. Else sample > third: third becomes it"
unfoldable pub raised : Estimates → Sample → Estimates
raised e new =
    cond (ltb e.second.sample new.sample)
    (estimates e.best new new)
    (cond (ltb e.third.sample new.sample) (estimates e.best e.second new) e)

-- step 3: "shift up, third becomes the new sample; if the new best is still too old, best takes second and second takes
-- third, third staying"
unfoldable pub shifted : Estimates → Sample → ℕ → Estimates
shifted e new w =
    cond (is_older e.second w new.time)
    (estimates e.third new new)
    (estimates e.second e.third new)

-- steps 4 and 5: an estimate's sample equals the better one's, and its age is above a limit
unfoldable pub lingers : Sample → Sample → ℕ → ℕ → Bool
lingers e better limit t = eqb e.sample better.sample && is_older e limit t

-- step 4: "second's sample equals best's and second's age > window / 4 (whole division): second and third become new.
-- Stop"; step 5: "Else if third's sample equals second's and third's age > window / 2: third becomes new"
unfoldable pub renewed : Estimates → Sample → ℕ → Estimates
renewed e new w =
    cond (lingers e.second e.best (w / 4) new.time)
    (estimates e.best new new)
    (cond (lingers e.third e.second (w / 2) new.time) (estimates e.best e.second new) e)

-- step 3: "If age of best > window: shift up .. Stop"; else steps 4 and 5
unfoldable pub aged : Estimates → Sample → ℕ → Estimates
aged e new w = cond (is_older e.best w new.time) (shifted e new w) (renewed e new w)

-- step 1: "Empty, new sample > best, or age of third > window: all three become the new sample"; else steps 2 to 5
abbrev pub updated : Option Estimates → Sample → ℕ → Estimates
updated None new w = all_three new
updated (Some e) new w = cond (is_replaced e new w) (all_three new) (aged (raised e new) new w)

-- an empty filter: new, and clear
abbrev pub windowed_new : ℕ → WindowedFilter
windowed_new w = record { window = w; held = None }

-- all three are the sample: reset
unfoldable pub windowed_reset : WindowedFilter → ℕ → ℕ → WindowedFilter
windowed_reset f s t = record { window = f.window; held = Some (all_three (sample_at s t)) }

-- get_best, get_second_best, get_third_best
abbrev pub best_of : Option Estimates → Option ℕ
best_of None = None
best_of (Some e) = Some e.best.sample

abbrev pub second_of : Option Estimates → Option ℕ
second_of None = None
second_of (Some e) = Some e.second.sample

abbrev pub third_of : Option Estimates → Option ℕ
third_of None = None
third_of (Some e) = Some e.third.sample

-- "Replies and bounds", row 3: "earlier than any of its three stored times"
abbrev pub is_after : Option Estimates → ℕ → Bool
is_after None t = false
is_after (Some e) t = ltb t e.best.time || ltb t e.second.time || ltb t e.third.time

unfoldable pub windowed_number : WindowedFilter → ℕ → ℕ
windowed_number f t = cond (is_after f.held t) 3 0

-- "Every refusal returns the state unchanged"
unfoldable pub windowed_update : WindowedFilter → ℕ → ℕ → WindowedFilter
windowed_update f s t =
    cond (is_after f.held t) f
    (record { window = f.window; held = Some (updated f.held (sample_at s t) f.window) })
