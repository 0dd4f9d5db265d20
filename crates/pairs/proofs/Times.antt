-- Where no time falls, no pair is refused: a filter holds no time later than the latest that it was fed (crates/worth). Assumes nothing.
use Rattle.std.specs.Prelude.{Option, None, Some}
use Prim.Native.Nat.{ℕ, zero, suc, ◌+◌, ◌≤◌}
use Rattle.filters.specs.declared.windowed_filter.Estimates.{Estimates}
use mathlib.Core.Bool.{false}
use mathlib.Core.List.{List, [], ◌∷◌}
use mathlib.Core.Path.{◌≡◌, refl}
use native.Mathlib.Nat.{le_refl, le_trans, max-le}
use borrow.Author.Tests.{ltb-false, le-ltb}
use lib.Dec.{ltb}
use Rattle.filters.specs.declared.windowed_filter.Sample.{Sample}
use Rattle.filters.specs.declared.windowed_filter.WindowedFilter.{WindowedFilter}
use Rattle.filters.specs.WindowedFilter.{sample_at, updated, is_after, windowed_new, windowed_number, windowed_update}
use Rattle.worth.specs.Worth.{update, fed_by, latest, Promised, Holds}
use Rattle.worth.proofs.Worth.{stands_by, step_holds, every_run}
use Rattle.state.proofs.Rows.{or_left, or_right}
use Rattle.words.specs.Words.{word_at}
use Rattle.pairs.specs.Pairs.{after_pair, refuses}
use Rattle.pairs.specs.Inner.{times_fall}

not_after : (w : ℕ) (fed : List Sample) (h : Option Estimates) (t : ℕ) → Promised w fed h → latest fed ≤ t → is_after h t ≡ false
not_after w fed None t p l = refl
not_after w fed (Some e) t p l =
    let third = le_trans (stands_by fed e.third p.third) l in
    let second = le_trans p.third_time third in
    rw (le-ltb t e.best.time (le_trans p.second_time second), le-ltb t e.second.time second, le-ltb t e.third.time third)

-- from a filter that was fed nothing later than `last`
none_refused :
    (f : WindowedFilter) (fed : List Sample) (last : ℕ) (src : List ℕ) (at n : ℕ) → Holds f.window (record { filter = f; fed = fed }) → latest fed ≤ last →
    times_fall last src at n ≡ false → refuses f src at n ≡ false
unfolding times_fall refuses after_pair windowed_number windowed_update fed_by
none_refused f fed last src at zero p l h = refl
none_refused f fed last src at (suc n) p l h =
    let s = word_at src (at + 8) in
    let t = word_at src at in
    let later = times_fall t src (at + 16) n in
    let past = le_trans l (ltb-false t last (or_left (ltb t last) later h)) in
    let taken = not_after f.window fed f.held t p.promised past in
    let next = rw taken at (step_holds f.window (record { filter = f; fed = fed }) (update s t) p) in
    rw taken
    (none_refused (record { window = f.window; held = Some (updated f.held (sample_at s t) f.window) }) (sample_at s t ∷ fed) t src (at + 16) n next (max-le (le_refl t) past) (or_right (ltb t last) later h))

pub never_refused : (w : ℕ) (src : List ℕ) (at n : ℕ) → times_fall 0 src at n ≡ false → refuses (windowed_new w) src at n ≡ false
never_refused w src at n h = none_refused (windowed_new w) [] 0 src at n (every_run.run w []) (le_refl 0) h
