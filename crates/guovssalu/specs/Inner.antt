-- What a private function of the slope answers on the way. It follows the code: no exported contract and no theorem
-- cites it, so that a reader need not believe it.
use Rattle.std.specs.Prelude.{ℕ, Option, None, Some}

-- ---- the slope: a byte count, 0 where there is none; a slope that is raised has one
abbrev pub count_in : Option ℕ → ℕ
count_in None = 0
count_in (Some count) = count
