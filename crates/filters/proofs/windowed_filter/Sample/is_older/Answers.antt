-- `Sample::is_older` is no for a later estimate: its age in ℕ is 0, and no limit is below 0.
use native.Mathlib.Nat.{le_of_lt, sub-eq-zero_of_le}
use borrow.Author.Tests.{le-ltb}
use native.Mathlib.Omega.{arith}
use Rattle.filters.proofs.windowed_filter.Sample.is_older.Goals as goal

pub returns-then-time-self : goal.returns-then-time-self
returns-then-time-self c = rw (sub-eq-zero_of_le (le_of_lt c.if-time-self.true), le-ltb c.args.limit 0 (omega arith))
