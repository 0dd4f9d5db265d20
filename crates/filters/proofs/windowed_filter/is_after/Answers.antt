-- `is_after` follows the filter's case.
use Rattle.filters.proofs.windowed_filter.is_after.Goals as goal

pub returns : goal.returns
returns c = rw c.in-Some.is
