-- `Estimates::is_replaced` is either test: by what `is_older` promises.
use Rattle.filters.specs.WindowedFilter.{is_replaced}
use Rattle.filters.proofs.windowed_filter.Estimates.is_replaced.Goals as goal

pub returns : goal.returns
unfolding is_replaced
returns c = rw c.is_older.ensures
