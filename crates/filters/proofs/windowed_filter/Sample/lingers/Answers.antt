-- `Sample::lingers` is both tests: by what `is_older` promises.
use Rattle.filters.specs.WindowedFilter.{lingers}
use Rattle.filters.proofs.windowed_filter.Sample.lingers.Goals as goal

pub returns : goal.returns
unfolding lingers
returns c = rw c.is_older.ensures
