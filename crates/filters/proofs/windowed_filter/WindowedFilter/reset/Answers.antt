-- `WindowedFilter::reset` fills the filter: by what `Estimates::all` promises.
use Rattle.filters.specs.WindowedFilter.{windowed_reset}
use Rattle.filters.proofs.windowed_filter.WindowedFilter.reset.Goals as goal

pub returns : goal.returns
unfolding windowed_reset
returns c = rw c.all.ensures
