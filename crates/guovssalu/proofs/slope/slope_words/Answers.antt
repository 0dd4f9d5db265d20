-- `guovssalu::slope_words` meets its contract: the slope that `raised` promises has its bytes. Assumes nothing.
use Rattle.phases.specs.Slope.{slope_raised}
use Rattle.guovssalu.specs.Slope.{slope_words}
use Rattle.guovssalu.proofs.slope.slope_words.Goals as goal

pub returns : goal.returns
unfolding slope_raised slope_words
returns c = simp c.count_in.ensures (simp c.slope_raised-raised.ensures)
