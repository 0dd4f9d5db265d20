-- What holds of every mended trace. Assumes nothing.
use mathlib.Core.List.{[]}
use mathlib.Core.Path.{refl}
use lib.ListN.{drop}
use Rattle.trace.specs.Replay.{begin}
use Rattle.trace.specs.Stream.{lines_from}
use Rattle.mending.specs.Laws.{MendLaws}
use Rattle.mending.proofs.Kept as Kept
use Rattle.mending.proofs.Bytes as Bytes
use Rattle.mending.proofs.Runs as Runs
use Rattle.mending.proofs.Fed as Fed

pub mend_laws : MendLaws
mend_laws =
    record {
      six = Kept.six_some;
      six_where = Kept.six_where;
      kept_parts = Kept.kept_parts;
      listed_parts = Kept.listed_parts;
      sum = Kept.sum;
      place = Kept.place;
      rising = Kept.rising;
      replayed = λ ls. (Kept.again begin begin ls refl).rows;
      again = λ ls. let a = Kept.again begin begin ls refl in (a.kept, a.listed);
      sound = Kept.sound;
      lines = λ t. (Bytes.mended_lines t, Bytes.kept_lines_lem t);
      twice = Bytes.twice;
      whole = Bytes.whole;
      rows = Bytes.rows_are;
      run = λ m s at room places. let on = Runs.run_on room places s m at in (on.kept, on.list, on.mend);
      stops = λ m s at room places a b h. Runs.stops room places s m at (lines_from [] (drop at s)) a b refl h;
      pieces = Fed.pieces;
      counts = Fed.counts;
    }
