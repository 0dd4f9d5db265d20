-- What holds of every trace. Assumes nothing.
use mathlib.Core.List.{[]}
use Rattle.rows.proofs.Rows.{row_few}
use Rattle.trace.specs.Replay.{begin}
use Rattle.trace.specs.Laws.{TraceLaws}
use Rattle.trace.proofs.Occur.{occurs_finish}
use Rattle.trace.proofs.Fed.{all_pieces, whole_output}
use Rattle.trace.proofs.Answers.{fed_some}
use Rattle.trace.proofs.Back.{written}

pub trace_laws : TraceLaws
trace_laws =
    record {
      finish = occurs_finish;
      pieces = λ room cs text held r fits f. all_pieces room fits cs text held r f;
      whole = whole_output;
      fed = λ room cs. fed_some room cs begin [];
      row = row_few;
      written = written;
    }
