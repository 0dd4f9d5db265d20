-- What holds of every trace. Statements only; proofs/ proves them.
use Rattle.std.specs.Prelude.{ℕ, ◌^◌, ◌≤◌, ◌<◌, List, [], ◌++◌, ◌≡◌, length}
use Rattle.state.specs.declared.network_model.NetworkModel.{NetworkModel}
use Rattle.events.specs.Event.{finish_number}
use Rattle.text.specs.declared.line.Event.{Event}
use Rattle.text.specs.declared.number.Cell.TheVariants.{Number}
use Rattle.text.specs.Number.{cell_of}
use Rattle.rows.specs.Digits.{decimal}
use Rattle.rows.specs.declared.row.Row.{Row}
use Rattle.rows.specs.Row.{row_text}
use Rattle.trace.specs.declared.replay.Replay.{Replay}
use Rattle.trace.specs.Made.{occurs_number, record_after, started_model}
use Rattle.trace.specs.Replay.{begin}
use Rattle.trace.specs.Output.{input_header, output_header, last_row, last_replay, rows_after, replay_after, output_of}
use Rattle.trace.specs.Pieces.{joined, Fed}

pub record TraceLaws : Type 0 where
  -- "An accepted event is followed by its finish": that finish is never refused
  pub finish : (m : NetworkModel) (e : Event) → occurs_number m e ≡ 0 →
      finish_number (started_model m e) (record_after m e) ≡ 0
  -- However what follows the header is cut into pieces: what is written for them and, where bytes are held at the
  -- end, for the last line, are the rows of the whole, and the replay is that of the whole. (A row has room in 148
  -- bytes)
  pub pieces : (room : ℕ) (cs : List (List ℕ)) (text held : List ℕ) (r : Replay) → 148 ≤ room →
      Fed room begin [] cs text r held →
      (text ++ last_row r held ≡ rows_after (joined cs)) × (last_replay r held ≡ replay_after (joined cs))
  -- So behind the right header it is the whole output
  pub whole : (room : ℕ) (cs : List (List ℕ)) (text held : List ℕ) (r : Replay) → 148 ≤ room →
      Fed room begin [] cs text r held →
      output_header ++ (text ++ last_row r held) ≡ output_of (input_header ++ joined cs)
  -- And any pieces can be taken so
  pub fed : (room : ℕ) (cs : List (List ℕ)) →
      (text : List ℕ) × (r : Replay) × (held : List ℕ) × Fed room begin [] cs text r held
  -- No row is longer than 148 bytes
  pub row : (r : Row) → length (row_text r) ≤ 148
  -- A number that is written is a number of a trace, and the same one
  pub written : (n : ℕ) → n < 2 ^ 64 → cell_of (decimal n) ≡ Number n
