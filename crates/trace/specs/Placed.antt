-- A line where it stands in a trace: which lines are refused with 6, and the first field at fault. Both programs ask
-- this, `replay` and `mend`.
use Rattle.std.specs.Prelude.{Bool, cond, Result, Ok, Err}
use Rattle.text.specs.declared.line.Line.{Line}
use Rattle.text.specs.declared.line.Line.TheVariants.{Start, Sent, Event}
use Rattle.text.specs.declared.line.BadField.{BadField}
use Rattle.text.specs.Line.{refused}

-- document 02, request j: 6 "for .. a send or event before any accepted start"; request k: 0 "for a missing start where
-- no field is at fault". `Err` is a line that is refused with 6 (crates/text/specs/Line.antt)
unfoldable pub early : Result Line BadField → Result Line BadField
early (Err b) = Err b
early (Ok (Start time rtt)) = Ok (Start time rtt)
early (Ok (Sent time inflight number bytes)) = refused 0
early (Ok (Event e)) = refused 0

-- `started` says whether a start was accepted before it
unfoldable pub placed_at : (started : Bool) → Result Line BadField → Result Line BadField
placed_at started l = cond started l (early l)
