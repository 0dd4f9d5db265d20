-- How the code goes over lines: of a replay it needs only how many lines there were, and whether a start was accepted.
-- That it keeps and lists what Mend.antt says is a law (Laws.antt, `follows`).
use Rattle.std.specs.Prelude.{ℕ, Bool, false, cond, ◌||◌, List, [], Result, Ok, Err, is_ok}
use Rattle.text.specs.declared.line.Line.{Line}
use Rattle.text.specs.declared.line.Line.TheVariants.{Start, Sent, Event}
use Rattle.text.specs.declared.line.BadField.{BadField}
use Rattle.text.specs.Line.{line_of}
use Rattle.rows.specs.Entry.{entry_text}
use Rattle.trace.specs.Made.{begins}
use Rattle.trace.specs.Placed.{placed_at}
use Rattle.trace.specs.Tally.{one_more}
use Rattle.mending.specs.declared.mend.Mend.{Mend}
use Rattle.mending.specs.declared.mend.Sorted.{Sorted}

-- before the first line
abbrev pub unread : Mend
unread = record { line = 0; kept = 0; listed = 0; started = false }

-- a line is kept; `begun` says that it is a start that is accepted
unfoldable pub keeps : Mend → (begun : Bool) → Sorted
keeps m begun =
    record {
      mend = record {
        line = one_more m.line;
        kept = one_more m.kept;
        listed = m.listed;
        started = m.started || begun;
      };
      reply = Ok tt;
    }

-- a line is listed, with the first field at fault
unfoldable pub lists : Mend → (field : ℕ) → Sorted
lists m field =
    record {
      mend = record {
        line = one_more m.line;
        kept = m.kept;
        listed = one_more m.listed;
        started = m.started;
      };
      reply = Err record { field = field };
    }

-- a line where it stands (crates/trace/specs/Placed.antt)
unfoldable pub sorted_here : Mend → Result Line BadField → Sorted
sorted_here m (Err b) = lists m b.field
sorted_here m (Ok (Start time rtt)) = keeps m (begins time rtt)
sorted_here m (Ok (Sent time inflight number bytes)) = keeps m false
sorted_here m (Ok (Event e)) = keeps m false

-- a line, as it is read, and by its bytes
unfoldable pub sorted_as : Mend → Result Line BadField → Sorted
sorted_as m l = sorted_here m (placed_at m.started l)

unfoldable pub sorted : Mend → List ℕ → Sorted
sorted m s = sorted_as m (line_of s)

-- ---- what is written of a line: the line itself, or its entry
unfoldable pub kept_text : Sorted → List ℕ → List ℕ
kept_text x l = cond (is_ok x.reply) l []

abbrev pub entry_of : (line : ℕ) → Result (Unit {0}) BadField → List ℕ
entry_of line (Ok u) = []
entry_of line (Err b) = entry_text line b.field

unfoldable pub list_text : Sorted → List ℕ
list_text x = entry_of x.mend.line x.reply
