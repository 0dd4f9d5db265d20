-- A line of a trace. Document 02, request j, of refusal 6: "asked before all others, for a line over 4,096 bytes with
-- its end or without CR LF, a wrong field count, an unknown kind, probing other than 0 or 1, a number not in plain
-- digits (no quotes, no leading zero but in 0 itself) or above 2^64 - 1, a field wrongly filled or empty, or a send
-- or event before any accepted start." Of the last this page knows nothing: crates/trace.
use Rattle.std.specs.Prelude.{ℕ, ◌+◌, ◌-◌, Bool, cond, ◌&&◌, List, [], ◌∷◌, map, eqb, leb, length, take, get_or, Option, None, Some, Result, Ok, Err}
use Rattle.text.specs.Number.{cell_of, number_of}
use Rattle.text.specs.Word.{kind_of}
use Rattle.text.specs.Fields.{fields, rules_of, fault_from}
use Rattle.text.specs.declared.number.Cell.{Cell}
use Rattle.text.specs.declared.number.Cell.TheVariants.{Empty, Number, Other}
use Rattle.text.specs.declared.word.Kind.{Kind}
use Rattle.text.specs.declared.line.Line.{Line}
use Rattle.text.specs.declared.line.Line.TheVariants.{Start, Sent, Event}
use Rattle.text.specs.declared.line.BadField.{BadField}

-- "empty for none"
abbrev pub given : Cell → Option ℕ
given Empty = None
given (Number n) = Some n
given Other = Some 0

-- the number of the k-th of ten fields
abbrev pub number_at : List Cell → (k : ℕ) → ℕ
number_at cs k = number_of (get_or cs k Empty)

-- what a line of a kind asks, by its ten fields: time, cwnd, inflight, number, bytes, acked, lost, bw, rtt, probing
abbrev pub made_of : Kind → List Cell → Line
made_of Kind.Start cs = Start (number_at cs 0) (number_at cs 8)
made_of Kind.Sent cs = Sent (number_at cs 0) (number_at cs 2) (number_at cs 3) (number_at cs 4)
made_of Kind.Event cs =
    Event record {
      time = number_at cs 0;
      cwnd = number_at cs 1;
      inflight = number_at cs 2;
      number = given (get_or cs 3 Empty);
      acked = number_at cs 5;
      lost = number_at cs 6;
      bw = given (get_or cs 7 Empty);
      rtt = given (get_or cs 8 Empty);
      probing = eqb (number_at cs 9) 1;
    }

-- ---- a line that is refused with 6; k is the first field at fault: 1 the kind, 2 the time and so on to 11, and 0
-- where none is (document 02, request k, will list it)
abbrev pub refused : (k : ℕ) → Result Line BadField
refused k = Err record { field = k }

abbrev pub unless : Option ℕ → Line → Result Line BadField
unless None l = Ok l
unless (Some k) l = refused k

-- the ten fields of a line of a kind: "an unknown kind", then "a field wrongly filled or empty" and the others
unfoldable pub rest_of : Option Kind → List (List ℕ) → Result Line BadField
rest_of None fs = refused 1
rest_of (Some kind) fs =
    let cells = map cell_of fs in unless (fault_from 2 (rules_of kind) cells) (made_of kind cells)

-- "a wrong field count": eleven are right
unfoldable pub fields_line : List (List ℕ) → Result Line BadField
fields_line [] = refused 0
fields_line (f ∷ fs) = cond (eqb (length fs) 10) (rest_of (kind_of f) fs) (refused 0)

-- a line without its CR LF
unfoldable pub body_of : List ℕ → Result Line BadField
body_of s = fields_line (fields s)

-- CR, 13, and LF, 10, at its end
unfoldable pub ended : List ℕ → Bool
ended s = leb 2 (length s) && (eqb (get_or s (length s - 2) 0) 13 && eqb (get_or s (length s - 2 + 1) 0) 10)

-- a line with its end, by its bytes: "over 4,096 bytes with its end or without CR LF"
unfoldable pub line_of : List ℕ → Result Line BadField
line_of s = cond (leb (length s) 4096 && ended s) (body_of (take (length s - 2) s)) (refused 0)
