-- Traces worked out: what is kept of each, and what is listed.
use Rattle.std.specs.Prelude.{ℕ, List, [], ◌++◌, ◌≡◌}
use Rattle.text.specs.Text.{bytes, line}
use Rattle.trace.specs.Output.{input_header}
use Rattle.mending.specs.Mend.{mended_of, list_header, list_of}

-- what follows the header, what is written behind it, and what behind the list's header
abbrev pub Gives : (t kept list : List ℕ) → Type 0
Gives t kept list = (mended_of t ≡ input_header ++ kept) × (list_of t ≡ list_header ++ list)

pub record MendsWorked : Type 0 where
  -- "A sound trace comes out byte for byte the same, with a list of only its header": document 02's own input, and a
  -- header alone
  pub sound :
      let t =
      line "start,0,,,,,,,,100000000,"
      ++ line "sent,500,,0,1,1300,,,,,"
      ++ line "event,1000,1300,1300,1,,0,1300,,,0" in
      Gives t t []
  pub header_alone : Gives [] [] []
  -- "0 for length, a missing CR LF or field count": LF alone, an empty line, ten fields, twelve, a line that is cut at
  -- the end
  pub no_field :
      Gives
      (line "start,0,,,,,,,,1,"
      ++ bytes "sent,5,,0,1,1300,,,,,\n"
      ++ line ""
      ++ line "sent,5,,0,1,1300,,,,"
      ++ line "sent,5,,0,1,1300,,,,,,"
      ++ line "sent,6,,0,1,1300,,,,,"
      ++ bytes "sent,7")
      (line "start,0,,,,,,,,1," ++ line "sent,6,,0,1,1300,,,,,")
      (line "2,0" ++ line "3,0" ++ line "4,0" ++ line "5,0" ++ line "7,0")
  -- "first field at fault": the kind, whatever else is wrong; then each field from the left, and of several the first
  pub each_field :
      Gives
      (line "start,0,,,,,,,,1,"
      ++ line "Sent,05,,0,1,1300,,,,,"
      ++ line "sent,05,1,0,1,1300,,,,,"
      ++ line "start,0,7,,,,,,,1,"
      ++ line "sent,5,,+0,,1300,,,,,"
      ++ line "sent,5,,0,,1300,,,,,"
      ++ line "event,1,1,1,,9,0,0,,,0"
      ++ line "event,1,1,1,,,x,0,,,0"
      ++ line "event,1,1,1,,,0,18446744073709551616,,,0"
      ++ line "event,1,1,1,,,0,0, ,,0"
      ++ line "start,0,,,,,,,,01,"
      ++ line "event,1,1,1,,,0,0,,,2")
      (line "start,0,,,,,,,,1,")
      (line "2,1"
      ++ line "3,2"
      ++ line "4,3"
      ++ line "5,4"
      ++ line "6,5"
      ++ line "7,6"
      ++ line "8,7"
      ++ line "9,8"
      ++ line "10,9"
      ++ line "11,10"
      ++ line "12,11")
  -- "for a missing start where no field is at fault": a send, an event, and a send with a field at fault; a start that
  -- is none by itself and one that is refused with 2.9, which is kept, are no accepted starts
  pub no_start :
      Gives
      (line "sent,5,,0,1,1300,,,,,"
      ++ line "event,1,1,1,,,0,0,,,0"
      ++ line "sent,5,,0,01,1300,,,,,"
      ++ line "start,0,7,,,,,,,1,"
      ++ line "sent,5,,0,1,1300,,,,,"
      ++ line "start,4611686018427387905,,,,,,,,1,"
      ++ line "sent,5,,0,1,1300,,,,,"
      ++ line "start,0,,,,,,,,1,"
      ++ line "sent,5,,0,1,1300,,,,,")
      (line "start,4611686018427387905,,,,,,,,1," ++ line "start,0,,,,,,,,1," ++ line "sent,5,,0,1,1300,,,,,")
      (line "1,0" ++ line "2,0" ++ line "3,5" ++ line "4,3" ++ line "5,0" ++ line "7,0")
  -- Lines that are refused with another number are kept: 2.1, 3, 4, 10, and a second start with 2.4
  pub others_kept :
      let t =
      line "start,9,,,,,,,,1,"
      ++ line "event,9,1099511627777,0,,,0,0,,,0"
      ++ line "sent,8,,0,1,1300,,,,,"
      ++ line "event,9,1300,0,,,5,0,,,0"
      ++ line "event,9,1300,0,,,4,0,,,0"
      ++ line "event,9,1300,0,1,,5,0,,,0"
      ++ line "start,9,,,,,,,,68719476737,"
      ++ line "sent,10,,0,1,1300,,,,," in
      Gives t t []
