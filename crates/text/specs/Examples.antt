-- Lines worked out: document 02's own, and one or more for each cause of 6 that a line alone can have.
use Rattle.std.specs.Prelude.{ℕ, ◌-◌, ◌^◌, ◌<◌, false, List, [], ◌∷◌, ◌++◌, ◌≡◌, length, None, Some, Ok}
use Rattle.text.specs.Text.{bytes, crlf, line}
use Rattle.text.specs.Line.{line_of, refused}
use Rattle.text.specs.declared.line.Line.TheVariants.{Start, Sent, Event}

pub record LinesWorked : Type 0 where
  -- the input of document 02
  pub start : line_of (line "start,0,,,,,,,,100000000,") ≡ Ok (Start 0 100000000)
  pub sent : line_of (line "sent,500,,0,1,1300,,,,,") ≡ Ok (Sent 500 0 1 1300)
  pub event :
      line_of (line "event,1000,1300,1300,1,,0,1300,,,0")
      ≡ Ok (Event record {
        time = 1000;
        cwnd = 1300;
        inflight = 1300;
        number = Some 1;
        acked = 0;
        lost = 1300;
        bw = None;
        rtt = None;
        probing = false;
      })
  -- "without CR LF": LF alone, CR alone, nothing
  pub lf_alone : line_of (bytes "start,0,,,,,,,,1,\n") ≡ refused 0
  pub cr_alone : line_of (bytes "start,0,,,,,,,,1," ++ (13 ∷ [])) ≡ refused 0
  pub no_end : line_of (bytes "start,0,,,,,,,,1,") ≡ refused 0
  pub nothing : line_of [] ≡ refused 0
  -- "a wrong field count": one, ten and twelve
  pub empty : line_of crlf ≡ refused 0
  pub ten : line_of (line "start,0,,,,,,,,1") ≡ refused 0
  pub twelve : line_of (line "start,0,,,,,,,,1,,") ≡ refused 0
  -- "an unknown kind", also one in quotes or in other letters
  pub unknown : line_of (line "stop,0,,,,,,,,1,") ≡ refused 1
  pub quoted_kind : line_of (line "\"start\",0,,,,,,,,1,") ≡ refused 1
  pub capital : line_of (line "Start,0,,,,,,,,1,") ≡ refused 1
  -- "probing other than 0 or 1"
  pub probing : line_of (line "event,1,1,1,,,0,0,,,2") ≡ refused 11
  -- "a number not in plain digits (no quotes, no leading zero but in 0 itself)"
  pub leading_zero : line_of (line "start,0,,,,,,,,01,") ≡ refused 10
  pub quoted : line_of (line "start,\"0\",,,,,,,,1,") ≡ refused 2
  pub signed : line_of (line "start,+0,,,,,,,,1,") ≡ refused 2
  pub blank : line_of (line "start, 0,,,,,,,,1,") ≡ refused 2
  -- "or above 2^64 - 1": one inside and one outside
  pub largest : line_of (line "start,0,,,,,,,,18446744073709551615,") ≡ Ok (Start 0 (2 ^ 64 - 1))
  pub above : line_of (line "start,0,,,,,,,,18446744073709551616,") ≡ refused 10
  -- "a field wrongly filled or empty"
  pub filled : line_of (line "start,0,7,,,,,,,1,") ≡ refused 3
  pub bytes_filled : line_of (line "event,1,1,1,,9,0,0,,,0") ≡ refused 6
  pub missing : line_of (line "sent,500,,0,,1300,,,,,") ≡ refused 5
  -- "a line over 4,096 bytes with its end", whatever is in it
  pub too_long : (s : List ℕ) → 4096 < length s → line_of s ≡ refused 0
