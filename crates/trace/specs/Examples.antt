-- Inputs worked out: the output of each.
use Rattle.std.specs.Prelude.{[], ◌∷◌, ◌++◌, ◌≡◌}
use Rattle.text.specs.Text.{bytes, line}
use Rattle.trace.specs.Output.{input_header, output_header, output_of}

pub record TracesWorked : Type 0 where
  -- document 02's whole input, and its "Whole output, at beta 0.3"
  pub whole :
      output_of
      (input_header
      ++ line "start,0,,,,,,,,100000000,"
      ++ line "sent,500,,0,1,1300,,,,,"
      ++ line "event,1000,1300,1300,1,,0,1300,,,0")
      ≡ output_header
      ++ line "1,0,0,0,,"
      ++ line "2,0,0,0,,"
      ++ line "3,0,1,0,910,"
  -- "A wrong or missing header gives the output header and `0,6,,,,` alone": none, one without its LF, one in
  -- capitals
  pub missing : output_of [] ≡ output_header ++ line "0,6,,,,"
  pub cut_header :
      output_of (bytes "kind,time,cwnd,inflight,number,bytes,acked,lost,bw,rtt,probing" ++ (13 ∷ []))
      ≡ output_header ++ line "0,6,,,,"
  pub capitals :
      output_of (line "KIND,time,cwnd,inflight,number,bytes,acked,lost,bw,rtt,probing" ++ line "start,0,,,,,,,,1,")
      ≡ output_header ++ line "0,6,,,,"
  -- the header alone
  pub header_alone : output_of input_header ≡ output_header
  -- "Before an accepted start, the state columns are empty": a refused start, a send and a line that is none
  pub before_start :
      output_of
      (input_header
      ++ line "start,4611686018427387905,,,,,,,,1,"
      ++ line "sent,500,,0,1,1300,,,,,"
      ++ line "")
      ≡ output_header ++ line "1,2.9,,,," ++ line "2,6,,,," ++ line "3,6,,,,"
  -- "a refused line the unchanged one; the replay goes on": a refused second start, an earlier moment, a number never
  -- sent, a line that LF alone ends, and one that nothing ends
  pub goes_on :
      output_of
      (input_header
      ++ line "start,0,,,,,,,,100000000,"
      ++ line "sent,500,,0,1,1300,,,,,"
      ++ line "start,4611686018427387905,,,,,,,,1,"
      ++ line "event,1000,1300,1300,1,,0,1300,,,0"
      ++ line "sent,999,,0,2,1300,,,,,"
      ++ line "event,1001,1300,0,2,,0,1300,,,0"
      ++ bytes "sent,1002,,0,2,1300,,,,,\n"
      ++ bytes "sent,10")
      ≡ output_header
      ++ line "1,0,0,0,,"
      ++ line "2,0,0,0,,"
      ++ line "3,2.9,0,0,,"
      ++ line "4,0,1,0,910,"
      ++ line "5,3,1,0,910,"
      ++ line "6,10,1,0,910,"
      ++ line "7,6,1,0,910,"
      ++ line "8,6,1,0,910,"
  -- "A second start begins afresh"
  pub afresh :
      output_of
      (input_header
      ++ line "start,0,,,,,,,,100000000,"
      ++ line "sent,500,,0,1,1300,,,,,"
      ++ line "event,1000,1300,1300,1,,0,1300,,,0"
      ++ line "start,0,,,,,,,,100000000,")
      ≡ output_header ++ line "1,0,0,0,," ++ line "2,0,0,0,," ++ line "3,0,1,0,910," ++ line "4,0,0,0,,"
  -- where several refusals hold: 6 first, then by the table, and of several 2 the first in the order of the call; an
  -- empty line at the end
  pub first_asked :
      output_of
      (input_header
      ++ line "sent,4611686018427387905,,0,1,1300,,,,,"
      ++ line "start,4611686018427387905,,,,,,,,68719476737,"
      ++ line "start,9,,,,,,,,100000000,"
      ++ line "event,1,1300,0,,,4611686018427387905,0,1099511627777,,0"
      ++ line "event,1,1300,0,1,,0,0,,,0"
      ++ line "event,9,1300,0,1,,0,0,,,0"
      ++ line "")
      ≡ output_header
      ++ line "1,6,,,,"
      ++ line "2,2.4,,,,"
      ++ line "3,0,0,0,,"
      ++ line "4,2.3,0,0,,"
      ++ line "5,3,0,0,,"
      ++ line "6,10,0,0,,"
      ++ line "7,6,0,0,,"
