-- The lines of specs/Examples.antt. Assumes nothing.
use mathlib.Core.Path.{refl, sym}
use Rattle.text.specs.Text.{bytes}
use Rattle.text.specs.Number.{digits_only, value_from, leads, plain, cell_of}
use Rattle.text.specs.Word.{same}
use Rattle.text.specs.Fields.{fields, fault_from}
use Rattle.text.specs.Line.{rest_of, fields_line, body_of, ended, line_of}
use Rattle.text.specs.Examples.{LinesWorked}
use Rattle.text.proofs.Lines.{line_long}

pub lines_worked : LinesWorked
unfolding bytes digits_only value_from leads plain cell_of same fields fault_from rest_of fields_line body_of ended line_of
lines_worked =
    record {
      start = refl;
      sent = refl;
      event = refl;
      lf_alone = refl;
      cr_alone = refl;
      no_end = refl;
      nothing = refl;
      empty = refl;
      ten = refl;
      twelve = refl;
      unknown = refl;
      quoted_kind = refl;
      capital = refl;
      probing = refl;
      leading_zero = refl;
      quoted = refl;
      signed = refl;
      blank = refl;
      largest = refl;
      above = refl;
      filled = refl;
      bytes_filled = refl;
      missing = refl;
      too_long = λ s h. sym (line_long s h);
    }
