-- What a summary at the end counts, line by line.
use Rattle.std.specs.Prelude.{ℕ, min, ◌+◌, ◌-◌, ◌^◌, Bool, cond, not, ◌&&◌, eqb, Option, None, Some}
use Rattle.std.specs.Bool.{then_some}
use Rattle.std.specs.Option.{option_eq, option_or}
use Rattle.rows.specs.declared.row.Row.{Row}
use Rattle.trace.specs.declared.tally.Tally.{Tally}

-- one more, but not above 2^64 - 1 (docs/DECISIONS.md, 168)
unfoldable pub one_more : ℕ → ℕ
one_more n = cond (eqb n (2 ^ 64 - 1)) n (n + 1)

unfoldable pub grown : (grows : Bool) → ℕ → ℕ
grown grows n = cond grows (one_more n) n

-- nothing is counted yet; `lowest` is 2^64 - 1 as long as no inflight_lo was set
abbrev pub no_tally : Tally
no_tally =
    record {
      rounds = 0;
      lowest = 2 ^ 64 - 1;
      first = None;
      refused = 0;
      text = 0;
      stored = 0;
      window = 0;
      bytes = 0;
      bandwidth = 0;
      length = 0;
      total = 0;
      moment = 0;
      earlier = 0;
      lower = 0;
      unsent = 0;
      full = 0;
    }

abbrev pub is : Row → (refusal : ℕ) (part : Option ℕ) → Bool
is r refusal part = eqb r.refusal refusal && option_eq eqb r.part part

-- after a row: `ended` says that a round ended, `lo` is inflight_lo as it is stored, 2^64 - 1 where it is unset
unfoldable pub tallied : Tally → (ended : Bool) (lo : ℕ) → Row → Tally
tallied t ended lo r =
    record {
      rounds = grown ended t.rounds;
      lowest = min t.lowest lo;
      -- the line of the first refusal
      first = option_or t.first (then_some (not (eqb r.refusal 0)) r.line);
      refused = grown (not (eqb r.refusal 0)) t.refused;
      -- refusals by their number: 6, 1, 2.1 to 2.5 and 2.9, 3, 4, 10, 5
      text = grown (is r 6 None) t.text;
      stored = grown (is r 1 None) t.stored;
      window = grown (is r 2 (Some 1)) t.window;
      bytes = grown (is r 2 (Some 2)) t.bytes;
      bandwidth = grown (is r 2 (Some 3)) t.bandwidth;
      length = grown (is r 2 (Some 4)) t.length;
      total = grown (is r 2 (Some 5)) t.total;
      moment = grown (is r 2 (Some 9)) t.moment;
      earlier = grown (is r 3 None) t.earlier;
      lower = grown (is r 4 None) t.lower;
      unsent = grown (is r 10 None) t.unsent;
      full = grown (is r 5 None) t.full;
    }
