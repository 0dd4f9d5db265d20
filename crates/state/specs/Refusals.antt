-- document 01, "Replies and bounds": the table of refusals, with the row that document 02 adds. A call says by name
-- which of its rows hold (`Rows`, src/refusals.rt), and the first of them, in the order in which they are asked, is its
-- reply's number.
use Rattle.std.specs.Prelude.{ℕ, ◌-◌, ◌^◌, Bool, false, cond, ◌&&◌, eqb, Result, Ok, Err}
use Rattle.state.specs.declared.refusals.Cause.{Cause}
use Rattle.state.specs.declared.refusals.Cause.TheVariants.{Stored, Argument, Earlier, Lower, Full, Text, Short, Unsent}
use Rattle.state.specs.declared.refusals.Rows.{Rows}

-- a call has only some of the rows; the others never hold
abbrev pub no_rows : Rows
no_rows = record { stored = false; argument = false; earlier = false; lower = false; unsent = false; full = false }

-- row 1: "a stored number or a parameter is outside the bounds below"
abbrev pub stored : Bool → Rows → Rows
stored holds r =
    record {
      stored = holds;
      argument = r.argument;
      earlier = r.earlier;
      lower = r.lower;
      unsent = r.unsent;
      full = r.full;
    }

-- row 2: "an argument is outside its bounds, a byte list has a wrong length, or a postponed moment would exceed 2^62"
abbrev pub argument : Bool → Rows → Rows
argument holds r =
    record {
      stored = r.stored;
      argument = holds;
      earlier = r.earlier;
      lower = r.lower;
      unsent = r.unsent;
      full = r.full;
    }

-- row 3: "the moment given is earlier than the last accepted one; for the windowed filter, earlier than any of its
-- three stored times"
abbrev pub earlier : Bool → Rows → Rows
earlier holds r =
    record {
      stored = r.stored;
      argument = r.argument;
      earlier = holds;
      lower = r.lower;
      unsent = r.unsent;
      full = r.full;
    }

-- row 4: "the total acked or the total lost is lower than the one stored"
abbrev pub lower : Bool → Rows → Rows
lower holds r =
    record {
      stored = r.stored;
      argument = r.argument;
      earlier = r.earlier;
      lower = holds;
      unsent = r.unsent;
      full = r.full;
    }

-- row 10, document 02, request i: "An event whose acked list holds a number above the last sent one, or any number
-- before the first send"
abbrev pub unsent : Bool → Rows → Rows
unsent holds r =
    record {
      stored = r.stored;
      argument = r.argument;
      earlier = r.earlier;
      lower = r.lower;
      unsent = holds;
      full = r.full;
    }

-- row 5: "the call's rule adds 1 to a counter that is 2^64 - 1"
abbrev pub is_full_counter : ℕ → Bool
is_full_counter n = eqb n (2 ^ 64 - 1)

abbrev pub full : Bool → Rows → Rows
full holds r =
    record {
      stored = r.stored;
      argument = r.argument;
      earlier = r.earlier;
      lower = r.lower;
      unsent = r.unsent;
      full = holds;
    }

-- "If several refusals apply, the lowest number is given"; 0, done, where none does
unfoldable pub row_of : (stored argument earlier lower full : Bool) → ℕ
row_of stored argument earlier lower full =
    cond stored 1
    (cond argument 2
    (cond earlier 3
    (cond lower 4
    (cond full 5
    0))))

-- "10, asked after 4 and before 5": where row 10 holds, it is 10 unless one of the rows 1 to 4 holds, and row 5 is not
-- asked; where it does not hold, it is the lowest
unfoldable pub up_to_four : (stored argument earlier lower : Bool) → ℕ → ℕ
up_to_four stored argument earlier lower next =
    cond stored 1
    (cond argument 2
    (cond earlier 3
    (cond lower 4
    next)))

abbrev pub asked_of : (stored argument earlier lower unsent full : Bool) → ℕ
asked_of stored argument earlier lower unsent full =
    cond unsent (up_to_four stored argument earlier lower 10) (row_of stored argument earlier lower full)

abbrev pub first_of : Rows → ℕ
first_of r = asked_of r.stored r.argument r.earlier r.lower r.unsent r.full

-- the rows by the names that the code has for them
abbrev pub cause_row : Cause → ℕ
cause_row Stored = 1
cause_row Argument = 2
cause_row Earlier = 3
cause_row Lower = 4
cause_row Full = 5
cause_row Text = 6
cause_row Short = 7
cause_row Unsent = 10

-- the number of what a call of a run gives back: 0 where it is done
abbrev pub caused : {A : Type 0} → Result A Cause → ℕ
caused (Ok a) = 0
caused (Err c) = cause_row c

-- and what a caller has then: what the call gave, or where it was refused what was there before
abbrev pub given : {A : Type 0} → Result A Cause → A → A
given (Ok a) old = a
given (Err c) old = old

-- row 7, "the lent output is shorter than the answer", after the rows that `first_of` decides: "If several refusals
-- apply, the lowest number is given"
unfoldable pub or_short : ℕ → Bool → ℕ
or_short row short = cond (eqb row 0 && short) 7 row
