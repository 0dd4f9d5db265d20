-- The number of each reply: document 01, "Replies and bounds", the table; document 02, request i, the row 10. And of a
-- bad argument which one it was: document 02, request b. A call answers what it is asked, or why it is refused.
use Rattle.std.specs.Prelude.{ℕ, ◌+◌, ◌*◌, ◌/◌, ◌%◌, Result, Ok, Err}
use Rattle.units.specs.declared.refusal.Refusal.{Refusal}
use Rattle.units.specs.declared.refusal.Refusal.TheVariants.{OutOfBounds, BadArgument, EarlierMoment, LowerTotal, FullCounter, BadText, ShortOutput, NeverSent}

-- a refusal's row
abbrev pub row_of : Refusal → ℕ
row_of OutOfBounds = 1
row_of (BadArgument f) = 2
row_of EarlierMoment = 3
row_of LowerTotal = 4
row_of FullCounter = 5
row_of BadText = 6
row_of ShortOutput = 7
row_of NeverSent = 10

-- the argument that a refusal is about, 0 where it is about none: the kind of the bound that was passed, and 256 times
-- the argument's place (crates/state/specs/Faults.antt)
abbrev pub fault_of : Refusal → ℕ
fault_of OutOfBounds = 0
fault_of (BadArgument f) = f
fault_of EarlierMoment = 0
fault_of LowerTotal = 0
fault_of FullCounter = 0
fault_of BadText = 0
fault_of ShortOutput = 0
fault_of NeverSent = 0

-- the number of what a call gives back: 0 where it is done
abbrev pub number : {A : Type 0} → Result A Refusal → ℕ
number (Ok a) = 0
number (Err r) = row_of r

-- and the argument that it is about
abbrev pub fault : {A : Type 0} → Result A Refusal → ℕ
fault (Ok a) = 0
fault (Err r) = fault_of r

-- what a caller has then: what the call gave, or where it was refused what was there before
abbrev pub kept : {A : Type 0} → Result A Refusal → A → A
kept (Ok a) old = a
kept (Err r) old = old

-- how it crosses, in one u64: the row, and above its byte the fault, so the kind and the place in a byte each
abbrev pub reply_word : (row fault : ℕ) → ℕ
reply_word row fault = row + 256 * fault

-- read back: the lowest byte is the row, and what stands above it is the fault: its kind in a byte, its place above
-- that
abbrev pub row_in : ℕ → ℕ
row_in word = word % 256

abbrev pub fault_in : ℕ → ℕ
fault_in word = word / 256

abbrev pub kind_in : ℕ → ℕ
kind_in word = fault_in word % 256

abbrev pub place_in : ℕ → ℕ
place_in word = fault_in word / 256
