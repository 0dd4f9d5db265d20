-- What parts of the code are stated with. These definitions follow the code: no exported contract and no theorem cites
-- them, and a reader need not believe them.
use Rattle.std.specs.Prelude.{ℕ, ◌%◌, Bool, ◌&&◌, ◌||◌, List, leb, eqb}
use Rattle.words.specs.Word.{word, flag_fits}
use Rattle.words.specs.Maybe.{maybe_fits}

-- ---- whether words encode a state, word by word: only a flag, a float, the phase and what may be unset can be written
-- in another way than it is read (docs/LAYOUT.md, "How a thing is written")
unfoldable pub float_fits : ℕ → Bool
float_fits w = leb w 0xffff_ffff && (leb (w % 0x8000_0000) 0x7f80_0000 || eqb w 0x7fc0_0000)

abbrev pub phase_fits : ℕ → Bool
phase_fits w = leb w 4

-- words 0 to 20
unfoldable pub early_fits : List ℕ → Bool
early_fits l =
    maybe_fits (word l 2) (word l 3)
    && flag_fits (word l 12)
    && maybe_fits (word l 15) (word l 16)
    && float_fits (word l 19)
    && float_fits (word l 20)

-- words 21 to 34
unfoldable pub late_fits : List ℕ → Bool
late_fits l =
    flag_fits (word l 21)
    && flag_fits (word l 22)
    && flag_fits (word l 26)
    && maybe_fits (word l 27) (word l 28)
    && maybe_fits (word l 29) (word l 30)
    && flag_fits (word l 34)

-- words 35 to 50
unfoldable pub cycle_fits : List ℕ → Bool
cycle_fits l =
    phase_fits (word l 35)
    && maybe_fits (word l 40) (word l 41)
    && maybe_fits (word l 43) (word l 44)
    && flag_fits (word l 46)
    && flag_fits (word l 47)
    && flag_fits (word l 48)
    && flag_fits (word l 49)
    && flag_fits (word l 50)
