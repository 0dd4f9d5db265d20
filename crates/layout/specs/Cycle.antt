-- The cycle in words 35 to 50 of the state. Definitions only.
use Rattle.std.specs.Prelude.{ℕ, Bool, cond, List, [], ◌∷◌, ◌++◌, eqb}
use Rattle.state.specs.declared.cycle.Cycle.{Cycle}
use Rattle.state.specs.declared.cycle.CyclePhase.{CyclePhase}
use Rattle.state.specs.declared.cycle.CyclePhase.TheVariants.{NotStarted, Up, Down, Cruise, Refill}
use Rattle.state.specs.declared.cycle.Last.{Last}
use Rattle.state.specs.declared.cycle.Slope.{Slope}
use Rattle.state.specs.declared.cycle.Stay.{Stay}
use Rattle.state.specs.declared.cycle.Wait.{Wait}
pub use Rattle.state.specs.Cycle.{phase_word}
use Rattle.words.specs.Word.{word, flag_word, flag_of}
use Rattle.words.specs.Maybe.{maybe_words, length_maybe, length_of, plain_maybe, plain_of}

-- a phase: its number, 0 to 4; what is above 4 is read as the last
abbrev pub phase_of : ℕ → CyclePhase
phase_of w = cond (eqb w 0) NotStarted (cond (eqb w 1) Up (cond (eqb w 2) Down (cond (eqb w 3) Cruise Refill)))

-- ---- from words
abbrev pub stay_of : List ℕ → Stay
stay_of l = record { phase = phase_of (word l 35); rounds = word l 38; entered = record { 0 = word l 37 } }

abbrev pub wait_of : List ℕ → Wait
wait_of l =
    record {
      start = record { 0 = word l 36 };
      rounds = word l 39;
      length = length_of (word l 40) (word l 41);
    }

abbrev pub slope_of : List ℕ → Slope
slope_of l =
    record {
      rounds = word l 42;
      bytes = plain_of (word l 43) (word l 44);
      acked = word l 45;
      applimited = flag_of (word l 46);
    }

unfoldable pub cycle_from : List ℕ → Cycle
cycle_from l =
    record {
      stay = stay_of l;
      wait = wait_of l;
      slope = slope_of l;
      advanced = flag_of (word l 47);
      probing = flag_of (word l 48);
      last = record { high = flag_of (word l 49); risky = flag_of (word l 50) };
    }

-- ---- into words
abbrev pub times_words : Stay → Wait → List ℕ
times_words s w =
    phase_word s.phase
    ∷ w.start.0
    ∷ s.entered.0
    ∷ s.rounds
    ∷ w.rounds
    ∷ maybe_words (length_maybe w.length)

abbrev pub slope_words : Slope → List ℕ
slope_words s = s.rounds ∷ maybe_words (plain_maybe s.bytes) ++ s.acked ∷ flag_word s.applimited ∷ []

abbrev pub marks_words : Bool → Bool → Last → List ℕ
marks_words advanced probing last =
    flag_word advanced ∷ flag_word probing ∷ flag_word last.high ∷ flag_word last.risky ∷ []

unfoldable pub cycle_words : Cycle → List ℕ
cycle_words c =
    times_words c.stay c.wait
    ++ slope_words c.slope
    ++ marks_words c.advanced c.probing c.last
