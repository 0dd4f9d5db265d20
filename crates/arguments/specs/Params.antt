-- The parameters in words 38 to 48 of a call. A flag that no writer writes makes a length of time that is out of
-- bounds: "a parameter is outside the bounds below". Definitions only.
use Rattle.std.specs.Prelude.{ℕ, List, [], ◌∷◌}
use Rattle.state.specs.declared.params.Params.{Params}
use Rattle.words.specs.Word.{word, or_outside, flag_word, flag_of, flag_fits, float_word, float_of}

unfoldable pub params_from : List ℕ → Params
params_from l =
    record {
      beta = float_of (word l 38);
      loss = float_of (word l 39);
      headroom = float_of (word l 40);
      growth = float_of (word l 41);
      cwnd = float_of (word l 42);
      pacing = float_of (word l 43);
      rounds = word l 44;
      queueing = word l 45;
      period = record { 0 = or_outside (flag_fits (word l 48)) (word l 46) };
      base = record { 0 = word l 47 };
      ignore = flag_of (word l 48);
    }

-- ---- into words: what a caller writes for them (docs/LAYOUT.md)
unfoldable pub params_words : Params → List ℕ
params_words p =
    float_word p.beta
    ∷ float_word p.loss
    ∷ float_word p.headroom
    ∷ float_word p.growth
    ∷ float_word p.cwnd
    ∷ float_word p.pacing
    ∷ p.rounds
    ∷ p.queueing
    ∷ p.period.0
    ∷ p.base.0
    ∷ flag_word p.ignore
    ∷ []
