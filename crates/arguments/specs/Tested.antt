-- A call's words that no writer writes are refused: what passes the bounds of document 01 is written in the very words
-- that were handed in. Statements only.
use Rattle.std.specs.Prelude.{ℕ, ◌+◌, ◌≤◌, ◌<◌, true, List, ◌++◌, ◌≡◌, length, take, drop}
use Rattle.state.specs.Bounds.{gain_ok}
use Rattle.state.specs.Params.{params_ok}
use Rattle.state.specs.CongestionEvent.{event_ok, sample_ok}
use Rattle.words.specs.Word.{word, float_word, float_of}
use Rattle.arguments.specs.CongestionEvent.{event_from, words_from, event_in, event_words}
use Rattle.arguments.specs.Sample.{acked_of, sample_from, sample_words}
use Rattle.arguments.specs.Params.{params_from, params_words}

pub record Tested : Type 0 where
  -- an event's record: refused with 2 otherwise
  pub event : (l : List ℕ) → event_ok (event_from l) ≡ true → event_words (event_from l) ≡ event_in l
  -- the sampler's answer: 2
  pub sample : (l : List ℕ) → sample_ok (sample_from l) ≡ true → sample_words (sample_from l) ≡ words_from l 1 17
  -- the acked numbers, of a call's 49 words and the lists after them: as many are taken as the count says, and more
  -- than three are those of the lists from the named place on, which the lists have: 2
  pub count : (l : List ℕ) → sample_ok (sample_from l) ≡ true → length (acked_of l) ≡ word l 18
  pub from_lists : (l lists : List ℕ) → length l ≡ 49 → 3 < word l 18 → sample_ok (sample_from (l ++ lists)) ≡ true →
      (word l 19 + word l 18 ≤ length lists) × (acked_of (l ++ lists) ≡ take (word l 18) (drop (word l 19) lists))
  -- a gain: 2
  pub gain : (w : ℕ) → gain_ok (float_of w) ≡ true → float_word (float_of w) ≡ w
  -- the parameters: 1
  pub parameters : (l : List ℕ) → params_ok (params_from l) ≡ true → params_words (params_from l) ≡ words_from l 38 11
