-- An input that comes in pieces, as the program takes it: it answers the lines of each piece by `run`, again and
-- again until one answers none (`AnswersAll`, which the contract of `answer` in crates/replay/src/main.rt cites), and
-- holds of a line that is not ended what `keep` keeps. That it reads the pieces, and writes the texts, is not proved.
-- Definitions only.
use Rattle.std.specs.Prelude.{ℕ, ◌<◌, ◌≤◌, List, [], ◌∷◌, ◌++◌, drop}
use Rattle.trace.specs.declared.replay.Replay.{Replay}
use Rattle.trace.specs.declared.stream.Ran.{Ran}
use Rattle.trace.specs.Stream.{lines_from, ran_of, ran_text, kept_of}

-- all pieces, one after the other
unfoldable pub joined : List (List ℕ) → List ℕ
joined [] = []
joined (c ∷ cs) = c ++ joined cs

-- a run of s from an index on into `room` bytes, and what it writes
abbrev pub run_of : Replay → (s : List ℕ) (at room : ℕ) → Ran
run_of r s at room = ran_of r (lines_from [] (drop at s)) at 0 room

abbrev pub run_text : Replay → (s : List ℕ) (at room : ℕ) → List ℕ
run_text r s at room = ran_text r (lines_from [] (drop at s)) 0 room

-- run after run from an index on, the text that they write, one after the other, and the replay and the index after
-- them
pub data AllAnswered (s : List ℕ) (room : ℕ) : Replay → ℕ → List ℕ → Replay → ℕ → Type 0 where
  over : {r : Replay} {at : ℕ} → (run_of r s at room).at ≤ at → AllAnswered s room r at [] r at
  more : {r q : Replay} {at end : ℕ} {text : List ℕ} →
      at < (run_of r s at room).at →
      AllAnswered s room (run_of r s at room).replay (run_of r s at room).at text q end →
      AllAnswered s room r at (run_text r s at room ++ text) q end

-- some text is written so, from the beginning of s on
abbrev pub AnswersAll : (s : List ℕ) (room : ℕ) → Replay → Replay → (end : ℕ) → Type 0
AnswersAll s room r q end = (text : List ℕ) × AllAnswered s room r 0 text q end

-- pieces, one after the other, each behind the bytes that are held: the text that is written, the replay and the
-- bytes held after them
pub data Fed (room : ℕ) : Replay → (held : List ℕ) → List (List ℕ) → List ℕ → Replay → List ℕ → Type 0 where
  none : {r : Replay} {held : List ℕ} → Fed room r held [] [] r held
  piece : {r p q : Replay} {held c left text next : List ℕ} {cs : List (List ℕ)} {end : ℕ} →
      AllAnswered (held ++ c) room r 0 text p end →
      Fed room p (kept_of (drop end (held ++ c))) cs next q left →
      Fed room r held (c ∷ cs) (text ++ next) q left
