-- Words of a trace.
use Rattle.std.specs.Prelude.{ℕ, Bool, true, false, cond, ◌&&◌, List, [], ◌∷◌, eqb, Option, None, Some}
use Rattle.text.specs.declared.word.Kind.{Kind}
use Rattle.text.specs.declared.word.Kind.TheVariants.{Start, Sent, Event}
use Rattle.text.specs.Text.{bytes}

-- whether two texts are the same
unfoldable pub same : List ℕ → List ℕ → Bool
same [] [] = true
same [] (b ∷ t) = false
same (a ∷ s) [] = false
same (a ∷ s) (b ∷ t) = eqb a b && same s t

-- the kind of a line, by its first field: a start, a send or an event; none is "an unknown kind"
abbrev pub kind_of : List ℕ → Option Kind
kind_of s =
    cond (same s (bytes "start")) (Some Start)
    (cond (same s (bytes "sent")) (Some Sent)
    (cond (same s (bytes "event")) (Some Event) None))
