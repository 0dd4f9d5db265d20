-- The fields of a line, and which each kind fills. Document 02, request j: "Each kind fills the fields shown; an
-- event's number, bw and rtt may each be filled, or empty for none."
use Rattle.std.specs.Prelude.{ℕ, suc, Bool, true, false, cond, List, [], ◌∷◌, eqb, ltb, Option, None, Some}
use Rattle.text.specs.declared.number.Cell.{Cell}
use Rattle.text.specs.declared.number.Cell.TheVariants.{Empty, Number, Other}
use Rattle.text.specs.declared.word.Kind.{Kind}
use Rattle.text.specs.declared.word.Kind.TheVariants.{Start, Sent, Event}
use Rattle.text.specs.declared.fields.Rule.{Rule}
use Rattle.text.specs.declared.fields.Rule.TheVariants.{Blank, Filled, Either, Flag}

-- ---- a text split at its commas: at least one field. A quote is a byte as any other (docs/DECISIONS.md, 158)
-- one byte more at the start of the first field
abbrev pub onto : ℕ → List (List ℕ) → List (List ℕ)
onto b [] = (b ∷ []) ∷ []
onto b (f ∷ fs) = (b ∷ f) ∷ fs

unfoldable pub fields : List ℕ → List (List ℕ)
fields [] = [] ∷ []
fields (b ∷ s) = cond (eqb b 44) ([] ∷ fields s) (onto b (fields s))

-- ---- what each of the ten fields after the kind may be, time, cwnd, inflight, number, bytes, acked, lost, bw, rtt
-- and probing: `Blank` is empty, `Filled` a number, `Either` either, `Flag` "0 or 1"
-- start: time and rtt
abbrev pub start_rules : List Rule
start_rules = Filled ∷ Blank ∷ Blank ∷ Blank ∷ Blank ∷ Blank ∷ Blank ∷ Blank ∷ Filled ∷ Blank ∷ []

-- sent: time, inflight, number and bytes
abbrev pub sent_rules : List Rule
sent_rules = Filled ∷ Blank ∷ Filled ∷ Filled ∷ Filled ∷ Blank ∷ Blank ∷ Blank ∷ Blank ∷ Blank ∷ []

-- event: time, cwnd, inflight, acked, lost and probing; number, bw and rtt may be empty
abbrev pub event_rules : List Rule
event_rules = Filled ∷ Filled ∷ Filled ∷ Either ∷ Blank ∷ Filled ∷ Filled ∷ Either ∷ Either ∷ Flag ∷ []

abbrev pub rules_of : Kind → List Rule
rules_of Start = start_rules
rules_of Sent = sent_rules
rules_of Event = event_rules

abbrev pub accepts : Rule → Cell → Bool
accepts Blank Empty = true
accepts Blank (Number n) = false
accepts Blank Other = false
accepts Filled Empty = false
accepts Filled (Number n) = true
accepts Filled Other = false
accepts Either Empty = true
accepts Either (Number n) = true
accepts Either Other = false
accepts Flag Empty = false
accepts Flag (Number n) = ltb n 2
accepts Flag Other = false

-- the first field that its rule does not accept, counted from k on
unfoldable pub fault_from : ℕ → List Rule → List Cell → Option ℕ
fault_from k [] cs = None
fault_from k (r ∷ rs) [] = None
fault_from k (r ∷ rs) (c ∷ cs) = cond (accepts r c) (fault_from (suc k) rs cs) (Some k)
