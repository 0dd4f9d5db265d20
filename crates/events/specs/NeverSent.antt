-- Acks for packets never sent (document 02, request i): which lists give refusal 10 (`is_unsent`), and events worked
-- out. Statements only; where 10 stands among the refusals says `Exactly` in crates/laws/specs/Replies.antt.
use Rattle.std.specs.Prelude.{ℕ, ◌+◌, ◌-◌, ◌^◌, Bool, true, false, List, [], ◌∷◌, ◌↔◌, ◌≡◌, eqb}
use Rattle.filters.specs.Greatest.{NoneAbove}
use Rattle.filters.specs.RoundTripCounter.{greatest, listed}
use Rattle.state.specs.declared.network_model.NetworkModel.{NetworkModel}
use Rattle.state.specs.NetworkModel.{with_rounds}
use Rattle.events.specs.Event.{is_unsent, event_number, usual, fresh, sends, told, heard, round_model}

pub record NeverSent : Type 0 where
  -- an empty list is never turned away, not even before the first send
  pub empty : (m : NetworkModel) → is_unsent m [] ≡ false
  -- any other passes exactly where something was sent and none of its numbers is above the last sent one (`A ↔ B` is
  -- "A exactly when B")
  pub passes : (m : NetworkModel) (n : ℕ) (l : List ℕ) →
      is_unsent m (n ∷ l) ≡ false ↔ (m.begun ≡ true) × NoneAbove (n ∷ l) m.rounds.sent
  -- so the last sent number itself passes, and the next does not
  pub last : (m : NetworkModel) → m.begun ≡ true → is_unsent m (m.rounds.sent ∷ []) ≡ false
  pub next : (m : NetworkModel) → is_unsent m ((m.rounds.sent + 1) ∷ []) ≡ true
  -- before the first send no number does, not even 0
  pub before : (m : NetworkModel) (n : ℕ) (l : List ℕ) → m.begun ≡ false → is_unsent m (n ∷ l) ≡ true
  -- the greatest number decides, wherever in the list it stands
  pub decides : (m : NetworkModel) (l : List ℕ) → is_unsent m l ≡ is_unsent m (listed (greatest l))

-- ---- worked out: the reply to an event that acks these numbers, otherwise round n's of Event.antt
abbrev acking : (n : ℕ) → NetworkModel → List ℕ → ℕ
acking n m acked = event_number m usual (told n) (heard n) acked

-- the count of rounds is full; of a fresh model no end is set, so that any number would end a round
abbrev counted : NetworkModel → NetworkModel
counted m = with_rounds m (record { count = 2 ^ 64 - 1; sent = m.rounds.sent; end = m.rounds.end })

unfoldable pub unsent_events : List Bool
unsent_events =
    -- nothing was sent: any number is refused, 0 too, and the empty list is taken
    eqb (acking 1 fresh (0 ∷ [])) 10
    ∷ eqb (acking 1 fresh (1 ∷ [])) 10
    ∷ eqb (acking 1 fresh []) 0
    -- packet 0 was sent: 0 is taken, 1 is not
    ∷ eqb (acking 1 (sends 0 fresh) (0 ∷ [])) 0
    ∷ eqb (acking 1 (sends 0 fresh) (1 ∷ [])) 10
    -- packet 5 was sent: 5 is taken, 6 is not, at whatever place it stands
    ∷ eqb (acking 1 (sends 5 fresh) (4 ∷ 5 ∷ 3 ∷ [])) 0
    ∷ eqb (acking 1 (sends 5 fresh) (6 ∷ 5 ∷ 4 ∷ [])) 10
    ∷ eqb (acking 1 (sends 5 fresh) (5 ∷ 6 ∷ 4 ∷ [])) 10
    ∷ eqb (acking 1 (sends 5 fresh) (4 ∷ 5 ∷ 6 ∷ [])) 10
    -- packet 5 was sent, then packet 3: the last sent is 3
    ∷ eqb (acking 1 (sends 3 (sends 5 fresh)) (5 ∷ [])) 10
    ∷ eqb (acking 1 (sends 3 (sends 5 fresh)) (3 ∷ [])) 0
    -- no number is above 2^64 - 1
    ∷ eqb (acking 1 (sends (2 ^ 64 - 1) fresh) ((2 ^ 64 - 1) ∷ [])) 0
    -- 4 before 10: after round 2 its totals are stored, and those of round 1 are lower; packet 3 was never sent
    ∷ eqb (event_number (round_model 2 fresh) usual (told 3) (heard 1) (3 ∷ [])) 4
    ∷ eqb (event_number (round_model 2 fresh) usual (told 3) (heard 3) (3 ∷ [])) 10
    -- 10 before 5: packet 6 was never sent, and the count of rounds is full
    ∷ eqb (acking 1 (counted (sends 5 fresh)) (6 ∷ [])) 10
    ∷ eqb (acking 1 (counted (sends 5 fresh)) (5 ∷ [])) 5
    ∷ []
