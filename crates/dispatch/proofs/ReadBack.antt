-- What one function writes, another reads back as it was: said of their contracts, `Reads.Learnt`, for arguments that are values of their types, `GoodsP`. Assumes nothing.
use Prim.Native.Nat.{ℕ}
use mathlib.Core.List.{List, ◌++◌}
use mathlib.Core.Path.{◌≡◌, ap, ◌∙◌}
use lib.Dec.{T}
use lib.Ieee.{binary32, fits}
use lib.ListN.{length}
use contract.Lifetimes.{Lfts}
use borrow.Fn.Kinds.{ParamKind, Dens, GoodsP}
use denote.Floats.{passes}
use denote.Laws.{Is}
use denote.Struct.Declared.{row}
use mir.Val.{Val}
use Rattle.state.specs.declared.network_model.NetworkModel.{NetworkModel}
use Rattle.state.specs.contracts.network_model.NetworkModel as network-model
use Rattle.layout.specs.NetworkModel.{model_from}
use Rattle.layout.specs.Cycle.{cycle_from}
use Rattle.arguments.specs.CongestionEvent.{event_from}
use Rattle.dispatch.proofs.RoundTrip.{round_trip}
use Rattle.layout.proofs.cycle as cycle
use Rattle.layout.proofs.network_model as model
use Rattle.arguments.proofs.congestion_event as event
use Rattle.layout.proofs.state_words as state

-- `given` picks from the writer's arguments what it wrote, `Words` says where the reader has the writer's words
abbrev pub ReadBack : {n k : ℕ} (ps : List (ParamKind n)) (qs : List (ParamKind k)) {R S : Type 0} {E : Lfts n → Type 0} {F : Lfts k → Type 0}
    → ((κs : Lfts n) → Dens κs ps → R → E κs → Type 0) → ((κs : Lfts k) → Dens κs qs → S → F κs → Type 0) → ((κs : Lfts n) → Dens κs ps → S) → ((κs : Lfts k) → Dens κs qs → R → Type 0) → Type 0
ReadBack {n} {k} ps qs {R} {S} {E} {F} wrote read given Words =
    (κs : Lfts n) (a : Dens κs ps) (x : R) (s : E κs) (κs' : Lfts k) (b : Dens κs' qs) (y : S) (t : F κs') →
    GoodsP κs ps a → wrote κs a x s → Words κs' b x → read κs' b y t → y ≡ given κs a

-- the two gains are f32, so the format holds them
cwnd_fits : (m : NetworkModel) (vs : List Val) → Is (row network-model.the_type) m vs → T (fits binary32 m.gains.cwnd)
cwnd_fits m vs h = passes (fits binary32 m.gains.cwnd) h.1.1.1.1.1.1.1.1.1.0.1.1.0.1

pacing_fits : (m : NetworkModel) (vs : List Val) → Is (row network-model.the_type) m vs → T (fits binary32 m.gains.pacing)
pacing_fits m vs h = passes (fits binary32 m.gains.pacing) h.1.1.1.1.1.1.1.1.1.0.1.1.1.0.1

pub model_read_back : ReadBack state.state_words.Kinds.ps model.model_from.Kinds.ps state.state_words.Reads.Learnt model.model_from.Reads.Learnt (λ κs a. a.0) (λ κs b x. b.0.now ≡ x)
model_read_back κs a x s κs' b y t g p w q = q ∙ ap model_from (w ∙ p) ∙ round_trip.model a.0 a.1.0 (cwnd_fits a.0 _ g.0) (pacing_fits a.0 _ g.0)

pub cycle_read_back : ReadBack state.state_words.Kinds.ps cycle.cycle_from.Kinds.ps state.state_words.Reads.Learnt cycle.cycle_from.Reads.Learnt (λ κs a. a.1.0) (λ κs b x. b.0.now ≡ x)
cycle_read_back κs a x s κs' b y t g p w q = q ∙ ap cycle_from (w ∙ p) ∙ round_trip.cycle a.0 a.1.0

-- an answer's record is words 22 to 37 of a call
pub event_read_back :
    (before after : List ℕ) → length before ≡ 22 →
    ReadBack event.event_words.Kinds.ps event.event_from.Kinds.ps event.event_words.Reads.Learnt event.event_from.Reads.Learnt (λ κs a. a.0) (λ κs b x. b.0.now ≡ before ++ (x ++ after))
event_read_back before after h κs a x s κs' b y t g p w q = q ∙ ap event_from (w ∙ ap (λ (l : List ℕ). before ++ (l ++ after)) p) ∙ round_trip.event before after a.0 h
