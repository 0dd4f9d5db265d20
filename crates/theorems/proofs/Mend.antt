-- The contracts of the functions that mend a trace. Assumes nothing.
use Rattle.theorems.specs.Mend.{MendUnasked, MendDefined}

pub unasked : MendUnasked
unasked = record { placed = λ κ a. tt; begun = λ κ a. tt; new = λ κ a. tt; take = λ κ a. tt; sift = λ κ a. tt }

pub defined : MendDefined
defined =
    record {
      placed = λ κ a n e h. h;
      begun = λ κ a n e h. h;
      new = λ κ a n e h. h;
      take = λ κ a n e h. h;
      entry = λ κ a x e h. h;
      put = λ κ a x e h. (h.0, h.1);
      sift = λ κ a x e h. h;
    }
