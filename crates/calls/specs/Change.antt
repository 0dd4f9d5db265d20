-- The calls that change the model alone, but for a send, by their numbers (docs/LAYOUT.md).
use Rattle.std.specs.Prelude.{ℕ, cond, eqb, Float}
use Rattle.state.specs.declared.network_model.NetworkModel.{NetworkModel}
use Rattle.state.specs.Bounds.{bytes_or_unset_ok, gain_ok}
use Rattle.state.specs.NetworkModel.{stored_number, given_number, restart_next, with_high, cap_next, clear_inflight_next, clear_bandwidth_next, advance_next}
use Rattle.changes.specs.Changes.{reached_next, pacing_next, cwnd_next, postpone_number, postpone_next}
use Rattle.calls.specs.Unknown.{unknown_number}

-- the number of the reply, and the model that the call leaves where that is 0
pub record Change : Type 0 where
  pub number : ℕ
  pub next : NetworkModel

-- calls 17 to 22, which are given n or nothing; any other number is refused
unfoldable pub change_more : (call n : ℕ) → NetworkModel → Change
change_more call n m =
    cond (eqb call 17) (record { number = given_number m (bytes_or_unset_ok n); next = with_high m n })
    (cond (eqb call 18) (record { number = given_number m (bytes_or_unset_ok n); next = cap_next m n })
    (cond (eqb call 19) (record { number = stored_number m; next = clear_inflight_next m })
    (cond (eqb call 20) (record { number = stored_number m; next = clear_bandwidth_next m })
    (cond (eqb call 21) (record { number = stored_number m; next = advance_next m })
    (cond (eqb call 22)
    (record { number = postpone_number m (record { 0 = n }); next = postpone_next m (record { 0 = n }) })
    (record { number = unknown_number m; next = m }))))))

-- calls 8 and 14 to 22; `gain` is n's f32. Any other number is refused
unfoldable pub change_of : (call n : ℕ) → Float → NetworkModel → Change
change_of call n gain m =
    cond (eqb call 8) (record { number = stored_number m; next = restart_next m })
    (cond (eqb call 14) (record { number = stored_number m; next = reached_next m })
    (cond (eqb call 15) (record { number = given_number m (gain_ok gain); next = pacing_next m gain })
    (cond (eqb call 16) (record { number = given_number m (gain_ok gain); next = cwnd_next m gain })
    (change_more call n m))))
