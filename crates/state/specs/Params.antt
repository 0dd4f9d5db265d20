-- The parameters: document 01, "Parameters", their bounds as tests.
use Rattle.std.specs.Prelude.{Bool, [], ◌∷◌, Float}
use Rattle.state.specs.declared.params.Params.{Params}
use Rattle.state.specs.Bounds.{all, length_ok, within, fraction_ok, gain_ok}

-- "beta from 1/1024 to 1023/1024; loss_threshold and headroom 0 to 1; full_bw_threshold 1 to 8; gains 1/1024 to 8"
abbrev pub beta_ok : Float → Bool
beta_ok x = within 0x3a80_0000 0x3f7f_c000 x

abbrev pub threshold_ok : Float → Bool
threshold_ok x = within 0x3f80_0000 0x4100_0000 x

unfoldable pub params_ok : Params → Bool
params_ok p =
    all
    (beta_ok p.beta
    ∷ fraction_ok p.loss
    ∷ fraction_ok p.headroom
    ∷ threshold_ok p.growth
    ∷ gain_ok p.cwnd
    ∷ gain_ok p.pacing
    ∷ length_ok p.period
    ∷ length_ok p.base
    ∷ [])
