-- A float of one format as one of another. The Rust Reference, "Numeric cast": "Casting from an f32 to an f64 is
-- perfect and lossless". The sentence is `F32ToF64`; what the contracts cite is the one f64 that it allows
-- (proofs/Reference.antt).
use Rattle.std.specs.Prelude.{◌≡◌, ◌*◌, Float}
use Rattle.std.specs.Float.{nan, inf, fin}
use Rattle.std.specs.Float.Ieee.{up, down}
use Rattle.std.specs.Float.Ieee.Exact.{HasValue}

-- y is x without loss: it has x's sign and size, m * up e / down e where x is `fin s m e`. A NaN stays one, and an
-- infinity stays the same
abbrev pub F32ToF64 : Float → Float → Type 0
F32ToF64 nan y = y ≡ nan
F32ToF64 (inf s) y = y ≡ inf s
F32ToF64 (fin s m e) y = HasValue y s (m * up e) (down e)

-- what the contracts cite. The kit writes a number in one way, whatever the format, so that it is x itself
abbrev pub f32_to_f64 : Float → Float
f32_to_f64 x = x
