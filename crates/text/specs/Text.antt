-- A text as its bytes, so that the other pages can name one as it is written.
use Rattle.std.specs.Prelude.{ℕ, List, [], ◌∷◌, ◌++◌}
use Prim.Native.Char.{code}
use Prim.Native.String as Str
use Prim.Native.String.{String}

-- the codes of its characters. The texts here have none above 127, so that each is one byte
unfoldable pub bytes : String → List ℕ
bytes Str.[] = []
bytes (Str.◌∷◌ c s) = code c ∷ bytes s

-- CR LF, and a text with it at its end
abbrev pub crlf : List ℕ
crlf = 13 ∷ 10 ∷ []

abbrev pub line : String → List ℕ
line s = bytes s ++ crlf
