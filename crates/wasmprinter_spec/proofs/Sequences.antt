-- The ANSI escape sequences of styles, byte by byte.
use Rattle.std.specs.Prelude.{◌≡◌, ℕ, List, ◌∷◌, ◌++◌, codes, refl}
use Rattle.std.specs.Fmt.{digits}
use Rattle.wasmprinter_spec.specs.Call.{Start, Literal, Name, Keyword, TypeName, Comment, Reset}
use Rattle.wasmprinter_spec.specs.Colored.{colored_bytes}

-- The bytes ESC and [, followed by a text
abbrev pub escape : List ℕ → List ℕ
escape s = 27 ∷ 91 ∷ s

pub literal : colored_bytes (Start Literal) ≡ escape (codes "0m") ++ escape (codes "31m")
unfolding digits
literal = refl

pub name : colored_bytes (Start Name) ≡ escape (codes "0m") ++ escape (codes "35m")
unfolding digits
name = refl

pub keyword : colored_bytes (Start Keyword) ≡ escape (codes "0m") ++ escape (codes "1m") ++ escape (codes "38;5;11m")
unfolding digits
keyword = refl

pub type_name : colored_bytes (Start TypeName) ≡ escape (codes "0m") ++ escape (codes "1m") ++ escape (codes "38;5;10m")
unfolding digits
type_name = refl

pub comment : colored_bytes (Start Comment) ≡ escape (codes "0m") ++ escape (codes "36m")
unfolding digits
comment = refl

pub reset : colored_bytes (Start Reset) ≡ escape (codes "0m")
unfolding digits
reset = refl
