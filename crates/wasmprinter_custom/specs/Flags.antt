-- The words of flags and the remaining bits, as `flags_by` lays them out.
use Rattle.std.specs.Prelude.{ℕ, ◌-◌, List, [], ◌∷◌, if◌then◌else◌}
use Rattle.wasmprinter_spec.specs.Layout.Customs.{has_flag}
use Rattle.wasmprinter_custom.specs.declared.symbol_flags.SymbolFlags.{SymbolFlags}

-- The number whose bits are the flags.
abbrev pub bits_of : SymbolFlags → ℕ
bits_of flags = flags.0

-- The words of the flags that are set in the number, in the order of the rows. A row has a flag's bit and its word.
unfoldable pub words_by : List (ℕ × List ℕ) → ℕ → List (List ℕ)
words_by [] rest = []
words_by (row ∷ rows) rest = if has_flag rest row.0 then row.1 ∷ words_by rows (rest - row.0) else words_by rows rest

-- The bits that are set in the number and belong to no row.
unfoldable pub others_by : List (ℕ × List ℕ) → ℕ → ℕ
others_by [] rest = rest
others_by (row ∷ rows) rest = if has_flag rest row.0 then others_by rows (rest - row.0) else others_by rows rest
