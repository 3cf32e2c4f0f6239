-- Laws over the definition of what no text shows.
use Rattle.std.specs.Prelude.{◌≡◌, ℕ, List}
use Rattle.wasmprinter_spec.specs.Placed.{PlacedModule}
use Rattle.wasmprinter_spec.specs.Binary.{Spells}
use Rattle.wasmprinter_hidden.specs.Hidden.{AreHidden}
use Rattle.wasmprinter_hidden.specs.declared.finding.Finding.{Finding}

-- Bytes have at most one list of findings.
abbrev pub FindingsAreUnique : Type 0
FindingsAreUnique = (wasm : List ℕ) (found others : List Finding) → AreHidden wasm found → AreHidden wasm others → found ≡ others

-- Bytes that encode a module have a list of findings.
abbrev pub ModulesHaveFindings : Type 0
ModulesHaveFindings = (wasm : List ℕ) (m : PlacedModule) → Spells wasm m → (found : List Finding) × AreHidden wasm found
