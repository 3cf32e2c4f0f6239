-- Where the contents of a module's code section start (section 5.5 of the standard, "Sections").
use Rattle.std.specs.Prelude.{◌≡◌, ◌≢◌, ℕ, List, [], ◌++◌, length}
use Rattle.wasmprinter_spec.specs.Grammar.{Input, input, Spans, Grammar, Placed, byte, seq, map_value, value_with_place}
use Rattle.wasmprinter_spec.specs.Sized.{take_bytes}
use Rattle.wasmprinter_spec.specs.Name.{u32}
use Rattle.wasmprinter_spec.specs.Placed.{PlacedModule}
use Rattle.wasmprinter_spec.specs.Binary.{Spells, preamble_bytes}

-- A section of any kind: its id, its size n, and its contents, which are n bytes, with the place of the first of them.
abbrev pub any_section : Grammar (ℕ × Placed (List ℕ))
any_section = seq byte (λ id. map_value (λ x. x.1) (seq u32 (λ size. value_with_place (take_bytes size))))

-- The bytes from the first position up to the second encode a section with this id, whose contents start at this place.
abbrev pub IsSection : Input → Input → ℕ → ℕ → Type 0
IsSection at after id place = (bytes : List ℕ) × Spans any_section.spells at ((id, record { place = place; value = bytes }), after)

-- Sections follow each other from this position on. The contents of the first one with the id 10, which is the code
-- section, start at this place.
pub data HasCodeAt : Input → ℕ → Type 0 where
  here : {at after : Input} {place : ℕ} → IsSection at after 10 place → HasCodeAt at place
  later : {at after : Input} {id contents place : ℕ} → id ≢ 10 → IsSection at after id contents → HasCodeAt after place → HasCodeAt at place

-- The bytes start with the preamble of a module, and then come sections. The contents of the code section start at this
-- place.
abbrev pub IsCodeStart : List ℕ → ℕ → Type 0
IsCodeStart wasm place = (sections : List ℕ) × (wasm ≡ preamble_bytes ++ sections) × HasCodeAt (input (length preamble_bytes) sections) place

-- Bytes have at most one such place.
abbrev pub CodeStartsOnce : Type 0
CodeStartsOnce = (wasm : List ℕ) (p q : ℕ) → IsCodeStart wasm p → IsCodeStart wasm q → p ≡ q

-- Bytes that encode a module with functions have such a place.
abbrev pub FunctionsHaveCode : Type 0
FunctionsHaveCode = (wasm : List ℕ) (m : PlacedModule) → Spells wasm m → m.functions ≢ [] → (place : ℕ) × IsCodeStart wasm place
