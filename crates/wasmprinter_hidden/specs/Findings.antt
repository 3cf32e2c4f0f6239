-- Findings, and sections of any kind.
use Rattle.std.specs.Prelude.{ℕ, ◌-◌, List, [], ◌∷◌, nat_lt, if◌then◌else◌}
use Rattle.wasmprinter_spec.specs.Grammar.{Grammar, Placed, byte, seq, map_value, value_with_place}
use Rattle.wasmprinter_spec.specs.Sized.{take_bytes}
use Rattle.wasmprinter_spec.specs.Name.{u32}
use Rattle.wasmprinter_hidden.specs.declared.finding.Part.{Part}
use Rattle.wasmprinter_hidden.specs.declared.finding.Finding.{Finding}

-- A section of any kind (section 5.5 of the standard, "Sections"), or a subsection of a name section: its id, its size n, and
-- its contents, which are n bytes, with the place of the first of them.
abbrev pub any_section : Grammar (ℕ × Placed (List ℕ))
any_section = seq byte (λ id. map_value (λ x. x.1) (seq u32 (λ size. value_with_place (take_bytes size))))

-- The finding of this part of the module, which starts at this place, with this number of extra bytes (`extra` of `Finding`).
-- The order is that of the fields.
abbrev pub finding : ℕ → Part → ℕ → Finding
finding place part extra = record { place = place; part = part; extra = extra }

-- A finding if the bytes from the place `start` up to `end` are more than `len`.
abbrev pub if_longer : Part → ℕ → ℕ → ℕ → List Finding
if_longer part start end len = if nat_lt len (end - start) then finding start part (end - start - len) ∷ [] else []
