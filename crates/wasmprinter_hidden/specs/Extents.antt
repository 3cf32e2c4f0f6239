-- Reading the extents of sections, and custom sections.
use Rattle.std.specs.Prelude.{ℕ, List, [], drop, ◌==◌, if◌then◌else◌, Option, Some}
use Rattle.wasmprinter_spec.specs.Grammar.{Input, ◌>>=◌}
use Rattle.wasmprinter_spec.specs.Placed.{CustomEntry, PlacedModule}
use Rattle.wasmprinter_hidden.specs.Findings.{any_section}
use Rattle.wasmprinter_hidden.specs.Hidden.{Extent, extent, in_first_custom}
use Rattle.wasmprinter_hidden.specs.declared.finding.Finding.{Finding}

-- Reads a section of any kind: its extent, and the input after it.
abbrev pub extent_at : Input → Option (Extent × Input)
extent_at at = any_section.parse at >>= λ x. Some (extent at.place x.0.0 x.0.1.place x.1.place, x.1)

-- The findings in a section with this id, if it is a custom section and the first of these.
abbrev pub in_custom : PlacedModule → ℕ → List CustomEntry → List Finding
in_custom m id customs = if id == 0 then in_first_custom m customs else []

-- The custom sections after a section with this id, which is the first of these if it is a custom section.
abbrev pub customs_after : ℕ → List CustomEntry → List CustomEntry
customs_after id customs = if id == 0 then drop 1 customs else customs
