-- What the text of a module does not show of the data of `producers` and `dylink.0` sections (tool conventions): fields
-- without values, lists of symbols without symbols, and numbers with more bytes than needed.
use Rattle.std.specs.Prelude.{ℕ, ◌+◌, List, [], length, Bool, true, ◌==◌, not}
use Rattle.std.specs.List.{filter}
use Rattle.wasmprinter_spec.specs.Grammar.{Placed}
use Rattle.wasmprinter_spec.specs.Customs.{CustomTreatment, ProducersFields, DylinkSubsections, Refused}
use Rattle.wasmprinter_spec.specs.Customs.Producers.{Field}
use Rattle.wasmprinter_spec.specs.Customs.Dylink.{Subsection, SubsectionContent, Exports, Imports}
use Rattle.wasmprinter_hidden.specs.Lengths.{list_len, items_len, field_len, dylink_subsection_len}
use Rattle.wasmprinter_hidden.specs.Findings.{if_longer}
use Rattle.wasmprinter_hidden.specs.declared.finding.Part.TheVariants.{CustomData}
use Rattle.wasmprinter_hidden.specs.declared.finding.Finding.{Finding}

-- The finding in the data of a custom section, if it has more than `len` bytes.
abbrev pub in_bytes : Placed (List ℕ) → ℕ → List Finding
in_bytes d len = if_longer CustomData d.place (d.place + length d.value) len

-- The list has no elements.
abbrev pub is_empty : {A : Type 0} → List A → Bool
is_empty xs = length xs == 0

-- The field has values. A text has a line for each value of a field, and nothing else of a field.
abbrev pub has_values : Field → Bool
has_values f = not (is_empty f.values)

-- A text has lines for this content: it is no empty list of symbols.
abbrev pub has_lines : SubsectionContent → Bool
has_lines (Exports es) = not (is_empty es)
has_lines (Imports is) = not (is_empty is)
has_lines content = true

-- The number of bytes of the shortest encoding of those fields that have values.
abbrev pub producers_len : List Field → ℕ
producers_len fields = list_len field_len (filter has_values fields)

-- The number of bytes of the shortest encoding of those subsections that have lines.
abbrev pub dylink_len : List Subsection → ℕ
dylink_len ss = items_len (λ s. dylink_subsection_len s.value) (filter (λ s. has_lines s.value) ss)

-- The findings in the data of a custom section, by its treatment. Bytes that the text repeats have none. No text shows the
-- data of a refused section.
abbrev pub in_treatment : Placed (List ℕ) → CustomTreatment → List Finding
in_treatment d (ProducersFields fields) = in_bytes d (producers_len fields)
in_treatment d (DylinkSubsections ss) = in_bytes d (dylink_len ss)
in_treatment d (Refused id) = in_bytes d 0
in_treatment d treatment = []
