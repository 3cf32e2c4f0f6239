-- What the text of a module does not show of sections with branch hints (Code Metadata, a document that accompanies the
-- standard): hints that no operator takes, functions without hints, numbers with more bytes than needed, and the data of
-- sections that are malformed or that a later section replaces.
use Rattle.std.specs.Prelude.{ℕ, ◌+◌, ◌-◌, List, [], ◌∷◌, ◌++◌, length, map, ◌==◌, if◌then◌else◌, None, is_none, codes, Bool, not}
use Rattle.std.specs.List.{filter}
use Rattle.wasmprinter_spec.specs.Grammar.{Placed, input}
use Rattle.wasmprinter_spec.specs.Repeated.{some_or}
use Rattle.wasmprinter_spec.specs.Operator.{Operator}
use Rattle.wasmprinter_spec.specs.Placed.{PlacedModule, PlacedFunction, CustomEntry}
use Rattle.wasmprinter_spec.specs.Customs.Hints.{Hint as HintValue, FunctionHints, hint_section, last_named, hints_of_next, entries_after, hints_after}
use Rattle.wasmprinter_hidden.specs.HiddenNames.{imported}
use Rattle.wasmprinter_spec.specs.Module.{func_import}
use Rattle.wasmprinter_hidden.specs.Lengths.{list_len, hint_len, function_hints_len}
use Rattle.wasmprinter_hidden.specs.HiddenData.{in_bytes, is_empty}
use Rattle.wasmprinter_hidden.specs.Findings.{finding}
use Rattle.wasmprinter_hidden.specs.declared.finding.Part.TheVariants.{Hint, HintSection}
use Rattle.wasmprinter_hidden.specs.declared.finding.Finding.{Finding}

-- The hints that no operator of the body takes, of hints of its function. The first argument is the place of the body, from
-- which their offsets count.
abbrev pub left_in_body : ℕ → List (Placed HintValue) → List (Placed Operator) → List (Placed HintValue)
left_in_body body hints [] = hints
left_in_body body hints (o ∷ os) = left_in_body body (hints_after (o.place - body) hints) os

-- The hints of each entry, one after the other.
abbrev pub hints_in : List FunctionHints → List (Placed HintValue)
hints_in [] = []
hints_in (e ∷ es) = e.hints ++ hints_in es

-- The hints that no operator of the functions takes. The first function has the index i.
abbrev pub left_hints : ℕ → List PlacedFunction → List FunctionHints → List (Placed HintValue)
left_hints i [] es = hints_in es
left_hints i (f ∷ fs) es =
    left_in_body f.body.place (hints_of_next i es) f.body.value.operators ++ left_hints (i + 1) fs (entries_after i es)

-- The finding of a hint, which no operator takes.
abbrev pub in_hint : Placed HintValue → Finding
in_hint h = finding h.place Hint (hint_len h.value)

-- The entry has hints. A text shows nothing of the other entries.
abbrev pub has_hints : FunctionHints → Bool
has_hints e = not (is_empty e.hints)

-- The data gives no hints: it has no bytes, or its entries have no hints.
abbrev pub gives_no_hints : Placed (List ℕ) → Bool
gives_no_hints d = some_or (hint_section.parse (input d.place d.value)) (is_empty d.value) (λ es. is_empty (hints_in es))

-- The data of a hint section as a whole, unless it is empty.
abbrev pub whole_data : Placed (List ℕ) → List Finding
whole_data d = if length d.value == 0 then [] else finding d.place HintSection (length d.value) ∷ []

-- The findings in the data of the hint section that counts: all of it if the data has an error. Otherwise the data is
-- compared with the shortest encoding of the entries with hints, and the hints that no operator of the module takes follow.
abbrev pub in_last_hints : PlacedModule → Placed (List ℕ) → List Finding
in_last_hints m d =
    some_or (hint_section.parse (input d.place d.value)) (whole_data d)
    (λ es. in_bytes d (list_len function_hints_len (filter has_hints es)) ++ map in_hint (left_hints (imported m func_import) m.functions es))

-- The findings in the data of a hint section. It counts if none of the later custom sections is a hint section.
abbrev pub in_hints : PlacedModule → List CustomEntry → Placed (List ℕ) → List Finding
in_hints m later d = if is_none (last_named (codes "metadata.code.branch_hint") None later) then in_last_hints m d else whole_data d
