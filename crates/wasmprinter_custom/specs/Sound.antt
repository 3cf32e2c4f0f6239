-- The subsections of a well-formed `dylink.0` section.
use Rattle.std.specs.Prelude.{List, []}
use Rattle.wasmprinter_spec.specs.Customs.Dylink.{Subsection, Judged, Whole}

-- The subsections, none if the section is not well-formed or has an unknown id.
abbrev pub subsections_in : Judged → List Subsection
subsections_in (Whole ss) = ss
subsections_in _ = []

-- The section is well-formed, and each id is known.
abbrev pub IsFaultless : Judged → Type 0
IsFaultless (Whole ss) = Unit {0}
IsFaultless _ = ⊥
