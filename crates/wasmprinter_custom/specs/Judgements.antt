-- The contents of a `dylink.0` section that the program's values represent.
use Rattle.std.specs.Prelude.{◌≡◌, None}
use Rattle.wasmprinter_spec.specs.Customs.Dylink as d
use Rattle.wasmprinter_custom.specs.declared.dylink.Found.{Found}
use Rattle.wasmprinter_custom.specs.declared.dylink.Found.TheVariants as f
use Rattle.wasmprinter_custom.specs.declared.dylink.DylinkContents.{DylinkContents}
use Rattle.wasmprinter_custom.specs.declared.dylink.DylinkContents.TheVariants as j

-- A subsection; only the place and the id if the id is unknown.
abbrev pub found_view : Found → d.Subsection
found_view (f.Known s) = s
found_view (f.Other place id) = record { place = place; value = d.Other id }

-- If the program returns a subsection with a known id, the definitions know that id.
abbrev pub HasKnownId : Found → Type 0
HasKnownId (f.Known s) = d.other_of s.value ≡ None
HasKnownId (f.Other place id) = Unit {0}

-- The result of reading the section that the program's value represents.
abbrev pub judgement_view : DylinkContents → d.Judged
judgement_view (j.Whole ss) = d.Whole ss
judgement_view (j.Unknown id) = d.Unknown id
judgement_view j.Faulty = d.Faulty
