use Rattle.std.specs.Prelude.{length}
use Rattle.wasmprinter_spec.specs.Names.Section.{subsections}
use Rattle.wasmprinter_spec.proofs.NameSections.{gives_some, gives_one}
use Rattle.wasmprinter_laws.proofs.names_and_identifiers.name_sections_give_one_list.Goals as goal

pub returns : goal.returns
returns c at =
    let entries = ((subsections (length at.bytes)).read at).0 in
    (entries, gives_some at, λ ys g. gives_one at ys entries g (gives_some at))
