use Rattle.wasmprinter_laws.proofs.Names.Distinct.{identifiers_are_apart}
use Rattle.wasmprinter_laws.proofs.names_and_identifiers.identifiers_are_apart.Goals as goal

pub returns : goal.returns
returns c = identifiers_are_apart
