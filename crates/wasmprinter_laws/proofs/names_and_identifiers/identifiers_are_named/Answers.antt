use Rattle.wasmprinter_laws.proofs.Names.Named.{identifiers_are_named}
use Rattle.wasmprinter_laws.proofs.names_and_identifiers.identifiers_are_named.Goals as goal

pub returns : goal.returns
returns c = identifiers_are_named
