use Rattle.wasmprinter_laws.proofs.Names.Resolving.{identifiers_resolve}
use Rattle.wasmprinter_laws.proofs.names_and_identifiers.identifiers_resolve.Goals as goal

pub returns : goal.returns
returns c = identifiers_resolve
