use Rattle.wasmprinter_laws.proofs.GivenNames.{modules_have_identifiers}
use Rattle.wasmprinter_laws.proofs.names_and_identifiers.modules_have_identifiers.Goals as goal

pub returns : goal.returns
returns c = modules_have_identifiers
