use Rattle.wasmprinter_laws.proofs.GivenNames.{entries_are_given}
use Rattle.wasmprinter_laws.proofs.names_and_identifiers.entries_are_given.Goals as goal

pub returns : goal.returns
returns c = entries_are_given
