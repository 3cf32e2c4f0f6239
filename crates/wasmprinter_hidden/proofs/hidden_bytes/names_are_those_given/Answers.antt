-- The names that are read are the entries that the data gives.
use Rattle.wasmprinter_hidden.proofs.NamesGiven.{names_are_given}
use Rattle.wasmprinter_hidden.proofs.hidden_bytes.names_are_those_given.Goals as goal

pub returns : goal.returns
returns c = names_are_given
