use Rattle.wasmprinter_laws.proofs.Operators.Labels.{labels_mean_their_blocks}
use Rattle.wasmprinter_laws.proofs.names_and_identifiers.labels_mean_their_blocks.Goals as goal

pub returns : goal.returns
returns c = labels_mean_their_blocks
