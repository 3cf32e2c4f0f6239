use Rattle.wasmprinter_laws.proofs.Colored.Groups.{colored_groups_are_nodes}
use Rattle.wasmprinter_laws.proofs.colors.colored_groups_are_nodes.Goals as goal

pub returns : goal.returns
returns c = colored_groups_are_nodes
