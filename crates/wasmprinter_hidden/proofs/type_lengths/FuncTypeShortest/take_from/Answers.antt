use Rattle.std.proofs.Common.{arith}
use Rattle.wasmprinter_ops.specs.ValTypes.{val_type_view}
use Rattle.wasmprinter_hidden.specs.Lengths.{val_type_len}
use Rattle.wasmprinter_hidden.proofs.Lists.{list_len-view}
use Rattle.wasmprinter_hidden.proofs.type_lengths.FuncTypeShortest.take_from.Goals as goal

pub returns : goal.returns
returns c =
    let params = list_len-view val_type_len val_type_view c.params.result c.args.self.now.params c.params.ensures in
    let results = list_len-view val_type_len val_type_view c.results.result c.args.self.now.results c.results.ensures in
    omega arith
