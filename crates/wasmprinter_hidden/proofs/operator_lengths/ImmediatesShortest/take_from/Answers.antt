use Rattle.std.proofs.Common.{refl, arith}
use Rattle.wasmprinter_ops.specs.Blocks.{catch_view, catches_view}
use Rattle.wasmprinter_ops.specs.ValTypes.{val_type_view, val_types_view}
use Rattle.wasmprinter_hidden.specs.Lengths.{catch_len, val_type_len}
use Rattle.wasmprinter_hidden.proofs.Lists.{list_len-view}
use Rattle.wasmprinter_hidden.proofs.operator_lengths.ImmediatesShortest.take_from.Goals as goal

pub returns-in-TryTable : goal.returns-in-TryTable
returns-in-TryTable c =
    let catches = list_len-view catch_len catch_view c.in-TryTable.catches (catches_view c.in-TryTable.catches) refl in
    rw c.in-TryTable.is (omega arith)

pub returns-in-Types : goal.returns-in-Types
returns-in-Types c =
    let types = list_len-view val_type_len val_type_view c.in-Types.types (val_types_view c.in-Types.types) refl in
    rw c.in-Types.is (omega arith)
