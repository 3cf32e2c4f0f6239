use Rattle.std.proofs.Common.{refl, arith}
use Rattle.wasmprinter_ops.specs.Types.{field_view, fields_view}
use Rattle.wasmprinter_hidden.specs.Lengths.{field_type_len}
use Rattle.wasmprinter_hidden.proofs.Lists.{list_len-view}
use Rattle.wasmprinter_hidden.proofs.type_lengths.CompositeTypeShortest.take_from.Goals as goal

pub returns-in-Struct : goal.returns-in-Struct
returns-in-Struct c =
    let fields = list_len-view field_type_len field_view c.in-Struct.fields (fields_view c.in-Struct.fields) refl in
    rw c.in-Struct.is (omega arith)
