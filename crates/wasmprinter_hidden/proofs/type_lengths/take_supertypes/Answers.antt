use Rattle.std.proofs.Common.{◌<◌, length, arith}
use Rattle.wasmprinter_hidden.proofs.SubTypes.{open_type, with_supertypes}
use Rattle.wasmprinter_hidden.proofs.type_lengths.take_supertypes.Goals as goal
use Rattle.wasmprinter_hidden.proofs.type_lengths.take_supertypes.Goals.{else-is_final-via-then-is_final+else-len-eq0, else-is_final-via-else-is_final}

pub returns : goal.returns
returns c = λ t. elim c.else-is_final.branch [
  | else-is_final-via-then-is_final+else-len-eq0 w ↦
      let some : 0 < length c.args.supertypes.now = omega arith in
      omega (arith, with_supertypes c.args.is_final c.args.supertypes.now t some)
  | else-is_final-via-else-is_final w ↦ omega (arith, open_type c.args.is_final c.args.supertypes.now t w.if-is_final.false)
]
