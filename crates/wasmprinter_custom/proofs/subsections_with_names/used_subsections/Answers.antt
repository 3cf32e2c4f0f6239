use Rattle.std.proofs.Common.{subst, arith, rules}
use Rattle.wasmprinter_custom.proofs.Marked.{Marks, marks_more, marked, marks_none}
use Rattle.wasmprinter_custom.proofs.subsections_with_names.used_subsections.Goals as goal

pub loop-key-init : goal.loop-key-init
loop-key-init c = record { len = search rules; marks = marks_none c.args.entries.now 256 }

pub loop-key-preserved : goal.loop-key-preserved
loop-key-preserved c = record {
  len = search rules;
  marks =
      marks_more c.args.entries.now c.loop-key.marks c.loop-key.key-index c.from.result c.loop-key-item.result
      (omega arith) c.loop-key-item.is c.from.ensures (omega arith) c.loop-key.invariant.marks;
}

pub returns : goal.returns
returns c = marked c.args.entries.now c.loop-key.marks (subst (λ n. Marks c.args.entries.now n c.loop-key.marks) (omega arith) c.loop-key.invariant.marks)
