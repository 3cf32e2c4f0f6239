use Rattle.std.proofs.Common.{refl}
use Rattle.wasmprinter_hidden.proofs.HintData.{too_many, few, uncounted}
use Rattle.wasmprinter_hidden.proofs.hint_entries.read_entries.Goals as goal
use Rattle.wasmprinter_hidden.proofs.hint_entries.read_entries.Goals.{in_default-via-in-Ok+else-count-le-MOST_FUNCTIONS, in_default-via-in_default}

pub returns-in_default : goal.returns-in_default
returns-in_default c = elim c.in_default.branch [
  | in_default-via-in-Ok+else-count-le-MOST_FUNCTIONS w ↦
      let counted = rw c.fork.ensures.same at w.in-Ok.ensures in
      too_many c.args.data c.u32.new.self w.in-Ok.count counted.reads w.if-count-le-MOST_FUNCTIONS.false
  | in_default-via-in_default w ↦
      let counted = rw c.fork.ensures.same at w.in_default.ensures in
      uncounted c.args.data counted.reads
]

pub returns-in-Ok-read_list : goal.returns-in-Ok-read_list
returns-in-Ok-read_list c =
    let counted = rw c.fork.ensures.same at c.in-Ok.ensures in
    few c.args.data c.u32.new.self c.in-Ok.count counted.reads c.in-Ok-read_list.entries.items c.read_list.new.cursor
    c.if-count-le-MOST_FUNCTIONS.true c.in-Ok-read_list.ensures.reads (c.if-is_empty.ensures.0 refl)
