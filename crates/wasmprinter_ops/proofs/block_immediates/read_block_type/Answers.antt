use Rattle.std.proofs.Common.{rules, sym}
use Rattle.wasmprinter_ops.specs.ValTypes.{val_type_view}
use Rattle.wasmprinter_ops.proofs.BlockTypes.{index_read, value_read}
use Rattle.wasmprinter_ops.proofs.block_immediates.read_block_type.Goals as goal

pub returns-in_ok-read_type_index : goal.returns-in_ok-read_type_index
returns-in_ok-read_type_index c = record {
  reads = index_read c.args.cursor.now c.in-Some.first (c.in_ok-read_type_index.field-0, c.read_type_index.new.cursor)
      c.in-Some.ensures c.if-first-eq-EMPTY.false (sym c.if-begins_type.ensures) c.in_ok-read_type_index.ensures.reads;
  within = search rules;
  end = search rules;
  forward = search rules;
}

pub returns-in_ok-read_type : goal.returns-in_ok-read_type
returns-in_ok-read_type c = record {
  reads = value_read c.args.cursor.now c.in-Some.first (val_type_view c.in_ok-read_type.field-0, c.read_type.new.cursor)
      c.in-Some.ensures c.if-first-eq-EMPTY.false (sym c.if-begins_type.ensures) c.in_ok-read_type.ensures.reads;
  within = search rules;
  end = search rules;
  forward = search rules;
}
