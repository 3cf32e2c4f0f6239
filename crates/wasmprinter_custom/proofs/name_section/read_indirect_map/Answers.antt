use Rattle.std.proofs.Common.{Some, ◌+◌, arith}
use Rattle.std.proofs.lemmas.Result.{err_from_is_err_and}
use Rattle.wasmprinter_spec.specs.Names.Section.{inner_map}
use Rattle.wasmprinter_custom.proofs.Loops.{added_more, added_all, added_refused, counted_up_to, counted_before}
use Rattle.wasmprinter_custom.proofs.name_section.read_indirect_map.Goals as goal

pub loop-preserved : goal.loop-preserved
loop-preserved c =
    added_more (inner_map c.args.subsection) c.u32.new.self c.args.builder.now c.loop.counter (c.loop.counter + 1) c.loop.cursor c.read_inner_map.new.cursor c.loop.builder c.read_inner_map.new.builder
    (omega arith) c.loop.invariant c.in_ok-read_inner_map.ensures

pub returns : goal.returns
returns c =
    counted_up_to (inner_map c.args.subsection) c.args.cursor.now c.u32.new.self c.in_ok-count.count c.in_ok-count.ensures.reads c.args.builder.now c.loop.builder (Some c.loop.cursor)
    (added_all (inner_map c.args.subsection) c.u32.new.self c.args.builder.now c.loop.counter c.in_ok-count.count c.loop.cursor c.loop.builder (omega arith) (omega arith) c.loop.invariant)

pub returns-in_err-read_inner_map : goal.returns-in_err-read_inner_map
returns-in_err-read_inner_map c =
    let p = err_from_is_err_and c.from_residual-in_err-read_inner_map.result c.from_residual-in_err-read_inner_map.ensures.1 in
    rw (p.1, p.2)
    (counted_before (inner_map c.args.subsection) c.args.cursor.now c.u32.new.self c.in_ok-count.count c.in_ok-count.ensures.reads c.args.builder.now c.read_inner_map.new.builder c.in_err-read_inner_map.field-0.0
    (added_refused (inner_map c.args.subsection) c.u32.new.self c.args.builder.now c.loop.counter c.in_ok-count.count c.loop.cursor c.loop.builder c.read_inner_map.new.builder c.in_err-read_inner_map.field-0.0 (omega arith) c.loop.invariant c.in_err-read_inner_map.ensures))
