use Rattle.std.proofs.Common.{ℕ, refl, sym, subst}
use Rattle.wasmprinter_decoder.specs.Refusals.{FirstIsEmpty}
use Rattle.wasmprinter_decoder.proofs.Emptied.{found_more, found_here, found_none}
use Rattle.wasmprinter_decoder.proofs.tables.empty_table.Goals as goal

pub loop-table-init : goal.loop-table-init
loop-table-init c = λ r there. there

pub loop-table-preserved : goal.loop-table-preserved
loop-table-preserved c =
    found_more c.args.tables.now c.loop-table.table-index c.table-item.result c.table-item.result c.loop-table-test.true c.table-item.is
    (λ e. let t = c.if-is_empty.ensures.1 e in cc) c.loop-table.invariant

pub returns-then-is_empty : goal.returns-then-is_empty
returns-then-is_empty c =
    subst (λ (place : ℕ). FirstIsEmpty place c.args.tables.now) (sym c.place.ensures)
    (found_here c.args.tables.now c.loop-table.table-index c.table-item.result c.table-item.result c.loop-table-test.true c.table-item.is
    (c.if-is_empty.ensures.0 refl) c.loop-table.invariant)

pub returns : goal.returns
returns c = found_none c.args.tables.now c.loop-table.table-index c.loop-table-test.false c.loop-table.invariant
