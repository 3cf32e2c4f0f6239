use Rattle.std.proofs.Common.{◌≡◌, List, refl, subst}
use Rattle.std.proofs.lemmas.Result.{err_from_is_err_and}
use Rattle.wasmprinter_spec.specs.Grammar.{value_with_place}
use Rattle.wasmprinter_spec.specs.Binary.Tables.{table}
use Rattle.wasmprinter_spec.specs.Sections.{FunctionSection, TableSection, holds}
use Rattle.wasmprinter_decoder.specs.Refusals.{HoldsItems, PlacedTable, FirstIsEmpty}
use Rattle.wasmprinter_decoder.proofs.SectionLists.{grown_fault}
use Rattle.wasmprinter_decoder.proofs.Emptied.{section_empty}
use Rattle.wasmprinter_decoder.proofs.tables.read_tables.Goals as goal

pub returns-in_err-tables : goal.returns-in_err-tables
returns-in_err-tables c =
    let (fault, failed, is) = err_from_is_err_and c.from_residual.result c.from_residual.ensures.1 in
    rw (failed, is)
    (grown_fault (value_with_place table) (holds TableSection) (HoldsItems TableSection) (TableSection ≡ FunctionSection) tt (λ xs. refl)
    c.args.cursor.now c.in_err-tables.field-0.0 c.in_err-tables.ensures.reads)

pub returns-in-Some : goal.returns-in-Some
returns-in-Some c =
    section_empty c.args.cursor.now c.read_grown_list.new.cursor c.in_ok-tables.tables.items c.in-Some.place c.in_ok-tables.ensures.reads
    (subst (λ (ts : List PlacedTable). FirstIsEmpty c.in-Some.place ts) c.deref.ensures.value c.in-Some.ensures)
