use Rattle.std.proofs.Common.{rules, ◌∙◌, arith}
use Rattle.std.proofs.lemmas.Result.{err_from_is_err_and}
use Rattle.wasmprinter_decoder.specs.Externs.{table_type_view}
use Rattle.wasmprinter_decoder.proofs.TableEntries.{initialiser_fault}
use Rattle.wasmprinter_decoder.proofs.tables.Table.read_initialised.Goals as goal

pub returns-in_err-read : goal.returns-in_err-read
returns-in_err-read c = record {
  reads =
      let (fault, failed, is) = err_from_is_err_and c.from_residual-in_err-read.result c.from_residual-in_err-read.ensures.1 in
      rw (failed, is)
      (initialiser_fault c.args.cursor.now c.read_only.new.cursor c.read_only-2.new.cursor c.read.new.cursor c.in_ok-read_only.field-0 c.in_ok-read_only-2.field-0
      (table_type_view c.in_ok-ty.ty) c.in_ok-read_only.ensures.reads c.in_ok-read_only-2.ensures.reads c.in_ok-ty.ensures.reads
      (c.in_ok-ty.ensures.end ∙ c.in_ok-read_only-2.ensures.end ∙ c.in_ok-read_only.ensures.end)
      (omega (arith, c.in_ok-read_only.ensures.forward, c.in_ok-read_only-2.ensures.forward, c.in_ok-ty.ensures.forward)) c.in_err-read.field-0.0 c.in_err-read.ensures.reads);
  end = search rules;
  forward = search rules;
}
