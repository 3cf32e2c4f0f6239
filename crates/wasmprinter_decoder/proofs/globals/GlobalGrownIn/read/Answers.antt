use Rattle.std.proofs.Common.{rules, ◌≡◌, None, refl}
use Rattle.std.proofs.lemmas.Result.{err_from_is_err_and}
use Rattle.wasmprinter_spec.specs.Grammar.{value_with_place}
use Rattle.wasmprinter_spec.specs.Instructions.{expression}
use Rattle.wasmprinter_spec.specs.Binary.Globals.{global}
use Rattle.wasmprinter_bytes.proofs.Grown.{part_fault}
use Rattle.wasmprinter_ops.specs.Operators.{ReachesBlock}
use Rattle.wasmprinter_decoder.specs.Externs.{global_type_view}
use Rattle.wasmprinter_decoder.specs.Growing.{GlobalGrows}
use Rattle.wasmprinter_decoder.proofs.globals.GlobalGrownIn.read.Goals as goal

pub returns-in_err-init : goal.returns-in_err-init
returns-in_err-init c = record {
  reads =
      let (fault, failed, is) = err_from_is_err_and c.from_residual-in_err-init.result c.from_residual-in_err-init.ensures.1 in
      rw (failed, is)
      (part_fault (expression.parse c.read.new.cursor ≡ None) (ReachesBlock c.read.new.cursor) ((value_with_place global).parse c.args.cursor.now ≡ None) (GlobalGrows c.args.cursor.now) c.read.new.cursor c.args.cursor.now
      (λ none. rw (c.in_ok-ty.ensures.reads, none) refl) (λ more. record { value = global_type_view c.in_ok-ty.ty; after = c.read.new.cursor; read = c.in_ok-ty.ensures.reads; holds = more }) c.in_ok-ty.ensures.end c.in_ok-ty.ensures.forward c.in_err-init.field-0.0 c.in_err-init.ensures.reads);
  end = search rules;
  forward = search rules;
}
