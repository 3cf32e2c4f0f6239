use Rattle.std.proofs.Common.{rules, ◌≡◌, None, refl, arith}
use Rattle.std.proofs.lemmas.Result.{err_from_is_err_and}
use Rattle.wasmprinter_spec.specs.Name.{vec}
use Rattle.wasmprinter_spec.specs.Instructions.{expression}
use Rattle.wasmprinter_spec.specs.Binary.Elements.{expression_items}
use Rattle.wasmprinter_bytes.specs.Lists.{CountsItems}
use Rattle.wasmprinter_bytes.proofs.Grown.{part_fault}
use Rattle.wasmprinter_ops.specs.ValTypes.{ref_view}
use Rattle.wasmprinter_decoder.proofs.Constants.{expressions_read, expressions_none}
use Rattle.wasmprinter_decoder.proofs.elements.ElementItems.read_expressions.Goals as goal

pub returns : goal.returns
returns c = record {
  reads = expressions_read (ref_view c.args.ty) c.args.cursor.now c.read_grown_list.new.cursor c.in_ok-expressions.expressions.items c.in_ok-expressions.ensures.reads;
  end = search rules;
  forward = search rules;
}

pub returns-in_err-expressions : goal.returns-in_err-expressions
returns-in_err-expressions c = record {
  reads =
      let (fault, failed, is) = err_from_is_err_and c.from_residual.result c.from_residual.ensures.1 in
      rw (failed, is)
      (part_fault ((vec expression).parse c.args.cursor.now ≡ None) (CountsItems c.args.cursor.now) ((expression_items (ref_view c.args.ty)).parse c.args.cursor.now ≡ None) (CountsItems c.args.cursor.now)
      c.args.cursor.now c.args.cursor.now (λ none. expressions_none (ref_view c.args.ty) c.args.cursor.now none) (λ more. more) refl (omega arith)
      c.in_err-expressions.field-0.0 c.in_err-expressions.ensures.reads);
  end = search rules;
  forward = search rules;
}
