use Rattle.std.proofs.Common.{rules, ℕ, refl, ◌∙◌, sym}
use Rattle.wasmprinter_spec.specs.Grammar.{Input}
use Rattle.wasmprinter_spec.specs.Types.{Index}
use Rattle.wasmprinter_spec.specs.Binary.ValTypes.{heap_type_by}
use Rattle.wasmprinter_ops.proofs.FirstBytes.{peeked_is, index_takes_byte}
use Rattle.wasmprinter_ops.proofs.val_types.read_heap_type.Goals as goal

pub returns-in_ok-read_type_index-in-None : goal.returns-in_ok-read_type_index-in-None
returns-in_ok-read_type_index-in-None c = record {
  reads =
      let index : ℕ × Input = (c.in_ok-read_type_index-in-None.field-0, c.read_type_index.new.cursor) in
      peeked_is heap_type_by c.args.cursor.now c.in-Some.byte (Index index.0, index.1) (sym c.peek.ensures ∙ c.in-Some.is)
      (rw (sym c.of_byte.ensures, c.in-None.is, c.in_ok-read_type_index-in-None.ensures.reads) refl)
      (index_takes_byte c.args.cursor.now index c.in_ok-read_type_index-in-None.ensures.reads);
  within = search rules;
  end = search rules;
  forward = search rules;
}
