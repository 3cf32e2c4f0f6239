use Rattle.std.proofs.Common.{rules, ap, arith}
use Rattle.wasmprinter_spec.specs.Grammar.{Input}
use Rattle.wasmprinter_spec.specs.Binary.Types.{subtype}
use Rattle.wasmprinter_decoder.proofs.GroupPlaces.{group_place}
use Rattle.wasmprinter_decoder.proofs.type_section.TypeGroupDecodeIn.read.Goals.{then-is_explicit+in_ok-u8+in_ok-types, else-is_explicit+in_ok-types-2}
use Rattle.wasmprinter_decoder.proofs.type_section.TypeGroupDecodeIn.read.Goals as goal

pub invariant_of-result : goal.invariant_of-result
invariant_of-result c written = elim c.if-is_explicit.branch [
  | then-is_explicit+in_ok-u8+in_ok-types w ↦
      let fits = group_place subtype c.args.cursor.now _ _ w.in_ok-u8.ensures.reads w.in_ok-types.ensures.reads c.fork-start.ensures.fits in
      omega (arith, fits, c.place.ensures, ap (λ (i : Input). i.place) c.fork-start.ensures.same)
  | else-is_explicit+in_ok-types-2 w ↦ absurd (search rules)
]
