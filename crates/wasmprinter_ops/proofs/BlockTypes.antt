-- Block types that are a value type or a type index.
use Rattle.std.proofs.Common.{◌≡◌, ◌≢◌, ℕ, true, false, eqb, Some, refl, sym}
use Rattle.std.specs.Prelude.{slice_get}
use Rattle.std.proofs.lemmas.Bool.{ne_eqb}
use Rattle.wasmprinter_spec.specs.Grammar.{Input}
use Rattle.wasmprinter_spec.specs.Types.{ValType}
use Rattle.wasmprinter_spec.specs.Binary.ValTypes.{signed_index, val_type_after, val_type, begins_val_type}
use Rattle.wasmprinter_spec.specs.Operator.{Value, OfType}
use Rattle.wasmprinter_spec.specs.Instructions.{block_type, block_type_by}
use Rattle.wasmprinter_ops.proofs.FirstBytes.{peeked_is, index_takes_byte, announced_takes_byte}

-- If the first byte is not 40 and does not begin a value type, reading the block type reads a type index.
pub index_read : (at : Input) (first : ℕ) (x : ℕ × Input) → Some first ≡ slice_get at.bytes 0 → first ≢ 0x40 → begins_val_type first ≡ false
    → signed_index.parse at ≡ Some x → block_type.parse at ≡ Some (OfType x.0, x.1)
index_read at first x f empty value e =
    let not_empty : eqb first 0x40 ≡ false = ne_eqb first 0x40 empty in
    let chosen : (block_type_by first).parse at ≡ Some (OfType x.0, x.1) = rw (not_empty, value, e) refl in
    peeked_is block_type_by at first (OfType x.0, x.1) (sym f) chosen (index_takes_byte at x e)

-- If the first byte begins a value type, reading the block type reads that value type.
pub value_read : (at : Input) (first : ℕ) (x : ValType × Input) → Some first ≡ slice_get at.bytes 0 → first ≢ 0x40 → begins_val_type first ≡ true
    → val_type.parse at ≡ Some x → block_type.parse at ≡ Some (Value x.0, x.1)
value_read at first x f empty value e =
    let not_empty : eqb first 0x40 ≡ false = ne_eqb first 0x40 empty in
    let chosen : (block_type_by first).parse at ≡ Some (Value x.0, x.1) = rw (not_empty, value, e) refl in
    peeked_is block_type_by at first (Value x.0, x.1) (sym f) chosen (announced_takes_byte val_type_after at x e)
