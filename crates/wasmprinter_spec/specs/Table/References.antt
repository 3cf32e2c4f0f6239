-- Operators on references, structures and arrays (section 5.4 of the standard, "Reference Instructions",
-- "Aggregate Instructions").
use Prim.Native.String.{String}
use Rattle.std.specs.Prelude.{ℕ, List, [], ◌∷◌, true, false}
use Rattle.wasmprinter_spec.specs.Row.{Row, Types, Func, Elem, Data, Shape, NoneShape, IndexShape, PairShape, FieldShape, CountShape, HeapShape, RefShape, Arity, Fixed, OfStruct, OfCount}
use Rattle.wasmprinter_spec.specs.Table.Rows.{prefixed_row, plain}

-- An operator after the prefix FB: its number, word, shape and arity.
abbrev aggregate : ℕ → String → Shape → Arity → Row
aggregate n w s a = prefixed_row 0xfb n w s a

-- The operators on references, structures and arrays.
unfoldable pub reference_rows : List Row
reference_rows =
    plain 0xd0 "ref.null" HeapShape (Fixed 0 1) ∷
    plain 0xd1 "ref.is_null" NoneShape (Fixed 1 1) ∷
    plain 0xd2 "ref.func" (IndexShape Func) (Fixed 0 1) ∷
    plain 0xd3 "ref.eq" NoneShape (Fixed 2 1) ∷
    plain 0xd4 "ref.as_non_null" NoneShape (Fixed 1 1) ∷
    aggregate 0 "struct.new" (IndexShape Types) OfStruct ∷
    aggregate 1 "struct.new_default" (IndexShape Types) (Fixed 0 1) ∷
    aggregate 2 "struct.get" FieldShape (Fixed 1 1) ∷
    aggregate 3 "struct.get_s" FieldShape (Fixed 1 1) ∷
    aggregate 4 "struct.get_u" FieldShape (Fixed 1 1) ∷
    aggregate 5 "struct.set" FieldShape (Fixed 2 0) ∷
    aggregate 6 "array.new" (IndexShape Types) (Fixed 2 1) ∷
    aggregate 7 "array.new_default" (IndexShape Types) (Fixed 1 1) ∷
    aggregate 8 "array.new_fixed" CountShape OfCount ∷
    aggregate 9 "array.new_data" (PairShape Types Data) (Fixed 2 1) ∷
    aggregate 10 "array.new_elem" (PairShape Types Elem) (Fixed 2 1) ∷
    aggregate 11 "array.get" (IndexShape Types) (Fixed 2 1) ∷
    aggregate 12 "array.get_s" (IndexShape Types) (Fixed 2 1) ∷
    aggregate 13 "array.get_u" (IndexShape Types) (Fixed 2 1) ∷
    aggregate 14 "array.set" (IndexShape Types) (Fixed 3 0) ∷
    aggregate 15 "array.len" NoneShape (Fixed 1 1) ∷
    aggregate 16 "array.fill" (IndexShape Types) (Fixed 4 0) ∷
    aggregate 17 "array.copy" (PairShape Types Types) (Fixed 5 0) ∷
    aggregate 18 "array.init_data" (PairShape Types Data) (Fixed 4 0) ∷
    aggregate 19 "array.init_elem" (PairShape Types Elem) (Fixed 4 0) ∷
    aggregate 20 "ref.test" (RefShape false) (Fixed 1 1) ∷
    aggregate 21 "ref.test" (RefShape true) (Fixed 1 1) ∷
    aggregate 22 "ref.cast" (RefShape false) (Fixed 1 1) ∷
    aggregate 23 "ref.cast" (RefShape true) (Fixed 1 1) ∷
    aggregate 26 "any.convert_extern" NoneShape (Fixed 1 1) ∷
    aggregate 27 "extern.convert_any" NoneShape (Fixed 1 1) ∷
    aggregate 28 "ref.i31" NoneShape (Fixed 1 1) ∷
    aggregate 29 "i31.get_s" NoneShape (Fixed 1 1) ∷
    aggregate 30 "i31.get_u" NoneShape (Fixed 1 1) ∷
    []
