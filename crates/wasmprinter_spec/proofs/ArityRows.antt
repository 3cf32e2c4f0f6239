-- Worked rows of arities: the operand and result counts of operators, and the items that a module's operators name.
use Rattle.std.specs.Prelude.{◌≡◌, ℕ, List, [], ◌∷◌, map, length, ◌==◌, cond, true, codes, slice_get, Option, Some, None, option_map, refl}
use Rattle.wasmprinter_spec.specs.Grammar.{◌>>=◌}
use Rattle.wasmprinter_spec.specs.Types as types
use Rattle.wasmprinter_spec.specs.Types.{FuncType, ValType, StructComposite, field_type, Val, final_type, FuncExtern, TagExtern}
use Rattle.wasmprinter_spec.specs.Operator.{Empty, Value, OfType, NoImmediates, Index, Operator}
use Rattle.wasmprinter_spec.specs.Row.{OfBranchIf, OfBranchOnNull}
use Rattle.wasmprinter_spec.specs.Table.{table, arity_of}
use Rattle.wasmprinter_spec.specs.Placed.{import_of, PlacedModule}
use Rattle.wasmprinter_spec.specs.Folding.Arities.{Signatures, OperandCounts, operands_and_results, greatest, saturating_sum, label_of_block, counts, counts_of, signatures_within}
use Rattle.wasmprinter_spec.proofs.Samples.{func, bare, empty_placed, made}
use Rattle.wasmprinter_spec.proofs.BlockSamples.{block, loop, if_op, try_table, nop}
use Rattle.wasmprinter_spec.proofs.FromBytes.{spelled}

-- ---- operand and result counts

abbrev signature : List ValType → List ValType → FuncType
signature ps rs = record { params = ps; results = rs }

-- The arities of the table; a function type with two parameters and a result, which is the type of function 0; a
-- structure with three fields; a tag with three parameters. The enclosing function has two results.
abbrev known : Signatures
known = record {
  arities = arity_of;
  types = slice_get (signature (types.I32 ∷ types.I64 ∷ []) (types.F32 ∷ []) ∷ []);
  functions = slice_get (signature (types.I32 ∷ types.I64 ∷ []) (types.F32 ∷ []) ∷ []);
  tags = slice_get (signature (types.I32 ∷ types.I32 ∷ types.I32 ∷ []) [] ∷ []);
  fields = λ t. cond (t == 1) (Some 3) None;
  own = Some 2;
}

-- The open blocks, innermost first: one with a result, one without results, one whose type does not exist
abbrev open_labels : List (Option ℕ)
open_labels = Some 1 ∷ Some 0 ∷ None ∷ []

abbrev first_of : List Operator → Option Operator
first_of [] = None
first_of (o ∷ os) = Some o

-- The counts of the first operator that the bytes encode
abbrev counted : List ℕ → Option OperandCounts
counted bytes = spelled bytes >>= first_of >>= λ o. Some (counts_of known open_labels o)

abbrev all_counted : List (List ℕ) → List (Option OperandCounts)
all_counted rows = map counted rows

abbrev all_taking : List (ℕ × ℕ) → List (Option OperandCounts)
all_taking rows = map (λ c. Some (operands_and_results c.0 c.1)) rows

fixed_counts : all_counted ((0x6a ∷ []) ∷ (0x01 ∷ []) ∷ (0x1c ∷ 0x00 ∷ []) ∷ (0xfc ∷ 0x0a ∷ 0x00 ∷ 0x00 ∷ []) ∷ []) ≡ all_taking ((2, 1) ∷ (0, 0) ∷ (3, 1) ∷ (3, 0) ∷ [])
unfolding table
fixed_counts = refl

-- Calls of function 0 and of a function that does not exist
call_counts : all_counted ((0x10 ∷ 0x00 ∷ []) ∷ (0x10 ∷ 0x01 ∷ []) ∷ (0x12 ∷ 0x00 ∷ []) ∷ []) ≡ all_taking ((2, 1) ∷ (0, 0) ∷ (2, 0) ∷ [])
unfolding table
call_counts = refl

-- An indirect call has the counts of its function type, whose index precedes the table's. Type 1 is no function
-- type.
indirect_counts : all_counted (
    (0x11 ∷ 0x00 ∷ 0x01 ∷ []) ∷ (0x14 ∷ 0x00 ∷ []) ∷ (0x13 ∷ 0x00 ∷ 0x01 ∷ []) ∷ (0x15 ∷ 0x00 ∷ []) ∷ (0x11 ∷ 0x01 ∷ 0x00 ∷ []) ∷ (0x14 ∷ 0x01 ∷ []) ∷ [])
    ≡ all_taking ((3, 1) ∷ (3, 1) ∷ (3, 0) ∷ (3, 0) ∷ (0, 0) ∷ (0, 0) ∷ [])
unfolding table
indirect_counts = refl

throw_counts : all_counted ((0x08 ∷ 0x00 ∷ []) ∷ (0x08 ∷ 0x01 ∷ []) ∷ (0x0a ∷ []) ∷ (0x09 ∷ 0x00 ∷ []) ∷ []) ≡ all_taking ((3, 0) ∷ (0, 0) ∷ (1, 0) ∷ (0, 0) ∷ [])
unfolding table
throw_counts = refl

return_counts : all_counted ((0x0f ∷ []) ∷ []) ≡ all_taking ((2, 0) ∷ [])
unfolding table
return_counts = refl

-- A branch to each of the three blocks, to the body, and to no label
branch_counts : all_counted ((0x0c ∷ 0x00 ∷ []) ∷ (0x0c ∷ 0x01 ∷ []) ∷ (0x0c ∷ 0x02 ∷ []) ∷ (0x0c ∷ 0x03 ∷ []) ∷ (0x0c ∷ 0x04 ∷ []) ∷ [])
    ≡ all_taking ((1, 0) ∷ (0, 0) ∷ (0, 0) ∷ (2, 0) ∷ (0, 0) ∷ [])
unfolding table
branch_counts = refl

branch_if_counts : all_counted ((0x0d ∷ 0x00 ∷ []) ∷ (0x0d ∷ 0x01 ∷ []) ∷ (0x0d ∷ 0x02 ∷ []) ∷ (0x0d ∷ 0x03 ∷ []) ∷ (0x0d ∷ 0x04 ∷ []) ∷ [])
    ≡ all_taking ((2, 1) ∷ (1, 0) ∷ (0, 0) ∷ (3, 2) ∷ (0, 0) ∷ [])
unfolding table
branch_if_counts = refl

-- The last label of a branch table decides.
branch_table_counts : all_counted ((0x0e ∷ 0x01 ∷ 0x00 ∷ 0x03 ∷ []) ∷ (0x0e ∷ 0x01 ∷ 0x03 ∷ 0x00 ∷ []) ∷ (0x0e ∷ 0x01 ∷ 0x03 ∷ 0x02 ∷ []) ∷ []) ≡ all_taking ((3, 0) ∷ (2, 0) ∷ (0, 0) ∷ [])
unfolding table
branch_table_counts = refl

branch_on_counts : all_counted (
    (0xd5 ∷ 0x00 ∷ []) ∷ (0xd5 ∷ 0x01 ∷ []) ∷ (0xd5 ∷ 0x02 ∷ []) ∷ (0xd6 ∷ 0x03 ∷ []) ∷ (0xd6 ∷ 0x00 ∷ []) ∷ (0xd6 ∷ 0x01 ∷ []) ∷ (0xd6 ∷ 0x02 ∷ [])
    ∷ (0xfb ∷ 0x18 ∷ 0x00 ∷ 0x03 ∷ 0x6e ∷ 0x6e ∷ []) ∷ (0xfb ∷ 0x19 ∷ 0x00 ∷ 0x00 ∷ 0x6e ∷ 0x6e ∷ []) ∷ [])
    ≡ all_taking ((2, 2) ∷ (1, 1) ∷ (0, 0) ∷ (2, 1) ∷ (1, 0) ∷ (0, 0) ∷ (0, 0) ∷ (2, 2) ∷ (1, 1) ∷ [])
unfolding table
branch_on_counts = refl

-- Blocks, whose parameters are not counted, and an `end`
block_counts : all_counted ((0x02 ∷ 0x7f ∷ 0x0b ∷ []) ∷ (0x03 ∷ 0x00 ∷ 0x0b ∷ []) ∷ (0x04 ∷ 0x40 ∷ 0x0b ∷ []) ∷ (0x1f ∷ 0x00 ∷ 0x00 ∷ 0x0b ∷ []) ∷ (0x02 ∷ 0x05 ∷ 0x0b ∷ []) ∷ [])
    ≡ all_taking ((0, 1) ∷ (0, 1) ∷ (0, 0) ∷ (0, 1) ∷ (0, 0) ∷ [])
unfolding table
block_counts = refl

end_counts : counts_of known open_labels (made 0x0b NoImmediates) ≡ operands_and_results 0 0
unfolding table
end_counts = refl

-- The structure type, and a type that is no structure type. An array of a fixed number of elements has that many
-- operands, whatever its type is.
aggregate_counts : all_counted ((0xfb ∷ 0x00 ∷ 0x01 ∷ []) ∷ (0xfb ∷ 0x00 ∷ 0x00 ∷ []) ∷ (0xfb ∷ 0x08 ∷ 0x07 ∷ 0x05 ∷ []) ∷ (0xfb ∷ 0x08 ∷ 0x00 ∷ 0xff ∷ 0xff ∷ 0xff ∷ 0xff ∷ 0x0f ∷ []) ∷ [])
    ≡ all_taking ((3, 1) ∷ (0, 0) ∷ (5, 1) ∷ (4294967295, 1) ∷ [])
unfolding table
aggregate_counts = refl

unlisted_counts : counts_of known open_labels (made 0xff NoImmediates) ≡ operands_and_results 0 0
unfolding table
unlisted_counts = refl

-- Sums saturate at the greatest number.
greatest_sum : saturating_sum 4294967295 1 ≡ 4294967295
greatest_sum = refl

greatest_counts : map (λ a. counts known (Some greatest ∷ []) a (Index 0)) (OfBranchIf ∷ OfBranchOnNull ∷ []) ≡ operands_and_results 4294967295 4294967295 ∷ operands_and_results 4294967295 4294967295 ∷ []
greatest_counts = refl

-- A branch to a loop takes the loop's parameters. A branch to any other block takes the block's results.
label_counts : map (label_of_block known) (
    loop (OfType 0) ∷ block (OfType 0) ∷ if_op (OfType 0) ∷ try_table (OfType 0) [] ∷ loop (Value types.I32) ∷ block (Value types.I32)
    ∷ loop Empty ∷ block Empty ∷ block (OfType 1) ∷ loop (OfType 1) ∷ nop ∷ [])
    ≡ Some 2 ∷ Some 1 ∷ Some 1 ∷ Some 1 ∷ Some 0 ∷ Some 1 ∷ Some 0 ∷ Some 0 ∷ None ∷ None ∷ None ∷ []
label_counts = refl

-- ---- the items that the operators of a module name

-- A module with an imported function and a defined one, an imported tag and a defined one
abbrev sample_module : PlacedModule
sample_module = record empty_placed {
  types =
      bare 0 (func (types.I32 ∷ []) [])
      ∷ bare 0 (func [] (types.I32 ∷ types.I64 ∷ []))
      ∷ bare 0 (final_type (StructComposite (field_type true (Val types.I32) ∷ field_type true (Val types.I32) ∷ [])))
      ∷ [];
  imports =
      record { place = 0; value = import_of (codes "m") (codes "f") (FuncExtern 1) }
      ∷ record { place = 0; value = import_of (codes "m") (codes "t") (TagExtern 1) }
      ∷ [];
  tags = record { place = 0; value = 0 } ∷ [];
  functions =
      record { type_index = 0; body = record { place = 0; value = record { locals = []; operators = []; end = 0 } } }
      ∷ record { type_index = 2; body = record { place = 0; value = record { locals = []; operators = []; end = 0 } } }
      ∷ [];
}

abbrev sizes : Option FuncType → Option (ℕ × ℕ)
sizes t = option_map (λ t. (length t.params, length t.results)) t

functions_named : map (λ i. sizes ((signatures_within sample_module (Some 0)).functions i)) (0 ∷ 1 ∷ 2 ∷ 3 ∷ []) ≡ Some (0, 2) ∷ Some (1, 0) ∷ None ∷ None ∷ []
functions_named = refl

tags_named : map (λ i. sizes ((signatures_within sample_module (Some 0)).tags i)) (0 ∷ 1 ∷ 2 ∷ []) ≡ Some (0, 2) ∷ Some (1, 0) ∷ None ∷ []
tags_named = refl

types_named : map (λ i. sizes ((signatures_within sample_module (Some 0)).types i)) (0 ∷ 1 ∷ 2 ∷ 3 ∷ []) ≡ Some (1, 0) ∷ Some (0, 2) ∷ None ∷ None ∷ []
types_named = refl

fields_named : map ((signatures_within sample_module (Some 0)).fields) (0 ∷ 2 ∷ 3 ∷ []) ≡ None ∷ Some 2 ∷ None ∷ []
fields_named = refl
