-- The number of operands that an operator takes and of results that it gives, at its position: by the arity of its
-- opcode, which in a module is that of the table's column. For operators that name a type, a function, a tag or a
-- label, it depends on what these are in the module. The types of operators (section 3.4 of the standard,
-- "Instructions") give these numbers for valid code.
use Rattle.std.specs.Prelude.{ℕ, zero, suc, ◌+◌, ◌-◌, ◌^◌, ◌==◌, ◌&&◌, min, List, [], ◌∷◌, ◌++◌, length, map, slice_get, Bool, true, false, Option, Some, None, option_map}
use Rattle.wasmprinter_spec.specs.Grammar.{◌>>=◌}
use Rattle.wasmprinter_spec.specs.Types.{FuncType, ValType, SubType, all_types, signature_at, fields_at}
use Rattle.wasmprinter_spec.specs.Operator.{Opcode, BlockType, Empty, Value, OfType, Immediates, Block, TryTable, Index, Indices, BranchTable, Cast, Operator}
use Rattle.wasmprinter_spec.specs.Row.{Arity, Fixed, OfCall, OfReturnCall, OfIndirectCall, OfReturnIndirectCall, OfThrow, OfReturn, OfBranch, OfBranchIf, OfBranchTable, OfBranchOnNull, OfBranchOnNonNull, OfBranchOnCast, OfBlock, OfStruct, OfCount}
use Rattle.wasmprinter_spec.specs.Table.{arity_of}
use Rattle.wasmprinter_spec.specs.Placed.{PlacedModule}
use Rattle.wasmprinter_spec.specs.Module.{without_places, groups_of, imported_types, func_import, tag_import}

-- The arities of opcodes; by index, the function types, the types of functions and of tags, and the number of
-- fields of each structure type; and the number of results of the enclosing function, which is 0 for a constant
-- expression. Nothing is known of an opcode that is not listed, nor of an index that has no item or one of another
-- kind.
pub record Signatures : Type 0 where
  pub arities : Opcode → Option Arity
  pub types : ℕ → Option FuncType
  pub functions : ℕ → Option FuncType
  pub tags : ℕ → Option FuncType
  pub fields : ℕ → Option ℕ
  pub own : Option ℕ

-- The number of operands that are taken, and of results that are given.
pub record OperandCounts : Type 0 where
  pub operands : ℕ
  pub results : ℕ

-- p operands are taken, and q results are given.
abbrev pub operands_and_results : ℕ → ℕ → OperandCounts
operands_and_results p q = record { operands = p; results = q }

-- The counts, if they are known. Otherwise the operator takes and gives nothing.
abbrev pub if_known : Option OperandCounts → OperandCounts
if_known None = operands_and_results 0 0
if_known (Some c) = c

-- The greatest number of 32 bits.
abbrev pub greatest : ℕ
greatest = 2 ^ 32 - 1

-- The sum, or the greatest number if the sum is greater.
abbrev pub saturating_sum : ℕ → ℕ → ℕ
saturating_sum a b = min (a + b) greatest

-- ---- Blocks and labels

-- The type of a block that gives one value.
abbrev pub one_result : ValType → FuncType
one_result t = record { params = []; results = t ∷ [] }

-- The parameters and results of a block (section 3.2 of the standard, "Block Types").
abbrev pub block_signature : Signatures → BlockType → Option FuncType
block_signature s Empty = Some (record { params = []; results = [] })
block_signature s (Value t) = Some (one_result t)
block_signature s (OfType n) = s.types n

-- The number of values that a block takes.
abbrev pub block_operands : Signatures → BlockType → Option ℕ
block_operands s t = option_map (λ f. length f.params) (block_signature s t)

-- The number of values that a block gives.
abbrev pub block_results : Signatures → BlockType → Option ℕ
block_results s t = option_map (λ f. length f.results) (block_signature s t)

-- The opcode is that of `loop`: a branch to its label goes to its start.
abbrev pub is_loop : Opcode → Bool
is_loop o = (o.prefix == 0) && (o.number == 0x03)

-- The number of values of a branch to the label of a block of this type, which is a loop or not.
abbrev pub label_of_type : Signatures → Bool → BlockType → Option ℕ
label_of_type s true t = block_operands s t
label_of_type s false t = block_results s t

-- The number of values of a branch to the label that the operator opens.
abbrev pub label_of_block : Signatures → Operator → Option ℕ
label_of_block s o =
    elim o.immediates as (λ i. Option ℕ) [ Block t ↦ label_of_type s (is_loop o.opcode) t | TryTable t cs ↦ block_results s t | _ ↦ None ]

-- The number of values of a branch to label l: the label of an enclosing block or, after the last of these, the
-- body's own. A label that does not exist has no count.
abbrev pub label_count : List (Option ℕ) → Option ℕ → ℕ → Option ℕ
label_count [] own zero = own
label_count [] own (suc l) = None
label_count (x ∷ xs) own zero = x
label_count (x ∷ xs) own (suc l) = label_count xs own l

-- ---- Operators

-- Counts by the numbers of parameters and results of a type.
abbrev pub by_type : (ℕ → ℕ → OperandCounts) → Option FuncType → OperandCounts
by_type f t = if_known (option_map (λ t. f (length t.params) (length t.results)) t)

-- Counts by the number of values of a label, of fields of a structure, or of results of a function.
abbrev pub by_count : (ℕ → OperandCounts) → Option ℕ → OperandCounts
by_count f n = if_known (option_map f n)

-- The counts of each arity, a line for each. P and Q are the numbers of parameters and results of the type that is
-- named; v is the number of values that a branch to the label takes.
abbrev pub counts : Signatures → List (Option ℕ) → Arity → Immediates → OperandCounts
counts s ls (Fixed p q) i = operands_and_results p q
counts s ls OfCall (Index f) = by_type (λ P Q. operands_and_results P Q) (s.functions f)
counts s ls OfReturnCall (Index f) = by_type (λ P Q. operands_and_results P 0) (s.functions f)
counts s ls OfIndirectCall (Index t) = by_type (λ P Q. operands_and_results (saturating_sum P 1) Q) (s.types t)
counts s ls OfIndirectCall (Indices t n) = by_type (λ P Q. operands_and_results (saturating_sum P 1) Q) (s.types t)
counts s ls OfReturnIndirectCall (Index t) = by_type (λ P Q. operands_and_results (saturating_sum P 1) 0) (s.types t)
counts s ls OfReturnIndirectCall (Indices t n) = by_type (λ P Q. operands_and_results (saturating_sum P 1) 0) (s.types t)
counts s ls OfThrow (Index t) = by_type (λ P Q. operands_and_results P 0) (s.tags t)
counts s ls OfReturn i = by_count (λ n. operands_and_results n 0) s.own
counts s ls OfBranch (Index l) = by_count (λ v. operands_and_results v 0) (label_count ls s.own l)
counts s ls OfBranchIf (Index l) = by_count (λ v. operands_and_results (saturating_sum v 1) v) (label_count ls s.own l)
counts s ls OfBranchTable (BranchTable others l) = by_count (λ v. operands_and_results (saturating_sum v 1) 0) (label_count ls s.own l)
counts s ls OfBranchOnNull (Index l) = by_count (λ v. operands_and_results (saturating_sum v 1) (saturating_sum v 1)) (label_count ls s.own l)
-- If the label takes nothing, nothing is given either.
counts s ls OfBranchOnNonNull (Index l) = by_count (λ v. operands_and_results v (v - 1)) (label_count ls s.own l)
counts s ls OfBranchOnCast (Cast l from to) = by_count (λ v. operands_and_results v v) (label_count ls s.own l)
-- A block is folded without operands, whatever its parameters are.
counts s ls OfBlock (Block t) = by_count (λ n. operands_and_results 0 n) (block_results s t)
counts s ls OfBlock (TryTable t cs) = by_count (λ n. operands_and_results 0 n) (block_results s t)
counts s ls OfStruct (Index t) = by_count (λ n. operands_and_results n 1) (s.fields t)
counts s ls OfCount (Indices t n) = operands_and_results n 1
counts s ls _ _ = operands_and_results 0 0

-- An opcode that is not listed takes and gives nothing.
abbrev pub counts_if_listed : Signatures → List (Option ℕ) → Option Arity → Immediates → OperandCounts
counts_if_listed s ls None i = operands_and_results 0 0
counts_if_listed s ls (Some a) i = counts s ls a i

-- The counts of an operator. The list has, for each label that is open before it, the innermost first, the number of
-- values of a branch to this label, or `None` if that is unknown.
abbrev pub counts_of : Signatures → List (Option ℕ) → Operator → OperandCounts
counts_of s ls o = counts_if_listed s ls (s.arities o.opcode) o.immediates

-- ---- The items of a module that operators name

-- All types, by their indices.
abbrev pub types_of : PlacedModule → List SubType
types_of m = all_types (groups_of m.types)

-- The type indices of the functions. Imports come first.
abbrev pub functions_of : PlacedModule → List ℕ
functions_of m = imported_types func_import (without_places m.imports) ++ map (λ f. f.type_index) m.functions

-- The type indices of the tags. Imports come first.
abbrev pub tags_of : PlacedModule → List ℕ
tags_of m = imported_types tag_import (without_places m.imports) ++ without_places m.tags

-- The type of the function with index i.
abbrev pub function_type : PlacedModule → ℕ → Option FuncType
function_type m i = slice_get (functions_of m) i >>= signature_at (types_of m)

-- The type of the tag with index i.
abbrev pub tag_type : PlacedModule → ℕ → Option FuncType
tag_type m i = slice_get (tags_of m) i >>= signature_at (types_of m)

-- The signatures of a module, in a function with `own` results.
abbrev pub signatures_within : PlacedModule → Option ℕ → Signatures
signatures_within m own = record {
  arities = arity_of;
  types = signature_at (types_of m);
  functions = function_type m;
  tags = tag_type m;
  fields = λ t. option_map length (fields_at (types_of m) t);
  own = own;
}
