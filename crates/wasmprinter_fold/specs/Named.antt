-- The items that immediates refer to.
use Rattle.std.specs.Prelude.{ℕ, List, length, Option, Some, None, option_map}
use Rattle.wasmprinter_spec.specs.Grammar.{◌>>=◌}
use Rattle.wasmprinter_spec.specs.Types.{FuncType, signature_at, fields_at}
use Rattle.wasmprinter_spec.specs.Operator.{Immediates, Block, TryTable, Index, Indices, BranchTable, Cast}
use Rattle.wasmprinter_spec.specs.Placed.{PlacedModule}
use Rattle.wasmprinter_spec.specs.Folding.Arities.{Signatures, types_of, function_type, tag_type, block_results, label_count}

-- The index, if it is the only immediate.
abbrev pub index_in : Immediates → Option ℕ
index_in (Index n) = Some n
index_in _ = None

-- The index of a type, alone or before another index.
abbrev pub type_in : Immediates → Option ℕ
type_in (Index t) = Some t
type_in (Indices t n) = Some t
type_in _ = None

-- The default label of a `br_table`.
abbrev pub last_label_in : Immediates → Option ℕ
last_label_in (BranchTable ls l) = Some l
last_label_in _ = None

-- The label of a branch that depends on a cast.
abbrev pub cast_label_in : Immediates → Option ℕ
cast_label_in (Cast l from to) = Some l
cast_label_in _ = None

-- The number after the index of a type.
abbrev pub count_in : Immediates → Option ℕ
count_in (Indices t n) = Some n
count_in _ = None

-- The number of results of a block with the block type in the immediates.
abbrev pub block_gives_in : Signatures → Immediates → Option ℕ
block_gives_in s (Block t) = block_results s t
block_gives_in s (TryTable t cs) = block_results s t
block_gives_in s _ = None

-- The type of the function that the index refers to.
abbrev pub function_named : PlacedModule → Immediates → Option FuncType
function_named m i = index_in i >>= function_type m

-- The type of the tag that the index refers to.
abbrev pub tag_named : PlacedModule → Immediates → Option FuncType
tag_named m i = index_in i >>= tag_type m

-- The function type that the index refers to.
abbrev pub type_named : PlacedModule → Immediates → Option FuncType
type_named m i = type_in i >>= signature_at (types_of m)

-- The number of fields of the structure type that the index refers to.
abbrev pub field_count_named : PlacedModule → Immediates → Option ℕ
field_count_named m i = index_in i >>= λ t. option_map length (fields_at (types_of m) t)

-- The number of values that a label expects, if there is a label.
abbrev pub count_if_any : List (Option ℕ) → Option ℕ → Option ℕ → Option ℕ
count_if_any ls own l = l >>= label_count ls own
