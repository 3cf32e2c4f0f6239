-- The layout of value types (section 6.4 of the standard, "Value Types").
use Rattle.std.specs.Prelude.{ℕ, List, [], ◌∷◌, ◌++◌, codes, Bool, true, false}
use Rattle.wasmprinter_spec.specs.Types.{HeapType, Exn, Array, Struct, I31, Eq, Any, Extern, Func, NoAny, NoExtern, NoFunc, NoExn, Index, RefType, ValType, I32, I64, F32, F64, V128, Ref}
use Rattle.wasmprinter_spec.specs.Row.{Types}
use Rattle.wasmprinter_spec.specs.Names.{Names}
use Rattle.wasmprinter_spec.specs.Piece.{Piece, OneSpace, Word, TypeWord}
use Rattle.wasmprinter_spec.specs.Layout.Groups.{line_group, line_group_space}
use Rattle.wasmprinter_spec.specs.Layout.Identifiers.{index_pieces}

-- The word of an abstract heap type, empty for an index.
abbrev pub heap_word : HeapType → List ℕ
heap_word Exn = codes "exn"
heap_word Array = codes "array"
heap_word Struct = codes "struct"
heap_word I31 = codes "i31"
heap_word Eq = codes "eq"
heap_word Any = codes "any"
heap_word Extern = codes "extern"
heap_word Func = codes "func"
heap_word NoAny = codes "none"
heap_word NoExtern = codes "noextern"
heap_word NoFunc = codes "nofunc"
heap_word NoExn = codes "noexn"
heap_word (Index n) = []

-- The word of a nullable reference to an abstract heap type, empty for an index.
abbrev pub ref_word : HeapType → List ℕ
ref_word Exn = codes "exnref"
ref_word Array = codes "arrayref"
ref_word Struct = codes "structref"
ref_word I31 = codes "i31ref"
ref_word Eq = codes "eqref"
ref_word Any = codes "anyref"
ref_word Extern = codes "externref"
ref_word Func = codes "funcref"
ref_word NoAny = codes "nullref"
ref_word NoExtern = codes "nullexternref"
ref_word NoFunc = codes "nullfuncref"
ref_word NoExn = codes "nullexnref"
ref_word (Index n) = []

module _ (names : Names) where
  -- A type index, by its identifier if it has one.
  unfoldable pub type_index_pieces : ℕ → List Piece
  type_index_pieces n = index_pieces (names.items Types n) n

  -- A heap type.
  unfoldable pub heap_pieces : HeapType → List Piece
  heap_pieces (Index n) = type_index_pieces n
  heap_pieces h = TypeWord (heap_word h) ∷ []

  -- A nullable reference type.
  unfoldable pub null_ref_pieces : HeapType → List Piece
  null_ref_pieces (Index n) = line_group (codes "ref") (OneSpace ∷ (Word (codes "null") ∷ (OneSpace ∷ heap_pieces (Index n))))
  null_ref_pieces h = TypeWord (ref_word h) ∷ []

  -- A reference type that is nullable or not, to this heap type.
  abbrev pub ref_pieces_by : Bool → HeapType → List Piece
  ref_pieces_by true h = null_ref_pieces h
  ref_pieces_by false h = line_group_space (codes "ref") (heap_pieces h)

  -- A reference type: in one word, such as `funcref`, if it is nullable and abstract, otherwise as a group `ref`.
  unfoldable pub ref_pieces : RefType → List Piece
  ref_pieces r = ref_pieces_by r.nullable r.heap

  -- A value type.
  unfoldable pub val_pieces : ValType → List Piece
  val_pieces I32 = TypeWord (codes "i32") ∷ []
  val_pieces I64 = TypeWord (codes "i64") ∷ []
  val_pieces F32 = TypeWord (codes "f32") ∷ []
  val_pieces F64 = TypeWord (codes "f64") ∷ []
  val_pieces V128 = TypeWord (codes "v128") ∷ []
  val_pieces (Ref r) = ref_pieces r

  -- Types, with a space before each.
  unfoldable pub type_list : List ValType → List Piece
  type_list [] = []
  type_list (t ∷ ts) = OneSpace ∷ (val_pieces t ++ type_list ts)
