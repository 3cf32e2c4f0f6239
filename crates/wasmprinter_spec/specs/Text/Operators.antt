-- Operators in the text format (section 6.5 of the standard). The immediates of each are read by the shape that
-- the table gives its word. Of several operators with one word, it is the first whose shape reads the items after
-- the word. Labels are resolved in one pass over the flat list, with the open labels, the innermost first: an
-- identifier means the innermost label that has it.
use Rattle.std.specs.Prelude.{ℕ, zero, suc, ℤ, pos, negsuc, ◌-◌, ◌*◌, ◌/◌, ◌%◌, ◌^◌, ◌==◌, ◌||◌, is_some, length, List, [], ◌∷◌, Bool, true, false, cond, codes, bytes_eq, Option, Some, None, option_map, if◌then◌else◌, map}
use Rattle.wasmprinter_spec.specs.Grammar.{◌>>=◌}
use Rattle.wasmprinter_spec.specs.Numeral.{u8, u32, u64, exponent_of, integer}
use Rattle.wasmprinter_spec.specs.Float.{single, double, float}
use Rattle.wasmprinter_spec.specs.Forest.{Forest, End, Word, Name, Group}
use Rattle.wasmprinter_spec.specs.Types.{FuncType, RefType, concat}
use Rattle.wasmprinter_spec.specs.Operator.{opcode, BlockType, Empty, Value, OfType, Catch, One, OneRef, All, AllRef, MemArg, mem_arg_of, Immediates, NoImmediates, Block, TryTable, Index, Indices, BranchTable, Types, Heap, Cast, Memory, MemoryLane, Lane, I32, I64, F32, F64, Bytes, Operator}
use Rattle.wasmprinter_spec.specs.Row.{Row, Shape, NoneShape, FenceShape, BlockShape, TryTableShape, IndexShape, DefaultIndexShape, PairShape, FieldShape, CountShape, CallShape, SegmentShape, CopyShape, BranchTableShape, SelectShape, HeapShape, RefShape, CastShape, MemoryShape, MemoryLaneShape, LaneShape, I32Shape, I64Shape, F32Shape, F64Shape, VectorShape, LanesShape, Space, Label, Role, Opens, OpensIf, OpensTry, Delegates, Ends}
use Rattle.wasmprinter_spec.specs.Table.{role_of}
use Rattle.wasmprinter_spec.specs.Stepped.{stops}
use Rattle.wasmprinter_spec.specs.Nesting.{advance, at_start}
use Rattle.wasmprinter_spec.specs.IndexSpaces.{Identifiers, declares, space_in, index as index_in, leading_index, Context}
use Rattle.wasmprinter_spec.specs.Code.{Chunk}
use Rattle.wasmprinter_spec.specs.Text.Items.{or_else, lookup, one_word, all_items, the_only, identifier_in_front, value_at_end, groups, ids_of}
use Rattle.wasmprinter_spec.specs.Text.Types.{Signature, signature, heap_type, reference_type, ref_named, ref_group, val_types}
use Rattle.wasmprinter_spec.specs.Text.TypeUses.{agrees, same_flag}

-- ---- Labels

-- The index of the innermost label with this identifier.
abbrev pub depth : List ℕ → Identifiers → Option ℕ
depth s [] = None
depth s (i ∷ is) = cond (declares s i) (Some 0) (option_map suc (depth s is))

-- Labels, one after the other.
abbrev pub labels : Identifiers → Forest → Option (List ℕ)
labels ids End = Some []
labels ids (Word w f) = u32 w >>= λ l. labels ids f >>= λ ls. Some (l ∷ ls)
labels ids (Name s f) = depth s ids >>= λ l. labels ids f >>= λ ls. Some (l ∷ ls)
labels ids _ = None

-- A single label.
abbrev pub label : Identifiers → Forest → Option ℕ
label ids f = labels ids f >>= the_only

-- The labels before the last one, and the last one; `None` if there is no label.
abbrev pub last_apart : List ℕ → Option (List ℕ × ℕ)
last_apart [] = None
last_apart (l ∷ []) = Some ([], l)
last_apart (l ∷ m ∷ ls) = option_map (λ x. (l ∷ x.0, x.1)) (last_apart (m ∷ ls))

-- The identifier before a block's type.
abbrev pub id_of : Forest → Option (List ℕ)
id_of f = (identifier_in_front f).0

-- The items after a block's identifier, if it has one.
abbrev pub after_id : Forest → Forest
after_id f = (identifier_in_front f).1

-- ---- Block types

-- No parameter of a block has an identifier.
abbrev pub are_unnamed : Identifiers → Bool
are_unnamed [] = true
are_unnamed (None ∷ is) = are_unnamed is
are_unnamed (Some i ∷ is) = false

-- The block type with index i, if it is a function type and the signature after the index agrees with it.
abbrev pub type_with : ℕ → Option FuncType → Signature × Forest → Option (BlockType × Forest)
type_with i None x = None
type_with i (Some t) x = if agrees x.0 t then (if are_unnamed (ids_of x.0.params) then Some (OfType i, x.1) else None) else None

-- A block type, and the items after it: one result, a type use, or nothing. (A block type without an index but
-- with parameters, or with more than one result, is an abbreviation that is not read.)
abbrev pub block_type : Context → Forest → Option (BlockType × Forest)
block_type c (Group (Word v g) f) =
    if bytes_eq v (codes "result") then val_types c.spaces.types g >>= the_only >>= (λ t. Some (Value t, f)) else
    (if bytes_eq v (codes "type") then index_in c.spaces.types g >>= (λ i. signature c.spaces.types f >>= type_with i (c.signature i))
    else Some (Empty, Group (Word v g) f))
block_type c f = Some (Empty, f)

-- The immediates of a block with this type, if no item is left.
abbrev pub block_alone : BlockType × Forest → Option Immediates
block_alone (t, End) = Some (Block t)
block_alone (t, _) = None

-- ---- Catch clauses

-- The first of several items, alone.
abbrev pub first_alone : Forest → Forest
first_alone (Word w f) = Word w End
first_alone (Name s f) = Name s End
first_alone f = f

-- The items after the first one, which is a word or an identifier. Other items stay as they are.
abbrev pub after_first : Forest → Forest
after_first (Word w f) = f
after_first (Name s f) = f
after_first f = f

-- The catch clause that `make` gives for a tag and a label.
abbrev pub tag_clause : (ℕ → ℕ → Catch) → Context → Identifiers → Forest → Option Catch
tag_clause make c ids f =
    index_in c.spaces.tags (first_alone f) >>= λ t. label ids (after_first f) >>= λ l. Some (make t l)

-- A catch clause with the word w (section 6.5 of the standard, "Control Instructions"), by the items after the word.
abbrev pub clause : Context → Identifiers → List ℕ → Forest → Option Catch
clause c ids w f =
    if bytes_eq w (codes "catch") then tag_clause One c ids f else
    (if bytes_eq w (codes "catch_ref") then tag_clause OneRef c ids f else
    (if bytes_eq w (codes "catch_all") then option_map All (label ids f) else
    (if bytes_eq w (codes "catch_all_ref") then option_map AllRef (label ids f) else None)))

-- Catch clauses, each in a group, one after the other.
abbrev pub clauses : Context → Identifiers → Forest → Option (List Catch)
clauses c ids End = Some []
clauses c ids (Group (Word w g) f) = clause c ids w g >>= λ x. clauses c ids f >>= λ xs. Some (x ∷ xs)
clauses c ids _ = None

-- ---- Immediates

-- No immediates: no item is left.
abbrev pub no_immediates : Forest → Option Immediates
no_immediates End = Some NoImmediates
no_immediates _ = None

-- An index into a space. A label is resolved among the open labels.
abbrev pub index : Context → Identifiers → Space → Forest → Option ℕ
index c ids Label f = label ids f
index c ids space f = index_in (space_in c.spaces space) f

-- An index, 0 if it is absent.
abbrev pub default_index : Context → Space → Forest → Option ℕ
default_index c space End = Some 0
default_index c space f = index_in (space_in c.spaces space) f

-- An index into each of two spaces.
abbrev pub two_indices : Context → Space → Space → Forest → Option (ℕ × ℕ)
two_indices c first second f = do
  m ← leading_index (space_in c.spaces first) f
  n ← index_in (space_in c.spaces second) m.1
  Some (m.0, n)

-- The immediates of two indices.
abbrev pub pair : ℕ × ℕ → Immediates
pair x = Indices x.0 x.1

-- The two indices in reverse order.
abbrev pub reversed_indices : ℕ × ℕ → Immediates
reversed_indices x = Indices x.1 x.0

-- A structure type and one of its fields.
abbrev pub type_and_field : Context → Forest → Option Immediates
type_and_field c f = leading_index c.spaces.types f >>= λ t. index_in (c.fields t.0) t.1 >>= λ n. Some (Indices t.0 n)

-- A type and a number.
abbrev pub type_and_count : Context → Forest → Option Immediates
type_and_count c f = leading_index c.spaces.types f >>= λ t. one_word u32 t.1 >>= λ n. Some (Indices t.0 n)

-- Two indices, both 0 if they are absent.
abbrev pub two_indices_or_zeros : Context → Space → Forest → Option (ℕ × ℕ)
two_indices_or_zeros c space End = Some (0, 0)
two_indices_or_zeros c space f = two_indices c space space f

-- A segment. The index of the table or memory may come before it; it is 0 if it is absent.
abbrev pub with_segment : Context → Space → Space → Forest → Option Immediates
with_segment c segments space f =
    or_else (option_map (λ m. Indices m 0) (index_in (space_in c.spaces segments) f))
    (option_map reversed_indices (two_indices c space segments f))

-- A type use, with no item after it.
abbrev pub call_immediates : ℕ → BlockType × Forest → Option Immediates
call_immediates table (OfType t, End) = Some (Indices t table)
call_immediates table _ = None

-- A table, 0 if it is absent, and a type use.
abbrev pub call_parts : Context → Forest → Option Immediates
call_parts c (Group g f) = block_type c (Group g f) >>= call_immediates 0
call_parts c f = leading_index c.spaces.tables f >>= λ t. block_type c t.1 >>= call_immediates t.0

-- Groups of results, at least one.
abbrev pub select_types : Context → Forest → Option Immediates
select_types c End = None
select_types c f = groups (val_types c.spaces.types) (codes "result") f >>= value_at_end >>= λ ts. Some (Types ts)

-- The heap type of a reference type that is nullable or not, as `null` says.
abbrev pub heap_with : Bool → RefType → Option Immediates
heap_with null r = if same_flag r.nullable null then Some (Heap r.heap) else None

-- ---- Casts

-- The immediates of a cast with label l, if there are exactly two reference types.
abbrev pub two_types : ℕ → List RefType → Option Immediates
two_types l (r ∷ t ∷ []) = Some (Cast l r t)
two_types l _ = None

-- A label and two reference types.
abbrev pub cast_parts : Context → Identifiers → Forest → Option Immediates
cast_parts c ids f =
    label ids (first_alone f) >>= λ l. all_items ref_named (ref_group c.spaces.types) (after_first f) >>= λ rs. two_types l rs

-- ---- Memory operands (section 6.5 of the standard, "Memory Instructions")

-- The characters after this prefix.
abbrev pub after_prefix : List ℕ → List ℕ → Option (List ℕ)
after_prefix [] w = Some w
after_prefix (p ∷ ps) [] = None
after_prefix (p ∷ ps) (b ∷ w) = if b == p then after_prefix ps w else None

-- The digits after `offset=`, if the word begins so.
abbrev pub offset_word : List ℕ → Option (List ℕ)
offset_word w = after_prefix (codes "offset=") w

-- The digits after `align=`, if the word begins so.
abbrev pub align_word : List ℕ → Option (List ℕ)
align_word w = after_prefix (codes "align=") w

-- The exponent of the alignment, the natural one if it is absent.
abbrev pub alignment : ℕ → Forest → Option ℕ
alignment natural End = Some natural
alignment natural (Word w End) = align_word w >>= exponent_of
alignment natural _ = None

-- An offset, 0 if it is absent, and an alignment.
abbrev pub offset_by : ℕ → ℕ → Option (List ℕ) → Forest → Forest → Option MemArg
offset_by natural memory (Some digits) f rest = u64 digits >>= λ offset. alignment natural rest >>= λ e. Some (mem_arg_of e memory offset)
offset_by natural memory None f rest = alignment natural f >>= λ e. Some (mem_arg_of e memory 0)

-- The memory operand in this memory: an offset and an alignment, each of which may be absent. `natural` is the
-- exponent of the natural alignment.
abbrev pub with_memory : ℕ → ℕ → Forest → Option MemArg
with_memory natural memory (Word w f) = offset_by natural memory (offset_word w) (Word w f) f
with_memory natural memory f = offset_by natural memory None f f

-- The word is an offset or an alignment, not an index.
abbrev pub is_option : List ℕ → Bool
is_option w = is_some (offset_word w) || is_some (align_word w)

-- The index of a memory, 0 if it is absent, an offset and an alignment.
abbrev pub mem_arg : Context → ℕ → Forest → Option MemArg
mem_arg c natural (Word w f) =
    if is_option w then with_memory natural 0 (Word w f)
    else index_in c.spaces.memories (Word w End) >>= λ m. with_memory natural m f
mem_arg c natural (Name s f) = index_in c.spaces.memories (Name s End) >>= λ m. with_memory natural m f
mem_arg c natural f = with_memory natural 0 f

-- The items before the last one, and the last one, which must be a word.
abbrev pub but_last : Forest → Option (Forest × List ℕ)
but_last (Word w End) = Some (End, w)
but_last (Word w f) = option_map (λ x. (Word w x.0, x.1)) (but_last f)
but_last (Name s f) = option_map (λ x. (Name s x.0, x.1)) (but_last f)
but_last _ = None

-- A memory operand, and a lane after it.
abbrev pub mem_arg_and_lane : Context → ℕ → Forest → Option Immediates
mem_arg_and_lane c natural f = but_last f >>= λ x. mem_arg c natural x.0 >>= λ m. u8 x.1 >>= λ k. Some (MemoryLane m k)

-- ---- Vectors

-- The first `count` bytes of a number, the lowest first.
abbrev pub bytes_of : ℕ → ℕ → List ℕ
bytes_of zero n = []
bytes_of (suc count) n = n % 256 ∷ bytes_of count (n / 256)

-- A signed integer of the given number of bits as an unsigned one.
abbrev pub as_unsigned : ℕ → ℤ → ℕ
as_unsigned bits (pos n) = n
as_unsigned bits (negsuc n) = 2 ^ bits - suc n

-- A lane of the given number of bytes.
abbrev pub vector_lane : ℕ → List ℕ → Option (List ℕ)
vector_lane size w = option_map (λ z. bytes_of size (as_unsigned (8 * size) z)) (integer (8 * size) w)

-- No lane is a group.
abbrev pub no_group : {A : Type 0} → Forest → Option A
no_group f = None

-- The immediates of these bytes, if there are 16.
abbrev pub sixteen : List ℕ → Option Immediates
sixteen bs = if length bs == 16 then Some (Bytes bs) else None

-- The number of bytes of a lane, for the integer shapes. (Vectors of floating-point numbers are not read.)
unfoldable pub lane_size : List ℕ → Option ℕ
lane_size w = lookup ((codes "i8x16", 1) ∷ (codes "i16x8", 2) ∷ (codes "i32x4", 4) ∷ (codes "i64x2", 8) ∷ []) w

-- A vector by the word of its integer shape and its lanes.
abbrev pub vector : Forest → Option Immediates
vector (Word w f) = lane_size w >>= λ size. all_items (vector_lane size) no_group f >>= λ ls. sixteen (concat ls)
vector _ = None

-- The 16 lane numbers of a shuffle.
abbrev pub lanes : Forest → Option Immediates
lanes f = all_items u8 no_group f >>= sixteen

-- ---- Immediates by their shape

-- The immediates of each shape, a line for each. `ids` are the identifiers of the open labels.
abbrev pub immediates : Context → Identifiers → Shape → Forest → Option Immediates
immediates c ids NoneShape f = no_immediates f
immediates c ids FenceShape f = no_immediates f
immediates c ids BlockShape f = block_type c (after_id f) >>= block_alone
immediates c ids TryTableShape f = block_type c (after_id f) >>= λ x. clauses c ids x.1 >>= λ cs. Some (TryTable x.0 cs)
immediates c ids (IndexShape space) f = option_map Index (index c ids space f)
immediates c ids (DefaultIndexShape space) f = option_map Index (default_index c space f)
immediates c ids (PairShape first second) f = option_map pair (two_indices c first second f)
immediates c ids FieldShape f = type_and_field c f
immediates c ids CountShape f = type_and_count c f
immediates c ids CallShape f = call_parts c f
immediates c ids (SegmentShape segments space) f = with_segment c segments space f
immediates c ids (CopyShape space) f = option_map pair (two_indices_or_zeros c space f)
immediates c ids BranchTableShape f = labels ids f >>= last_apart >>= λ x. Some (BranchTable x.0 x.1)
immediates c ids SelectShape f = select_types c f
immediates c ids HeapShape f = option_map Heap (heap_type c.spaces.types f)
immediates c ids (RefShape null) f = reference_type c.spaces.types f >>= heap_with null
immediates c ids CastShape f = cast_parts c ids f
immediates c ids (MemoryShape natural) f = option_map Memory (mem_arg c natural f)
immediates c ids (MemoryLaneShape natural) f = mem_arg_and_lane c natural f
immediates c ids LaneShape f = option_map Lane (one_word u8 f)
immediates c ids I32Shape f = option_map I32 (one_word (integer 32) f)
immediates c ids I64Shape f = option_map I64 (one_word (integer 64) f)
immediates c ids F32Shape f = option_map F32 (one_word (float single) f)
immediates c ids F64Shape f = option_map F64 (one_word (float double) f)
immediates c ids VectorShape f = vector f
immediates c ids LanesShape f = lanes f

-- The labels in scope for an operator's immediates: for `delegate`, those outside its block. A block's own label
-- is not in scope for the operator that opens the block.
abbrev pub labels_in_sight : Role → Identifiers → Identifiers
labels_in_sight Delegates (i ∷ is) = is
labels_in_sight _ is = is

-- The open labels after an operator.
abbrev pub open_after : Role → Option (List ℕ) → Identifiers → Identifiers
open_after Opens i is = i ∷ is
open_after OpensIf i is = i ∷ is
open_after OpensTry i is = i ∷ is
open_after Delegates i (j ∷ is) = is
open_after Ends i (j ∷ is) = is
open_after _ i is = is

-- The first of these rows that reads the arguments, and the immediates that it reads.
abbrev pub first_reading : Context → Identifiers → List Row → Forest → Option (Row × Immediates)
first_reading c ids [] f = None
first_reading c ids (r ∷ rs) f =
    or_else (option_map (λ i. (r, i)) (immediates c (labels_in_sight r.role ids) r.shape f)) (first_reading c ids rs f)

-- The operator with the opcode of the row and these immediates.
abbrev pub operator_of : Row × Immediates → Operator
operator_of x = record { opcode = opcode x.0.prefix x.0.number; immediates = x.1 }

-- ---- Operators

-- The operators in their flat order, with these labels open.
abbrev pub operators : Context → Identifiers → List Chunk → Option (List Operator)
operators c ids [] = Some []
operators c ids (k ∷ ks) =
    first_reading c ids k.rows k.arguments >>= λ x. operators c (open_after x.0.role (id_of k.arguments) ids) ks
    >>= λ os. Some (operator_of x ∷ os)

-- The operators are well nested: an `end` after them closes the last open block.
abbrev pub are_nested : List Operator → Bool
are_nested os = stops advance at_start (map (λ o. role_of o.opcode) os) Ends

-- The operators, if they are well nested.
abbrev pub if_nested : List Operator → Option (List Operator)
if_nested os = if are_nested os then Some os else None

-- The operators of a body or of an expression.
abbrev pub read_operators : Context → List Chunk → Option (List Operator)
read_operators c ks = operators c [] ks >>= if_nested
