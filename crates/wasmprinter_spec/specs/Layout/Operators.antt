-- Operators as they are printed: over several lines, as in a body, or in one line, as in a field. An index is
-- printed by the identifier of its item, if it has one. A label is printed by its identifier if this means the
-- intended block, otherwise by its number. A label without an identifier has a comment that names the block.
-- (Section 6.5 of the standard, "Instructions"; the lines and comments are this printer's own.)
use Rattle.std.specs.Prelude.{ℕ, suc, ◌+◌, ◌-◌, ◌/◌, ◌%◌, ◌^◌, ◌==◌, ◌&&◌, reverse, List, [], ◌∷◌, ◌++◌, Bool, true, false, ◌||◌, cond, codes, decimal, length, Option, Some, None}
use Rattle.std.specs.Fmt.{digit_glyph}
use Rattle.wasmprinter_spec.specs.Grammar.{Placed}
use Rattle.wasmprinter_spec.specs.Types.{FuncType, ref_type, ValType}
use Rattle.wasmprinter_spec.specs.Operator.{BlockType, Empty, Value, OfType, Catch, One, OneRef, All, AllRef, MemArg, Immediates, Block, TryTable, Index, Indices, BranchTable, Types, Heap, Cast, Memory, MemoryLane, Lane, I32, I64, F32, F64, Bytes, Operator}
use Rattle.wasmprinter_spec.specs.Float.{single, double}
use Rattle.wasmprinter_spec.specs.Row as row
use Rattle.wasmprinter_spec.specs.Row.{Space, Label, Shape, BlockShape, TryTableShape, IndexShape, DefaultIndexShape, PairShape, FieldShape, CountShape, CallShape, SegmentShape, CopyShape, BranchTableShape, SelectShape, HeapShape, RefShape, CastShape, MemoryShape, MemoryLaneShape, LaneShape, I32Shape, I64Shape, F32Shape, F64Shape, VectorShape, LanesShape, Role, Else, Catches, CatchesAll, Delegates, Ends}
use Rattle.wasmprinter_spec.specs.Table.{word_of, role_of, shape_of}
use Rattle.wasmprinter_spec.specs.Labels as labels
use Rattle.wasmprinter_spec.specs.Names.{Names, in_function}
use Rattle.wasmprinter_spec.specs.Customs.Hints.{Hint, next_hint, hints_after}
use Rattle.wasmprinter_spec.specs.Labels.{Named, is_hidden, Target, Around, Own, Nothing, target, labels_after, count_after, labels_outside, labels_inside}
use Rattle.wasmprinter_spec.specs.Piece.{Piece, Break, OneSpace, Word, SpaceTypeWord, Number, Constant, SpaceLiterals, Float, BlockComment, LineComment, HintAnnotation}
use Rattle.wasmprinter_spec.specs.Layout.Groups.{line_group, line_group_space}
use Rattle.wasmprinter_spec.specs.Layout.Identifiers.{id_and_name_pieces, leading_id_and_name_pieces, index_pieces}
use Rattle.wasmprinter_spec.specs.Layout.ValTypes.{type_index_pieces, heap_pieces, ref_pieces, val_pieces, type_list}
use Rattle.wasmprinter_spec.specs.Layout.Types.{type_use_pieces}

-- The form of a list of operators: each on a line of its own, or all in one line.
pub data Form : Type 0 where
  OverLines : Form
  InLine : Form

-- The context of every operator of a list: the form, the signature of each function type, the nesting depth of the
-- list, the module's identifiers, the function to which locals and labels belong, and the place where the body
-- begins.
pub record Setting : Type 0 where
  pub form : Form
  pub signature : ℕ → Option FuncType
  pub nesting : ℕ
  pub names : Names
  pub function : ℕ
  -- The place of a body's first byte, to which the offsets of hints are relative.
  pub body : ℕ

-- An index, by its identifier if it has one.
abbrev pub named_index : Setting → Space → ℕ → List Piece
named_index s space n = index_pieces (in_function s.names s.function space n) n

-- ---- Labels

-- A label's identifier, which comes from a given name or is synthesized.
abbrev pub label_name_pieces : Option (List ℕ) → ℕ → Named → List Piece
label_name_pieces (Some s) l n = id_and_name_pieces n
label_name_pieces None l n = index_pieces (Some n) l

-- The identifier of label l, or its number if the identifier is shadowed.
abbrev pub named_pieces : ℕ → Named → Bool → List Piece
named_pieces l n true = Number l ∷ []
named_pieces l n false = label_name_pieces n.given l n

-- The label l, where d blocks are open. `inner` are the labels that are nested further in (`labels_inside`), and the
-- last argument is the meaning of l.
abbrev pub target_pieces : List labels.Label → ℕ → ℕ → Target → List Piece
target_pieces inner d l (Around (Some n) further) = named_pieces l n (is_hidden n further || is_hidden n inner)
target_pieces inner d l (Around None further) = Number l ∷ (BlockComment true (64 ∷ decimal (d - l)) ∷ [])
target_pieces inner d l Own = Number l ∷ []
target_pieces inner d l Nothing = Word (decimal l) ∷ (BlockComment false (codes " INVALID ") ∷ [])

-- A space and the label l, which counts from the open labels xs. `inner` is that of `target_pieces`.
unfoldable pub label_pieces : List labels.Label → List labels.Label → ℕ → List Piece
label_pieces inner xs l = OneSpace ∷ target_pieces inner (length xs) l (target l xs)

-- The labels of `br_table`, of which l is the last. The other arguments are those of `label_pieces`.
unfoldable pub labels_pieces : List labels.Label → List labels.Label → List ℕ → ℕ → List Piece
labels_pieces inner xs [] l = label_pieces inner xs l
labels_pieces inner xs (m ∷ ms) l = label_pieces inner xs m ++ labels_pieces inner xs ms l

-- ---- Blocks

-- The comment of the block with number d, whose label has no identifier. Blocks are counted from 1.
unfoldable pub ending_pieces : Form → labels.Label → ℕ → List Piece
ending_pieces form (Some n) d = []
ending_pieces OverLines None d = OneSpace ∷ (LineComment (codes "label = @" ++ decimal d) ∷ [])
ending_pieces InLine None d = OneSpace ∷ (BlockComment true (codes " label = @" ++ (decimal d ++ codes " ")) ∷ [])

-- A space and a block type, or nothing for the empty block type.
unfoldable pub block_pieces : Setting → BlockType → List Piece
block_pieces s Empty = []
block_pieces s (Value t) = OneSpace ∷ line_group_space (codes "result") (val_pieces s.names t)
block_pieces s (OfType n) = OneSpace ∷ type_use_pieces s.names None n (s.signature n)

-- A catch clause in a group. `inner` and `xs` are those of `label_pieces`, here and below.
unfoldable pub catch_pieces : Setting → List labels.Label → List labels.Label → Catch → List Piece
catch_pieces s inner xs (One t l) = line_group (codes "catch") (OneSpace ∷ (named_index s row.Tag t ++ label_pieces inner xs l))
catch_pieces s inner xs (OneRef t l) = line_group (codes "catch_ref") (OneSpace ∷ (named_index s row.Tag t ++ label_pieces inner xs l))
catch_pieces s inner xs (All l) = line_group (codes "catch_all") (label_pieces inner xs l)
catch_pieces s inner xs (AllRef l) = line_group (codes "catch_all_ref") (label_pieces inner xs l)

-- Catch clauses, with a space before each.
unfoldable pub catches_pieces : Setting → List labels.Label → List labels.Label → List Catch → List Piece
catches_pieces s inner xs [] = []
catches_pieces s inner xs (c ∷ cs) = OneSpace ∷ (catch_pieces s inner xs c ++ catches_pieces s inner xs cs)

-- ---- Operators

-- An index: a label, or an index into another space.
unfoldable pub operand_pieces : Setting → List labels.Label → List labels.Label → Space → ℕ → List Piece
operand_pieces s inner xs Label n = label_pieces inner xs n
operand_pieces s inner xs space n = OneSpace ∷ named_index s space n

-- An index that is omitted if it is 0.
unfoldable pub default_index_pieces : Setting → Space → ℕ → List Piece
default_index_pieces s space n = cond (n == 0) [] (OneSpace ∷ named_index s space n)

-- An index into each of two spaces.
unfoldable pub two_index_pieces : Setting → Space → Space → ℕ → ℕ → List Piece
two_index_pieces s first second m n = OneSpace ∷ (named_index s first m ++ (OneSpace ∷ named_index s second n))

-- A structure type, and one of its fields.
unfoldable pub type_and_field_pieces : Setting → ℕ → ℕ → List Piece
type_and_field_pieces s t n = OneSpace ∷ (named_index s row.Types t ++ (OneSpace ∷ index_pieces (s.names.fields t n) n))

-- The types that `select` names. A single type is laid out differently from several.
unfoldable pub select_pieces : Names → List ValType → List Piece
select_pieces names (t ∷ []) = OneSpace ∷ line_group_space (codes "result") (val_pieces names t)
select_pieces names ts = OneSpace ∷ line_group (codes "result") (type_list names ts)

-- ---- Memory operands

-- A space and an offset. An offset of 0 is omitted.
unfoldable pub offset_pieces : ℕ → List Piece
offset_pieces n = cond (n == 0) [] (OneSpace ∷ (Word (codes "offset=" ++ decimal n) ∷ []))

-- A space and an alignment, by its exponent. The natural alignment is omitted.
unfoldable pub align_pieces : ℕ → ℕ → List Piece
align_pieces natural exponent = cond (exponent == natural) [] (OneSpace ∷ (Word (codes "align=" ++ decimal (2 ^ exponent)) ∷ []))

-- A memory operand: the memory, which is omitted if it is 0, the offset and the alignment. `natural` is the exponent
-- of the natural alignment.
unfoldable pub mem_arg_pieces : Setting → ℕ → MemArg → List Piece
mem_arg_pieces s natural m = default_index_pieces s row.Memory m.memory ++ (offset_pieces m.offset ++ align_pieces natural m.exponent)

-- ---- Vectors

-- A space and an unsigned number in decimal.
unfoldable pub lane_pieces : ℕ → List Piece
lane_pieces k = OneSpace ∷ (Word (decimal k) ∷ [])

-- Lane numbers, with a space before each.
unfoldable pub lanes_pieces : List ℕ → List Piece
lanes_pieces [] = []
lanes_pieces (k ∷ ks) = lane_pieces k ++ lanes_pieces ks

-- Two hexadecimal digits of each byte.
abbrev pub hex_digits : List ℕ → List ℕ
hex_digits [] = []
hex_digits (b ∷ bs) = digit_glyph false (b / 16) ∷ (digit_glyph false (b % 16) ∷ hex_digits bs)

-- A number of 32 bits in hexadecimal, from its bytes, the lowest first.
abbrev pub hex_word : List ℕ → List ℕ
hex_word bs = codes "0x" ++ hex_digits (reverse bs)

-- A number for each four bytes.
unfoldable pub hex_words : List ℕ → List (List ℕ)
hex_words (a ∷ b ∷ c ∷ d ∷ bs) = hex_word (a ∷ (b ∷ (c ∷ (d ∷ [])))) ∷ hex_words bs
hex_words _ = []

-- The bits of a vector as four integers of 32 bits, in hexadecimal.
unfoldable pub vector_pieces : List ℕ → List Piece
vector_pieces bs = SpaceTypeWord (codes "i32x4") ∷ (SpaceLiterals (hex_words bs) ∷ [])

-- ---- Immediates

-- The immediates of each shape, a line for each. Immediates that do not have the shape are not printed.
unfoldable pub immediate_pieces : Setting → List labels.Label → List labels.Label → labels.Label → Shape → Immediates → List Piece
immediate_pieces s inner xs own BlockShape (Block t) =
    leading_id_and_name_pieces own ++ (block_pieces s t ++ ending_pieces s.form own (suc (length xs)))
immediate_pieces s inner xs own TryTableShape (TryTable t cs) =
    leading_id_and_name_pieces own ++ (block_pieces s t ++ (catches_pieces s inner xs cs ++ ending_pieces s.form own (suc (length xs))))
immediate_pieces s inner xs own (IndexShape space) (Index n) = operand_pieces s inner xs space n
immediate_pieces s inner xs own (DefaultIndexShape space) (Index n) = default_index_pieces s space n
immediate_pieces s inner xs own (PairShape first second) (Indices m n) = two_index_pieces s first second m n
immediate_pieces s inner xs own FieldShape (Indices t n) = type_and_field_pieces s t n
immediate_pieces s inner xs own CountShape (Indices t n) = OneSpace ∷ (named_index s row.Types t ++ lane_pieces n)
immediate_pieces s inner xs own CallShape (Indices t n) =
    default_index_pieces s row.Table n ++ (OneSpace ∷ line_group_space (codes "type") (type_index_pieces s.names t))
immediate_pieces s inner xs own (SegmentShape segments space) (Indices m n) =
    default_index_pieces s space n ++ (OneSpace ∷ named_index s segments m)
immediate_pieces s inner xs own (CopyShape space) (Indices m n) = cond ((m == 0) && (n == 0)) [] (two_index_pieces s space space m n)
immediate_pieces s inner xs own BranchTableShape (BranchTable ls l) = labels_pieces inner xs ls l
immediate_pieces s inner xs own SelectShape (Types ts) = select_pieces s.names ts
immediate_pieces s inner xs own HeapShape (Heap h) = OneSpace ∷ heap_pieces s.names h
immediate_pieces s inner xs own (RefShape null) (Heap h) = OneSpace ∷ ref_pieces s.names (ref_type null h)
immediate_pieces s inner xs own CastShape (Cast l r t) =
    label_pieces inner xs l ++ (OneSpace ∷ (ref_pieces s.names r ++ (OneSpace ∷ ref_pieces s.names t)))
immediate_pieces s inner xs own (MemoryShape natural) (Memory m) = mem_arg_pieces s natural m
immediate_pieces s inner xs own (MemoryLaneShape natural) (MemoryLane m k) = mem_arg_pieces s natural m ++ lane_pieces k
immediate_pieces s inner xs own LaneShape (Lane k) = lane_pieces k
immediate_pieces s inner xs own I32Shape (I32 z) = Constant z ∷ []
immediate_pieces s inner xs own I64Shape (I64 z) = Constant z ∷ []
immediate_pieces s inner xs own F32Shape (F32 bits) = OneSpace ∷ (Float single bits ∷ [])
immediate_pieces s inner xs own F64Shape (F64 bits) = OneSpace ∷ (Float double bits ∷ [])
immediate_pieces s inner xs own VectorShape (Bytes bs) = vector_pieces bs
immediate_pieces s inner xs own LanesShape (Bytes bs) = lanes_pieces bs
immediate_pieces s inner xs own _ _ = []

-- The immediates of an opcode. An opcode that is not listed has no immediates.
abbrev pub pieces_by : Setting → List labels.Label → List labels.Label → labels.Label → Option Shape → Immediates → List Piece
pieces_by s inner xs own None i = []
pieces_by s inner xs own (Some shape) i = immediate_pieces s inner xs own shape i

-- The nesting depth of an operator in d blocks. An operator that ends a block or a part of it is one level further
-- out.
abbrev pub level : Role → ℕ → ℕ
level Else d = d - 1
level Catches d = d - 1
level CatchesAll d = d - 1
level Delegates d = d - 1
level Ends d = d - 1
level _ d = d

-- A line break or a space before an operator's word. In one line, nothing comes before the first operator, as the
-- second argument says. The numbers are the operator's place and its nesting depth.
abbrev pub before_word : Form → Bool → ℕ → ℕ → List Piece
before_word OverLines first place nesting = Break (Some place) nesting ∷ []
before_word InLine true place nesting = []
before_word InLine false place nesting = OneSpace ∷ []

-- An operator with its immediates. `first` says whether it is the first of its list, `own` is the label of the block
-- that it opens, if it opens one, and the labels `xs` are open.
unfoldable pub operator_pieces : Setting → Bool → labels.Label → List labels.Label → Placed Operator → List Piece
operator_pieces s first own xs o =
    let role : Role = role_of o.value.opcode in
    before_word s.form first o.place (s.nesting + level role (length xs))
    ++ (Word (word_of o.value.opcode)
    ∷ pieces_by s (labels_inside role xs) (labels_outside role xs) own (shape_of o.value.opcode) o.value.immediates)

-- A hint on a line of its own, at the nesting depth of the operators of the block.
abbrev pub hint_pieces : ℕ → Option (Placed Hint) → List Piece
hint_pieces nesting None = []
hint_pieces nesting (Some h) = Break (Some h.place) nesting ∷ (HintAnnotation h.value.taken ∷ [])

-- A list of operators. The hints `hs` are not yet printed, `first` says whether the first of these operators is the
-- first of the whole list, n blocks were opened before it, and the labels `xs` are open.
unfoldable pub operators_pieces : Setting → List (Placed Hint) → Bool → ℕ → List labels.Label → List (Placed Operator) → List Piece
operators_pieces s hs first n xs [] = []
operators_pieces s hs first n xs (o ∷ os) =
    let role : Role = role_of o.value.opcode in
    let own : labels.Label = s.names.labels s.function n (length xs) in
    let offset : ℕ = o.place - s.body in
    hint_pieces (s.nesting + length xs) (next_hint offset hs)
    ++ (operator_pieces s first own xs o
    ++ operators_pieces s (hints_after offset hs) false (count_after role n) (labels_after role own xs) os)

-- A whole list of operators with its hints: the first operator is the first of the list (`true`), and before it no
-- block was opened (0) and none is open (`[]`).
abbrev pub list_pieces : Setting → List (Placed Hint) → List (Placed Operator) → List Piece
list_pieces s hs os = operators_pieces s hs true 0 [] os

-- A whole list of operators without hints.
unfoldable pub expression_pieces : Setting → List (Placed Operator) → List Piece
expression_pieces s os = list_pieces s [] os
