-- The pieces after the word of an operator begin no line.
use Rattle.std.proofs.Common.{ℕ, suc, ◌==◌, ◌&&◌, ◌||◌, List, [], ◌∷◌, Bool, true, false, Option, Some, None, refl, codes, length}
use Rattle.wasmprinter_spec.specs.Types.{ValType, ref_type}
use Rattle.wasmprinter_spec.specs.Operator.{BlockType, Empty, Value, OfType, Catch, One, OneRef, All, AllRef, MemArg, Immediates, Block, TryTable, Index, Indices, BranchTable, Types, Heap, Cast, Memory, MemoryLane, Lane, I32, I64, F32, F64, Bytes}
use Rattle.wasmprinter_spec.specs.Row as row
use Rattle.wasmprinter_spec.specs.Row.{Space, Label, Shape, BlockShape, TryTableShape, IndexShape, DefaultIndexShape, PairShape, FieldShape, CountShape, CallShape, SegmentShape, CopyShape, BranchTableShape, SelectShape, HeapShape, RefShape, CastShape, MemoryShape, MemoryLaneShape, LaneShape, I32Shape, I64Shape, F32Shape, F64Shape, VectorShape, LanesShape}
use Rattle.wasmprinter_spec.specs.Labels as labels
use Rattle.wasmprinter_spec.specs.Labels.{Named, is_hidden, Target, Around, Own, Nothing, target}
use Rattle.wasmprinter_spec.specs.Names.{Names, in_function}
use Rattle.wasmprinter_spec.specs.Layout.Operators.{Form, OverLines, InLine, Setting, named_index, label_name_pieces, named_pieces, target_pieces, label_pieces, labels_pieces, ending_pieces, block_pieces, catch_pieces, catches_pieces, operand_pieces, default_index_pieces, two_index_pieces, type_and_field_pieces, select_pieces, offset_pieces, align_pieces, mem_arg_pieces, lane_pieces, lanes_pieces, vector_pieces, immediate_pieces, pieces_by}
use Rattle.wasmprinter_spec.proofs.OneLine.{IsOneLine, nothing_stays, both_stay, then_stay, alone_stays, cond_stays, line_group_stays, line_group_space_stays, id_and_name_stays, leading_id_and_name_stays, index_stays, type_index_stays, heap_stays, ref_stays, val_stays, type_list_stays, type_use_stays}

-- ---- labels

label_name_stays : (given : Option (List ℕ)) (l : ℕ) (n : Named) → IsOneLine (label_name_pieces given l n)
label_name_stays (Some s) l n = id_and_name_stays n
label_name_stays None l n = index_stays (Some n) l

named_stays : (l : ℕ) (n : Named) (hidden : Bool) → IsOneLine (named_pieces l n hidden)
named_stays l n true = alone_stays refl
named_stays l n false = label_name_stays n.given l n

target_stays : (inner : List labels.Label) (d l : ℕ) (t : Target) → IsOneLine (target_pieces inner d l t)
target_stays inner d l (Around (Some n) further) = named_stays l n (is_hidden n further || is_hidden n inner)
target_stays inner d l (Around None further) = then_stay refl (alone_stays refl)
target_stays inner d l Own = alone_stays refl
target_stays inner d l Nothing = then_stay refl (alone_stays refl)

label_stays : (inner xs : List labels.Label) (l : ℕ) → IsOneLine (label_pieces inner xs l)
unfolding label_pieces
label_stays inner xs l = then_stay refl (target_stays inner (length xs) l (target l xs))

labels_stay : (inner xs : List labels.Label) (ls : List ℕ) (l : ℕ) → IsOneLine (labels_pieces inner xs ls l)
unfolding labels_pieces
labels_stay inner xs [] l = label_stays inner xs l
labels_stay inner xs (m ∷ ms) l = both_stay (label_stays inner xs m) (labels_stay inner xs ms l)

ending_stays : (form : Form) (own : labels.Label) (d : ℕ) → IsOneLine (ending_pieces form own d)
unfolding ending_pieces
ending_stays form (Some n) d = nothing_stays
ending_stays OverLines None d = then_stay refl (alone_stays refl)
ending_stays InLine None d = then_stay refl (alone_stays refl)

-- ---- immediates

select_stays : (names : Names) (ts : List ValType) → IsOneLine (select_pieces names ts)
unfolding select_pieces
select_stays names [] = then_stay refl (line_group_stays (codes "result") (type_list_stays names []))
select_stays names (t ∷ []) = then_stay refl (line_group_space_stays (codes "result") (val_stays names t))
select_stays names (t ∷ u ∷ ts) = then_stay refl (line_group_stays (codes "result") (type_list_stays names (t ∷ u ∷ ts)))

offset_stays : (n : ℕ) → IsOneLine (offset_pieces n)
unfolding offset_pieces
offset_stays n = cond_stays (n == 0) nothing_stays (then_stay refl (alone_stays refl))

align_stays : (natural exponent : ℕ) → IsOneLine (align_pieces natural exponent)
unfolding align_pieces
align_stays natural exponent = cond_stays (exponent == natural) nothing_stays (then_stay refl (alone_stays refl))

lane_stays : (k : ℕ) → IsOneLine (lane_pieces k)
unfolding lane_pieces
lane_stays k = then_stay refl (alone_stays refl)

lanes_stay : (ks : List ℕ) → IsOneLine (lanes_pieces ks)
unfolding lanes_pieces
lanes_stay [] = nothing_stays
lanes_stay (k ∷ ks) = both_stay (lane_stays k) (lanes_stay ks)

vector_stays : (bs : List ℕ) → IsOneLine (vector_pieces bs)
unfolding vector_pieces
vector_stays bs = then_stay refl (alone_stays refl)

module _ (s : Setting) where
  named_index_stays : (space : Space) (n : ℕ) → IsOneLine (named_index s space n)
  named_index_stays space n = index_stays (in_function s.names s.function space n) n

  block_stays : (t : BlockType) → IsOneLine (block_pieces s t)
  unfolding block_pieces
  block_stays Empty = nothing_stays
  block_stays (Value t) = then_stay refl (line_group_space_stays (codes "result") (val_stays s.names t))
  block_stays (OfType n) = then_stay refl (type_use_stays s.names None n (s.signature n))

  default_index_stays : (space : Space) (n : ℕ) → IsOneLine (default_index_pieces s space n)
  unfolding default_index_pieces
  default_index_stays space n = cond_stays (n == 0) nothing_stays (then_stay refl (named_index_stays space n))

  two_index_stay : (first second : Space) (m n : ℕ) → IsOneLine (two_index_pieces s first second m n)
  unfolding two_index_pieces
  two_index_stay first second m n = then_stay refl (both_stay (named_index_stays first m) (then_stay refl (named_index_stays second n)))

  type_and_field_stay : (t n : ℕ) → IsOneLine (type_and_field_pieces s t n)
  unfolding type_and_field_pieces
  type_and_field_stay t n = then_stay refl (both_stay (named_index_stays row.Types t) (then_stay refl (index_stays (s.names.fields t n) n)))

  mem_arg_stays : (natural : ℕ) (m : MemArg) → IsOneLine (mem_arg_pieces s natural m)
  unfolding mem_arg_pieces
  mem_arg_stays natural m = both_stay (default_index_stays row.Memory m.memory) (both_stay (offset_stays m.offset) (align_stays natural m.exponent))

  module _ (inner xs : List labels.Label) where
    operand_stays : (space : Space) (n : ℕ) → IsOneLine (operand_pieces s inner xs space n)
    unfolding operand_pieces
    operand_stays Label n = label_stays inner xs n
    operand_stays space n = then_stay refl (named_index_stays space n)

    catch_stays : (c : Catch) → IsOneLine (catch_pieces s inner xs c)
    unfolding catch_pieces
    catch_stays (One t l) = line_group_stays (codes "catch") (then_stay refl (both_stay (named_index_stays row.Tag t) (label_stays inner xs l)))
    catch_stays (OneRef t l) = line_group_stays (codes "catch_ref") (then_stay refl (both_stay (named_index_stays row.Tag t) (label_stays inner xs l)))
    catch_stays (All l) = line_group_stays (codes "catch_all") (label_stays inner xs l)
    catch_stays (AllRef l) = line_group_stays (codes "catch_all_ref") (label_stays inner xs l)

    catches_stay : (cs : List Catch) → IsOneLine (catches_pieces s inner xs cs)
    unfolding catches_pieces
    catches_stay [] = nothing_stays
    catches_stay (c ∷ cs) = then_stay refl (both_stay (catch_stays c) (catches_stay cs))

    immediates_stay : (own : labels.Label) (shape : Shape) (i : Immediates) → IsOneLine (immediate_pieces s inner xs own shape i)
    unfolding immediate_pieces
    immediates_stay own BlockShape (Block t) = both_stay (leading_id_and_name_stays own) (both_stay (block_stays t) (ending_stays s.form own (suc (length xs))))
    immediates_stay own TryTableShape (TryTable t cs) =
        both_stay (leading_id_and_name_stays own) (both_stay (block_stays t) (both_stay (catches_stay cs) (ending_stays s.form own (suc (length xs)))))
    immediates_stay own (IndexShape space) (Index n) = operand_stays space n
    immediates_stay own (DefaultIndexShape space) (Index n) = default_index_stays space n
    immediates_stay own (PairShape first second) (Indices m n) = two_index_stay first second m n
    immediates_stay own FieldShape (Indices t n) = type_and_field_stay t n
    immediates_stay own CountShape (Indices t n) = then_stay refl (both_stay (named_index_stays row.Types t) (lane_stays n))
    immediates_stay own CallShape (Indices t n) =
        both_stay (default_index_stays row.Table n) (then_stay refl (line_group_space_stays (codes "type") (type_index_stays s.names t)))
    immediates_stay own (SegmentShape segments space) (Indices m n) = both_stay (default_index_stays space n) (then_stay refl (named_index_stays segments m))
    immediates_stay own (CopyShape space) (Indices m n) = cond_stays ((m == 0) && (n == 0)) nothing_stays (two_index_stay space space m n)
    immediates_stay own BranchTableShape (BranchTable ls l) = labels_stay inner xs ls l
    immediates_stay own SelectShape (Types ts) = select_stays s.names ts
    immediates_stay own HeapShape (Heap h) = then_stay refl (heap_stays s.names h)
    immediates_stay own (RefShape null) (Heap h) = then_stay refl (ref_stays s.names (ref_type null h))
    immediates_stay own CastShape (Cast l r t) =
        both_stay (label_stays inner xs l) (then_stay refl (both_stay (ref_stays s.names r) (then_stay refl (ref_stays s.names t))))
    immediates_stay own (MemoryShape natural) (Memory m) = mem_arg_stays natural m
    immediates_stay own (MemoryLaneShape natural) (MemoryLane m k) = both_stay (mem_arg_stays natural m) (lane_stays k)
    immediates_stay own LaneShape (Lane k) = lane_stays k
    immediates_stay own I32Shape (I32 z) = alone_stays refl
    immediates_stay own I64Shape (I64 z) = alone_stays refl
    immediates_stay own F32Shape (F32 bits) = then_stay refl (alone_stays refl)
    immediates_stay own F64Shape (F64 bits) = then_stay refl (alone_stays refl)
    immediates_stay own VectorShape (Bytes bs) = vector_stays bs
    immediates_stay own LanesShape (Bytes bs) = lanes_stay bs
    immediates_stay own _ _ = nothing_stays

    pub by_shape_stay : (own : labels.Label) (shape : Option Shape) (i : Immediates) → IsOneLine (pieces_by s inner xs own shape i)
    by_shape_stay own None i = nothing_stays
    by_shape_stay own (Some shape) i = immediates_stay own shape i
