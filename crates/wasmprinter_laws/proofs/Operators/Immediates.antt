-- The immediates of an operator, by their shape: their items, that these read back, and that pieces write them
use Rattle.std.proofs.Common.{◌≡◌, ℕ, ◌<◌, ◌^◌, suc, true, List, length, Option, Some, None, refl, sym, ◌∙◌, subst}
use Rattle.std.proofs.lemmas.Bool.{and_parts}
use Rattle.std.specs.Fmt.{signed_decimal}
use Rattle.std.specs.Int.Signed.{mag}
use Rattle.std.specs.List.{AllByRecursion}
use Rattle.wasmprinter_spec.specs.Forest.{Forest, End, Word, onto}
use Rattle.wasmprinter_spec.specs.Types.{FieldType, ValType}
use Rattle.wasmprinter_spec.specs.Float.{single, double}
use Rattle.wasmprinter_spec.specs.Operator.{Immediates, NoImmediates, Block, TryTable, Index, Indices, BranchTable, Types, Heap, Cast, Memory, MemoryLane, Lane, I32, I64, F32, F64, Bytes}
use Rattle.wasmprinter_spec.specs.Row.{Shape, NoneShape, FenceShape, BlockShape, TryTableShape, IndexShape, DefaultIndexShape, PairShape, FieldShape, CountShape, CallShape, SegmentShape, CopyShape, BranchTableShape, SelectShape, HeapShape, RefShape, CastShape, MemoryShape, MemoryLaneShape, LaneShape, I32Shape, I64Shape, F32Shape, F64Shape, VectorShape, LanesShape}
use Rattle.wasmprinter_spec.specs.Labels as labels
use Rattle.wasmprinter_spec.specs.Names.{IsNamedIfAny, AreNamed, AreApart}
use Rattle.wasmprinter_spec.specs.Indexed.{Counts, IsFunctionType, IsFieldOf, IsDeclaredHeap, IsDeclaredVal, AreDeclared}
use Rattle.wasmprinter_spec.specs.IndexSpaces.{Identifiers, Context}
use Rattle.wasmprinter_spec.specs.Text.Operators.{id_of, after_id, block_type, immediates}
use Rattle.wasmprinter_spec.specs.Layout.Operators.{Setting, immediate_pieces, pieces_by}
use Rattle.wasmprinter_laws.proofs.Tokens.Grown.{onto-End}
use Rattle.wasmprinter_laws.proofs.Tokens.Floats.{single-reads, double-reads}
use Rattle.wasmprinter_laws.proofs.Tokens.Pieces.{Bound}
use Rattle.wasmprinter_laws.proofs.Tokens.Writes.{Writes, writing, both_write, nothing_writes}
use Rattle.wasmprinter_spec.specs.Shapes.{has_shape}
use Rattle.wasmprinter_laws.specs.Listed.{AreSignaturesInRange, AreInRange}
use Rattle.wasmprinter_laws.specs.OperatorLaws.{HaveSameTypes, HaveSameNames}
use Rattle.wasmprinter_laws.proofs.Tabled.{has_block, is_item, means_items, refuses}
use Rattle.wasmprinter_laws.proofs.Declarations.{id}
use Rattle.wasmprinter_laws.proofs.Identifiers.{id_items, of_least, leading_id_and_name_writes}
use Rattle.wasmprinter_laws.proofs.Types.Trees.{heap_items, ref_items_by}
use Rattle.wasmprinter_laws.proofs.Types.Back.{heap_type-items}
use Rattle.wasmprinter_laws.proofs.Operators.Labels.{ids, Opened, labels_items, labels_arguments, last_apart-targets, labels_read, labels_write}
use Rattle.wasmprinter_laws.proofs.Operators.Arguments.{AreArguments, arguments_onto}
use Rattle.wasmprinter_laws.proofs.Operators.Numbers.{mag_below, widened, u8-decimal, integer-32, integer-64, constant_is_no_word}
use Rattle.wasmprinter_laws.proofs.Operators.Spaces.{least, types_read}
use Rattle.wasmprinter_laws.proofs.Operators.Indices.{operand_items, default_items, pair_items, type_and_field_items, count_items, call_items, segment_items, copy_items, operand_arguments, default_arguments, pair_arguments, type_and_field_arguments, count_arguments, call_arguments, segment_arguments, copy_arguments, operand_reads, default_reads, pair_reads, type_and_field_reads, count_reads, call_reads, segment_reads, copy_reads, operand_writes, default_writes, pair_writes, type_and_field_writes, count_writes, call_writes, segment_writes, copy_writes}
use Rattle.wasmprinter_laws.proofs.Operators.References.{select_items, cast_items, select_arguments, heap_arguments, ref_arguments, cast_arguments, select_reads, test_reads, test_refuses, cast_reads, select_writes, heap_type_writes, ref_type_writes, cast_writes}
use Rattle.wasmprinter_laws.proofs.Operators.Memory.{mem_arg_items, lane_items, mem_arg_lane_items, mem_arg_arguments, lane_arguments, mem_arg_lane_arguments, mem_arg_reads, mem_arg_lane_reads, mem_arg_writes, lane_writes, mem_arg_lane_writes}
use Rattle.wasmprinter_laws.proofs.Operators.Vectors.{vector_items, lanes_items, vector_arguments, lanes_arguments, vector_reads, lanes_read, vector_writes, lanes_write}
use Rattle.wasmprinter_laws.proofs.Operators.Floats.{float_items, float_arguments, single_writes, double_writes}
use Rattle.wasmprinter_laws.proofs.Operators.Forms.{after, may_end}
use Rattle.wasmprinter_laws.proofs.Operators.Blocks.{block_items, id_arguments, block_arguments, IsAfterBlock, end_after_block, after_id-block, id_of-block, function_is_type, block_reads, block_writes, comment_writes}
use Rattle.wasmprinter_laws.proofs.Operators.Catches.{catches_items, catches_arguments, catches_after_block, catches_read, catches_write}

-- ---- the items

-- `own` is the label of the block that the operator opens, `xs` are those that it may mean, and `inner` those of
-- blocks further in.
abbrev pub immediate_items : Setting → List labels.Label → List labels.Label → labels.Label → Shape → Immediates → Forest
immediate_items s inner xs own BlockShape (Block t) = onto (id_items own) (block_items s t)
immediate_items s inner xs own TryTableShape (TryTable t cs) = onto (id_items own) (onto (block_items s t) (catches_items s inner xs cs))
immediate_items s inner xs own (IndexShape space) (Index n) = operand_items s inner xs space n
immediate_items s inner xs own (DefaultIndexShape space) (Index n) = default_items s space n
immediate_items s inner xs own (PairShape first second) (Indices m n) = pair_items s first second m n
immediate_items s inner xs own FieldShape (Indices t n) = type_and_field_items s t n
immediate_items s inner xs own CountShape (Indices t n) = count_items s t n
immediate_items s inner xs own CallShape (Indices t n) = call_items s t n
immediate_items s inner xs own (SegmentShape segments space) (Indices m n) = segment_items s segments space m n
immediate_items s inner xs own (CopyShape space) (Indices m n) = copy_items s space m n
immediate_items s inner xs own BranchTableShape (BranchTable ls l) = labels_items inner xs ls l
immediate_items s inner xs own SelectShape (Types ts) = select_items s.names ts
immediate_items s inner xs own HeapShape (Heap h) = heap_items s.names h
immediate_items s inner xs own (RefShape null) (Heap h) = ref_items_by s.names null h
immediate_items s inner xs own CastShape (Cast l r t) = cast_items s.names inner xs l r t
immediate_items s inner xs own (MemoryShape natural) (Memory m) = mem_arg_items s natural m
immediate_items s inner xs own (MemoryLaneShape natural) (MemoryLane m k) = mem_arg_lane_items s natural m k
immediate_items s inner xs own LaneShape (Lane k) = lane_items k
immediate_items s inner xs own I32Shape (I32 z) = Word (signed_decimal z) End
immediate_items s inner xs own I64Shape (I64 z) = Word (signed_decimal z) End
immediate_items s inner xs own F32Shape (F32 bits) = float_items single bits
immediate_items s inner xs own F64Shape (F64 bits) = float_items double bits
immediate_items s inner xs own VectorShape (Bytes bs) = vector_items bs
immediate_items s inner xs own LanesShape (Bytes bs) = lanes_items bs
immediate_items s inner xs own _ _ = End

-- An opcode that the table does not list has no immediates.
abbrev pub items_by : Setting → List labels.Label → List labels.Label → labels.Label → Option Shape → Immediates → Forest
items_by s inner xs own None i = End
items_by s inner xs own (Some t) i = immediate_items s inner xs own t i

-- ---- arguments

module _ (s : Setting) (inner xs : List labels.Label) (own : labels.Label) where
  immediate_arguments : (t : Shape) (i : Immediates) → AreInRange i → AreArguments (immediate_items s inner xs own t i)
  immediate_arguments BlockShape (Block t) h = arguments_onto (id_items own) (block_items s t) (id_arguments own) (block_arguments s t)
  immediate_arguments TryTableShape (TryTable t cs) h =
      arguments_onto (id_items own) (onto (block_items s t) (catches_items s inner xs cs)) (id_arguments own)
      (arguments_onto (block_items s t) (catches_items s inner xs cs) (block_arguments s t) (catches_arguments s inner xs cs))
  immediate_arguments (IndexShape space) (Index n) h = operand_arguments s inner xs space n h
  immediate_arguments (DefaultIndexShape space) (Index n) h = default_arguments s space n h
  immediate_arguments (PairShape first second) (Indices m n) h = pair_arguments s first second m n h.0 h.1
  immediate_arguments FieldShape (Indices t n) h = type_and_field_arguments s t n h.0 h.1
  immediate_arguments CountShape (Indices t n) h = count_arguments s t n h.0 h.1
  immediate_arguments CallShape (Indices t n) h = call_arguments s t n h.1
  immediate_arguments (SegmentShape segments space) (Indices m n) h = segment_arguments s segments space m n h.0 h.1
  immediate_arguments (CopyShape space) (Indices m n) h = copy_arguments s space m n h.0 h.1
  immediate_arguments BranchTableShape (BranchTable ls l) h = labels_arguments inner xs ls l h.0 h.1
  immediate_arguments SelectShape (Types ts) h = select_arguments s.names ts
  immediate_arguments HeapShape (Heap k) h = heap_arguments s.names k h
  immediate_arguments (RefShape null) (Heap k) h = ref_arguments s.names null k
  immediate_arguments CastShape (Cast l r t) h = cast_arguments s.names inner xs l r t h.0
  immediate_arguments (MemoryShape natural) (Memory m) h = mem_arg_arguments s natural m h
  immediate_arguments (MemoryLaneShape natural) (MemoryLane m k) h = mem_arg_lane_arguments s natural m k h.0 h.1
  immediate_arguments LaneShape (Lane k) h = lane_arguments k h
  immediate_arguments I32Shape (I32 z) h = (constant_is_no_word z (widened z h), tt)
  immediate_arguments I64Shape (I64 z) h = (constant_is_no_word z h, tt)
  immediate_arguments F32Shape (F32 bits) h = float_arguments single bits
  immediate_arguments F64Shape (F64 bits) h = float_arguments double bits
  immediate_arguments VectorShape (Bytes bs) h = vector_arguments bs
  immediate_arguments LanesShape (Bytes bs) h = lanes_arguments bs h.each
  immediate_arguments _ _ h = tt

  pub arguments_by : (t : Option Shape) (i : Immediates) → AreInRange i → AreArguments (items_by s inner xs own t i)
  arguments_by None i h = tt
  arguments_by (Some t) i h = immediate_arguments t i h

-- ---- the items read back

module _ (s : Setting) (c : Context) (n : Counts) (types : HaveSameTypes s c n) (same : HaveSameNames s c n) (apart : AreApart s.names) where
  -- A function type is a function type for the reader too.
  read_as_function : (t : ℕ) → IsFunctionType (n.signature t) → IsFunctionType (c.signature t)
  read_as_function t d = subst IsFunctionType (types.counted t ∙ sym (types.read t)) d

  -- A fact about indices of 32 bits and about declared types holds for the lesser bound.
  both : (P : ℕ → Type 0) → P (2 ^ 32) → P n.types → P (least n)
  both P h d = of_least P (2 ^ 32) n.types h d

  both_vals : (ts : List ValType) → AllByRecursion (IsDeclaredVal (2 ^ 32)) ts → AllByRecursion (IsDeclaredVal n.types) ts → AllByRecursion (IsDeclaredVal (least n)) ts
  both_vals ts h d = both (λ m. AllByRecursion (IsDeclaredVal m) ts) h d

  structure_is_type : (t m : ℕ) (fs : Option (List FieldType)) → n.fields t ≡ fs → IsFieldOf fs m → t < n.types
  structure_is_type t m None e f = absurd f
  structure_is_type t m (Some fs) e f = same.structures t fs e

  module _ (inner xs : List labels.Label) (o : Opened (s.names.labels s.function) xs) (own : labels.Label) where
    pub immediates_read : (t : Shape) (i : Immediates) → has_shape t i ≡ true → means_items t ≡ true → AreInRange i → AreDeclared n t i →
        immediates c (ids xs) t (immediate_items s inner xs own t i) ≡ Some i
    immediates_read NoneShape NoImmediates k l h d = refl
    immediates_read FenceShape NoImmediates k l h d = refl
    immediates_read BlockShape (Block t) k l h d =
        let e : after_id (onto (id_items own) (block_items s t)) ≡ block_items s t = rw onto-End at (after_id-block s own t End refl) in
        let b : block_type c (block_items s t) ≡ Some (t, End) =
        rw onto-End at (block_reads s c n types same apart t End h d (end_after_block c)) in
        rw (e, b)
    immediates_read TryTableShape (TryTable t cs) k l h d =
        let after : IsAfterBlock c (catches_items s inner xs cs) = catches_after_block s c inner xs cs in
        rw (
          after_id-block s own t (catches_items s inner xs cs) after.all_after_id,
          block_reads s c n types same apart t (catches_items s inner xs cs) h.0 d.0 after,
          catches_read s c n same apart inner xs o cs h.1 d.1,
        )
    immediates_read (IndexShape space) (Index m) k l h d = rw (operand_reads s c n same apart inner xs o space m h d)
    immediates_read (DefaultIndexShape space) (Index m) k l h d = rw (default_reads s c n same apart space m l h d)
    immediates_read (PairShape first second) (Indices j m) k l h d =
        let parts = and_parts (is_item first) (is_item second) l in
        rw (pair_reads s c n same apart first second j m parts.0 parts.1 h.0 h.1 d.0 d.1)
    immediates_read FieldShape (Indices t m) k l h d =
        type_and_field_reads s c n same apart t m h.0 h.1 (structure_is_type t m (n.fields t) refl d) d
    immediates_read CountShape (Indices t m) k l h d = count_reads s c n same apart t m h.0 h.1 d
    immediates_read CallShape (Indices t m) k l h d =
        call_reads s c n same apart t m h.0 h.1 (function_is_type s c n types same apart t (n.signature t) refl d.0) d.1 (read_as_function t d.0)
    immediates_read (SegmentShape segments space) (Indices j m) k l h d =
        let parts = and_parts (is_item segments) (is_item space) l in
        segment_reads s c n same apart segments space j m parts.0 parts.1 h.0 h.1 d.0 d.1
    immediates_read (CopyShape space) (Indices j m) k l h d = rw (copy_reads s c n same apart space j m l h.0 h.1 d.0 d.1)
    immediates_read BranchTableShape (BranchTable ls j) k l h d =
        rw (labels_read (s.names.labels s.function) (apart.labels s.function) inner xs o ls j h.0 h.1, last_apart-targets ls j)
    immediates_read SelectShape (Types ts) k l h d = select_reads s.names c (least n) (types_read s c n same apart) ts (both_vals ts h d)
    immediates_read HeapShape (Heap t) k l h d =
        rw (heap_type-items s.names c.spaces.types (least n) (types_read s c n same apart) t (both (λ m. IsDeclaredHeap m t) h d))
    immediates_read (RefShape null) (Heap t) k l h d = test_reads s.names c (least n) (types_read s c n same apart) null t (both (λ m. IsDeclaredHeap m t) h d)
    immediates_read CastShape (Cast j r t) k l (label, from, to) d =
        cast_reads s.names c (least n) (types_read s c n same apart) (s.names.labels s.function) (apart.labels s.function)
        inner xs o j r t label
        (both (λ m. IsDeclaredHeap m r.heap) from d.0) (both (λ m. IsDeclaredHeap m t.heap) to d.1)
    immediates_read (MemoryShape natural) (Memory m) k l h d = rw (mem_arg_reads s c n same apart natural m h d)
    immediates_read (MemoryLaneShape natural) (MemoryLane m j) k l h d = mem_arg_lane_reads s c n same apart natural m j h.0 d h.1
    immediates_read LaneShape (Lane j) k l h d = rw (u8-decimal j h)
    immediates_read I32Shape (I32 z) k l h d = rw (integer-32 z h)
    immediates_read I64Shape (I64 z) k l h d = rw (integer-64 z h)
    immediates_read F32Shape (F32 bits) k l h d = rw (single-reads bits h)
    immediates_read F64Shape (F64 bits) k l h d = rw (double-reads bits h)
    immediates_read VectorShape (Bytes bs) k l h d = vector_reads bs h
    immediates_read LanesShape (Bytes bs) k l h d = lanes_read bs h
    immediates_read _ _ k l h d = absurd cc

    -- A shape that refuses another shape does not read its items.
    pub immediates_refused : (is : Identifiers) (r t : Shape) (i : Immediates) → refuses r t ≡ true → has_shape t i ≡ true → AreInRange i → AreDeclared n t i →
        immediates c is r (immediate_items s inner xs own t i) ≡ None
    immediates_refused is NoneShape SelectShape (Types ts) r k h d = refl
    immediates_refused is SelectShape NoneShape NoImmediates r k h d = refl
    immediates_refused is (RefShape wanted) (RefShape null) (Heap t) r k h d =
        test_refuses s.names c (least n) (types_read s c n same apart) null wanted t (both (λ m. IsDeclaredHeap m t) h d) r
    immediates_refused is _ _ _ r k h d = absurd cc

-- The items of an operator that opens a block start with the identifier of its label.
pub id_of-opening : (s : Setting) (c : Context) (inner xs : List labels.Label) (own : labels.Label) (t : Shape) (i : Immediates) →
    has_block t ≡ true → has_shape t i ≡ true →
    id_of (immediate_items s inner xs own t i) ≡ id own
id_of-opening s c inner xs own BlockShape (Block t) b k = rw onto-End at (id_of-block s own t End refl)
id_of-opening s c inner xs own TryTableShape (TryTable t cs) b k =
    id_of-block s own t (catches_items s inner xs cs) (catches_after_block s c inner xs cs).no_id
id_of-opening s c inner xs own _ _ b k = absurd cc

-- ---- pieces write the items

module _ (s : Setting) (named : AreNamed s.names) (ranged : AreSignaturesInRange s.signature) (inner xs : List labels.Label) (own : labels.Label)
    (labelled : AllByRecursion IsNamedIfAny xs) (own_named : IsNamedIfAny own) where
  immediate_writes : (t : Shape) (i : Immediates) → AreInRange i →
      Writes Bound (immediate_pieces s inner xs own t i) (after s.form) (immediate_items s inner xs own t i)
  unfolding immediate_pieces
  immediate_writes BlockShape (Block t) r =
      let comment = comment_writes s.form own (suc (length xs)) in
      rw onto-End at (both_write (leading_id_and_name_writes own own_named) (both_write (block_writes s named ranged t r) comment))
  immediate_writes TryTableShape (TryTable t cs) r =
      let comment = comment_writes s.form own (suc (length xs)) in
      let clauses = both_write (catches_write s named inner xs labelled cs r.1) comment in
      rw onto-End at (both_write (leading_id_and_name_writes own own_named) (both_write (block_writes s named ranged t r.0) clauses))
  immediate_writes (IndexShape space) (Index n) r = may_end s.form (operand_writes s named inner xs space n labelled r)
  immediate_writes (DefaultIndexShape space) (Index n) r = may_end s.form (default_writes s named space n r)
  immediate_writes (PairShape first second) (Indices m n) r = may_end s.form (pair_writes s named first second m n r.0 r.1)
  immediate_writes FieldShape (Indices t n) r = may_end s.form (type_and_field_writes s named t n r.0 r.1)
  immediate_writes CountShape (Indices t n) r = may_end s.form (count_writes s named t n r.0 r.1)
  immediate_writes CallShape (Indices t n) r = may_end s.form (call_writes s named t n r.0 r.1)
  immediate_writes (SegmentShape segments space) (Indices m n) r = may_end s.form (segment_writes s named segments space m n r.0 r.1)
  immediate_writes (CopyShape space) (Indices m n) r = may_end s.form (copy_writes s named space m n r.0 r.1)
  immediate_writes BranchTableShape (BranchTable ls l) r = may_end s.form (labels_write inner xs ls l labelled r.0 r.1)
  immediate_writes SelectShape (Types ts) r = may_end s.form (select_writes s.names named ts r)
  immediate_writes HeapShape (Heap h) r = may_end s.form (heap_type_writes s.names named h r)
  immediate_writes (RefShape null) (Heap h) r = may_end s.form (ref_type_writes s.names named null h r)
  immediate_writes CastShape (Cast l q t) (label, from, to) =
      may_end s.form (cast_writes s.names named inner xs l q t labelled label from to)
  immediate_writes (MemoryShape natural) (Memory m) r = may_end s.form (mem_arg_writes s named natural m r)
  immediate_writes (MemoryLaneShape natural) (MemoryLane m k) r = may_end s.form (mem_arg_lane_writes s named natural m k r.0 r.1)
  immediate_writes LaneShape (Lane k) r = may_end s.form (lane_writes k r)
  immediate_writes I32Shape (I32 z) r =
      let small : mag z < 2 ^ 63 = mag_below z (widened z r) in
      may_end s.form (search writing)
  immediate_writes I64Shape (I64 z) r =
      let small : mag z < 2 ^ 63 = mag_below z r in
      may_end s.form (search writing)
  immediate_writes F32Shape (F32 bits) r = may_end s.form (single_writes bits r)
  immediate_writes F64Shape (F64 bits) r = may_end s.form (double_writes bits r)
  immediate_writes VectorShape (Bytes bs) r = may_end s.form (vector_writes bs r)
  immediate_writes LanesShape (Bytes bs) r = may_end s.form (lanes_write bs r)
  immediate_writes _ _ r = may_end s.form nothing_writes

  pub writes_by : (t : Option Shape) (i : Immediates) → AreInRange i →
      Writes Bound (pieces_by s inner xs own t i) (after s.form) (items_by s inner xs own t i)
  writes_by None i r = may_end s.form nothing_writes
  writes_by (Some t) i r = immediate_writes t i r
