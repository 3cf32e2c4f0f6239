-- Immediates that are indices: their items, that these read back, and that pieces write them
use Rattle.std.proofs.Common.{◌≡◌, ℕ, Bool, true, false, ◌&&◌, cond, eqb, List, [], ◌∷◌, ◌++◌, Option, Some, None, refl, sym, ap, ◌∙◌, codes, decimal, arith}
use Rattle.std.specs.List.{AllByRecursion}
use Rattle.std.proofs.lemmas.Bool.{and_parts, eqb-true}
use Rattle.wasmprinter_spec.specs.Character.{class}
use Rattle.wasmprinter_spec.specs.Forest.{Forest, End, Word, Group, onto}
use Rattle.wasmprinter_spec.specs.Types.{FuncType}
use Rattle.wasmprinter_spec.specs.Operator.{Indices, OfType}
use Rattle.wasmprinter_spec.specs.Row as row
use Rattle.wasmprinter_spec.specs.Row.{Space, Label}
use Rattle.wasmprinter_spec.specs.Labels as labels
use Rattle.wasmprinter_spec.specs.Labels.{Named}
use Rattle.wasmprinter_spec.specs.Names.{IsNamedIfAny, AreNamed, AreApart, in_function}
use Rattle.wasmprinter_spec.specs.Indexed.{Counts, IsIndex, IsFieldOf, IsFunctionType}
use Rattle.wasmprinter_spec.specs.Code.{head}
use Rattle.wasmprinter_spec.specs.IndexSpaces.{Identifiers, Context, space_in, index as index_in}
use Rattle.wasmprinter_spec.specs.Text.Types.{val_types, variables}
use Rattle.wasmprinter_spec.specs.Text.TypeUses.{no_type, same_func_type, agrees}
use Rattle.wasmprinter_spec.specs.Text.Operators.{block_type, index, default_index, two_indices, type_and_field, type_and_count, two_indices_or_zeros, with_segment, call_parts}
use Rattle.wasmprinter_spec.specs.Piece.{OneSpace}
use Rattle.wasmprinter_spec.specs.Layout.Groups.{line_group_space}
use Rattle.wasmprinter_spec.specs.Layout.ValTypes.{type_index_pieces}
use Rattle.wasmprinter_spec.specs.Layout.Operators.{Setting, named_index, operand_pieces, default_index_pieces, two_index_pieces, type_and_field_pieces, lane_pieces}
use Rattle.wasmprinter_laws.proofs.Tokens.Runs.{is_word}
use Rattle.wasmprinter_laws.proofs.Tokens.Numbers.{is_word-decimal}
use Rattle.wasmprinter_laws.proofs.Tokens.Pieces.{Bound}
use Rattle.wasmprinter_laws.proofs.Tokens.Writes.{Writes, writing, both_write, nothing_writes, one_space_writes, line_group_space_writes}
use Rattle.wasmprinter_laws.specs.Listed.{IsU32}
use Rattle.wasmprinter_laws.specs.OperatorLaws.{HaveSameNames}
use Rattle.wasmprinter_laws.proofs.Tabled.{is_item}
use Rattle.wasmprinter_laws.proofs.Items.{no_groups}
use Rattle.wasmprinter_laws.proofs.Identifiers.{index_items, leading_reads, index_writes}
use Rattle.wasmprinter_laws.proofs.Types.Trees.{type_index_items, type_index_writes}
use Rattle.wasmprinter_laws.proofs.Operators.Labels.{ids, Opened, label_items, label_arguments, label_reads, label_writes}
use Rattle.wasmprinter_laws.proofs.Operators.Arguments.{AreArguments, arguments_onto}
use Rattle.wasmprinter_laws.proofs.Operators.Numbers.{index_is_no_word, u32-decimal}
use Rattle.wasmprinter_laws.proofs.Operators.Spaces.{space_items, field_items, item_arguments, item_reads, field_reads, item_writes}

-- ---- the items

-- An index: of a label, or in another space
abbrev pub operand_items : Setting → List labels.Label → List labels.Label → Space → ℕ → Forest
operand_items s inner xs Label n = label_items inner xs n
operand_items s inner xs space n = space_items s space n

-- An index that is left out if it is 0
abbrev pub default_items : Setting → Space → ℕ → Forest
default_items s space n = cond (eqb n 0) End (space_items s space n)

abbrev pub pair_items : Setting → Space → Space → ℕ → ℕ → Forest
pair_items s first second m n = onto (space_items s first m) (space_items s second n)

-- A structure type and one of its fields
abbrev pub type_and_field_items : Setting → ℕ → ℕ → Forest
type_and_field_items s t n = onto (space_items s row.Types t) (field_items s t n)

-- A type and a number
abbrev pub count_items : Setting → ℕ → ℕ → Forest
count_items s t n = onto (space_items s row.Types t) (Word (decimal n) End)

-- A type use
abbrev pub use_items : Setting → ℕ → Forest
use_items s t = Group (Word (codes "type") (type_index_items s.names t)) End

abbrev pub call_items : Setting → ℕ → ℕ → Forest
call_items s t n = onto (default_items s row.Table n) (use_items s t)

abbrev pub segment_items : Setting → Space → Space → ℕ → ℕ → Forest
segment_items s segments space m n = onto (default_items s space n) (space_items s segments m)

-- Two indices that are left out if both are 0
abbrev pub copy_items : Setting → Space → ℕ → ℕ → Forest
copy_items s space m n = cond (eqb m 0 && eqb n 0) End (pair_items s space space m n)

-- ---- arguments

module _ (s : Setting) where
  pub space_arguments : (space : Space) (n : ℕ) → IsU32 n → AreArguments (space_items s space n)
  space_arguments space n h = item_arguments (in_function s.names s.function space n) n h

  pub operand_arguments : (inner xs : List labels.Label) (space : Space) (n : ℕ) → IsU32 n → AreArguments (operand_items s inner xs space n)
  operand_arguments inner xs Label n h = label_arguments inner xs n h
  operand_arguments inner xs space n h = space_arguments space n h

  pub default_arguments : (space : Space) (n : ℕ) → IsU32 n → AreArguments (default_items s space n)
  default_arguments space n h = by (eqb n 0)
    where
      by : (b : Bool) → AreArguments (cond b End (space_items s space n))
      by true = tt
      by false = space_arguments space n h

  pub pair_arguments : (first second : Space) (m n : ℕ) → IsU32 m → IsU32 n → AreArguments (pair_items s first second m n)
  pair_arguments first second m n h k = arguments_onto (space_items s first m) (space_items s second n) (space_arguments first m h) (space_arguments second n k)

  pub type_and_field_arguments : (t n : ℕ) → IsU32 t → IsU32 n → AreArguments (type_and_field_items s t n)
  type_and_field_arguments t n h k =
      arguments_onto (space_items s row.Types t) (field_items s t n) (space_arguments row.Types t h) (item_arguments (s.names.fields t n) n k)

  pub count_arguments : (t n : ℕ) → IsU32 t → IsU32 n → AreArguments (count_items s t n)
  count_arguments t n h k = arguments_onto (space_items s row.Types t) (Word (decimal n) End) (space_arguments row.Types t h) (index_is_no_word n k, tt)

  use_arguments : (t : ℕ) → AreArguments (use_items s t)
  unfolding head
  use_arguments t = (refl, tt)

  pub call_arguments : (t n : ℕ) → IsU32 n → AreArguments (call_items s t n)
  call_arguments t n h = arguments_onto (default_items s row.Table n) (use_items s t) (default_arguments row.Table n h) (use_arguments t)

  pub segment_arguments : (segments space : Space) (m n : ℕ) → IsU32 m → IsU32 n → AreArguments (segment_items s segments space m n)
  segment_arguments segments space m n h k =
      arguments_onto (default_items s space n) (space_items s segments m) (default_arguments space n k) (space_arguments segments m h)

  pub copy_arguments : (space : Space) (m n : ℕ) → IsU32 m → IsU32 n → AreArguments (copy_items s space m n)
  copy_arguments space m n h k = by (eqb m 0 && eqb n 0)
    where
      by : (b : Bool) → AreArguments (cond b End (pair_items s space space m n))
      by true = tt
      by false = pair_arguments space space m n h k

-- ---- one index, by identifier or by number

-- A printed index is read in a position in which it may be left out.
default_one : (c : Context) (space : Space) (o : Option Named) (n : ℕ) → index_in (space_in c.spaces space) (index_items o n) ≡ Some n →
    default_index c space (index_items o n) ≡ Some n
default_one c space None n e = e
default_one c space (Some m) n e = e

-- The items of two indices do not read as one index.
two_are_not_one : (is : Identifiers) (o p : Option Named) (m n : ℕ) → index_in is (onto (index_items o m) (index_items p n)) ≡ None
two_are_not_one is None None m n = refl
two_are_not_one is None (Some p) m n = refl
two_are_not_one is (Some o) None m n = refl
two_are_not_one is (Some o) (Some p) m n = refl

copied_two : (c : Context) (space : Space) (o : Option Named) (n : ℕ) (f : Forest) → two_indices_or_zeros c space (onto (index_items o n) f) ≡ two_indices c space space (onto (index_items o n) f)
copied_two c space None n f = refl
copied_two c space (Some m) n f = refl

-- A table before a type use reads back.
table_first : (c : Context) (o : Option Named) (n t : ℕ) (f : Forest) → index_in c.spaces.tables (index_items o n) ≡ Some n → block_type c f ≡ Some (OfType t, End) →
    call_parts c (onto (index_items o n) f) ≡ Some (Indices t n)
table_first c None n t f e b = rw (e, b)
table_first c (Some m) n t f e b = rw (e, b)

-- ---- the items read back

module _ (s : Setting) (c : Context) (k : Counts) (same : HaveSameNames s c k) (apart : AreApart s.names) where
  pub operand_reads : (inner xs : List labels.Label) → Opened (s.names.labels s.function) xs → (space : Space) (n : ℕ) → IsU32 n → IsIndex k space n →
      index c (ids xs) space (operand_items s inner xs space n) ≡ Some n
  operand_reads inner xs o Label n h d = label_reads (s.names.labels s.function) (apart.labels s.function) inner xs o n h
  operand_reads inner xs o space n h d = item_reads s c k same apart space n refl h d

  pub default_reads : (space : Space) (n : ℕ) → is_item space ≡ true → IsU32 n → IsIndex k space n → default_index c space (default_items s space n) ≡ Some n
  default_reads space n t h d = by (eqb n 0) refl
    where
      by : (b : Bool) → eqb n 0 ≡ b → default_index c space (cond b End (space_items s space n)) ≡ Some n
      by true e = ap (λ m. Some m) (sym (eqb-true n 0 e))
      by false e = default_one c space (in_function s.names s.function space n) n (item_reads s c k same apart space n t h d)

  pub pair_reads : (first second : Space) (m n : ℕ) → is_item first ≡ true → is_item second ≡ true → IsU32 m → IsU32 n → IsIndex k first m → IsIndex k second n →
      two_indices c first second (pair_items s first second m n) ≡ Some (m, n)
  pair_reads first second m n a b h i d e =
      rw (
        leading_reads (space_in c.spaces first) (in_function s.names s.function first m) m (space_items s second n) (item_reads s c k same apart first m a h d),
        item_reads s c k same apart second n b i e,
      )

  pub type_and_field_reads : (t n : ℕ) → IsU32 t → IsU32 n → IsIndex k row.Types t → IsFieldOf (k.fields t) n →
      type_and_field c (type_and_field_items s t n) ≡ Some (Indices t n)
  type_and_field_reads t n h i d e =
      rw (
        leading_reads c.spaces.types (in_function s.names s.function row.Types t) t (field_items s t n) (item_reads s c k same apart row.Types t refl h d),
        field_reads s c k same apart t n i e,
      )

  pub count_reads : (t n : ℕ) → IsU32 t → IsU32 n → IsIndex k row.Types t → type_and_count c (count_items s t n) ≡ Some (Indices t n)
  count_reads t n h i d =
      rw (
        leading_reads c.spaces.types (in_function s.names s.function row.Types t) t (Word (decimal n) End) (item_reads s c k same apart row.Types t refl h d),
        u32-decimal n i,
      )

  -- An absent signature agrees with any type.
  absent_agrees : (t : FuncType) → agrees (record { params = []; results = [] }) t ≡ true
  absent_agrees t = by (same_func_type no_type t)
    where
      by : (b : Bool) → cond b true true ≡ true
      by true = refl
      by false = refl

  -- A type use without a signature reads back.
  use_reads : (t : ℕ) (f : FuncType) → IsU32 t → IsIndex k row.Types t → c.signature t ≡ Some f → block_type c (use_items s t) ≡ Some (OfType t, End)
  use_reads t f h d e =
      let no_params = no_groups (variables c.spaces.types) (codes "param") in
      let no_results = no_groups (val_types c.spaces.types) (codes "result") in
      rw (item_reads s c k same apart row.Types t refl h d, e, no_params, no_results, absent_agrees f)

  pub call_reads : (t n : ℕ) → IsU32 t → IsU32 n → IsIndex k row.Types t → IsIndex k row.Table n → IsFunctionType (c.signature t) →
      call_parts c (call_items s t n) ≡ Some (Indices t n)
  call_reads t n h i d e is = by (c.signature t) refl is (eqb n 0) refl
    where
      by : (x : Option FuncType) → c.signature t ≡ x → IsFunctionType x → (b : Bool) → eqb n 0 ≡ b →
          call_parts c (onto (cond b End (space_items s row.Table n)) (use_items s t)) ≡ Some (Indices t n)
      by None f j b e = absurd j
      by (Some x) f j true first = rw (use_reads t x h d f) (ap (λ m. Some (Indices t m)) (sym (eqb-true n 0 first)))
      by (Some x) f j false other =
          table_first c (in_function s.names s.function row.Table n) n t (use_items s t) (item_reads s c k same apart row.Table n refl i e) (use_reads t x h d f)

  pub segment_reads : (segments space : Space) (m n : ℕ) → is_item segments ≡ true → is_item space ≡ true → IsU32 m → IsU32 n → IsIndex k segments m → IsIndex k space n →
      with_segment c segments space (segment_items s segments space m n) ≡ Some (Indices m n)
  segment_reads segments space m n a b h i d e = by (eqb n 0) refl
    where
      by : (t : Bool) → eqb n 0 ≡ t → with_segment c segments space (onto (cond t End (space_items s space n)) (space_items s segments m)) ≡ Some (Indices m n)
      by true first = rw (item_reads s c k same apart segments m a h d) (ap (λ j. Some (Indices m j)) (sym (eqb-true n 0 first)))
      by false other =
          rw (
            two_are_not_one (space_in c.spaces segments) (in_function s.names s.function space n) (in_function s.names s.function segments m) n m,
            pair_reads space segments n m b a i h e d,
          )

  pub copy_reads : (space : Space) (m n : ℕ) → is_item space ≡ true → IsU32 m → IsU32 n → IsIndex k space m → IsIndex k space n →
      two_indices_or_zeros c space (copy_items s space m n) ≡ Some (m, n)
  copy_reads space m n a h i d e = by (eqb m 0 && eqb n 0) refl
    where
      by : (b : Bool) → (eqb m 0 && eqb n 0) ≡ b → two_indices_or_zeros c space (cond b End (pair_items s space space m n)) ≡ Some (m, n)
      by true none =
          let parts : (eqb m 0 ≡ true) × (eqb n 0 ≡ true) = and_parts (eqb m 0) (eqb n 0) none in
          rw (eqb-true m 0 parts.0, eqb-true n 0 parts.1)
      by false some =
          copied_two c space (in_function s.names s.function space m) m (space_items s space n) ∙ pair_reads space space m n a a h i d e

-- ---- pieces write the items

module _ (s : Setting) (named : AreNamed s.names) where
  space_writes : (space : Space) (n : ℕ) → IsU32 n → Writes Bound (OneSpace ∷ named_index s space n) Bound (space_items s space n)
  space_writes space n h = one_space_writes refl (item_writes s named space n h)

  pub operand_writes : (inner xs : List labels.Label) (space : Space) (n : ℕ) → AllByRecursion IsNamedIfAny xs → IsU32 n →
      Writes Bound (operand_pieces s inner xs space n) Bound (operand_items s inner xs space n)
  unfolding operand_pieces
  operand_writes inner xs Label n h r = label_writes inner xs n h r
  operand_writes inner xs space n h r = space_writes space n r

  pub default_writes : (space : Space) (n : ℕ) → IsU32 n → Writes Bound (default_index_pieces s space n) Bound (default_items s space n)
  unfolding default_index_pieces
  default_writes space n h = by (eqb n 0)
    where
      by : (b : Bool) → Writes Bound (cond b [] (OneSpace ∷ named_index s space n)) Bound (cond b End (space_items s space n))
      by true = nothing_writes
      by false = space_writes space n h

  pub pair_writes : (first second : Space) (m n : ℕ) → IsU32 m → IsU32 n → Writes Bound (two_index_pieces s first second m n) Bound (pair_items s first second m n)
  unfolding two_index_pieces
  pair_writes first second m n h k = one_space_writes refl (both_write (item_writes s named first m h) (space_writes second n k))

  pub type_and_field_writes : (t n : ℕ) → IsU32 t → IsU32 n → Writes Bound (type_and_field_pieces s t n) Bound (type_and_field_items s t n)
  unfolding type_and_field_pieces
  type_and_field_writes t n h k =
      one_space_writes refl (both_write (item_writes s named row.Types t h) (one_space_writes refl (index_writes (s.names.fields t n) n (named.fields t n) (omega (arith, k)))))

  pub count_writes : (t n : ℕ) → IsU32 t → IsU32 n → Writes Bound (OneSpace ∷ (named_index s row.Types t ++ lane_pieces n)) Bound (count_items s t n)
  unfolding lane_pieces
  count_writes t n h k =
      let word : is_word (decimal n) ≡ true = is_word-decimal n (omega arith) in
      one_space_writes refl (both_write (item_writes s named row.Types t h) (search writing))

  pub call_writes : (t n : ℕ) → IsU32 t → IsU32 n →
      Writes Bound (default_index_pieces s row.Table n ++ (OneSpace ∷ line_group_space (codes "type") (type_index_pieces s.names t))) Bound (call_items s t n)
  unfolding class
  call_writes t n h k =
      both_write (default_writes row.Table n k)
      (one_space_writes refl (line_group_space_writes (codes "type") (type_index_pieces s.names t) refl refl (type_index_writes s.names named t h)))

  pub segment_writes : (segments space : Space) (m n : ℕ) → IsU32 m → IsU32 n →
      Writes Bound (default_index_pieces s space n ++ (OneSpace ∷ named_index s segments m)) Bound (segment_items s segments space m n)
  segment_writes segments space m n h k = both_write (default_writes space n k) (space_writes segments m h)

  pub copy_writes : (space : Space) (m n : ℕ) → IsU32 m → IsU32 n →
      Writes Bound (cond (eqb m 0 && eqb n 0) [] (two_index_pieces s space space m n)) Bound (copy_items s space m n)
  copy_writes space m n h k = by (eqb m 0 && eqb n 0)
    where
      by : (b : Bool) → Writes Bound (cond b [] (two_index_pieces s space space m n)) Bound (cond b End (pair_items s space space m n))
      by true = nothing_writes
      by false = pair_writes space space m n h k
