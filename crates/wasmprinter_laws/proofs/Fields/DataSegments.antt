-- Data segments among the fields of a module
use Rattle.std.proofs.Common.{◌≡◌, ℕ, ◌==◌, ◌<◌, ◌^◌, Bool, true, false, cond, List, [], ◌∷◌, ◌++◌, append-nil, Some, None, option_map, refl, sym, ap, ◌∙◌, codes, arith}
use Rattle.std.proofs.lemmas.Bool.{eqb-true}
use Rattle.wasmprinter_spec.specs.Character.{class}
use Rattle.wasmprinter_spec.specs.Grammar.{Placed, ◌>>=◌}
use Rattle.wasmprinter_spec.specs.Forest.{Forest, End, Word, String, Group, onto}
use Rattle.wasmprinter_spec.specs.Types.{signature_at}
use Rattle.wasmprinter_spec.specs.Row as row
use Rattle.wasmprinter_spec.specs.Names.{AreNamed}
use Rattle.wasmprinter_spec.specs.Operator.{Operator}
use Rattle.wasmprinter_spec.specs.Placed.{DataMode, PassiveData, ActiveData, Data, data_of}
use Rattle.wasmprinter_spec.specs.Module.{without_places, data_mode_without_places, data_without_places}
use Rattle.wasmprinter_spec.specs.Binary.{AreBytes}
use Rattle.wasmprinter_spec.specs.Indexed.{Counts}
use Rattle.wasmprinter_spec.specs.IndexSpaces.{index, Context}
use Rattle.wasmprinter_spec.specs.Piece as piece
use Rattle.wasmprinter_spec.specs.Layout.Groups.{line_group_space}
use Rattle.wasmprinter_spec.specs.Layout.Declarations.{Scope, item_index}
use Rattle.wasmprinter_spec.specs.Layout.DataSegments.{named_memory, data_mode_pieces, shown_bytes, data_pieces}
use Rattle.wasmprinter_spec.specs.Text.Items.{identifier_in_front}
use Rattle.wasmprinter_spec.specs.Text.DataSegments.{strings, with_bytes, active_in, segment, read_data}
use Rattle.wasmprinter_laws.proofs.Tokens.Pieces.{Free, Bound}
use Rattle.wasmprinter_laws.proofs.Tokens.Writes.{Writes, both_write, nothing_writes, one_space_writes, break_writes, word_writes, quoted_bytes_writes, line_group_space_writes, group_space_writes}
use Rattle.wasmprinter_laws.specs.Listed.{AreSignaturesInRange}
use Rattle.wasmprinter_laws.proofs.Declarations.{id}
use Rattle.wasmprinter_laws.proofs.Identifiers.{declaration-items, declaration_writes, index_writes}
use Rattle.wasmprinter_laws.proofs.Folded.Lists.{IsUncolored}
use Rattle.wasmprinter_laws.proofs.Fields.Scopes.{own_id, own_index, AreScoped, own_index-reads}
use Rattle.wasmprinter_laws.proofs.Ranged.{IsRangedExpression, IsRangedDataMode, IsRangedData}
use Rattle.wasmprinter_laws.proofs.Fields.Expressions.{constant_held, constant_group_writes, AreIndexed, constant_group-items, IsOffset, offset_stands, no_offset}

-- ---- the items of data segments

-- Memory 0 is left out.
abbrev pub named_memory_items_by : Scope → Bool → ℕ → Forest → Forest
named_memory_items_by s true m f = f
named_memory_items_by s false m f = Group (Word (codes "memory") (own_index s row.Memory m)) f

abbrev pub named_memory_items : Scope → ℕ → Forest → Forest
named_memory_items s m f = named_memory_items_by s (m == 0) m f

-- The bytes, or `...` in a skeleton
abbrev pub bytes_items : Bool → List ℕ → Forest
bytes_items true bs = Word (codes "...") End
bytes_items false bs = String bs End

abbrev pub data_mode_items : Scope → DataMode (Placed Operator) → Forest → Forest
data_mode_items s PassiveData f = f
data_mode_items s (ActiveData m offset) f = named_memory_items s m (Group (constant_held s (codes "offset") offset) f)

-- A data segment without its identifier
abbrev pub segment_items : Scope → Bool → Data (Placed Operator) → Forest
segment_items s skeleton d = data_mode_items s d.mode (bytes_items skeleton d.bytes)

-- The items of a data segment after its word
abbrev pub data_items : Scope → Bool → ℕ → Data (Placed Operator) → Forest
data_items s skeleton i d = onto (own_id s row.Data i) (segment_items s skeleton d)

-- ---- pieces write the items

pub bytes_write : (skeleton : Bool) (bs : List ℕ) → AreBytes bs → Writes Free (shown_bytes skeleton bs) Bound (bytes_items skeleton bs)
unfolding class
bytes_write true bs h = word_writes refl nothing_writes
bytes_write false bs h = quoted_bytes_writes h nothing_writes

module _ (s : Scope) (named : AreNamed s.names) (ranged : AreSignaturesInRange (signature_at s.types)) (bare : IsUncolored s.folding) where
  named_memory_writes : (m : ℕ) → m < 2 ^ 32 → {qs : List piece.Piece} {f : Forest} → Writes Free qs Free f →
      Writes Free (named_memory s m ++ qs) Free (named_memory_items s m f)
  unfolding class
  named_memory_writes m h {qs} {f} w = by (m == 0)
    where
      by : (t : Bool) →
          Writes Free (cond t [] (line_group_space (codes "memory") (item_index s row.Memory m) ++ (piece.OneSpace ∷ [])) ++ qs) Free (named_memory_items_by s t m f)
      by true = w
      by false =
          let small : m < 2 ^ 64 = omega (arith, h) in
          both_write (both_write
          (line_group_space_writes {b = Bound} (codes "memory") _ refl refl (index_writes (s.names.items row.Memory m) m (named.items row.Memory m) small))
          (one_space_writes refl nothing_writes)) w

  data_mode_writes : (m : DataMode (Placed Operator)) → IsRangedDataMode m →
      Writes Free (data_mode_pieces s m) Free (data_mode_items s m End)
  unfolding data_mode_pieces class
  data_mode_writes PassiveData h = nothing_writes
  data_mode_writes (ActiveData m offset) h =
      named_memory_writes m h.0 (both_write (constant_group_writes s named ranged bare (codes "offset") offset refl refl h.1) (one_space_writes refl nothing_writes))

  named_memory_onto : (t : Bool) (m : ℕ) (g f : Forest) → onto (named_memory_items_by s t m (Group g End)) f ≡ named_memory_items_by s t m (Group g f)
  named_memory_onto true m g f = refl
  named_memory_onto false m g f = refl

  data_mode_onto : (m : DataMode (Placed Operator)) (f : Forest) → onto (data_mode_items s m End) f ≡ data_mode_items s m f
  data_mode_onto PassiveData f = refl
  data_mode_onto (ActiveData m offset) f = named_memory_onto (m == 0) m (constant_held s (codes "offset") offset) f

  pub data_writes : (skeleton : Bool) (i : ℕ) (d : Placed (Data (Placed Operator))) → i < 2 ^ 64 → IsRangedData d.value →
      Writes Bound (data_pieces skeleton s i d) Bound (Group (Word (codes "data") (data_items s skeleton i d.value)) End)
  unfolding data_pieces class
  data_writes skeleton i d small h =
      let mode : DataMode (Placed Operator) = d.value.mode in
      let bytes : Forest = bytes_items skeleton d.value.bytes in
      let held : Writes Bound (data_pieces skeleton s i d) Bound (Group (Word (codes "data") (onto (own_id s row.Data i) (onto (data_mode_items s mode End) bytes))) End) =
      break_writes (group_space_writes 1 (codes "data") _ refl refl
      (both_write (declaration_writes (s.names.items row.Data i) i (named.items row.Data i) small)
      (one_space_writes {a = Bound} refl (both_write (data_mode_writes d.value.mode h.mode) (bytes_write skeleton d.value.bytes h.bytes))))) in
      rw (data_mode_onto mode bytes) at held

-- ---- the items read back

strings-items : (bs : List ℕ) → strings (String bs End) ≡ Some bs
strings-items bs = ap (λ x. Some x) (append-nil bs)

-- The mode does not start with an identifier.
identifier_in_front-segment : (s : Scope) (d : Data (Placed Operator)) → identifier_in_front (segment_items s false d) ≡ (None, segment_items s false d)
identifier_in_front-segment s d = by d.mode
  where
    active : (t : Bool) (m : ℕ) (g f : Forest) → identifier_in_front (named_memory_items_by s t m (Group g f)) ≡ (None, named_memory_items_by s t m (Group g f))
    active true m g f = refl
    active false m g f = refl

    by : (m : DataMode (Placed Operator)) → identifier_in_front (data_mode_items s m (String d.bytes End)) ≡ (None, data_mode_items s m (String d.bytes End))
    by PassiveData = refl
    by (ActiveData m offset) = active (m == 0) m (constant_held s (codes "offset") offset) (String d.bytes End)

-- The identifier of a data segment is read, and the items after it are left.
pub identifier_in_front-data : (s : Scope) (i : ℕ) (d : Data (Placed Operator)) → identifier_in_front (data_items s false i d) ≡ (id (s.names.items row.Data i), segment_items s false d)
identifier_in_front-data s i d = declaration-items (s.names.items row.Data i) (segment_items s false d) (identifier_in_front-segment s d)

module _ (s : Scope) (c : Context) (n : Counts) (scoped : AreScoped s c n) where
  -- Every index in the mode is declared.
  abbrev pub IsIndexedDataMode : DataMode (Placed Operator) → Type 0
  IsIndexedDataMode PassiveData = Unit {0}
  IsIndexedDataMode (ActiveData m offset) = (m < n.memories) × AreIndexed s n offset

  -- An active segment reads back after its memory.
  active-items : (m : ℕ) (offset : List (Placed Operator)) (f : Forest) → IsRangedExpression offset → AreIndexed s n offset →
      active_in c m (Group (constant_held s (codes "offset") offset) f) ≡ with_bytes c (ActiveData m (without_places offset)) f
  active-items m offset f h d =
      ap (λ o. o >>= λ e. with_bytes c (ActiveData m e) f) (constant_group-items s c n scoped (codes "offset") no_offset offset h d)

  -- The group of an offset does not read as a memory.
  segment-offset : (g f : Forest) → IsOffset g → segment c (Group g f) ≡ active_in c 0 (Group g f)
  segment-offset g f o =
      ap (λ x. segment c (Group x f)) o.is
      ∙ ap (λ b. cond b (index c.spaces.memories o.rest >>= (λ m. active_in c m f)) (active_in c 0 (Group (Word o.word o.rest) f))) o.memory
      ∙ ap (λ x. active_in c 0 (Group x f)) (sym o.is)

  segment-active : (t : Bool) (m : ℕ) → (m == 0) ≡ t → (offset : List (Placed Operator)) (f : Forest) → m < 2 ^ 32 → m < n.memories →
      IsRangedExpression offset → AreIndexed s n offset →
      segment c (named_memory_items_by s t m (Group (constant_held s (codes "offset") offset) f)) ≡ with_bytes c
      (ActiveData m (without_places offset)) f
  segment-active true m e offset f small declared h d =
      segment-offset _ f (offset_stands s offset h) ∙ active-items 0 offset f h d ∙ ap (λ i. with_bytes c (ActiveData i (without_places offset)) f)
      (sym (eqb-true m 0 e))
  segment-active false m e offset f small declared h d =
      ap (λ o. o >>= λ i. active_in c i (Group (constant_held s (codes "offset") offset) f))
      (own_index-reads s c n scoped row.Memory (λ names f. refl) m declared small)
      ∙ active-items m offset f h d

  segment-items : (m : DataMode (Placed Operator)) (bs : List ℕ) → IsRangedDataMode m → IsIndexedDataMode m →
      segment c (data_mode_items s m (String bs End)) ≡ with_bytes c (data_mode_without_places m) (String bs End)
  segment-items PassiveData bs h d = refl
  segment-items (ActiveData m offset) bs h d = segment-active (m == 0) m refl offset (String bs End) h.0 d.0 h.1 d.1

  pub read_data-items : (i : ℕ) (d : Data (Placed Operator)) → IsRangedData d → IsIndexedDataMode d.mode →
      read_data c (data_items s false i d) ≡ Some (data_without_places d)
  read_data-items i d h k =
      ap (λ x. segment c x.1) (identifier_in_front-data s i d)
      ∙ segment-items d.mode d.bytes h.mode k
      ∙ ap (option_map (data_of (data_mode_without_places d.mode))) (strings-items d.bytes)
