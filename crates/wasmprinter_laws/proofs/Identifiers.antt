-- Identifiers: the items of indices and declarations, that their pieces write these items, and that an index reads
-- back
use Rattle.std.proofs.Common.{◌⊎◌, inl, inr, sym, ◌≡◌, ℕ, ◌<◌, ◌≤◌, ◌^◌, Bool, true, false, cond, List, [], ◌∷◌, Option, Some, None, refl, ap, ◌∙◌, subst, arith, bytes_eq, chars, decimal, length, encode_utf8_all, min}
use Rattle.std.specs.Prelude.{IsUtf8}
use Rattle.std.proofs.Math.Utf8.{scalars}
use Rattle.std.proofs.Math.Nat.{min-le_left, min-le_right, min-eq_left, min-eq_right}
use Rattle.std.proofs.lemmas.Bool.{cases_lt}
use Rattle.std.proofs.lemmas.Str.{encodes-chars, scalars-chars, is_utf8-from_IsUtf8}
use Rattle.wasmprinter_spec.specs.Token.{is_name}
use Rattle.wasmprinter_spec.specs.Forest.{Forest, End, Word, Name, onto}
use Rattle.wasmprinter_spec.specs.Labels.{Named}
use Rattle.wasmprinter_spec.specs.IndexSpaces.{Identifiers, index, leading_index}
use Rattle.wasmprinter_spec.specs.Names.{IsGiven, IsNamed, IsNamedIfAny, AreDistinct, identifiers}
use Rattle.wasmprinter_spec.specs.Text.Items.{identifier_in_front}
use Rattle.wasmprinter_spec.specs.Piece.{Piece, OneSpace, IndexComment, EndStyle, Identifier, NameAnnotation}
use Rattle.wasmprinter_spec.specs.Layout.Identifiers.{given_pieces, id_and_name_pieces, leading_id_and_name_pieces, id_and_name_space_pieces, identifier_space_pieces, declaration_pieces, index_pieces}
use Rattle.wasmprinter_laws.proofs.Tokens.Grown.{onto-End}
use Rattle.wasmprinter_laws.proofs.Tokens.Pieces.{Edge, Free, Bound}
use Rattle.wasmprinter_laws.proofs.Tokens.Writes.{Writes, writing, both_write, identifier_writes, noted_identifier_writes, one_space_writes, begin_name_writes, nothing_writes, free_writes}
use Rattle.wasmprinter_laws.proofs.Items.{index-decimal}
use Rattle.wasmprinter_laws.proofs.Declarations.{id}
use Rattle.wasmprinter_laws.proofs.Names.Resolving.{resolves}

-- ---- the items

-- The items of an index: the identifier of its item, or else the number
abbrev pub index_items : Option Named → ℕ → Forest
index_items None n = Word (decimal n) End
index_items (Some m) n = Name m.content End

-- The items of a declaration: the identifier, if there is one
abbrev pub id_items : Option Named → Forest
id_items None = End
id_items (Some n) = Name n.content End

-- ---- the items read back

-- The items do not start with an identifier.
abbrev pub IsUnidentified : Forest → Type 0
IsUnidentified f = identifier_in_front f ≡ (None, f)

pub declaration-items : (o : Option Named) (f : Forest) → IsUnidentified f → identifier_in_front (onto (id_items o) f) ≡ (id o, f)
declaration-items None f h = h
declaration-items (Some n) f h = refl

-- The identifiers of these declarations are distinct, so each means one declaration.
pub record Declares (ids : Identifiers) (named : ℕ → Option Named) (count : ℕ) : Type 0 where
  pub are : ids ≡ identifiers named count
  pub few : count ≤ 2 ^ 64
  pub apart : AreDistinct named

-- Each printed index below the bound reads as itself.
abbrev pub Reads : Identifiers → (ℕ → Option Named) → ℕ → Type 0
Reads ids named bound = (n : ℕ) → n < bound → index ids (index_items (named n) n) ≡ Some n

pub index_reads : (ids : Identifiers) (named : ℕ → Option Named) (count : ℕ) → Declares ids named count → (n : ℕ) → n < count → n < 2 ^ 32 →
    index ids (index_items (named n) n) ≡ Some n
index_reads ids named count d n declared small = by (named n) refl
  where
    by : (o : Option Named) → named n ≡ o → index ids (index_items o n) ≡ Some n
    by None e = index-decimal ids n small
    by (Some m) e = ap (λ is. index is (Name m.content End)) d.are ∙ resolves named d.apart count n m d.few declared e

-- A printed index before other items reads as itself.
pub leading_reads : (ids : Identifiers) (o : Option Named) (n : ℕ) (f : Forest) → index ids (index_items o n) ≡ Some n →
    leading_index ids (onto (index_items o n) f) ≡ Some (n, f)
leading_reads ids None n f e = rw e
leading_reads ids (Some m) n f e = rw e

-- A fact that holds of two numbers holds of the lesser one.
pub of_least : (P : ℕ → Type 0) (m n : ℕ) → P m → P n → P (min m n)
of_least P m n h k = by (cases_lt m n)
  where
    by : (m < n) ⊎ (n ≤ m) → P (min m n)
    by (inl l) = let le : m ≤ n = omega (arith, l) in subst P (sym (min-eq_left le)) h
    by (inr l) = subst P (sym (min-eq_right l)) k

pub reads_least : (ids : Identifiers) (named : ℕ → Option Named) (count : ℕ) → Declares ids named count → Reads ids named (min (2 ^ 32) count)
reads_least ids named count d n h = index_reads ids named count d n (omega (arith, h, min-le_right (2 ^ 32) count)) (omega (arith, h, min-le_left (2 ^ 32) count))

-- ---- pieces write the items

is_name-utf8 : (s : List ℕ) → IsUtf8 s → 0 < length s → is_name s ≡ true
is_name-utf8 [] h some = absurd (omega arith)
is_name-utf8 (b ∷ bs) h some = is_utf8-from_IsUtf8 (b ∷ bs) h

-- The content of an identifier is UTF-8 and can be written as one.
record IsIdentifier (n : Named) : Type 0 where
  same : encode_utf8_all (chars n.content) ≡ n.content
  scalar : scalars (chars n.content) ≡ true
  is : is_name (encode_utf8_all (chars n.content)) ≡ true

named_is : (n : Named) → IsNamed n → IsIdentifier n
named_is n h =
    let e : encode_utf8_all (chars n.content) ≡ n.content = encodes-chars n.content h.content in
    record { same = e; scalar = scalars-chars n.content h.content; is = ap is_name e ∙ is_name-utf8 n.content h.content h.some }

name_writes : {b : Edge} {ps : List Piece} {f : Forest} (n : Named) → IsNamed n → Writes Bound ps b f → Writes Free (Identifier (chars n.content) ∷ ps) b (Name n.content f)
name_writes {b = b} {ps = ps} {f = f} n h w =
    let i : IsIdentifier n = named_is n h in
    subst (λ s. Writes Free (Identifier (chars n.content) ∷ ps) b (Name s f)) i.same (identifier_writes i.scalar i.is w)

pub id_and_name_writes : (n : Named) → IsNamed n → Writes Free (id_and_name_pieces n) Bound (Name n.content End)
unfolding id_and_name_pieces
id_and_name_writes n h = by n.given h.given
  where
    with_note : (s : List ℕ) → IsUtf8 s → (t : Bool) → Writes Free (Identifier (chars n.content) ∷ cond t [] (OneSpace ∷ (NameAnnotation (chars s) ∷ []))) Bound (Name n.content End)
    with_note s g true = name_writes n h nothing_writes
    with_note s g false =
        let i : IsIdentifier n = named_is n h in
        subst (λ t. Writes Free (Identifier (chars n.content) ∷ (OneSpace ∷ (NameAnnotation (chars s) ∷ []))) Bound (Name t End)) i.same
        (noted_identifier_writes i.scalar i.is (scalars-chars s g) free_writes)

    by : (g : Option (List ℕ)) → IsGiven g → Writes Free (Identifier (chars n.content) ∷ given_pieces g n.content) Bound (Name n.content End)
    by None g = name_writes n h nothing_writes
    by (Some s) g = with_note s g (bytes_eq s n.content)

pub leading_id_and_name_writes : (o : Option Named) → IsNamedIfAny o → Writes Bound (leading_id_and_name_pieces o) Bound (id_items o)
unfolding leading_id_and_name_pieces
leading_id_and_name_writes None h = nothing_writes
leading_id_and_name_writes (Some n) h = one_space_writes refl (id_and_name_writes n h)

pub id_and_name_space_writes : (o : Option Named) → IsNamedIfAny o → Writes Free (id_and_name_space_pieces o) Free (id_items o)
unfolding id_and_name_space_pieces
id_and_name_space_writes None h = nothing_writes
id_and_name_space_writes (Some n) h = both_write (id_and_name_writes n h) (one_space_writes refl nothing_writes)

pub identifier_space_writes : (o : Option Named) → IsNamedIfAny o → Writes Free (identifier_space_pieces o) Free (id_items o)
unfolding identifier_space_pieces
identifier_space_writes None h = nothing_writes
identifier_space_writes (Some n) h = name_writes n h (one_space_writes refl nothing_writes)

pub declaration_writes : (o : Option Named) (i : ℕ) → IsNamedIfAny o → i < 2 ^ 64 → Writes Free (declaration_pieces o i) Bound (id_items o)
unfolding declaration_pieces
declaration_writes o i h small =
    let number : Writes Free (IndexComment i ∷ (EndStyle ∷ [])) Bound End = search writing in
    begin_name_writes (rw onto-End at (both_write (id_and_name_space_writes o h) number))

pub index_writes : (o : Option Named) (n : ℕ) → IsNamedIfAny o → n < 2 ^ 64 → Writes Free (index_pieces o n) Bound (index_items o n)
unfolding index_pieces
index_writes None n h small = search writing
index_writes (Some m) n h small = begin_name_writes (name_writes m h (search writing))
