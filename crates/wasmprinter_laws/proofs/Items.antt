-- Reading rows of items: single items, several items, declarations without identifiers
use Rattle.std.proofs.Common.{◌≡◌, ◌⊎◌, inl, inr, ℕ, ◌<◌, ◌^◌, List, [], ◌∷◌, Option, Some, None, refl, decimal, arith, map}
use Rattle.std.proofs.lemmas.Bool.{lt-ltb}
use Rattle.wasmprinter_spec.specs.Forest.{Forest, End, Word, Group, onto}
use Rattle.wasmprinter_spec.specs.IndexSpaces.{Identifiers, index}
use Rattle.wasmprinter_spec.specs.Text.Items.{one_item, all_items, leading_item, groups, Declaration, declaration, declarations}
use Rattle.wasmprinter_laws.proofs.Tokens.Numbers.{natural-decimal}

-- ---- one item

-- A single word that reads as x
pub record IsReadWord {A : Type 0} (word : List ℕ → Option A) (f : Forest) (x : A) : Type 0 where
  pub name : List ℕ
  pub is : f ≡ Word name End
  pub reads : word name ≡ Some x

-- A single group that reads as x
pub record IsReadGroup {A : Type 0} (group : Forest → Option A) (f : Forest) (x : A) : Type 0 where
  pub held : Forest
  pub is : f ≡ Group held End
  pub reads : group held ≡ Some x

abbrev pub ReadsItem : {A : Type 0} → (List ℕ → Option A) → (Forest → Option A) → Forest → A → Type 0
ReadsItem word group f x = IsReadWord word f x ⊎ IsReadGroup group f x

pub one_item-reads : {A : Type 0} (word : List ℕ → Option A) (group : Forest → Option A) (f : Forest) (x : A) → ReadsItem word group f x → one_item word group f ≡ Some x
one_item-reads word group f x (inl r) = rw (r.is, r.reads)
one_item-reads word group f x (inr r) = rw (r.is, r.reads)

-- An item before other items reads as x, followed by their values.
pub all_items-reads : {A : Type 0} (word : List ℕ → Option A) (group : Forest → Option A) (f : Forest) (x : A) (g : Forest) (xs : List A) → ReadsItem word group f x →
    all_items word group g ≡ Some xs → all_items word group (onto f g) ≡ Some (x ∷ xs)
all_items-reads word group f x g xs (inl r) e = rw (r.is, r.reads, e)
all_items-reads word group f x g xs (inr r) e = rw (r.is, r.reads, e)

-- The first item reads as x, and the items after it are left.
pub leading_item-reads : {A : Type 0} (word : List ℕ → Option A) (group : Forest → Option A) (f : Forest) (x : A) (g : Forest) → ReadsItem word group f x →
    leading_item word group (onto f g) ≡ Some (x, g)
leading_item-reads word group f x g (inl r) = rw (r.is, r.reads)
leading_item-reads word group f x g (inr r) = rw (r.is, r.reads)

-- A decimal number reads as this index, for any declarations.
pub index-decimal : (ids : Identifiers) (n : ℕ) → n < 2 ^ 32 → index ids (Word (decimal n) End) ≡ Some n
index-decimal ids n h = rw (natural-decimal n (omega arith), lt-ltb n (2 ^ 32) h)

-- ---- declarations

-- Parameters, locals and fields without identifiers
abbrev pub unnamed : {A : Type 0} → List A → List (Declaration A)
unnamed xs = map (declaration None) xs

-- Declarations that start with an item of their type have no identifier.
pub declarations-items : {A : Type 0} (read : Forest → Option (List A)) (word : List ℕ → Option A) (group : Forest → Option A) (f : Forest) (x : A) (g : Forest) (xs : List A) →
    ReadsItem word group f x → read (onto f g) ≡ Some xs → declarations read (onto f g) ≡ Some (unnamed xs)
declarations-items read word group f x g xs (inl r) e = let e2 : read (Word r.name g) ≡ Some xs = rw r.is at e in rw (r.is, e2)
declarations-items read word group f x g xs (inr r) e = let e2 : read (Group r.held g) ≡ Some xs = rw r.is at e in rw (r.is, e2)

-- ---- groups

-- An empty row of items contains no groups.
pub no_groups : {A : Type 0} (read : Forest → Option (List A)) (w : List ℕ) → groups read w End ≡ Some ([], End)
unfolding groups
no_groups read w = refl
