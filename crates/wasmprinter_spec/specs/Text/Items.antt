-- Helpers that the readers of rows of items share. The standard does not define them.
use Rattle.std.specs.Prelude.{ℕ, List, [], ◌∷◌, ◌++◌, bytes_eq, cond, Option, Some, None, if◌then◌else◌, map}
use Rattle.wasmprinter_spec.specs.Grammar.{◌>>=◌}
use Rattle.wasmprinter_spec.specs.Forest.{Forest, End, Word, Name, Group}
use Rattle.wasmprinter_spec.specs.IndexSpaces.{Identifiers}

-- The first value, or the second one if there is no first.
abbrev pub or_else : {A : Type 0} → Option A → Option A → Option A
or_else (Some a) b = Some a
or_else None b = b

-- The value that the rows give for this word, or None if no row has it.
abbrev pub lookup : {A : Type 0} → List (List ℕ × A) → List ℕ → Option A
lookup [] w = None
lookup (row ∷ rows) w = cond (bytes_eq w row.0) (Some row.1) (lookup rows w)

-- f of each element, if it has a value for each.
abbrev pub each : {A B : Type 0} → (A → Option B) → List A → Option (List B)
each f [] = Some []
each f (x ∷ xs) = f x >>= λ y. each f xs >>= λ ys. Some (y ∷ ys)

-- A single word, read by `read`.
abbrev pub one_word : {A : Type 0} → (List ℕ → Option A) → Forest → Option A
one_word read (Word w End) = read w
one_word read _ = None

-- Items that are words or groups, read by `word` and `group`.
module _ {A : Type 0} (word : List ℕ → Option A) (group : Forest → Option A) where
  -- A single item.
  abbrev pub one_item : Forest → Option A
  one_item (Word w End) = word w
  one_item (Group g End) = group g
  one_item _ = None

  -- Items, one after the other.
  abbrev pub all_items : Forest → Option (List A)
  all_items End = Some []
  all_items (Word w f) = word w >>= λ x. all_items f >>= λ xs. Some (x ∷ xs)
  all_items (Group g f) = group g >>= λ x. all_items f >>= λ xs. Some (x ∷ xs)
  all_items _ = None

-- The first item, read by `word` or `group`, and the items after it.
abbrev pub leading_item : {A : Type 0} → (List ℕ → Option A) → (Forest → Option A) → Forest → Option (A × Forest)
leading_item word group (Word w f) = word w >>= λ x. Some (x, f)
leading_item word group (Group g f) = group g >>= λ x. Some (x, f)
leading_item word group _ = None

-- The identifier, if the first item is one, and the items after it.
abbrev pub identifier_in_front : Forest → Option (List ℕ) × Forest
identifier_in_front (Name s f) = (Some s, f)
identifier_in_front f = (None, f)

-- The value that was read, if no item is left.
abbrev pub value_at_end : {A : Type 0} → A × Forest → Option A
value_at_end (x, End) = Some x
value_at_end (x, _) = None

-- ---- Groups of parameters, results, locals and fields

-- These values before those that were read, and the items after them.
abbrev pub more : {A : Type 0} → List A → Option (List A × Forest) → Option (List A × Forest)
more xs None = None
more xs (Some y) = Some (xs ++ y.0, y.1)

-- The contents of the leading groups with this word, joined, and the items after them.
unfoldable pub groups : {A : Type 0} → (Forest → Option (List A)) → List ℕ → Forest → Option (List A × Forest)
groups read w (Group (Word v g) f) =
    if bytes_eq v w then (read g >>= (λ xs. more xs (groups read w f))) else Some ([], Group (Word v g) f)
groups read w f = Some ([], f)

-- A parameter, a local or a field.
pub record Declaration (A : Type 0) : Type 0 where
  pub id : Option (List ℕ)
  pub type : A

-- The declaration with this identifier, if there is one, and of this type.
abbrev pub declaration : {A : Type 0} → Option (List ℕ) → A → Declaration A
declaration id t = record { id = id; type = t }

-- The element of a list with exactly one.
abbrev pub the_only : {A : Type 0} → List A → Option A
the_only (x ∷ []) = Some x
the_only _ = None

-- One declaration with an identifier, or any number without.
abbrev pub declarations : {A : Type 0} → (Forest → Option (List A)) → Forest → Option (List (Declaration A))
declarations read (Name s f) = read f >>= the_only >>= λ t. Some (declaration (Some s) t ∷ [])
declarations read f = read f >>= λ ts. Some (map (λ t. declaration None t) ts)

-- The identifier of each declaration, if it has one.
abbrev pub ids_of : {A : Type 0} → List (Declaration A) → Identifiers
ids_of ds = map (λ d. d.id) ds

-- The type of each declaration.
abbrev pub types_of : {A : Type 0} → List (Declaration A) → List A
types_of ds = map (λ d. d.type) ds
