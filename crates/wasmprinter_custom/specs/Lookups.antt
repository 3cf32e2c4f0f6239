-- Names in a list, ordered by their keys.
use Rattle.std.specs.Prelude.{◌≡◌, ◌↔◌, ℕ, List, length, Bool, true, false, slice_index_or, Option, Some, None, IsSome, if◌then◌else◌}
use Rattle.std.specs.declared.cmp.Ordering.TheVariants.{Less, Greater}
use Rattle.std.specs.List.{Any, AllWithin}
use Rattle.std.specs.List.Sorted.{IsStrictlySortedBy}
use Rattle.std.specs.Map.{keys_of, lookup}
use Rattle.std.specs.BTreeMap.{is_at}
use Rattle.wasmprinter_custom.specs.Views.{key_cmp}
use Rattle.wasmprinter_custom.specs.declared.names.Key.{Key}
use Rattle.wasmprinter_custom.specs.declared.names.StoredName.{StoredName}

-- The keys are in strictly ascending order.
abbrev pub Ascends : List (Key × StoredName) → Type 0
Ascends entries = IsStrictlySortedBy key_cmp (keys_of entries)

-- The name of a key.
abbrev pub stored_at : List (Key × StoredName) → Key → Option StoredName
stored_at entries key = lookup (is_at (key_cmp key)) entries

-- The key has the given name in the new list, and every other key has the name that it had before.
abbrev pub Gains : List (Key × StoredName) → List (Key × StoredName) → Key → StoredName → Type 0
Gains old new key stored = (q : Key) → stored_at new q ≡ (if is_at (key_cmp key) q then Some stored else stored_at old q)

-- The entries before position i have lower keys than this one.
abbrev pub AllAreBefore : List (Key × StoredName) → ℕ → Key → Type 0
AllAreBefore entries i key = AllWithin (λ e. key_cmp e.0 key ≡ Less) entries 0 i

-- The entries from position i on have higher keys than this one.
abbrev pub AllAreAfter : List (Key × StoredName) → ℕ → Key → Type 0
AllAreAfter entries i key = AllWithin (λ e. key_cmp e.0 key ≡ Greater) entries i (length entries)

-- No key has a name in both lists.
abbrev pub AreDisjoint : List (Key × StoredName) → List (Key × StoredName) → Type 0
AreDisjoint es fs = (q : Key) → IsSome (stored_at es q) → stored_at fs q ≡ None

-- A subsection is marked exactly if an entry belongs to it.
abbrev pub AreUsed : List (Key × StoredName) → List Bool → Type 0
AreUsed entries marks = (s : ℕ) → (slice_index_or marks s false ≡ true) ↔ Any (λ e. e.0.subsection ≡ s) entries
