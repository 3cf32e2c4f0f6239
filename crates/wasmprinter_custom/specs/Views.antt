-- The names that the names in the store represent.
use Rattle.std.specs.Prelude.{ℕ, List, [], ◌∷◌, map, ◌&&◌, ◌==◌, Option, Some, None, if◌then◌else◌}
use Rattle.std.specs.declared.string.String.{String}
use Rattle.std.specs.declared.cmp.Ordering.{Ordering}
use Rattle.std.specs.Ordering.{nat_cmp, ordering_then}
use Rattle.std.specs.Cmp.Lexicographic.{slice_cmp}
use Rattle.std.specs.String.{string_bytes}
use Rattle.wasmprinter_spec.specs.Labels.{Named}
use Rattle.wasmprinter_custom.specs.declared.names.Given.{Given}
use Rattle.wasmprinter_custom.specs.declared.names.Key.{Key}
use Rattle.wasmprinter_custom.specs.declared.names.Name.{Name}
use Rattle.wasmprinter_custom.specs.declared.names.StoredName.{StoredName}

-- The order of given names: by the subsection, then by the function or type, then by the name.
abbrev pub given_cmp : Given → Given → Ordering
given_cmp a b =
    ordering_then (nat_cmp a.subsection b.subsection) (ordering_then (nat_cmp a.outer b.outer) (slice_cmp nat_cmp a.name.now b.name.now))

-- The order of items: by the subsection, then by the function or type, then by the index.
abbrev pub key_cmp : Key → Key → Ordering
key_cmp a b = ordering_then (nat_cmp a.subsection b.subsection) (ordering_then (nat_cmp a.outer b.outer) (nat_cmp a.index b.index))

-- The text if there is one, and otherwise the name.
abbrev pub content_or : {Z : Type 0} → Option (String Z) → List ℕ → List ℕ
content_or (Some text) name = string_bytes text
content_or None name = name

-- The name that an entry of the store represents, with the content of its identifier.
abbrev pub stored_view : StoredName → Named
stored_view n = record { given = Some n.given.now; content = content_or n.marked n.given.now }

-- The name that a lookup in the store returns, with the content of its identifier.
abbrev pub name_view : Name → Named
name_view n = record { given = Some n.given.now; content = n.content.now }

-- A named item: the id of its subsection, its function or type (0 for items of neither), its index, and its name.
pub record NamedItem : Type 0 where
  pub subsection : ℕ
  pub outer : ℕ
  pub index : ℕ
  pub name : Named

-- The named item that an entry of the store represents. `items_view` gives those of all entries.
abbrev pub item_view : Key × StoredName → NamedItem
item_view e = record { subsection = e.0.subsection; outer = e.0.outer; index = e.0.index; name = stored_view e.1 }

abbrev pub items_view : List (Key × StoredName) → List NamedItem
items_view names = map item_view names

-- The name of the item with this subsection, function or type (0 for items of neither), and index; `None` if it has
-- none.
abbrev pub name_at : List NamedItem → ℕ → ℕ → ℕ → Option Named
name_at [] s outer index = None
name_at (x ∷ xs) s outer index =
    if (x.subsection == s && x.outer == outer) && x.index == index then Some x.name
    else name_at xs s outer index
