-- The store, and the entries that were added to it.
use Rattle.std.specs.Prelude.{◌≡◌, ℕ, List, [], ◌∷◌}
use Rattle.std.specs.BTreeSet.{contains}
use Rattle.wasmprinter_spec.specs.Names.Section.{Entry}
use Rattle.wasmprinter_spec.specs.Names.Content.{is_among, entries_in, name_of}
use Rattle.wasmprinter_custom.specs.Views.{given_cmp, items_view, name_at}
use Rattle.wasmprinter_custom.specs.declared.names.Given.{Given}
use Rattle.wasmprinter_custom.specs.declared.names.NamesBuilder.{NamesBuilder}

-- The names of these entries, the last one first, before the names given earlier.
abbrev pub names_given : List (List ℕ) → List Entry → List (List ℕ)
names_given given [] = given
names_given given (e ∷ entries) = names_given (e.name ∷ given) entries

-- The store is as after adding exactly these entries, in this order: it records which names were given, and for each
-- item the name that its last entry gives.
pub record HoldsEntries (entries : List Entry) (b : NamesBuilder) : Type 0 where
  -- `q` is recorded exactly if an entry of its subsection, and of its function or type, gives its name.
  pub given : (q : Given) → contains given_cmp b.given q ≡ is_among q.name.now (names_given [] (entries_in q.subsection q.outer entries))
  -- Each item, by its subsection, function or type, and index, has the name that the entries give it, or none.
  pub names : (s outer index : ℕ) → name_at (items_view b.names) s outer index ≡ name_of entries s outer index
