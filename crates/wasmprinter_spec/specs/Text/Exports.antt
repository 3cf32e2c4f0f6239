-- Exports in the text format (section 6.6 of the standard, "Exports").
use Rattle.std.specs.Prelude.{ℕ, List, [], ◌∷◌, codes, Option, Some, None, if◌then◌else◌}
use Rattle.std.specs.Str.{is_utf8}
use Rattle.wasmprinter_spec.specs.Grammar.{◌>>=◌}
use Rattle.wasmprinter_spec.specs.Forest.{Forest, End, Word, String, Group}
use Rattle.wasmprinter_spec.specs.Types.{ExternKind, FuncKind, TableKind, MemoryKind, GlobalKind, TagKind}
use Rattle.wasmprinter_spec.specs.Placed.{Export}
use Rattle.wasmprinter_spec.specs.Indexed.{space_of}
use Rattle.wasmprinter_spec.specs.IndexSpaces.{index, space_in, Context}
use Rattle.wasmprinter_spec.specs.Text.Items.{lookup}

-- The kind of an exported or imported item by its word, or `None` for any other word.
unfoldable pub kind_of_word : List ℕ → Option ExternKind
kind_of_word w =
    lookup (
    (codes "func", FuncKind) ∷ (codes "table", TableKind) ∷ (codes "memory", MemoryKind)
    ∷ (codes "global", GlobalKind) ∷ (codes "tag", TagKind) ∷ []) w

module _ (c : Context) where
  -- The export with the name s of the item of this kind that f names.
  abbrev pub export_of : List ℕ → Forest → ExternKind → Option Export
  export_of s f kind = index (space_in c.spaces (space_of kind)) f >>= λ i. Some (record { name = s; kind = kind; index = i })

  -- An export: a name, which must be UTF-8, and a group with the word of the kind and an index.
  abbrev pub read_export : Forest → Option Export
  read_export (String s (Group (Word w f) End)) = if is_utf8 s then kind_of_word w >>= export_of s f else None
  read_export _ = None
