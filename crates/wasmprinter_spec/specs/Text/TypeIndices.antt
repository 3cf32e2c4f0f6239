-- Type uses where no body follows (section 6.6 of the standard, "Type Uses"): of tags, and of functions and tags
-- that are imported.
use Rattle.std.specs.Prelude.{ℕ, codes, bytes_eq, Option, Some, None, if◌then◌else◌}
use Rattle.wasmprinter_spec.specs.Grammar.{◌>>=◌}
use Rattle.wasmprinter_spec.specs.Forest.{Forest, Word, Group}
use Rattle.wasmprinter_spec.specs.IndexSpaces.{index_space, index, Context}
use Rattle.wasmprinter_spec.specs.Text.Items.{value_at_end}
use Rattle.wasmprinter_spec.specs.Text.Types.{Signature, signature}
use Rattle.wasmprinter_spec.specs.Text.TypeUses.{parameters}

module _ (c : Context) where
  -- The index i, if the signature agrees with the type i and no two of its parameters have the same identifier.
  abbrev pub index_with : ℕ → Signature → Option ℕ
  index_with i s = parameters s (c.signature i) >>= index_space >>= λ _. Some i

  -- The index of a type, with or without a signature after it.
  abbrev pub type_index : Forest → Option ℕ
  type_index (Group (Word w t) f) =
      if bytes_eq w (codes "type")
      then index c.spaces.types t >>= (λ i. signature c.spaces.types f >>= value_at_end >>= index_with i) else None
  type_index _ = None
