-- Globals in the text format (section 6.4 of the standard, "Global Types"; section 6.6, "Globals"). A global with
-- an inline export is an abbreviation that is not read.
use Rattle.std.specs.Prelude.{ℕ, true, false, List, codes, bytes_eq, Option, Some, None, option_map, if◌then◌else◌}
use Rattle.wasmprinter_spec.specs.Grammar.{◌>>=◌}
use Rattle.wasmprinter_spec.specs.Forest.{Forest, Word}
use Rattle.wasmprinter_spec.specs.Types.{GlobalType, global_type_of}
use Rattle.wasmprinter_spec.specs.Operator.{Operator}
use Rattle.wasmprinter_spec.specs.Placed.{Global, global_of}
use Rattle.wasmprinter_spec.specs.IndexSpaces.{Context}
use Rattle.wasmprinter_spec.specs.Text.Items.{identifier_in_front, leading_item}
use Rattle.wasmprinter_spec.specs.Text.Types.{val_named, val_group, val_type}
use Rattle.wasmprinter_spec.specs.Text.Expressions.{expression}

-- The type of an immutable global, by a single word.
abbrev pub global_named : List ℕ → Option GlobalType
global_named w = option_map (global_type_of false) (val_named w)

module _ (c : Context) where
  -- A global type in parentheses: that of a mutable global, or a reference type.
  abbrev pub global_group : Forest → Option GlobalType
  global_group (Word w f) =
      if bytes_eq w (codes "mut") then option_map (global_type_of true) (val_type c.spaces.types f)
      else option_map (global_type_of false) (val_group c.spaces.types (Word w f))
  global_group _ = None

  -- A global type, and the items after it.
  abbrev pub global_type : Forest → Option (GlobalType × Forest)
  global_type f = leading_item global_named global_group f

  -- A global, which may have an identifier before it.
  abbrev pub read_global : Forest → Option (Global Operator)
  read_global f = global_type (identifier_in_front f).1 >>= λ t. expression c t.1 >>= λ os. Some (global_of t.0 os)
