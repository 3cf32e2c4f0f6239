-- Element segments in the text format (section 6.6 of the standard, "Element Segments"). Two abbreviations are
-- read: an offset or an item that is a single instruction, and an active segment without its table, which is then
-- table 0.
use Rattle.std.specs.Prelude.{ℕ, List, [], ◌∷◌, codes, bytes_eq, Option, Some, None, option_map, if◌then◌else◌}
use Rattle.wasmprinter_spec.specs.Grammar.{◌>>=◌}
use Rattle.wasmprinter_spec.specs.Forest.{Forest, End, Word, Name, Group}
use Rattle.wasmprinter_spec.specs.Operator.{Operator}
use Rattle.wasmprinter_spec.specs.Placed.{ElementMode, Passive, Declared, Active, Items, Functions, Expressions, Element, element_of}
use Rattle.wasmprinter_spec.specs.IndexSpaces.{index, Context}
use Rattle.wasmprinter_spec.specs.Text.Items.{identifier_in_front, leading_item}
use Rattle.wasmprinter_spec.specs.Text.Types.{ref_named, ref_group}
use Rattle.wasmprinter_spec.specs.Text.Expressions.{expression_group}

module _ (c : Context) where
  -- ---- Items

  -- Function indices or identifiers of functions, one after the other.
  abbrev pub function_indices : Forest → Option (List ℕ)
  function_indices End = Some []
  function_indices (Word w f) = index c.spaces.functions (Word w End) >>= λ i. function_indices f >>= λ is. Some (i ∷ is)
  function_indices (Name s f) = index c.spaces.functions (Name s End) >>= λ i. function_indices f >>= λ is. Some (i ∷ is)
  function_indices _ = None

  -- Items of a segment, each in a group, one after the other.
  abbrev pub expressions : Forest → Option (List (List Operator))
  expressions End = Some []
  expressions (Group g f) = expression_group c (codes "item") g >>= λ e. expressions f >>= λ es. Some (e ∷ es)
  expressions _ = None

  -- A reference type, and expressions.
  abbrev pub typed_items : Forest → Option (Items Operator)
  typed_items f = leading_item ref_named (ref_group c.spaces.types) f >>= λ t. option_map (Expressions t.0) (expressions t.1)

  -- The word `func` and function indices, or a reference type and expressions.
  abbrev pub items : Forest → Option (Items Operator)
  items (Word w f) = if bytes_eq w (codes "func") then option_map Functions (function_indices f) else typed_items (Word w f)
  items f = typed_items f

  -- The segment with this mode and these items.
  abbrev pub with_mode : ElementMode Operator → Forest → Option (Element Operator)
  with_mode mode f = option_map (element_of mode) (items f)

  -- ---- Segments

  -- An active segment in table t: an offset in a group, and items.
  abbrev pub active_in : ℕ → Forest → Option (Element Operator)
  active_in t (Group g f) = expression_group c (codes "offset") g >>= λ offset. with_mode (Active t offset) f
  active_in t f = None

  -- A segment without its identifier: passive if the first group is a reference type, active if it is a table or
  -- an offset.
  abbrev pub segment : Forest → Option (Element Operator)
  segment (Word w f) = if bytes_eq w (codes "declare") then with_mode Declared f else with_mode Passive (Word w f)
  segment (Group (Word w g) f) =
      if bytes_eq w (codes "ref") then with_mode Passive (Group (Word w g) f) else
      (if bytes_eq w (codes "table") then index c.spaces.tables g >>= (λ t. active_in t f) else active_in 0 (Group (Word w g) f))
  segment f = None

  -- A segment, which may have an identifier before it.
  abbrev pub read_element : Forest → Option (Element Operator)
  read_element f = segment (identifier_in_front f).1
