-- The state of the labels between two operators of an expression.
use Rattle.std.specs.Prelude.{ℕ, suc, List, [], ◌∷◌, length, Bool}
use Rattle.wasmprinter_spec.specs.Row.{Role}
use Rattle.wasmprinter_spec.specs.Labels.{Label, labels_after, count_after, labels_outside, labels_inside}
use Rattle.wasmprinter_spec.specs.Names.{Names, names_by}
use Rattle.wasmprinter_custom.specs.Views.{NamedItem, name_at}
use Rattle.wasmprinter_custom.specs.declared.item_identifiers.Identifiers.{Identifiers}
use Rattle.wasmprinter_flat.specs.OpenLabels.Found.{Found, found_among}

-- The state of the labels.
pub record LabelState : Type 0 where
  -- The names of the module.
  pub item_names : List NamedItem
  -- Identifiers are synthesized for items without a name.
  pub synthesizes : Bool
  -- The index of the function whose labels the expression uses.
  pub function : ℕ
  -- The number of blocks that were opened in the expression, also of those that are closed again.
  pub count : ℕ
  -- The label of each open block, innermost first: its identifier, or `None` if it has none.
  pub labels : List Label

-- The identifiers of the module.
abbrev pub names_of : LabelState → Names
names_of s = names_by s.synthesizes (name_at s.item_names)

-- The identifier of the block that would be opened next, if it has one: the block with the number `count`, inside all
-- open blocks.
abbrev pub own_label : LabelState → Label
own_label s = (names_of s).labels s.function s.count (length s.labels)

-- The state at the start of an expression of function f, with these names.
abbrev pub state_from : List NamedItem → Bool → ℕ → LabelState
state_from item_names synthesizes f = record { item_names = item_names; synthesizes = synthesizes; function = f; count = 0; labels = [] }

-- The state at the start of an expression of function f, with the names of these identifiers.
abbrev pub at_start : Identifiers → ℕ → LabelState
at_start x f = state_from x.names.now x.synthesizes f

-- The state at the start of an expression of function f, with the names of a given state.
abbrev pub at_start_again : ℕ → LabelState → LabelState
at_start_again f s = state_from s.item_names s.synthesizes f

-- The state after an operator that opens a block.
abbrev pub after_opening : LabelState → LabelState
after_opening s =
    record { item_names = s.item_names; synthesizes = s.synthesizes; function = s.function; count = suc s.count; labels = own_label s ∷ s.labels }

-- The list without its first label.
abbrev pub without_first : List Label → List Label
without_first [] = []
without_first (x ∷ xs) = xs

-- The state after an operator that closes a block.
abbrev pub after_closing : LabelState → LabelState
after_closing s = record { item_names = s.item_names; synthesizes = s.synthesizes; function = s.function; count = s.count; labels = without_first s.labels }

-- The state after an operator with the role: a block that it opens is counted, and its label comes first. `end` and
-- `delegate` remove the first label, if there is one.
abbrev pub after_operator : Role → LabelState → LabelState
after_operator role s = record {
  item_names = s.item_names;
  synthesizes = s.synthesizes;
  function = s.function;
  count = count_after role s.count;
  labels = labels_after role (own_label s) s.labels;
}

-- The meaning of a label index in an operator with the role. The index counts from `labels_outside`. The labels of
-- `labels_inside`, of which only `delegate` has one, still shadow equal names.
abbrev pub found_at : Role → LabelState → ℕ → Found
found_at role s l = found_among (labels_inside role s.labels) (labels_outside role s.labels) l
