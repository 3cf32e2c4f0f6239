-- The program's values with expressions, and the values of the definitions that they represent. How element segments
-- are encoded after their flags, with the mode and the items separate.
use Rattle.std.specs.Prelude.{ℕ, List, map, Bool, true, not, ◌&&◌, Option, Some, None}
use Rattle.std.specs.Borrow.{Bor}
use Rattle.wasmprinter_spec.specs.Grammar.{Grammar, Placed, succeed, choose}
use Rattle.wasmprinter_spec.specs.Types.{ref_type, Func}
use Rattle.wasmprinter_spec.specs.Operator.{Operator}
use Rattle.wasmprinter_spec.specs.Instructions.{Closed}
use Rattle.wasmprinter_spec.specs.Placed.{ElementMode as DefinedElementMode, Passive, Declared, Active, Items, Functions, Expressions, PassiveData, ActiveData}
use Rattle.wasmprinter_spec.specs.Placed.{DataMode as DefinedDataMode}
use Rattle.wasmprinter_spec.specs.Binary.Limits.{has_bit}
use Rattle.wasmprinter_spec.specs.Binary.Elements.{active, active_in, function_items, items_of_kind, expression_items, items_of_type}
use Rattle.wasmprinter_ops.specs.ValTypes.{ref_view}
use Rattle.wasmprinter_decoder.specs.declared.elements.ElementMode.{ElementMode}
use Rattle.wasmprinter_decoder.specs.declared.elements.ElementMode.TheVariants as m
use Rattle.wasmprinter_decoder.specs.declared.elements.ElementItems.{ElementItems}
use Rattle.wasmprinter_decoder.specs.declared.elements.ElementItems.TheVariants as i
use Rattle.wasmprinter_decoder.specs.declared.data_segments.DataMode.{DataMode}
use Rattle.wasmprinter_decoder.specs.declared.data_segments.DataMode.TheVariants as d

-- The operators of an expression, without the place of the `end` after them.
abbrev pub Constant : Type 0
Constant = List (Placed Operator)

-- The operators of an expression, and those of each of several (`constants_of`).
abbrev pub constant_of : Closed (Placed Operator) → Constant
constant_of e = e.items

abbrev pub constants_of : List (Closed (Placed Operator)) → List Constant
constants_of es = map constant_of es

-- The operators of a table's initialiser, if it has one, without the place of their `end`.
abbrev pub init_of : Option (Closed (Placed Operator)) → Option Constant
init_of None = None
init_of (Some e) = Some (constant_of e)

-- The operators of a borrowed initialiser of a table, if there is one, without the place of their `end`.
abbrev pub init_view : Option (Bor (Closed (Placed Operator))) → Option Constant
init_view None = None
init_view (Some e) = Some (constant_of e.now)

-- The mode of an element segment. Its offset is given by its operators, without the place of their `end`.
abbrev pub element_mode_view : ElementMode → DefinedElementMode (Placed Operator)
element_mode_view m.Passive = Passive
element_mode_view m.Declared = Declared
element_mode_view (m.Active table offset) = Active table (constant_of offset)

-- The items of an element segment. Expressions are given by their operators, without the place of their `end`.
abbrev pub element_items_view : ElementItems → Items (Placed Operator)
element_items_view (i.Functions is) = Functions is
element_items_view (i.Expressions t es) = Expressions (ref_view t) (constants_of es.items)

-- The mode of a data segment. Its offset is given by its operators, without the place of their `end`.
abbrev pub data_mode_view : DataMode → DefinedDataMode (Placed Operator)
data_mode_view d.Passive = PassiveData
data_mode_view (d.Active memory offset) = ActiveData memory (constant_of offset)

-- ---- Element segments after their flags, which are below 8

-- The flags, bit by bit. Bit 0 (`is_inactive`) is set if the segment is passive or declarative, and clear if it is
-- active. Bit 1 (`is_explicit`) is set if an active segment has an explicit table index, or if an inactive one is
-- declarative. Bit 2 (`holds_expressions`) is set if the items are expressions, and clear if they are function
-- indices.
abbrev pub is_inactive : ℕ → Bool
is_inactive flags = has_bit 0 flags

abbrev pub is_explicit : ℕ → Bool
is_explicit flags = has_bit 1 flags

abbrev pub holds_expressions : ℕ → Bool
holds_expressions flags = has_bit 2 flags

-- The flags of a segment with an explicit table index.
abbrev pub has_table_index : ℕ → Bool
has_table_index flags = not (is_inactive flags) && is_explicit flags

-- The flags of a segment in which neither the kind nor the type of the items is written; the
-- items are then functions.
abbrev pub omits_kind : ℕ → Bool
omits_kind flags = not (is_inactive flags) && not (is_explicit flags)

-- The mode of the segment.
abbrev pub mode_by : ℕ → Grammar (DefinedElementMode (Placed Operator))
mode_by flags =
    choose (is_inactive flags) (choose (is_explicit flags) (succeed Declared) (succeed Passive))
    (choose (is_explicit flags) active_in active)

-- The items of the segment.
abbrev pub items_by : ℕ → Grammar (Items (Placed Operator))
items_by flags =
    choose (holds_expressions flags) (choose (omits_kind flags) (expression_items (ref_type true Func)) items_of_type)
    (choose (omits_kind flags) function_items items_of_kind)
