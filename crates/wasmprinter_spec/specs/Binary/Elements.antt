-- The element section (section 5.5 of the standard, "Element Section"): a list of element segments.
use Rattle.std.specs.Prelude.{ℕ, List, Bool, true, false, ◌==◌}
use Rattle.wasmprinter_spec.specs.Grammar.{Grammar, Remainder, seq, map_value, succeed, fail, choose, Placed, value_with_place}
use Rattle.wasmprinter_spec.specs.FirstByte.{only}
use Rattle.wasmprinter_spec.specs.Sized.{alone}
use Rattle.wasmprinter_spec.specs.Name.{u32, vec}
use Rattle.wasmprinter_spec.specs.Types.{RefType, ref_type, Func}
use Rattle.wasmprinter_spec.specs.Operator.{Operator}
use Rattle.wasmprinter_spec.specs.Placed.{ElementMode, Passive, Declared, Active, Items, Functions, Expressions, element_of, ElementEntry, entry_of}
use Rattle.wasmprinter_spec.specs.Instructions.{constant}
use Rattle.wasmprinter_spec.specs.Binary.ValTypes.{reference_type}

-- Active in table 0, which the bytes omit; an offset.
abbrev pub active : Grammar (ElementMode (Placed Operator))
active = map_value (λ offset. Active 0 offset) constant

-- Active: a table and an offset.
abbrev pub active_in : Grammar (ElementMode (Placed Operator))
active_in = map_value (λ (table, offset). Active table offset) (seq u32 (λ _. constant))

-- Function indices.
abbrev pub function_items : Grammar (Items (Placed Operator))
function_items = map_value Functions (vec u32)

-- Function indices after the byte 00, the element kind of functions.
abbrev pub items_of_kind : Grammar (Items (Placed Operator))
items_of_kind = map_value (λ x. x.1) (seq (only 0x00) (λ _. function_items))

-- A list of expressions of the reference type t.
abbrev pub expression_items : RefType → Grammar (Items (Placed Operator))
expression_items t = map_value (Expressions t) (vec constant)

-- A reference type, and a list of expressions of this type.
abbrev pub items_of_type : Grammar (Items (Placed Operator))
items_of_type = map_value (λ x. x.1) (seq reference_type expression_items)

-- An element segment after its flags: a mode and items of these grammars. The first argument says whether the bytes
-- name its table.
abbrev pub segment : Bool → Grammar (ElementMode (Placed Operator)) → Grammar (Items (Placed Operator)) → Grammar ElementEntry
segment names modes contents = map_value (λ (mode, items). entry_of names (element_of mode items)) (seq modes (λ _. contents))

-- An element segment after the flags: bit 0 says that the segment is not active, bit 1 that it is declarative or
-- that it names its table, bit 2 that its items are expressions.
abbrev pub element_after : ℕ → Grammar ElementEntry
element_after flags =
    choose (flags == 0) (segment false active function_items)
    (choose (flags == 1) (segment false (succeed Passive) items_of_kind)
    (choose (flags == 2) (segment true active_in items_of_kind)
    (choose (flags == 3) (segment false (succeed Declared) items_of_kind)
    (choose (flags == 4) (segment false active (expression_items (ref_type true Func)))
    (choose (flags == 5) (segment false (succeed Passive) items_of_type)
    (choose (flags == 6) (segment true active_in items_of_type)
    (choose (flags == 7) (segment false (succeed Declared) items_of_type) fail)))))))

-- An element segment.
abbrev pub element : Grammar ElementEntry
element = map_value (λ x. x.1) (seq u32 element_after)

-- The content of an element section.
abbrev pub element_section : Remainder (List (Placed ElementEntry))
element_section = alone (vec (value_with_place element))
