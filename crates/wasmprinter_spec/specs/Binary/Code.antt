-- The code section (section 5.5 of the standard, "Code Section"): a list of function bodies, each after its size.
use Rattle.std.specs.Prelude.{List}
use Rattle.wasmprinter_spec.specs.Grammar.{Grammar, Remainder, seq, map_value, Placed, value_with_place}
use Rattle.wasmprinter_spec.specs.Sized.{exactly, alone}
use Rattle.wasmprinter_spec.specs.Name.{u32, vec}
use Rattle.wasmprinter_spec.specs.Binary.ValTypes.{val_type}
use Rattle.wasmprinter_spec.specs.Operator.{Operator}
use Rattle.wasmprinter_spec.specs.Instructions.{Closed, expression}
use Rattle.wasmprinter_spec.specs.Placed.{LocalEntry, Body}

-- A group of locals: their number and their type.
abbrev pub local_entry : Grammar LocalEntry
local_entry = map_value (λ x. record { count = x.0; type = x.1 }) (seq u32 (λ _. val_type))

-- The body with these locals, and with the operators and the `end` of this expression.
abbrev pub body_from : List (Placed LocalEntry) → Closed (Placed Operator) → Body
body_from locals code = record { locals = locals; operators = code.items; end = code.end }

-- A function body: locals and an expression.
abbrev pub body : Grammar Body
body = map_value (λ x. body_from x.0 x.1) (seq (vec (value_with_place local_entry)) (λ _. expression))

-- A size, and a body of exactly that many bytes.
abbrev pub code_entry : Grammar (Placed Body)
code_entry = map_value (λ x. x.1) (seq u32 (λ size. exactly (alone (value_with_place body)) size))

-- The content of a code section.
abbrev pub code_section : Remainder (List (Placed Body))
code_section = alone (vec code_entry)
