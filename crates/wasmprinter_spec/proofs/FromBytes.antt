-- What worked rows compute from bytes: the module that the bytes encode, the module without places, its text, and
-- encoded operators.
use Rattle.std.specs.Prelude.{ℕ, List, [], ◌∷◌, ◌++◌, map, true, false, Option, option_map}
use Rattle.wasmprinter_spec.specs.Grammar.{input}
use Rattle.wasmprinter_spec.specs.Operator.{Operator}
use Rattle.wasmprinter_spec.specs.Instructions.{expression}
use Rattle.wasmprinter_spec.specs.Placed.{PlacedModule}
use Rattle.wasmprinter_spec.specs.Binary.{binary}
use Rattle.wasmprinter_spec.specs.Module.{Module, module_of}
use Rattle.wasmprinter_spec.specs.Call.{text_of}
use Rattle.wasmprinter_spec.specs.Options.{Options, Answers, defaults}
use Rattle.wasmprinter_spec.specs.Layout.{layout}

-- The module that bytes encode
abbrev pub parsed : List ℕ → Option PlacedModule
parsed bytes = binary.parse (input 0 bytes)

-- The module that bytes encode, without places
abbrev pub decoded : List ℕ → Option Module
decoded bytes = option_map module_of (parsed bytes)

-- No custom section is claimed.
abbrev pub unclaimed : Answers
unclaimed = λ n. false

abbrev pub skeleton : Options
skeleton = record defaults { skeleton = true }

-- The text of a module, with no section claimed
abbrev pub text_by : Options → PlacedModule → List ℕ
text_by o m = text_of (layout o unclaimed m)

abbrev pub printed_by : Options → List ℕ → Option (List ℕ)
printed_by o bytes = option_map (text_by o) (parsed bytes)

abbrev pub printed : List ℕ → Option (List ℕ)
printed bytes = printed_by defaults bytes

-- The operators that bytes encode, with the `end` of the expression added
abbrev pub spelled : List ℕ → Option (List Operator)
spelled bytes = option_map (λ x. map (λ o. o.value) x.0.items) (expression.parse (input 0 (bytes ++ 0x0b ∷ [])))
