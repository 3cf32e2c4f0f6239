-- Worked rows: a module with a name section, from its bytes to its text and from the text to the module.
use Rattle.std.specs.Prelude.{◌≡◌, ℕ, List, [], ◌∷◌, ◌++◌, Bool, true, false, codes, Option, Some, option_map, refl}
use Rattle.wasmprinter_spec.specs.Grammar.{input}
use Rattle.wasmprinter_spec.specs.Types as types
use Rattle.wasmprinter_spec.specs.Operator.{opcode, Index}
use Rattle.wasmprinter_spec.specs.Module.{Module}
use Rattle.wasmprinter_spec.specs.Binary.{binary}
use Rattle.wasmprinter_spec.specs.Call.{text_of}
use Rattle.wasmprinter_spec.specs.Options.{defaults}
use Rattle.wasmprinter_spec.specs.Layout.{layout}
use Rattle.wasmprinter_spec.specs.Read.{read}
use Rattle.wasmprinter_spec.proofs.Computing.{composing, reading}
use Rattle.wasmprinter_spec.proofs.Samples.{head_bytes, lines, func, empty}

-- A function with two parameters and two locals. Names are given to the module, to the function, to both parameters
-- (the same name) and to the last local.
abbrev named_bytes : List ℕ
named_bytes =
    head_bytes
    ++ (0x01 ∷ 0x07 ∷ 0x01 ∷ 0x60 ∷ 0x02 ∷ 0x7f ∷ 0x7e ∷ 0x01 ∷ 0x7f ∷ [])
    ++ (0x03 ∷ 0x02 ∷ 0x01 ∷ 0x00 ∷ [])
    ++ (0x0a ∷ 0x08 ∷ 0x01 ∷ 0x06 ∷ 0x01 ∷ 0x02 ∷ 0x7f ∷ 0x20 ∷ 0x03 ∷ 0x0b ∷ [])
    ++ (0x00 ∷ 0x1d ∷ 0x04 ∷ codes "name")
    ++ (0x00 ∷ 0x02 ∷ 0x01 ∷ codes "m")
    ++ (0x01 ∷ 0x04 ∷ 0x01 ∷ 0x00 ∷ 0x01 ∷ codes "f")
    ++ (0x02 ∷ 0x0c ∷ 0x01 ∷ 0x00 ∷ 0x03 ∷ 0x00 ∷ 0x01 ∷ codes "a" ++ (0x01 ∷ 0x01 ∷ codes "a") ++ (0x03 ∷ 0x01 ∷ codes "x"))

abbrev printed : Bool → Option (List ℕ)
printed synthesizes = option_map (λ m. text_of (layout (record defaults { synthesizes = synthesizes }) (λ n. false) m)) (binary.parse (input 0 named_bytes))

abbrev named_text : List ℕ
named_text = lines (
    codes "(module $m"
    ∷ codes "  (type (;0;) (func (param i32 i64) (result i32)))"
    ∷ codes "  (func $f (;0;) (type 0) (param $a i32) (param $\"#local1 a\" (@name \"a\") i64) (result i32)"
    ∷ codes "    (local i32) (local $x i32)"
    ∷ codes "    local.get $x"
    ∷ codes "  )"
    ∷ codes ")"
    ∷ [])

named_printed : printed false ≡ Some named_text
unfolding composing reading
named_printed = refl

synthesized_text : List ℕ
synthesized_text = lines (
    codes "(module $m"
    ∷ codes "  (type $#type0 (;0;) (func (param i32 i64) (result i32)))"
    ∷ codes "  (func $f (;0;) (type $#type0) (param $a i32) (param $\"#local1 a\" (@name \"a\") i64) (result i32)"
    ∷ codes "    (local $#local2 i32) (local $x i32)"
    ∷ codes "    local.get $x"
    ∷ codes "  )"
    ∷ codes ")"
    ∷ [])

synthesized_printed : printed true ≡ Some synthesized_text
unfolding composing reading synthesized_text
synthesized_printed = refl

abbrev named_module : Module
named_module = record empty {
  types = (func (types.I32 ∷ types.I64 ∷ []) (types.I32 ∷ []) ∷ []) ∷ [];
  functions = record {
    type_index = 0;
    locals = types.I32 ∷ types.I32 ∷ [];
    operators = record { opcode = opcode 0 0x20; immediates = Index 3 } ∷ [];
  } ∷ [];
}

named_read : read named_text ≡ Some named_module
unfolding reading
named_read = refl

synthesized_read : read synthesized_text ≡ Some named_module
unfolding reading synthesized_text
synthesized_read = refl
