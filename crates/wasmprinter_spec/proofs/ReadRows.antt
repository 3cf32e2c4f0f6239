-- Worked rows of the reader (section 6 of the standard): the modules that single texts write.
use Rattle.std.specs.Prelude.{◌≡◌, ℕ, pos, neg_ℤ, List, [], ◌∷◌, ◌++◌, codes, Some, refl}
use Rattle.std.specs.Char.{encode_utf8}
use Rattle.std.specs.Str.{is_utf8, chars}
use Rattle.wasmprinter_spec.specs.Types.{I32, I64, FuncKind}
use Rattle.wasmprinter_spec.specs.Operator.{Empty, OfType, NoImmediates, Block, Index, Operator}
use Rattle.wasmprinter_spec.specs.Table.{table}
use Rattle.wasmprinter_spec.specs.Module.{Module, module_of}
use Rattle.wasmprinter_spec.specs.Character.{class}
use Rattle.wasmprinter_spec.specs.Numeral.{numeral, natural, integer}
use Rattle.wasmprinter_spec.specs.Token.{escape, lex}
use Rattle.wasmprinter_spec.specs.Code.{head}
use Rattle.wasmprinter_spec.specs.Text.Types.{number_of_word}
use Rattle.wasmprinter_spec.specs.Read.{read}
use Rattle.wasmprinter_spec.proofs.Samples.{local_get, local_set, call, drop, return, i32_const, i64_const, empty_placed, empty, identity_placed, identity, identity_text, identity_text_with_offsets, stored_placed, stored, stored_text, mixed_placed, mixed, mixed_using, mixed_text_using, func, made, procedure_text}
use Rattle.wasmprinter_spec.specs.Text.Items.{groups}
use Rattle.wasmprinter_spec.specs.Text.Exports.{kind_of_word}

-- ---- modules without their places

empty_of : module_of empty_placed ≡ empty
empty_of = refl

identity_of : module_of identity_placed ≡ identity
identity_of = refl

stored_of : module_of stored_placed ≡ stored
stored_of = refl

mixed_of : module_of mixed_placed ≡ mixed
mixed_of = refl

-- ---- printed texts

reads_empty : read (codes "(module)\n") ≡ Some empty
unfolding lex class is_utf8 chars encode_utf8
reads_empty = refl

-- An annotation inside another annotation, before the module, has no effect.
reads_empty_after_annotations : read (codes "(@a (@custom \"x\" \"y\")) (module)") ≡ Some empty
unfolding lex class escape is_utf8 chars encode_utf8
reads_empty_after_annotations = refl

reads_empty_with_offsets : read (codes "(module\n(;@8     ;))\n") ≡ Some empty
unfolding lex class is_utf8 chars encode_utf8
reads_empty_with_offsets = refl

reads_identity : read identity_text ≡ Some identity
unfolding lex class numeral natural groups table head is_utf8 chars encode_utf8 number_of_word kind_of_word
reads_identity = refl

reads_identity_with_offsets : read identity_text_with_offsets ≡ Some identity
unfolding lex class numeral natural groups table head is_utf8 chars encode_utf8 number_of_word kind_of_word
reads_identity_with_offsets = refl

reads_stored : read stored_text ≡ Some stored
unfolding lex class numeral natural integer groups table head is_utf8 chars encode_utf8 number_of_word kind_of_word
reads_stored = refl

-- A text reads even if a function that is called or exported does not exist. A type that is used must exist.
reads_mixed : read (mixed_text_using (codes "0")) ≡ Some (mixed_using 0)
unfolding lex class escape numeral natural integer groups table head is_utf8 chars encode_utf8 number_of_word kind_of_word
reads_mixed = refl

-- ---- other texts of the module `identity`

-- Comments, also nested ones, and lines that end in one character or in two
with_comments : read (codes ";;a (\n(;b (; c ;) ) ;)(module;; x )\n (type (func(param i32)(; ( ;)(result i32)));; y\r\n(export \"f\"(func 0));;z)\r(func(type 0)local.get(;;)0))") ≡ Some identity
unfolding lex class numeral natural groups table head is_utf8 chars encode_utf8 number_of_word kind_of_word
with_comments = refl

with_characters : read (codes "(module (; " ++ 0xc3 ∷ 0xa9 ∷ 0x00 ∷ codes " ;)\t(type\r(func (param i32) (result i32))) ;; " ++ 0xf0 ∷ 0x9f ∷ 0x98 ∷ 0x80 ∷ codes "\n(export \"f\" (func 0)) (func (type 0) local.get 0))") ≡ Some identity
unfolding lex class numeral natural groups table head is_utf8 chars encode_utf8 number_of_word kind_of_word
with_characters = refl

-- Annotations. A custom section inside another annotation is not part of the module.
with_notes : read (codes "(@a)(module (@name \"x\") (@a , ; ] [ }} }x{ ({) ,{{};}] ;) (type (func (param (@b) i32) (result i32))) (export (@\"c d\" e) \"f\" (func 0)) (func (type 0) (@producers ($ \"x\" \"1\") (@ \"x\" \"1\") (@custom \"a\" \"b\")) local.get (@c (d (@custom))) 0))") ≡ Some identity
unfolding lex class numeral natural groups table head is_utf8 chars encode_utf8 number_of_word kind_of_word
with_notes = refl

-- Hints are not part of the module, wherever they occur.
with_hints : read (codes "(@metadata.code.branch_hint) (module (@metadata.code.branch_hint x) (type (func (param (@metadata.code.branch_hint) i32) (result i32))) (export \"f\" (func 0)) (func (type 0) (@metadata.code.branch_hint \"\\01\") local.get (@metadata.code.branch_hint \"x\") 0 (@metadata.code.branch_hint)))") ≡ Some identity
unfolding lex class escape numeral natural groups table head is_utf8 chars encode_utf8 number_of_word kind_of_word
with_hints = refl

-- Identifiers, also of items that are declared after their use. Identifiers within a type have no meaning.
with_names : read (codes "(module $m (export \"f\" (func $\"f\")) (func $f (type $\"t\") (param $\"a b\" i32) (result i32) local.get $\"a\\20b\") (type $t (func (param $y i32) (result i32))))") ≡ Some identity
unfolding lex class escape numeral groups table head is_utf8 chars encode_utf8 number_of_word kind_of_word
with_names = refl

-- A folded operator, and groups without types
folded_get : read (codes "(module (type (func (param) (param i32) (param) (result) (result i32))) (func (type 0x0) (param) (local) (local) (local.get 00)) (export \"\\66\" (func 0_0)))") ≡ Some identity
unfolding lex class escape numeral natural groups table head is_utf8 chars encode_utf8 number_of_word kind_of_word
folded_get = refl

-- ---- index spaces

abbrev two_functions : Module
two_functions = record empty {
  types = (func (I32 ∷ I64 ∷ []) [] ∷ []) ∷ (func [] [] ∷ []) ∷ [];
  functions =
      record { type_index = 0; locals = I64 ∷ I32 ∷ I32 ∷ []; operators = local_get 0 ∷ local_get 3 ∷ local_set 1 ∷ local_set 4 ∷ call 1 ∷ [] }
      ∷ record { type_index = 1; locals = []; operators = call 0 ∷ call 1 ∷ [] }
      ∷ [];
  exports = record { name = codes "a"; kind = FuncKind; index = 1 } ∷ record { name = codes "b"; kind = FuncKind; index = 0 } ∷ [];
}

-- Parameters are the first locals.
parameter_names : read (codes "(module (type (func (param i32 i64))) (type $n (func)) (func $f (type 0) (param $p i32) (param i64) (local i64) (local $l i32) (local i32) local.get $p local.get $l local.set 1 local.set 4 call $g) (export \"a\" (func $g)) (func $g (type $n) call $f call $g) (export \"b\" (func $f)))") ≡ Some two_functions
unfolding lex class numeral natural groups table head is_utf8 chars encode_utf8 number_of_word kind_of_word
parameter_names = refl

-- Parameters are the first locals even if only the type declares them.
unwritten_parameters : read (codes "(module (type (func (param i32 i64))) (type (func)) (func $f (type 0) (local i64) (local $l i32) (local i32) local.get 0 local.get $l local.set 1 local.set 4 call 1) (func $g (type 1) call $f call $g) (export \"a\" (func 1)) (export \"b\" (func 0)))") ≡ Some two_functions
unfolding lex class numeral natural groups table head is_utf8 chars encode_utf8 number_of_word kind_of_word
unwritten_parameters = refl

-- The same identifier in spaces of different kinds, and in two functions
shared_identifiers : read (codes "(module $a (type $a (func)) (func $a (type $a) (local $a i32) local.get $a) (func $b (type $a) (local i32) (local $a i32) local.get $a call $a) (export \"a\" (func $a)))")
    ≡ Some (record empty {
      types = (func [] [] ∷ []) ∷ [];
      functions =
          record { type_index = 0; locals = I32 ∷ []; operators = local_get 0 ∷ [] }
          ∷ record { type_index = 0; locals = I32 ∷ I32 ∷ []; operators = local_get 1 ∷ call 0 ∷ [] }
          ∷ [];
      exports = record { name = codes "a"; kind = FuncKind; index = 0 } ∷ [];
    })
unfolding lex class numeral natural groups table head is_utf8 chars encode_utf8 number_of_word kind_of_word
shared_identifiers = refl

-- Identifiers within a type declare nothing.
identifiers_in_type : read (codes "(module (type (func (param $x i32) (param $x i32))) (func (type 0) (local $x i32) local.get $x))")
    ≡ Some (record empty {
      types = (func (I32 ∷ I32 ∷ []) [] ∷ []) ∷ [];
      functions = record { type_index = 0; locals = I32 ∷ []; operators = local_get 2 ∷ [] } ∷ [];
      exports = [];
    })
unfolding lex class numeral natural groups table head is_utf8 chars encode_utf8 number_of_word kind_of_word
identifiers_in_type = refl

-- A signature after the index of a type, which may be declared after its use
signature_beside : read (codes "(module (func (type 1) (param $x i32) (result i32) local.get $x) (type (func)) (type (func (param i32) (result i32))))")
    ≡ Some (record empty {
      types = (func [] [] ∷ []) ∷ (func (I32 ∷ []) (I32 ∷ []) ∷ []) ∷ [];
      functions = record { type_index = 1; locals = []; operators = local_get 0 ∷ [] } ∷ [];
      exports = [];
    })
unfolding lex class numeral natural groups table head is_utf8 chars encode_utf8 number_of_word kind_of_word
signature_beside = refl

-- ---- operators

abbrev procedure : List Operator → Module
procedure os = record empty {
  types = (func [] [] ∷ []) ∷ [];
  functions = record { type_index = 0; locals = I32 ∷ []; operators = os } ∷ [];
  exports = [];
}

every_operator : read (procedure_text (codes "i32.const 1 local.set 0 local.get 0 drop i64.const 2 drop call 0 return"))
    ≡ Some (procedure (i32_const (pos 1) ∷ local_set 0 ∷ local_get 0 ∷ drop ∷ i64_const (pos 2) ∷ drop ∷ call 0 ∷ return ∷ []))
unfolding lex class numeral natural integer groups table head is_utf8 chars encode_utf8 number_of_word kind_of_word
every_operator = refl

-- The operands, each a whole instruction, and then the operator
folded_code : read (procedure_text (codes "(local.set 0 (i32.const 1)) return (drop (call 0 (i64.const 2) (drop (local.get 0)) (i64.const 3))) call 0 (return)"))
    ≡ Some (procedure (i32_const (pos 1) ∷ local_set 0 ∷ return ∷ i64_const (pos 2) ∷ local_get 0 ∷ drop ∷ i64_const (pos 3) ∷ call 0 ∷ drop ∷ call 0 ∷ return ∷ []))
unfolding lex class numeral natural integer groups table head is_utf8 chars encode_utf8 number_of_word kind_of_word
folded_code = refl

-- Labels have a space of their own, and an identifier may be declared twice in it.
label_identifiers : read (codes "(module (type $a (func)) (func $a (type $a) (local $a i32) (block $a (type $a) (loop $a (br $a)) call $a br $a (drop (local.get $a)))))")
    ≡ Some (procedure (made 0x02 (Block (OfType 0)) ∷ made 0x03 (Block Empty) ∷ made 0x0c (Index 0) ∷ made 0x0b NoImmediates ∷ call 0 ∷ made 0x0c (Index 0) ∷ local_get 0 ∷ drop ∷ made 0x0b NoImmediates ∷ []))
unfolding lex class numeral natural groups table head is_utf8 chars encode_utf8 number_of_word kind_of_word
label_identifiers = refl

-- A block may use a type that is declared after it and that has the block's signature.
later_type : read (codes "(module (func (type $f) (local i32) block (type $b) (param i32) br 1 end) (type $f (func)) (type $b (func (param i32))))")
    ≡ Some (record empty {
      types = (func [] [] ∷ []) ∷ (func (I32 ∷ []) [] ∷ []) ∷ [];
      functions = record { type_index = 0; locals = I32 ∷ []; operators = made 0x02 (Block (OfType 1)) ∷ made 0x0c (Index 1) ∷ made 0x0b NoImmediates ∷ [] } ∷ [];
      exports = [];
    })
unfolding lex class numeral natural groups table head is_utf8 chars encode_utf8 number_of_word kind_of_word
later_type = refl

numbers : read (procedure_text (codes "i32.const 0x1_0 i32.const +1 i32.const 1_000 i32.const -0x8000_0000 i32.const 4294967295 i64.const 4294967295 i64.const 0xffff_ffff_ffff_ffff i64.const -9223372036854775808 local.get 0x0 call 4_294_967_295"))
    ≡ Some (procedure (i32_const (pos 16) ∷ i32_const (pos 1) ∷ i32_const (pos 1000) ∷ i32_const (neg_ℤ (pos 2147483648)) ∷ i32_const (neg_ℤ (pos 1))
    ∷ i64_const (pos 4294967295) ∷ i64_const (neg_ℤ (pos 1)) ∷ i64_const (neg_ℤ (pos 9223372036854775808)) ∷ local_get 0 ∷ call 4294967295 ∷ []))
unfolding lex class numeral natural integer groups table head is_utf8 chars encode_utf8 number_of_word kind_of_word
numbers = refl

-- ---- strings

abbrev exported : List ℕ → Module
exported name = record empty { exports = record { name = name; kind = FuncKind; index = 0 } ∷ [] }

escapes : read (codes "(module (export \"\\t\\n\\r\\\"\\'\\\\\\u{1F600}\\66\" (func 0)))") ≡ Some (exported (9 ∷ 10 ∷ 13 ∷ 34 ∷ 39 ∷ 92 ∷ 0xf0 ∷ 0x9f ∷ 0x98 ∷ 0x80 ∷ 0x66 ∷ []))
unfolding lex class escape numeral natural is_utf8 chars encode_utf8 kind_of_word
escapes = refl

-- Escaped bytes that together encode a character
character_of_bytes : read (codes "(module (export \"\\c3\\A9" ++ 0xc3 ∷ 0xa9 ∷ codes "\" (func 0)))") ≡ Some (exported (0xc3 ∷ 0xa9 ∷ 0xc3 ∷ 0xa9 ∷ []))
unfolding lex class escape numeral natural is_utf8 chars encode_utf8 kind_of_word
character_of_bytes = refl
