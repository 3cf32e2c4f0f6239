-- Worked rows of the reader (section 6 of the standard): texts that write no module.
use Rattle.std.specs.Prelude.{◌≡◌, ℕ, List, [], ◌∷◌, ◌++◌, map, codes, refl}
use Rattle.std.specs.Char.{encode_utf8}
use Rattle.std.specs.Str.{is_utf8, chars}
use Rattle.wasmprinter_spec.specs.Table.{table}
use Rattle.wasmprinter_spec.specs.Character.{class}
use Rattle.wasmprinter_spec.specs.Numeral.{numeral, natural, integer}
use Rattle.wasmprinter_spec.specs.Token.{escape, lex}
use Rattle.wasmprinter_spec.specs.Code.{head}
use Rattle.wasmprinter_spec.specs.Text.Types.{heap_of_word, ref_of_word, number_of_word, packed_of_word}
use Rattle.wasmprinter_spec.specs.Text.Items.{groups}
use Rattle.wasmprinter_spec.specs.Read.{read}
use Rattle.wasmprinter_spec.specs.Text.Exports.{kind_of_word}
use Rattle.wasmprinter_spec.proofs.Samples.{mixed_text, procedure_text}
use Rattle.wasmprinter_spec.proofs.Numbers.{numbers_from}
use Rattle.wasmprinter_spec.specs.Text.Customs.{section_of_word}

-- The numbers, from 0, of the texts in this list that write a module
abbrev pub numbers_read : List (List ℕ) → List ℕ
numbers_read ts = numbers_from read 0 ts

-- A text that reads is counted.
read_among : numbers_read (codes "(module" ∷ codes "(module)" ∷ codes "module" ∷ codes "(module (type (func)))" ∷ []) ≡ 1 ∷ 3 ∷ []
unfolding lex class escape numeral natural integer groups table head is_utf8 chars encode_utf8 heap_of_word ref_of_word number_of_word packed_of_word kind_of_word
read_among = refl

-- Unbalanced parentheses, more than one module, or no module
unread_groups : numbers_read (
    codes "module"
    ∷ codes "()"
    ∷ codes "(module"
    ∷ codes "(module))"
    ∷ codes "(module ()"
    ∷ codes "(module ())"
    ∷ codes "(module) (type (func)))"
    ∷ codes "(module)(module)"
    ∷ codes "(module) module"
    ∷ codes "((module))"
    ∷ codes "(modules)"
    ∷ []) ≡ []
unfolding lex class escape numeral natural integer groups table head is_utf8 chars encode_utf8 heap_of_word ref_of_word number_of_word packed_of_word kind_of_word
unread_groups = refl

-- Strings and comments that are not closed, signs without a meaning outside annotations, and characters that are
-- allowed only in comments
unread_tokens : numbers_read (
    codes "(module (export \"f (func 0)))"
    ∷ codes "(module (; )"
    ∷ codes "(module (; (; ;) )"
    ∷ codes "(module ;; )"
    ∷ codes "(module (@a)"
    ∷ codes "(module $)"
    ∷ codes "(module $\"\")"
    ∷ codes "(module $\"\\ff\")"
    ∷ codes "(module ,)"
    ∷ codes "(module ;)"
    ∷ codes "(module [])"
    ∷ codes "(module {})"
    ∷ codes "(module (@))"
    ∷ codes "(module (@ a))"
    ∷ (codes "(module" ++ 0x0c ∷ codes ")")
    ∷ (codes "(module" ++ 0x00 ∷ codes ")")
    ∷ (codes "(module " ++ 0xc3 ∷ 0xa9 ∷ codes ")")
    ∷ (codes "(module (; " ++ 0xff ∷ codes " ;))")
    ∷ []) ≡ []
unfolding lex class escape numeral natural integer groups table head is_utf8 chars encode_utf8 heap_of_word ref_of_word number_of_word packed_of_word kind_of_word
unread_tokens = refl

-- Two tokens that touch
unread_touching : numbers_read (
    codes "(module (export \"a\"\"b\" (func 0)))"
    ∷ codes "(module (export\"a\" (func 0)))"
    ∷ codes "(module $\"a\"(export $a\"a\" (func 0)))"
    ∷ codes "(module (type (func)) (func (type 0) (param i32$x)))"
    ∷ codes "(module (type (func (param i32))) (func (type 0) (param $x i32) local.get$x))"
    ∷ codes "(module (type (func)) (func (type 0) (local $\"x\"i32)))"
    ∷ []) ≡ []
unfolding lex class escape numeral natural integer groups table head is_utf8 chars encode_utf8 heap_of_word ref_of_word number_of_word packed_of_word kind_of_word
unread_touching = refl

-- A custom section without a place, with an unknown place, and with items other than strings or no name
unread_customs : numbers_read (
    codes "(module (@custom \"a\" \"b\"))"
    ∷ codes "(module (@custom \"a\" (before func) \"b\"))"
    ∷ codes "(module (@custom \"a\" (after first) \"b\"))"
    ∷ codes "(module (@custom \"a\" (after custom) \"b\"))"
    ∷ codes "(module (@custom \"a\" (before first) b))"
    ∷ codes "(module (@custom (before first) \"b\"))"
    ∷ []) ≡ []
unfolding lex class escape numeral natural integer groups table head is_utf8 chars encode_utf8 heap_of_word ref_of_word number_of_word packed_of_word kind_of_word section_of_word
unread_customs = refl

unread_fields : numbers_read (
    codes "(module (functions 1))"
    ∷ codes "(module type)"
    ∷ codes "(module \"m\")"
    ∷ codes "(module $m $n)"
    ∷ codes "(module (type))"
    ∷ codes "(module (type (func) (func)))"
    ∷ codes "(module (type $a $b (func)))"
    ∷ codes "(module (type (func (result i32) (param i32))))"
    ∷ codes "(module (type (func (param i33))))"
    ∷ codes "(module (type (func (param $a i32 i32))))"
    ∷ codes "(module (type (func (param $a))))"
    ∷ codes "(module (type (func (result $a i32))))"
    ∷ codes "(module (type (func i32)))"
    ∷ codes "(module (export (func 0)))"
    ∷ codes "(module (export \"f\"))"
    ∷ codes "(module (export \"f\" (func 0) (func 0)))"
    ∷ codes "(module (export \"f\" (type 0)))"
    ∷ codes "(module (export \"\\ff\" (func 0)))"
    ∷ []) ≡ []
unfolding lex class escape numeral natural integer groups table head is_utf8 chars encode_utf8 heap_of_word ref_of_word number_of_word packed_of_word kind_of_word
unread_fields = refl

-- Numbers beyond 32 bits, and identifiers that are not declared exactly once in their space
unread_indices : numbers_read (
    codes "(module (export \"f\" (func 4294967296)))"
    ∷ codes "(module (export \"f\" (func +0)))"
    ∷ codes "(module (export \"f\" (func -0)))"
    ∷ codes "(module (export \"f\" (func 0 0)))"
    ∷ codes "(module (export \"f\" (func \"0\")))"
    ∷ codes "(module (export \"f\" (func)))"
    ∷ codes "(module (export \"f\" (func $f)))"
    ∷ codes "(module (type (func)) (func $f (type 0)) (export \"f\" (func $ f)))"
    ∷ codes "(module (type (func)) (func $f (type 0)) (func $f (type 0)) (export \"f\" (func $f)))"
    ∷ codes "(module (type (func)) (func $f (type 0)) (func $\"f\" (type 0)) (export \"f\" (func $f)))"
    ∷ codes "(module (type (func (param i32))) (func (type 0) (param $x i32) (local $x i32) local.get $x))"
    ∷ codes "(module (type (func (param i32))) (func (type 0) (param $x i32)) (func (type 0) local.get $x))"
    ∷ codes "(module (type (func (param $x i32))) (func (type 0) local.get $x))"
    ∷ codes "(module (type (func)) (func $f (type 0)) (func (type $f)))"
    ∷ codes "(module (type (func)) (func $f (type 0) (local $l i32) call $l))"
    ∷ []) ≡ []
unfolding lex class escape numeral natural integer groups table head is_utf8 chars encode_utf8 heap_of_word ref_of_word number_of_word packed_of_word kind_of_word
unread_indices = refl

-- An identifier that is declared twice in one space and is not used
unread_identifiers : numbers_read (
    codes "(module (type $t (func)) (type $t (func)))"
    ∷ codes "(module (type $t (func)) (type (func)) (type $u (func)) (type $\"t\" (func (param i32))))"
    ∷ codes "(module (type (func)) (type $t (func)) (type $t (func)))"
    ∷ codes "(module (type $s (func)) (type $t (func)) (type $t (func)))"
    ∷ codes "(module (type (func)) (func $f (type 0)) (func $f (type 0)))"
    ∷ codes "(module (type (func)) (func $f (type 0)) (func (type 0)) (func $g (type 0)) (func $\"\\66\" (type 0)))"
    ∷ codes "(module (type (func (param i32))) (func (type 0) (param $x i32) (local $x i64)))"
    ∷ codes "(module (type (func (param i32 i32))) (func (type 0) (param $x i32) (param $x i32)))"
    ∷ codes "(module (type (func)) (func (type 0) (local $x i32) (local i32) (local $x i32)))"
    ∷ codes "(module (type (func (param i32))) (func (type 0) (local i32) (local $x i32) (local $x i32)))"
    ∷ []) ≡ []
unfolding lex class escape numeral natural integer groups table head is_utf8 chars encode_utf8 heap_of_word ref_of_word number_of_word packed_of_word kind_of_word
unread_identifiers = refl

-- A signature after a type index must be complete and in order.
unread_signatures : numbers_read (
    codes "(module (type (func (param i32))) (func (type 0) (param i64)))"
    ∷ codes "(module (type (func)) (func (type 0) (param i32)))"
    ∷ codes "(module (type (func (param i32 i32))) (func (type 0) (param i32)))"
    ∷ codes "(module (type (func (param i32 i64))) (func (type 0) (param i64 i32)))"
    ∷ codes "(module (type (func (param i32) (result i32))) (func (type 0) (param i32)))"
    ∷ codes "(module (type (func (param i32) (result i32))) (func (type 0) (result i32)))"
    ∷ codes "(module (type (func (param i32) (result i32))) (func (type 0) (result i32) (param i32)))"
    ∷ codes "(module (type (func (param i32))) (func (type 0) (local i32) (param i32)))"
    ∷ codes "(module (type (func (param i32))) (func (param i32) (type 0)))"
    ∷ codes "(module (type (func (param funcref))) (func (type 0) (param (ref func))))"
    ∷ codes "(module (type (func (param funcref))) (func (type 0) (param externref)))"
    ∷ codes "(module (type (func (param (ref 0)))) (func (type 0) (param (ref 1))))"
    ∷ codes "(module (type (func (param f32))) (func (type 0) (param f64)))"
    ∷ codes "(module (type (func)) (func (type 0) $f))"
    ∷ codes "(module (type (func)) (func (type 0 0)))"
    ∷ []) ≡ []
unfolding lex class escape numeral natural integer groups table head is_utf8 chars encode_utf8 heap_of_word ref_of_word number_of_word packed_of_word kind_of_word
unread_signatures = refl

-- A function whose type is not declared or is no function type, with a signature or without
unread_type_uses : numbers_read (
    codes "(module (func (type 0)))"
    ∷ codes "(module (func (type 0) (param i32)))"
    ∷ codes "(module (func (type 0) (param $x i32) (result i32) local.get $x))"
    ∷ codes "(module (type (func)) (func (type 1)))"
    ∷ codes "(module (type (func)) (type (func (param i32))) (func (type 2) (param i32)))"
    ∷ codes "(module (type (func)) (func (type 4294967295)))"
    ∷ codes "(module (type $t (func)) (func (type $u)))"
    ∷ codes "(module (type (struct)) (func (type 0)))"
    ∷ codes "(module (type (array i32)) (type (func)) (func (type 0)))"
    ∷ codes "(module (rec (type (func)) (type (struct))) (func (type 1)))"
    ∷ mixed_text
    ∷ []) ≡ []
unfolding lex class escape numeral natural integer groups table head is_utf8 chars encode_utf8 heap_of_word ref_of_word number_of_word packed_of_word kind_of_word
unread_type_uses = refl

-- Types outside the grammar, an identifier that is declared twice in a structure or in groups, and a word of no
-- type
unread_types : numbers_read (
    codes "(module (type (sub final final (func))))"
    ∷ codes "(module (type (sub)))"
    ∷ codes "(module (type (sub final)))"
    ∷ codes "(module (type (sub (func) (func))))"
    ∷ codes "(module (type (sub (func) 0)))"
    ∷ codes "(module (type (sub 0 final (func))))"
    ∷ codes "(module (type (sub (sub (func)))))"
    ∷ codes "(module (type (sub $t (func))))"
    ∷ codes "(module (type (final (func))))"
    ∷ codes "(module (rec (rec (type (func)))))"
    ∷ codes "(module (rec (rec)))"
    ∷ codes "(module (rec $r (type (func))))"
    ∷ codes "(module (rec (func)))"
    ∷ codes "(module (rec type))"
    ∷ codes "(module (type (rec (type (func)))))"
    ∷ codes "(module (type (array)))"
    ∷ codes "(module (type (array i32 i32)))"
    ∷ codes "(module (type (array $x i32)))"
    ∷ codes "(module (type (array (field i32))))"
    ∷ codes "(module (type (array (mut (mut i32)))))"
    ∷ codes "(module (type (array (mut))))"
    ∷ codes "(module (type (array (mut i32 i32))))"
    ∷ codes "(module (type (struct i32)))"
    ∷ codes "(module (type (struct (field $x i32 i32))))"
    ∷ codes "(module (type (struct (field $x))))"
    ∷ codes "(module (type (struct (field i24))))"
    ∷ codes "(module (type (struct (field $x i32) (field $x i64))))"
    ∷ codes "(module (type (struct (field $x i32) (field i8) (field $\"x\" i32))))"
    ∷ codes "(module (type (union (field i32))))"
    ∷ codes "(module (type $t (func)) (rec (type $t (func))))"
    ∷ codes "(module (rec (type $t (func)) (type $t (func))))"
    ∷ []) ≡ []
unfolding lex class escape numeral natural integer groups heap_of_word ref_of_word number_of_word packed_of_word table is_utf8 chars encode_utf8 kind_of_word
unread_types = refl

-- Words of no heap type or of no value type, more items than a heap type, and indices that do not exist
unread_references : numbers_read (map (λ t. codes "(module (type $t (func (param " ++ t ++ codes "))))") (
    codes "(ref)"
    ∷ codes "(ref null)"
    ∷ codes "(ref null null func)"
    ∷ codes "(ref func func)"
    ∷ codes "(ref func null)"
    ∷ codes "(ref funcref)"
    ∷ codes "(ref (ref func))"
    ∷ codes "(ref (func))"
    ∷ codes "(ref function)"
    ∷ codes "(ref i32)"
    ∷ codes "(ref null none none)"
    ∷ codes "(ref $u)"
    ∷ codes "(ref 4294967296)"
    ∷ codes "(ref -1)"
    ∷ codes "(null func)"
    ∷ codes "(funcref)"
    ∷ codes "(i32)"
    ∷ codes "(mut i32)"
    ∷ codes "func"
    ∷ codes "nullany"
    ∷ codes "i8"
    ∷ codes "i16"
    ∷ codes "0"
    ∷ codes "$t"
    ∷ codes "$x i32 (ref func)"
    ∷ [])) ≡ []
unfolding lex class escape numeral natural integer groups heap_of_word ref_of_word number_of_word packed_of_word table is_utf8 chars encode_utf8 kind_of_word
unread_references = refl

unread_code : numbers_read (map procedure_text (
    codes "i32.constant 1"
    ∷ codes "1"
    ∷ codes "\"drop\""
    ∷ codes "i32.const"
    ∷ codes "i32.const 1 2"
    ∷ codes "i32.const $x"
    ∷ codes "i32.const (1)"
    ∷ codes "i32.const - 1"
    ∷ codes "i32.const 1_"
    ∷ codes "i32.const 4294967296"
    ∷ codes "i32.const -2147483649"
    ∷ codes "i32.const +2147483648"
    ∷ codes "i64.const 18446744073709551616"
    ∷ codes "drop 0"
    ∷ codes "local.get drop"
    ∷ codes "local.get 4294967296"
    ∷ codes "end"
    ∷ codes "block"
    ∷ codes "block else end"
    ∷ codes "br $l"
    ∷ codes "block $l end br $l"
    ∷ codes "block (type 0) (param i32) end"
    ∷ codes "block (type 1) end"
    ∷ [])) ≡ []
unfolding lex class escape numeral natural integer groups table head is_utf8 chars encode_utf8 heap_of_word ref_of_word number_of_word packed_of_word kind_of_word
unread_code = refl

-- Operands come after the immediates of the operator's word, and must be folded themselves.
unread_folded : numbers_read (map procedure_text (
    codes "(local.set 0 i32.const 1)"
    ∷ codes "(local.set (i32.const 1) 0)"
    ∷ codes "(drop drop)"
    ∷ codes "(drop) 1"
    ∷ codes "((drop))"
    ∷ codes "()"
    ∷ codes "(0)"
    ∷ codes "drop (local i32)"
    ∷ codes "(drop (local i32))"
    ∷ codes "(then)"
    ∷ codes "drop (then)"
    ∷ codes "(drop (then))"
    ∷ codes "(drop (then drop) (else drop))"
    ∷ codes "(catch_all 0)"
    ∷ codes "(if (then end) (else))"
    ∷ codes "(block end block)"
    ∷ codes "(drop (result i32))"
    ∷ codes "(call 0 (type 0))"
    ∷ codes "(drop (drop) (param i32))"
    ∷ [])) ≡ []
unfolding lex class escape numeral natural integer groups table head is_utf8 chars encode_utf8 heap_of_word ref_of_word number_of_word packed_of_word kind_of_word
unread_folded = refl

-- An identifier that is declared twice among tags, one of which may be imported, and among data segments
unread_doubles : numbers_read (
    codes "(module (type (func)) (tag $t (type 0)) (tag $s (type 0)))"
    ∷ codes "(module (type (func)) (tag $t (type 0)) (tag $t (type 0)))"
    ∷ codes "(module (type (func)) (import \"m\" \"t\" (tag $t (type 0))) (tag $t (type 0)))"
    ∷ codes "(module (data $d \"\") (data $e \"\"))"
    ∷ codes "(module (data $d \"\") (data $d \"\"))"
    ∷ []) ≡ 0 ∷ 3 ∷ []
unfolding lex class escape numeral natural integer groups table head is_utf8 chars encode_utf8 heap_of_word ref_of_word number_of_word packed_of_word kind_of_word
unread_doubles = refl

-- The identifier of a field is resolved in the structure type that precedes it.
unread_fields_of_others : numbers_read (
    codes "(module (type $r (struct (field $y i32))) (type $s (struct (field i32) (field $x i32))) (type (func)) (func (type 2) struct.get $s $x))"
    ∷ codes "(module (type $r (struct (field $y i32))) (type $s (struct (field i32) (field $x i32))) (type (func)) (func (type 2) struct.get $s $y))"
    ∷ codes "(module (type $r (struct (field $y i32))) (type $s (struct (field i32) (field $x i32))) (type (func)) (func (type 2) struct.get $r $x))"
    ∷ []) ≡ 0 ∷ []
unfolding lex class escape numeral natural integer groups table head is_utf8 chars encode_utf8 heap_of_word ref_of_word number_of_word packed_of_word kind_of_word
unread_fields_of_others = refl
