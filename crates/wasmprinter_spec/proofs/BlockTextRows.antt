-- Worked rows of nested operators in the text format (section 6.5 of the standard): flat and folded blocks,
-- labels, block types, catch clauses.
use Rattle.std.specs.Prelude.{◌≡◌, ℕ, pos, List, [], ◌∷◌, codes, Option, Some, None, refl}
use Rattle.wasmprinter_spec.specs.Types as types
use Rattle.wasmprinter_spec.specs.Types.{signature_at}
use Rattle.wasmprinter_spec.specs.Operator.{Empty, Value, OfType, One, OneRef, All, AllRef, Operator}
use Rattle.wasmprinter_spec.specs.Table.{table}
use Rattle.wasmprinter_spec.specs.Character.{class}
use Rattle.wasmprinter_spec.specs.Numeral.{numeral, natural, integer}
use Rattle.wasmprinter_spec.specs.Token.{lex}
use Rattle.wasmprinter_spec.specs.Code.{head}
use Rattle.wasmprinter_spec.specs.IndexSpaces.{Context}
use Rattle.wasmprinter_spec.specs.Text.Items.{groups}
use Rattle.wasmprinter_spec.specs.Text.Types.{heap_of_word, ref_of_word, number_of_word}
use Rattle.wasmprinter_spec.proofs.Samples.{to, to_null, local_get, i32_const, no_spaces}
use Rattle.wasmprinter_spec.proofs.BlockSamples.{nop, block, loop, if_op, else_op, try_op, catch_op, throw, rethrow, end, br, br_if, br_table, delegate, catch_all, try_table, sample_types}
use Rattle.wasmprinter_spec.proofs.FromText.{operators_beside}
use Rattle.wasmprinter_spec.proofs.Numbers.{numbers_from}

-- Type 0 has an i32 parameter. Type 1 has an i32 result and the identifier t. Tag 1 has the identifier e, and
-- local 2 has x.
abbrev around : Context
around = record {
  spaces = record no_spaces { types = None ∷ Some (codes "t") ∷ []; functions = []; tags = None ∷ Some (codes "e") ∷ []; locals = None ∷ None ∷ Some (codes "x") ∷ [] };
  signature = signature_at sample_types;
  fields = λ n. [];
}

-- The operators of a text
abbrev ops : List ℕ → Option (List Operator)
ops text = operators_beside around text

-- ---- folded blocks

folded_if : ops (codes "(if (result i32) (local.get 0) (then i32.const 1) (else (i32.const 2) nop))")
    ≡ Some (local_get 0 ∷ if_op (Value types.I32) ∷ i32_const (pos 1) ∷ else_op ∷ i32_const (pos 2) ∷ nop ∷ end ∷ [])
unfolding lex class numeral natural integer groups heap_of_word ref_of_word number_of_word table head
folded_if = refl

-- A written `else` is read even if it is empty; an omitted one is not added.
folded_cases : ops (codes "(if (then)) (if (then) (else)) (if (local.get $x) (nop) (then nop))")
    ≡ Some (if_op Empty ∷ end ∷ if_op Empty ∷ else_op ∷ end ∷ local_get 2 ∷ nop ∷ if_op Empty ∷ nop ∷ end ∷ [])
unfolding lex class numeral natural integer groups heap_of_word ref_of_word number_of_word table head
folded_cases = refl

folded_blocks : ops (codes "(block $a (br $a)) (loop $a (result i32) br $a (block br 1)) (block)")
    ≡ Some (block Empty ∷ br 0 ∷ end ∷ loop (Value types.I32) ∷ br 0 ∷ block Empty ∷ br 1 ∷ end ∷ end ∷ block Empty ∷ end ∷ [])
unfolding lex class numeral natural integer groups heap_of_word ref_of_word number_of_word table head
folded_blocks = refl

folded_try_table : ops (codes "(block $a (try_table $a (result i32) (catch $e $a) (catch_all_ref 1) (i32.const 0) br $a))")
    ≡ Some (block Empty ∷ try_table (Value types.I32) (One 1 0 ∷ AllRef 1 ∷ []) ∷ i32_const (pos 0) ∷ br 0 ∷ end ∷ end ∷ [])
unfolding lex class numeral natural integer groups heap_of_word ref_of_word number_of_word table head
folded_try_table = refl

-- Flat blocks in folded ones, and folded blocks in flat ones
mixed : ops (codes "if (block $l nop br $l) else (if (then block end) (else if else end)) end")
    ≡ Some (if_op Empty ∷ block Empty ∷ nop ∷ br 0 ∷ end ∷ else_op ∷ if_op Empty ∷ block Empty ∷ end ∷ else_op ∷ if_op Empty ∷ else_op ∷ end ∷ end ∷ end ∷ [])
unfolding lex class numeral natural integer groups heap_of_word ref_of_word number_of_word table head
mixed = refl

-- ---- labels

-- An identifier means the innermost block that has it. A number counts outward from the innermost block, up to the
-- body and beyond.
flat_labels : ops (codes "block $a br $a block $a br 1 br $a end br $a end br 0 br 7")
    ≡ Some (block Empty ∷ br 0 ∷ block Empty ∷ br 1 ∷ br 0 ∷ end ∷ br 0 ∷ end ∷ br 0 ∷ br 7 ∷ [])
unfolding lex class numeral natural integer groups heap_of_word ref_of_word number_of_word table head
flat_labels = refl

outer_labels : ops (codes "loop $a block $b if br $a br_if $b else br $a br_if 2 br_if 3 end end end")
    ≡ Some (loop Empty ∷ block Empty ∷ if_op Empty ∷ br 2 ∷ br_if 1 ∷ else_op ∷ br 2 ∷ br_if 2 ∷ br_if 3 ∷ end ∷ end ∷ end ∷ [])
unfolding lex class numeral natural integer groups heap_of_word ref_of_word number_of_word table head
outer_labels = refl

tabled : ops (codes "block $x block $y br_table 0 $x 4 $y end end br_table 3")
    ≡ Some (block Empty ∷ block Empty ∷ br_table (0 ∷ 1 ∷ 4 ∷ []) 0 ∷ end ∷ end ∷ br_table [] 3 ∷ [])
unfolding lex class numeral natural integer groups heap_of_word ref_of_word number_of_word table head
tabled = refl

-- The operands of an `if` are outside its label.
condition : ops (codes "(block $l (if $l (br_if $l (local.get 0)) (then br $l) (else (br $l))))")
    ≡ Some (block Empty ∷ local_get 0 ∷ br_if 0 ∷ if_op Empty ∷ br 0 ∷ else_op ∷ br 0 ∷ end ∷ end ∷ [])
unfolding lex class numeral natural integer groups heap_of_word ref_of_word number_of_word table head
condition = refl

-- The label of `delegate` is resolved outside its block, which it ends.
delegated : ops (codes "try $t delegate 0 block $u br $u br 1 end block $a try $b delegate $a try $a delegate $a br $a end")
    ≡ Some (try_op Empty ∷ delegate 0 ∷ block Empty ∷ br 0 ∷ br 1 ∷ end ∷ block Empty ∷ try_op Empty ∷ delegate 0 ∷ try_op Empty ∷ delegate 0 ∷ br 0 ∷ end ∷ [])
unfolding lex class numeral natural integer groups heap_of_word ref_of_word number_of_word table head
delegated = refl

-- The labels of catch clauses are resolved outside their block.
clauses : ops (codes "block $a try_table $a (result i32) (catch 7 $a) (catch_ref $e 1) (catch_all 0) (catch_all_ref $a) br $a br 1 end end")
    ≡ Some (block Empty ∷ try_table (Value types.I32) (One 7 0 ∷ OneRef 1 1 ∷ All 0 ∷ AllRef 0 ∷ []) ∷ br 0 ∷ br 1 ∷ end ∷ end ∷ [])
unfolding lex class numeral natural integer groups heap_of_word ref_of_word number_of_word table head
clauses = refl

-- ---- words that are both operators and clauses

-- As plain words they are operators. As heads of groups they are clauses of the word before the groups.
catches : ops (codes "try catch 0 throw $e catch $e catch_all rethrow 0 end try_table (catch 0 0) (catch_all 1) end")
    ≡ Some (try_op Empty ∷ catch_op 0 ∷ throw 1 ∷ catch_op 1 ∷ catch_all ∷ rethrow 0 ∷ end ∷ try_table Empty (One 0 0 ∷ All 1 ∷ []) ∷ end ∷ [])
unfolding lex class numeral natural integer groups heap_of_word ref_of_word number_of_word table head
catches = refl

-- A clause of one word inside a case that begins with the same word as an operator
clause_in_case : ops (codes "try $a catch $e try_table (catch $e $a) end catch_all end")
    ≡ Some (try_op Empty ∷ catch_op 1 ∷ try_table Empty (One 1 0 ∷ []) ∷ end ∷ catch_all ∷ end ∷ [])
unfolding lex class numeral natural integer groups heap_of_word ref_of_word number_of_word table head
clause_in_case = refl

-- ---- block types

-- A signature after a type index equals that type's, or is absent. The block type stays the type index, even if a
-- single result would have the same signature.
type_uses : ops (codes "block (type 0) end block $l (type 0) (param i32) end loop (type $t) (result i32) end if (type 1) end (block (type $t)) try (type 0) (param i32) delegate 0 (try_table (type 1) (catch_all 0) (nop))")
    ≡ Some (block (OfType 0) ∷ end ∷ block (OfType 0) ∷ end ∷ loop (OfType 1) ∷ end ∷ if_op (OfType 1) ∷ end ∷ block (OfType 1) ∷ end ∷ try_op (OfType 0) ∷ delegate 0
    ∷ try_table (OfType 1) (All 0 ∷ []) ∷ nop ∷ end ∷ [])
unfolding lex class numeral natural integer groups heap_of_word ref_of_word number_of_word table head
type_uses = refl

one_result : ops (codes "block (result i32) end block (result i64) end block $r (result i32) end") ≡ Some (block (Value types.I32) ∷ end ∷ block (Value types.I64) ∷ end ∷ block (Value types.I32) ∷ end ∷ [])
unfolding lex class numeral natural integer groups heap_of_word ref_of_word number_of_word table head
one_result = refl

-- A single reference by an index, an identifier or a word, and by an index that no type has. A long form reads as
-- the short one.
one_reference : ops (codes "block (result (ref null 0)) end block (result (ref null $t)) end block $l (result (ref $t)) end block (result (ref 7)) end (loop (result funcref)) (loop (result (ref null func))) if (result (ref i31)) else end (try_table (result exnref) (catch_all_ref 0))")
    ≡ Some (block (Value (to_null (types.Index 0))) ∷ end ∷ block (Value (to_null (types.Index 1))) ∷ end ∷ block (Value (to (types.Index 1))) ∷ end ∷ block (Value (to (types.Index 7))) ∷ end
    ∷ loop (Value (to_null types.Func)) ∷ end ∷ loop (Value (to_null types.Func)) ∷ end ∷ if_op (Value (to types.I31)) ∷ else_op ∷ end
    ∷ try_table (Value (to_null types.Exn)) (AllRef 0 ∷ []) ∷ end ∷ [])
unfolding lex class numeral natural integer groups heap_of_word ref_of_word number_of_word table head
one_reference = refl

-- ---- texts that do not read

-- The numbers, from 0, of the texts in this list that read as operators
abbrev numbers_read : List (List ℕ) → List ℕ
numbers_read ts = numbers_from ops 0 ts

-- A text that reads is counted.
read_among : numbers_read (codes "end" ∷ codes "block end" ∷ codes "(then)" ∷ codes "" ∷ codes "nop" ∷ []) ≡ 1 ∷ 3 ∷ 4 ∷ []
unfolding lex class numeral natural integer groups heap_of_word ref_of_word number_of_word table head
read_among = refl

unread_nesting : numbers_read (
    codes "end"
    ∷ codes "block"
    ∷ codes "block end end"
    ∷ codes "block loop end"
    ∷ codes "else"
    ∷ codes "block else end"
    ∷ codes "loop else end"
    ∷ codes "if else else end"
    ∷ codes "try else end"
    ∷ codes "catch 0"
    ∷ codes "block catch 0 end"
    ∷ codes "block catch_all end"
    ∷ codes "if catch_all end"
    ∷ codes "try_table catch 0 end"
    ∷ codes "try catch_all catch 0 end"
    ∷ codes "try catch_all catch_all end"
    ∷ codes "delegate 0"
    ∷ codes "block delegate 0"
    ∷ codes "try catch 0 delegate 0"
    ∷ codes "try delegate 0 end"
    ∷ codes "(block) end"
    ∷ codes "(block end)"
    ∷ codes "(block block)"
    ∷ codes "(block else)"
    ∷ codes "(if (then else))"
    ∷ codes "(if (then end) (else))"
    ∷ codes "(if (then) (else else))"
    ∷ codes "(block end block)"
    ∷ codes "(if (then end if) (else))"
    ∷ codes "(drop (block end block))"
    ∷ codes "try (block catch 0) end"
    ∷ codes "(block $a try $b) (block delegate 0)"
    ∷ []) ≡ []
unfolding lex class numeral natural integer groups heap_of_word ref_of_word number_of_word table head
unread_nesting = refl

-- Groups that belong to an `if`, and groups whose words cannot be folded
unread_groups : numbers_read (
    codes "(then)"
    ∷ codes "(else)"
    ∷ codes "nop (then)"
    ∷ codes "if (then) end"
    ∷ codes "if (then) (else) end"
    ∷ codes "(block (then))"
    ∷ codes "(loop (then) (else))"
    ∷ codes "(nop (then))"
    ∷ codes "(if)"
    ∷ codes "(if (else))"
    ∷ codes "(if (nop))"
    ∷ codes "(if nop (then))"
    ∷ codes "(if (then) (then))"
    ∷ codes "(if (else) (then))"
    ∷ codes "(if (then) (else) (else))"
    ∷ codes "(if (then) (nop))"
    ∷ codes "(if (then) (else) (nop))"
    ∷ codes "(if (then) end)"
    ∷ codes "(if (local.get 0) (result i32) (then))"
    ∷ codes "(if (then (then)))"
    ∷ codes "(end)"
    ∷ codes "block (end)"
    ∷ codes "if (else) end"
    ∷ codes "(try)"
    ∷ codes "(try (do) (catch 0))"
    ∷ codes "try (delegate 0)"
    ∷ codes "try (catch 0) end"
    ∷ codes "try (catch_all) end"
    ∷ codes "(catch 0)"
    ∷ codes "(catch_all 0)"
    ∷ codes "nop (catch_all 0)"
    ∷ codes "block (catch_all 0) end"
    ∷ codes "(block (catch_all 0))"
    ∷ []) ≡ []
unfolding lex class numeral natural integer groups heap_of_word ref_of_word number_of_word table head
unread_groups = refl

-- An identifier of a label that is not open does not read, even if it is the identifier of the operator's own
-- block.
unread_labels : numbers_read (
    codes "br $b"
    ∷ codes "block $a br $b end"
    ∷ codes "block $b end br $b"
    ∷ codes "(block $b) (br $b)"
    ∷ codes "(block (br $b)) (block $b)"
    ∷ codes "br_table $b"
    ∷ codes "block $a br_table 0 $b $a end"
    ∷ codes "try $t delegate $t"
    ∷ codes "try $t delegate 0 br $t"
    ∷ codes "try_table $a (catch_all $a) end"
    ∷ codes "try_table $a (catch 0 $a) end"
    ∷ codes "(if $l (br_if $l (local.get 0)) (then))"
    ∷ codes "br"
    ∷ codes "br 0 1"
    ∷ codes "br 4294967296"
    ∷ codes "br -1"
    ∷ codes "br \"a\""
    ∷ codes "br_table"
    ∷ codes "br_table (0) 0"
    ∷ codes "rethrow"
    ∷ codes "block $a $b end"
    ∷ codes "block 0 end"
    ∷ codes "block \"a\" end"
    ∷ []) ≡ []
unfolding lex class numeral natural integer groups heap_of_word ref_of_word number_of_word table head
unread_labels = refl

-- The signature of another type after an index, a type that does not exist, and parameters with identifiers
unread_types : numbers_read (
    codes "block (type 0) (param i64) end"
    ∷ codes "block (type 0) (param i32 i32) end"
    ∷ codes "block (type 0) (result i32) end"
    ∷ codes "block (type 0) (param i32) (result i32) end"
    ∷ codes "block (type 1) (param i32) end"
    ∷ codes "block (type 1) (result i64) end"
    ∷ codes "block (type 2) end"
    ∷ codes "block (type $u) end"
    ∷ codes "block (type) end"
    ∷ codes "block (type 0 0) end"
    ∷ codes "block (type 0) (param $x i32) end"
    ∷ codes "(block (type 0) (param $x i32))"
    ∷ codes "block (param i32) (type 0) end"
    ∷ codes "block (type 0) $a end"
    ∷ codes "block (result i32) $a end"
    ∷ codes "block (type 0) (type 0) end"
    ∷ codes "block (result i32) (type 1) end"
    ∷ codes "block (result i33) end"
    ∷ codes "block (local i32) end"
    ∷ []) ≡ []
unfolding lex class numeral natural integer groups heap_of_word ref_of_word number_of_word table head
unread_types = refl

-- A storage type, a heap type without `ref`, a word that is no heap type, an identifier of no type, and a result
-- after the index of a type with another result
unread_results : numbers_read (
    codes "block (result i8) end"
    ∷ codes "block (result (mut i32)) end"
    ∷ codes "block (result func) end"
    ∷ codes "block (result (func)) end"
    ∷ codes "block (result (type 0)) end"
    ∷ codes "block (result 0) end"
    ∷ codes "block (result $t) end"
    ∷ codes "block (result (ref)) end"
    ∷ codes "block (result (ref null)) end"
    ∷ codes "block (result (ref funcref)) end"
    ∷ codes "block (result (ref $u)) end"
    ∷ codes "block (result (ref 4294967296)) end"
    ∷ codes "block (ref null 0) end"
    ∷ codes "block funcref end"
    ∷ codes "block (result funcref externref) end"
    ∷ codes "block (type 1) (result funcref) end"
    ∷ codes "block (type 1) (result (ref null 0)) end"
    ∷ codes "try_table (catch_all 0) (result funcref) end"
    ∷ []) ≡ []
unfolding lex class numeral natural integer groups heap_of_word ref_of_word number_of_word table head
unread_results = refl

-- Forms of the standard that the reader does not accept: repeated identifiers after `else` and `end`, and block
-- types without an index, except a single result
unread_forms : numbers_read (
    codes "block $a end $a"
    ∷ codes "if $a else $a end"
    ∷ codes "block (param i32) end"
    ∷ codes "block (result i32 i32) end"
    ∷ codes "block (result i32) (result i32) end"
    ∷ codes "block (result) end"
    ∷ []) ≡ []
unfolding lex class numeral natural integer groups heap_of_word ref_of_word number_of_word table head
unread_forms = refl

-- Clauses follow the block type, each with its tag and its label.
unread_clauses : numbers_read (
    codes "try_table (catch 0) end"
    ∷ codes "try_table (catch) end"
    ∷ codes "try_table (catch 0 0 0) end"
    ∷ codes "try_table (catch $u 0) end"
    ∷ codes "try_table (catch_ref 0) end"
    ∷ codes "try_table (catch_all) end"
    ∷ codes "try_table (catch_all 0 0) end"
    ∷ codes "try_table (catch_all_ref) end"
    ∷ codes "try_table (catch_all 0) (result i32) end"
    ∷ codes "try_table (catch_all 0) $a end"
    ∷ codes "try_table (catch_all 0) (param i32) end"
    ∷ codes "try_table (catch_none 0) end"
    ∷ codes "try_table (nop) (catch_all 0) end"
    ∷ codes "(try_table (nop) (catch_all 0))"
    ∷ codes "throw"
    ∷ codes "throw $u"
    ∷ codes "try catch $u end"
    ∷ codes "try catch end"
    ∷ codes "try catch_all 0 end"
    ∷ []) ≡ []
unfolding lex class numeral natural integer groups heap_of_word ref_of_word number_of_word table head
unread_clauses = refl
