-- Worked rows of types in the text format (section 6.4 of the standard): the texts of single types, and the
-- modules that texts of types write.
use Rattle.std.specs.Prelude.{◌≡◌, ℕ, List, [], ◌∷◌, ◌++◌, true, false, length, map, codes, Some, refl}
use Rattle.std.specs.Fmt.{digits}
use Rattle.std.specs.Char.{encode_utf8}
use Rattle.std.specs.Str.{is_utf8, chars}
use Rattle.wasmprinter_spec.specs.Types.{Exn, Array, Struct, I31, Eq, Any, Extern, Func, NoAny, NoExtern, NoFunc, NoExn, Index, ref_type, I32, I64, F32, F64, V128, Ref, Val, I8, I16, field_type, ArrayComposite, StructComposite, SubType, sub_type, final_type}
use Rattle.wasmprinter_spec.specs.Operator as operator
use Rattle.wasmprinter_spec.specs.Module.{Module}
use Rattle.wasmprinter_spec.specs.Call.{Call, Name, Keyword, TypeName, atoms}
use Rattle.wasmprinter_spec.specs.Options.{defaults}
use Rattle.wasmprinter_spec.specs.Piece.{Piece, repetition_of, left_in, place_text, all_calls}
use Rattle.wasmprinter_spec.specs.Layout.Types.{composite_pieces, type_pieces}
use Rattle.wasmprinter_spec.specs.Layout.ValTypes.{val_pieces}
use Rattle.wasmprinter_spec.proofs.Computing.{composing}
use Rattle.wasmprinter_spec.specs.Table.{table}
use Rattle.wasmprinter_spec.specs.Character.{class}
use Rattle.wasmprinter_spec.specs.Numeral.{numeral, natural}
use Rattle.wasmprinter_spec.specs.Token.{lex}
use Rattle.wasmprinter_spec.specs.Code.{head}
use Rattle.wasmprinter_spec.specs.Text.Items.{groups}
use Rattle.wasmprinter_spec.specs.Text.Types.{heap_of_word, ref_of_word, number_of_word, packed_of_word}
use Rattle.wasmprinter_spec.specs.Read.{read}
use Rattle.wasmprinter_spec.specs.Text.Exports.{kind_of_word}
use Rattle.wasmprinter_spec.proofs.Samples.{lines, head_bytes, to, to_null, func, empty, nothing}
use Rattle.wasmprinter_spec.proofs.FromBytes.{printed_by, printed}
use Rattle.wasmprinter_spec.proofs.StyledCalls.{plain, in_style}
use Rattle.wasmprinter_spec.specs.Names.{no_names}

-- ---- from bytes to text

-- A module whose type section consists of these bytes
abbrev with_types : List ℕ → List ℕ
with_types bytes = head_bytes ++ (0x01 ∷ length bytes ∷ bytes)

-- The text of a module with these lines of fields
abbrev module_text : List (List ℕ) → List ℕ
module_text fields = lines (codes "(module" ∷ (fields ++ codes ")" ∷ []))

group_of_one : printed (with_types (0x01 ∷ 0x4e ∷ 0x01 ∷ 0x60 ∷ 0x00 ∷ 0x00 ∷ [])) ≡ Some (module_text (
    codes "  (rec"
    ∷ codes "    (type (;0;) (func))"
    ∷ codes "  )"
    ∷ []))
unfolding composing repetition_of digits
group_of_one = refl

-- Each type of a group has the place two bytes after the group's first byte, wherever its own bytes are.
group_with_offsets : printed_by (record defaults { offsets = true }) (with_types (0x03 ∷ 0x60 ∷ 0x00 ∷ 0x00 ∷ 0x4e ∷ 0x02 ∷ 0x60 ∷ 0x00 ∷ 0x00 ∷ 0x50 ∷ 0x00 ∷ 0x60 ∷ 0x00 ∷ 0x00 ∷ 0x4e ∷ 0x00 ∷ [])) ≡ Some (lines (
    codes "(module"
    ∷ codes "(;@b     ;)  (type (;0;) (func))"
    ∷ codes "(;@e     ;)  (rec"
    ∷ codes "(;@10    ;)    (type (;1;) (func))"
    ∷ codes "(;@10    ;)    (type (;2;) (sub (func)))"
    ∷ codes "             )"
    ∷ codes "(;@18    ;)  (rec)"
    ∷ codes "(;@1a    ;))"
    ∷ []))
unfolding composing repetition_of left_in place_text digits
group_with_offsets = refl

structure : printed (with_types (0x01 ∷ 0x5f ∷ 0x02 ∷ 0x78 ∷ 0x01 ∷ 0x7f ∷ 0x00 ∷ [])) ≡ Some (module_text (codes "  (type (;0;) (struct (field (mut i8)) (field i32)))" ∷ []))
unfolding composing repetition_of digits
structure = refl

open_array : printed (with_types (0x01 ∷ 0x50 ∷ 0x00 ∷ 0x5e ∷ 0x7f ∷ 0x00 ∷ [])) ≡ Some (module_text (codes "  (type (;0;) (sub (array i32)))" ∷ []))
unfolding composing repetition_of digits
open_array = refl

-- A final type with a supertype, and one without
final_types : printed (with_types (0x03 ∷ 0x50 ∷ 0x00 ∷ 0x60 ∷ 0x00 ∷ 0x00 ∷ 0x4f ∷ 0x01 ∷ 0x00 ∷ 0x60 ∷ 0x00 ∷ 0x00 ∷ 0x4f ∷ 0x00 ∷ 0x60 ∷ 0x00 ∷ 0x00 ∷ [])) ≡ Some (module_text (
    codes "  (type (;0;) (sub (func)))"
    ∷ codes "  (type (;1;) (sub final 0 (func)))"
    ∷ codes "  (type (;2;) (func))"
    ∷ []))
unfolding composing repetition_of digits
final_types = refl

-- Two supertypes, of which the second is declared later
two_supertypes : printed (with_types (0x02 ∷ 0x50 ∷ 0x02 ∷ 0x00 ∷ 0x01 ∷ 0x5f ∷ 0x00 ∷ 0x5e ∷ 0x77 ∷ 0x01 ∷ [])) ≡ Some (module_text (
    codes "  (type (;0;) (sub 0 1 (struct)))"
    ∷ codes "  (type (;1;) (array (mut i16)))"
    ∷ []))
unfolding composing repetition_of digits
two_supertypes = refl

abbrev value_bytes : List ℕ
value_bytes = 0x7f ∷ 0x7e ∷ 0x7d ∷ 0x7c ∷ 0x7b ∷ 0x69 ∷ 0x6a ∷ 0x6b ∷ 0x6c ∷ 0x6d ∷ 0x6e ∷ 0x6f ∷ 0x70 ∷ 0x71 ∷ 0x72 ∷ 0x73 ∷ 0x74 ∷ 0x63 ∷ 0x70 ∷ 0x63 ∷ 0x74 ∷ []

abbrev reference_bytes : List ℕ
reference_bytes =
    0x64 ∷ 0x69 ∷ 0x64 ∷ 0x6a ∷ 0x64 ∷ 0x6b ∷ 0x64 ∷ 0x6c ∷ 0x64 ∷ 0x6d ∷ 0x64 ∷ 0x6e ∷ 0x64 ∷ 0x6f ∷ 0x64 ∷ 0x70 ∷ 0x64 ∷ 0x71 ∷ 0x64 ∷ 0x72 ∷ 0x64 ∷ 0x73 ∷ 0x64 ∷ 0x74
    ∷ 0x63 ∷ 0x00 ∷ 0x64 ∷ 0x00 ∷ []

abbrev each_type_text : List ℕ
each_type_text = module_text ((
    codes "  (type (;0;) (func (param i32 i64 f32 f64 v128 exnref arrayref structref i31ref eqref anyref externref funcref nullref nullexternref nullfuncref nullexnref funcref nullexnref)"
    ++ codes " (result (ref exn) (ref array) (ref struct) (ref i31) (ref eq) (ref any) (ref extern) (ref func) (ref none) (ref noextern) (ref nofunc) (ref noexn) (ref null 0) (ref 0))))") ∷ [])

each_type : printed (with_types (0x01 ∷ 0x60 ∷ 0x13 ∷ (value_bytes ++ 0x0e ∷ reference_bytes))) ≡ Some each_type_text
unfolding composing repetition_of digits
each_type = refl

-- Functions that use types of groups: a function type after another type, and a structure type
functions_of_groups : printed (head_bytes
    ++ (0x01 ∷ 0x0b ∷ 0x02 ∷ 0x4e ∷ 0x02 ∷ 0x5f ∷ 0x00 ∷ 0x60 ∷ 0x00 ∷ 0x00 ∷ 0x60 ∷ 0x00 ∷ 0x00 ∷ [])
    ++ (0x03 ∷ 0x03 ∷ 0x02 ∷ 0x01 ∷ 0x00 ∷ [])
    ++ (0x0a ∷ 0x0a ∷ 0x02 ∷ 0x05 ∷ 0x01 ∷ 0x01 ∷ 0x64 ∷ 0x00 ∷ 0x0b ∷ 0x02 ∷ 0x00 ∷ 0x0b ∷ [])) ≡ Some (module_text (
    codes "  (rec"
    ∷ codes "    (type (;0;) (struct))"
    ∷ codes "    (type (;1;) (func))"
    ∷ codes "  )"
    ∷ codes "  (type (;2;) (func))"
    ∷ codes "  (func (;0;) (type 1)"
    ∷ codes "    (local (ref 0))"
    ∷ codes "  )"
    ∷ codes "  (func (;1;) (type 0))"
    ∷ []))
unfolding composing repetition_of digits table
functions_of_groups = refl

-- ---- calls

abbrev are_calls : List Piece → List Call → Type 0
are_calls ps calls = atoms (all_calls defaults ps) ≡ atoms calls

func_calls : are_calls (val_pieces no_names (Ref (ref_type true Func))) (in_style TypeName (codes "funcref"))
unfolding composing
func_calls = refl

null_calls : are_calls (val_pieces no_names (Ref (ref_type true (Index 3)))) (plain (codes "(") ++ in_style Keyword (codes "ref") ++ plain (codes " null ") ++ in_style Name (codes "3") ++ plain (codes ")"))
unfolding composing digits
null_calls = refl

ref_calls : are_calls (val_pieces no_names (Ref (ref_type false Any))) (plain (codes "(") ++ in_style Keyword (codes "ref ") ++ in_style TypeName (codes "any") ++ plain (codes ")"))
unfolding composing
ref_calls = refl

structure_calls : are_calls (composite_pieces no_names 0 (StructComposite (field_type true I8 ∷ field_type false (Val F64) ∷ []))) (
    plain (codes "(") ++ in_style Keyword (codes "struct") ++ plain (codes " (field (mut i8)) (field ") ++ in_style TypeName (codes "f64") ++ plain (codes "))"))
unfolding composing
structure_calls = refl

array_calls : are_calls (composite_pieces no_names 0 (ArrayComposite (field_type true (Val V128)))) (
    plain (codes "(") ++ in_style Keyword (codes "array") ++ plain (codes " (mut ") ++ in_style TypeName (codes "v128") ++ plain (codes "))"))
unfolding composing
array_calls = refl

sub_calls : are_calls (type_pieces no_names 5 (sub_type true (0 ∷ []) (ArrayComposite (field_type false I16)))) (
    plain (codes "(") ++ in_style Keyword (codes "type ") ++ in_style Name (codes "(;5;)")
    ++ plain (codes " (") ++ in_style Keyword (codes "sub") ++ plain (codes " final ") ++ in_style Name (codes "0")
    ++ plain (codes " (") ++ in_style Keyword (codes "array") ++ plain (codes " i16)))"))
unfolding composing digits
sub_calls = refl

-- ---- texts that read

abbrev of_groups : List (List SubType) → Module
of_groups gs = record empty { types = gs }

reads_each_type : read each_type_text ≡ Some (of_groups ((func
    (I32 ∷ I64 ∷ F32 ∷ F64 ∷ V128 ∷ map to_null (Exn ∷ Array ∷ Struct ∷ I31 ∷ Eq ∷ Any ∷ Extern ∷ Func ∷ NoAny ∷ NoExtern ∷ NoFunc ∷ NoExn ∷ Func ∷ NoExn ∷ []))
    (map to (Exn ∷ Array ∷ Struct ∷ I31 ∷ Eq ∷ Any ∷ Extern ∷ Func ∷ NoAny ∷ NoExtern ∷ NoFunc ∷ NoExn ∷ []) ++ to_null (Index 0) ∷ to (Index 0) ∷ []) ∷ []) ∷ []))
unfolding lex class numeral natural groups heap_of_word ref_of_word number_of_word is_utf8 chars encode_utf8 kind_of_word
reads_each_type = refl

-- The long forms of nullable references
reads_long_forms : read (codes "(module (type (func (param (ref null func) (ref null none) (ref null 0x0) (ref null $t)))) (type $t (array (ref null i31))))")
    ≡ Some (of_groups ((func (to_null Func ∷ to_null NoAny ∷ to_null (Index 0) ∷ to_null (Index 1) ∷ []) [] ∷ []) ∷ (final_type (ArrayComposite (field_type false (Val (to_null I31)))) ∷ []) ∷ []))
unfolding lex class numeral natural groups heap_of_word ref_of_word number_of_word packed_of_word is_utf8 chars encode_utf8 kind_of_word
reads_long_forms = refl

-- Printed groups, also without types
reads_groups : read (module_text (
    codes "  (rec"
    ∷ codes "    (type (;0;) (sub (struct (field (mut i8)) (field (ref null 1)))))"
    ∷ codes "    (type (;1;) (sub final 0 (array (mut (ref 0)))))"
    ∷ codes "  )"
    ∷ codes "  (rec)"
    ∷ codes "  (type (;2;) (func))"
    ∷ [])) ≡ Some (of_groups (
    (sub_type false [] (StructComposite (field_type true I8 ∷ field_type false (Val (to_null (Index 1))) ∷ []))
    ∷ sub_type true (0 ∷ []) (ArrayComposite (field_type true (Val (to (Index 0))))) ∷ [])
    ∷ []
    ∷ (func [] [] ∷ [])
    ∷ []))
unfolding lex class numeral natural groups heap_of_word ref_of_word number_of_word packed_of_word is_utf8 chars encode_utf8 kind_of_word
reads_groups = refl

-- Identifiers of types and fields, within groups and outside, also of types that are declared after their use;
-- several fields in one group
reads_names : read (codes "(module (type $p (sub final $a $q (struct (field $x i32) (field i16 (mut (ref $b))) (field) (field $y (mut f32))))) (rec (type $a (func)) (type $b (sub (func))) (type $q (array (ref $p)))))") ≡ Some (of_groups (
    (sub_type true (1 ∷ 3 ∷ []) (StructComposite (field_type false (Val I32) ∷ field_type false I16 ∷ field_type true (Val (to (Index 2))) ∷ field_type true (Val F32) ∷ [])) ∷ [])
    ∷ (final_type nothing ∷ sub_type false [] nothing ∷ final_type (ArrayComposite (field_type false (Val (to (Index 0))))) ∷ [])
    ∷ []))
unfolding lex class numeral natural groups heap_of_word ref_of_word number_of_word packed_of_word is_utf8 chars encode_utf8 kind_of_word
reads_names = refl

-- The same identifier in two structures. `sub final` without supertypes reads as the composite type alone.
reads_shared_names : read (codes "(module (type $x (struct (field $x i32))) (type (sub final (struct (field $x i32)))))")
    ≡ Some (of_groups ((final_type (StructComposite (field_type false (Val I32) ∷ [])) ∷ []) ∷ (final_type (StructComposite (field_type false (Val I32) ∷ [])) ∷ []) ∷ []))
unfolding lex class numeral natural groups heap_of_word ref_of_word number_of_word packed_of_word is_utf8 chars encode_utf8 kind_of_word
reads_shared_names = refl

-- A signature with references after the index of a type in a group
reads_function : read (codes "(module (func (type $f) (param $x (ref $s)) (result (ref null $s)) (local $y (ref $s)) (local funcref v128) local.get $x) (rec (type $s (struct)) (type $f (func (param (ref 0)) (result (ref null 0))))))")
    ≡ Some (record empty {
      types = (final_type (StructComposite []) ∷ func (to (Index 0) ∷ []) (to_null (Index 0) ∷ []) ∷ []) ∷ [];
      functions = record { type_index = 1; locals = to (Index 0) ∷ to_null Func ∷ V128 ∷ []; operators = record { opcode = record { prefix = 0; number = 0x20 }; immediates = operator.Index 0 } ∷ [] } ∷ [];
    })
unfolding lex class numeral natural groups heap_of_word ref_of_word number_of_word packed_of_word table is_utf8 chars encode_utf8 head kind_of_word
reads_function = refl
