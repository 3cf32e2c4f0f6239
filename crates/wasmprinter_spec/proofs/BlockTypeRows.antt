-- Worked rows of blocks over all types (section 2.4 of the standard, "Block types"): block types that name types
-- of groups, types that are no function types, and references. The rows go from bytes to text and back, and show
-- which indices are declared.
use Rattle.std.specs.Prelude.{◌≡◌, ℕ, ◌+◌, List, [], ◌∷◌, ◌++◌, length, map, replicate, codes, Some, None, refl}
use Rattle.std.proofs.Common.{arith}
use Rattle.std.specs.Fmt.{digits}
use Rattle.std.specs.Char.{encode_utf8}
use Rattle.std.specs.Str.{is_utf8, chars}
use Rattle.wasmprinter_spec.specs.Types.{Func, Index, StructComposite, SubType, final_type}
use Rattle.wasmprinter_spec.specs.Operator.{BlockType, Value, OfType, All, Operator}
use Rattle.wasmprinter_spec.specs.Table.{table}
use Rattle.wasmprinter_spec.specs.Module.{Module}
use Rattle.wasmprinter_spec.specs.Indexed.{IsIndexed}
use Rattle.wasmprinter_spec.specs.Character.{class}
use Rattle.wasmprinter_spec.specs.Numeral.{numeral, natural}
use Rattle.wasmprinter_spec.specs.Token.{lex}
use Rattle.wasmprinter_spec.specs.Code.{head}
use Rattle.wasmprinter_spec.specs.Text.Items.{groups}
use Rattle.wasmprinter_spec.specs.Text.Types.{heap_of_word, ref_of_word, number_of_word}
use Rattle.wasmprinter_spec.specs.Read.{read}
use Rattle.wasmprinter_spec.specs.Piece.{repetition_of}
use Rattle.wasmprinter_spec.proofs.Computing.{composing}
use Rattle.wasmprinter_spec.specs.Text.Exports.{kind_of_word}
use Rattle.wasmprinter_spec.proofs.Samples.{head_bytes, lines, to, to_null, func, empty}
use Rattle.wasmprinter_spec.proofs.BlockSamples.{block, loop, end, try_table}
use Rattle.wasmprinter_spec.proofs.FromBytes.{decoded, printed}

-- A module with the types that the first bytes encode, and with one function of type i, whose operators the last
-- bytes encode
abbrev module_bytes : List ℕ → ℕ → List ℕ → List ℕ
module_bytes types i code =
    head_bytes
    ++ (0x01 ∷ length types ∷ types)
    ++ (0x03 ∷ 0x02 ∷ 0x01 ∷ i ∷ [])
    ++ (0x0a ∷ (length code + 4) ∷ 0x01 ∷ (length code + 2) ∷ 0x00 ∷ code ++ 0x0b ∷ [])

abbrev one_function : List (List SubType) → ℕ → List Operator → Module
one_function types i os = record empty { types = types; functions = record { type_index = i; locals = []; operators = os } ∷ []; exports = [] }

abbrev structure : SubType
structure = final_type (StructComposite [])

-- ---- the index of a structure type as a block type: bytes may contain it; valid modules and texts do not

abbrev structure_bytes : List ℕ
structure_bytes = module_bytes (0x02 ∷ 0x5f ∷ 0x00 ∷ 0x60 ∷ 0x00 ∷ 0x00 ∷ []) 1 (0x02 ∷ 0x00 ∷ 0x0b ∷ [])

abbrev beside_structure : BlockType → Module
beside_structure t = one_function ((structure ∷ []) ∷ (func [] [] ∷ []) ∷ []) 1 (block t ∷ end ∷ [])

-- The text of that module with this text as the type of its block
abbrev beside_structure_text : List ℕ → List ℕ
beside_structure_text t = lines (
    codes "(module"
    ∷ codes "  (type (;0;) (struct))"
    ∷ codes "  (type (;1;) (func))"
    ∷ codes "  (func (;0;) (type 1)"
    ∷ (codes "    block" ++ t ++ codes " ;; label = @1")
    ∷ codes "    end"
    ∷ codes "  )"
    ∷ codes ")"
    ∷ [])

structure_decoded : decoded structure_bytes ≡ Some (beside_structure (OfType 0))
unfolding table
structure_decoded = refl

structure_printed : printed structure_bytes ≡ Some (beside_structure_text (codes " (type 0)"))
unfolding composing repetition_of digits table
structure_printed = refl

structure_unread : read (beside_structure_text (codes " (type 0)")) ≡ None
unfolding lex class numeral natural groups heap_of_word ref_of_word number_of_word table head is_utf8 chars encode_utf8 kind_of_word
structure_unread = refl

-- It does not read with a signature either.
structure_with_signature_unread : read (beside_structure_text (codes " (type 0) (param i32)")) ≡ None
unfolding lex class numeral natural groups heap_of_word ref_of_word number_of_word table head is_utf8 chars encode_utf8 kind_of_word
structure_with_signature_unread = refl

-- The module's function type can be the block's type, and a reference to the structure type can be its result.
function_read : read (beside_structure_text (codes " (type 1)")) ≡ Some (beside_structure (OfType 1))
unfolding lex class numeral natural groups heap_of_word ref_of_word number_of_word table head is_utf8 chars encode_utf8 kind_of_word
function_read = refl

reference_read : read (beside_structure_text (codes " (result (ref null 0))")) ≡ Some (beside_structure (Value (to_null (Index 0))))
unfolding lex class numeral natural groups heap_of_word ref_of_word number_of_word table head is_utf8 chars encode_utf8 kind_of_word
reference_read = refl

structure_undeclared : IsIndexed (beside_structure (OfType 0)) → ⊥
unfolding table
structure_undeclared i = i.functions.0.operators.0

structure_of_try_table : IsIndexed (one_function ((structure ∷ []) ∷ (func [] [] ∷ []) ∷ []) 1 (try_table (OfType 0) [] ∷ end ∷ [])) → ⊥
unfolding table
structure_of_try_table i = let (block, catches) = i.functions.0.operators.0 in block

-- ---- the index of a type in a group: type indices run across all groups

abbrev group_bytes : List ℕ
group_bytes =
    module_bytes (0x02 ∷ 0x4e ∷ 0x02 ∷ 0x5f ∷ 0x00 ∷ 0x60 ∷ 0x01 ∷ 0x64 ∷ 0x00 ∷ 0x01 ∷ 0x63 ∷ 0x00 ∷ 0x60 ∷ 0x00 ∷ 0x00 ∷ []) 2
    (0x02 ∷ 0x01 ∷ 0x03 ∷ 0x02 ∷ 0x02 ∷ 0x63 ∷ 0x01 ∷ 0x0b ∷ 0x0b ∷ 0x0b ∷ [])

abbrev over_group : Module
over_group =
    one_function ((structure ∷ func (to (Index 0) ∷ []) (to_null (Index 0) ∷ []) ∷ []) ∷ (func [] [] ∷ []) ∷ []) 2
    (block (OfType 1) ∷ loop (OfType 2) ∷ block (Value (to_null (Index 1))) ∷ end ∷ end ∷ end ∷ [])

abbrev group_text : List ℕ
group_text = lines (
    codes "(module"
    ∷ codes "  (rec"
    ∷ codes "    (type (;0;) (struct))"
    ∷ codes "    (type (;1;) (func (param (ref 0)) (result (ref null 0))))"
    ∷ codes "  )"
    ∷ codes "  (type (;2;) (func))"
    ∷ codes "  (func (;0;) (type 2)"
    ∷ codes "    block (type 1) (param (ref 0)) (result (ref null 0)) ;; label = @1"
    ∷ codes "      loop (type 2) ;; label = @2"
    ∷ codes "        block (result (ref null 1)) ;; label = @3"
    ∷ codes "        end"
    ∷ codes "      end"
    ∷ codes "    end"
    ∷ codes "  )"
    ∷ codes ")"
    ∷ [])

group_decoded : decoded group_bytes ≡ Some over_group
unfolding table
group_decoded = refl

group_printed : printed group_bytes ≡ Some group_text
unfolding composing repetition_of digits table
group_printed = refl

group_read : read group_text ≡ Some over_group
unfolding lex class numeral natural groups heap_of_word ref_of_word number_of_word table head is_utf8 chars encode_utf8 kind_of_word
group_read = refl

-- Another text of the same module: identifiers that a group declares after their use, and a signature that is
-- absent or in its long form
group_of_names : read (codes "(module (func (type 2) (block $l (type $f) (loop (type 2) (block (result (ref null $f)))))) (rec (type $s (struct)) (type $f (func (param (ref $s)) (result (ref null $s))))) (type (func)))") ≡ Some over_group
unfolding lex class numeral natural groups heap_of_word ref_of_word number_of_word table head is_utf8 chars encode_utf8 kind_of_word
group_of_names = refl

group_indexed : IsIndexed over_group
unfolding table
group_indexed = record {
  types = (
    (record { supertypes = tt; composite = tt }, (record { supertypes = tt; composite = record { params = (omega arith, tt); results = (omega arith, tt) } }, tt)),
    ((record { supertypes = tt; composite = record { params = tt; results = tt } }, tt), tt),
  );
  functions = (record { type_index = (_, refl); locals = tt; operators = (tt, (tt, (omega arith, (tt, (tt, (tt, tt)))))) }, tt);
  imports = tt;
  tables = tt;
  tags = tt;
  globals = tt;
  exports = tt;
  start = tt;
  elements = tt;
  data_segments = tt;
}

-- ---- a signature with references after a type index

-- A function without parameters and with this code, after a type with references
abbrev with_references : List ℕ → List ℕ
with_references code = codes "(module (type $f (func (param funcref (ref 0)) (result (ref null $f)))) (type (func)) (func (type 1) " ++ code ++ codes "))"

abbrev over_references : List Operator → Module
over_references os = one_function ((func (to_null Func ∷ to (Index 0) ∷ []) (to_null (Index 0) ∷ []) ∷ []) ∷ (func [] [] ∷ []) ∷ []) 1 os

references_agree : read (with_references (codes "block (type 0) (param funcref (ref 0)) (result (ref null 0)) end (block (type $f) (param (ref null func)) (param (ref $f)) (result (ref null $f))) block (type 0) end"))
    ≡ Some (over_references (block (OfType 0) ∷ end ∷ block (OfType 0) ∷ end ∷ block (OfType 0) ∷ end ∷ []))
unfolding lex class numeral natural groups heap_of_word ref_of_word number_of_word table head is_utf8 chars encode_utf8 kind_of_word
references_agree = refl

-- A non-nullable reference in place of a nullable one, a reference to another type, and a missing reference
references_differ : map (λ c. read (with_references c)) (
    codes "block (type 0) (param (ref func) (ref 0)) (result (ref null 0)) end"
    ∷ codes "block (type 0) (param funcref (ref null 0)) (result (ref null 0)) end"
    ∷ codes "block (type 0) (param funcref (ref 0)) (result (ref 0)) end"
    ∷ codes "block (type 0) (param externref (ref 0)) (result (ref null 0)) end"
    ∷ codes "block (type 0) (param funcref (ref 1)) (result (ref null 0)) end"
    ∷ codes "block (type 0) (param funcref (ref func)) (result (ref null 0)) end"
    ∷ codes "block (type 0) (param funcref i32) (result (ref null 0)) end"
    ∷ codes "block (type 0) (param funcref (ref 0)) end"
    ∷ codes "block (type 0) (param funcref) (result (ref null 0)) end"
    ∷ codes "block (type 0) (param $x funcref) (param (ref 0)) (result (ref null 0)) end"
    ∷ codes "block (type 1) (result (ref null 0)) end"
    ∷ []) ≡ replicate 11 None
unfolding lex class numeral natural groups heap_of_word ref_of_word number_of_word table head is_utf8 chars encode_utf8 kind_of_word
references_differ = refl

-- ---- references to types that are not declared: texts and bytes may contain them; valid modules do not

abbrev with_block : BlockType → Module
with_block t = one_function ((func [] [] ∷ []) ∷ []) 0 (block t ∷ end ∷ [])

last_reference : IsIndexed (with_block (Value (to (Index 0))))
unfolding table
last_reference = record {
  types = ((record { supertypes = tt; composite = record { params = tt; results = tt } }, tt), tt);
  functions = (record { type_index = (_, refl); locals = tt; operators = (omega arith, (tt, tt)) }, tt);
  imports = tt;
  tables = tt;
  tags = tt;
  globals = tt;
  exports = tt;
  start = tt;
  elements = tt;
  data_segments = tt;
}

undeclared_reference : IsIndexed (with_block (Value (to (Index 1)))) → ⊥
unfolding table
undeclared_reference i = omega (arith, i.functions.0.operators.0)

undeclared_null_reference : IsIndexed (with_block (Value (to_null (Index 1)))) → ⊥
unfolding table
undeclared_null_reference i = omega (arith, i.functions.0.operators.0)

undeclared_reference_of_try_table : IsIndexed (one_function ((func [] [] ∷ []) ∷ []) 0 (try_table (Value (to (Index 1))) (All 0 ∷ []) ∷ end ∷ [])) → ⊥
unfolding table
undeclared_reference_of_try_table i = let (block, catches) = i.functions.0.operators.0 in omega (arith, block)

undeclared_reference_read : read (codes "(module (type (func)) (func (type 0) block (result (ref 1)) end))") ≡ Some (with_block (Value (to (Index 1))))
unfolding lex class numeral natural groups heap_of_word ref_of_word number_of_word table head is_utf8 chars encode_utf8 kind_of_word
undeclared_reference_read = refl
