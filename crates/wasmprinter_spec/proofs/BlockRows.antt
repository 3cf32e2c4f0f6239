-- Worked rows of nested operators: what their bytes encode, their printed text, and that the text reads back.
use Rattle.std.specs.Prelude.{◌≡◌, ℕ, pos, List, [], ◌∷◌, ◌++◌, map, true, codes, Some, refl}
use Rattle.std.specs.Fmt.{digits}
use Rattle.std.specs.Char.{encode_utf8}
use Rattle.std.specs.Str.{is_utf8, chars}
use Rattle.wasmprinter_spec.specs.Grammar.{Placed}
use Rattle.wasmprinter_spec.specs.Types as types
use Rattle.wasmprinter_spec.specs.Types.{SubType, signature_at}
use Rattle.wasmprinter_spec.specs.Operator.{Empty, Value, OfType, One, All, Operator}
use Rattle.wasmprinter_spec.specs.Table.{table}
use Rattle.wasmprinter_spec.specs.Placed.{PlacedModule}
use Rattle.wasmprinter_spec.specs.Module.{Module}
use Rattle.wasmprinter_spec.specs.Character.{class}
use Rattle.wasmprinter_spec.specs.Numeral.{numeral, natural, integer}
use Rattle.wasmprinter_spec.specs.Token.{lex}
use Rattle.wasmprinter_spec.specs.Code.{head}
use Rattle.wasmprinter_spec.specs.Text.Items.{groups}
use Rattle.wasmprinter_spec.specs.Text.Types.{heap_of_word, ref_of_word, number_of_word}
use Rattle.wasmprinter_spec.specs.Read.{read}
use Rattle.wasmprinter_spec.specs.Call.{Call, Newline, Line, Name, Keyword, TypeName, Comment, text_of, atoms}
use Rattle.wasmprinter_spec.specs.Options.{defaults}
use Rattle.wasmprinter_spec.specs.Piece.{all_calls, repetition_of, left_in, place_text}
use Rattle.wasmprinter_spec.specs.Layout.Operators.{Form, InLine, OverLines, Setting, expression_pieces}
use Rattle.wasmprinter_spec.proofs.Computing.{composing}
use Rattle.wasmprinter_spec.specs.Text.Exports.{kind_of_word}
use Rattle.wasmprinter_spec.proofs.Samples.{head_bytes, lines, to, to_null, func, bare, i32_const, empty, empty_placed}
use Rattle.wasmprinter_spec.proofs.BlockSamples.{all_samples, sample_types, nop, block, loop, if_op, else_op, try_op, catch_op, catch_all, end, br, delegate, try_table}
use Rattle.wasmprinter_spec.proofs.FromBytes.{text_by, printed_by, spelled}
use Rattle.wasmprinter_spec.proofs.StyledCalls.{plain, in_style}
use Rattle.wasmprinter_spec.specs.Names.{no_names}

-- ---- what bytes encode

samples_spelled : map (λ ss. map (λ s. spelled s.bytes) ss) all_samples ≡ map (λ ss. map (λ s. Some s.operators) ss) all_samples
unfolding table
samples_spelled = refl

-- ---- printed texts

-- The text of a module with one function over i32
abbrev module_lines : List (List ℕ) → List ℕ
module_lines ls = lines (
    codes "(module"
    ∷ codes "  (type (;0;) (func (param i32)))"
    ∷ codes "  (type (;1;) (func (result i32)))"
    ∷ codes "  (func (;0;) (type 0) (param i32)"
    ∷ (map (λ l. codes "    " ++ l) ls
    ++ codes "  )"
    ∷ codes ")"
    ∷ []))

abbrev placed : {A : Type 0} → A → Placed A
placed a = record { place = 0; value = a }

abbrev placed_module : List Operator → PlacedModule
placed_module os = record empty_placed {
  types = map (bare 0) sample_types;
  functions = record { type_index = 0; body = placed (record { locals = []; operators = map placed os; end = 0 }) } ∷ [];
  exports = [];
  size = 0;
}

samples_printed : map (λ ss. map (λ s. text_by defaults (placed_module s.operators)) ss) all_samples ≡ map (λ ss. map (λ s. module_lines s.lines) ss) all_samples
unfolding composing repetition_of digits table
samples_printed = refl

-- ---- reading back

abbrev module_of_code : List Operator → Module
module_of_code os = record empty { types = map (λ t. t ∷ []) sample_types; functions = record { type_index = 0; locals = []; operators = os } ∷ []; exports = [] }

samples_read : map (λ ss. map (λ s. read (module_lines s.lines)) ss) all_samples ≡ map (λ ss. map (λ s. Some (module_of_code s.operators)) ss) all_samples
unfolding lex class numeral natural integer groups heap_of_word ref_of_word number_of_word table head is_utf8 chars encode_utf8 kind_of_word
samples_read = refl

-- ---- single operators, over several lines and in one line

-- The layout's setting for a module with these types
abbrev setting : Form → List SubType → Setting
setting form ts = record { form = form; signature = signature_at ts; nesting = 0; names = no_names; function = 0; body = 0 }

abbrev shown : Form → List SubType → List Operator → List ℕ
shown form ts os = text_of (all_calls defaults (expression_pieces (setting form ts) (map placed os)))

abbrev in_line : List ℕ
in_line = codes "block (result i32)  (; label = @1 ;) i32.const 1 end"

constant_in_line : shown InLine [] (block (Value types.I32) ∷ i32_const (pos 1) ∷ end ∷ []) ≡ in_line
unfolding composing digits table
constant_in_line = refl

constant_reads : read (module_lines (in_line ∷ [])) ≡ Some (module_of_code (block (Value types.I32) ∷ i32_const (pos 1) ∷ end ∷ []))
unfolding lex class numeral natural integer groups heap_of_word ref_of_word number_of_word table head is_utf8 chars encode_utf8 kind_of_word
constant_reads = refl

labels_in_line : shown InLine [] (loop Empty ∷ try_table Empty (All 0 ∷ []) ∷ br 1 ∷ br 3 ∷ end ∷ end ∷ [])
    ≡ codes "loop  (; label = @1 ;) try_table (catch_all 0 (;@1;))  (; label = @2 ;) br 1 (;@1;) br 3 (; INVALID ;) end end"
unfolding composing digits table
labels_in_line = refl

cases_in_line : shown InLine [] (if_op Empty ∷ else_op ∷ try_op Empty ∷ catch_op 2 ∷ nop ∷ catch_all ∷ end ∷ end ∷ try_op Empty ∷ delegate 0 ∷ [])
    ≡ codes "if  (; label = @1 ;) else try  (; label = @2 ;) catch 2 nop catch_all end end try  (; label = @1 ;) delegate 0"
unfolding composing digits table
cases_in_line = refl

-- The parameters and results of a type
whole_signature : shown OverLines (func (types.I32 ∷ types.I64 ∷ []) (types.I64 ∷ []) ∷ []) (block (OfType 0) ∷ end ∷ [])
    ≡ codes "\nblock (type 0) (param i32 i64) (result i64) ;; label = @1\nend"
unfolding composing repetition_of digits table
whole_signature = refl

-- A type without parameters and results, and a type that does not exist
no_signature : shown OverLines (func [] [] ∷ []) (block (OfType 0) ∷ loop (OfType 5) ∷ end ∷ end ∷ [])
    ≡ codes "\nblock (type 0) ;; label = @1\n  loop (type 5) ;; label = @2\n  end\nend"
unfolding composing repetition_of digits table
no_signature = refl

-- ---- calls

abbrev calls_in_line : List SubType → List Operator → List Call
calls_in_line ts os = all_calls defaults (expression_pieces (setting InLine ts) (map placed os))

-- The keyword `result` of a single result includes a space; the keyword `result` of a signature does not.
block_calls : atoms (calls_in_line sample_types (block (Value types.I32) ∷ block (OfType 1) ∷ [])) ≡ atoms (
    plain (codes "block (") ++ in_style Keyword (codes "result ") ++ in_style TypeName (codes "i32") ++ plain (codes ") ") ++ in_style Comment (codes " (; label = @1 ;)")
    ++ plain (codes " block (") ++ in_style Keyword (codes "type ") ++ in_style Name (codes "1") ++ plain (codes ") (") ++ in_style Keyword (codes "result") ++ plain (codes " ") ++ in_style TypeName (codes "i32")
    ++ plain (codes ") ") ++ in_style Comment (codes " (; label = @2 ;)"))
unfolding composing digits table
block_calls = refl

-- References to a type by its index and to heap types by a word
reference_calls : atoms (calls_in_line [] (block (Value (to_null (types.Index 0))) ∷ loop (Value (to_null types.Func)) ∷ if_op (Value (to types.Any)) ∷ [])) ≡ atoms (
    plain (codes "block (") ++ in_style Keyword (codes "result ") ++ plain (codes "(") ++ in_style Keyword (codes "ref") ++ plain (codes " null ") ++ in_style Name (codes "0")
    ++ plain (codes ")) ") ++ in_style Comment (codes " (; label = @1 ;)")
    ++ plain (codes " loop (") ++ in_style Keyword (codes "result ") ++ in_style TypeName (codes "funcref") ++ plain (codes ") ") ++ in_style Comment (codes " (; label = @2 ;)")
    ++ plain (codes " if (") ++ in_style Keyword (codes "result ") ++ plain (codes "(") ++ in_style Keyword (codes "ref ") ++ in_style TypeName (codes "any")
    ++ plain (codes ")) ") ++ in_style Comment (codes " (; label = @3 ;)"))
unfolding composing digits table
reference_calls = refl

-- A label of no open block has no style, and neither has its comment.
label_calls : atoms (calls_in_line [] (block Empty ∷ br 0 ∷ br 1 ∷ br 2 ∷ [])) ≡ atoms (
    plain (codes "block ") ++ in_style Comment (codes " (; label = @1 ;)")
    ++ plain (codes " br ") ++ in_style Name (codes "0") ++ in_style Comment (codes " (;@1;)")
    ++ plain (codes " br ") ++ in_style Name (codes "1")
    ++ plain (codes " br 2 (; INVALID ;)"))
unfolding composing digits table
label_calls = refl

clause_calls : atoms (calls_in_line [] (try_table Empty (One 4 0 ∷ All 1 ∷ []) ∷ [])) ≡ atoms (
    plain (codes "try_table (") ++ in_style Keyword (codes "catch") ++ plain (codes " ") ++ in_style Name (codes "4") ++ plain (codes " ") ++ in_style Name (codes "0")
    ++ plain (codes ") (") ++ in_style Keyword (codes "catch_all") ++ plain (codes " 1 (; INVALID ;)) ") ++ in_style Comment (codes " (; label = @1 ;)"))
unfolding composing digits table
clause_calls = refl

line_calls : atoms (all_calls defaults (expression_pieces (setting OverLines []) (record { place = 9; value = block Empty } ∷ record { place = 11; value = end } ∷ []))) ≡ atoms (
    Newline ∷ Line (Some 9) ∷ plain (codes "block ") ++ in_style Comment (codes ";; label = @1") ++ Newline ∷ Line (Some 11) ∷ plain (codes "end"))
unfolding composing repetition_of digits table
line_calls = refl

-- ---- a module, from its bytes to its text with places

abbrev branching_bytes : List ℕ
branching_bytes =
    head_bytes
    ++ (0x01 ∷ 0x04 ∷ 0x01 ∷ 0x60 ∷ 0x00 ∷ 0x00 ∷ [])
    ++ (0x03 ∷ 0x02 ∷ 0x01 ∷ 0x00 ∷ [])
    ++ (0x0a ∷ 0x0b ∷ 0x01 ∷ 0x09 ∷ 0x00 ∷ 0x02 ∷ 0x40 ∷ 0x0c ∷ 0x00 ∷ 0x0c ∷ 0x01 ∷ 0x0b ∷ 0x0b ∷ [])

with_places : printed_by (record defaults { offsets = true }) branching_bytes ≡ Some (lines (
    codes "(module"
    ∷ codes "(;@b     ;)  (type (;0;) (func))"
    ∷ codes "(;@16    ;)  (func (;0;) (type 0)"
    ∷ codes "(;@17    ;)    block ;; label = @1"
    ∷ codes "(;@19    ;)      br 0 (;@1;)"
    ∷ codes "(;@1b    ;)      br 1"
    ∷ codes "(;@1d    ;)    end"
    ∷ codes "(;@1e    ;)  )"
    ∷ codes "(;@1f    ;))"
    ∷ []))
unfolding composing place_text left_in repetition_of digits table
with_places = refl
