-- Worked rows of the layout: the texts and the calls of single modules.
use Rattle.std.specs.Prelude.{◌≡◌, ℕ, List, [], ◌∷◌, ◌++◌, true, codes, replicate, Option, Some, None, refl}
use Rattle.std.specs.Fmt.{digits}
use Rattle.std.specs.Str.{chars}
use Rattle.wasmprinter_spec.specs.Table.{table}
use Rattle.wasmprinter_spec.specs.Placed.{PlacedModule}
use Rattle.wasmprinter_spec.specs.Call.{Call, Text, Newline, Line, Start, Claim, Literal, Name, Keyword, TypeName, Comment, Reset, atoms}
use Rattle.wasmprinter_spec.specs.Options.{Options, defaults}
use Rattle.wasmprinter_spec.specs.Quoted.{char_text, byte_text, quoted_text, quoted_bytes}
use Rattle.wasmprinter_spec.specs.Piece.{Break, repetition_of, left_in, place_text, text}
use Rattle.wasmprinter_spec.specs.Layout.{layout}
use Rattle.wasmprinter_spec.proofs.Computing.{composing}
use Rattle.wasmprinter_spec.proofs.Samples.{lines, empty_placed, identity_placed, identity_text, identity_text_with_offsets, stored_placed, stored_text, mixed_placed, mixed_text}
use Rattle.wasmprinter_spec.proofs.FromBytes.{unclaimed, skeleton, text_by}
use Rattle.wasmprinter_spec.proofs.StyledCalls.{plain, in_style}

abbrev all_calls : Options → PlacedModule → List Call
all_calls o m = layout o unclaimed m

abbrev with_offsets : Options
with_offsets = record defaults { offsets = true }

-- The places of the `Line` calls
abbrev line_places : List Call → List (Option ℕ)
line_places [] = []
line_places (Line place ∷ cs) = place ∷ line_places cs
line_places (c ∷ cs) = line_places cs

-- ---- the module without fields

empty_plain : text_by defaults empty_placed ≡ codes "(module)\n"
unfolding composing
empty_plain = refl

empty_with_offsets : text_by with_offsets empty_placed ≡ codes "(module\n(;@8     ;))\n"
unfolding composing place_text left_in repetition_of digits
empty_with_offsets = refl

empty_calls : atoms (all_calls defaults empty_placed) ≡ atoms (Line (Some 0) ∷ Text (codes "(") ∷ Start Keyword ∷ Text (codes "module") ∷ Start Reset ∷ Text (codes ")") ∷ Newline ∷ [])
unfolding composing
empty_calls = refl

-- ---- an exported function

identity_plain : text_by defaults identity_placed ≡ identity_text
unfolding composing repetition_of digits table char_text quoted_text chars
identity_plain = refl

identity_with_offsets : text_by with_offsets identity_placed ≡ identity_text_with_offsets
unfolding composing repetition_of left_in place_text digits table char_text quoted_text chars
identity_with_offsets = refl

identity_skeleton : text_by skeleton identity_placed ≡ lines (
    codes "(module"
    ∷ codes "  (type (;0;) (func (param i32) (result i32)))"
    ∷ codes "  (export \"f\" (func 0))"
    ∷ codes "  (func (;0;) (type 0) (param i32) (result i32) ...)"
    ∷ codes ")"
    ∷ [])
unfolding composing repetition_of digits char_text quoted_text chars
identity_skeleton = refl

identity_skeleton_with_offsets : text_by (record skeleton { offsets = true }) identity_placed ≡ lines (
    codes "(module"
    ∷ codes "(;@b     ;)  (type (;0;) (func (param i32) (result i32)))"
    ∷ codes "(;@17    ;)  (export \"f\" (func 0))"
    ∷ codes "(;@1f    ;)  (func (;0;) (type 0) (param i32) (result i32) ...)"
    ∷ codes "(;@23    ;))"
    ∷ [])
unfolding composing repetition_of left_in place_text digits char_text quoted_text chars
identity_skeleton_with_offsets = refl

identity_without_indent : text_by (record defaults { indent = [] }) identity_placed ≡ lines (
    codes "(module"
    ∷ codes "(type (;0;) (func (param i32) (result i32)))"
    ∷ codes "(export \"f\" (func 0))"
    ∷ codes "(func (;0;) (type 0) (param i32) (result i32)"
    ∷ codes "local.get 0"
    ∷ codes ")"
    ∷ codes ")"
    ∷ [])
unfolding composing repetition_of digits table char_text quoted_text chars
identity_without_indent = refl

identity_line_places : line_places (all_calls defaults identity_placed) ≡ Some 0 ∷ Some 0xb ∷ Some 0x17 ∷ Some 0x1f ∷ Some 0x20 ∷ Some 0x22 ∷ Some 0x23 ∷ []
unfolding composing table
identity_line_places = refl

-- ---- a function with a local

stored_plain : text_by defaults stored_placed ≡ stored_text
unfolding composing repetition_of digits table
stored_plain = refl

stored_line_places : line_places (all_calls defaults stored_placed) ≡ Some 0 ∷ Some 0xb ∷ Some 0x17 ∷ Some 0x18 ∷ Some 0x1a ∷ Some 0x1c ∷ Some 0x1e ∷ Some 0x20 ∷ Some 0x21 ∷ []
unfolding composing table
stored_line_places = refl

-- ---- all calls

-- `atoms` keeps each call, but not how text is split.
atoms_of_calls : atoms (Text (codes "ab") ∷ Newline ∷ Text [] ∷ Line None ∷ Start Name ∷ Claim (codes "n") 9 (1 ∷ []) true ∷ Text (codes "c") ∷ [])
    ≡ Text (codes "a") ∷ Text (codes "b") ∷ Newline ∷ Line None ∷ Start Name ∷ Claim (codes "n") 9 (1 ∷ []) true ∷ Text (codes "c") ∷ []
atoms_of_calls = refl

abbrev stored_calls : List Call
stored_calls =
    Line (Some 0) ∷ plain (codes "(") ++ in_style Keyword (codes "module")
    ++ Newline ∷ Line (Some 0xb) ∷ in_style Comment (codes "(;@b     ;)") ++ plain (codes "  (") ++ in_style Keyword (codes "type ") ++ in_style Name (codes "(;0;)")
    ++ plain (codes " (") ++ in_style Keyword (codes "func") ++ plain (codes " (") ++ in_style Keyword (codes "result") ++ plain (codes " ") ++ in_style TypeName (codes "i64") ++ plain (codes ")))")
    ++ Newline ∷ Line (Some 0x17) ∷ in_style Comment (codes "(;@17    ;)") ++ plain (codes "  (") ++ in_style Keyword (codes "func ") ++ in_style Name (codes "(;0;)")
    ++ plain (codes " (") ++ in_style Keyword (codes "type ") ++ in_style Name (codes "0") ++ plain (codes ") (") ++ in_style Keyword (codes "result") ++ plain (codes " ") ++ in_style TypeName (codes "i64") ++ plain (codes ")")
    ++ Newline ∷ Line (Some 0x18) ∷ in_style Comment (codes "(;@18    ;)") ++ plain (codes "    (") ++ in_style Keyword (codes "local") ++ plain (codes " ") ++ in_style TypeName (codes "i64") ++ plain (codes ")")
    ++ Newline ∷ Line (Some 0x1a) ∷ in_style Comment (codes "(;@1a    ;)") ++ plain (codes "    i64.const") ++ in_style Literal (codes " -1")
    ++ Newline ∷ Line (Some 0x1c) ∷ in_style Comment (codes "(;@1c    ;)") ++ plain (codes "    local.set ") ++ in_style Name (codes "0")
    ++ Newline ∷ Line (Some 0x1e) ∷ in_style Comment (codes "(;@1e    ;)") ++ plain (codes "    local.get ") ++ in_style Name (codes "0")
    ++ Newline ∷ Line (Some 0x20) ∷ in_style Comment (codes "(;@20    ;)") ++ plain (codes "  )")
    ++ Newline ∷ Line (Some 0x21) ∷ in_style Comment (codes "(;@21    ;)") ++ plain (codes ")")
    ++ Newline ∷ []

identity_skeleton_calls : atoms (all_calls skeleton identity_placed) ≡ atoms (
    Line (Some 0) ∷ plain (codes "(") ++ in_style Keyword (codes "module")
    ++ Newline ∷ Line (Some 0xb) ∷ plain (codes "  (") ++ in_style Keyword (codes "type ") ++ in_style Name (codes "(;0;)")
    ++ plain (codes " (") ++ in_style Keyword (codes "func")
    ++ plain (codes " (") ++ in_style Keyword (codes "param") ++ plain (codes " ") ++ in_style TypeName (codes "i32") ++ plain (codes ")")
    ++ plain (codes " (") ++ in_style Keyword (codes "result") ++ plain (codes " ") ++ in_style TypeName (codes "i32") ++ plain (codes ")))")
    ++ Newline ∷ Line (Some 0x17) ∷ plain (codes "  (") ++ in_style Keyword (codes "export ") ++ in_style Literal (codes "\"f\"")
    ++ plain (codes " (") ++ in_style Keyword (codes "func ") ++ in_style Name (codes "0") ++ plain (codes "))")
    ++ Newline ∷ Line (Some 0x1f) ∷ plain (codes "  (") ++ in_style Keyword (codes "func ") ++ in_style Name (codes "(;0;)")
    ++ plain (codes " (") ++ in_style Keyword (codes "type ") ++ in_style Name (codes "0") ++ plain (codes ")")
    ++ plain (codes " (") ++ in_style Keyword (codes "param") ++ plain (codes " ") ++ in_style TypeName (codes "i32") ++ plain (codes ")")
    ++ plain (codes " (") ++ in_style Keyword (codes "result") ++ plain (codes " ") ++ in_style TypeName (codes "i32") ++ plain (codes ") ...)")
    ++ Newline ∷ Line (Some 0x23) ∷ plain (codes ")")
    ++ Newline ∷ [])
unfolding composing repetition_of digits char_text quoted_text chars
identity_skeleton_calls = refl

stored_all_calls : atoms (all_calls with_offsets stored_placed) ≡ atoms stored_calls
unfolding composing repetition_of left_in place_text digits table
stored_all_calls = refl

-- ---- several types, functions, locals and results

-- The locals of all entries are on one line, with the place of the first entry that declares a local. A type that
-- does not exist has no signature.
mixed_plain : text_by defaults mixed_placed ≡ mixed_text
unfolding composing repetition_of digits table char_text quoted_text chars
mixed_plain = refl

-- With offsets, the closing parentheses of functions are on lines of their own.
mixed_line_places : line_places (all_calls with_offsets mixed_placed) ≡
    Some 0 ∷ Some 0xb ∷ Some 0xe ∷ Some 0x1e ∷ Some 0x24
    ∷ Some 0x2b ∷ Some 0x2c
    ∷ Some 0x2e ∷ Some 0x31 ∷ Some 0x37 ∷ Some 0x3d ∷ Some 0x3e ∷ Some 0x49 ∷ Some 0x4f ∷ Some 0x50
    ∷ Some 0x52 ∷ Some 0x55
    ∷ Some 0x56 ∷ []
unfolding composing table
mixed_line_places = refl

-- ---- starts of lines

-- A place of more than six digits
long_place : place_text (Some 0xabcdef0) ≡ codes "(;@abcdef0;)"
unfolding place_text left_in digits
long_place = refl

no_place : text with_offsets (Break None 2) ≡ codes "\n               "
unfolding place_text repetition_of
no_place = refl

-- At most fifty levels are indented.
deep_line : text defaults (Break (Some 0x10) 60) ≡ 10 ∷ replicate 100 32
unfolding repetition_of
deep_line = refl

other_indent : text (record defaults { indent = codes "\t." }) (Break None 3) ≡ codes "\n\t.\t.\t."
unfolding repetition_of
other_indent = refl

-- ---- quoted strings

plain_characters : quoted_text (codes " !#$%&'()[]{}~aZ09;@") ≡ codes "\" !#$%&'()[]{}~aZ09;@\""
unfolding quoted_text char_text
plain_characters = refl

escaped_characters : quoted_text (0x1b ∷ 0xe9 ∷ 0x22 ∷ 0x5c ∷ 0x1f ∷ 0x7f ∷ 0x0a ∷ 0x00 ∷ 0x1f600 ∷ []) ≡ codes "\"\\u{1b}\\u{e9}\\u{22}\\u{5c}\\u{1f}\\u{7f}\\u{a}\\u{0}\\u{1f600}\""
unfolding quoted_text char_text digits
escaped_characters = refl

-- Bytes beyond ASCII are escaped one by one, not as characters.
escaped_high_bytes : quoted_bytes (0x20 ∷ 0x5c ∷ 0x7e ∷ 0x7f ∷ 0xc3 ∷ 0xa9 ∷ 0xff ∷ []) ≡ codes "\" \\5c~\\7f\\c3\\a9\\ff\""
unfolding quoted_bytes byte_text
escaped_high_bytes = refl
