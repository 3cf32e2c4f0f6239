-- Worked rows of modules with name sections: their texts, with identifiers synthesized for items without a name or
-- not, and that these texts read back as the same modules.
use Rattle.std.specs.Prelude.{◌≡◌, ℕ, List, [], ◌∷◌, ◌++◌, true, codes, Some, refl}
use Rattle.wasmprinter_spec.specs.Options.{Options, defaults}
use Rattle.wasmprinter_spec.specs.Read.{read}
use Rattle.wasmprinter_spec.proofs.Samples.{head_bytes, lines, section, custom}
use Rattle.wasmprinter_spec.proofs.Computing.{composing, reading}
use Rattle.wasmprinter_spec.proofs.FromBytes.{decoded, printed_by}

abbrev synthesizing : Options
synthesizing = record defaults { synthesizes = true }

-- A name section with these subsections
abbrev name_section : List ℕ → List ℕ
name_section bytes = custom (codes "name") bytes

-- ---- an exported function with one parameter

abbrev identity : List ℕ
identity =
    section 0x01 (0x01 ∷ 0x60 ∷ 0x01 ∷ 0x7f ∷ 0x01 ∷ 0x7f ∷ [])
    ++ section 0x03 (0x01 ∷ 0x00 ∷ [])
    ++ section 0x07 (0x01 ∷ 0x01 ∷ 0x66 ∷ 0x00 ∷ 0x00 ∷ [])
    ++ section 0x0a (0x01 ∷ 0x04 ∷ 0x00 ∷ 0x20 ∷ 0x00 ∷ 0x0b ∷ [])

-- The parameter has the name x.
abbrev named_parameter : List ℕ
named_parameter = head_bytes ++ (identity ++ name_section (0x02 ∷ 0x06 ∷ 0x01 ∷ 0x00 ∷ 0x01 ∷ 0x00 ∷ 0x01 ∷ 0x78 ∷ []))

abbrev named_parameter_text : List ℕ
named_parameter_text = lines (
    codes "(module"
    ∷ codes "  (type (;0;) (func (param i32) (result i32)))"
    ∷ codes "  (export \"f\" (func 0))"
    ∷ codes "  (func (;0;) (type 0) (param $x i32) (result i32)"
    ∷ codes "    local.get $x"
    ∷ codes "  )"
    ∷ codes ")"
    ∷ [])

named_parameter_prints : printed_by defaults named_parameter ≡ Some named_parameter_text
unfolding composing reading
named_parameter_prints = refl

named_parameter_reads : read named_parameter_text ≡ decoded named_parameter
unfolding reading
named_parameter_reads = refl

-- A truncated name names no item.
abbrev cut_name : List ℕ
cut_name = head_bytes ++ (identity ++ name_section (0x01 ∷ 0x04 ∷ 0x01 ∷ 0x00 ∷ 0x05 ∷ 0x61 ∷ []))

cut_name_prints : printed_by defaults cut_name ≡ printed_by defaults (head_bytes ++ identity)
unfolding composing reading
cut_name_prints = refl

-- A name section may occur anywhere, and more than once.
abbrev apart : List ℕ
apart = head_bytes ++ (name_section (0x01 ∷ 0x04 ∷ 0x01 ∷ 0x00 ∷ 0x01 ∷ 0x67 ∷ []) ++ (identity ++ name_section (0x00 ∷ 0x02 ∷ 0x01 ∷ 0x6d ∷ [])))

abbrev apart_text : List ℕ
apart_text = lines (
    codes "(module $m"
    ∷ codes "  (type (;0;) (func (param i32) (result i32)))"
    ∷ codes "  (export \"f\" (func $g))"
    ∷ codes "  (func $g (;0;) (type 0) (param i32) (result i32)"
    ∷ codes "    local.get 0"
    ∷ codes "  )"
    ∷ codes ")"
    ∷ [])

apart_prints : printed_by defaults apart ≡ Some apart_text
unfolding composing reading
apart_prints = refl

apart_reads : read apart_text ≡ decoded apart
unfolding reading
apart_reads = refl

-- Synthesized identifiers for all items
abbrev synthesized_text_of : List ℕ
synthesized_text_of = lines (
    codes "(module"
    ∷ codes "  (type $#type0 (;0;) (func (param i32) (result i32)))"
    ∷ codes "  (export \"f\" (func $#func0))"
    ∷ codes "  (func $#func0 (;0;) (type $#type0) (param $#local0 i32) (result i32)"
    ∷ codes "    local.get $#local0"
    ∷ codes "  )"
    ∷ codes ")"
    ∷ [])

synthesized_prints : printed_by synthesizing (head_bytes ++ identity) ≡ Some synthesized_text_of
unfolding composing reading
synthesized_prints = refl

synthesized_reads : read synthesized_text_of ≡ decoded (head_bytes ++ identity)
unfolding reading
synthesized_reads = refl

-- ---- functions whose names cannot be their identifiers

-- Function 0 is `a` in one subsection, and 1 is `a` in a second one. Function 2 has an empty name, 3 is `#x` and 4
-- is `a b`.
abbrev equal_names : List ℕ
equal_names =
    head_bytes
    ++ (section 0x01 (0x01 ∷ 0x60 ∷ 0x00 ∷ 0x00 ∷ [])
    ++ (section 0x03 (0x05 ∷ 0x00 ∷ 0x00 ∷ 0x00 ∷ 0x00 ∷ 0x00 ∷ [])
    ++ (section 0x0a (0x05 ∷ 0x02 ∷ 0x00 ∷ 0x0b ∷ 0x02 ∷ 0x00 ∷ 0x0b ∷ 0x02 ∷ 0x00 ∷ 0x0b ∷ 0x02 ∷ 0x00 ∷ 0x0b ∷ 0x04 ∷ 0x00 ∷ 0x10 ∷ 0x01 ∷ 0x0b ∷ [])
    ++ name_section (
    section 0x01 (0x01 ∷ 0x00 ∷ 0x01 ∷ codes "a")
    ++ section 0x01 (0x04 ∷ 0x01 ∷ 0x01 ∷ (codes "a" ++ (0x02 ∷ 0x00 ∷ 0x03 ∷ 0x02 ∷ (codes "#x" ++ (0x04 ∷ 0x03 ∷ codes "a b")))))))))

abbrev equal_names_text : List ℕ
equal_names_text = lines (
    codes "(module"
    ∷ codes "  (type (;0;) (func))"
    ∷ codes "  (func $a (;0;) (type 0))"
    ∷ codes "  (func $\"#func1 a\" (@name \"a\") (;1;) (type 0))"
    ∷ codes "  (func $\"#func2 \" (@name \"\") (;2;) (type 0))"
    ∷ codes "  (func $\"#func3 #x\" (@name \"#x\") (;3;) (type 0))"
    ∷ codes "  (func $\"a b\" (;4;) (type 0)"
    ∷ codes "    call $\"#func1 a\""
    ∷ codes "  )"
    ∷ codes ")"
    ∷ [])

equal_names_print : printed_by defaults equal_names ≡ Some equal_names_text
unfolding composing reading
equal_names_print = refl

equal_names_read : read equal_names_text ≡ decoded equal_names
unfolding reading
equal_names_read = refl

-- ---- parameters and locals: each with a name has its own group; adjacent ones without a name share a group

-- Parameters of i32, i64 and i32, the second with the name `p`; locals of i32, i32 and f32, the last with the name
-- `l`, and an entry of 0 locals after it
abbrev variables : List ℕ
variables =
    head_bytes
    ++ (section 0x01 (0x01 ∷ 0x60 ∷ 0x03 ∷ 0x7f ∷ 0x7e ∷ 0x7f ∷ 0x00 ∷ [])
    ++ (section 0x03 (0x01 ∷ 0x00 ∷ [])
    ++ (section 0x0a (0x01 ∷ 0x0a ∷ 0x03 ∷ 0x02 ∷ 0x7f ∷ 0x01 ∷ 0x7d ∷ 0x00 ∷ 0x7c ∷ 0x20 ∷ 0x05 ∷ 0x0b ∷ [])
    ++ name_section (section 0x02 (0x01 ∷ 0x00 ∷ 0x02 ∷ 0x01 ∷ 0x01 ∷ (codes "p" ++ (0x05 ∷ 0x01 ∷ codes "l")))))))

abbrev variables_text : List ℕ
variables_text = lines (
    codes "(module"
    ∷ codes "  (type (;0;) (func (param i32 i64 i32)))"
    ∷ codes "  (func (;0;) (type 0) (param i32) (param $p i64) (param i32)"
    ∷ codes "    (local i32 i32) (local $l f32)"
    ∷ codes "    local.get $l"
    ∷ codes "  )"
    ∷ codes ")"
    ∷ [])

variables_print : printed_by defaults variables ≡ Some variables_text
unfolding composing reading
variables_print = refl

variables_read : read variables_text ≡ decoded variables
unfolding reading
variables_read = refl

abbrev synthesized_variables_text : List ℕ
synthesized_variables_text = lines (
    codes "(module"
    ∷ codes "  (type $#type0 (;0;) (func (param i32 i64 i32)))"
    ∷ codes "  (func $#func0 (;0;) (type $#type0) (param $#local0 i32) (param $p i64) (param $#local2 i32)"
    ∷ codes "    (local $#local3 i32) (local $#local4 i32) (local $l f32)"
    ∷ codes "    local.get $l"
    ∷ codes "  )"
    ∷ codes ")"
    ∷ [])

synthesized_variables_print : printed_by synthesizing variables ≡ Some synthesized_variables_text
unfolding composing reading
synthesized_variables_print = refl

synthesized_variables_read : read synthesized_variables_text ≡ decoded variables
unfolding reading
synthesized_variables_read = refl

-- ---- types and their fields

-- Type 0 is a structure `point` with a field `x` and a field without a name. Type 1 is an array of references to
-- it, and a subtype without supertypes.
abbrev structures : List ℕ
structures =
    head_bytes
    ++ (section 0x01 (0x03 ∷ 0x5f ∷ 0x02 ∷ 0x7f ∷ 0x01 ∷ 0x78 ∷ 0x00 ∷ 0x50 ∷ 0x00 ∷ 0x5e ∷ 0x63 ∷ 0x00 ∷ 0x00 ∷ 0x60 ∷ 0x01 ∷ 0x64 ∷ 0x00 ∷ 0x00 ∷ [])
    ++ (section 0x03 (0x01 ∷ 0x02 ∷ [])
    ++ (section 0x0a (0x01 ∷ 0x0a ∷ 0x00 ∷ 0x20 ∷ 0x00 ∷ 0x41 ∷ 0x05 ∷ 0xfb ∷ 0x05 ∷ 0x00 ∷ 0x00 ∷ 0x0b ∷ [])
    ++ name_section (
    section 0x04 (0x01 ∷ 0x00 ∷ 0x05 ∷ codes "point")
    ++ section 0x0a (0x01 ∷ 0x00 ∷ 0x01 ∷ 0x00 ∷ 0x01 ∷ codes "x")))))

abbrev structures_text : List ℕ
structures_text = lines (
    codes "(module"
    ∷ codes "  (type $point (;0;) (struct (field $x (mut i32)) (field i8)))"
    ∷ codes "  (type (;1;) (sub (array (ref null $point))))"
    ∷ codes "  (type (;2;) (func (param (ref $point))))"
    ∷ codes "  (func (;0;) (type 2) (param (ref $point))"
    ∷ codes "    local.get 0"
    ∷ codes "    i32.const 5"
    ∷ codes "    struct.set $point $x"
    ∷ codes "  )"
    ∷ codes ")"
    ∷ [])

structures_print : printed_by defaults structures ≡ Some structures_text
unfolding composing reading
structures_print = refl

structures_read : read structures_text ≡ decoded structures
unfolding reading
structures_read = refl

-- ---- all kinds of items

-- An imported function `imp` with a parameter `a`, an imported tag, a table `t`, a memory `m`, a global `g`, an
-- element segment `e`, a data segment `d`, uses of them, and a start function
abbrev items : List ℕ
items =
    head_bytes
    ++ (section 0x01 (0x02 ∷ 0x60 ∷ 0x01 ∷ 0x7f ∷ 0x00 ∷ 0x60 ∷ 0x00 ∷ 0x00 ∷ [])
    ++ (section 0x02 (0x02 ∷ 0x01 ∷ 0x73 ∷ 0x01 ∷ 0x66 ∷ 0x00 ∷ 0x00 ∷ 0x01 ∷ 0x73 ∷ 0x01 ∷ 0x65 ∷ 0x04 ∷ 0x00 ∷ 0x00 ∷ [])
    ++ (section 0x03 (0x01 ∷ 0x01 ∷ [])
    ++ (section 0x04 (0x01 ∷ 0x70 ∷ 0x00 ∷ 0x01 ∷ [])
    ++ (section 0x05 (0x01 ∷ 0x00 ∷ 0x01 ∷ [])
    ++ (section 0x06 (0x01 ∷ 0x7f ∷ 0x00 ∷ 0x41 ∷ 0x07 ∷ 0x0b ∷ [])
    ++ (section 0x07 (0x02 ∷ 0x01 ∷ 0x67 ∷ 0x03 ∷ 0x00 ∷ 0x01 ∷ 0x65 ∷ 0x04 ∷ 0x00 ∷ [])
    ++ (section 0x08 (0x01 ∷ [])
    ++ (section 0x09 (0x01 ∷ 0x02 ∷ 0x00 ∷ 0x23 ∷ 0x00 ∷ 0x0b ∷ 0x00 ∷ 0x02 ∷ 0x00 ∷ 0x01 ∷ [])
    ++ (section 0x0a (0x01 ∷ 0x10 ∷ 0x00 ∷ 0x41 ∷ 0x00 ∷ 0x28 ∷ 0x02 ∷ 0x00 ∷ 0x25 ∷ 0x00 ∷ 0x1a ∷ 0x3f ∷ 0x00 ∷ 0x10 ∷ 0x00 ∷ 0x08 ∷ 0x00 ∷ 0x0b ∷ [])
    ++ (section 0x0b (0x01 ∷ 0x01 ∷ 0x01 ∷ 0x61 ∷ [])
    ++ name_section (
    section 0x00 (0x03 ∷ codes "mod")
    ++ section 0x01 (0x02 ∷ 0x00 ∷ 0x03 ∷ (codes "imp" ++ (0x01 ∷ 0x04 ∷ codes "main")))
    ++ section 0x02 (0x01 ∷ 0x00 ∷ 0x01 ∷ 0x00 ∷ 0x01 ∷ codes "a")
    ++ section 0x05 (0x01 ∷ 0x00 ∷ 0x01 ∷ codes "t")
    ++ section 0x06 (0x01 ∷ 0x00 ∷ 0x01 ∷ codes "m")
    ++ section 0x07 (0x01 ∷ 0x00 ∷ 0x01 ∷ codes "g")
    ++ section 0x08 (0x01 ∷ 0x00 ∷ 0x01 ∷ codes "e")
    ++ section 0x09 (0x01 ∷ 0x00 ∷ 0x01 ∷ codes "d")
    ++ section 0x0b (0x01 ∷ 0x00 ∷ 0x03 ∷ codes "exc")))))))))))))

abbrev items_text : List ℕ
items_text = lines (
    codes "(module $mod"
    ∷ codes "  (type (;0;) (func (param i32)))"
    ∷ codes "  (type (;1;) (func))"
    ∷ codes "  (import \"s\" \"f\" (func $imp (;0;) (type 0) (param $a i32)))"
    ∷ codes "  (import \"s\" \"e\" (tag $exc (;0;) (type 0) (param i32)))"
    ∷ codes "  (table $t (;0;) 1 funcref)"
    ∷ codes "  (memory $m (;0;) 1)"
    ∷ codes "  (global $g (;0;) i32 i32.const 7)"
    ∷ codes "  (export \"g\" (global $g))"
    ∷ codes "  (export \"e\" (tag 0))"
    ∷ codes "  (start $main)"
    ∷ codes "  (elem $e (;0;) (table $t) (global.get $g) func $imp $main)"
    ∷ codes "  (func $main (;1;) (type 1)"
    ∷ codes "    i32.const 0"
    ∷ codes "    i32.load"
    ∷ codes "    table.get $t"
    ∷ codes "    drop"
    ∷ codes "    memory.size"
    ∷ codes "    call $imp"
    ∷ codes "    throw $exc"
    ∷ codes "  )"
    ∷ codes "  (data $d (;0;) \"a\")"
    ∷ codes ")"
    ∷ [])

items_print : printed_by defaults items ≡ Some items_text
unfolding composing reading
items_print = refl

items_read : read items_text ≡ decoded items
unfolding reading
items_read = refl

-- ---- labels of expressions outside functions

-- One imported function and one defined function. Label 0 of the imported one has the name a, label 0 of the
-- defined one the name b.
abbrev label_of_global : List ℕ
label_of_global =
    head_bytes
    ++ (section 0x01 (0x01 ∷ 0x60 ∷ 0x00 ∷ 0x00 ∷ [])
    ++ (section 0x02 (0x01 ∷ 0x01 ∷ 0x6d ∷ 0x01 ∷ 0x66 ∷ 0x00 ∷ 0x00 ∷ [])
    ++ (section 0x03 (0x01 ∷ 0x00 ∷ [])
    ++ (section 0x06 (0x01 ∷ 0x7f ∷ 0x00 ∷ 0x02 ∷ 0x7f ∷ 0x41 ∷ 0x01 ∷ 0x0c ∷ 0x00 ∷ 0x0b ∷ 0x0b ∷ [])
    ++ (section 0x0a (0x01 ∷ 0x02 ∷ 0x00 ∷ 0x0b ∷ [])
    ++ name_section (0x03 ∷ 0x0b ∷ 0x02 ∷ 0x00 ∷ 0x01 ∷ 0x00 ∷ 0x01 ∷ 0x61 ∷ 0x01 ∷ 0x01 ∷ 0x00 ∷ 0x01 ∷ 0x62 ∷ []))))))

abbrev label_of_global_text : List ℕ
label_of_global_text = lines (
    codes "(module"
    ∷ codes "  (type (;0;) (func))"
    ∷ codes "  (import \"m\" \"f\" (func (;0;) (type 0)))"
    ∷ codes "  (global (;0;) i32 block $b (result i32) i32.const 1 br $b end)"
    ∷ codes "  (func (;1;) (type 0))"
    ∷ codes ")"
    ∷ [])

label_of_global_prints : printed_by defaults label_of_global ≡ Some label_of_global_text
unfolding composing reading
label_of_global_prints = refl

label_of_global_reads : read label_of_global_text ≡ decoded label_of_global
unfolding reading
label_of_global_reads = refl

-- One function. Element segments use its labels. Data segments use the labels of the function that would come
-- next.
abbrev labels_of_segments : List ℕ
labels_of_segments =
    head_bytes
    ++ (section 0x01 (0x01 ∷ 0x60 ∷ 0x00 ∷ 0x00 ∷ [])
    ++ (section 0x03 (0x01 ∷ 0x00 ∷ [])
    ++ (section 0x09 (0x01 ∷ 0x00 ∷ 0x02 ∷ 0x7f ∷ 0x41 ∷ 0x01 ∷ 0x0b ∷ 0x0b ∷ 0x00 ∷ [])
    ++ (section 0x0a (0x01 ∷ 0x02 ∷ 0x00 ∷ 0x0b ∷ [])
    ++ (section 0x0b (0x01 ∷ 0x00 ∷ 0x02 ∷ 0x7f ∷ 0x41 ∷ 0x01 ∷ 0x0b ∷ 0x0b ∷ 0x01 ∷ 0x61 ∷ [])
    ++ name_section (0x03 ∷ 0x0b ∷ 0x02 ∷ 0x00 ∷ 0x01 ∷ 0x00 ∷ 0x01 ∷ 0x61 ∷ 0x01 ∷ 0x01 ∷ 0x00 ∷ 0x01 ∷ 0x62 ∷ []))))))

abbrev labels_of_segments_text : List ℕ
labels_of_segments_text = lines (
    codes "(module"
    ∷ codes "  (type (;0;) (func))"
    ∷ codes "  (elem (;0;) (offset block $a (result i32) i32.const 1 end) func)"
    ∷ codes "  (func (;0;) (type 0))"
    ∷ codes "  (data (;0;) (offset block $b (result i32) i32.const 1 end) \"a\")"
    ∷ codes ")"
    ∷ [])

labels_of_segments_print : printed_by defaults labels_of_segments ≡ Some labels_of_segments_text
unfolding composing reading
labels_of_segments_print = refl

labels_of_segments_read : read labels_of_segments_text ≡ decoded labels_of_segments
unfolding reading
labels_of_segments_read = refl
