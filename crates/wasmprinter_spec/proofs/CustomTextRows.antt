-- Worked rows of custom sections and branch hints: the texts of modules, the calls that ask for claims, and that
-- the texts read back as the same modules.
use Rattle.std.specs.Prelude.{◌≡◌, ℕ, List, [], ◌∷◌, ◌++◌, length, map, true, false, ◌==◌, codes, Option, Some, None, option_map, refl}
use Rattle.wasmprinter_spec.specs.Grammar.{◌>>=◌}
use Rattle.wasmprinter_spec.specs.Call.{Call, Claim, text_of}
use Rattle.wasmprinter_spec.specs.Options.{defaults, Answers}
use Rattle.wasmprinter_spec.specs.Layout.{layout, refusal}
use Rattle.wasmprinter_spec.specs.Read.{read}
use Rattle.wasmprinter_spec.specs.HintsOfModule.{operator_hint, module_hints}
use Rattle.wasmprinter_spec.specs.Text.Hints.{text_hints}
use Rattle.wasmprinter_spec.proofs.Samples.{head_bytes, lines, section, custom, hinted}
use Rattle.wasmprinter_spec.proofs.Computing.{composing, reading}
use Rattle.wasmprinter_spec.proofs.FromBytes.{parsed, decoded, unclaimed, skeleton, printed_by, printed}

-- The text of a module, with these answers to claims
abbrev printed_with : Answers → List ℕ → Option (List ℕ)
printed_with answers bytes = option_map (λ m. text_of (layout defaults answers m)) (parsed bytes)

abbrev refused : List ℕ → Option ℕ
refused bytes = parsed bytes >>= λ m. refusal defaults unclaimed m

-- The calls that ask for claims
abbrev claims : List Call → List Call
claims [] = []
claims (Claim name place bytes answer ∷ cs) = Claim name place bytes answer ∷ claims cs
claims (c ∷ cs) = claims cs

abbrev memory : List ℕ
memory = section 0x05 (0x01 ∷ 0x00 ∷ 0x01 ∷ [])

-- ---- raw sections

-- A custom section before all others, except an empty section, which is no place; and one after a memory section
abbrev raw : List ℕ
raw = head_bytes ++ (section 0x01 (0x00 ∷ []) ++ (custom (codes "a") (0x01 ∷ []) ++ (memory ++ custom (codes "b") [])))

abbrev raw_text : List ℕ
raw_text = lines (
    codes "(module"
    ∷ codes "  (@custom \"a\" (before first) \"\\01\")"
    ∷ codes "  (memory (;0;) 1)"
    ∷ codes "  (@custom \"b\" (after memory) \"\")"
    ∷ codes ")"
    ∷ [])

raw_prints : printed raw ≡ Some raw_text
unfolding composing reading
raw_prints = refl

raw_reads : read raw_text ≡ decoded raw
unfolding reading
raw_reads = refl

-- The second custom section is claimed: nothing of it is printed. The printer is asked about both sections, with
-- their places.
abbrev second : Answers
second = λ n. n == 1

claimed_prints : printed_with second raw ≡ Some (lines (codes "(module" ∷ codes "  (@custom \"a\" (before first) \"\\01\")" ∷ codes "  (memory (;0;) 1)" ∷ codes ")" ∷ []))
unfolding composing reading
claimed_prints = refl

claims_asked : option_map (λ m. claims (layout defaults second m)) (parsed raw) ≡ Some (Claim (codes "a") 15 (0x01 ∷ []) false ∷ Claim (codes "b") 25 [] true ∷ [])
unfolding composing reading
claims_asked = refl

-- Three sections at one place, of which the middle one is claimed
abbrev three : List ℕ
three = head_bytes ++ (custom (codes "a") [] ++ (custom (codes "dylink.0") (0x09 ∷ 0x00 ∷ []) ++ custom (codes "b") []))

middle_prints : printed_with second three ≡ Some (lines (codes "(module" ∷ codes "  (@custom \"a\" (before first) \"\")" ∷ codes "  (@custom \"b\" (before first) \"\")" ∷ codes ")" ∷ []))
unfolding composing reading
middle_prints = refl

middle_asked : option_map (λ m. claims (layout defaults second m)) (parsed three)
    ≡ Some (Claim (codes "a") 12 [] false ∷ Claim (codes "dylink.0") 23 (0x09 ∷ 0x00 ∷ []) true ∷ Claim (codes "b") 29 [] false ∷ [])
unfolding composing reading
middle_asked = refl

-- If the middle section is not claimed, it is refused, and the printer is not asked about the third.
middle_refused : refused three ≡ Some 9
unfolding composing reading
middle_refused = refl

asked_up_to : option_map (λ m. claims (layout defaults unclaimed m)) (parsed three) ≡ Some (Claim (codes "a") 12 [] false ∷ Claim (codes "dylink.0") 23 (0x09 ∷ 0x00 ∷ []) false ∷ [])
unfolding composing reading
asked_up_to = refl

-- The same section twice
abbrev twice : List ℕ
twice = head_bytes ++ (custom (codes "a") (0x01 ∷ []) ++ custom (codes "a") (0x01 ∷ []))

abbrev twice_text : List ℕ
twice_text = lines (codes "(module" ∷ codes "  (@custom \"a\" (before first) \"\\01\")" ∷ codes "  (@custom \"a\" (before first) \"\\01\")" ∷ codes ")" ∷ [])

twice_prints : printed twice ≡ Some twice_text
unfolding composing reading
twice_prints = refl

twice_reads : read twice_text ≡ decoded twice
unfolding reading
twice_reads = refl

-- Bytes that are not UTF-8 are no name.
odd_name : parsed (head_bytes ++ section 0x00 (0x01 ∷ 0xff ∷ [])) ≡ None
unfolding reading
odd_name = refl

-- In a skeleton, `...` replaces the bytes.
skeleton_prints : printed_by skeleton raw ≡ Some (lines (
    codes "(module"
    ∷ codes "  (@custom \"a\" (before first) ...)"
    ∷ codes "  (memory (;0;) 1)"
    ∷ codes "  (@custom \"b\" (after memory) ...)"
    ∷ codes ")"
    ∷ []))
unfolding composing reading
skeleton_prints = refl

-- ---- `producers`

abbrev with_producers : List ℕ → List ℕ
with_producers bytes = head_bytes ++ custom (codes "producers") bytes

abbrev rust : List ℕ
rust = with_producers (0x01 ∷ 0x08 ∷ (codes "language" ++ (0x01 ∷ 0x04 ∷ (codes "Rust" ++ (0x00 ∷ [])))))

abbrev rust_text : List ℕ
rust_text = lines (codes "(module" ∷ codes "  (@producers" ∷ codes "    (language \"Rust\" \"\")" ∷ codes "  )" ∷ codes ")" ∷ [])

rust_prints : printed rust ≡ Some rust_text
unfolding composing reading
rust_prints = refl

rust_reads : read rust_text ≡ decoded rust
unfolding reading
rust_reads = refl

-- Fields that look like other tokens: `$`, `@`, and `@custom`, which is no custom section here. Each has one
-- value.
abbrev sized : List ℕ → List ℕ
sized t = length t ∷ t

abbrev field : List ℕ → List ℕ → List ℕ → List ℕ
field name value version = sized name ++ (0x01 ∷ (sized value ++ sized version))

abbrev odd : List ℕ
odd = with_producers (0x03 ∷ (field (codes "$") (codes "x") (codes "1") ++ (field (codes "@") (codes "y") (codes "2") ++ field (codes "@custom") (codes "z") (codes "3"))))

abbrev odd_text : List ℕ
odd_text = lines (
    codes "(module"
    ∷ codes "  (@producers"
    ∷ codes "    ($ \"x\" \"1\")"
    ∷ codes "    (@ \"y\" \"2\")"
    ∷ codes "    (@custom \"z\" \"3\")"
    ∷ codes "  )"
    ∷ codes ")"
    ∷ [])

odd_prints : printed odd ≡ Some odd_text
unfolding composing reading
odd_prints = refl

odd_reads : read odd_text ≡ decoded odd
unfolding reading
odd_reads = refl

-- A field name with a space is no word, so the section is printed as raw bytes.
abbrev spaced : List ℕ
spaced = with_producers (0x01 ∷ 0x03 ∷ (codes "a b" ++ (0x01 ∷ 0x01 ∷ (codes "x" ++ (0x01 ∷ codes "1")))))

abbrev spaced_text : List ℕ
spaced_text = lines (codes "(module" ∷ codes "  (@custom \"producers\" (before first) \"\\01\\03a b\\01\\01x\\011\")" ∷ codes ")" ∷ [])

spaced_prints : printed spaced ≡ Some spaced_text
unfolding composing reading
spaced_prints = refl

spaced_reads : read spaced_text ≡ decoded spaced
unfolding reading
spaced_reads = refl

-- A section without bytes is malformed. A section with 0 fields is not.
faulted_producers : printed (with_producers []) ≡ Some (lines (codes "(module" ∷ codes "  ;; failed to parse custom section `producers`" ∷ codes "  (@custom \"producers\" (before first) \"\")" ∷ codes ")" ∷ []))
unfolding composing reading
faulted_producers = refl

no_producers : printed (with_producers (0x00 ∷ [])) ≡ Some (lines (codes "(module" ∷ codes "  (@producers)" ∷ codes ")" ∷ []))
unfolding composing reading
no_producers = refl

-- ---- `dylink.0`

abbrev with_dylink : List ℕ → List ℕ
with_dylink bytes = head_bytes ++ custom (codes "dylink.0") bytes

abbrev dylink_text : List (List ℕ) → List ℕ
dylink_text ls = lines (codes "(module" ∷ codes "  (@dylink.0" ∷ (ls ++ (codes "  )" ∷ (codes ")" ∷ []))))

sizes_print : printed (with_dylink (0x01 ∷ 0x04 ∷ 0x10 ∷ 0x02 ∷ 0x00 ∷ 0x00 ∷ [])) ≡ Some (dylink_text (codes "    (mem-info (memory 16 2))" ∷ []))
unfolding composing reading
sizes_print = refl

exports_print : printed (with_dylink (0x03 ∷ 0x04 ∷ 0x01 ∷ 0x01 ∷ 0x66 ∷ 0x21 ∷ [])) ≡ Some (dylink_text (codes "    (export-info \"f\" binding-weak exported)" ∷ []))
unfolding composing reading
exports_print = refl

-- Names, an import with a flag that has no word, and memory and table sizes of 0, which are not printed
others_print : printed (with_dylink (
    0x02 ∷ 0x05 ∷ 0x02 ∷ 0x01 ∷ 0x61 ∷ 0x01 ∷ 0x62 ∷ 0x04 ∷ 0x07 ∷ 0x01 ∷ 0x01 ∷ 0x6d ∷ 0x01 ∷ 0x66 ∷ 0x88 ∷ 0x08
    ∷ 0x05 ∷ 0x01 ∷ 0x00 ∷ 0x01 ∷ 0x04 ∷ 0x00 ∷ 0x00 ∷ 0x00 ∷ 0x00 ∷ [])) ≡ Some (dylink_text (
    codes "    (needed \"a\" \"b\")"
    ∷ codes "    (import-info \"m\" \"f\" 0x408)"
    ∷ codes "    (runtime-path)"
    ∷ codes "    (mem-info)"
    ∷ []))
unfolding composing reading
others_print = refl

-- A section with an unknown subsection id is refused after the printer was asked for a claim. It is not refused if
-- it is claimed, or if a malformed subsection comes first.
unknown_refused : refused (with_dylink (0x09 ∷ 0x00 ∷ [])) ≡ Some 9
unfolding composing reading
unknown_refused = refl

unknown_stops : printed (with_dylink (0x09 ∷ 0x00 ∷ [])) ≡ Some (codes "(module")
unfolding composing reading
unknown_stops = refl

claimed_not_judged : printed_with (λ n. true) (with_dylink (0x09 ∷ 0x00 ∷ [])) ≡ Some (codes "(module)\n")
unfolding composing reading
claimed_not_judged = refl

abbrev cut_dylink : List ℕ
cut_dylink = with_dylink (0x01 ∷ 0x05 ∷ 0x10 ∷ [])

abbrev cut_dylink_text : List ℕ
cut_dylink_text = lines (
    codes "(module"
    ∷ codes "  ;; failed to parse custom section `dylink.0`"
    ∷ codes "  (@custom \"dylink.0\" (before first) \"\\01\\05\\10\")"
    ∷ codes ")"
    ∷ [])

cut_dylink_prints : printed cut_dylink ≡ Some cut_dylink_text
unfolding composing reading
cut_dylink_prints = refl

cut_dylink_reads : read cut_dylink_text ≡ decoded cut_dylink
unfolding reading
cut_dylink_reads = refl

-- A subsection with unused bytes is malformed. It comes before the unknown id, so the section is not refused.
left_over_first : refused (with_dylink (0x05 ∷ 0x02 ∷ 0x00 ∷ 0x00 ∷ 0x09 ∷ 0x00 ∷ [])) ≡ None
unfolding composing reading
left_over_first = refl

-- ---- branch hints

abbrev hinted_text : List (List ℕ) → List ℕ
hinted_text ls = lines (
    codes "(module"
    ∷ codes "  (type (;0;) (func (param i32)))"
    ∷ codes "  (func (;0;) (type 0) (param i32)"
    ∷ codes "    local.get 0"
    ∷ (ls ++ (
    codes "    if ;; label = @1"
    ∷ (codes "    end"
    ∷ (codes "  )"
    ∷ (codes ")"
    ∷ []))))))

taken_prints : printed (hinted (0x01 ∷ 0x00 ∷ 0x01 ∷ 0x03 ∷ 0x01 ∷ 0x01 ∷ [])) ≡ Some (hinted_text (codes "    (@metadata.code.branch_hint \"\\01\")" ∷ []))
unfolding composing reading
taken_prints = refl

taken_reads : read (hinted_text (codes "    (@metadata.code.branch_hint \"\\01\")" ∷ [])) ≡ decoded (hinted [])
unfolding reading
taken_reads = refl

-- A flag that is neither 0 nor 1, and a hint for no operator that comes before a valid hint
other_flag : printed (hinted (0x01 ∷ 0x00 ∷ 0x01 ∷ 0x03 ∷ 0x01 ∷ 0x02 ∷ [])) ≡ Some (hinted_text [])
unfolding composing reading
other_flag = refl

blocked : printed (hinted (0x01 ∷ 0x00 ∷ 0x02 ∷ 0x09 ∷ 0x01 ∷ 0x01 ∷ 0x03 ∷ 0x01 ∷ 0x01 ∷ [])) ≡ Some (hinted_text [])
unfolding composing reading
blocked = refl

-- A hint after one with a greater offset, and a second hint for the same operator, are not printed.
first_counts : printed (hinted (0x01 ∷ 0x00 ∷ 0x02 ∷ 0x03 ∷ 0x01 ∷ 0x01 ∷ 0x01 ∷ 0x01 ∷ 0x00 ∷ [])) ≡ Some (hinted_text (codes "    (@metadata.code.branch_hint \"\\01\")" ∷ []))
unfolding composing reading
first_counts = refl

one_for_each : printed (hinted (0x01 ∷ 0x00 ∷ 0x02 ∷ 0x03 ∷ 0x01 ∷ 0x01 ∷ 0x03 ∷ 0x01 ∷ 0x00 ∷ [])) ≡ Some (hinted_text (codes "    (@metadata.code.branch_hint \"\\01\")" ∷ []))
unfolding composing reading
one_for_each = refl

-- The hint of the module equals the hint of its text.
hint_of_module : (parsed (hinted (0x01 ∷ 0x00 ∷ 0x01 ∷ 0x03 ∷ 0x01 ∷ 0x01 ∷ [])) >>= module_hints) ≡ Some (operator_hint 0 1 true ∷ [])
unfolding composing reading
hint_of_module = refl

hint_of_text : text_hints (hinted_text (codes "    (@metadata.code.branch_hint \"\\01\")" ∷ [])) ≡ Some (operator_hint 0 1 true ∷ [])
unfolding reading
hint_of_text = refl

-- Offsets that do not increase, and the offset of no operator
other_hints : (parsed (hinted (0x01 ∷ 0x00 ∷ 0x02 ∷ 0x03 ∷ 0x01 ∷ 0x01 ∷ 0x03 ∷ 0x01 ∷ 0x00 ∷ [])) >>= module_hints) ≡ None
unfolding composing reading
other_hints = refl

hint_of_the_last_end : (parsed (hinted (0x01 ∷ 0x00 ∷ 0x01 ∷ 0x06 ∷ 0x01 ∷ 0x01 ∷ [])) >>= module_hints) ≡ None
unfolding composing reading
hint_of_the_last_end = refl

-- In a folded text, a hint before a group belongs to the group's operator. Imported functions are counted.
hint_of_a_group : text_hints (codes "(module (import \"m\" \"f\" (func $f)) (func $g (@name \"g\") (param $x i32) (@metadata.code.branch_hint \"\\00\") (if (local.get $x) (then))))")
    ≡ Some (operator_hint 1 1 false ∷ [])
unfolding reading
hint_of_a_group = refl

-- An annotation of a hint
abbrev stray : List ℕ
stray = codes "(@metadata.code.branch_hint \"\\01\")"

-- Two hints before an operator, with a comment and an annotation between them; and annotations around the module
-- and in an import, which is counted
many_hints : map text_hints (
    (codes "(module (func " ++ (stray ++ (codes " (; c ;) (@a) " ++ (stray ++ codes " nop)) "))))
    ∷ (codes "(@a) (module (import \"m\" \"f\" (@a) (func (type 0) (@a)) (@a)) (func " ++ (stray ++ codes " nop)) (@a (@b))"))
    ∷ [])
    ≡ Some (operator_hint 0 0 true ∷ operator_hint 0 0 true ∷ []) ∷ Some (operator_hint 1 0 true ∷ []) ∷ []
unfolding reading
many_hints = refl

-- If a hint is not directly before an operator or the group of one, the text has no list of hints. A hint after
-- the parenthesis of its group is not before the group.
stray_hints : map text_hints (
    (codes "(module " ++ (stray ++ codes " (func))"))
    ∷ (codes "(module (global i32 " ++ (stray ++ codes " i32.const 0))"))
    ∷ (codes "(module (func br_if " ++ (stray ++ codes " 0))"))
    ∷ (codes "(module (func nop " ++ (stray ++ codes "))"))
    ∷ (codes "(module (func (if (i32.const 0) " ++ (stray ++ codes " (then))))"))
    ∷ (codes "(module (func (param i32 " ++ (stray ++ codes ")))"))
    ∷ (codes "(module (func (" ++ (stray ++ codes " drop (i32.const 0))))"))
    ∷ (stray ++ codes " (module)")
    ∷ [])
    ≡ None ∷ None ∷ None ∷ None ∷ None ∷ None ∷ None ∷ None ∷ []
unfolding reading
stray_hints = refl

-- A hint inside another annotation is no hint of the text.
noted_hint : text_hints (codes "(module (@a " ++ (stray ++ codes ") (func))")) ≡ Some []
unfolding reading
noted_hint = refl
