-- Worked rows of whole modules with folded operators: their texts, that these texts read back as the same modules,
-- and the operators and hints of a module that cannot be folded.
use Rattle.std.specs.Prelude.{◌≡◌, ℕ, ◌+◌, List, [], ◌∷◌, ◌++◌, length, true, false, codes, Some, option_map, refl}
use Rattle.std.specs.List.{AllByRecursion}
use Rattle.wasmprinter_spec.specs.Row.{Fixed}
use Rattle.wasmprinter_spec.specs.Placed.{PlacedModule}
use Rattle.wasmprinter_spec.specs.Call.{text_of}
use Rattle.wasmprinter_spec.specs.Options.{Options, defaults}
use Rattle.wasmprinter_spec.specs.Layout.Declarations.{Folding}
use Rattle.wasmprinter_spec.specs.Layout.{layout_folded}
use Rattle.wasmprinter_spec.specs.Layout.Folded.{items, node_pieces, folded_pieces}
use Rattle.wasmprinter_spec.specs.Folding.Arities.{signatures_within}
use Rattle.wasmprinter_spec.specs.Folding.Refusals.{legacy_places, misplaced_hints}
use Rattle.wasmprinter_spec.specs.Read.{read}
use Rattle.wasmprinter_spec.proofs.Samples.{head_bytes, lines, section, custom}
use Rattle.wasmprinter_spec.proofs.SectionSamples.{with_item, one_field}
use Rattle.wasmprinter_spec.proofs.Computing.{composing, reading}
use Rattle.wasmprinter_spec.proofs.FromBytes.{parsed, decoded, unclaimed, printed_by}
use Rattle.wasmprinter_spec.proofs.Sequences.{escape}

abbrev folded : Options
folded = record defaults { folds = true }

-- The bytes of a module, and its text
record Sample : Type 0 where
  bytes : List ℕ
  text : List ℕ

abbrev sample : List ℕ → List ℕ → Sample
sample bytes text = record { bytes = bytes; text = text }

abbrev Prints : Sample → Type 0
Prints s = printed_by folded s.bytes ≡ Some s.text

abbrev ReadsBack : Sample → Type 0
ReadsBack s = read s.text ≡ decoded s.bytes

-- ---- fields

-- The sum of the constants 1 and 2
abbrev sum_bytes : List ℕ
sum_bytes = 0x41 ∷ 0x01 ∷ 0x41 ∷ 0x02 ∷ 0x6a ∷ 0x0b ∷ []

abbrev fields : List Sample
fields =
    sample (with_item 0x06 (0x7f ∷ 0x00 ∷ 0x02 ∷ 0x7f ∷ 0x41 ∷ 0x01 ∷ 0x0b ∷ 0x0b ∷ [])) (one_field (codes "(global (;0;) i32 (block (result i32)  (; label = @1 ;) (i32.const 1)))"))
    -- Here a single operator is folded.
    ∷ sample (with_item 0x06 (0x7f ∷ 0x01 ∷ 0x41 ∷ 0x00 ∷ 0x0b ∷ [])) (one_field (codes "(global (;0;) (mut i32) (i32.const 0))"))
    ∷ sample (with_item 0x04 (0x40 ∷ 0x00 ∷ 0x70 ∷ 0x00 ∷ 0x01 ∷ 0xd0 ∷ 0x70 ∷ 0x0b ∷ [])) (one_field (codes "(table (;0;) 1 funcref (ref.null func))"))
    -- An operator that is alone in a group is not folded.
    ∷ sample (with_item 0x09 (0x00 ∷ 0x41 ∷ 0x00 ∷ 0x0b ∷ 0x01 ∷ 0x00 ∷ [])) (one_field (codes "(elem (;0;) (i32.const 0) func 0)"))
    ∷ sample (with_item 0x09 (0x00 ∷ sum_bytes ++ 0x01 ∷ 0x00 ∷ [])) (one_field (codes "(elem (;0;) (offset (i32.add (i32.const 1) (i32.const 2))) func 0)"))
    ∷ sample (with_item 0x09 (0x00 ∷ 0x0b ∷ 0x00 ∷ [])) (one_field (codes "(elem (;0;) (offset ) func)"))
    ∷ sample (with_item 0x09 (0x05 ∷ 0x70 ∷ 0x02 ∷ 0xd0 ∷ 0x70 ∷ 0x0b ∷ sum_bytes)) (one_field (codes "(elem (;0;) funcref (ref.null func) (item (i32.add (i32.const 1) (i32.const 2))))"))
    ∷ sample (with_item 0x0b (0x00 ∷ sum_bytes ++ 0x01 ∷ 0x61 ∷ [])) (one_field (codes "(data (;0;) (offset (i32.add (i32.const 1) (i32.const 2))) \"a\")"))
    ∷ []

fields_print : AllByRecursion Prints fields
unfolding composing reading items node_pieces folded_pieces
fields_print = (refl, (refl, (refl, (refl, (refl, (refl, (refl, (refl, tt))))))))

fields_read : AllByRecursion ReadsBack fields
unfolding reading
fields_read = (refl, (refl, (refl, (refl, (refl, (refl, (refl, (refl, tt))))))))

-- ---- fields over several lines

-- Two globals, of which the first has a name with two semicolons
abbrev semicolons : Sample
semicolons =
    sample (
    head_bytes
    ++ (section 0x06 (0x02 ∷ 0x7f ∷ 0x00 ∷ 0x41 ∷ 0x00 ∷ 0x0b ∷ 0x7f ∷ 0x00 ∷ 0x23 ∷ 0x00 ∷ 0x0b ∷ [])
    ++ custom (codes "name") (0x07 ∷ 0x07 ∷ 0x01 ∷ 0x00 ∷ 0x04 ∷ codes "a;;b")))
    (lines (
    codes "(module"
    ∷ codes "  (global $\"a;;b\" (;0;) i32 (i32.const 0))"
    ∷ codes "  (global (;1;) i32 (global.get $\"a;;b\""
    ∷ codes "    )"
    ∷ codes "  )"
    ∷ codes ")"
    ∷ []))

semicolons_print : Prints semicolons
unfolding composing reading items node_pieces folded_pieces
semicolons_print = refl

semicolons_read : ReadsBack semicolons
unfolding reading
semicolons_read = refl

-- ---- functions

-- A function with this type and these operators and without locals, after these other sections
abbrev with_function : List ℕ → List ℕ → List ℕ → List ℕ
with_function type others operators =
    head_bytes
    ++ (section 0x01 (0x01 ∷ 0x60 ∷ type)
    ++ (section 0x03 (0x01 ∷ 0x00 ∷ [])
    ++ (others
    ++ section 0x0a (0x01 ∷ (length operators + 1) ∷ 0x00 ∷ operators))))

-- A function without parameters and results
abbrev plain_bytes : List ℕ → List ℕ
plain_bytes = with_function (0x00 ∷ 0x00 ∷ []) []

abbrev plain_text : List (List ℕ) → List ℕ
plain_text ls = lines (codes "(module" ∷ codes "  (type (;0;) (func))" ∷ codes "  (func (;0;) (type 0)" ∷ (ls ++ (codes "  )" ∷ (codes ")" ∷ []))))

-- A function with two i32 parameters and an i32 result
abbrev binary_bytes : List ℕ → List ℕ
binary_bytes = with_function (0x02 ∷ 0x7f ∷ 0x7f ∷ 0x01 ∷ 0x7f ∷ []) []

abbrev binary_text : List (List ℕ) → List ℕ
binary_text ls = lines (
    codes "(module"
    ∷ codes "  (type (;0;) (func (param i32 i32) (result i32)))"
    ∷ codes "  (func (;0;) (type 0) (param i32 i32) (result i32)"
    ∷ (ls ++ (
    codes "  )"
    ∷ (codes ")"
    ∷ []))))

abbrev functions : List Sample
functions =
    sample (plain_bytes (0x02 ∷ 0x40 ∷ 0x0b ∷ 0x0b ∷ [])) (plain_text (codes "    (block ;; label = @1" ∷ codes "    )" ∷ []))
    ∷ sample (plain_bytes (0x41 ∷ 0x01 ∷ 0x41 ∷ 0x02 ∷ 0x6a ∷ 0x0b ∷ [])) (plain_text (codes "    (i32.add" ∷ codes "      (i32.const 1)" ∷ codes "      (i32.const 2))" ∷ []))
    -- A call takes the parameters of its function's type.
    ∷ sample (binary_bytes (0x20 ∷ 0x00 ∷ 0x20 ∷ 0x01 ∷ 0x10 ∷ 0x00 ∷ 0x0b ∷ [])) (binary_text (codes "    (call 0" ∷ codes "      (local.get 0)" ∷ codes "      (local.get 1))" ∷ []))
    -- A branch out of the function takes the function's results.
    ∷ sample (binary_bytes (0x41 ∷ 0x05 ∷ 0x0c ∷ 0x00 ∷ 0x0b ∷ [])) (binary_text (codes "    (br 0" ∷ codes "      (i32.const 5))" ∷ []))
    ∷ sample (plain_bytes (0x41 ∷ 0x05 ∷ 0x0c ∷ 0x00 ∷ 0x0b ∷ [])) (plain_text (codes "    (i32.const 5)" ∷ codes "    (br 0)" ∷ []))
    ∷ []

functions_print : AllByRecursion Prints functions
unfolding composing reading items node_pieces folded_pieces
functions_print = (refl, (refl, (refl, (refl, (refl, tt)))))

functions_read : AllByRecursion ReadsBack functions
unfolding reading
functions_read = (refl, (refl, (refl, (refl, (refl, tt)))))

-- A function without operators closes on its first line.
empty_body : printed_by folded (plain_bytes (0x0b ∷ [])) ≡ Some (lines (codes "(module" ∷ codes "  (type (;0;) (func))" ∷ codes "  (func (;0;) (type 0))" ∷ codes ")" ∷ []))
unfolding composing reading items node_pieces folded_pieces
empty_body = refl

-- Each line begins with the place of its operator.
sum_with_places : printed_by (record folded { offsets = true }) (plain_bytes (0x41 ∷ 0x01 ∷ 0x41 ∷ 0x02 ∷ 0x6a ∷ 0x0b ∷ [])) ≡ Some (lines (
    codes "(module"
    ∷ codes "(;@b     ;)  (type (;0;) (func))"
    ∷ codes "(;@16    ;)  (func (;0;) (type 0)"
    ∷ codes "(;@1b    ;)    (i32.add"
    ∷ codes "(;@17    ;)      (i32.const 1)"
    ∷ codes "(;@19    ;)      (i32.const 2))"
    ∷ codes "(;@1c    ;)  )"
    ∷ codes "(;@1d    ;))"
    ∷ []))
unfolding composing reading items node_pieces folded_pieces
sum_with_places = refl

-- ---- other arities

-- Folding with the types that operators name in the module, and with one operand and one result for each opcode
abbrev chained : PlacedModule → Folding
chained m = record { color = false; signatures = λ own. record (signatures_within m own) { arities = λ o. Some (Fixed 1 1) } }

abbrev chained_text : PlacedModule → List ℕ
chained_text m = text_of (layout_folded (chained m) defaults unclaimed m)

abbrev sum_chained : List ℕ
sum_chained = plain_text (codes "    (i32.add" ∷ codes "      (i32.const 2" ∷ codes "        (i32.const 1)))" ∷ [])

-- Each operator takes the one before it, even though the options do not ask for folding.
chained_print : option_map chained_text (parsed (plain_bytes sum_bytes)) ≡ Some sum_chained
unfolding composing reading items node_pieces folded_pieces
chained_print = refl

chained_read : read sum_chained ≡ decoded (plain_bytes sum_bytes)
unfolding reading
chained_read = refl

-- ---- colors

-- A literal is red. There are no ANSI escape sequences outside the parentheses of operators.
colored_global : printed_by (record folded { color = true }) (with_item 0x06 (0x7f ∷ 0x00 ∷ 0x41 ∷ 0x01 ∷ 0x0b ∷ []))
    ≡ Some (one_field (codes "(global (;0;) i32 (i32.const" ++ (escape (codes "0m") ++ (escape (codes "31m") ++ (codes " 1" ++ (escape (codes "0m") ++ codes "))"))))))
unfolding composing reading items node_pieces folded_pieces
colored_global = refl

-- ---- hints

abbrev with_hint : ℕ → List ℕ → List ℕ
with_hint offset operators =
    with_function (0x01 ∷ 0x7f ∷ 0x00 ∷ []) (custom (codes "metadata.code.branch_hint") (0x01 ∷ 0x00 ∷ 0x01 ∷ offset ∷ 0x01 ∷ 0x01 ∷ [])) operators

-- The hint of an `if` comes before its node.
hinted_if : printed_by folded (with_hint 3 (0x20 ∷ 0x00 ∷ 0x04 ∷ 0x40 ∷ 0x0b ∷ 0x0b ∷ [])) ≡ Some (lines (
    codes "(module"
    ∷ codes "  (type (;0;) (func (param i32)))"
    ∷ codes "  (func (;0;) (type 0) (param i32)"
    ∷ codes "    (@metadata.code.branch_hint \"\\01\")"
    ∷ codes "    (if ;; label = @1"
    ∷ codes "      (local.get 0)"
    ∷ codes "      (then))"
    ∷ codes "  )"
    ∷ codes ")"
    ∷ []))
unfolding composing reading items node_pieces folded_pieces
hinted_if = refl

-- ---- operators and hints that cannot be folded

abbrev folded_skeleton : Options
folded_skeleton = record folded { skeleton = true }

-- A `try` of legacy exception handling and its `catch_all`
abbrev older_try : List ℕ
older_try = plain_bytes (0x06 ∷ 0x40 ∷ 0x19 ∷ 0x0b ∷ 0x0b ∷ [])

try_and_catch : option_map (legacy_places folded) (parsed older_try) ≡ Some (0x17 ∷ 0x19 ∷ [])
unfolding composing reading
try_and_catch = refl

-- A skeleton has no bodies.
try_in_skeleton : option_map (legacy_places folded_skeleton) (parsed older_try) ≡ Some []
unfolding composing reading
try_in_skeleton = refl

no_try : option_map (legacy_places folded) (parsed (plain_bytes (0x02 ∷ 0x40 ∷ 0x0b ∷ 0x0b ∷ []))) ≡ Some []
unfolding composing reading
no_try = refl

-- A `try` of legacy exception handling in the initialiser of a global, which a skeleton contains
try_in_global : option_map (legacy_places folded_skeleton) (parsed (with_item 0x06 (0x7f ∷ 0x00 ∷ 0x06 ∷ 0x40 ∷ 0x18 ∷ 0x00 ∷ 0x0b ∷ []))) ≡ Some (0xd ∷ 0xf ∷ [])
unfolding composing reading
try_in_global = refl

-- The hint of a `block` is misplaced; that of an `if` is not.
hint_of_block : option_map (misplaced_hints folded) (parsed (with_hint 1 (0x02 ∷ 0x40 ∷ 0x0b ∷ 0x0b ∷ []))) ≡ Some (0x32 ∷ [])
unfolding composing reading
hint_of_block = refl

hint_of_end : option_map (misplaced_hints folded) (parsed (with_hint 3 (0x02 ∷ 0x40 ∷ 0x0b ∷ 0x0b ∷ []))) ≡ Some (0x32 ∷ [])
unfolding composing reading
hint_of_end = refl

hint_of_if : option_map (misplaced_hints folded) (parsed (with_hint 3 (0x20 ∷ 0x00 ∷ 0x04 ∷ 0x40 ∷ 0x0b ∷ 0x0b ∷ []))) ≡ Some []
unfolding composing reading
hint_of_if = refl

hint_in_skeleton : option_map (misplaced_hints folded_skeleton) (parsed (with_hint 1 (0x02 ∷ 0x40 ∷ 0x0b ∷ 0x0b ∷ []))) ≡ Some []
unfolding composing reading
hint_in_skeleton = refl
