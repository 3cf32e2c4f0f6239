-- Worked rows of labels with identifiers, both those of a name section and synthesized ones. Each text reads back.
use Rattle.std.specs.Prelude.{◌≡◌, ℕ, List, [], ◌∷◌, map, ◌==◌, cond, true, false, codes, slice_get, Some, None, refl}
use Rattle.std.specs.Fmt.{digits}
use Rattle.std.specs.Char.{encode_utf8}
use Rattle.std.specs.Str.{is_utf8, chars}
use Rattle.wasmprinter_spec.specs.Types as types
use Rattle.wasmprinter_spec.specs.Operator.{Empty, Value, All, AllRef, Operator}
use Rattle.wasmprinter_spec.specs.Table.{table}
use Rattle.wasmprinter_spec.specs.Character.{class}
use Rattle.wasmprinter_spec.specs.Numeral.{numeral, natural}
use Rattle.wasmprinter_spec.specs.Token.{escape, lex}
use Rattle.wasmprinter_spec.specs.Code.{head}
use Rattle.wasmprinter_spec.specs.Text.Types.{number_of_word}
use Rattle.wasmprinter_spec.specs.Labels.{LabelNaming}
use Rattle.wasmprinter_spec.specs.LabelNames.{label_naming}
use Rattle.wasmprinter_spec.specs.Call.{text_of}
use Rattle.wasmprinter_spec.specs.Options.{defaults}
use Rattle.wasmprinter_spec.specs.Quoted.{char_text, quoted_text, identifier_text}
use Rattle.wasmprinter_spec.specs.Piece.{all_calls, repetition_of}
use Rattle.wasmprinter_spec.specs.Layout.Operators.{OverLines, expression_pieces}
use Rattle.wasmprinter_spec.proofs.Computing.{composing}
use Rattle.wasmprinter_spec.proofs.BlockSamples.{block, loop, if_op, else_op, try_op, end, br, br_table, delegate, try_table}
use Rattle.wasmprinter_spec.proofs.Samples.{body_lines}
use Rattle.wasmprinter_spec.proofs.FromText.{read_back}
use Rattle.wasmprinter_spec.specs.Names.{no_names}

abbrev printed : LabelNaming → List Operator → List ℕ
printed naming os =
    text_of (all_calls defaults (expression_pieces (record { form = OverLines; signature = λ n. None; nesting = 2; names = record no_names { labels = λ f. naming }; function = 0; body = 0 }) (map (λ o. record { place = 0; value = o }) os)))

-- The first labels have these names; the other labels have none.
abbrev named : List (List ℕ) → LabelNaming
named ns = label_naming false (slice_get ns)

-- Only label `n` has a name.
abbrev one_named : ℕ → List ℕ → LabelNaming
one_named n s = label_naming false (λ i. cond (i == n) (Some s) None)

abbrev synthesized : LabelNaming
synthesized = label_naming true (λ n. None)

-- ---- one name for two labels

abbrev both : List Operator
both = block Empty ∷ block Empty ∷ br 1 ∷ br 0 ∷ end ∷ end ∷ []

abbrev both_lines : List ℕ
both_lines = body_lines (codes "block $a" ∷ codes "  block $a" ∷ codes "    br 1" ∷ codes "    br $a" ∷ codes "  end" ∷ codes "end" ∷ [])

shadowed : printed (named (codes "a" ∷ codes "a" ∷ [])) both ≡ both_lines
unfolding composing repetition_of digits table is_utf8 encode_utf8 chars class identifier_text quoted_text char_text
shadowed = refl

shadowed_reads : read_back both_lines ≡ Some both
unfolding lex class escape numeral natural table head is_utf8 chars encode_utf8
shadowed_reads = refl

-- After the inner block, the name means the outer block again.
abbrev between : List Operator
between = block Empty ∷ br 0 ∷ block Empty ∷ block Empty ∷ br_table (0 ∷ 1 ∷ 2 ∷ 3 ∷ []) 4 ∷ end ∷ br 1 ∷ end ∷ br 0 ∷ br 1 ∷ end ∷ []

abbrev between_lines : List ℕ
between_lines = body_lines (
    codes "block $a"
    ∷ codes "  br $a"
    ∷ codes "  block $b"
    ∷ codes "    block $a"
    ∷ codes "      br_table $a $b 2 3 4 (; INVALID ;)"
    ∷ codes "    end"
    ∷ codes "    br $a"
    ∷ codes "  end"
    ∷ codes "  br $a"
    ∷ codes "  br 1"
    ∷ codes "end"
    ∷ [])

shadowed_for_a_while : printed (named (codes "a" ∷ codes "b" ∷ codes "a" ∷ [])) between ≡ between_lines
unfolding composing repetition_of digits table is_utf8 encode_utf8 chars class identifier_text quoted_text char_text
shadowed_for_a_while = refl

shadowed_for_a_while_reads : read_back between_lines ≡ Some between
unfolding lex class escape numeral natural table head is_utf8 chars encode_utf8
shadowed_for_a_while_reads = refl

-- ---- labels that are resolved outside the block

abbrev delegated : List Operator
delegated = try_op Empty ∷ delegate 0 ∷ block Empty ∷ br 0 ∷ br 1 ∷ end ∷ []

abbrev delegated_lines : List ℕ
delegated_lines = body_lines (codes "try $t" ∷ codes "delegate 0" ∷ codes "block $u" ∷ codes "  br $u" ∷ codes "  br 1" ∷ codes "end" ∷ [])

label_goes_with_delegate : printed (named (codes "t" ∷ codes "u" ∷ [])) delegated ≡ delegated_lines
unfolding composing repetition_of digits table is_utf8 encode_utf8 chars class identifier_text quoted_text char_text
label_goes_with_delegate = refl

label_goes_with_delegate_reads : read_back delegated_lines ≡ Some delegated
unfolding lex class escape numeral natural table head is_utf8 chars encode_utf8
label_goes_with_delegate_reads = refl

-- The label of a `try` hides an outer label of the same name from its `delegate`. The label of a `try_table` does
-- not hide one from its clauses.
abbrev hiding : List Operator
hiding =
    block Empty ∷ try_op Empty ∷ delegate 0 ∷ try_op Empty ∷ delegate 0 ∷ try_table (Value types.I32) (All 0 ∷ AllRef 1 ∷ All 2 ∷ []) ∷ br 0 ∷ br 1 ∷ end ∷ end ∷ []

abbrev hiding_lines : List ℕ
hiding_lines = body_lines (
    codes "block $a"
    ∷ codes "  try $a"
    ∷ codes "  delegate 0"
    ∷ codes "  try $b"
    ∷ codes "  delegate $a"
    ∷ codes "  try_table $a (result i32) (catch_all $a) (catch_all_ref 1) (catch_all 2 (; INVALID ;))"
    ∷ codes "    br $a"
    ∷ codes "    br 1"
    ∷ codes "  end"
    ∷ codes "end"
    ∷ [])

hides_from_delegate : printed (named (codes "a" ∷ codes "a" ∷ codes "b" ∷ codes "a" ∷ [])) hiding ≡ hiding_lines
unfolding composing repetition_of digits table is_utf8 encode_utf8 chars class identifier_text quoted_text char_text
hides_from_delegate = refl

hides_from_delegate_reads : read_back hiding_lines ≡ Some hiding
unfolding lex class escape numeral natural number_of_word table head is_utf8 chars encode_utf8
hides_from_delegate_reads = refl

-- ---- names that cannot be identifiers

-- A label is hidden by an inner label with the same given name, even if their identifiers differ.
abbrev empty_lines : List ℕ
empty_lines = body_lines (
    codes "block $\"#label0 \" (@name \"\")"
    ∷ codes "  block $\"#label1 \" (@name \"\")"
    ∷ codes "    br 1"
    ∷ codes "    br $\"#label1 \" (@name \"\")"
    ∷ codes "  end"
    ∷ codes "end"
    ∷ [])

empty_names : printed (named ([] ∷ [] ∷ [])) both ≡ empty_lines
unfolding composing repetition_of digits table is_utf8 encode_utf8 chars class identifier_text quoted_text char_text
empty_names = refl

empty_names_read : read_back empty_lines ≡ Some both
unfolding lex class escape numeral natural table head is_utf8 chars encode_utf8
empty_names_read = refl

-- A name that begins with #, names with characters that an identifier must quote, and names of several bytes
abbrev strange : List Operator
strange = block Empty ∷ loop Empty ∷ if_op Empty ∷ br 0 ∷ br 1 ∷ br 2 ∷ else_op ∷ end ∷ end ∷ end ∷ []

abbrev strange_lines : List ℕ
strange_lines = body_lines (
    codes "block $\"#label0 #x\\u{22}\" (@name \"#x\\u{22}\")"
    ∷ codes "  loop $\"a b\""
    ∷ codes "    if $\"\\u{e9}\""
    ∷ codes "      br $\"\\u{e9}\""
    ∷ codes "      br $\"a b\""
    ∷ codes "      br $\"#label0 #x\\u{22}\" (@name \"#x\\u{22}\")"
    ∷ codes "    else"
    ∷ codes "    end"
    ∷ codes "  end"
    ∷ codes "end"
    ∷ [])

strange_names : printed (named (codes "#x\"" ∷ codes "a b" ∷ (0xc3 ∷ 0xa9 ∷ []) ∷ [])) strange ≡ strange_lines
unfolding composing repetition_of digits table is_utf8 encode_utf8 chars class identifier_text quoted_text char_text
strange_names = refl

strange_names_read : read_back strange_lines ≡ Some strange
unfolding lex class escape numeral natural table head is_utf8 chars encode_utf8
strange_names_read = refl

-- ---- some labels without names

abbrev mixed_lines : List ℕ
mixed_lines = body_lines (codes "block ;; label = @1" ∷ codes "  block $a" ∷ codes "    br 1 (;@1;)" ∷ codes "    br $a" ∷ codes "  end" ∷ codes "end" ∷ [])

second_named : printed (one_named 1 (codes "a")) both ≡ mixed_lines
unfolding composing repetition_of digits table is_utf8 encode_utf8 chars class identifier_text quoted_text char_text
second_named = refl

second_named_reads : read_back mixed_lines ≡ Some both
unfolding lex class escape numeral natural table head is_utf8 chars encode_utf8
second_named_reads = refl

-- ---- synthesized identifiers

-- An identifier contains the number of enclosing blocks. The body itself has no identifier.
abbrev synthesized_lines : List ℕ
synthesized_lines = body_lines (codes "try $#label0" ∷ codes "delegate 0" ∷ codes "block $#label0" ∷ codes "  br $#label0" ∷ codes "  br 1" ∷ codes "end" ∷ [])

synthesized_identifiers : printed synthesized delegated ≡ synthesized_lines
unfolding composing repetition_of digits table is_utf8 encode_utf8 chars class identifier_text quoted_text char_text
synthesized_identifiers = refl

synthesized_identifiers_read : read_back synthesized_lines ≡ Some delegated
unfolding lex class escape numeral natural table head is_utf8 chars encode_utf8
synthesized_identifiers_read = refl

abbrev deep_lines : List ℕ
deep_lines = body_lines (codes "block $#label0" ∷ codes "  block $#label1" ∷ codes "    br $#label0" ∷ codes "    br $#label1" ∷ codes "  end" ∷ codes "end" ∷ [])

synthesized_deeper : printed synthesized both ≡ deep_lines
unfolding composing repetition_of digits table is_utf8 encode_utf8 chars class identifier_text quoted_text char_text
synthesized_deeper = refl

-- A given name among synthesized identifiers
abbrev partly_lines : List ℕ
partly_lines =
    body_lines (codes "block $#label0" ∷ codes "  block $\"#label1 #label0\" (@name \"#label0\")" ∷ codes "    br $#label0" ∷ codes "    br $\"#label1 #label0\" (@name \"#label0\")" ∷ codes "  end" ∷ codes "end" ∷ [])

partly_synthesized : printed (label_naming true (λ n. cond (n == 1) (Some (codes "#label0")) None)) both ≡ partly_lines
unfolding composing repetition_of digits table is_utf8 encode_utf8 chars class identifier_text quoted_text char_text
partly_synthesized = refl

partly_synthesized_reads : read_back partly_lines ≡ Some both
unfolding lex class escape numeral natural table head is_utf8 chars encode_utf8
partly_synthesized_reads = refl
