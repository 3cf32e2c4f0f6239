-- Worked rows of code (section 6.5 of the standard, "Folded Instructions"): which words are operators, which of
-- several operators with one word is meant, and the hints before an operator.
use Rattle.std.specs.Prelude.{◌≡◌, ℕ, pos, List, [], ◌∷◌, map, codes, Option, Some, None, refl}
use Rattle.std.specs.Char.{encode_utf8}
use Rattle.std.specs.Str.{is_utf8, chars}
use Rattle.wasmprinter_spec.specs.Grammar.{◌>>=◌}
use Rattle.wasmprinter_spec.specs.Character.{class}
use Rattle.wasmprinter_spec.specs.Numeral.{numeral, natural, integer}
use Rattle.wasmprinter_spec.specs.Token.{escape, lex}
use Rattle.wasmprinter_spec.specs.Forest.{Forest, End, Word, String, forest}
use Rattle.wasmprinter_spec.specs.Operator.{NoImmediates, I32}
use Rattle.wasmprinter_spec.specs.Row.{Row, NoneShape, BlockShape, I32Shape, IndexShape, Tag, Fixed, OfBlock, OpensIf, OpensTry, Catches}
use Rattle.wasmprinter_spec.specs.Table.{table, rows_of}
use Rattle.wasmprinter_spec.specs.Table.Rows.{plain, control}
use Rattle.wasmprinter_spec.specs.Code.{Chunk, PartHead, ThenHead, ElseHead, OperatorHead, head, Folded, operands, chunks_of_instructions, chunks_of_forest}
use Rattle.wasmprinter_spec.specs.IndexSpaces.{Context}
use Rattle.wasmprinter_spec.specs.Text.Operators.{first_reading}
use Rattle.wasmprinter_spec.proofs.Samples.{no_spaces}

-- ---- kinds of groups

parts : map head (codes "type" ∷ codes "param" ∷ codes "result" ∷ codes "catch" ∷ codes "catch_ref" ∷ codes "catch_all" ∷ codes "catch_all_ref" ∷ codes "local" ∷ codes "1" ∷ [])
    ≡ PartHead ∷ PartHead ∷ PartHead ∷ PartHead ∷ PartHead ∷ PartHead ∷ PartHead ∷ PartHead ∷ PartHead ∷ []
unfolding table head
parts = refl

-- `else` is also the word of an operator, but not at the head of a group.
cases : map head (codes "then" ∷ codes "else" ∷ []) ≡ ThenHead ∷ ElseHead ∷ []
unfolding table head
cases = refl

operator_groups : map head (codes "nop" ∷ codes "if" ∷ codes "try" ∷ [])
    ≡ OperatorHead (plain 0x01 "nop" NoneShape (Fixed 0 0)) [] ∷ OperatorHead (control 0x04 "if" BlockShape OfBlock OpensIf) []
    ∷ OperatorHead (control 0x06 "try" BlockShape OfBlock OpensTry) [] ∷ []
unfolding table head
operator_groups = refl

-- The plain word `catch` is an operator.
catch_word : rows_of (codes "catch") ≡ control 0x07 "catch" (IndexShape Tag) OfBlock Catches ∷ []
unfolding table
catch_word = refl

-- ---- several operators with one word

abbrev bare : Row
bare = plain 0x01 "w" NoneShape (Fixed 0 0)

abbrev numbered : Row
numbered = plain 0x02 "w" I32Shape (Fixed 0 0)

abbrev nothing_declared : Context
nothing_declared = record { spaces = record no_spaces { types = []; functions = []; tags = []; locals = [] }; signature = λ n. None; fields = λ n. [] }

first_row : first_reading nothing_declared [] (bare ∷ numbered ∷ []) End ≡ Some (bare, NoImmediates)
first_row = refl

first_of_two : first_reading nothing_declared [] (bare ∷ record bare { number = 0x03 } ∷ []) End ≡ Some (bare, NoImmediates)
first_of_two = refl

second_row : first_reading nothing_declared [] (bare ∷ numbered ∷ []) (Word (codes "5") End) ≡ Some (numbered, I32 (pos 5))
unfolding numeral natural integer
second_row = refl

no_row : first_reading nothing_declared [] (bare ∷ numbered ∷ []) (Word (codes "w") End) ≡ None
unfolding numeral natural integer
no_row = refl

-- ---- hints

-- The hints before each operator of a text
abbrev hints : List ℕ → Option (List (List Forest))
hints text = forest text >>= chunks_of_forest >>= λ cs. Some (map (λ c. c.hints) cs)

-- A hint that consists of this byte
abbrev byte : ℕ → Forest
byte b = String (b ∷ []) End

hint_of_operator : hints (codes "local.get 0 (@metadata.code.branch_hint \"\\01\") drop return") ≡ Some ([] ∷ (byte 1 ∷ []) ∷ [] ∷ [])
unfolding lex class escape table head is_utf8 chars encode_utf8
hint_of_operator = refl

-- A hint before a group belongs to the group's own operator, which comes after its operands.
hint_of_group : hints (codes "(@metadata.code.branch_hint \"\\00\") (drop (i32.const 1)) return") ≡ Some ([] ∷ (byte 0 ∷ []) ∷ [] ∷ [])
unfolding lex class escape table head is_utf8 chars encode_utf8
hint_of_group = refl

hint_in_group : hints (codes "(drop (@metadata.code.branch_hint \"\\01\") (i32.const 1))") ≡ Some ((byte 1 ∷ []) ∷ [] ∷ [])
unfolding lex class escape table head is_utf8 chars encode_utf8
hint_in_group = refl

-- The operands of an `if` come before it. A hint before a case belongs to no operator.
hint_of_if : hints (codes "(@metadata.code.branch_hint \"\\01\") (if (local.get 0) (@metadata.code.branch_hint \"\\00\") (then nop (@metadata.code.branch_hint \"\\00\") br_if 0))")
    ≡ Some ([] ∷ (byte 1 ∷ []) ∷ [] ∷ (byte 0 ∷ []) ∷ [] ∷ [])
unfolding lex class escape table head is_utf8 chars encode_utf8
hint_of_if = refl

-- A hint before a folded block belongs to the operator that opens it, not to its `end`.
hint_of_block : hints (codes "(@metadata.code.branch_hint \"\\01\") (block nop) block (@metadata.code.branch_hint \"\\00\") end") ≡ Some ((byte 1 ∷ []) ∷ [] ∷ [] ∷ [] ∷ (byte 0 ∷ []) ∷ [])
unfolding lex class escape table head is_utf8 chars encode_utf8
hint_of_block = refl

-- Other annotations between hints are skipped.
two_hints : hints (codes "(@metadata.code.branch_hint \"\\00\") (@a) (@metadata.code.branch_hint \"\\01\") drop") ≡ Some ((byte 0 ∷ byte 1 ∷ []) ∷ [])
unfolding lex class escape table head is_utf8 chars encode_utf8
two_hints = refl

-- A hint in another annotation, before an immediate, and after the last operator
inner_hint : hints (codes "(@a (@metadata.code.branch_hint \"\\00\")) local.get (@metadata.code.branch_hint \"\\00\") 0 drop (@metadata.code.branch_hint \"\\00\")") ≡ Some ([] ∷ [] ∷ [])
unfolding lex class escape table head is_utf8 chars encode_utf8
inner_hint = refl

other_names : hints (codes "(@metadata.code.hint \"\\00\") drop (@metadata.code.branch_hints \"\\00\") drop") ≡ Some ([] ∷ [] ∷ [])
unfolding lex class escape table head is_utf8 chars encode_utf8
other_names = refl

-- ---- folded instructions: the part before their own operator, the operator, and the part after it

abbrev of_number : ℕ → Chunk
of_number n = record { rows = record bare { number = n } ∷ []; arguments = End; hints = [] }

in_three_parts : chunks_of_instructions (Folded (of_number 1 ∷ []) (of_number 2) (of_number 3 ∷ []) ∷ []) ≡ Some (of_number 1 ∷ of_number 2 ∷ of_number 3 ∷ [])
in_three_parts = refl

operand_in_three_parts : operands (Folded (of_number 1 ∷ []) (of_number 2) (of_number 3 ∷ []) ∷ Folded [] (of_number 4) [] ∷ []) ≡ Some (of_number 1 ∷ of_number 2 ∷ of_number 3 ∷ of_number 4 ∷ [])
operand_in_three_parts = refl
