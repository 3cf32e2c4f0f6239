-- Worked rows of folding: the folded texts of bodies and constant expressions, and that these texts read back as
-- the same operators.
use Rattle.std.specs.Prelude.{◌≡◌, ℕ, ◌==◌, cond, List, [], ◌∷◌, ◌++◌, map, flat_map, true, false, codes, slice_get, Option, Some, None, option_map, refl}
use Rattle.wasmprinter_spec.specs.Grammar.{input, Placed}
use Rattle.wasmprinter_spec.specs.Types as types
use Rattle.wasmprinter_spec.specs.Operator.{Opcode}
use Rattle.wasmprinter_spec.specs.Row.{Arity, Fixed}
use Rattle.wasmprinter_spec.specs.Instructions.{expression}
use Rattle.wasmprinter_spec.specs.Table.{arity_of}
use Rattle.wasmprinter_spec.specs.Names.{Names, no_names}
use Rattle.wasmprinter_spec.specs.LabelNames.{label_naming}
use Rattle.wasmprinter_spec.specs.Customs.Hints.{Hint}
use Rattle.wasmprinter_spec.specs.Call.{text_of}
use Rattle.wasmprinter_spec.specs.Options.{Options, defaults}
use Rattle.wasmprinter_spec.specs.Piece.{all_calls, left_in, place_text}
use Rattle.wasmprinter_spec.specs.Layout.Operators.{Form, OverLines, InLine, Setting}
use Rattle.wasmprinter_spec.specs.Layout.Folded.{items, node_pieces, folded_pieces}
use Rattle.wasmprinter_spec.specs.Folding.Arities.{Signatures}
use Rattle.wasmprinter_spec.proofs.Computing.{printing, reading}
use Rattle.wasmprinter_spec.proofs.Samples.{body_lines}
use Rattle.wasmprinter_spec.proofs.FromBytes.{spelled}
use Rattle.wasmprinter_spec.proofs.FromText.{read_back}

-- No types are declared. Function 0 has two results.
abbrev pair_giving : Signatures
pair_giving = record {
  arities = arity_of;
  types = λ t. None;
  functions = slice_get (record { params = []; results = types.I32 ∷ types.I32 ∷ [] } ∷ []);
  tags = λ t. None;
  fields = λ t. None;
  own = Some 0;
}

-- The same in a function with this number of results, or in one whose type does not exist
abbrev giving : Option ℕ → Signatures
giving own = record pair_giving { own = own }

abbrev setting : Form → Names → Setting
setting form names = record { form = form; signature = λ n. None; nesting = 2; names = names; function = 0; body = 0 }

-- The text of the operators that the bytes encode, the first at place 1. The outer option is empty if the bytes
-- encode no expression, the inner one if the operators cannot be folded.
abbrev folded_by : Options → Setting → Signatures → List (Placed Hint) → List ℕ → Option (Option (List ℕ))
folded_by o s ts hs bytes =
    option_map (λ x. option_map (λ ps. text_of (all_calls o ps)) (folded_pieces o false s ts hs x.0.items)) (expression.parse (input 1 (bytes ++ 0x0b ∷ [])))

-- Bytes, and their lines in a body
record Sample : Type 0 where
  bytes : List ℕ
  lines : List (List ℕ)

abbrev sample : List ℕ → List (List ℕ) → Sample
sample bs ls = record { bytes = bs; lines = ls }

abbrev body : Names → Signatures → List ℕ → Option (Option (List ℕ))
body names ts bytes = folded_by defaults (setting OverLines names) ts [] bytes

-- ---- bodies

abbrev operands : List Sample
operands =
    sample (0x41 ∷ 0x01 ∷ 0x41 ∷ 0x02 ∷ 0x6a ∷ []) (codes "(i32.add" ∷ codes "  (i32.const 1)" ∷ codes "  (i32.const 2))" ∷ [])
    -- One operand is missing.
    ∷ sample (0x41 ∷ 0x01 ∷ 0x6a ∷ 0x45 ∷ []) (codes "(i32.const 1)" ∷ codes "(i32.eqz" ∷ codes "  (i32.add))" ∷ [])
    -- Two results are taken together or not at all. An operator that could not take its operands is not taken
    -- either.
    ∷ sample (0x10 ∷ 0x00 ∷ 0x6a ∷ []) (codes "(i32.add" ∷ codes "  (call 0))" ∷ [])
    ∷ sample (0x10 ∷ 0x00 ∷ 0x45 ∷ 0x6a ∷ []) (codes "(call 0)" ∷ codes "(i32.eqz)" ∷ codes "(i32.add)" ∷ [])
    ∷ sample (0x10 ∷ 0x00 ∷ 0x45 ∷ 0x45 ∷ []) (codes "(call 0)" ∷ codes "(i32.eqz)" ∷ codes "(i32.eqz)" ∷ [])
    ∷ sample (0x41 ∷ 0x01 ∷ 0x10 ∷ 0x00 ∷ 0x6a ∷ 0x6a ∷ []) (codes "(i32.add" ∷ codes "  (i32.const 1)" ∷ codes "  (i32.add" ∷ codes "    (call 0)))" ∷ [])
    -- Nodes without results are taken with an operand before them.
    ∷ sample (0x41 ∷ 0x00 ∷ 0x01 ∷ 0x1a ∷ []) (codes "(drop" ∷ codes "  (i32.const 0)" ∷ codes "  (nop))" ∷ [])
    ∷ sample (0x01 ∷ 0x41 ∷ 0x00 ∷ 0x1a ∷ 0x01 ∷ []) (codes "(nop)" ∷ codes "(drop" ∷ codes "  (i32.const 0))" ∷ codes "(nop)" ∷ [])
    -- A chain of operators with one operand each
    ∷ sample (0x41 ∷ 0x00 ∷ 0x45 ∷ 0x45 ∷ 0x45 ∷ []) (codes "(i32.eqz" ∷ codes "  (i32.eqz" ∷ codes "    (i32.eqz" ∷ codes "      (i32.const 0))))" ∷ [])
    ∷ sample [] []
    ∷ []

abbrev blocks : List Sample
blocks =
    -- The comment of a line must not contain the closing parenthesis.
    sample (0x02 ∷ 0x40 ∷ 0x0b ∷ []) (codes "(block ;; label = @1" ∷ codes ")" ∷ [])
    ∷ sample (0x1f ∷ 0x40 ∷ 0x00 ∷ 0x0b ∷ []) (codes "(try_table ;; label = @1" ∷ codes ")" ∷ [])
    ∷ sample (0x02 ∷ 0x40 ∷ 0x02 ∷ 0x40 ∷ 0x0b ∷ 0x0b ∷ []) (codes "(block ;; label = @1" ∷ codes "  (block ;; label = @2" ∷ codes "  ))" ∷ [])
    ∷ sample (0x02 ∷ 0x7f ∷ 0x41 ∷ 0x01 ∷ 0x0b ∷ 0x1a ∷ []) (codes "(drop" ∷ codes "  (block (result i32) ;; label = @1" ∷ codes "    (i32.const 1)))" ∷ [])
    -- An operand is never taken from before the enclosing block.
    ∷ sample (0x41 ∷ 0x01 ∷ 0x02 ∷ 0x40 ∷ 0x1a ∷ 0x0b ∷ []) (codes "(i32.const 1)" ∷ codes "(block ;; label = @1" ∷ codes "  (drop))" ∷ [])
    -- A branch to a block takes the block's results. A branch to a loop takes none of them.
    ∷ sample (0x02 ∷ 0x7f ∷ 0x41 ∷ 0x05 ∷ 0x0c ∷ 0x00 ∷ 0x0b ∷ 0x1a ∷ [])
    (codes "(drop" ∷ codes "  (block (result i32) ;; label = @1" ∷ codes "    (br 0 (;@1;)" ∷ codes "      (i32.const 5))))" ∷ [])
    ∷ sample (0x03 ∷ 0x7f ∷ 0x41 ∷ 0x05 ∷ 0x0c ∷ 0x00 ∷ 0x0b ∷ []) (codes "(loop (result i32) ;; label = @1" ∷ codes "  (i32.const 5)" ∷ codes "  (br 0 (;@1;)))" ∷ [])
    ∷ sample (0x02 ∷ 0x7f ∷ 0x03 ∷ 0x40 ∷ 0x41 ∷ 0x05 ∷ 0x0c ∷ 0x01 ∷ 0x0b ∷ 0x0b ∷ [])
    (codes "(block (result i32) ;; label = @1" ∷ codes "  (loop ;; label = @2" ∷ codes "    (br 1 (;@1;)" ∷ codes "      (i32.const 5))))" ∷ [])
    ∷ []

abbrev ifs : List Sample
ifs =
    sample (0x20 ∷ 0x00 ∷ 0x04 ∷ 0x40 ∷ 0x0b ∷ []) (codes "(if ;; label = @1" ∷ codes "  (local.get 0)" ∷ codes "  (then))" ∷ [])
    ∷ sample (0x20 ∷ 0x00 ∷ 0x04 ∷ 0x40 ∷ 0x05 ∷ 0x0b ∷ []) (codes "(if ;; label = @1" ∷ codes "  (local.get 0)" ∷ codes "  (then)" ∷ codes "  (else))" ∷ [])
    ∷ sample (0x41 ∷ 0x00 ∷ 0x04 ∷ 0x40 ∷ 0x41 ∷ 0x01 ∷ 0x05 ∷ 0x41 ∷ 0x02 ∷ 0x0b ∷ [])
    (codes "(if ;; label = @1" ∷ codes "  (i32.const 0)" ∷ codes "  (then" ∷ codes "    (i32.const 1))" ∷ codes "  (else" ∷ codes "    (i32.const 2)))" ∷ [])
    -- An `if` takes only the last node, whatever results that has, or none.
    ∷ sample (0x01 ∷ 0x04 ∷ 0x40 ∷ 0x0b ∷ []) (codes "(if ;; label = @1" ∷ codes "  (nop)" ∷ codes "  (then))" ∷ [])
    ∷ sample (0x41 ∷ 0x00 ∷ 0x01 ∷ 0x04 ∷ 0x40 ∷ 0x0b ∷ []) (codes "(i32.const 0)" ∷ codes "(if ;; label = @1" ∷ codes "  (nop)" ∷ codes "  (then))" ∷ [])
    ∷ sample (0x04 ∷ 0x40 ∷ 0x0b ∷ []) (codes "(if ;; label = @1" ∷ codes "  (then))" ∷ [])
    -- An `if` with a result, as the operand of another `if`
    ∷ sample (0x41 ∷ 0x00 ∷ 0x04 ∷ 0x7f ∷ 0x41 ∷ 0x01 ∷ 0x05 ∷ 0x41 ∷ 0x02 ∷ 0x0b ∷ 0x04 ∷ 0x40 ∷ 0x0b ∷ [])
    (codes "(if ;; label = @1"
    ∷ codes "  (if (result i32) ;; label = @1"
    ∷ codes "    (i32.const 0)"
    ∷ codes "    (then"
    ∷ codes "      (i32.const 1))"
    ∷ codes "    (else"
    ∷ codes "      (i32.const 2)))"
    ∷ codes "  (then))"
    ∷ [])
    ∷ []

abbrev all_samples : List (List Sample)
all_samples = operands ∷ blocks ∷ ifs ∷ []

samples_folded : map (λ ss. map (λ s. body no_names pair_giving s.bytes) ss) all_samples ≡ map (λ ss. map (λ s. Some (Some (body_lines s.lines))) ss) all_samples
unfolding printing items node_pieces folded_pieces
samples_folded = refl

samples_read : map (λ ss. map (λ s. read_back (body_lines s.lines)) ss) all_samples ≡ map (λ ss. map (λ s. spelled s.bytes) ss) all_samples
unfolding reading
samples_read = refl

-- An operator that could not take its operands counts as having the greatest number of results. An array with that
-- many elements takes it.
greatest_array : body no_names pair_giving (0x10 ∷ 0x00 ∷ 0x45 ∷ 0xfb ∷ 0x08 ∷ 0x00 ∷ 0xff ∷ 0xff ∷ 0xff ∷ 0xff ∷ 0x0f ∷ [])
    ≡ Some (Some (body_lines (codes "(call 0)" ∷ codes "(array.new_fixed 0 4294967295" ∷ codes "  (i32.eqz))" ∷ [])))
unfolding printing items node_pieces folded_pieces
greatest_array = refl

-- A branch to a block whose type does not exist takes nothing, and the block has no results.
unknown_block : body no_names pair_giving (0x41 ∷ 0x00 ∷ 0x02 ∷ 0x05 ∷ 0x41 ∷ 0x01 ∷ 0x0d ∷ 0x00 ∷ 0x0b ∷ 0x1a ∷ [])
    ≡ Some (Some (body_lines (codes "(drop" ∷ codes "  (i32.const 0)" ∷ codes "  (block (type 5) ;; label = @1" ∷ codes "    (i32.const 1)" ∷ codes "    (br_if 0 (;@1;))))" ∷ [])))
unfolding printing items node_pieces folded_pieces
unknown_block = refl

-- Branches to the body's own label and returns from the function, which has one result, no result, or no function
-- type
abbrev leaving : List ℕ
leaving = 0x41 ∷ 0x05 ∷ 0x0c ∷ 0x00 ∷ 0x41 ∷ 0x06 ∷ 0x0f ∷ 0x41 ∷ 0x07 ∷ 0x0d ∷ 0x00 ∷ []

leaving_with_one : body no_names (giving (Some 1)) leaving
    ≡ Some (Some (body_lines (codes "(br 0" ∷ codes "  (i32.const 5))" ∷ codes "(return" ∷ codes "  (i32.const 6))" ∷ codes "(i32.const 7)" ∷ codes "(br_if 0)" ∷ [])))
unfolding printing items node_pieces folded_pieces
leaving_with_one = refl

leaving_with_none : body no_names (giving (Some 0)) leaving
    ≡ Some (Some (body_lines (codes "(i32.const 5)" ∷ codes "(br 0)" ∷ codes "(i32.const 6)" ∷ codes "(return)" ∷ codes "(br_if 0" ∷ codes "  (i32.const 7))" ∷ [])))
unfolding printing items node_pieces folded_pieces
leaving_with_none = refl

leaving_without_type : body no_names (giving None) leaving
    ≡ Some (Some (body_lines (codes "(i32.const 5)" ∷ codes "(br 0)" ∷ codes "(i32.const 6)" ∷ codes "(return)" ∷ codes "(i32.const 7)" ∷ codes "(br_if 0)" ∷ [])))
unfolding printing items node_pieces folded_pieces
leaving_without_type = refl

-- Other arities: one operand and one result for each opcode, no listed opcode, and two results for a constant
abbrev by_arities : (Opcode → Option Arity) → List ℕ → Option (Option (List ℕ))
by_arities arities bytes = body no_names (record pair_giving { arities = arities }) bytes

other_arities : map (λ arities. by_arities arities (0x41 ∷ 0x01 ∷ 0x41 ∷ 0x02 ∷ 0x6a ∷ []))
    ((λ o. Some (Fixed 1 1)) ∷ (λ o. None) ∷ (λ o. cond (o.number == 0x41) (Some (Fixed 0 2)) (arity_of o)) ∷ [])
    ≡ map (λ ls. Some (Some (body_lines ls))) (
    (codes "(i32.add" ∷ codes "  (i32.const 2" ∷ codes "    (i32.const 1)))" ∷ [])
    ∷ (codes "(i32.const 1)" ∷ codes "(i32.const 2)" ∷ codes "(i32.add)" ∷ [])
    ∷ (codes "(i32.const 1)" ∷ codes "(i32.add" ∷ codes "  (i32.const 2))" ∷ [])
    ∷ [])
unfolding printing items node_pieces folded_pieces
other_arities = refl

older_try : map (body no_names pair_giving) ((0x06 ∷ 0x40 ∷ 0x19 ∷ 0x0b ∷ []) ∷ (0x06 ∷ 0x40 ∷ 0x07 ∷ 0x00 ∷ 0x0b ∷ []) ∷ (0x02 ∷ 0x40 ∷ 0x06 ∷ 0x40 ∷ 0x18 ∷ 0x00 ∷ 0x0b ∷ []) ∷ [])
    ≡ Some None ∷ Some None ∷ Some None ∷ []
unfolding printing items node_pieces folded_pieces
older_try = refl

-- ---- names

-- All items and locals have this name, and so does label 0.
abbrev naming : List ℕ → Names
naming s = record no_names {
  locals = λ f i. Some (record { given = Some s; content = s });
  items = λ space i. Some (record { given = Some s; content = s });
  labels = λ f. label_naming false (slice_get (s ∷ []));
}

-- A block with an identifier has no comment.
named_block : body (naming (codes "a")) pair_giving (0x02 ∷ 0x40 ∷ 0x0b ∷ []) ≡ Some (Some (body_lines (codes "(block $a)" ∷ [])))
unfolding printing reading items node_pieces folded_pieces
named_block = refl

-- Blocks are numbered in order, and each label belongs to its block.
abbrev two_labels : Names
two_labels = record no_names { labels = λ f. label_naming false (slice_get (codes "a" ∷ codes "b" ∷ [])) }

labels_of_blocks : body two_labels pair_giving (0x02 ∷ 0x40 ∷ 0x0b ∷ 0x02 ∷ 0x40 ∷ 0x0c ∷ 0x00 ∷ 0x0c ∷ 0x01 ∷ 0x0b ∷ [])
    ≡ Some (Some (body_lines (codes "(block $a)" ∷ codes "(block $b" ∷ codes "  (br $b)" ∷ codes "  (br 1))" ∷ [])))
unfolding printing reading items node_pieces folded_pieces
labels_of_blocks = refl

-- The condition of an `if` is inside the group of the `if` but outside its label.
labels_of_predicate : body no_names pair_giving (0x02 ∷ 0x40 ∷ 0x41 ∷ 0x00 ∷ 0x0d ∷ 0x00 ∷ 0x04 ∷ 0x40 ∷ 0x0c ∷ 0x00 ∷ 0x0c ∷ 0x01 ∷ 0x0b ∷ 0x0b ∷ [])
    ≡ Some (Some (body_lines (
    codes "(block ;; label = @1"
    ∷ codes "  (if ;; label = @2"
    ∷ codes "    (br_if 0 (;@1;)"
    ∷ codes "      (i32.const 0))"
    ∷ codes "    (then"
    ∷ codes "      (br 0 (;@2;))"
    ∷ codes "      (br 1 (;@1;)))))"
    ∷ [])))
unfolding printing items node_pieces folded_pieces
labels_of_predicate = refl

-- Synthesized identifiers
labels_synthesized : body (record no_names { labels = λ f. label_naming true (λ n. None) }) pair_giving (0x02 ∷ 0x40 ∷ 0x02 ∷ 0x40 ∷ 0x0c ∷ 0x01 ∷ 0x0c ∷ 0x00 ∷ 0x0b ∷ 0x0b ∷ [])
    ≡ Some (Some (body_lines (codes "(block $#label0" ∷ codes "  (block $#label1" ∷ codes "    (br $#label0)" ∷ codes "    (br $#label1)))" ∷ [])))
unfolding printing reading items node_pieces folded_pieces
labels_synthesized = refl

-- After a name with two adjacent semicolons the line ends, as after a comment.
semicolons : body (naming (codes "a;;b")) pair_giving (0x20 ∷ 0x00 ∷ 0x20 ∷ 0x00 ∷ 0x1a ∷ [])
    ≡ Some (Some (body_lines (
    codes "(local.get $\"a;;b\"" ∷ codes ")" ∷ codes "(drop" ∷ codes "  (local.get $\"a;;b\"" ∷ codes "  ))" ∷ [])))
unfolding printing reading items node_pieces folded_pieces
semicolons = refl

-- After a name with two semicolons that are not adjacent it does not.
apart : body (naming (codes ";a;")) pair_giving (0x20 ∷ 0x00 ∷ []) ≡ Some (Some (body_lines (codes "(local.get $\";a;\")" ∷ [])))
unfolding printing reading items node_pieces folded_pieces
apart = refl

-- ---- hints and places

abbrev hint_at : ℕ → Placed Hint
hint_at n = record { place = 99; value = record { offset = n; taken = true } }

hint_of_if : folded_by defaults (setting OverLines no_names) pair_giving (hint_at 3 ∷ []) (0x20 ∷ 0x00 ∷ 0x04 ∷ 0x40 ∷ 0x0b ∷ [])
    ≡ Some (Some (body_lines (codes "(@metadata.code.branch_hint \"\\01\")" ∷ codes "(if ;; label = @1" ∷ codes "  (local.get 0)" ∷ codes "  (then))" ∷ [])))
unfolding printing items node_pieces folded_pieces
hint_of_if = refl

-- The hints of an operand and of its operator, in the order of the bytes
hints_of_operands : folded_by defaults (setting OverLines no_names) pair_giving (hint_at 3 ∷ hint_at 5 ∷ []) (0x41 ∷ 0x01 ∷ 0x41 ∷ 0x02 ∷ 0x6a ∷ [])
    ≡ Some (Some (body_lines (
    codes "(@metadata.code.branch_hint \"\\01\")" ∷ codes "(i32.add" ∷ codes "  (i32.const 1)" ∷ codes "  (@metadata.code.branch_hint \"\\01\")" ∷ codes "  (i32.const 2))" ∷ [])))
unfolding printing items node_pieces folded_pieces
hints_of_operands = refl

-- A hint has the place of its operator, a `then` that of the `if`, and an `else` its own. A parenthesis on its own
-- line has the place of the node that it closes.
abbrev places : List (List ℕ)
places =
    codes "(;@3     ;)    (@metadata.code.branch_hint \"\\01\")"
    ∷ codes "(;@3     ;)    (if ;; label = @1"
    ∷ codes "(;@1     ;)      (local.get 0)"
    ∷ codes "(;@3     ;)      (then"
    ∷ codes "(;@5     ;)        (block ;; label = @2"
    ∷ codes "(;@5     ;)        ))"
    ∷ codes "(;@8     ;)      (else))"
    ∷ []

with_places : folded_by (record defaults { offsets = true }) (setting OverLines no_names) pair_giving (hint_at 3 ∷ []) (0x20 ∷ 0x00 ∷ 0x04 ∷ 0x40 ∷ 0x02 ∷ 0x40 ∷ 0x0b ∷ 0x05 ∷ 0x0b ∷ [])
    ≡ Some (Some (flat_map (λ l. codes "\n" ++ l) places))
unfolding printing left_in place_text items node_pieces folded_pieces
with_places = refl

-- ---- constant expressions

abbrev constant : Names → List ℕ → Option (Option (List ℕ))
constant names bytes = folded_by defaults (setting InLine names) (giving (Some 0)) [] bytes

constants : map (constant no_names) (
    (0x02 ∷ 0x7f ∷ 0x41 ∷ 0x01 ∷ 0x0b ∷ []) ∷ (0x02 ∷ 0x40 ∷ 0x0b ∷ []) ∷ (0x41 ∷ 0x01 ∷ 0x41 ∷ 0x02 ∷ []) ∷ (0x41 ∷ 0x01 ∷ 0x41 ∷ 0x02 ∷ 0x6a ∷ 0x45 ∷ []) ∷ [] ∷ [])
    ≡ Some (Some (codes "(block (result i32)  (; label = @1 ;) (i32.const 1))"))
    ∷ Some (Some (codes "(block  (; label = @1 ;))"))
    ∷ Some (Some (codes "(i32.const 1) (i32.const 2)"))
    ∷ Some (Some (codes "(i32.eqz (i32.add (i32.const 1) (i32.const 2)))"))
    ∷ Some (Some [])
    ∷ []
unfolding printing items node_pieces folded_pieces
constants = refl

-- A branch to the label of the expression itself takes no results.
constant_branches : map (constant no_names) ((0x41 ∷ 0x00 ∷ 0x0d ∷ 0x00 ∷ []) ∷ (0x41 ∷ 0x00 ∷ 0xd6 ∷ 0x00 ∷ []) ∷ (0x41 ∷ 0x00 ∷ 0x0f ∷ []) ∷ [])
    ≡ Some (Some (codes "(br_if 0 (i32.const 0))")) ∷ Some (Some (codes "(i32.const 0) (br_on_non_null 0)")) ∷ Some (Some (codes "(i32.const 0) (return)")) ∷ []
unfolding printing items node_pieces folded_pieces
constant_branches = refl

-- In a constant expression too, a line ends after two semicolons. The next line is indented as the node would be
-- over several lines.
constant_semicolons : map (constant (naming (codes "a;;b"))) ((0x23 ∷ 0x00 ∷ []) ∷ (0x23 ∷ 0x00 ∷ 0x45 ∷ []) ∷ [])
    ≡ Some (Some (codes "(global.get $\"a;;b\"\n    )")) ∷ Some (Some (codes "(i32.eqz (global.get $\"a;;b\"\n      ))")) ∷ []
unfolding printing reading items node_pieces folded_pieces
constant_semicolons = refl
