-- Worked rows of the table of operators (sections 5.4 and 6.5 of the standard): words, shapes, arities and roles
-- by opcode.
use Rattle.std.specs.Prelude.{◌≡◌, ℕ, List, [], ◌∷◌, ◌++◌, replicate, Bool, true, false, not, ◌&&◌, is_some, map, codes, Option, Some, option_map, refl}
use Rattle.std.specs.List.{filter}
use Rattle.wasmprinter_spec.specs.Operator.{opcode}
use Rattle.wasmprinter_spec.specs.Row.{Row, Shape, NoneShape, BlockShape, TryTableShape, IndexShape, BranchTableShape, I32Shape, I64Shape, Func, Local, Label, Tag, Fixed, OfCall, OfThrow, OfReturn, OfBranch, OfBranchIf, OfBranchTable, OfBlock, Plain, Opens, OpensIf, OpensTry, Else, Catches, CatchesAll, Delegates, Ends}
use Rattle.wasmprinter_spec.specs.Table.{table, first, has_opcode, rows_of, by_opcode, word_of, role_of, shape_of}
use Rattle.wasmprinter_spec.specs.Code.{role_by}

-- The opcodes of return, call, drop, local.get, local.set, i32.const and i64.const
abbrev numbers : List ℕ
numbers = 0x0f ∷ 0x10 ∷ 0x1a ∷ 0x20 ∷ 0x21 ∷ 0x41 ∷ 0x42 ∷ []

words : map (λ n. word_of (opcode 0 n)) numbers
    ≡ codes "return" ∷ codes "call" ∷ codes "drop" ∷ codes "local.get" ∷ codes "local.set" ∷ codes "i32.const" ∷ codes "i64.const" ∷ []
unfolding table
words = refl

shapes : map (λ n. option_map (λ r. r.shape) (by_opcode (opcode 0 n))) numbers
    ≡ Some NoneShape ∷ Some (IndexShape Func) ∷ Some NoneShape ∷ Some (IndexShape Local) ∷ Some (IndexShape Local) ∷ Some I32Shape ∷ Some I64Shape ∷ []
unfolding table
shapes = refl

arities : map (λ n. option_map (λ r. r.arity) (by_opcode (opcode 0 n))) numbers
    ≡ Some OfReturn ∷ Some OfCall ∷ Some (Fixed 1 0) ∷ Some (Fixed 0 1) ∷ Some (Fixed 1 0) ∷ Some (Fixed 0 1) ∷ Some (Fixed 0 1) ∷ []
unfolding table
arities = refl

-- ---- control instructions

-- The operators that have a role among blocks, and then the others
abbrev nesting_numbers : List ℕ
nesting_numbers = 0x02 ∷ 0x03 ∷ 0x04 ∷ 0x05 ∷ 0x06 ∷ 0x07 ∷ 0x19 ∷ 0x18 ∷ 0x0b ∷ 0x1f ∷ []

abbrev branch_numbers : List ℕ
branch_numbers = 0x00 ∷ 0x01 ∷ 0x08 ∷ 0x09 ∷ 0x0a ∷ 0x0c ∷ 0x0d ∷ 0x0e ∷ []

nesting_words : map (λ n. word_of (opcode 0 n)) nesting_numbers
    ≡ codes "block" ∷ codes "loop" ∷ codes "if" ∷ codes "else" ∷ codes "try" ∷ codes "catch" ∷ codes "catch_all" ∷ codes "delegate" ∷ codes "end" ∷ codes "try_table" ∷ []
unfolding table
nesting_words = refl

nesting_shapes : map (λ n. option_map (λ r. r.shape) (by_opcode (opcode 0 n))) nesting_numbers
    ≡ Some BlockShape ∷ Some BlockShape ∷ Some BlockShape ∷ Some NoneShape ∷ Some BlockShape ∷ Some (IndexShape Tag) ∷ Some NoneShape ∷ Some (IndexShape Label) ∷ Some NoneShape ∷ Some TryTableShape ∷ []
unfolding table
nesting_shapes = refl

nesting_arities : map (λ n. option_map (λ r. r.arity) (by_opcode (opcode 0 n))) nesting_numbers ≡ replicate 10 (Some OfBlock)
unfolding table
nesting_arities = refl

roles : map (λ n. role_of (opcode 0 n)) nesting_numbers ≡ Opens ∷ Opens ∷ OpensIf ∷ Else ∷ OpensTry ∷ Catches ∷ CatchesAll ∷ Delegates ∷ Ends ∷ Opens ∷ []
unfolding table
roles = refl

branch_words : map (λ n. word_of (opcode 0 n)) branch_numbers
    ≡ codes "unreachable" ∷ codes "nop" ∷ codes "throw" ∷ codes "rethrow" ∷ codes "throw_ref" ∷ codes "br" ∷ codes "br_if" ∷ codes "br_table" ∷ []
unfolding table
branch_words = refl

branch_shapes : map (λ n. option_map (λ r. r.shape) (by_opcode (opcode 0 n))) branch_numbers
    ≡ Some NoneShape ∷ Some NoneShape ∷ Some (IndexShape Tag) ∷ Some (IndexShape Label) ∷ Some NoneShape ∷ Some (IndexShape Label) ∷ Some (IndexShape Label) ∷ Some BranchTableShape ∷ []
unfolding table
branch_shapes = refl

branch_arities : map (λ n. option_map (λ r. r.arity) (by_opcode (opcode 0 n))) branch_numbers
    ≡ Some (Fixed 0 0) ∷ Some (Fixed 0 0) ∷ Some OfThrow ∷ Some (Fixed 0 0) ∷ Some (Fixed 1 0) ∷ Some OfBranch ∷ Some OfBranchIf ∷ Some OfBranchTable ∷ []
unfolding table
branch_arities = refl

-- All other opcodes have the role `Plain`, even an opcode that is not listed.
plain_roles : map (λ n. role_of (opcode 0 n)) (branch_numbers ++ (0x1d ∷ numbers))
    ≡ Plain ∷ Plain ∷ Plain ∷ Plain ∷ Plain ∷ Plain ∷ Plain ∷ Plain ∷ Plain ∷ Plain ∷ Plain ∷ Plain ∷ Plain ∷ Plain ∷ Plain ∷ Plain ∷ []
unfolding table
plain_roles = refl

-- The operators whose only immediate is a label: rethrow, br, br_if, delegate
abbrev takes_label : Option Shape → Bool
takes_label (Some (IndexShape Label)) = true
takes_label _ = false

label_takers : filter (λ n. takes_label (shape_of (opcode 0 n))) (nesting_numbers ++ (branch_numbers ++ numbers)) ≡ 0x18 ∷ 0x09 ∷ 0x0c ∷ 0x0d ∷ []
unfolding table
label_takers = refl

-- Operators with the same word have the same role.
roles_agree : map (λ r. role_by (rows_of r.word)) table ≡ map (λ r. r.role) table
unfolding table
roles_agree = refl

-- ---- words

-- The rows of a word are those of its opcode. A word of no operator has none.
same_rows : map Some (rows_of (codes "local.set")) ≡ by_opcode (opcode 0 0x21) ∷ []
unfolding table
same_rows = refl

-- The rows of a word that two opcodes share, in the order of the opcodes
shared_rows : map (λ w. map Some (rows_of w)) (codes "select" ∷ codes "ref.test" ∷ codes "ref.cast" ∷ [])
    ≡ (by_opcode (opcode 0 0x1b) ∷ by_opcode (opcode 0 0x1c) ∷ []) ∷ (by_opcode (opcode 0xfb 20) ∷ by_opcode (opcode 0xfb 21) ∷ [])
    ∷ (by_opcode (opcode 0xfb 22) ∷ by_opcode (opcode 0xfb 23) ∷ []) ∷ []
unfolding table
shared_rows = refl

no_rows : map rows_of (codes "local" ∷ codes "param" ∷ codes "" ∷ codes "local.set0" ∷ []) ≡ [] ∷ [] ∷ [] ∷ [] ∷ []
unfolding table
no_rows = refl

-- A byte that is the opcode of no operator, and a number that no opcode with the prefix has
no_word : map word_of (opcode 0 0x1d ∷ opcode 0 0xff ∷ opcode 0xfc 0x20 ∷ []) ≡ [] ∷ [] ∷ [] ∷ []
unfolding table
no_word = refl

-- No opcode is listed twice.
abbrev have_own_opcodes : List Row → Bool
have_own_opcodes [] = true
have_own_opcodes (r ∷ rs) = not (is_some (first (has_opcode (opcode r.prefix r.number)) rs)) && have_own_opcodes rs

own_opcodes : have_own_opcodes table ≡ true
unfolding table
own_opcodes = refl
