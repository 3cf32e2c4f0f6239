-- The group of a single operator reads as the code of that operator.
use Rattle.std.proofs.Common.{◌≡◌, true, cond, List, [], ◌∷◌, ℕ, Option, Some, refl, sym, ap, ◌∙◌, codes, bytes_eq}
use Rattle.wasmprinter_spec.specs.Grammar.{◌>>=◌}
use Rattle.wasmprinter_spec.specs.Forest.{Forest, End, Word, Group, onto}
use Rattle.wasmprinter_spec.specs.Operator.{Operator}
use Rattle.wasmprinter_spec.specs.Row.{Row, Role, Plain, Opens, OpensIf, Else, OpensTry, Catches, CatchesAll, Delegates, Ends}
use Rattle.wasmprinter_spec.specs.Table.{table, rows_of, word_of_row, word_of, role_of_row, role_of}
use Rattle.wasmprinter_spec.specs.Stepped.{stops}
use Rattle.wasmprinter_spec.specs.Nesting.{Nests, Sequence, advance, at_start}
use Rattle.wasmprinter_spec.specs.NestingSteps.{stops_at_end}
use Rattle.wasmprinter_spec.specs.Code.{Chunk, chunk, code_of, only_instructions, chunks_of_instructions, folded_instruction, with_instruction, PartHead, ThenHead, ElseHead, OperatorHead, head_by, head, with_group, code, chunks_of_forest}
use Rattle.wasmprinter_laws.specs.Listed.{IsListed}
use Rattle.wasmprinter_laws.proofs.Tabled.{HasRow, row_for, StandsAlone, plain_alone, plain_by_word}
use Rattle.wasmprinter_laws.proofs.Operators.Arguments.{AreArguments, arguments_front}
use Rattle.wasmprinter_laws.proofs.Operators.Rows.{IsSome, rows_of-row, first_of_rows}

-- An operator that is well nested by itself neither opens nor closes a block.
plain_role : (r : Role) → Nests Sequence (r ∷ []) → r ≡ Plain
plain_role r n = by r (stops_at_end (r ∷ []) n)
  where
    by : (x : Role) → stops advance at_start (x ∷ []) Ends ≡ true → x ≡ Plain
    by Plain e = refl
    by Opens e = absurd cc
    by OpensIf e = absurd cc
    by Else e = absurd cc
    by OpensTry e = absurd cc
    by Catches e = absurd cc
    by CatchesAll e = absurd cc
    by Delegates e = absurd cc
    by Ends e = absurd cc

-- Its word is the head of a folded operator.
pub head-alone : (w : List ℕ) → StandsAlone w → head w ≡ head_by (rows_of w)
unfolding head
head-alone w a =
    let (no_then, (no_else, _)) = a.others in
    ap (λ t. cond t PartHead (cond (bytes_eq w (codes "then")) ThenHead (cond (bytes_eq w (codes "else")) ElseHead (head_by (rows_of w))))) a.part
    ∙ ap (λ t. cond t ThenHead (cond (bytes_eq w (codes "else")) ElseHead (head_by (rows_of w)))) no_then
    ∙ ap (λ t. cond t ElseHead (head_by (rows_of w))) no_else

pub record IsAlone (o : Operator) : Type 0 where
  pub row : HasRow o
  pub role : row.row.role ≡ Plain
  pub alone : StandsAlone (word_of o.opcode)

pub alone_for : (o : Operator) → IsListed o → Nests Sequence (role_of o.opcode ∷ []) → IsAlone o
alone_for o l n =
    let r : HasRow o = row_for o l in
    let plain : r.row.role ≡ Plain = sym (ap role_of_row r.found) ∙ plain_role (role_of o.opcode) n in
    let a : StandsAlone r.row.word = plain_alone r.row r.in_table plain in
    let e : word_of o.opcode ≡ r.row.word = ap word_of_row r.found in
    record { row = r; role = plain; alone = rw e a }

-- Its group reads as its code.
pub chunks_of_forest-alone : (o : Operator) (a : Forest) → IsAlone o → AreArguments a →
    chunks_of_forest (Group (Word (word_of o.opcode) (onto a End)) End) ≡ Some (chunk (rows_of (word_of o.opcode)) a ∷ [])
chunks_of_forest-alone o a h args =
    let w : List ℕ = word_of o.opcode in
    let r : HasRow o = h.row in
    let word : w ≡ r.row.word = ap word_of_row r.found in
    let some : IsSome (rows_of r.row.word) = rows_of-row r.row r.in_table in
    let rows : rows_of w ≡ some.first ∷ some.others = ap rows_of word ∙ some.is in
    let first = first_of_rows r.row.word table some.first some.others some.is in
    let plain : some.first.role ≡ Plain = plain_by_word r.row some.first r.in_table first.0 first.1 h.role in
    let its : head w ≡ OperatorHead some.first some.others = head-alone w h.alone ∙ ap head_by rows in
    let held : code (onto a End) ≡ Some (code_of a []) = arguments_front a args End [] refl in
    let item : Forest → Forest = Group (Word w (onto a End)) in
    ap (λ x. with_group x item (code (onto a End)) (Some (code_of End [])) >>= only_instructions >>= chunks_of_instructions) its
    ∙ ap (λ x. with_group (OperatorHead some.first some.others) item x (Some (code_of End [])) >>= only_instructions >>= chunks_of_instructions) held
    ∙ ap (λ x. folded_code x (some.first ∷ some.others)) plain
    ∙ ap (λ x. Some (chunk x a ∷ [])) (sym rows)
  where
    folded_code : Role → List Row → Option (List Chunk)
    folded_code x rs = folded_instruction x rs (code_of a []) >>= (λ i. with_instruction i (code_of End [])) >>= only_instructions >>= chunks_of_instructions
