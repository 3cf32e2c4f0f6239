-- The words of operators that may be folded, and the words that folded text itself contains: tests over the rows of
-- the table
use Rattle.std.proofs.Common.{◌≡◌, Bool, true, false, ◌&&◌, ◌||◌, not, cond, List, ◌∷◌, Option, Some, refl, sym, ap, ◌∙◌, codes, bytes_eq, ℕ}
use Rattle.std.proofs.lemmas.Bool.{and_parts, not-true}
use Rattle.wasmprinter_spec.specs.Operator.{Operator}
use Rattle.wasmprinter_spec.specs.Row.{Row, Role, Plain, Opens, OpensIf, OpensTry, Else, Catches, CatchesAll, Delegates, Ends, Shape, NoneShape}
use Rattle.wasmprinter_spec.specs.Table.{table, rows_of, by_opcode, word_of_row, word_of, role_of_row, role_of, shape_of_row, shape_of}
use Rattle.wasmprinter_spec.specs.Code.{role_by, OperatorHead, head_by, head}
use Rattle.wasmprinter_laws.specs.Listed.{IsListed}
use Rattle.wasmprinter_laws.proofs.Bytes.{bytes_same}
use Rattle.wasmprinter_laws.proofs.Tabled.{all, all_at, In, HasRow, row_for, group_words, is_part_word, is_group_word, StandsAlone, none_among}
use Rattle.wasmprinter_laws.proofs.Operators.Rows.{IsSome, rows_of-row, first_of_rows}
use Rattle.wasmprinter_laws.proofs.Operators.Alone.{head-alone}

-- ---- tests

-- Reports whether an operator with this role may start a group.
abbrev pub is_folded : Role → Bool
is_folded Plain = true
is_folded Opens = true
is_folded OpensIf = true
is_folded _ = false

-- The role of all operators with this word
abbrev role_of_word : List ℕ → Role
role_of_word w =
    cond (bytes_eq w (codes "block") || (bytes_eq w (codes "loop") || bytes_eq w (codes "try_table"))) Opens
    (cond (bytes_eq w (codes "if")) OpensIf
    (cond (bytes_eq w (codes "else")) Else
    (cond (bytes_eq w (codes "end")) Ends
    (cond (bytes_eq w (codes "try")) OpensTry
    (cond (bytes_eq w (codes "catch")) Catches (cond (bytes_eq w (codes "catch_all")) CatchesAll (cond (bytes_eq w (codes "delegate")) Delegates Plain)))))))

abbrev same_role : Role → Role → Bool
same_role Plain Plain = true
same_role Opens Opens = true
same_role OpensIf OpensIf = true
same_role OpensTry OpensTry = true
same_role Else Else = true
same_role Catches Catches = true
same_role CatchesAll CatchesAll = true
same_role Delegates Delegates = true
same_role Ends Ends = true
same_role _ _ = false

abbrev is_none_shape : Shape → Bool
is_none_shape NoneShape = true
is_none_shape _ = false

-- Reports whether an operator, if it is an `else` or `end`, has that word and no immediates.
abbrev stands_bare : Role → List ℕ → Shape → Bool
stands_bare Else w s = bytes_eq w (codes "else") && is_none_shape s
stands_bare Ends w s = bytes_eq w (codes "end") && is_none_shape s
stands_bare _ w s = true

abbrev may_lead : Row → Bool
may_lead r = not (is_folded r.role) || (not (is_part_word r.word) && not (is_group_word r.word))

folded_words : all may_lead table ≡ true
unfolding table
folded_words = refl

words_have_roles : all (λ r. same_role (role_of_word r.word) r.role) table ≡ true
unfolding table
words_have_roles = refl

bare_words : all (λ r. stands_bare r.role r.word r.shape) table ≡ true
unfolding table
bare_words = refl

-- ---- consequences of the tests

same_role-true : (a b : Role) → same_role a b ≡ true → a ≡ b
same_role-true Plain Plain e = refl
same_role-true Opens Opens e = refl
same_role-true OpensIf OpensIf e = refl
same_role-true OpensTry OpensTry e = refl
same_role-true Else Else e = refl
same_role-true Catches Catches e = refl
same_role-true CatchesAll CatchesAll e = refl
same_role-true Delegates Delegates e = refl
same_role-true Ends Ends e = refl
same_role-true _ _ e = absurd cc

none_shape-true : (s : Shape) → is_none_shape s ≡ true → s ≡ NoneShape
none_shape-true NoneShape e = refl
none_shape-true _ e = absurd cc

row_role : (r : Row) → In r table → role_of_word r.word ≡ r.role
row_role r i = same_role-true (role_of_word r.word) r.role (all_at (λ x. same_role (role_of_word x.word) x.role) r table words_have_roles i)

-- The rows of an operator's word; the first has the role of the operator.
pub record HasRows (o : Operator) : Type 0 where
  pub first : Row
  pub others : List Row
  pub are : rows_of (word_of o.opcode) ≡ first ∷ others
  pub role : first.role ≡ role_of o.opcode

pub rows_for : (o : Operator) → IsListed o → HasRows o
rows_for o h =
    let r : HasRow o = row_for o h in
    let some : IsSome (rows_of r.row.word) = rows_of-row r.row r.in_table in
    let w : word_of o.opcode ≡ r.row.word = ap word_of_row r.found in
    let at : In some.first table × (some.first.word ≡ r.row.word) = first_of_rows r.row.word table some.first some.others some.is in
    record {
      first = some.first;
      others = some.others;
      are = ap rows_of w ∙ some.is;
      role = sym (row_role some.first at.0) ∙ ap role_of_word at.1 ∙ row_role r.row r.in_table ∙ sym (ap role_of_row r.found);
    }

-- All operators with a word have the same role.
pub role_by-rows : (o : Operator) → IsListed o → role_by (rows_of (word_of o.opcode)) ≡ role_of o.opcode
role_by-rows o h = let r : HasRows o = rows_for o h in ap role_by r.are ∙ r.role

pub leads_alone : (r : Row) → In r table → is_folded r.role ≡ true → StandsAlone r.word
leads_alone r i p =
    let either : (not (is_folded r.role) || (not (is_part_word r.word) && not (is_group_word r.word))) ≡ true = all_at may_lead r table folded_words i in
    let both : (not (is_part_word r.word) && not (is_group_word r.word)) ≡ true =
    ap (λ x. not x || (not (is_part_word r.word) && not (is_group_word r.word))) (sym p) ∙ either in
    let parts = and_parts (not (is_part_word r.word)) (not (is_group_word r.word)) both in
    record { part = not-true (is_part_word r.word) parts.0; others = none_among r.word group_words (not-true (is_group_word r.word) parts.1) }

-- A group that starts with the word of an operator that may start a group is that operator.
pub head-folded : (o : Operator) (h : IsListed o) → is_folded (role_of o.opcode) ≡ true →
    head (word_of o.opcode) ≡ OperatorHead (rows_for o h).first (rows_for o h).others
head-folded o h p =
    let r : HasRow o = row_for o h in
    let rs : HasRows o = rows_for o h in
    let w : word_of o.opcode ≡ r.row.word = ap word_of_row r.found in
    let a : StandsAlone r.row.word = leads_alone r.row r.in_table (ap is_folded (sym (ap role_of_row r.found)) ∙ p) in
    ap head w ∙ head-alone r.row.word a ∙ ap (λ x. head_by (rows_of x)) (sym w) ∙ ap head_by rs.are

bare_row : (o : Operator) → IsListed o → (r : Row) → by_opcode o.opcode ≡ Some r → stands_bare r.role r.word r.shape ≡ true
bare_row o h r e =
    let x : HasRow o = row_for o h in
    let same : x.row ≡ r = some_row x.row r (sym x.found ∙ e) in
    ap (λ (y : Row). stands_bare y.role y.word y.shape) (sym same) ∙ all_at (λ y. stands_bare y.role y.word y.shape) x.row table bare_words x.in_table
  where
    some_row : (a b : Row) → ◌≡◌ {A = Option Row} (Some a) (Some b) → a ≡ b
    some_row a b e = cc

-- An `else` or `end`: it has this word and no immediates.
pub record IsBare (o : Operator) (w : List ℕ) : Type 0 where
  pub word : word_of o.opcode ≡ w
  pub shape : shape_of o.opcode ≡ Some NoneShape

bare_by : (o : Operator) (r : HasRow o) (w : List ℕ) → (bytes_eq r.row.word w && is_none_shape r.row.shape) ≡ true → IsBare o w
bare_by o r w e =
    let parts = and_parts (bytes_eq r.row.word w) (is_none_shape r.row.shape) e in
    record {
      word = ap word_of_row r.found ∙ bytes_same r.row.word w parts.0;
      shape = ap shape_of_row r.found ∙ ap (λ x. Some x) (none_shape-true r.row.shape parts.1);
    }

pub turn_is_bare : (o : Operator) → IsListed o → role_of o.opcode ≡ Else → IsBare o (codes "else")
turn_is_bare o h e =
    let r : HasRow o = row_for o h in
    let t : r.row.role ≡ Else = sym (ap role_of_row r.found) ∙ e in
    bare_by o r (codes "else") (ap (λ x. stands_bare x r.row.word r.row.shape) (sym t) ∙ bare_row o h r.row r.found)

pub end_is_bare : (o : Operator) → IsListed o → role_of o.opcode ≡ Ends → IsBare o (codes "end")
end_is_bare o h e =
    let r : HasRow o = row_for o h in
    let t : r.row.role ≡ Ends = sym (ap role_of_row r.found) ∙ e in
    bare_by o r (codes "end") (ap (λ x. stands_bare x r.row.word r.row.shape) (sym t) ∙ bare_row o h r.row r.found)
