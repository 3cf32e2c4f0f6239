-- Lists of operators: their items, that these are their code, and that they read back
use Rattle.std.proofs.Common.{◌≡◌, ℕ, ◌<◌, ◌≤◌, ◌+◌, ◌-◌, ◌^◌, Bool, true, false, List, [], ◌∷◌, Some, None, refl, sym, ap, ◌∙◌, subst, map, length, arith}
use Rattle.std.specs.List.{AllByRecursion}
use Rattle.wasmprinter_spec.specs.Grammar.{Placed}
use Rattle.wasmprinter_spec.specs.Forest.{Forest, End, Word, onto}
use Rattle.wasmprinter_spec.specs.Operator.{Operator}
use Rattle.wasmprinter_spec.specs.Row.{Row, Role, Ends}
use Rattle.wasmprinter_spec.specs.Table.{table, rows_of, by_opcode, word_of_row, word_of, role_of_row, role_of, shape_of_row, shape_of}
use Rattle.wasmprinter_spec.specs.Labels.{Label, labels_after, count_after, labels_outside, labels_inside}
use Rattle.wasmprinter_spec.specs.Stepped.{stops}
use Rattle.wasmprinter_spec.specs.Nesting.{Nests, Sequence, advance, at_start}
use Rattle.wasmprinter_spec.specs.NestingSteps.{stops_at_end}
use Rattle.wasmprinter_spec.specs.Instructions.{roles}
use Rattle.wasmprinter_spec.specs.Module.{without_places}
use Rattle.wasmprinter_spec.specs.Customs.Hints.{Hint, next_hint, hints_after}
use Rattle.wasmprinter_spec.specs.Indexed.{Counts, AreDeclared, AreDeclaredBy, IsIndexedOperator}
use Rattle.wasmprinter_spec.specs.Code.{Chunk, chunk, Instruction, Flat, code_of, with_word, code, chunks_of_instructions, chunks_of_forest}
use Rattle.wasmprinter_spec.specs.Names.{IsNamedIfAny, AreNamed, AreApart}
use Rattle.wasmprinter_spec.specs.IndexSpaces.{Context}
use Rattle.wasmprinter_spec.specs.Text.Operators.{id_of, immediates, labels_in_sight, open_after, operators, are_nested, read_operators}
use Rattle.wasmprinter_spec.specs.Layout.Operators.{Setting, level, operator_pieces, operators_pieces, expression_pieces}
use Rattle.wasmprinter_laws.proofs.Tokens.Runs.{is_word}
use Rattle.wasmprinter_laws.proofs.Tokens.Writes.{Writes, WritesNoted, both_write, word_writes}
use Rattle.wasmprinter_laws.specs.Listed.{IsListed, AreSignaturesInRange}
use Rattle.wasmprinter_laws.specs.OperatorLaws.{HaveSameTypes, HaveSameNames, AreOperators}
use Rattle.wasmprinter_laws.proofs.Tabled.{In, refuses, HasRow, row_for, fits}
use Rattle.wasmprinter_laws.proofs.Operators.Labels.{ids, Opened}
use Rattle.wasmprinter_laws.proofs.Operators.Arguments.{arguments_front}
use Rattle.wasmprinter_laws.proofs.Operators.Forms.{after, ahead, hint_items, before_writes, no_operators_write, goes_on, hinted_writes}
use Rattle.wasmprinter_laws.proofs.Operators.Immediates.{immediate_items, items_by, arguments_by, immediates_read, immediates_refused, writes_by}
use Rattle.wasmprinter_laws.proofs.Operators.Rows.{IsSome, rows_of-row, first_reading-row}
use Rattle.wasmprinter_laws.proofs.Operators.Open.{outside_ids, outside_opened, outside_labels, after_opened, after_labels, after_length, after_ids}

-- ---- the items of operators

abbrev pub arguments_items : Setting → Label → List Label → Operator → Forest
arguments_items s own xs o =
    items_by s (labels_inside (role_of o.opcode) xs) (labels_outside (role_of o.opcode) xs) own (shape_of o.opcode) o.immediates

-- The items of operators after `n` blocks were opened, with these labels open
abbrev pub operators_items : Setting → ℕ → List Label → List Operator → Forest
operators_items s n xs [] = End
operators_items s n xs (o ∷ os) =
    Word (word_of o.opcode) (onto (arguments_items s (s.names.labels s.function n (length xs)) xs o)
    (operators_items s (count_after (role_of o.opcode) n) (labels_after (role_of o.opcode) (s.names.labels s.function n (length xs)) xs) os))

abbrev pub expression_items : Setting → List Operator → Forest
expression_items s os = operators_items s 0 [] os

-- The same with hints before them
abbrev pub hinted_items : Setting → List (Placed Hint) → ℕ → List Label → List (Placed Operator) → Forest
hinted_items s hs n xs [] = End
hinted_items s hs n xs (o ∷ os) =
    hint_items (next_hint (o.place - s.body) hs)
    (Word (word_of o.value.opcode) (onto (arguments_items s (s.names.labels s.function n (length xs)) xs o.value)
    (hinted_items s (hints_after (o.place - s.body) hs) (count_after (role_of o.value.opcode) n)
    (labels_after (role_of o.value.opcode) (s.names.labels s.function n (length xs)) xs) os)))

unhinted : (s : Setting) (n : ℕ) (xs : List Label) (os : List (Placed Operator)) → hinted_items s [] n xs os ≡ operators_items s n xs (without_places os)
unhinted s n xs [] = refl
unhinted s n xs (o ∷ os) =
    let role : Role = role_of o.value.opcode in
    let own : Label = s.names.labels s.function n (length xs) in
    ap (λ f. Word (word_of o.value.opcode) (onto (arguments_items s own xs o.value) f)) (unhinted s (count_after role n) (labels_after role own xs) os)

-- ---- the items are their code

abbrev pub chunks_of : Setting → ℕ → List Label → List Operator → List Chunk
chunks_of s n xs [] = []
chunks_of s n xs (o ∷ os) =
    chunk (rows_of (word_of o.opcode)) (arguments_items s (s.names.labels s.function n (length xs)) xs o)
    ∷ chunks_of s (count_after (role_of o.opcode) n) (labels_after (role_of o.opcode) (s.names.labels s.function n (length xs)) xs) os

-- The word of an operator is that of its row.
pub row_word : (o : Operator) (r : HasRow o) → word_of o.opcode ≡ r.row.word
row_word o r = ap word_of_row r.found

-- The word of an operator takes the items after it as its own.
pub word_takes : (r : Row) → In r table → (w : List ℕ) → w ≡ r.word → (f : Forest) (is : List Instruction) →
    with_word (rows_of w) w (Some (code_of f is)) ≡ Some (code_of End (Flat (chunk (rows_of w) f) ∷ is))
word_takes r at w e f is =
    let rows : IsSome (rows_of r.word) = rows_of-row r at in
    let same : rows_of w ≡ rows.first ∷ rows.others = ap rows_of e ∙ rows.is in
    rw same

code-operators : (s : Setting) (n : ℕ) (xs : List Label) (os : List Operator) → AllByRecursion IsListed os →
    code (operators_items s n xs os) ≡ Some (code_of End (map Flat (chunks_of s n xs os)))
code-operators s n xs [] h = refl
code-operators s n xs (o ∷ os) h =
    let r : HasRow o = row_for o h.0 in
    let role : Role = role_of o.opcode in
    let own : Label = s.names.labels s.function n (length xs) in
    let a : Forest = arguments_items s own xs o in
    let ys : List Label = labels_after role own xs in
    let m : ℕ = count_after role n in
    let e : code (onto a (operators_items s m ys os)) ≡ Some (code_of a (map Flat (chunks_of s m ys os))) =
    arguments_front a (arguments_by s (labels_inside role xs) (labels_outside role xs) own (shape_of o.opcode) o.immediates h.0.range)
    (operators_items s m ys os) (map Flat (chunks_of s m ys os)) (code-operators s m ys os h.1) in
    ap (with_word (rows_of (word_of o.opcode)) (word_of o.opcode)) e
    ∙ word_takes r.row r.in_table (word_of o.opcode) (row_word o r) a (map Flat (chunks_of s m ys os))

pub chunks_of_instructions-Flat : (cs : List Chunk) → chunks_of_instructions (map Flat cs) ≡ Some cs
chunks_of_instructions-Flat [] = refl
chunks_of_instructions-Flat (c ∷ cs) = rw (chunks_of_instructions-Flat cs)

pub chunks_of_forest-operators : (s : Setting) (n : ℕ) (xs : List Label) (os : List Operator) → AllByRecursion IsListed os →
    chunks_of_forest (operators_items s n xs os) ≡ Some (chunks_of s n xs os)
chunks_of_forest-operators s n xs os h = rw (code-operators s n xs os h, chunks_of_instructions-Flat (chunks_of s n xs os))

-- ---- the items read back

-- The immediates of an operator are declared as its row requires.
declared_by_row : (n : Counts) (o : Operator) (r : Row) → by_opcode o.opcode ≡ Some r → IsIndexedOperator n o → AreDeclared n r.shape o.immediates
declared_by_row n o r e d = subst (λ x. AreDeclaredBy n x o.immediates) e d

same_roles : (os : List (Placed Operator)) → map (λ o. role_of o.opcode) (without_places os) ≡ roles os
same_roles [] = refl
same_roles (o ∷ os) = ap (λ rs. role_of o.value.opcode ∷ rs) (same_roles os)

nested-roles : (os : List (Placed Operator)) → Nests Sequence (roles os) → are_nested (without_places os) ≡ true
nested-roles os h = ap (λ rs. stops advance at_start rs Ends) (same_roles os) ∙ stops_at_end (roles os) h

module _ (s : Setting) (c : Context) (k : Counts) (types : HaveSameTypes s c k) (same : HaveSameNames s c k) (apart : AreApart s.names) where
  operators-read : (n : ℕ) (xs : List Label) (os : List Operator) → Opened (s.names.labels s.function) xs → length xs + length os ≤ 2 ^ 64 → AllByRecursion IsListed os →
      AllByRecursion (IsIndexedOperator k) os →
      operators c (ids xs) (chunks_of s n xs os) ≡ Some os
  operators-read n xs [] o small h d = refl
  operators-read n xs (p ∷ ps) o small h d =
      let r : HasRow p = row_for p h.0 in
      let is : Role = role_of p.opcode in
      let own : Label = s.names.labels s.function n (length xs) in
      let a : Forest = arguments_items s own xs p in
      let ys : List Label = labels_after is own xs in
      let m : ℕ = count_after is n in
      let fewer : length xs < 2 ^ 64 = omega (arith, small) in
      let more : length ys + length ps ≤ 2 ^ 64 = omega (arith, small, after_length is own xs) in
      let role : is ≡ r.row.role = ap role_of_row r.found in
      let written : a ≡ immediate_items s (labels_inside is xs) (labels_outside is xs) own r.row.shape p.immediates =
      ap (λ x. items_by s (labels_inside is xs) (labels_outside is xs) own (shape_of_row x) p.immediates) r.found in
      let i : immediates c (labels_in_sight r.row.role (ids xs)) r.row.shape a ≡ Some p.immediates =
      ap (λ x. immediates c (labels_in_sight x (ids xs)) r.row.shape a) (sym role)
      ∙ ap (λ x. immediates c x r.row.shape a) (outside_ids is xs)
      ∙ ap (immediates c (ids (labels_outside is xs)) r.row.shape) written
      ∙ immediates_read s c k types same apart (labels_inside is xs) (labels_outside is xs) (outside_opened (s.names.labels s.function) is xs o) own
      r.row.shape p.immediates r.shape r.items h.0.range (declared_by_row k p r.row r.found d.0) in
      let fit : fits is r.row.shape ≡ true = ap (λ x. fits x r.row.shape) role ∙ r.fit in
      let after : open_after r.row.role (id_of a) (ids xs) ≡ ids ys =
      ap (λ x. open_after x (id_of a) (ids xs)) (sym role)
      ∙ ap (λ x. open_after is (id_of x) (ids xs)) written
      ∙ after_ids s c (labels_inside is xs) (labels_outside is xs) is r.row.shape own xs p.immediates fit r.shape in
      let refused : (x : Row) → refuses x.shape r.row.shape ≡ true → immediates c (labels_in_sight x.role (ids xs)) x.shape a ≡ None =
      λ x no. ap (immediates c (labels_in_sight x.role (ids xs)) x.shape) written
      ∙ immediates_refused s c k types same apart (labels_inside is xs) (labels_outside is xs) (outside_opened (s.names.labels s.function) is xs o) own (labels_in_sight x.role (ids xs)) x.shape
      r.row.shape p.immediates no r.shape h.0.range (declared_by_row k p r.row r.found d.0) in
      rw (
        row_word p r,
        first_reading-row c (ids xs) a p.immediates r.row r.in_table i refused,
        after,
        operators-read m ys ps (after_opened (s.names.labels s.function) n is xs fewer o) more h.1 d.1,
        r.prefix,
        r.number,
      )

  -- Well-nested operators read as themselves.
  pub expression_reads : (os : List (Placed Operator)) → AreOperators k os →
      read_operators c (chunks_of s 0 [] (without_places os)) ≡ Some (without_places os)
  expression_reads os h = rw (operators-read 0 [] (without_places os) tt (omega (arith, h.count)) h.listed h.indexed, nested-roles os h.nested)

-- ---- pieces write the items

operator_writes : (s : Setting) → AreNamed s.names → AreSignaturesInRange s.signature → (first : Bool) (own : Label) (xs : List Label) (o : Placed Operator) →
    AllByRecursion IsNamedIfAny xs → IsNamedIfAny own → IsListed o.value →
    Writes (ahead s.form first) (operator_pieces s first own xs o) (after s.form) (Word (word_of o.value.opcode) (arguments_items s own xs o.value))
unfolding operator_pieces
operator_writes s named ranged first own xs o h k l =
    let r : HasRow o.value = row_for o.value l in
    let role : Role = role_of o.value.opcode in
    let is : is_word (word_of o.value.opcode) ≡ true = ap is_word (ap word_of_row r.found) ∙ r.is_its_word in
    before_writes s.form first o.place (s.nesting + level role (length xs))
    (word_writes is
    (writes_by s named ranged (labels_inside role xs) (labels_outside role xs) own (outside_labels role xs h) k (shape_of o.value.opcode) o.value.immediates l.range))

operators_write : (s : Setting) → AreNamed s.names → AreSignaturesInRange s.signature →
    (hs : List (Placed Hint)) (first : Bool) (n : ℕ) (xs : List Label) (os : List (Placed Operator)) → AllByRecursion IsNamedIfAny xs → AllByRecursion IsListed (without_places os) →
    WritesNoted (ahead s.form first) (operators_pieces s hs first n xs os) (after s.form) (operators_items s n xs (without_places os)) (hinted_items s hs n xs os)
unfolding operators_pieces
operators_write s named ranged hs first n xs [] h l = no_operators_write s.form first
operators_write s named ranged hs first n xs (o ∷ os) h l =
    let role : Role = role_of o.value.opcode in
    let own : Label = s.names.labels s.function n (length xs) in
    let k : IsNamedIfAny own = named.labels s.function n (length xs) in
    let offset : ℕ = o.place - s.body in
    let rest = operators_write s named ranged (hints_after offset hs) false (count_after role n) (labels_after role own xs) os (after_labels role own xs k h) l.1 in
    hinted_writes s.form first (s.nesting + length xs) (next_hint offset hs)
    (both_write (operator_writes s named ranged first own xs o h k l.0) (goes_on s.form rest))

-- The pieces of operators write their items if no label is open.
pub hinted_write : (s : Setting) → AreNamed s.names → AreSignaturesInRange s.signature → (hs : List (Placed Hint)) (os : List (Placed Operator)) →
    AllByRecursion IsListed (without_places os) →
    WritesNoted (ahead s.form true) (operators_pieces s hs true 0 [] os) (after s.form) (expression_items s (without_places os)) (hinted_items s hs 0 [] os)
hinted_write s named ranged hs os l = operators_write s named ranged hs true 0 [] os tt l

pub expression_writes : (s : Setting) → AreNamed s.names → AreSignaturesInRange s.signature → (os : List (Placed Operator)) →
    AllByRecursion IsListed (without_places os) →
    Writes (ahead s.form true) (expression_pieces s os) (after s.form) (expression_items s (without_places os))
unfolding expression_pieces
expression_writes s named ranged os l =
    let items : Forest = expression_items s (without_places os) in
    subst (WritesNoted (ahead s.form true) (operators_pieces s [] true 0 [] os) (after s.form) items) (unhinted s 0 [] os) (hinted_write s named ranged [] os l)
