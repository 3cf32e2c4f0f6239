-- Expressions of fields, flat or folded. In a group of its own, a single operator is the group alone.
use Rattle.std.proofs.Common.{◌≡◌, ℕ, true, false, cond, List, [], ◌∷◌, Option, Some, None, refl, ap, ◌∙◌, codes, bytes_eq}
use Rattle.std.specs.List.{AllByRecursion}
use Rattle.wasmprinter_spec.specs.Grammar.{Placed, ◌>>=◌}
use Rattle.wasmprinter_spec.specs.Forest.{Forest, End, Word, Group, onto}
use Rattle.wasmprinter_spec.specs.Types.{signature_at}
use Rattle.wasmprinter_spec.specs.Names.{AreNamed}
use Rattle.wasmprinter_spec.specs.Operator.{Operator}
use Rattle.wasmprinter_spec.specs.Row.{Role}
use Rattle.wasmprinter_spec.specs.Table.{word_of_row, word_of, role_of, shape_of}
use Rattle.wasmprinter_spec.specs.Labels.{Label, labels_outside, labels_inside}
use Rattle.wasmprinter_spec.specs.Module.{without_places}
use Rattle.wasmprinter_spec.specs.Indexed.{Counts, IsIndexedOperator}
use Rattle.wasmprinter_spec.specs.Layout.Declarations.{Scope, Folding}
use Rattle.wasmprinter_spec.specs.IndexSpaces.{Context}
use Rattle.wasmprinter_spec.specs.Piece as piece
use Rattle.wasmprinter_spec.specs.Layout.Operators.{operator_pieces, operators_pieces, expression_pieces}
use Rattle.wasmprinter_spec.specs.Layout.Expressions.{in_line, constant_by, constant_pieces, constant_group}
use Rattle.wasmprinter_spec.specs.Text.Operators.{read_operators}
use Rattle.wasmprinter_spec.specs.Text.Expressions.{expression, expression_group}
use Rattle.wasmprinter_laws.proofs.Tokens.Runs.{is_word}
use Rattle.wasmprinter_laws.proofs.Tokens.Pieces.{Edge, Free, Bound, Opened}
use Rattle.wasmprinter_laws.proofs.Tokens.Writes.{Writes, is_open, both_write, nothing_writes, one_space_writes, opened_word_writes, bare_group_writes}
use Rattle.wasmprinter_laws.specs.Listed.{AreSignaturesInRange, IsListed}
use Rattle.wasmprinter_laws.specs.OperatorLaws.{HaveSameTypes, HaveSameNames}
use Rattle.wasmprinter_laws.proofs.Bytes.{same_bytes}
use Rattle.wasmprinter_laws.proofs.Tabled.{HasRow, row_for, StandsAlone, differs}
use Rattle.wasmprinter_laws.proofs.Ranged.{IsRangedExpression}
use Rattle.wasmprinter_laws.proofs.Operators.Arguments.{AreArguments}
use Rattle.wasmprinter_laws.proofs.Operators.Alone.{IsAlone, alone_for, chunks_of_forest-alone}
use Rattle.wasmprinter_laws.proofs.Operators.Immediates.{arguments_by, writes_by}
use Rattle.wasmprinter_laws.proofs.Operators.Open.{outside_labels}
use Rattle.wasmprinter_laws.proofs.Operators.Lists.{arguments_items, expression_items, chunks_of, expression_writes, expression_reads}
use Rattle.wasmprinter_laws.proofs.Folded.Lists.{IsUncolored, AreFoldable, list_items, unhinted_list_writes, chunks_of_forest-list}
use Rattle.wasmprinter_laws.proofs.Fields.Scopes.{AreScoped}

-- ---- the items

-- The operators in one line, flat or folded
abbrev pub constant_items : Scope → ℕ → List (Placed Operator) → Forest
constant_items s nesting os = list_items false s.folding (Some 0) (in_line s nesting) [] os

-- The items of a group of its own: a single operator alone, or else a word and the operators
abbrev pub constant_held : Scope → List ℕ → List (Placed Operator) → Forest
constant_held s w (o ∷ []) = expression_items (in_line s 3) (o.value ∷ [])
constant_held s w os = Word w (constant_items s 3 os)

-- ---- pieces write the items

module _ (s : Scope) (named : AreNamed s.names) (ranged : AreSignaturesInRange (signature_at s.types)) (bare : IsUncolored s.folding) where
  constant_writes : (folding : Option Folding) → IsUncolored folding → (nesting : ℕ) (os : List (Placed Operator)) → AllByRecursion IsListed (without_places os) →
      Writes Free (constant_by folding (in_line s nesting) os) Bound (list_items false folding (Some 0) (in_line s nesting) [] os)
  unfolding constant_by
  constant_writes None b nesting os l = expression_writes (in_line s nesting) named ranged os l
  constant_writes (Some f) b nesting os l = unhinted_list_writes f b (Some 0) (in_line s nesting) named ranged os l

  pub in_line_writes : (nesting : ℕ) (os : List (Placed Operator)) → IsRangedExpression os → Writes Free (constant_pieces s nesting os) Bound (constant_items s nesting os)
  unfolding constant_pieces
  in_line_writes nesting os h = constant_writes s.folding bare nesting os h.listed

  -- A single operator may directly follow a parenthesis.
  alone_writes : (o : Placed Operator) → IsRangedExpression (o ∷ []) → Writes Opened (expression_pieces (in_line s 3) (o ∷ [])) Bound (expression_items (in_line s 3) (o.value ∷ []))
  unfolding expression_pieces operators_pieces operator_pieces
  alone_writes o h =
      let role : Role = role_of o.value.opcode in
      let r : HasRow o.value = row_for o.value h.listed.0 in
      let own : Label = s.names.labels s.function 0 0 in
      both_write (opened_word_writes (ap is_word (ap word_of_row r.found) ∙ r.is_its_word)
      (writes_by (in_line s 3) named ranged (labels_inside role []) (labels_outside role []) own (outside_labels role [] tt) (named.labels s.function 0 0) (shape_of o.value.opcode) o.value.immediates h.listed.0.range))
      nothing_writes

  -- A word and the operators after it
  worded_writes : (w : List ℕ) (os : List (Placed Operator)) → is_word w ≡ true → IsRangedExpression os →
      Writes Opened (piece.Word w ∷ (piece.OneSpace ∷ constant_pieces s 3 os)) Bound (Word w (constant_items s 3 os))
  worded_writes w os h r = opened_word_writes h (one_space_writes refl (in_line_writes 3 os r))

  pub constant_group_writes : {a : Edge} (w : List ℕ) (os : List (Placed Operator)) → is_open a ≡ true → is_word w ≡ true → IsRangedExpression os →
      Writes a (constant_group s 2 w os) Bound (Group (constant_held s w os) End)
  unfolding constant_group
  constant_group_writes w [] e h r = bare_group_writes 2 _ _ e (worded_writes w [] h r)
  constant_group_writes w (o ∷ []) e h r = bare_group_writes 2 _ _ e (alone_writes o r)
  constant_group_writes w (o ∷ p ∷ os) e h r = bare_group_writes 2 _ _ e (worded_writes w (o ∷ p ∷ os) h r)

-- ---- the items read back

-- Every index that the operators use is declared, and the operators can be folded if they are.
abbrev pub AreIndexed : Scope → Counts → List (Placed Operator) → Type 0
AreIndexed s n os = AllByRecursion (IsIndexedOperator n) (without_places os) × AreFoldable s.folding os

module _ (s : Scope) (c : Context) (n : Counts) (scoped : AreScoped s c n) (nesting : ℕ) where
  types_within : HaveSameTypes (in_line s nesting) c n
  types_within = record { read = scoped.types.read; counted = scoped.types.counted; in_range = scoped.types.in_range }

  names_within : HaveSameNames (in_line s nesting) c n
  names_within = record {
    spaces = scoped.names.spaces;
    fields = scoped.names.fields;
    few = scoped.names.few;
    few_fields = scoped.names.few_fields;
    functions = scoped.names.functions;
    signatures = scoped.names.signatures;
    structures = scoped.names.structures;
  }

  chunks-read : (os : List (Placed Operator)) → IsRangedExpression os → AreIndexed s n os →
      read_operators c (chunks_of (in_line s nesting) 0 [] (without_places os)) ≡ Some (without_places os)
  chunks-read os h d =
      expression_reads (in_line s nesting) c n types_within names_within scoped.apart os (record { listed = h.listed; nested = h.nested; count = h.count; indexed = d.0 })

  pub expression-items : (os : List (Placed Operator)) → IsRangedExpression os → AreIndexed s n os →
      expression c (constant_items s nesting os) ≡ Some (without_places os)
  expression-items os h d =
      ap (λ cs. cs >>= read_operators c)
      (chunks_of_forest-list s.folding (Some 0) (in_line s nesting) scoped.named scoped.types.in_range [] os h.listed h.nested d.1) ∙ chunks-read os h d

module _ (s : Scope) (c : Context) (n : Counts) (scoped : AreScoped s c n) where
  -- The operators after the word of the group read back.
  worded-items : (w : List ℕ) (os : List (Placed Operator)) → IsRangedExpression os → AreIndexed s n os →
      expression_group c w (Word w (constant_items s 3 os)) ≡ Some (without_places os)
  worded-items w os h d =
      ap (λ t. cond t (expression c (constant_items s 3 os))
      (expression c (Group (Word w (constant_items s 3 os)) End))) (same_bytes w)
      ∙ expression-items s c n scoped 3 os h d

  alone-items : (w : List ℕ) → ((v : List ℕ) → StandsAlone v → bytes_eq v w ≡ false) → (o : Placed Operator) → IsRangedExpression (o ∷ []) →
      AreIndexed s n (o ∷ []) →
      expression_group c w (expression_items (in_line s 3) (o.value ∷ [])) ≡ Some (o.value ∷ [])
  alone-items w apart o h d =
      let own : Label = s.names.labels s.function 0 0 in
      let a : Forest = arguments_items (in_line s 3) own [] o.value in
      let v : List ℕ = word_of o.value.opcode in
      let role : Role = role_of o.value.opcode in
      let its : IsAlone o.value = alone_for o.value h.listed.0 h.nested in
      let args : AreArguments a = arguments_by (in_line s 3) (labels_inside role []) (labels_outside role []) own
      (shape_of o.value.opcode) o.value.immediates h.listed.0.range in
      ap (λ t. cond t (expression c (onto a End)) (expression c (Group (Word v (onto a End)) End))) (apart v its.alone)
      ∙ ap (λ cs. cs >>= read_operators c) (chunks_of_forest-alone o.value a its args)
      ∙ chunks-read s c n scoped 3 (o ∷ []) h d

  pub constant_group-items : (w : List ℕ) → ((v : List ℕ) → StandsAlone v → bytes_eq v w ≡ false) → (os : List (Placed Operator)) → IsRangedExpression os →
      AreIndexed s n os →
      expression_group c w (constant_held s w os) ≡ Some (without_places os)
  constant_group-items w apart [] h d = worded-items w [] h d
  constant_group-items w apart (o ∷ []) h d = alone-items w apart o h d
  constant_group-items w apart (o ∷ p ∷ os) h d = worded-items w (o ∷ p ∷ os) h d

-- ---- the offset of a segment

-- The group of an offset starts with a word that starts no other group of a segment.
pub record IsOffset (f : Forest) : Type 0 where
  pub word : List ℕ
  pub rest : Forest
  pub is : f ≡ Word word rest
  pub ref : bytes_eq word (codes "ref") ≡ false
  pub table : bytes_eq word (codes "table") ≡ false
  pub memory : bytes_eq word (codes "memory") ≡ false

pub offset_stands : (s : Scope) (os : List (Placed Operator)) → IsRangedExpression os → IsOffset (constant_held s (codes "offset") os)
offset_stands s [] h = record { word = codes "offset"; rest = _; is = refl; ref = refl; table = refl; memory = refl }
offset_stands s (o ∷ []) h =
    let a : StandsAlone (word_of o.value.opcode) = (alone_for o.value h.listed.0 h.nested).alone in
    let w : List ℕ = word_of o.value.opcode in
    record { word = w; rest = _; is = refl; ref = differs w (codes "ref") a refl; table = differs w (codes "table") a refl; memory = differs w (codes "memory") a refl }
offset_stands s (o ∷ p ∷ os) h = record { word = codes "offset"; rest = _; is = refl; ref = refl; table = refl; memory = refl }

pub no_offset : (v : List ℕ) → StandsAlone v → bytes_eq v (codes "offset") ≡ false
no_offset v a = differs v (codes "offset") a refl

pub no_item : (v : List ℕ) → StandsAlone v → bytes_eq v (codes "item") ≡ false
no_item v a = differs v (codes "item") a refl
