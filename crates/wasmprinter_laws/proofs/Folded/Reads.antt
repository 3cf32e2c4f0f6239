-- The items of nodes, and that they read as the operators of the nodes in their flat order
use Rattle.std.proofs.Common.{◌≡◌, ℕ, Bool, true, false, List, [], ◌∷◌, ◌++◌, map, Option, Some, None, option_map, refl, sym, ap, ap₂, ◌∙◌, append_assoc, append-nil, codes}
use Rattle.std.proofs.lemmas.List.{map-append}
use Rattle.wasmprinter_spec.specs.Grammar.{Placed, ◌>>=◌}
use Rattle.wasmprinter_spec.specs.Forest.{Forest, End, Word, String, Group, onto}
use Rattle.wasmprinter_spec.specs.Operator.{Operator}
use Rattle.wasmprinter_spec.specs.Table.{rows_of}
use Rattle.wasmprinter_spec.specs.Customs.Hints.{Hint}
use Rattle.wasmprinter_spec.specs.Row.{Ends}
use Rattle.wasmprinter_spec.specs.Stepped.{stops}
use Rattle.wasmprinter_spec.specs.Nesting.{advance, at_start}
use Rattle.wasmprinter_spec.specs.Piece.{flag_byte}
use Rattle.wasmprinter_spec.specs.Layout.Operators.{Form}
use Rattle.wasmprinter_spec.specs.Layout.Folded.{head_hint}
use Rattle.wasmprinter_spec.specs.Folding.Code.{Item, role}
use Rattle.wasmprinter_spec.specs.Folding.Tree.{Head, Of, ThenCase, ElseCase, Nodes, Nil, Snoc}
use Rattle.wasmprinter_spec.specs.Folding.Unfolding.{Told, Elsewhere, Within, unfolding_by_role, unfold_at, unfolding_of}
use Rattle.wasmprinter_spec.specs.Code as code
use Rattle.wasmprinter_spec.specs.Code.{Chunk, word_chunk, Instruction, Folded, code_of, chunks_of_instructions, operands, branches, folded_instruction, with_instruction, branch, OperatorHead, head, with_group, with_hint, role_by, code}
use Rattle.wasmprinter_laws.proofs.Tokens.Grown.{onto-End, onto_assoc}
use Rattle.wasmprinter_laws.proofs.Operators.Arguments.{arguments_front}
use Rattle.wasmprinter_laws.proofs.Operators.Forms.{hint_items}
use Rattle.wasmprinter_laws.proofs.Folded.Words.{is_folded, HasRows, rows_for, head-folded}
use Rattle.wasmprinter_laws.proofs.Folded.Items.{word, arguments, IsPrinted, item_chunk, noted_chunk, own_chunk, IsHintless, told_chunk, told_chunks, turn_chunk}
use Rattle.wasmprinter_laws.proofs.Folded.Heads.{AllHeads}
use Rattle.wasmprinter_laws.proofs.Folded.Rows.{are_nested, IsNested, IsRow, no_nodes, a_plain, a_block, an_if, an_if_else}

-- ---- the items of nodes

-- A hint before a node, if hints are shown
abbrev pub hint_at : Bool → Option (Placed Hint) → Forest → Forest
hint_at true h f = hint_items h f
hint_at false h f = f

-- The items of a node, with those of its inner nodes
abbrev pub head_items : Head → Forest → Forest
head_items (Of x) f = Word (word x) (onto (arguments x) f)
head_items (ThenCase x) f = Word (codes "then") f
head_items (ElseCase x) f = Word (codes "else") f

-- Each node is a group.
abbrev pub row_items : Bool → Nodes → Forest
row_items hints Nil = End
row_items hints (Snoc b h r held) = onto (row_items hints b) (hint_at hints (head_hint h) (Group (head_items h (row_items hints held)) End))

-- ---- rows of folded operators

-- A folded operator: the operators before its own, its own, and those after it
pub record Fold : Type 0 where
  pub front : List Chunk
  pub own : Chunk
  pub after : List Chunk

abbrev pub as_folded : Fold → Instruction
as_folded n = Folded n.front n.own n.after

abbrev pub chunks_in : List Fold → List Chunk
chunks_in [] = []
chunks_in (n ∷ ns) = n.front ++ (n.own ∷ (n.after ++ chunks_in ns))

chunks_in-append : (a b : List Fold) → chunks_in (a ++ b) ≡ chunks_in a ++ chunks_in b
chunks_in-append [] b = refl
chunks_in-append (n ∷ a) b = simp (chunks_in-append a b, append_assoc)

operands-folds : (ns : List Fold) → operands (map as_folded ns) ≡ Some (chunks_in ns)
operands-folds [] = refl
operands-folds (n ∷ ns) = rw (operands-folds ns) refl

pub chunks_of_instructions-folds : (ns : List Fold) → chunks_of_instructions (map as_folded ns) ≡ Some (chunks_in ns)
chunks_of_instructions-folds [] = refl
chunks_of_instructions-folds (n ∷ ns) = rw (chunks_of_instructions-folds ns) refl

branches-folds : (ns : List Fold) (is : List Instruction) (a b : List Chunk) → branches is ≡ Some (a, b) →
    branches (map as_folded ns ++ is) ≡ Some (chunks_in ns ++ a, b)
branches-folds [] is a b e = e
branches-folds (n ∷ ns) is a b e =
    rw (branches-folds ns is a b e) (ap (λ (l : List Chunk). Some (l, b)) (simp append_assoc))

-- ---- one group

-- The group of an operator reads as its instruction, before the instructions that follow.
operator_reads : (form : Form) (x : Item) (h : IsPrinted form x) (held g : Forest) (is js : List Instruction) (i : Instruction) → is_folded (role x) ≡ true →
    code held ≡ Some (code_of End is) → folded_instruction (role x) (rows_of (word x)) (code_of (arguments x) is) ≡ Some i → code g ≡ Some (code_of End js) →
    code (Group (Word (word x) (onto (arguments x) held)) g) ≡ Some (code_of End (i ∷ js))
operator_reads form x h held g is js i p e f eg =
    let o : Operator = x.operator.value in
    let rs : HasRows o = rows_for o h.listed in
    let a : Forest = arguments x in
    let item : Forest → Forest = Group (Word (word x) (onto a held)) in
    let own : folded_instruction rs.first.role (rs.first ∷ rs.others) (code_of a is) ≡ Some i =
    ap (λ r. folded_instruction r (rs.first ∷ rs.others) (code_of a is)) rs.role ∙ ap (λ l. folded_instruction (role x) l (code_of a is)) (sym rs.are) ∙ f in
    ap (λ t. with_group t item (code (onto a held)) (code g)) (head-folded o h.listed p)
    ∙ ap (λ t. with_group (OperatorHead rs.first rs.others) item t (code g)) (arguments_front a h.are held is e)
    ∙ ap (λ t. t >>= λ j. code g >>= with_instruction j) own
    ∙ ap (λ t. t >>= with_instruction i) eg

-- The group of a case of an `if` reads as that case.
branch_reads : (make : List Chunk → Instruction) (held g : Forest) (is js : List Instruction) (cs : List Chunk) →
    code held ≡ Some (code_of End is) → chunks_of_instructions is ≡ Some cs → are_nested cs ≡ true → code g ≡ Some (code_of End js) →
    branch make (code held) (code g) ≡ Some (code_of End (make cs ∷ js))
branch_reads make held g is js cs e f n eg = rw (e, f, n, eg) refl

then_reads : (held g : Forest) (is js : List Instruction) (cs : List Chunk) → code held ≡ Some (code_of End is) → chunks_of_instructions is ≡ Some cs → are_nested cs ≡ true →
    code g ≡ Some (code_of End js) → code (Group (Word (codes "then") held) g) ≡ Some (code_of End (code.Then cs ∷ js))
unfolding head
then_reads held g is js cs e f n eg = branch_reads code.Then held g is js cs e f n eg

else_reads : (held g : Forest) (is js : List Instruction) (cs : List Chunk) → code held ≡ Some (code_of End is) → chunks_of_instructions is ≡ Some cs → are_nested cs ≡ true →
    code g ≡ Some (code_of End js) → code (Group (Word (codes "else") held) g) ≡ Some (code_of End (code.Else cs ∷ js))
unfolding head
else_reads held g is js cs e f n eg = branch_reads code.Else held g is js cs e f n eg

-- ---- rows of nodes

-- The items of nodes read as folded operators, whose operators are those of the nodes.
pub record Reads (hints : Bool) (f : Nodes) : Type 0 where
  pub folds : List Fold
  pub say : chunks_in folds ≡ told_chunks hints (unfolding_of f)
  pub reads : (g : Forest) (is : List Instruction) → code g ≡ Some (code_of End is) → code (onto (row_items hints f) g) ≡ Some (code_of End (map as_folded folds ++ is))

alone_reads : (hints : Bool) (f : Nodes) (r : Reads hints f) → code (row_items hints f) ≡ Some (code_of End (map as_folded r.folds))
alone_reads hints f r =
    ap code (sym (onto-End (row_items hints f))) ∙ r.reads End [] refl ∙ ap (λ (is : List Instruction). Some (code_of End is)) (append-nil (map as_folded r.folds))

told_append : (hints : Bool) (a b : List Told) → told_chunks hints (a ++ b) ≡ told_chunks hints a ++ told_chunks hints b
told_append hints [] b = refl
told_append hints (t ∷ a) b = simp (told_append hints a b)

-- Hints do not change the nesting.
same_rows : (hints : Bool) (t : Told) → (told_chunk hints t).rows ≡ (told_chunk false t).rows
same_rows hints None = refl
same_rows hints (Some x) = by hints x.hint
  where
    by : (b : Bool) (h : Option (Placed Hint)) → (noted_chunk b h (item_chunk x)).rows ≡ (item_chunk x).rows
    by true (Some h) = refl
    by true None = refl
    by false h = refl

same_roles : (hints : Bool) (ts : List Told) → map (λ c. role_by c.rows) (told_chunks hints ts) ≡ map (λ c. role_by c.rows) (told_chunks false ts)
same_roles hints [] = refl
same_roles hints (t ∷ ts) = ap₂ (λ rs l. role_by rs ∷ l) (same_rows hints t) (same_roles hints ts)

nested_at : (hints : Bool) (f : Nodes) → IsNested f → are_nested (told_chunks hints (unfolding_of f)) ≡ true
nested_at hints f h = ap (λ rs. stops advance at_start rs Ends) (same_roles hints (unfolding_of f)) ∙ h

-- The operators of both cases of an `if`, and its `end`
told_cases : (hints : Bool) (g h o : List Told) (x y : Item) → own_chunk hints y ≡ word_chunk (codes "else") →
    told_chunks hints (((g ++ Some x ∷ h) ++ Some y ∷ o) ++ None ∷ [])
    ≡ told_chunks hints g ++ own_chunk hints x ∷ ((told_chunks hints h ++ word_chunk (codes "else") ∷ told_chunks hints o) ++ word_chunk (codes "end") ∷ [])
told_cases hints g h o x y e =
    let end : List Chunk = word_chunk (codes "end") ∷ [] in
    told_append hints ((g ++ Some x ∷ h) ++ Some y ∷ o) (None ∷ [])
    ∙ ap (λ l. l ++ end) (told_append hints (g ++ Some x ∷ h) (Some y ∷ o) ∙ ap₂ (λ a c. a ++ c ∷ told_chunks hints o) (told_append hints g (Some x ∷ h)) e)
    ∙ ap (λ l. l ++ end) (append_assoc (told_chunks hints g) (own_chunk hints x ∷ told_chunks hints h) (word_chunk (codes "else") ∷ told_chunks hints o))
    ∙ append_assoc (told_chunks hints g) (own_chunk hints x ∷ (told_chunks hints h ++ word_chunk (codes "else") ∷ told_chunks hints o)) end

-- The operators of an operator's own node
abbrev own_told : Item → Nodes → List Told
own_told x held = unfolding_by_role (role x) x (unfold_at Elsewhere held) (unfold_at (Within x) held)

hint_none : (hints : Bool) (f : Forest) → hint_at hints None f ≡ f
hint_none true f = refl
hint_none false f = refl

-- A hint before a folded operator is that of its own operator.
noted_fold : Bool → Option (Placed Hint) → Fold → Fold
noted_fold hints h n = record n { own = noted_chunk hints h n.own }

note_reads : (hints : Bool) (h : Option (Placed Hint)) (n : Fold) (f g : Forest) (is : List Instruction) → code (Group f g) ≡ Some (code_of End (as_folded n ∷ is)) →
    code (onto (hint_at hints h (Group f End)) g) ≡ Some (code_of End (as_folded (noted_fold hints h n) ∷ is))
unfolding noted_fold
note_reads true (Some h) n f g is e = ap (option_map (with_hint (String (flag_byte h.value.taken ∷ []) End))) e
note_reads true None n f g is e = e
note_reads false h n f g is e = e

module _ (hints : Bool) where
  -- If a row reads back, then so does the row with one more node.
  one_more : (b : Nodes) (x : Item) (r : ℕ) (held : Nodes) (rb : Reads hints b) (n : Fold) → n.own ≡ item_chunk x →
      n.front ++ own_chunk hints x ∷ n.after ≡ told_chunks hints (own_told x held) →
      ((g : Forest) (is : List Instruction) → code g ≡ Some (code_of End is) → code (Group (head_items (Of x) (row_items hints held)) g) ≡ Some (code_of End (as_folded n ∷ is))) →
      Reads hints (Snoc b (Of x) r held)
  unfolding noted_fold
  one_more b x r held rb n its says reads =
      let k : Fold = noted_fold hints x.hint n in
      let own : k.own ≡ own_chunk hints x = ap (noted_chunk hints x.hint) its in
      record {
        folds = rb.folds ++ (k ∷ []);
        say =
            chunks_in-append rb.folds (k ∷ [])
            ∙ ap₂ (λ a c. a ++ c) rb.say (ap (λ (l : List Chunk). n.front ++ k.own ∷ l) (append-nil n.after) ∙ ap (λ c. n.front ++ c ∷ n.after) own ∙ says)
            ∙ sym (told_append hints (unfolding_of b) (own_told x held));
        reads = λ g is e.
            let inner : Forest = head_items (Of x) (row_items hints held) in
            let mine : Forest = hint_at hints x.hint (Group inner End) in
            ap code (onto_assoc (row_items hints b) mine g)
            ∙ rb.reads (onto mine g) (as_folded k ∷ is) (note_reads hints x.hint n inner g is (reads g is e))
            ∙ ap (λ (l : List Instruction). Some (code_of End l))
            (sym (append_assoc (map as_folded rb.folds) (as_folded k ∷ []) is) ∙ ap (λ (l : List Instruction). l ++ is) (sym (map-append as_folded rb.folds (k ∷ []))));
      }

  -- Each kind of node reads back.
  row_reads : (form : Form) (f : Nodes) → IsRow form f → AllHeads (IsHintless hints) f → Reads hints f
  row_reads form f no_nodes a = record { folds = []; say = refl; reads = λ g is e. e }
  row_reads form f (a_plain b x r held p h rb rh) (own, before, inside) =
      let k : Reads hints held = row_reads form held rh inside in
      let n : Fold = record { front = chunks_in k.folds; own = item_chunk x; after = [] } in
      one_more b x r held (row_reads form b rb before) n refl
      (ap (λ (l : List Chunk). l ++ own_chunk hints x ∷ []) k.say
      ∙ sym (told_append hints (unfolding_of held) (Some x ∷ []))
      ∙ ap (λ t. told_chunks hints (unfolding_by_role t x (unfold_at Elsewhere held) (unfold_at (Within x) held))) (sym p))
      (λ g is e. operator_reads form x h (row_items hints held) g (map as_folded k.folds) is (as_folded n) (ap is_folded p) (alone_reads hints held k) (rw (p, operands-folds k.folds) refl) e)
  row_reads form f (a_block b x r held p h rb rh nested) (own, before, inside) =
      let k : Reads hints held = row_reads form held rh inside in
      let end : Chunk = word_chunk (codes "end") in
      let n : Fold = record { front = []; own = item_chunk x; after = chunks_in k.folds ++ end ∷ [] } in
      let same : are_nested (chunks_in k.folds) ≡ true = ap are_nested k.say ∙ nested_at hints held nested in
      one_more b x r held (row_reads form b rb before) n refl
      (ap (λ (l : List Chunk). own_chunk hints x ∷ (l ++ end ∷ [])) k.say
      ∙ ap (λ (l : List Chunk). own_chunk hints x ∷ l) (sym (told_append hints (unfolding_of held) (None ∷ [])))
      ∙ ap (λ t. told_chunks hints (unfolding_by_role t x (unfold_at Elsewhere held) (unfold_at (Within x) held))) (sym p))
      (λ g is e. operator_reads form x h (row_items hints held) g (map as_folded k.folds) is (as_folded n) (ap is_folded p) (alone_reads hints held k)
      (rw (p, chunks_of_instructions-folds k.folds, same) refl) e)
  row_reads form f (an_if b x r given q held p h rb rg rh nested) (own, before, (_, in_given, inside)) =
      let j : Reads hints given = row_reads form given rg in_given in
      let k : Reads hints held = row_reads form held rh inside in
      let end : Chunk = word_chunk (codes "end") in
      let yes : List Chunk = chunks_in k.folds in
      let n : Fold = record { front = chunks_in j.folds ++ []; own = item_chunk x; after = yes ++ end ∷ [] } in
      let same : are_nested yes ≡ true = ap are_nested k.say ∙ nested_at hints held nested in
      let node : Nodes = Snoc given (ThenCase x) q held in
      let cases : code (row_items hints node) ≡ Some (code_of End (map as_folded j.folds ++ code.Then yes ∷ [])) =
      ap (λ u. code (onto (row_items hints given) u)) (hint_none hints (Group (Word (codes "then") (row_items hints held)) End))
      ∙ j.reads (Group (Word (codes "then") (row_items hints held)) End) (code.Then yes ∷ [])
      (then_reads (row_items hints held) End (map as_folded k.folds) [] yes (alone_reads hints held k) (chunks_of_instructions-folds k.folds) same refl) in
      one_more b x r node (row_reads form b rb before) n refl
      (simp (j.say, k.say, append-nil, append_assoc, told_append hints, p))
      (λ g is e. operator_reads form x h (row_items hints node) g (map as_folded j.folds ++ code.Then yes ∷ []) is (as_folded n) (ap is_folded p) cases
      (rw (p, branches-folds j.folds (code.Then yes ∷ []) [] yes refl) refl) e)
  row_reads form f (an_if_else b x r given q held y t other p h rb rg rh nested py hy ro nested_other)
      (own, before, (of_turn, (_, in_given, inside), in_other)) =
      let j : Reads hints given = row_reads form given rg in_given in
      let k : Reads hints held = row_reads form held rh inside in
      let l : Reads hints other = row_reads form other ro in_other in
      let end : Chunk = word_chunk (codes "end") in
      let turn : Chunk = word_chunk (codes "else") in
      let yes : List Chunk = chunks_in k.folds in
      let otherwise : List Chunk = chunks_in l.folds in
      let n : Fold = record { front = chunks_in j.folds ++ []; own = item_chunk x; after = (yes ++ turn ∷ otherwise) ++ end ∷ [] } in
      let same : are_nested yes ≡ true = ap are_nested k.say ∙ nested_at hints held nested in
      let same_other : are_nested otherwise ≡ true = ap are_nested l.say ∙ nested_at hints other nested_other in
      let node : Nodes = Snoc (Snoc given (ThenCase x) q held) (ElseCase y) t other in
      let both : List Instruction = code.Then yes ∷ code.Else otherwise ∷ [] in
      let first : Forest = Group (Word (codes "then") (row_items hints held)) End in
      let second : Forest = Group (Word (codes "else") (row_items hints other)) End in
      let cases : code (row_items hints node) ≡ Some (code_of End (map as_folded j.folds ++ both)) =
      ap₂ (λ u v. code (onto (onto (row_items hints given) u) v)) (hint_none hints first) (hint_none hints second)
      ∙ ap code (onto_assoc (row_items hints given) first second)
      ∙ j.reads (onto first second) both
      (then_reads (row_items hints held) second (map as_folded k.folds) (code.Else otherwise ∷ []) yes (alone_reads hints held k) (chunks_of_instructions-folds k.folds) same
      (else_reads (row_items hints other) End (map as_folded l.folds) [] otherwise (alone_reads hints other l) (chunks_of_instructions-folds l.folds) same_other refl)) in
      one_more b x r node (row_reads form b rb before) n refl
      (rw (append-nil (chunks_in j.folds), j.say, k.say, l.say, p)
      (sym (told_cases hints (unfolding_of given) (unfolding_of held) (unfolding_of other) x y (turn_chunk hints y hy of_turn py))))
      (λ g is e. operator_reads form x h (row_items hints node) g (map as_folded j.folds ++ both) is (as_folded n) (ap is_folded p) cases
      (rw (p, branches-folds j.folds both [] (yes ++ turn ∷ otherwise) refl) refl) e)

  -- The items of nodes read as the operators of the nodes.
  pub row_unfolds : (form : Form) (f : Nodes) → IsRow form f → AllHeads (IsHintless hints) f → code.chunks_of_forest (row_items hints f) ≡ Some (told_chunks hints (unfolding_of f))
  row_unfolds form f h a =
      let r : Reads hints f = row_reads form f h a in
      rw (alone_reads hints f r, chunks_of_instructions-folds r.folds, r.say) refl
