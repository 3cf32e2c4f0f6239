-- Pushing tasks on the stack and taking them from it.
use Rattle.std.proofs.Common.{◌≡◌, ℕ, ◌+◌, ◌*◌, ◌≤◌, ◌<◌, ◌&&◌, Bool, false, List, [], ◌∷◌, ◌++◌, length, refl, sym, ◌∙◌, ap, subst, arith, append_assoc, eqb, Result, Ok, Err, OnOk}
use Rattle.std.proofs.lemmas.List.{append-nil}
use Rattle.std.proofs.lemmas.Bool.{ne_eqb}
use Rattle.std.specs.Borrow.{Bor}
use Rattle.wasmprinter_spec.specs.Piece.{Piece, CloseParen}
use Rattle.wasmprinter_spec.specs.Layout.Operators.{Form}
use Rattle.wasmprinter_spec.specs.Folding.Tree.{NodesOf, Nil, Snoc, is_nil, count}
use Rattle.wasmprinter_fold.specs.declared.nodes.NodeText.{NodeText}
use Rattle.wasmprinter_fold.specs.declared.nodes.Node.{Node}
use Rattle.wasmprinter_fold.specs.Mapping.{map_nodes}
use Rattle.wasmprinter_fold.specs.Postorder.{forest_of, IsPostorder}
use Rattle.wasmprinter_fold.specs.Rows.{IsLast}
use Rattle.wasmprinter_fold.proofs.Postorders.{length-row}
use Rattle.wasmprinter_fold.specs.Shown.{shown_of_head, IsIn, AreIn, node_front, row_pieces}
use Rattle.wasmprinter_fold.specs.Tasks.{pieces_of_row, task_front, task_rest, task_pieces, pieces_left, IsSoundRow, IsSound, AllSound, StacksRow, StacksRest, KeepsSoundRow, KeepsSound, steps_of, steps_left}
use Rattle.wasmprinter_fold.specs.declared.node_text.write_tasks.Task.{Task}
use Rattle.wasmprinter_fold.specs.declared.node_text.write_tasks.Task.TheVariants as task
use Rattle.wasmprinter_fold.proofs.RowLaws.{nil_mapped, row_last, row_none}

-- ---- Two lists of tasks, joined

pub pieces_left-append : (form : Form) (nesting : ℕ) (buffer : List ℕ) (a b : List Task) →
    pieces_left form nesting buffer (a ++ b) ≡ pieces_left form nesting buffer b ++ pieces_left form nesting buffer a
pieces_left-append form nesting buffer [] b = sym (append-nil (pieces_left form nesting buffer b))
pieces_left-append form nesting buffer (t ∷ a) b =
    ap (λ (l : List Piece). l ++ task_pieces form nesting buffer t) (pieces_left-append form nesting buffer a b)
    ∙ append_assoc (pieces_left form nesting buffer b) (pieces_left form nesting buffer a) (task_pieces form nesting buffer t)

pub steps_left-append : (a b : List Task) → steps_left (a ++ b) ≡ steps_left a + steps_left b
steps_left-append [] b = omega arith
steps_left-append (t ∷ a) b = omega (arith, steps_left-append a b)

pub AllSound-append : (buffer : List ℕ) (bound : ℕ) (a b : List Task) → AllSound buffer bound a → AllSound buffer bound b → AllSound buffer bound (a ++ b)
AllSound-append buffer bound [] b x y = y
AllSound-append buffer bound (t ∷ a) b x y = (x.0, AllSound-append buffer bound a b x.1 y)

AllSound-front : (buffer : List ℕ) (bound : ℕ) (a b : List Task) → AllSound buffer bound (a ++ b) → AllSound buffer bound a
AllSound-front buffer bound [] b x = tt
AllSound-front buffer bound (t ∷ a) b x = (x.0, AllSound-front buffer bound a b x.1)

IsSound-last : (buffer : List ℕ) (bound : ℕ) (a : List Task) (t : Task) → AllSound buffer bound (a ++ t ∷ []) → IsSound buffer bound t
IsSound-last buffer bound [] t x = x.0
IsSound-last buffer bound (s ∷ a) t x = IsSound-last buffer bound a t x.1

-- ---- Rows

none_by_count : (f : NodesOf NodeText) → eqb (count f) 0 ≡ is_nil f
none_by_count Nil = refl
none_by_count (Snoc before h r held) = ne_eqb _ _ (λ e. omega (arith, e))

-- A row is empty exactly if it has no node.
pub none_in_row : (row : List Node) → IsPostorder row → eqb (length row) 0 ≡ is_nil (forest_of row)
none_in_row row h = ap (λ n. eqb n 0) (length-row row h) ∙ none_by_count (forest_of row)

pub pieces_none : (form : Form) (nesting : ℕ) (buffer : List ℕ) (nodes : List Node) (first : Bool) (depth : ℕ) → nodes ≡ [] → pieces_of_row form nesting buffer nodes first depth ≡ []
pieces_none form nesting buffer nodes first depth e =
    ap (λ l. pieces_of_row form nesting buffer l first depth) e ∙ row_none form first (nesting + depth)

module _ (nodes before : List Node) (node : Node) (parts : List Node) (is : IsLast nodes before node parts) where
  pieces_last : (form : Form) (nesting : ℕ) (buffer : List ℕ) (first : Bool) (depth : ℕ) →
      pieces_of_row form nesting buffer nodes first depth
      ≡ pieces_of_row form nesting buffer before first depth
      ++ (node_front form (first && is_nil (forest_of before)) (is_nil (forest_of parts)) (nesting + depth) (shown_of_head buffer node.head)
      ++ (pieces_of_row form nesting buffer parts false (depth + 1) ++ (CloseParen ∷ [])))
  pieces_last form nesting buffer first depth =
      let deeper : (nesting + depth) + 1 ≡ nesting + (depth + 1) = omega arith in
      ap (λ (f : NodesOf NodeText). row_pieces form first (nesting + depth) (map_nodes (shown_of_head buffer) f)) is.whole
      ∙ row_last form first (nesting + depth) (map_nodes (shown_of_head buffer) (forest_of before)) (shown_of_head buffer node.head) node.results (map_nodes (shown_of_head buffer) (forest_of parts))
      ∙ rw (nil_mapped (shown_of_head buffer) (forest_of before), nil_mapped (shown_of_head buffer) (forest_of parts), deeper) refl

  texts_last : (buffer : List ℕ) → AreIn buffer (forest_of nodes) → AreIn buffer (forest_of before) × IsIn buffer node.head × AreIn buffer (forest_of parts)
  texts_last buffer h = subst (AreIn buffer) is.whole h

-- A property on success implies a weaker one.
pub on_ok : {T E P Q : Type 0} (r : Result T E) → (P → Q) → OnOk r P → OnOk r Q
on_ok (Ok x) f h = f h
on_ok (Err e) f h = tt

-- The task of a row was pushed.
module _ (new old : List Task) (nodes : Bor (List Node)) (first : Bool) (depth : ℕ) (e : new ≡ old ++ task.Nodes nodes first depth ∷ []) where
  pub pieces_pushed : StacksRow nodes.now first depth old new
  pieces_pushed form nesting buffer = ap (pieces_left form nesting buffer) e ∙ pieces_left-append form nesting buffer old (task.Nodes nodes first depth ∷ [])

  pub steps_pushed : steps_left new ≤ 4 * length nodes.now + 1 + steps_left old
  steps_pushed = omega (arith, ap steps_left e, steps_left-append old (task.Nodes nodes first depth ∷ []))

  pub sound_pushed : KeepsSoundRow nodes.now depth old new
  sound_pushed buffer bound row h =
      subst (AllSound buffer bound) (sym e) (AllSound-append buffer bound old (task.Nodes nodes first depth ∷ []) h (row, tt))

-- The loop invariant: the tasks of a row were pushed up to those of the nodes `rest`, which are still to come.
pub record IsPut (tasks old : List Task) (nodes rest : List Node) (first : Bool) (depth : ℕ) : Type 0 where
  pub row : IsPostorder rest
  pub pieces : (form : Form) (nesting : ℕ) (buffer : List ℕ) →
      pieces_of_row form nesting buffer rest first depth ++ pieces_left form nesting buffer tasks
      ≡ pieces_of_row form nesting buffer nodes first depth ++ pieces_left form nesting buffer old
  pub steps : 4 * length rest + steps_left tasks ≤ 4 * length nodes + steps_left old
  pub sound : (buffer : List ℕ) (bound : ℕ) → IsSoundRow buffer bound nodes depth → AllSound buffer bound old →
      IsSoundRow buffer bound rest depth × AllSound buffer bound tasks

-- The task of one more node was pushed.
module _ (new mid old : List Task) (nodes rest : List Node) (before : Bor (List Node)) (node : Node) (parts : Bor (List Node)) (first : Bool) (depth : ℕ) (leads : Bool)
    (is : IsLast rest before.now node parts.now) (e : new ≡ mid ++ task.One node.head parts leads depth ∷ []) where
  pieces_put : leads ≡ (first && eqb (length before.now) 0) → (form : Form) (nesting : ℕ) (buffer : List ℕ) →
      pieces_of_row form nesting buffer before.now first depth ++ pieces_left form nesting buffer new
      ≡ pieces_of_row form nesting buffer rest first depth ++ pieces_left form nesting buffer mid
  pieces_put le form nesting buffer =
      let front = pieces_of_row form nesting buffer before.now first depth in
      let own = task_pieces form nesting buffer (task.One node.head parts leads depth) in
      ap (λ (l : List Piece). front ++ l) (ap (pieces_left form nesting buffer) e ∙ pieces_left-append form nesting buffer mid (task.One node.head parts leads depth ∷ []))
      ∙ (sym (append_assoc front own (pieces_left form nesting buffer mid))
      ∙ ap (λ (l : List Piece). l ++ pieces_left form nesting buffer mid) (sym (pieces_last rest before.now node parts.now is form nesting buffer first depth ∙ rw (← le2) refl)))
    where
      le2 : leads ≡ (first && is_nil (forest_of before.now))
      le2 = le ∙ ap (λ b. first && b) (none_in_row before.now is.before_row)

  sound_put : (buffer : List ℕ) (bound : ℕ) → IsSoundRow buffer bound rest depth → AllSound buffer bound mid →
      IsSoundRow buffer bound before.now depth × AllSound buffer bound new
  sound_put buffer bound row h =
      let texts = texts_last rest before.now node parts.now is buffer row.texts in
      let room = row.room in
      let lower : IsSoundRow buffer bound before.now depth = record { row = is.before_row; texts = texts.0; room = omega (arith, is.lengths, room) } in
      let inner : IsSoundRow buffer bound parts.now (depth + 1) = record { row = is.parts_row; texts = texts.2; room = omega (arith, is.lengths, room) } in
      (lower, subst (AllSound buffer bound) (sym e) (AllSound-append buffer bound mid (task.One node.head parts leads depth ∷ []) h ((texts.1, inner), tt)))

  pub one_put : leads ≡ (first && eqb (length before.now) 0) → IsPut mid old nodes rest first depth → IsPut new old nodes before.now first depth
  one_put le so =
      record {
        row = is.before_row;
        pieces = λ form nesting buffer. pieces_put le form nesting buffer ∙ so.pieces form nesting buffer;
        steps = omega (arith, is.lengths, so.steps, ap steps_left e, steps_left-append mid (task.One node.head parts leads depth ∷ []));
        sound = λ buffer bound row h. let s = so.sound buffer bound row h in sound_put buffer bound s.0 s.1;
      }

-- If no node is left, the tasks of the whole row were pushed.
module _ (tasks old : List Task) (nodes rest : List Node) (first : Bool) (depth : ℕ) (none : rest ≡ []) (so : IsPut tasks old nodes rest first depth) where
  pub pieces_all_put : StacksRow nodes first depth old tasks
  pieces_all_put form nesting buffer =
      sym (ap (λ (l : List Piece). l ++ pieces_left form nesting buffer tasks) (pieces_none form nesting buffer rest first depth none))
      ∙ so.pieces form nesting buffer

  pub sound_all_put : KeepsSoundRow nodes depth old tasks
  sound_all_put buffer bound row h = (so.sound buffer bound row h).1

-- The tasks of the nodes that a node holds were pushed after the task that closes the node.
module _ (new mid old : List Task) (head : NodeText) (held : Bor (List Node)) (leads : Bool) (depth : ℕ) (e : mid ≡ old ++ task.Close ∷ []) where
  pub pieces_one : StacksRow held.now false (depth + 1) mid new → StacksRest (task.One head held leads depth) old new
  pieces_one row form nesting buffer =
      let inner = pieces_of_row form nesting buffer held.now false (depth + 1) in
      row form nesting buffer
      ∙ (ap (λ (l : List Piece). inner ++ l) (ap (pieces_left form nesting buffer) e ∙ pieces_left-append form nesting buffer old (task.Close ∷ []))
      ∙ sym (append_assoc inner (CloseParen ∷ []) (pieces_left form nesting buffer old)))

  pub steps_one : steps_left new ≤ 4 * length held.now + 1 + steps_left mid → steps_left new < steps_of (task.One head held leads depth) + steps_left old
  steps_one row = omega (arith, row, ap steps_left e, steps_left-append old (task.Close ∷ []))

  pub sound_one : KeepsSoundRow held.now (depth + 1) mid new → KeepsSound (task.One head held leads depth) old new
  sound_one put buffer bound is h =
      put buffer bound is.1 (subst (AllSound buffer bound) (sym e) (AllSound-append buffer bound old (task.Close ∷ []) h (tt, tt)))

-- ---- The top of a stack

module _ (all rest : List Task) (t : Task) (e : all ≡ rest ++ t ∷ []) where
  pub pieces_top : (form : Form) (nesting : ℕ) (buffer : List ℕ) →
      pieces_left form nesting buffer all ≡ task_front form nesting buffer t ++ (task_rest form nesting buffer t ++ pieces_left form nesting buffer rest)
  pieces_top form nesting buffer =
      ap (pieces_left form nesting buffer) e
      ∙ (pieces_left-append form nesting buffer rest (t ∷ [])
      ∙ append_assoc (task_front form nesting buffer t) (task_rest form nesting buffer t) (pieces_left form nesting buffer rest))

  pub steps_top : steps_left all ≡ steps_left rest + steps_of t
  steps_top = omega (arith, ap steps_left e, steps_left-append rest (t ∷ []))

  pub sound_top : (buffer : List ℕ) (bound : ℕ) → AllSound buffer bound all → IsSound buffer bound t
  sound_top buffer bound h = IsSound-last buffer bound rest t (subst (AllSound buffer bound) e h)

  pub sound_rest : (buffer : List ℕ) (bound : ℕ) → AllSound buffer bound all → AllSound buffer bound rest
  sound_rest buffer bound h = AllSound-front buffer bound rest (t ∷ []) (subst (AllSound buffer bound) e h)
