-- The parts of nodes that are still to be written, the next task last.
use Rattle.std.specs.Prelude.{◌≡◌, ℕ, suc, ◌+◌, ◌*◌, ◌≤◌, List, [], ◌∷◌, ◌++◌, length, Bool, false}
use Rattle.wasmprinter_spec.specs.Piece.{Piece, CloseParen}
use Rattle.wasmprinter_spec.specs.Layout.Operators.{Form}
use Rattle.wasmprinter_spec.specs.Folding.Tree.{is_nil}
use Rattle.wasmprinter_fold.specs.Mapping.{map_nodes}
use Rattle.wasmprinter_fold.specs.Postorder.{forest_of, IsPostorder}
use Rattle.wasmprinter_fold.specs.declared.nodes.Node.{Node}
use Rattle.wasmprinter_fold.specs.Shown.{shown_of_head, IsIn, AreIn, node_front, row_pieces}
use Rattle.wasmprinter_fold.specs.declared.node_text.write_tasks.Task.{Task}
use Rattle.wasmprinter_fold.specs.declared.node_text.write_tasks.Task.TheVariants as task

module _ (form : Form) (nesting : ℕ) (buffer : List ℕ) where
  -- The pieces of a row of nodes.
  abbrev pub pieces_of_row : List Node → Bool → ℕ → List Piece
  pieces_of_row nodes first depth = row_pieces form first (nesting + depth) (map_nodes (shown_of_head buffer) (forest_of nodes))

  -- The pieces that are written when a task is taken from the stack.
  abbrev pub task_front : Task → List Piece
  task_front (task.Nodes nodes first depth) = []
  task_front (task.One head held leads depth) =
      node_front form leads (is_nil (forest_of held.now)) (nesting + depth) (shown_of_head buffer head)
  task_front task.Close = CloseParen ∷ []

  -- The pieces of a task that are left after its front.
  abbrev pub task_rest : Task → List Piece
  task_rest (task.Nodes nodes first depth) = pieces_of_row nodes.now first depth
  task_rest (task.One head held leads depth) = pieces_of_row held.now false (depth + 1) ++ (CloseParen ∷ [])
  task_rest task.Close = []

  -- The pieces of a task.
  abbrev pub task_pieces : Task → List Piece
  task_pieces t = task_front t ++ task_rest t

  -- The pieces of all tasks, starting with the last task.
  abbrev pub pieces_left : List Task → List Piece
  pieces_left [] = []
  pieces_left (t ∷ ts) = pieces_left ts ++ task_pieces t

-- The nodes are in postorder, their texts are in the buffer, and the sum of their depth and their number is within
-- a bound.
pub record IsSoundRow (buffer : List ℕ) (bound : ℕ) (nodes : List Node) (depth : ℕ) : Type 0 where
  pub row : IsPostorder nodes
  pub texts : AreIn buffer (forest_of nodes)
  pub room : depth + length nodes ≤ bound

-- The rows of the task are sound (`IsSoundRow`), and the text of its head is in the buffer. The second argument is
-- the bound.
abbrev pub IsSound : List ℕ → ℕ → Task → Type 0
IsSound buffer bound (task.Nodes nodes first depth) = IsSoundRow buffer bound nodes.now depth
IsSound buffer bound (task.One head held leads depth) = IsIn buffer head × IsSoundRow buffer bound held.now (depth + 1)
IsSound buffer bound task.Close = Unit {0}

-- Each task is sound.
abbrev pub AllSound : List ℕ → ℕ → List Task → Type 0
AllSound buffer bound [] = Unit {0}
AllSound buffer bound (t ∷ ts) = IsSound buffer bound t × AllSound buffer bound ts

-- ---- The effect of functions that push tasks

-- The pieces that are left are those of a row of nodes and then those that were left before.
abbrev pub StacksRow : List Node → Bool → ℕ → List Task → List Task → Type 0
StacksRow nodes first depth old new = (form : Form) (nesting : ℕ) (buffer : List ℕ) →
    pieces_left form nesting buffer new ≡ pieces_of_row form nesting buffer nodes first depth ++ pieces_left form nesting buffer old

-- The pieces that are left are those of the rest of a task and then those that were left before.
abbrev pub StacksRest : Task → List Task → List Task → Type 0
StacksRest t old new = (form : Form) (nesting : ℕ) (buffer : List ℕ) →
    pieces_left form nesting buffer new ≡ task_rest form nesting buffer t ++ pieces_left form nesting buffer old

-- If the row and the old tasks are sound, so are all tasks.
abbrev pub KeepsSoundRow : List Node → ℕ → List Task → List Task → Type 0
KeepsSoundRow nodes depth old new =
    (buffer : List ℕ) (bound : ℕ) → IsSoundRow buffer bound nodes depth → AllSound buffer bound old → AllSound buffer bound new

-- If the task and the old tasks are sound, so are all tasks.
abbrev pub KeepsSound : Task → List Task → List Task → Type 0
KeepsSound t old new = (buffer : List ℕ) (bound : ℕ) → IsSound buffer bound t → AllSound buffer bound old → AllSound buffer bound new

-- An upper bound of the number of steps that a task takes.
abbrev pub steps_of : Task → ℕ
steps_of (task.Nodes nodes first depth) = suc (4 * length nodes.now)
steps_of (task.One head held leads depth) = 4 * length held.now + 3
steps_of task.Close = 1

-- The greatest number of tasks that `put_rest` pushes for a task.
abbrev pub rest_of : Task → ℕ
rest_of (task.Nodes nodes first depth) = length nodes.now
rest_of (task.One head held leads depth) = suc (length held.now)
rest_of task.Close = 0

-- An upper bound of the number of steps that these tasks take.
abbrev pub steps_left : List Task → ℕ
steps_left [] = 0
steps_left (t ∷ ts) = steps_of t + steps_left ts
