-- The lists of a builder, as functions of the state that they represent.
use Rattle.std.specs.Prelude.{◌≡◌, ℕ, suc, ◌-◌, ◌≤◌, List, [], ◌∷◌, ◌++◌, length}
use Rattle.wasmprinter_spec.specs.Folding.Arities.{greatest}
use Rattle.wasmprinter_spec.specs.Folding.Tree.{NodesOf, Nil}
use Rattle.wasmprinter_fold.specs.declared.nodes.NodeText.{NodeText}
use Rattle.wasmprinter_fold.specs.declared.nodes.Node.{Node}
use Rattle.wasmprinter_fold.specs.declared.nodes.builder.Arm.{Arm}
use Rattle.wasmprinter_fold.specs.declared.nodes.builder.Arm.TheVariants as arm
use Rattle.wasmprinter_fold.specs.declared.nodes.builder.Frame.{Frame}
use Rattle.wasmprinter_fold.specs.declared.nodes.builder.Builder.{Builder}
use Rattle.wasmprinter_fold.specs.declared.nodes.candidates.Candidate.{Candidate}
use Rattle.wasmprinter_fold.specs.Candidates.{candidates, IsLimited}
use Rattle.wasmprinter_fold.specs.Postorder.{postorder}
use Rattle.wasmprinter_fold.specs.Building.{OpenNodes, Top, InBlock, InThen, InElse, StateOf}

-- A state whose heads are the texts of nodes, as the program keeps them.
abbrev pub State : Type 0
State = StateOf NodeText

-- The nodes before those of the open part.
abbrev pub base : OpenNodes NodeText → List Node
base Top = []
base (InBlock o before head results) = base o ++ postorder before
base (InThen o before cases head case results) = (base o ++ postorder before) ++ postorder cases
base (InElse o before cases head case results) = (base o ++ postorder before) ++ postorder cases

-- The candidates before those of the open part: the nodes of the outer parts that no other node holds. The predicate of
-- an `if` is none of them.
abbrev pub base_candidates : OpenNodes NodeText → List Candidate
base_candidates Top = []
base_candidates (InBlock o before head results) = base_candidates o ++ candidates (length (base o)) before
base_candidates (InThen o before cases head case results) = base_candidates o ++ candidates (length (base o)) before
base_candidates (InElse o before cases head case results) = base_candidates o ++ candidates (length (base o)) before

-- The frame of an open block in the blocks `o`, after the nodes `before`. `cases` are the nodes that it holds before its
-- open part.
abbrev pub frame_in : OpenNodes NodeText → NodesOf NodeText → NodesOf NodeText → Arm → NodeText → ℕ → Frame
frame_in o before cases arm head results =
    record {
      arm = arm;
      head = head;
      results = results;
      operands_start = length (base o ++ postorder before);
      start = length ((base o ++ postorder before) ++ postorder cases);
      candidates_start = length (base_candidates o ++ candidates (length (base o)) before);
    }

-- The frames of the open blocks, innermost last.
abbrev pub frames : OpenNodes NodeText → List Frame
frames Top = []
frames (InBlock o before head results) = frames o ++ frame_in o before Nil arm.Block head results ∷ []
frames (InThen o before cases head case results) = frames o ++ frame_in o before cases (arm.Then case) head results ∷ []
frames (InElse o before cases head case results) = frames o ++ frame_in o before cases (arm.Else case) head results ∷ []

-- Each node outside the open part, and each open block, counts for at most the greatest number of results.
abbrev pub AreLimited : OpenNodes NodeText → Type 0
AreLimited Top = Unit {0}
AreLimited (InBlock o before head results) = AreLimited o × IsLimited before × (results ≤ greatest)
AreLimited (InThen o before cases head case results) = AreLimited o × IsLimited before × (results ≤ greatest)
AreLimited (InElse o before cases head case results) = AreLimited o × IsLimited before × (results ≤ greatest)

-- The lists represent this state.
pub record AreListsOf (nodes : List Node) (row : List Candidate) (blocks : List Frame) (s : State) : Type 0 where
  pub rows : nodes ≡ base s.outer ++ postorder s.groups
  pub open_row : row ≡ base_candidates s.outer ++ candidates (length (base s.outer)) s.groups
  pub open_blocks : blocks ≡ frames s.outer
  pub outer_limited : AreLimited s.outer
  pub limited : IsLimited s.groups

-- The lists of the builder represent this state: they have all its nodes in postorder, those that a later operator may
-- take (candidates), and its open blocks. No candidate and no open block counts for more than 2^32 - 1 results.
abbrev pub Represents : Builder → State → Type 0
Represents b s = AreListsOf b.nodes.items b.candidates.items b.frames.items s

-- The list with one more node, which holds all nodes from index `from` on.
abbrev pub with_node : List Node → NodeText → ℕ → ℕ → List Node
with_node nodes head results from = nodes ++ record { head = head; results = results; size = suc (length nodes - from) } ∷ []

-- The list with the node of the open case of an `if`, which begins at index `start`. A block without cases has none.
abbrev pub with_case : List Node → Arm → ℕ → List Node
with_case nodes arm.Block start = nodes
with_case nodes (arm.Then case) start = with_node nodes case 0 start
with_case nodes (arm.Else case) start = with_node nodes case 0 start

-- The list with the node of a block, after that of its open case.
abbrev pub with_block : List Node → Frame → List Node
with_block nodes frame = with_node (with_case nodes frame.arm frame.start) frame.head frame.results frame.operands_start
