-- A tree of nodes that grows with each operator, in terms of the texts of its nodes.
use Rattle.std.specs.Prelude.{◌≡◌, ℕ, List, [], ◌∷◌, Bool, true, false, Option, Some, None, codes}
use Rattle.wasmprinter_spec.specs.Call.{Text}
use Rattle.wasmprinter_spec.specs.Operator.{Operator}
use Rattle.wasmprinter_spec.specs.Options.{defaults}
use Rattle.wasmprinter_spec.specs.Piece.{all_calls}
use Rattle.wasmprinter_spec.specs.Row as row
use Rattle.wasmprinter_spec.specs.Row.{Role}
use Rattle.wasmprinter_spec.specs.Table.{role_of}
use Rattle.wasmprinter_spec.specs.Folding.Arities.{OperandCounts}
use Rattle.wasmprinter_spec.specs.Folding.Code.{NestedCode}
use Rattle.wasmprinter_spec.specs.Folding.Tree.{tree}
use Rattle.wasmprinter_spec.specs.Layout.Operators.{Setting}
use Rattle.wasmprinter_flat.specs.OpenLabels.LabelState.{LabelState, own_label}
use Rattle.wasmprinter_flat.specs.Settings.{word_pieces}
use Rattle.wasmprinter_fold.specs.declared.nodes.builder.Builder.{Builder}
use Rattle.wasmprinter_fold.specs.Building.{Top, StateOf, Step, Plain, Opens, OpensIf, Else, Ends, state_at, step}
use Rattle.wasmprinter_fold.specs.Mapping.{map_nodes, map_state}
use Rattle.wasmprinter_fold.specs.Frames.{State, Represents}
use Rattle.wasmprinter_fold.specs.Heads.{AllState}
use Rattle.wasmprinter_fold.specs.Shown.{ShownNode, shown_of_calls, shown_head, shown_of_head, IsIn}
use Rattle.wasmprinter_fold.specs.declared.growing_tree.GrowingTree.{GrowingTree}

-- The builder has open blocks and nodes whose texts are in the buffer, and `s` has the printed texts of these
-- nodes.
pub record ShowsIn (buffer : List ℕ) (b : Builder) (s : StateOf ShownNode) : Type 0 where
  pub state : State
  pub stands : Represents b state
  pub inside : AllState (IsIn buffer) state
  pub shows : map_state (shown_of_head buffer) state ≡ s

-- The tree has open blocks and nodes whose printed texts are those of the state.
abbrev pub Shows : GrowingTree → StateOf ShownNode → Type 0
Shows t s = ShowsIn t.texts.bytes t.builder s

-- The tree has grown by one step.
abbrev pub GrowsByStep : GrowingTree → GrowingTree → Step ShownNode → Type 0
GrowsByStep old new x = (s : StateOf ShownNode) → Shows old s → Shows new (step s x)

-- The printed text of an operator, given the state of the labels before it.
abbrev pub shown_operator : Bool → Setting → LabelState → ℕ → Option Bool → Operator → ShownNode
shown_operator color s l place hint o = shown_of_calls place hint color (all_calls defaults (word_pieces s (own_label l) l.labels o))

-- The printed text of a case of an `if`.
abbrev pub shown_keyword : Bool → ℕ → List ℕ → ShownNode
shown_keyword color place keyword = shown_of_calls place None color (Text keyword ∷ [])

-- The step of an operator with the role, given the texts of the operator, of a `then` and of an `else`, and the
-- numbers of its operands and results.
abbrev pub shown_step : Role → ShownNode → ShownNode → ShownNode → OperandCounts → Step ShownNode
shown_step row.Plain x then otherwise counts = Plain x counts.operands counts.results
shown_step row.Opens x then otherwise counts = Opens x counts.results
shown_step row.OpensIf x then otherwise counts = OpensIf x then counts.results
shown_step row.Else x then otherwise counts = Else otherwise
shown_step _ x then otherwise counts = Ends

-- The step of an operator, given the state of the labels before it.
abbrev pub operator_step : Bool → Setting → LabelState → ℕ → Option Bool → Operator → OperandCounts → Step ShownNode
operator_step color s l place hint o counts =
    shown_step (role_of o.opcode) (shown_operator color s l place hint o) (shown_keyword color place (codes "then"))
    (shown_keyword color place (codes "else")) counts

-- If the operators were folded (the second Boolean), they have code, no block is open (`Top`), and the nodes of the
-- tree have the texts of the nodes of this code, with escape sequences if `color` says so. Otherwise they have no code.
abbrev pub IsGrown : Bool → GrowingTree → Bool → Option NestedCode → Type 0
IsGrown color t true c = (code : NestedCode) × (c ≡ Some code) × Shows t (state_at Top (map_nodes (shown_head color) (tree code)))
IsGrown color t false c = c ≡ None
