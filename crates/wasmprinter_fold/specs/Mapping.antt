-- The same nodes with other heads.
use Rattle.wasmprinter_spec.specs.Folding.Tree.{NodesOf, Nil, Snoc, OperandsOf, Fit, Overshot, TooFew}
use Rattle.wasmprinter_fold.specs.Building.{OpenNodes, Top, InBlock, InThen, InElse, StateOf, Step, Plain, Opens, OpensIf, Else, Ends}

-- The nodes with `v` of each head. `map_operands`, `map_open`, `map_state` and `map_step` replace the heads in the
-- result of a search for operands, in open blocks, in a state and in a step.
abbrev pub map_nodes : {H K : Type 0} → (H → K) → NodesOf H → NodesOf K
map_nodes v Nil = Nil
map_nodes v (Snoc before head results held) = Snoc (map_nodes v before) (v head) results (map_nodes v held)

abbrev pub map_operands : {H K : Type 0} → (H → K) → OperandsOf H → OperandsOf K
map_operands v (Fit before run) = Fit (map_nodes v before) (map_nodes v run)
map_operands v Overshot = Overshot
map_operands v TooFew = TooFew

abbrev pub map_open : {H K : Type 0} → (H → K) → OpenNodes H → OpenNodes K
map_open v Top = Top
map_open v (InBlock o before head results) = InBlock (map_open v o) (map_nodes v before) (v head) results
map_open v (InThen o before cases head case results) =
    InThen (map_open v o) (map_nodes v before) (map_nodes v cases) (v head) (v case) results
map_open v (InElse o before cases head case results) =
    InElse (map_open v o) (map_nodes v before) (map_nodes v cases) (v head) (v case) results

abbrev pub map_state : {H K : Type 0} → (H → K) → StateOf H → StateOf K
map_state v s = record { outer = map_open v s.outer; groups = map_nodes v s.groups }

abbrev pub map_step : {H K : Type 0} → (H → K) → Step H → Step K
map_step v (Plain head operands results) = Plain (v head) operands results
map_step v (Opens head results) = Opens (v head) results
map_step v (OpensIf head case results) = OpensIf (v head) (v case) results
map_step v (Else otherwise) = Else (v otherwise)
map_step v Ends = Ends
