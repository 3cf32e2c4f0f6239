-- Properties of all heads of nodes.
use Rattle.wasmprinter_spec.specs.Folding.Tree.{NodesOf, Nil, Snoc}
use Rattle.wasmprinter_fold.specs.Building.{OpenNodes, Top, InBlock, InThen, InElse, StateOf, Step, Plain, Opens, OpensIf, Else, Ends}

-- Each head in the nodes has the property P. `AllOpen`, `AllState` and `AllStep` state this of open blocks, of a
-- state and of a step.
abbrev pub AllNodes : {H : Type 0} → (H → Type 0) → NodesOf H → Type 0
AllNodes P Nil = Unit {0}
AllNodes P (Snoc before head results held) = AllNodes P before × P head × AllNodes P held

abbrev pub AllOpen : {H : Type 0} → (H → Type 0) → OpenNodes H → Type 0
AllOpen P Top = Unit {0}
AllOpen P (InBlock o before head results) = AllOpen P o × AllNodes P before × P head
AllOpen P (InThen o before cases head case results) = AllOpen P o × AllNodes P before × AllNodes P cases × P head × P case
AllOpen P (InElse o before cases head case results) = AllOpen P o × AllNodes P before × AllNodes P cases × P head × P case

abbrev pub AllState : {H : Type 0} → (H → Type 0) → StateOf H → Type 0
AllState P s = AllOpen P s.outer × AllNodes P s.groups

abbrev pub AllStep : {H : Type 0} → (H → Type 0) → Step H → Type 0
AllStep P (Plain head operands results) = P head
AllStep P (Opens head results) = P head
AllStep P (OpensIf head case results) = P head × P case
AllStep P (Else otherwise) = P otherwise
AllStep P Ends = Unit {0}
