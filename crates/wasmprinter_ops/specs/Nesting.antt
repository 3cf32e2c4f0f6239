-- The open blocks of the program, and those of the definitions that they represent.
use Rattle.std.specs.Prelude.{◌≡◌, List, [], ◌∷◌, map, reverse, Option, Some, None, Result, Ok, Err}
use Rattle.wasmprinter_spec.specs.Row.{Role, Opens, OpensIf, OpensTry}
use Rattle.wasmprinter_spec.specs.Stepped.{Move, On, Stop, Never, by_move}
use Rattle.wasmprinter_spec.specs.Nesting.{Frame, InBlock, InIf, InTry, InCatch, Open, advance}
use Rattle.wasmprinter_ops.specs.declared.open_blocks.Frame.{Frame as ProgramFrame}
use Rattle.wasmprinter_ops.specs.declared.open_blocks.Frame.TheVariants as frames
use Rattle.wasmprinter_ops.specs.declared.open_blocks.Step.{Step}
use Rattle.wasmprinter_ops.specs.declared.open_blocks.Step.TheVariants as steps

-- The open block that an open block of the program represents.
abbrev pub frame_view : ProgramFrame → Frame
frame_view frames.Block = InBlock
frame_view frames.If = InIf
frame_view frames.Try = InTry
frame_view frames.Catch = InCatch

-- The open blocks, innermost first. The program keeps the outermost first.
abbrev pub frames_view : List ProgramFrame → List Frame
frames_view fs = map frame_view (reverse fs)

-- The step has the effect that the definitions say, and `new` is the state after it.
abbrev pub Steps : Move Open → Step → Open → Type 0
Steps (On s) steps.On new = s ≡ new
Steps Stop steps.Stop new = Unit {0}
Steps Never steps.Refused new = Unit {0}
Steps _ _ _ = ⊥

-- The blocks that are open after operators of these roles, given those open before. `None` if one of the operators
-- closes the last block or is not allowed.
abbrev pub open_after : Open → List Role → Option Open
open_after s [] = Some s
open_after s (r ∷ rs) = by_move (advance s r) (λ t. open_after t rs) None None

-- An operator of the role opens a block.
abbrev pub OpensBlock : Role → Type 0
OpensBlock Opens = Unit {0}
OpensBlock OpensIf = Unit {0}
OpensBlock OpensTry = Unit {0}
OpensBlock _ = ⊥

-- An operator of the role has the effect that the definitions say. On an error, an allocation failed,
-- and the operator opens a block.
abbrev pub Advances : {E : Type 0} → Open → Role → Result Step E → Open → Type 0
Advances old role (Ok step) new = Steps (advance old role) step new
Advances old role (Err e) new = OpensBlock role
