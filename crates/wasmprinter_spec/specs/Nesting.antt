-- How operators nest (section 5.4 of the standard, "Control Instructions", and legacy exception handling): a
-- relation over the roles of the operators in their flat order.
use Rattle.std.specs.Prelude.{List, [], ◌∷◌, ◌++◌}
use Rattle.wasmprinter_spec.specs.Row.{Role, Plain, Opens, OpensIf, Else, OpensTry, Catches, CatchesAll, Delegates, Ends}
use Rattle.wasmprinter_spec.specs.Stepped.{Move, On, Stop, Never}

-- A part of a block: a sequence of operators, or the handlers of a `try`.
pub data FramePart : Type 0 where
  Sequence : FramePart
  Handlers : FramePart

-- The roles are well nested: block .. end, if .. end, if .. else .. end, try .. (catch ..)* (catch_all ..)? end,
-- try .. delegate. `Nests Sequence` says this of a sequence in which each block is closed, `Nests Handlers` of the handlers
-- of a `try`: each `catch` and `catch_all` with its operators, without the `end`.
pub data Nests : FramePart → List Role → Type 0 where
  none : Nests Sequence []
  plain : {rest : List Role} → Nests Sequence rest → Nests Sequence (Plain ∷ rest)
  block : {body rest : List Role} → Nests Sequence body → Nests Sequence rest → Nests Sequence (Opens ∷ (body ++ Ends ∷ rest))
  one_armed : {body rest : List Role} → Nests Sequence body → Nests Sequence rest → Nests Sequence (OpensIf ∷ (body ++ Ends ∷ rest))
  two_armed : {yes no rest : List Role} → Nests Sequence yes → Nests Sequence no → Nests Sequence rest →
      Nests Sequence (OpensIf ∷ (yes ++ Else ∷ (no ++ Ends ∷ rest)))
  tried : {body handlers rest : List Role} → Nests Sequence body → Nests Handlers handlers → Nests Sequence rest →
      Nests Sequence (OpensTry ∷ (body ++ (handlers ++ Ends ∷ rest)))
  delegated : {body rest : List Role} → Nests Sequence body → Nests Sequence rest → Nests Sequence (OpensTry ∷ (body ++ Delegates ∷ rest))
  no_handler : Nests Handlers []
  caught : {body handlers : List Role} → Nests Sequence body → Nests Handlers handlers → Nests Handlers (Catches ∷ (body ++ handlers))
  caught_all : {body : List Role} → Nests Sequence body → Nests Handlers (CatchesAll ∷ body)

-- ---- How reading finds the last `end`: it keeps the open blocks

-- An open block, by the operators that may close it or continue it.
pub data Frame : Type 0 where
  InBlock : Frame
  InIf : Frame
  InTry : Frame
  InCatch : Frame

-- The effect of an operator on the innermost open block.
pub data Turn : Type 0 where
  Stay : Turn
  Enter : Frame → Turn
  Become : Frame → Turn
  Leave : Turn
  Refuse : Turn

-- The effect of an operator with this role on the innermost open block.
abbrev pub turn : Role → Frame → Turn
turn Plain f = Stay
turn Opens f = Enter InBlock
turn OpensIf f = Enter InIf
turn OpensTry f = Enter InTry
turn Ends f = Leave
turn Else InIf = Become InBlock
turn Else _ = Refuse
turn Catches InTry = Become InCatch
turn Catches InCatch = Become InCatch
turn Catches _ = Refuse
turn CatchesAll InTry = Become InBlock
turn CatchesAll InCatch = Become InBlock
turn CatchesAll _ = Refuse
turn Delegates InTry = Leave
turn Delegates _ = Refuse

-- The open blocks: the innermost one, and those around it from the inside out.
pub record Open : Type 0 where
  pub innermost : Frame
  pub outer : List Frame

-- The open blocks with this innermost one, and these around it from the inside out.
abbrev pub open_frames : Frame → List Frame → Open
open_frames f fs = record { innermost = f; outer = fs }

-- Only the expression itself is open.
abbrev pub at_start : Open
at_start = open_frames InBlock []

-- The open blocks after the innermost one is closed; `Stop` if no block is around it. The argument lists the blocks
-- around it.
abbrev pub move_outwards : List Frame → Move Open
move_outwards [] = Stop
move_outwards (f ∷ fs) = On (open_frames f fs)

-- The open blocks after an operator with this effect on the innermost one.
abbrev pub move_by_turn : Turn → Open → Move Open
move_by_turn Stay s = On s
move_by_turn (Enter f) s = On (open_frames f (s.innermost ∷ s.outer))
move_by_turn (Become f) s = On (open_frames f s.outer)
move_by_turn Leave s = move_outwards s.outer
move_by_turn Refuse s = Never

-- The open blocks after an operator with this role; `Stop` if it closes the expression, `Never` if it may not
-- occur here.
abbrev pub advance : Open → Role → Move Open
advance s r = move_by_turn (turn r s.innermost) s
