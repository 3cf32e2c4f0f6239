-- The state of a printer before and after calls.
use Rattle.wasmprinter_spec.specs.Meaning.{Meaning}

-- What happened to a printer: the meaning of its calls, and its states before and after them.
pub record Change (P : Type 0) : Type 1 where
  -- The meaning of calls on the printer.
  pub meaning : Meaning P
  -- The state before the calls.
  pub old : P
  -- The state after the calls.
  pub new : P

-- The change with this meaning and these states.
abbrev pub change : {P : Type 0} → Meaning P → P → P → Change P
change m old new = record { meaning = m; old = old; new = new }
