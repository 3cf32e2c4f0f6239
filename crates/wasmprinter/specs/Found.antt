-- Definition of the line that is found for an operator.
use Rattle.std.specs.Prelude.{◌≡◌, ℕ, List, false, Option, Some, None, map, option_map, slice_get}
use Rattle.std.specs.Borrow.{Bor}
use Rattle.wasmprinter_spec.specs.Grammar.{Placed}
use Rattle.wasmprinter_spec.specs.Operator.{Operator}
use Rattle.wasmprinter_spec.specs.Placed.{PlacedModule}
use Rattle.wasmprinter_spec.specs.Binary.{Spells}
use Rattle.wasmprinter_spec.specs.Options.{Options}
use Rattle.wasmprinter_spec.specs.Lines.{TextLine, line_places, IsOnlyLine, operator_at}
use Rattle.wasmprinter.specs.Lined.{HasLinesBy}

-- The lines, each with its place, if it has one, and with the text that its borrow points to.
abbrev pub text_lines : List (Option ℕ × Bor (List ℕ)) → List TextLine
text_lines lines = map (λ line. (line.0, line.1.now)) lines

-- The place of the operator with this number, if it exists.
abbrev pub place_at : List (Placed Operator) → ℕ → Option ℕ
place_at operators number = option_map (λ (o : Placed Operator). o.place) (slice_get operators number)

-- For any lines: if a result is returned, its place is the place of the operator, and the line with its number begins
-- with that place. The order is: module, lines, number of the defined function, number of the operator in it, result.
abbrev pub IsAtItsLine : PlacedModule → List TextLine → ℕ → ℕ → Option (ℕ × ℕ) → Type 0
IsAtItsLine m lines function operator result =
    (number place : ℕ) → result ≡ Some (number, place) →
    (o : Placed Operator) × (operator_at m function operator ≡ Some o) × (place ≡ o.place)
    × (slice_get (line_places lines) number ≡ Some (Some place))

-- These are all lines of a text of the module, printed flat and without `skeleton`.
pub record AreLinesOf (m : PlacedModule) (lines : List TextLine) : Type 0 where
  -- The bytes that were printed.
  pub bytes : List ℕ
  -- They encode the module.
  pub spelled : Spells bytes m
  -- The options of printing.
  pub options : Options
  -- `skeleton` is off.
  pub whole : options.skeleton ≡ false
  -- Folding is off.
  pub flat : options.folds ≡ false
  -- The text in the storage before printing.
  pub old : List ℕ
  -- The text in the storage after printing.
  pub storage : List ℕ
  -- The bytes encode a module whose text, appended to `old`, gives `storage` and these lines.
  pub given : HasLinesBy options bytes old storage lines

-- In all lines of the module, the line of an existing operator is found, and it is the only one with its place. For
-- an operator that does not exist, the result is `None`. The order is that of `IsAtItsLine`.
abbrev pub FindsItsLine : PlacedModule → List TextLine → ℕ → ℕ → Option (ℕ × ℕ) → Type 0
FindsItsLine m lines function operator result =
    AreLinesOf m lines →
    ((o : Placed Operator) → operator_at m function operator ≡ Some o →
    (number : ℕ) × (result ≡ Some (number, o.place)) × IsOnlyLine (line_places lines) o.place number)
    × (operator_at m function operator ≡ None → result ≡ None)
