-- The laws of lines and of the places with which they begin. They are the contracts of functions of the crate
-- `wasmprinter_laws`.
use Rattle.std.specs.Prelude.{◌≡◌, ℕ, List, false, Some, None, slice_get}
use Rattle.wasmprinter_spec.specs.Binary.{Spells}
use Rattle.wasmprinter_spec.specs.Grammar.{Placed}
use Rattle.wasmprinter_spec.specs.Operator.{Operator}
use Rattle.wasmprinter_spec.specs.Placed.{PlacedFunction, PlacedModule}
use Rattle.wasmprinter_spec.specs.Call.{Call, atoms, text_of}
use Rattle.wasmprinter_spec.specs.Options.{Options, Answers}
use Rattle.wasmprinter_spec.specs.Layout.{layout, refusal}
use Rattle.wasmprinter_spec.specs.Apart.{IsApart}
use Rattle.wasmprinter_spec.specs.Lines.{TextLine, lines_of, joined_lines, line_places, hint_places, IsOnlyLine, HasFunctionLines, operator_at, place_of}

-- Lists of calls that differ only in how text is split have the same lines.
abbrev pub AlikeHaveSameLines : Type 0
AlikeHaveSameLines = (k l : List Call) → atoms k ≡ atoms l → lines_of k ≡ lines_of l

-- The lines of a module joined are its text, up to a refusal too.
abbrev pub LinesJoin : Type 0
LinesJoin =
    (o : Options) (answers : Answers) (m : PlacedModule) → joined_lines (lines_of (layout o answers m)) ≡ text_of (layout o answers m)

-- The bodies of a module that bytes encode are apart from everything else that begins a line.
abbrev pub BodiesLieApart : Type 0
BodiesLieApart = (bytes : List ℕ) (m : PlacedModule) → Spells bytes m → IsApart m

-- If bodies are printed flat and no `dylink.0` section is refused, each function has its lines, and each of its
-- operators has a line of its own.
abbrev pub FunctionsHaveLines : Type 0
FunctionsHaveLines =
    (bytes : List ℕ) (m : PlacedModule) (o : Options) (answers : Answers) →
    Spells bytes m → o.skeleton ≡ false → o.folds ≡ false → refusal o answers m ≡ None →
    (i : ℕ) (f : PlacedFunction) → slice_get m.functions i ≡ Some f →
    HasFunctionLines (hint_places m) (line_places (lines_of (layout o answers m))) f

-- If a line is found for an operator, in any lines, then there is such an operator, the place is its place, and
-- the line begins with that place. (The function has the number i among the defined functions, the operator the number
-- j in its body, and the line the number `number`, all from 0.)
abbrev pub FindsPlace : Type 0
FindsPlace =
    (m : PlacedModule) (lines : List TextLine) (i j number place : ℕ) → place_of m lines i j ≡ Some (number, place) →
    (o : Placed Operator) × (operator_at m i j ≡ Some o) × (place ≡ o.place) × (slice_get (line_places lines) number ≡ Some (Some place))

-- If bodies are printed flat and no `dylink.0` section is refused, the line of each operator is found in the lines
-- of the module, and it is the only line with its place. If there is no such operator, no line is found.
abbrev pub FindsLine : Type 0
FindsLine =
    (bytes : List ℕ) (m : PlacedModule) (o : Options) (answers : Answers) →
    Spells bytes m → o.skeleton ≡ false → o.folds ≡ false → refusal o answers m ≡ None → (i j : ℕ) →
    let lines = lines_of (layout o answers m) in
    ((a : Placed Operator) → operator_at m i j ≡ Some a →
    (number : ℕ) × (place_of m lines i j ≡ Some (number, a.place)) × IsOnlyLine (line_places lines) a.place number)
    × (operator_at m i j ≡ None → place_of m lines i j ≡ None)
