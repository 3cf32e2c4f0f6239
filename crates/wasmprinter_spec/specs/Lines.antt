-- The lines of a text, as the calls on a printer begin them, and which lines a function has. This is the printer's
-- own: the standard does not define lines.
use Rattle.std.specs.Prelude.{◌≡◌, ℕ, ◌+◌, List, [], ◌∷◌, ◌++◌, ◌==◌, ◌||◌, Bool, false, cond, Option, Some, None, map, slice_get}
use Rattle.std.specs.List.{flat_map}
use Rattle.wasmprinter_spec.specs.Grammar.{Placed, ◌>>=◌}
use Rattle.wasmprinter_spec.specs.Operator.{Operator}
use Rattle.wasmprinter_spec.specs.Placed.{PlacedFunction, PlacedModule}
use Rattle.wasmprinter_spec.specs.Customs.Hints.{FunctionHints, hints_of}
use Rattle.wasmprinter_spec.specs.Call.{Call, Line, call_text}
use Rattle.wasmprinter_spec.specs.Layout.Functions.{locals_place}

-- A line: its place, if it has one, and its bytes with the line feed after them.
abbrev pub TextLine : Type 0
TextLine = Option ℕ × List ℕ

-- The text of the calls up to the next line.
abbrev pub text_before_line : List Call → List ℕ
text_before_line [] = []
text_before_line (Line place ∷ cs) = []
text_before_line (c ∷ cs) = call_text c ++ text_before_line cs

-- For each call that begins a line, its place and the text from there to the next such call or to the end. Text
-- before the first line is on no line.
abbrev pub lines_of : List Call → List TextLine
lines_of [] = []
lines_of (Line place ∷ cs) = (place, text_before_line cs) ∷ lines_of cs
lines_of (c ∷ cs) = lines_of cs

-- The bytes of lines, one line after the other.
abbrev pub joined_lines : List TextLine → List ℕ
joined_lines lines = flat_map (λ line. line.1) lines

-- The place of each line.
abbrev pub line_places : List TextLine → List (Option ℕ)
line_places lines = map (λ line. line.0) lines

-- The line with this number begins with this place, and no other line does.
pub record IsOnlyLine (places : List (Option ℕ)) (place number : ℕ) : Type 0 where
  pub has : slice_get places number ≡ Some (Some place)
  pub only : (other : ℕ) → slice_get places other ≡ Some (Some place) → other ≡ number

-- ---- Lines of hints, and all others

-- The place of each element.
abbrev pub places : {A : Type 0} → List (Placed A) → List ℕ
places xs = flat_map (λ x. x.place ∷ []) xs

-- The place of each hint.
abbrev pub places_of_hints : List FunctionHints → List ℕ
places_of_hints es = flat_map (λ e. places e.hints) es

-- The places of a module's branch hints, in the hint section that counts.
abbrev pub hint_places : PlacedModule → List ℕ
hint_places m = places_of_hints (hints_of m.customs)

-- The line begins with this place.
abbrev pub has_place : ℕ → Option ℕ → Bool
has_place place None = false
has_place place (Some p) = p == place

-- The line begins with one of these places.
abbrev pub is_among : List ℕ → Option ℕ → Bool
is_among [] line = false
is_among (p ∷ ps) line = has_place p line || is_among ps line

-- The lines that do not begin with any of these places.
abbrev pub lines_without : List ℕ → List (Option ℕ) → List (Option ℕ)
lines_without ps [] = []
lines_without ps (line ∷ lines) = cond (is_among ps line) (lines_without ps lines) (line ∷ lines_without ps lines)

-- ---- The lines of a function

-- If the lines of hints are left out, the line with this number begins with this place, and no other line does. If
-- they are not left out, exactly one line begins with this place too.
pub record IsItsLine (hints : List ℕ) (lines : List (Option ℕ)) (place number : ℕ) : Type 0 where
  pub among_kept : IsOnlyLine (lines_without hints lines) place number
  pub among_all : (n : ℕ) × IsOnlyLine lines place n

-- The number of lines for locals: one line if there are locals, otherwise no line.
abbrev pub lines_for : Option ℕ → ℕ
lines_for None = 0
lines_for (Some place) = 1

-- The lines of a function among all lines, with those of hints left out. Its header is the only line with the
-- place of the body's first byte. After it comes the line of its locals, if it has any, and then a line for each
-- operator, in order. Each of them is the only one with its place.
pub record HasFunctionLines (hints : List ℕ) (lines : List (Option ℕ)) (f : PlacedFunction) : Type 0 where
  pub header : ℕ
  pub at_header : IsItsLine hints lines f.body.place header
  pub at_locals : (place : ℕ) → locals_place f.body.value.locals ≡ Some place → IsItsLine hints lines place (header + 1)
  pub at_operator : (j : ℕ) (o : Placed Operator) → slice_get f.body.value.operators j ≡ Some o →
      IsItsLine hints lines o.place (header + 1 + lines_for (locals_place f.body.value.locals) + j)

-- ---- Finding an operator's line

-- The number of the first line with this place, where the first of the lines has the number `number`.
abbrev pub line_from : ℕ → ℕ → List TextLine → Option ℕ
line_from number place [] = None
line_from number place (line ∷ lines) = cond (has_place place line.0) (Some number) (line_from (number + 1) place lines)

-- The operator with this number, of the defined function with this number. The order is: module, function, operator.
abbrev pub operator_at : PlacedModule → ℕ → ℕ → Option (Placed Operator)
operator_at m function operator = slice_get m.functions function >>= λ f. slice_get f.body.value.operators operator

-- The number, from 0, of the first line with the operator's place, and that place; `None` if there is no such operator
-- or line. The order is: module, lines, number of the defined function, number of the operator in it, both from 0.
abbrev pub place_of : PlacedModule → List TextLine → ℕ → ℕ → Option (ℕ × ℕ)
place_of m lines function operator =
    operator_at m function operator >>= λ o. line_from 0 o.place lines >>= λ number. Some (number, o.place)
