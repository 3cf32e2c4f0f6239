-- Operators, flat and folded, and functions do not begin the first line.
use Rattle.std.proofs.Common.{ℕ, ◌+◌, ◌-◌, List, [], ◌∷◌, Bool, true, false, ◌&&◌, Option, Some, None, refl, codes, length}
use Rattle.std.specs.Prelude.{option_map}
use Rattle.std.specs.Option.{is_none}
use Rattle.wasmprinter_spec.specs.Grammar.{Placed}
use Rattle.wasmprinter_spec.specs.Types.{signature_at}
use Rattle.wasmprinter_spec.specs.Operator.{Operator}
use Rattle.wasmprinter_spec.specs.Row.{Func, Role}
use Rattle.wasmprinter_spec.specs.Table.{role_of, shape_of}
use Rattle.wasmprinter_spec.specs.Labels as labels
use Rattle.wasmprinter_spec.specs.Labels.{labels_after, count_after, labels_outside, labels_inside}
use Rattle.wasmprinter_spec.specs.Names.{Names}
use Rattle.wasmprinter_spec.specs.Indexed.{parameter_count}
use Rattle.wasmprinter_spec.specs.Customs.Hints.{Hint, FunctionHints, next_hint, hints_after, hints_of_next, entries_after}
use Rattle.wasmprinter_spec.specs.Placed.{LocalEntry, PlacedFunction}
use Rattle.wasmprinter_spec.specs.Module.{locals_of}
use Rattle.wasmprinter_spec.specs.Options.{Options, defaults}
use Rattle.wasmprinter_spec.specs.Folding.Code.{NestedCode, nested_code_of}
use Rattle.wasmprinter_spec.specs.Folding.Tree.{Nodes, Nil, Snoc, is_nil, tree}
use Rattle.wasmprinter_spec.specs.Layout.Variables.{Variables, variable_groups}
use Rattle.wasmprinter_spec.specs.Layout.Declarations.{Scope, scope_of_function, Folding}
use Rattle.wasmprinter_spec.specs.Layout.Operators.{Form, OverLines, InLine, Setting, level, before_word, operator_pieces, hint_pieces, operators_pieces}
use Rattle.wasmprinter_spec.specs.Layout.Folded.{items, head_place, head_hint, head_text, has_line_comment, comment_end, node_hint, node_pieces, folded_pieces, if_folded, folded_list}
use Rattle.wasmprinter_spec.specs.Layout.Functions.{locals_place, local_line, local_pieces, over_lines, result_count, body_by, body_pieces, inner_pieces, function_group, function_pieces, functions_pieces}
use Rattle.wasmprinter_spec.proofs.OneLine.{both_stay, then_stay, alone_stays, line_group_space_stays, variables_stay, groups_stay}
use Rattle.wasmprinter_spec.proofs.ImmediateLines.{by_shape_stay}
use Rattle.wasmprinter_laws.proofs.Lines.FieldLines.{header_stays}
use Rattle.wasmprinter_laws.proofs.Lines.NoBegin.{HasNoBegin, nothing_none, both_none, then_none, alone_none, cond_none, line_none, field_none, group_space_at_none}

-- ---- operators

before_none : (form : Form) (first : Bool) (place nesting : ℕ) → HasNoBegin (before_word form first place nesting)
before_none OverLines first place nesting = alone_none tt
before_none InLine true place nesting = nothing_none
before_none InLine false place nesting = alone_none tt

hint_none : (nesting : ℕ) (h : Option (Placed Hint)) → HasNoBegin (hint_pieces nesting h)
hint_none nesting None = nothing_none
hint_none nesting (Some h) = then_none tt (alone_none tt)

module _ (s : Setting) where
  operator_none : (first : Bool) (own : labels.Label) (xs : List labels.Label) (o : Placed Operator) → HasNoBegin (operator_pieces s first own xs o)
  unfolding operator_pieces
  operator_none first own xs o =
      let role : Role = role_of o.value.opcode in
      both_none (before_none s.form first o.place (s.nesting + level role (length xs)))
      (then_none tt (line_none (by_shape_stay s (labels_inside role xs) (labels_outside role xs) own (shape_of o.value.opcode) o.value.immediates)))

  -- Flat operators, over several lines or in one, with hints or without, do not begin the first line.
  pub operators_none : (hs : List (Placed Hint)) (first : Bool) (n : ℕ) (xs : List labels.Label) (os : List (Placed Operator)) →
      HasNoBegin (operators_pieces s hs first n xs os)
  unfolding operators_pieces
  operators_none hs first n xs [] = nothing_none
  operators_none hs first n xs (o ∷ os) =
      let role : Role = role_of o.value.opcode in
      let own : labels.Label = s.names.labels s.function n (length xs) in
      let offset : ℕ = o.place - s.body in
      both_none (hint_none (s.nesting + length xs) (next_hint offset hs))
      (both_none (operator_none first own xs o) (operators_none (hints_after offset hs) false (count_after role n) (labels_after role own xs) os))

-- ---- folded operators

comment_none : (held_none : Bool) (s : List ℕ) (place nesting : ℕ) → HasNoBegin (comment_end held_none s place nesting)
comment_none true s place nesting = cond_none (has_line_comment s) (alone_none tt) nothing_none
comment_none false s place nesting = nothing_none

module _ (o : Options) (color : Bool) (form : Form) where
  node_hint_none : (first : Bool) (place nesting : ℕ) (h : Option (Placed Hint)) → HasNoBegin (node_hint o form first place nesting h)
  node_hint_none first place nesting None = nothing_none
  node_hint_none first place nesting (Some h) = both_none (before_none form first place nesting) (alone_none tt)

  node_none : (first : Bool) (nesting : ℕ) (nodes : Nodes) → HasNoBegin (node_pieces o color form first nesting nodes)
  unfolding node_pieces
  node_none first nesting Nil = nothing_none
  node_none first nesting (Snoc before head results held) =
      let place : ℕ = head_place head in
      let leads : Bool = first && is_nil before in
      both_none (both_none (both_none (node_none first nesting before) (node_hint_none leads place nesting (head_hint head)))
      (before_none form (leads && is_none (head_hint head)) place nesting))
      (then_none tt (both_none (both_none (comment_none (is_nil held) (head_text o head) place nesting) (node_none false (nesting + 1) held)) (alone_none tt)))

if_folded_none : (o : Options) (color : Bool) (s : Setting) (code : Option NestedCode) →
    HasNoBegin (if_folded (option_map (λ c. node_pieces o color s.form true s.nesting (tree c)) code))
if_folded_none o color s None = nothing_none
if_folded_none o color s (Some code) = node_none o color s.form true s.nesting (tree code)

pub folded_none : (f : Folding) (own : Option ℕ) (s : Setting) (hs : List (Placed Hint)) (os : List (Placed Operator)) → HasNoBegin (folded_list f own s hs os)
unfolding folded_pieces
folded_none f own s hs os = if_folded_none defaults f.color s (nested_code_of (items s (f.signatures own) hs 0 [] [] os))

-- ---- functions

locals_none : (names : Names) (place : Option ℕ) (gs : List Variables) → HasNoBegin (local_line names place gs)
unfolding local_line
locals_none names place [] = nothing_none
locals_none names place (g ∷ gs) = field_none place 2 (line_none (both_stay (variables_stay names (codes "local") g) (groups_stay names (codes "local") gs)))

body_none : (folding : Option Folding) (own : Option ℕ) (s : Setting) (hs : List (Placed Hint)) (os : List (Placed Operator)) → HasNoBegin (body_by folding own s hs os)
unfolding body_by
body_none None own s hs os = operators_none s hs true 0 [] os
body_none (Some f) own s hs os = folded_none f own s hs os

inner_none : (s : Scope) (hs : List (Placed Hint)) (f : PlacedFunction) → HasNoBegin (inner_pieces s hs f)
unfolding inner_pieces local_pieces body_pieces
inner_none s hs f =
    let es : List (Placed LocalEntry) = f.body.value.locals in
    both_none (locals_none s.names (locals_place es) (variable_groups (s.names.locals s.function) (parameter_count (signature_at s.types f.type_index)) (locals_of es)))
    (body_none s.folding (result_count s f.type_index) (over_lines s f.body.place) hs f.body.value.operators)

-- A function, whole or in a skeleton, does not begin the first line.
function_group_none : (skeleton offsets : Bool) (s : Scope) (hs : List (Placed Hint)) (f : PlacedFunction) → HasNoBegin (function_group skeleton offsets s hs f)
unfolding function_group
function_group_none true offsets s hs f =
    line_none (line_group_space_stays (codes "func") (both_stay (header_stays s Func (Some s.function) s.function f.type_index) (then_stay refl (alone_stays refl))))
function_group_none false offsets s hs f =
    group_space_at_none offsets f.body.value.end 1 (codes "func")
    (both_none (line_none (header_stays s Func (Some s.function) s.function f.type_index)) (inner_none s hs f))

pub functions_none : (o : Options) (s : Scope) (es : List FunctionHints) (i : ℕ) (fs : List PlacedFunction) → HasNoBegin (functions_pieces o s es i fs)
unfolding functions_pieces function_pieces
functions_none o s es i [] = nothing_none
functions_none o s es i (f ∷ fs) =
    both_none (field_none (Some f.body.place) 1 (function_group_none o.skeleton o.offsets (scope_of_function s i) (hints_of_next i es) f))
    (functions_none o s (entries_after i es) (i + 1) fs)
