-- One pass over variables writes the layout of their groups.
use Rattle.std.specs.Prelude.{◌≡◌, ℕ, ◌+◌, List, [], ◌∷◌, ◌++◌, Option, Some, None, codes, refl}
use Rattle.std.proofs.Common.{sym, ap, ◌∙◌, append_assoc}
use Rattle.wasmprinter_spec.specs.Types.{ValType}
use Rattle.wasmprinter_spec.specs.Labels.{Named}
use Rattle.wasmprinter_spec.specs.Names.{Names}
use Rattle.wasmprinter_spec.specs.Piece.{Piece, Break, OneSpace, Open, CloseParen}
use Rattle.wasmprinter_spec.specs.Layout.Groups.{line_group}
use Rattle.wasmprinter_spec.specs.Layout.ValTypes.{type_list}
use Rattle.wasmprinter_spec.specs.Layout.Variables.{Variables, Alone, Together, with_variable, variable_groups, variables_pieces, groups_pieces}
use Rattle.wasmprinter_spec.specs.Layout.Functions.{local_line}
use Rattle.wasmprinter_ops.specs.ValTypes.{val_type_view, val_types_view}
use Rattle.wasmprinter_ops.specs.declared.val_types.ValType.{ValType as GivenType}
use Rattle.wasmprinter_text.specs.declared.types.params_and_locals.Before.{Before}
use Rattle.wasmprinter_text.specs.declared.types.params_and_locals.Before.TheVariants as before
use Rattle.wasmprinter_text.specs.Variables.{end_pieces, before_next, unnamed_pieces, variable_pieces, walk_pieces}
use Rattle.wasmprinter_text.proofs.TypeLists.{type_list-append}

module _ (names : Names) (w : List ℕ) where
  -- The pieces of groups that are still to be written in the given state.
  rest_pieces : Before → List Variables → List Piece
  rest_pieces before.Line [] = []
  rest_pieces before.Line (g ∷ gs) = variables_pieces names w g ++ groups_pieces names w gs
  rest_pieces before.ClosedGroup gs = groups_pieces names w gs
  rest_pieces before.Open (Together ts ∷ gs) = type_list names ts ++ (CloseParen ∷ groups_pieces names w gs)
  rest_pieces before.Open gs = CloseParen ∷ groups_pieces names w gs

  -- A type and the rest of its group, with its end, are the pieces of the group with that type first.
  longer : (t : ValType) (ts : List ValType) (ps : List Piece) →
      type_list names (t ∷ []) ++ (type_list names ts ++ (CloseParen ∷ ps)) ≡ type_list names (t ∷ ts) ++ (CloseParen ∷ ps)
  longer t ts ps =
      sym (append_assoc (type_list names (t ∷ [])) (type_list names ts) (CloseParen ∷ ps)) ∙ ap (λ xs. xs ++ (CloseParen ∷ ps)) (sym (type_list-append names (t ∷ []) ts))

  -- The start of a group, a type and the rest of the group are the pieces of the group with that type first.
  group_longer : (t : ValType) (ts : List ValType) (ps : List Piece) →
      Open w ∷ (type_list names (t ∷ []) ++ (type_list names ts ++ (CloseParen ∷ ps))) ≡ variables_pieces names w (Together (t ∷ ts)) ++ ps
  unfolding variables_pieces line_group
  group_longer t ts ps = ap (λ xs. Open w ∷ xs) (longer t ts ps ∙ sym (append_assoc (type_list names (t ∷ ts)) (CloseParen ∷ []) ps))

  -- A variable without an identifier and the types that share its group are the pieces of that group, in any state.
  together : (b : Before) (t : ValType) (ts : List ValType) (gs : List Variables) →
      unnamed_pieces names w b t ++ (type_list names ts ++ (CloseParen ∷ groups_pieces names w gs)) ≡ rest_pieces b (Together (t ∷ ts) ∷ gs)
  unfolding rest_pieces groups_pieces
  together before.Line t ts gs = group_longer t ts (groups_pieces names w gs)
  together before.ClosedGroup t ts gs = ap (λ xs. OneSpace ∷ xs) (group_longer t ts (groups_pieces names w gs))
  together before.Open t ts gs = longer t ts (groups_pieces names w gs)

  -- A variable and the rest after it are the pieces of the groups with that variable first, in any state.
  step : (b : Before) (n : Option Named) (t : ValType) (gs : List Variables) →
      variable_pieces names w b n t ++ rest_pieces (before_next n) gs ≡ rest_pieces b (with_variable n t gs)
  unfolding rest_pieces groups_pieces type_list
  step before.Line (Some n) t gs = refl
  step before.ClosedGroup (Some n) t gs = refl
  step before.Open (Some n) t gs = refl
  step b None t [] = together b t [] []
  step b None t (Together ts ∷ gs) = together b t ts gs
  step b None t (Alone n u ∷ gs) = together b t [] (Alone n u ∷ gs)

  walk-rest : (named : ℕ → Option Named) (b : Before) (k : ℕ) (ts : List ValType) →
      walk_pieces names w named b k ts ≡ rest_pieces b (variable_groups named k ts)
  unfolding rest_pieces groups_pieces
  walk-rest named before.Line k [] = refl
  walk-rest named before.ClosedGroup k [] = refl
  walk-rest named before.Open k [] = refl
  walk-rest named b k (t ∷ ts) =
      ap (λ ps. variable_pieces names w b (named k) t ++ ps) (walk-rest named (before_next (named k)) (k + 1) ts) ∙ step b (named k) t (variable_groups named (k + 1) ts)

  -- From the state without an open group, the pass writes the groups, with a space before each.
  pub walk-groups : (named : ℕ → Option Named) (k : ℕ) (ts : List ValType) →
      walk_pieces names w named before.ClosedGroup k ts ≡ groups_pieces names w (variable_groups named k ts)
  unfolding rest_pieces
  walk-groups named k ts = walk-rest named before.ClosedGroup k ts

module _ (names : Names) (w : List ℕ) (named : ℕ → Option Named) where
  -- The pass over a list of variables writes the first variable and passes over the others.
  pub walk-next : (b : Before) (k : ℕ) (ts rest : List GivenType) (t : GivenType) → ts ≡ t ∷ rest →
      walk_pieces names w named b k (val_types_view ts) ≡ variable_pieces names w b (named k) (val_type_view t) ++ walk_pieces names w named (before_next (named k)) (k + 1) (val_types_view rest)
  walk-next b k ts rest t e = ap (λ xs. walk_pieces names w named b k (val_types_view xs)) e

  -- The pass over an empty list of variables writes the end of the open group, if there is one.
  pub walk-none : (b : Before) (k : ℕ) (ts : List GivenType) → ts ≡ [] → walk_pieces names w named b k (val_types_view ts) ≡ end_pieces b
  walk-none b k ts e = ap (λ xs. walk_pieces names w named b k (val_types_view xs)) e

module _ (names : Names) (place : Option ℕ) where
  line_by : (n : Option Named) (t : ValType) (gs : List Variables) →
      Break place 2 ∷ rest_pieces names (codes "local") before.Line (with_variable n t gs) ≡ local_line names place (with_variable n t gs)
  unfolding rest_pieces local_line
  line_by (Some n) t gs = refl
  line_by None t [] = refl
  line_by None t (Together ts ∷ gs) = refl
  line_by None t (Alone n u ∷ gs) = refl

  -- A line break and the pass over a nonempty list of locals, from the start of a line, are the line of these locals.
  pub walk-line : (named : ℕ → Option Named) (k : ℕ) (t : ValType) (ts : List ValType) →
      Break place 2 ∷ walk_pieces names (codes "local") named before.Line k (t ∷ ts) ≡ local_line names place (variable_groups named k (t ∷ ts))
  walk-line named k t ts =
      ap (λ ps. Break place 2 ∷ ps) (walk-rest names (codes "local") named before.Line k (t ∷ ts)) ∙ line_by (named k) t (variable_groups named (k + 1) ts)
