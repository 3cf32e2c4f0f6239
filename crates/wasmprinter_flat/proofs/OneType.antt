-- The types that a `select` names: exactly one, or any other number of them.
use Rattle.std.specs.Prelude.{◌≡◌, List, [], ◌∷◌, length, codes, Option, Some, None, refl}
use Rattle.std.specs.Iterator.{YieldsFirst}
use Rattle.std.proofs.Common.{sym, ap, arith}
use Rattle.wasmprinter_spec.specs.Grammar.{some_is}
use Rattle.wasmprinter_spec.specs.Names.{Names}
use Rattle.wasmprinter_spec.specs.Piece.{OneSpace}
use Rattle.wasmprinter_spec.specs.Layout.Groups.{line_group, line_group_space}
use Rattle.wasmprinter_spec.specs.Layout.ValTypes.{val_pieces, type_list}
use Rattle.wasmprinter_spec.specs.Layout.Operators.{select_pieces}
use Rattle.wasmprinter_spec.specs.Text.Items.{the_only}
use Rattle.wasmprinter_ops.specs.ValTypes.{val_type_view, val_types_view}
use Rattle.wasmprinter_ops.specs.declared.val_types.ValType.{ValType}

-- The first value of a list of length 1 is its only value.
pub only-first : {A : Type 0} (xs rest : List A) (r : Option A) → length xs ≡ 1 → YieldsFirst (λ ys. ys) xs r rest → r ≡ the_only xs
only-first xs rest None n y = absurd (omega (arith, n, ap length y.0))
only-first xs [] (Some x) n y = sym (ap the_only y)
only-first xs (z ∷ rest) (Some x) n y = absurd (omega (arith, n, ap length y))

-- A list whose length is not 1 has no only value.
pub only-none : {A : Type 0} (xs : List A) → (length xs ≡ 1 → ⊥) → None ≡ the_only xs
only-none [] h = refl
only-none (x ∷ []) h = absurd (h refl)
only-none (x ∷ (y ∷ xs)) h = refl

-- The pieces of a `select` with exactly one type are a result group with that type.
pub select-one : (names : Names) (ts : List ValType) (t : ValType) → the_only ts ≡ Some t →
    select_pieces names (val_types_view ts) ≡ OneSpace ∷ line_group_space (codes "result") (val_pieces names (val_type_view t))
unfolding select_pieces
select-one names [] t e = absurd cc
select-one names (x ∷ []) t e = ap (λ (y : ValType). OneSpace ∷ line_group_space (codes "result") (val_pieces names (val_type_view y))) (some_is x t e)
select-one names (x ∷ (y ∷ ts)) t e = absurd cc

-- The pieces of a `select` with any other number of types are a result group with these types.
pub select-others : (names : Names) (ts : List ValType) → the_only ts ≡ None →
    select_pieces names (val_types_view ts) ≡ OneSpace ∷ line_group (codes "result") (type_list names (val_types_view ts))
unfolding select_pieces
select-others names [] e = refl
select-others names (x ∷ []) e = absurd cc
select-others names (x ∷ (y ∷ ts)) e = refl
