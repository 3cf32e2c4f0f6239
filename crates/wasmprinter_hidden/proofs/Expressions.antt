-- The lengths of the shortest encodings of expressions (section 5.4 of the standard, "Expressions").
use Rattle.std.specs.Prelude.{◌≡◌, List, [], ◌∷◌, ◌++◌, map, ◌+◌, length, refl}
use Rattle.std.proofs.Common.{sym, ap, subst, ◌∙◌, arith}
use Rattle.std.proofs.lemmas.List.{length-append}
use Rattle.wasmprinter_spec.specs.Grammar.{Placed, value_with_place}
use Rattle.wasmprinter_spec.specs.Repeated.{AreItems}
use Rattle.wasmprinter_spec.specs.Operator.{Operator}
use Rattle.wasmprinter_spec.specs.Row.{Role}
use Rattle.wasmprinter_spec.specs.Table.{role_of}
use Rattle.wasmprinter_spec.specs.Nesting.{Nests, Sequence}
use Rattle.wasmprinter_spec.specs.Instructions.{end_byte, Closed, roles, operator, expression, constant}
use Rattle.wasmprinter_spec.specs.Module.{without_places}
use Rattle.wasmprinter_hidden.specs.Lengths.{items_len, operator_len, expression_len}
use Rattle.wasmprinter_hidden.proofs.Combinators.{Measured, of_value, are_joined, split_bytes, joined_length, placed_measured, items_measured, map_measured}
use Rattle.wasmprinter_hidden.proofs.Operators.{operator_measured}

-- The roles of operators do not depend on their places.
roles_of_values : (ops : List (Placed Operator)) → roles ops ≡ map (λ o. role_of o.opcode) (without_places ops)
roles_of_values [] = refl
roles_of_values (o ∷ ops) = ap (λ (rs : List Role). role_of o.value.opcode ∷ rs) (roles_of_values ops)

-- Operators that differ only by their places have the same roles.
same_roles : (xs ys : List (Placed Operator)) → without_places xs ≡ without_places ys → roles xs ≡ roles ys
same_roles xs ys alike =
    roles_of_values xs ∙ ap (map (λ (o : Operator). role_of o.opcode)) alike ∙ sym (roles_of_values ys)

-- Operators without their places, and the length of operators.
placed_items : Measured without_places (AreItems (value_with_place operator)) (items_len (of_value operator_len))
placed_items = items_measured (value_with_place operator) (placed_measured operator_measured)

-- The operators of an expression without their places.
abbrev operators_of : Closed (Placed Operator) → List Operator
operators_of x = without_places x.items

-- The shortest encoding of an expression consists of those of its operators, and of the last `end`.
expression_measured : Measured operators_of expression.spells (λ x. expression_len x.items)
expression_measured = record {
  at_least = λ p bytes x are s.
      let (t, joined, items, nests, end) = s in
      let parts = split_bytes bytes t (end_byte ∷ []) joined are in
      let some = placed_items.at_least p t x.items parts.0 items in
      omega (arith, some, joined_length bytes t (end_byte ∷ []) joined);
  one_has = λ p q bytes x are s.
      let (t, joined, items, nests, end) = s in
      let parts = split_bytes bytes t (end_byte ∷ []) joined are in
      let (short, ops, are_short, shortly, alike, size) = placed_items.one_has p q t x.items parts.0 items in (
        short ++ end_byte ∷ [],
        record { items = ops; end = q + length short },
        are_joined short (end_byte ∷ []) are_short parts.1,
        (short, refl, shortly, subst (Nests Sequence) (sym (same_roles ops x.items alike)) nests, refl),
        alike,
        omega (arith, length-append short (end_byte ∷ []), size),
      );
}

-- The same without the place of the last `end`.
pub constant_measured : Measured without_places constant.spells expression_len
constant_measured = map_measured (λ (x : Closed (Placed Operator)). x.items) (λ x. refl) (λ x y alike. alike) expression_measured
