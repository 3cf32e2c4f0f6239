-- The labels that are open after an operator are the same for the layout and for the reader.
use Rattle.std.proofs.Common.{◌≡◌, ℕ, suc, ◌<◌, ◌≤◌, ◌^◌, true, List, [], ◌∷◌, length, refl, ap, arith}
use Rattle.std.specs.List.{AllByRecursion}
use Rattle.wasmprinter_spec.specs.Operator.{Immediates}
use Rattle.wasmprinter_spec.specs.Row.{Role, Opens, OpensIf, OpensTry, Delegates, Ends, Shape}
use Rattle.wasmprinter_spec.specs.Labels.{Label, LabelNaming, labels_after, labels_outside}
use Rattle.wasmprinter_spec.specs.Names.{IsNamedIfAny}
use Rattle.wasmprinter_spec.specs.IndexSpaces.{Context}
use Rattle.wasmprinter_spec.specs.Layout.Operators.{Setting}
use Rattle.wasmprinter_spec.specs.Text.Operators.{id_of, labels_in_sight, open_after}
use Rattle.wasmprinter_spec.specs.Shapes.{has_shape}
use Rattle.wasmprinter_laws.proofs.Tabled.{fits}
use Rattle.wasmprinter_laws.proofs.Operators.Labels.{ids, Opened}
use Rattle.wasmprinter_laws.proofs.Operators.Immediates.{immediate_items, id_of-opening}

-- ---- the labels that immediates may mean

pub outside_ids : (r : Role) (xs : List Label) → labels_in_sight r (ids xs) ≡ ids (labels_outside r xs)
outside_ids Delegates [] = refl
outside_ids Delegates (x ∷ xs) = refl
outside_ids _ xs = refl

pub outside_opened : (naming : LabelNaming) (r : Role) (xs : List Label) → Opened naming xs → Opened naming (labels_outside r xs)
outside_opened naming Delegates [] o = o
outside_opened naming Delegates (x ∷ xs) (own, fits, others) = others
outside_opened naming _ xs o = o

pub outside_labels : (r : Role) (xs : List Label) → AllByRecursion IsNamedIfAny xs → AllByRecursion IsNamedIfAny (labels_outside r xs)
outside_labels Delegates [] h = h
outside_labels Delegates (x ∷ xs) h = h.1
outside_labels _ xs h = h

-- ---- the labels after an operator

pub after_opened : (naming : LabelNaming) (n : ℕ) (r : Role) (xs : List Label) → length xs < 2 ^ 64 → Opened naming xs →
    Opened naming (labels_after r (naming n (length xs)) xs)
after_opened naming n Opens xs small o = ((n, refl), small, o)
after_opened naming n OpensIf xs small o = ((n, refl), small, o)
after_opened naming n OpensTry xs small o = ((n, refl), small, o)
after_opened naming n Delegates [] small o = o
after_opened naming n Delegates (x ∷ xs) small (own, fits, others) = others
after_opened naming n Ends [] small o = o
after_opened naming n Ends (x ∷ xs) small (own, fits, others) = others
after_opened naming n _ xs small o = o

pub after_labels : (r : Role) (own : Label) (xs : List Label) → IsNamedIfAny own → AllByRecursion IsNamedIfAny xs → AllByRecursion IsNamedIfAny (labels_after r own xs)
after_labels Opens own xs k h = (k, h)
after_labels OpensIf own xs k h = (k, h)
after_labels OpensTry own xs k h = (k, h)
after_labels Delegates own [] k h = h
after_labels Delegates own (x ∷ xs) k h = h.1
after_labels Ends own [] k h = h
after_labels Ends own (x ∷ xs) k h = h.1
after_labels _ own xs k h = h

-- An operator opens at most one block.
pub after_length : (r : Role) (own : Label) (xs : List Label) → length (labels_after r own xs) ≤ suc (length xs)
after_length Opens own xs = omega arith
after_length OpensIf own xs = omega arith
after_length OpensTry own xs = omega arith
after_length Delegates own [] = omega arith
after_length Delegates own (x ∷ xs) = omega arith
after_length Ends own [] = omega arith
after_length Ends own (x ∷ xs) = omega arith
after_length _ own xs = omega arith

pub after_ids : (s : Setting) (c : Context) (inner ys : List Label) (r : Role) (t : Shape) (own : Label) (xs : List Label) (i : Immediates) →
    fits r t ≡ true → has_shape t i ≡ true →
    open_after r (id_of (immediate_items s inner ys own t i)) (ids xs) ≡ ids (labels_after r own xs)
after_ids s c inner ys Opens t own xs i f k = ap (λ x. x ∷ ids xs) (id_of-opening s c inner ys own t i f k)
after_ids s c inner ys OpensIf t own xs i f k = ap (λ x. x ∷ ids xs) (id_of-opening s c inner ys own t i f k)
after_ids s c inner ys OpensTry t own xs i f k = ap (λ x. x ∷ ids xs) (id_of-opening s c inner ys own t i f k)
after_ids s c inner ys Delegates t own [] i f k = refl
after_ids s c inner ys Delegates t own (x ∷ xs) i f k = refl
after_ids s c inner ys Ends t own [] i f k = refl
after_ids s c inner ys Ends t own (x ∷ xs) i f k = refl
after_ids s c inner ys _ t own xs i f k = refl
