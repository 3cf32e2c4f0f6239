-- Labels in a layout: which name a label has, and which name an operator may use for it. The standard defines the
-- meaning of a label's identifier (section 6.5, "Labels"); which labels are printed by their identifiers is this
-- printer's own.
use Rattle.std.specs.Prelude.{◌≡◌, ℕ, zero, suc, ◌<◌, ◌^◌, List, [], ◌∷◌, Bool, true, false, ◌||◌, bytes_eq, Option, Some, None}
use Rattle.wasmprinter_spec.specs.Row.{Role, Opens, OpensIf, OpensTry, Delegates, Ends}

-- The identifier of an item or a label: the name that it was given, or None if its identifier is synthesized, and the
-- characters after the dollar sign.
pub record Named : Type 0 where
  pub given : Option (List ℕ)
  pub content : List ℕ

-- A label: its identifier, or `None` if it has none.
abbrev pub Label : Type 0
Label = Option Named

-- `naming i d` is the identifier of the block that is opened as number i, with d blocks around it.
abbrev pub LabelNaming : Type 0
LabelNaming = ℕ → ℕ → Label

-- There are two names, and they are equal.
abbrev pub same_name : Option (List ℕ) → Option (List ℕ) → Bool
same_name (Some s) (Some t) = bytes_eq s t
same_name _ _ = false

-- The label has the name that n was given.
abbrev pub hides : Named → Label → Bool
hides n None = false
hides n (Some m) = same_name m.given n.given

-- One of the labels has the name that n was given.
abbrev pub is_hidden : Named → List Label → Bool
is_hidden n [] = false
is_hidden n (x ∷ xs) = hides n x || is_hidden n xs

-- If two labels have the same content and one may be nested in the other, they were given the same name.
abbrev pub AreLabelsApart : LabelNaming → Type 0
AreLabelsApart naming =
    (i j d e : ℕ) (outer inner : Named) → d < e → e < 2 ^ 64 → naming i d ≡ Some outer → naming j e ≡ Some inner →
    inner.content ≡ outer.content → same_name inner.given outer.given ≡ true

-- The meaning of a label index: the label of an enclosing block, with the labels nested further in; the body's own
-- label; or nothing.
pub data Target : Type 0 where
  Around : Label → List Label → Target
  Own : Target
  Nothing : Target

-- The meaning of a label index, seen from inside one more block. The label x of that block joins those that are
-- nested further in than the meant block.
abbrev pub after : Label → Target → Target
after x (Around y further) = Around y (x ∷ further)
after x Own = Own
after x Nothing = Nothing

-- The meaning of the label index where these labels are open, the innermost first.
abbrev pub target : ℕ → List Label → Target
target zero [] = Own
target (suc l) [] = Nothing
target zero (x ∷ xs) = Around x []
target (suc l) (x ∷ xs) = after x (target l xs)

-- The data of the open labels after an operator, the innermost first. x is that of the label that the operator
-- opens.
abbrev pub labels_after : {A : Type 0} → Role → A → List A → List A
labels_after Opens x xs = x ∷ xs
labels_after OpensIf x xs = x ∷ xs
labels_after OpensTry x xs = x ∷ xs
labels_after Delegates x (y ∷ xs) = xs
labels_after Ends x (y ∷ xs) = xs
labels_after _ x xs = xs

-- The number of blocks that were opened, after one more operator.
abbrev pub count_after : Role → ℕ → ℕ
count_after Opens n = suc n
count_after OpensIf n = suc n
count_after OpensTry n = suc n
count_after _ n = n

-- The open labels from which an operator's label immediates count. For `delegate` these are all labels except that of
-- its own `try`.
abbrev pub labels_outside : Role → List Label → List Label
labels_outside Delegates (x ∷ xs) = xs
labels_outside _ xs = xs

-- The labels that an operator's immediates can't refer to, but that still shadow outer labels with the same names. For
-- `delegate` this is the label of its own `try`; other operators have none.
abbrev pub labels_inside : Role → List Label → List Label
labels_inside Delegates (x ∷ xs) = x ∷ []
labels_inside _ xs = []
