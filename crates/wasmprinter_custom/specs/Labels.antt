-- The names of labels in the store.
use Rattle.std.specs.Prelude.{◌≡◌, ℕ, ◌<◌, ◌≤◌, List, [], ◌∷◌, Bool, ◌==◌, ◌&&◌, Option, Some, None, if◌then◌else◌}
use Rattle.std.specs.List.{AllByRecursion}
use Rattle.wasmprinter_spec.specs.Labels.{Named}
use Rattle.wasmprinter_spec.specs.LabelNames.{label_named}
use Rattle.wasmprinter_spec.specs.Names.Section.{label_subsection}
use Rattle.wasmprinter_custom.specs.Views.{NamedItem, name_at}

-- A label with a name: its function, its number in the function, and its name.
pub record NamedLabel : Type 0 where
  pub function : ℕ
  pub number : ℕ
  pub name : Named

-- The labels among named items, in order.
abbrev pub labels_in : List NamedItem → List NamedLabel
labels_in [] = []
labels_in (x ∷ xs) =
    if x.subsection == label_subsection then record { function = x.outer; number = x.index; name = x.name } ∷ labels_in xs
    else labels_in xs

-- The name of a label, looked up among the labels that have names.
abbrev pub label_at : List NamedLabel → ℕ → ℕ → Option Named
label_at [] f n = None
label_at (x ∷ xs) f n = if x.function == f && x.number == n then Some x.name else label_at xs f n

-- The order of labels: by function, then by number. No label is before itself.
abbrev pub IsBefore : NamedLabel → NamedLabel → Type 0
IsBefore x y = (x.function ≤ y.function) × (x.function ≡ y.function → x.number < y.number)

-- The labels are in ascending order, each once.
abbrev pub Ascend : List NamedLabel → Type 0
Ascend [] = Unit {0}
Ascend (x ∷ xs) = AllByRecursion (IsBefore x) xs × Ascend xs

-- The identifier of each label with a name is the one that `label_named` makes of its number and this name.
abbrev pub HaveLabelIdentifiers : List NamedItem → Type 0
HaveLabelIdentifiers items =
    (f n : ℕ) (x : Named) → name_at items label_subsection f n ≡ Some x → (synthesizes : Bool) (d : ℕ) →
    label_named synthesizes n d x.given ≡ Some x
