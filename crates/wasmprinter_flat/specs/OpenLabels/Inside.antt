-- The invariant between two operators.
use Rattle.std.specs.Prelude.{◌≡◌, ℕ, zero, suc, ◌<◌, ◌≤◌, ◌==◌, ◌&&◌, List, [], ◌∷◌, length, map, Option, Some, None, if◌then◌else◌, slice_get, Contains}
use Rattle.std.specs.List.{AllByRecursion}
use Rattle.wasmprinter_spec.specs.Grammar.{◌>>=◌}
use Rattle.wasmprinter_custom.specs.Views.{NamedItem, name_view}
use Rattle.wasmprinter_custom.specs.Labels.{NamedLabel, labels_in, Ascend, HaveLabelIdentifiers}
use Rattle.wasmprinter_custom.specs.LabelViews.{label_view}
use Rattle.wasmprinter_flat.specs.OpenLabels.Stack.{Block, Stack, depths, AreBelow}
use Rattle.wasmprinter_flat.specs.OpenLabels.Numbers.{AreNumbered}
use Rattle.wasmprinter_flat.specs.declared.open_labels.label_numbering.NumberedLabel.{NumberedLabel}

-- ---- The cursor into the labels with names

-- The label is that of a block before block n of function f.
abbrev pub IsPast : ℕ → ℕ → NamedLabel → Type 0
IsPast f n x = (x.function ≤ f) × (x.function ≡ f → x.number < n)

-- The first of these labels, if there is one, is that of block n of function f or of a later block.
abbrev pub IsAhead : ℕ → ℕ → List NamedLabel → Type 0
IsAhead f n [] = Unit {0}
IsAhead f n (x ∷ xs) = (f ≤ x.function) × (f ≡ x.function → n ≤ x.number)

-- The first k labels are those of blocks before block n of function f, and the next label is not.
abbrev pub IsCursor : ℕ → ℕ → ℕ → List NamedLabel → Type 0
IsCursor f n zero xs = IsAhead f n xs
IsCursor f n (suc k) [] = ⊥
IsCursor f n (suc k) (x ∷ xs) = IsPast f n x × IsCursor f n k xs

-- The label with index k, if it is that of block n of function f.
abbrev pub label_of : List NumberedLabel → ℕ → ℕ → ℕ → Option NumberedLabel
label_of xs k f n = slice_get xs k >>= λ x. if x.label.function == f && x.label.number == n then Some x else None

-- ---- Blocks and labels

-- One of the labels is that of the block.
pub record IsOf (xs : List NumberedLabel) (b : Block) : Type 0 where
  pub label : NumberedLabel
  pub is_one : Contains xs label
  pub name_number : b.name_number ≡ label.name_number
  pub name : b.name ≡ name_view label.label.name

-- The invariant. `named` are the names of the module, `xs` the labels that have names, and `next` the number of
-- those that were passed. `opened` is the number of blocks opened in the function, `depth` the number of open
-- blocks, and `stack` has the open blocks whose labels have names.
pub record IsKept (named : List NamedItem) (xs : List NumberedLabel) (next function opened depth : ℕ) (stack : Stack) : Type 0 where
  pub lists : map (λ x. label_view x.label) xs ≡ labels_in named
  pub ascend : Ascend (labels_in named)
  pub identifiers_of_labels : HaveLabelIdentifiers named
  pub numbered : AreNumbered xs
  pub cursor : IsCursor function opened next (labels_in named)
  pub limit : stack.limit ≡ length xs
  pub few : length stack.blocks ≤ next
  pub blocks : AllByRecursion (IsOf xs) stack.blocks
  pub below : AreBelow depth (depths stack.blocks)
  pub shallow : depth ≤ opened
