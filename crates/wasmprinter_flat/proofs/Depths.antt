-- The number of open blocks.
use Rattle.std.specs.Prelude.{ℕ, suc, ◌≤◌, List, [], ◌∷◌, length}
use Rattle.std.proofs.Common.{arith}
use Rattle.wasmprinter_spec.specs.Row.{Role, Plain, Opens, OpensIf, OpensTry, Else, Catches, CatchesAll, Delegates, Ends}
use Rattle.wasmprinter_spec.specs.Labels.{Label, labels_after, count_after}

-- An operator opens at most one block.
pub after-length : (r : Role) (x : Label) (xs : List Label) → length (labels_after r x xs) ≤ suc (length xs)
after-length Plain x xs = omega arith
after-length Opens x xs = omega arith
after-length OpensIf x xs = omega arith
after-length OpensTry x xs = omega arith
after-length Else x xs = omega arith
after-length Catches x xs = omega arith
after-length CatchesAll x xs = omega arith
after-length Delegates x [] = omega arith
after-length Delegates x (y ∷ ys) = omega arith
after-length Ends x [] = omega arith
after-length Ends x (y ∷ ys) = omega arith

pub after-count : (r : Role) (n : ℕ) → count_after r n ≤ suc n
after-count Plain n = omega arith
after-count Opens n = omega arith
after-count OpensIf n = omega arith
after-count OpensTry n = omega arith
after-count Else n = omega arith
after-count Catches n = omega arith
after-count CatchesAll n = omega arith
after-count Delegates n = omega arith
after-count Ends n = omega arith
