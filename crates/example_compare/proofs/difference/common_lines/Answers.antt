use Rattle.std.proofs.Common.{◌≡◌, ◌∙◌, ℕ, Bool, arith, List, [], ◌∷◌, refl, rules, tests, bytes_eq}
use Rattle.std.specs.List.{common_prefix_len, prefix_len, zip}
use Rattle.std.specs.Str.Lines.{lines}
use Rattle.std.proofs.lemmas.Iterator.{YieldsList-from_zip}
use Rattle.std.proofs.lemmas.Iterator.Consumers.{YieldsList-at, count_from_yields_List}
use Rattle.std.proofs.lemmas.Iterator.Search.{YieldsList-from_take_while}
use Rattle.std.proofs.lemmas.Iterator.Splits.{YieldsList-from_lines}
use Rattle.std.proofs.lemmas.List.Folds.{length-prefix_len}
use Rattle.example_compare.proofs.difference.common_lines.Goals as goal

-- The test of a pair of lines.
abbrev are_equal : List ℕ × List ℕ → Bool
are_equal pair = bytes_eq pair.0 pair.1

zipped : (xs ys : List (List ℕ)) → prefix_len are_equal (zip xs ys) ≡ common_prefix_len bytes_eq xs ys
zipped [] ys = refl
zipped (x ∷ xs) [] = refl
zipped (x ∷ xs) (y ∷ ys) = grind (arith, zipped xs ys)

pub returns : goal.returns
returns c =
    let left = lines c.args.left.now in
    let right = lines c.args.right.now in
    let left_lines = YieldsList-at c.zip.ensures.first (YieldsList-from_lines _ c.lines.ensures.rest) in
    let right_lines = YieldsList-at c.zip.ensures.second (YieldsList-from_lines _ c.lines-2.ensures.rest) in
    let pairs = YieldsList-at c.take_while.ensures.source (YieldsList-from_zip left_lines right_lines) in
    count_from_yields_List c.take_while.result c.count.result c.count.ensures.ran
    (YieldsList-from_take_while _ are_equal pairs c.take_while.ensures.closure c.take_while.ensures.done (λ x b q k. search (rules, tests)))
    ∙ length-prefix_len are_equal (zip left right) ∙ zipped left right
