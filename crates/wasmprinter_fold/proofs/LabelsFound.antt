-- Looking up a label in a list that has the innermost block last.
use Rattle.std.proofs.Common.{◌≡◌, ℕ, zero, suc, ◌-◌, ◌<◌, get_or, List, [], ◌∷◌, length, reverse, Option, None, refl, sym, ap, ◌∙◌, arith}
use Rattle.std.proofs.lemmas.List.{get_or-reverse, length-reverse}
use Rattle.wasmprinter_spec.specs.Folding.Arities.{label_count}

within : (xs : List (Option ℕ)) (own : Option ℕ) (l : ℕ) (d : Option ℕ) → l < length xs → label_count xs own l ≡ get_or xs l d
within [] own l d lt = absurd (omega arith)
within (x ∷ xs) own zero d lt = refl
within (x ∷ xs) own (suc l) d lt = within xs own l d (omega arith)

last : (xs : List (Option ℕ)) (own : Option ℕ) (l : ℕ) → l ≡ length xs → label_count xs own l ≡ own
last [] own zero e = refl
last [] own (suc l) e = absurd (omega arith)
last (x ∷ xs) own zero e = absurd (omega arith)
last (x ∷ xs) own (suc l) e = last xs own l (omega arith)

past : (xs : List (Option ℕ)) (own : Option ℕ) (l : ℕ) → length xs < l → label_count xs own l ≡ None
past [] own zero lt = absurd (omega arith)
past [] own (suc l) lt = refl
past (x ∷ xs) own zero lt = absurd (omega arith)
past (x ∷ xs) own (suc l) lt = past xs own l (omega arith)

module _ (xs : List (Option ℕ)) (own : Option ℕ) (k l : ℕ) (all : k ≡ length xs) where
  -- If the label is below the number k of open blocks, its count is that of its block.
  pub found_block : (x : Option ℕ) → l < k → x ≡ get_or xs (k - 1 - l) x → x ≡ label_count (reverse xs) own l
  found_block x lt is =
      is ∙ ap (λ n. get_or xs (n - 1 - l) x) all ∙ sym (get_or-reverse xs l x (omega (arith, all, lt)))
      ∙ sym (within (reverse xs) own l x (omega (arith, all, lt, length-reverse xs)))

  -- If the label is k, its count is that of the body.
  pub found_body : l ≡ k → own ≡ label_count (reverse xs) own l
  found_body e = sym (last (reverse xs) own l (e ∙ all ∙ sym (length-reverse xs)))

  -- If the label is above k, it has no count.
  pub found_nothing : k < l → None ≡ label_count (reverse xs) own l
  found_nothing lt = sym (past (reverse xs) own l (omega (arith, all, lt, length-reverse xs)))
