-- The counts of a function are those at its index in the list of all counts.
use Rattle.std.proofs.Common.{◌≡◌, ℕ, ◌+◌, ◌-◌, ◌<◌, Bool, cond, map, List, [], ◌∷◌, ◌++◌, length, Option, Some, None, refl, sym, ap, subst, ◌∙◌, arith, inl, inr, zero, suc, add-zero}
use Rattle.std.specs.Prelude.{slice_get, option_map}
use Rattle.std.proofs.lemmas.Bool.{cases_lt, lt-ltb, le-ltb}
use Rattle.std.proofs.lemmas.Option.{slice_get-map}
use Rattle.std.proofs.lemmas.List.{length-map}
use Rattle.wasmprinter_spec.specs.Grammar.{Placed, ◌>>=◌}
use Rattle.wasmprinter_spec.specs.Repeated.{some_or}
use Rattle.wasmprinter_spec.specs.Types.{FuncType, all_types, signature_at}
use Rattle.wasmprinter_spec.specs.Placed.{PlacedModule, PlacedFunction, Body}
use Rattle.wasmprinter_spec.specs.Module.{groups_of, without_places, imported_types, func_import}
use Rattle.wasmprinter_spec.specs.HintsOfModule.{body_at}
use Rattle.wasmprinter_hidden.specs.HiddenNames.{local_count, block_count}
use Rattle.wasmprinter_hidden.specs.NameCounts.{declared_in, blocks_in, counts, function_counts}
use Rattle.wasmprinter_hidden.specs.declared.name_counts.FunctionCounts.{FunctionCounts}

-- ---- The items of one list and then another

get_before : {A : Type 0} (xs ys : List A) (k : ℕ) → k < length xs → slice_get (xs ++ ys) k ≡ slice_get xs k
get_before [] ys k lt = absurd (omega arith)
get_before (x ∷ xs) ys zero lt = refl
get_before (x ∷ xs) ys (suc k) lt = get_before xs ys k (omega arith)

get_after : {A : Type 0} (xs ys : List A) (k : ℕ) → slice_get (xs ++ ys) (length xs + k) ≡ slice_get ys k
get_after [] ys k = let same : 0 + k ≡ k = omega arith in ap (slice_get ys) same
get_after (x ∷ xs) ys k =
    let same : suc (length xs) + k ≡ suc (length xs + k) = omega arith in
    ap (slice_get (x ∷ (xs ++ ys))) same ∙ get_after xs ys k

-- ---- The counts of a function

module _ (sig : ℕ → Option FuncType) (xs : List ℕ) (fs : List PlacedFunction) where
  -- The counts of an imported function whose type has this index, and of a defined function.
  abbrev imported_counts : ℕ → FunctionCounts
  imported_counts i = counts (some_or (sig i) 0 (λ t. length t.params)) 0

  abbrev defined_counts : PlacedFunction → FunctionCounts
  defined_counts f = counts (some_or (sig f.type_index) 0 (λ t. length t.params) + declared_in f.body) (blocks_in f.body)

  abbrev all_counts : List FunctionCounts
  all_counts = map imported_counts xs ++ map defined_counts fs

  abbrev type_indices : List ℕ
  type_indices = xs ++ map (λ f. f.type_index) fs

  -- What is at index i: an imported function, a defined function, or neither.
  data IsAt (i : ℕ) : Type 0 where
    is_imported : (o : Option ℕ) → slice_get all_counts i ≡ option_map imported_counts o → slice_get type_indices i ≡ o
        → body_at (length xs) fs i ≡ None → IsAt i
    is_defined : (o : Option PlacedFunction) → slice_get all_counts i ≡ option_map defined_counts o
        → slice_get type_indices i ≡ option_map (λ f. f.type_index) o → body_at (length xs) fs i ≡ option_map (λ f. f.body) o → IsAt i

  at_import : (i : ℕ) → i < length xs → IsAt i
  at_import i lt =
      let within : i < length (map imported_counts xs) = omega (arith, length-map xs imported_counts) in
      is_imported (slice_get xs i)
      (get_before (map imported_counts xs) (map defined_counts fs) i within ∙ slice_get-map imported_counts xs i)
      (get_before xs (map (λ f. f.type_index) fs) i lt)
      (ap (λ (b : Bool). cond b None (option_map (λ f. f.body) (slice_get fs (i - length xs)))) (lt-ltb i (length xs) lt))

  at_function : (k : ℕ) → IsAt (length xs + k)
  at_function k =
      let same : length xs + k - length xs ≡ k = omega arith in
      is_defined (slice_get fs k)
      (ap (λ (n : ℕ). slice_get all_counts (n + k)) (sym (length-map xs imported_counts))
      ∙ get_after (map imported_counts xs) (map defined_counts fs) k ∙ slice_get-map defined_counts fs k)
      (get_after xs (map (λ f. f.type_index) fs) k ∙ slice_get-map (λ f. f.type_index) fs k)
      (ap (λ (b : Bool). cond b None (option_map (λ f. f.body) (slice_get fs (length xs + k - length xs)))) (le-ltb (length xs + k) (length xs) (omega arith))
      ∙ ap (λ (n : ℕ). option_map (λ f. f.body) (slice_get fs n)) same)

  is_at : (i : ℕ) → IsAt i
  is_at i =
      elim (cases_lt i (length xs)) [
        | inl lt ↦ at_import i lt
        | inr le ↦ let same : length xs + (i - length xs) ≡ i = omega arith in subst (λ (n : ℕ). IsAt n) same (at_function (i - length xs))
      ]

  -- The number of locals of the function at index i, by its type and its body.
  abbrev locals_by : Option ℕ → Option (Placed Body) → ℕ
  locals_by index body = some_or (index >>= sig) 0 (λ t. length t.params) + some_or body 0 declared_in

  locals_of_import : (o : Option ℕ) → locals_by o None ≡ some_or (option_map imported_counts o) 0 (λ c. c.locals)
  locals_of_import None = refl
  locals_of_import (Some i) = add-zero (some_or (sig i) 0 (λ t. length t.params))

  locals_of_function : (o : Option PlacedFunction) →
      locals_by (option_map (λ f. f.type_index) o) (option_map (λ f. f.body) o) ≡ some_or (option_map defined_counts o) 0 (λ c. c.locals)
  locals_of_function None = refl
  locals_of_function (Some f) = refl

  blocks_of_import : (o : Option ℕ) → 0 ≡ some_or (option_map imported_counts o) 0 (λ c. c.labels)
  blocks_of_import None = refl
  blocks_of_import (Some i) = refl

  blocks_of_function : (o : Option PlacedFunction) →
      some_or (option_map (λ f. f.body) o) 0 blocks_in ≡ some_or (option_map defined_counts o) 0 (λ c. c.labels)
  blocks_of_function None = refl
  blocks_of_function (Some f) = refl

  locals_at : (i : ℕ) → locals_by (slice_get type_indices i) (body_at (length xs) fs i) ≡ some_or (slice_get all_counts i) 0 (λ c. c.locals)
  locals_at i =
      elim (is_at i) [
        | is_imported o found index body ↦
            ap (λ (x : Option ℕ). locals_by x (body_at (length xs) fs i)) index ∙ ap (λ (b : Option (Placed Body)). locals_by o b) body
            ∙ locals_of_import o ∙ ap (λ (c : Option FunctionCounts). some_or c 0 (λ x. x.locals)) (sym found)
        | is_defined o found index body ↦
            ap (λ (x : Option ℕ). locals_by x (body_at (length xs) fs i)) index ∙ ap (λ (b : Option (Placed Body)). locals_by (option_map (λ f. f.type_index) o) b) body
            ∙ locals_of_function o ∙ ap (λ (c : Option FunctionCounts). some_or c 0 (λ x. x.locals)) (sym found)
      ]

  blocks_at : (i : ℕ) → some_or (body_at (length xs) fs i) 0 blocks_in ≡ some_or (slice_get all_counts i) 0 (λ c. c.labels)
  blocks_at i =
      elim (is_at i) [
        | is_imported o found index body ↦
            ap (λ (b : Option (Placed Body)). some_or b 0 blocks_in) body ∙ blocks_of_import o
            ∙ ap (λ (c : Option FunctionCounts). some_or c 0 (λ x. x.labels)) (sym found)
        | is_defined o found index body ↦
            ap (λ (b : Option (Placed Body)). some_or b 0 blocks_in) body ∙ blocks_of_function o
            ∙ ap (λ (c : Option FunctionCounts). some_or c 0 (λ x. x.labels)) (sym found)
      ]

module _ (m : PlacedModule) (i : ℕ) (all : List FunctionCounts) (are : all ≡ function_counts m) where
  pub local_count_is : local_count m i ≡ some_or (slice_get all i) 0 (λ c. c.locals)
  local_count_is =
      locals_at (signature_at (all_types (groups_of m.types))) (imported_types func_import (without_places m.imports)) m.functions i
      ∙ ap (λ (cs : List FunctionCounts). some_or (slice_get cs i) 0 (λ c. c.locals)) (sym are)

  pub block_count_is : block_count m i ≡ some_or (slice_get all i) 0 (λ c. c.labels)
  block_count_is =
      blocks_at (signature_at (all_types (groups_of m.types))) (imported_types func_import (without_places m.imports)) m.functions i
      ∙ ap (λ (cs : List FunctionCounts). some_or (slice_get cs i) 0 (λ c. c.labels)) (sym are)
