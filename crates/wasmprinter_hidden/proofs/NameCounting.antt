-- Counting what a name section can name, item by item.
use Rattle.std.proofs.Common.{◌≡◌, ℕ, suc, ◌+◌, ◌<◌, ◌≤◌, Bool, true, false, cond, get_or, drop, map, List, [], ◌∷◌, ◌++◌, length, Option, Some, None, refl, sym, ap, ◌∙◌, length-append, append_assoc, append-nil}
use Rattle.std.specs.Prelude.{slice_get}
use Rattle.std.specs.List.{filter}
use Rattle.std.proofs.lemmas.List.{at_drop_more, drop_all, length-map}
use Rattle.wasmprinter_spec.specs.Grammar.{Placed}
use Rattle.wasmprinter_spec.specs.Types.{ExternType, all_types}
use Rattle.wasmprinter_spec.specs.Row.{Role}
use Rattle.wasmprinter_spec.specs.Table.{role_of}
use Rattle.wasmprinter_spec.specs.Operator.{Operator}
use Rattle.wasmprinter_spec.specs.Instructions.{roles, role_at}
use Rattle.wasmprinter_spec.specs.Placed.{PlacedModule, PlacedFunction, TypeGroup, Import, LocalEntry}
use Rattle.wasmprinter_spec.specs.Module.{groups_of, without_places, imported_types, func_import, with_first_if_any}
use Rattle.wasmprinter_ops.specs.Operators.{pairs}
use Rattle.wasmprinter_hidden.specs.HiddenNames.{sum, opens}
use Rattle.wasmprinter_hidden.specs.NameCounts.{params_of, declared_in, blocks_in, counts}
use Rattle.wasmprinter_hidden.specs.declared.name_counts.FunctionCounts.{FunctionCounts}
use Rattle.wasmprinter_hidden.proofs.FunctionParts.{functions_drop}

-- ---- Locals

-- The number of locals in these groups.
abbrev pub locals_in : List (Placed LocalEntry) → ℕ
locals_in es = sum (map (λ e. e.value.count) es)

-- ---- Blocks

-- The number of these operators that open a block.
abbrev pub opened_by : List (Placed Operator) → ℕ
opened_by os = length (filter opens (roles os))

-- The roles of operators as the program's iterator returns them.
abbrev roles_of_pairs : List (ℕ × Operator) → List Role
roles_of_pairs xs = map (λ x. role_of x.1.opcode) xs

roles-pairs : (os : List (Placed Operator)) → roles os ≡ roles_of_pairs (pairs os)
roles-pairs [] = refl
roles-pairs (o ∷ os) = ap (λ (rs : List Role). role_at o ∷ rs) (roles-pairs os)

module _ (os rest : List (Placed Operator)) (x : ℕ × Operator) (step : pairs os ≡ x ∷ pairs rest) where
  opened_next : opened_by os ≡ length (cond (opens (role_of x.1.opcode)) (role_of x.1.opcode ∷ filter opens (roles rest)) (filter opens (roles rest)))
  opened_next =
      ap (λ (rs : List Role). length (filter opens rs)) (roles-pairs os ∙ ap roles_of_pairs step)
      ∙ ap (λ (rs : List Role). length (filter opens (role_of x.1.opcode ∷ rs))) (sym (roles-pairs rest))

  pub opened_one : opens (role_of x.1.opcode) ≡ true → opened_by os ≡ suc (opened_by rest)
  opened_one t = opened_next ∙ ap (λ (b : Bool). length (cond b (role_of x.1.opcode ∷ filter opens (roles rest)) (filter opens (roles rest)))) t

  pub opened_none : opens (role_of x.1.opcode) ≡ false → opened_by os ≡ opened_by rest
  opened_none t = opened_next ∙ ap (λ (b : Bool). length (cond b (role_of x.1.opcode ∷ filter opens (roles rest)) (filter opens (roles rest)))) t

  pub operators_fewer : length os ≡ suc (length rest)
  operators_fewer = sym (length-map os (λ o. (o.place, o.value))) ∙ ap length step ∙ ap suc (length-map rest (λ o. (o.place, o.value)))

-- ---- Types

-- The number of types in the groups from number i on.
abbrev pub types_from : List (Placed TypeGroup) → ℕ → ℕ
types_from gs i = length (all_types (groups_of (drop i gs)))

-- The types of the next group.
pub types_more : (gs : List (Placed TypeGroup)) (i : ℕ) (g : Placed TypeGroup) → i < length gs → g ≡ get_or gs i g →
    types_from gs i ≡ length g.value.types + types_from gs (i + 1)
types_more gs i g lt is =
    at_drop_more (λ (xs : List (Placed TypeGroup)). length (all_types (groups_of xs))) gs i g lt
    ∙ ap (λ (x : Placed TypeGroup). length (all_types (groups_of (x ∷ drop (i + 1) gs)))) (sym is)
    ∙ length-append g.value.types (all_types (groups_of (drop (i + 1) gs)))

pub types_none : (gs : List (Placed TypeGroup)) (i : ℕ) → length gs ≤ i → types_from gs i ≡ 0
types_none gs i le = ap (λ (xs : List (Placed TypeGroup)). length (all_types (groups_of xs))) (drop_all i gs le)

-- ---- Imported functions

module _ (m : PlacedModule) where
  -- The counts of the functions among these imports.
  abbrev pub counts_of_imports : List (Placed Import) → List FunctionCounts
  counts_of_imports is = map (λ i. counts (params_of m i) 0) (imported_types func_import (without_places is))

  -- The counts `all` are those that were appended, and those of the imports from number i on.
  abbrev pub ImportsLeft : List (Placed Import) → ℕ → List FunctionCounts → List FunctionCounts → Type 0
  ImportsLeft is i now all = now ++ counts_of_imports (drop i is) ≡ all

  module _ (is : List (Placed Import)) (i : ℕ) (x : Placed Import) (lt : i < length is) (same : x ≡ get_or is i x) where
    next_import : counts_of_imports (drop i is) ≡ counts_of_imports (x ∷ drop (i + 1) is)
    next_import = at_drop_more counts_of_imports is i x lt ∙ ap (λ (y : Placed Import). counts_of_imports (y ∷ drop (i + 1) is)) (sym same)

    pub imports_one : (t : ExternType) (n : ℕ) (now all : List FunctionCounts) → t ≡ x.value.type → func_import t ≡ Some n →
        ImportsLeft is i now all → ImportsLeft is (i + 1) (now ++ counts (params_of m n) 0 ∷ []) all
    imports_one t n now all e s left =
        append_assoc now (counts (params_of m n) 0 ∷ []) (counts_of_imports (drop (i + 1) is))
        ∙ ap (λ (o : Option ℕ). now ++ map (λ j. counts (params_of m j) 0) (with_first_if_any o (imported_types func_import (without_places (drop (i + 1) is))))) (sym s ∙ ap func_import e)
        ∙ ap (λ (ys : List FunctionCounts). now ++ ys) (sym next_import) ∙ left

    pub imports_other : (t : ExternType) (now all : List FunctionCounts) → t ≡ x.value.type → func_import t ≡ None →
        ImportsLeft is i now all → ImportsLeft is (i + 1) now all
    imports_other t now all e s left =
        ap (λ (o : Option ℕ). now ++ map (λ j. counts (params_of m j) 0) (with_first_if_any o (imported_types func_import (without_places (drop (i + 1) is))))) (sym s ∙ ap func_import e)
        ∙ ap (λ (ys : List FunctionCounts). now ++ ys) (sym next_import) ∙ left

  pub imports_none : (is : List (Placed Import)) (i : ℕ) (now all : List FunctionCounts) → length is ≤ i → ImportsLeft is i now all → now ≡ all
  imports_none is i now all le left =
      sym (append-nil now) ∙ ap (λ (ys : List (Placed Import)). now ++ counts_of_imports ys) (sym (drop_all i is le)) ∙ left

  -- ---- Defined functions

  -- The counts of a function that the module defines.
  abbrev pub counts_of_function : PlacedFunction → FunctionCounts
  counts_of_function f = counts (params_of m f.type_index + declared_in f.body) (blocks_in f.body)

  -- The counts `all` are those that were appended, and those of the functions from this number on.
  abbrev pub FunctionsLeft : List PlacedFunction → ℕ → List FunctionCounts → List FunctionCounts → Type 0
  FunctionsLeft fs i now all = now ++ map counts_of_function (drop i fs) ≡ all

  pub functions_more : (fs : List PlacedFunction) (i : ℕ) (f : PlacedFunction) (params declared blocks : ℕ) (now all : List FunctionCounts) →
      slice_get fs i ≡ Some f → params ≡ params_of m f.type_index → declared ≡ declared_in f.body → blocks ≡ blocks_in f.body →
      FunctionsLeft fs i now all → FunctionsLeft fs (i + 1) (now ++ counts (params + declared) blocks ∷ []) all
  functions_more fs i f params declared blocks now all found is_params is_declared is_blocks left =
      let is : counts (params + declared) blocks ≡ counts_of_function f = cc in
      append_assoc now (counts (params + declared) blocks ∷ []) (map counts_of_function (drop (i + 1) fs))
      ∙ ap (λ (d : FunctionCounts). now ++ d ∷ map counts_of_function (drop (i + 1) fs)) is
      ∙ ap (λ (gs : List PlacedFunction). now ++ map counts_of_function gs) (sym (functions_drop fs i f found)) ∙ left

  pub functions_none : (fs : List PlacedFunction) (i : ℕ) (now all : List FunctionCounts) → length fs ≤ i → FunctionsLeft fs i now all → now ≡ all
  functions_none fs i now all le left =
      sym (append-nil now) ∙ ap (λ (gs : List PlacedFunction). now ++ map counts_of_function gs) (sym (drop_all i fs le)) ∙ left
