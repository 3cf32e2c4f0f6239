-- If a module can be folded, no list of operators that is printed contains `try`, `catch`, `catch_all` or `delegate`.
use Rattle.std.proofs.Common.{◌≡◌, Bool, true, false, cond, List, [], ◌∷◌, ◌++◌, map, Option, Some, None, refl, subst}
use Rattle.std.specs.List.{AllByRecursion, flat_map}
use Rattle.wasmprinter_spec.specs.Table.{role_of}
use Rattle.wasmprinter_spec.specs.Instructions.{roles}
use Rattle.wasmprinter_spec.specs.Placed.{PlacedModule}
use Rattle.wasmprinter_spec.specs.Options.{Options}
use Rattle.wasmprinter_spec.specs.Layout.Declarations.{Folding}
use Rattle.wasmprinter_spec.specs.Folding.Code.{is_try, AreWithoutTry}
use Rattle.wasmprinter_spec.specs.Folding.Refusals.{Operators, init_list, element_lists, data_lists, lists_before_code, body_lists, lists_after_code, printed_lists, legacy_places_in, legacy_places}
use Rattle.wasmprinter_spec.proofs.Each.{all_parts}
use Rattle.wasmprinter_laws.proofs.Each.{nothing_joined, all_flat, all_mapped}
use Rattle.wasmprinter_laws.proofs.Folded.Lists.{is_folding, AreFoldable}

-- ---- a list without places of `try`, `catch`, `catch_all` and `delegate` contains no operator of it

without_try : (os : Operators) → legacy_places_in os ≡ [] → AreWithoutTry (roles os)
without_try [] e = tt
without_try (o ∷ os) e = by (is_try (role_of o.value.opcode)) refl e (without_try os)
  where
    by : (t : Bool) → is_try (role_of o.value.opcode) ≡ t → cond t (o.place ∷ legacy_places_in os) (legacy_places_in os) ≡ [] → (legacy_places_in os ≡ [] → AreWithoutTry (roles os)) → AreWithoutTry (roles (o ∷ os))
    by true k f more = absurd cc
    by false k f more = (k, more f)

list_foldable : (x : Option Folding) (os : Operators) → (is_folding x ≡ true → legacy_places_in os ≡ []) → AreFoldable x os
list_foldable None os h = tt
list_foldable (Some f) os h = without_try os (h refl)

lists_foldable : (x : Option Folding) (ls : List Operators) → (is_folding x ≡ true → flat_map legacy_places_in ls ≡ []) → AllByRecursion (AreFoldable x) ls
lists_foldable x [] h = tt
lists_foldable x (os ∷ ls) h =
    let parts = λ (e : is_folding x ≡ true). nothing_joined (legacy_places_in os) (flat_map legacy_places_in ls) (h e) in
    (list_foldable x os (λ e. (parts e).0), lists_foldable x ls (λ e. (parts e).1))

-- ---- the lists of a module

module _ (folding : Option Folding) (m : PlacedModule) where
  abbrev pub Foldable : Operators → Type 0
  Foldable os = AreFoldable folding os

  abbrev pub AllFoldable : List Operators → Type 0
  AllFoldable ls = AllByRecursion Foldable ls

  pub record CanFold : Type 0 where
    pub tables : AllByRecursion (λ t. AllFoldable (init_list t)) m.tables
    pub globals : AllByRecursion (λ g. Foldable g.value.init) m.globals
    pub elements : AllByRecursion (λ e. AllFoldable (element_lists false e)) m.elements
    pub functions : AllByRecursion (λ f. Foldable f.body.value.operators) m.functions
    pub data_segments : AllByRecursion (λ d. AllFoldable (data_lists d)) m.data_segments

  pub can_fold : (o : Options) → o.skeleton ≡ false → (is_folding folding ≡ true → legacy_places o m ≡ []) → CanFold
  can_fold o whole h =
      let tables : List Operators = flat_map init_list m.tables in
      let globals : List Operators = map (λ g. g.value.init) m.globals in
      let elements : List Operators = flat_map (element_lists o.skeleton) m.elements in
      let last = all_parts Foldable (lists_before_code o m ++ body_lists o m) (lists_after_code m) (lists_foldable folding (printed_lists o m) h) in
      let middle = all_parts Foldable (lists_before_code o m) (body_lists o m) last.0 in
      let third = all_parts Foldable (tables ++ globals) elements middle.0 in
      let first = all_parts Foldable tables globals third.0 in
      record {
        tables = all_flat Foldable init_list m.tables first.0;
        globals = all_mapped Foldable (λ g. g.value.init) m.globals first.1;
        elements = all_flat Foldable (element_lists false) m.elements (subst (λ s. AllFoldable (flat_map (element_lists s) m.elements)) whole third.1);
        functions = all_mapped Foldable (λ f. f.body.value.operators) m.functions (subst (λ s. AllFoldable (cond s [] (map (λ f. f.body.value.operators) m.functions))) whole middle.1);
        data_segments = all_flat Foldable data_lists m.data_segments last.1;
      }
