-- The groups of a folded module's text are the nodes of its trees, field by field.
use Rattle.std.proofs.Common.{◌≡◌, ℕ, ◌+◌, ◌-◌, ◌≤◌, true, false, cond, List, [], ◌∷◌, map, Option, Some, None, sym, ap, ◌∙◌, subst, codes, arith}
use Rattle.std.specs.List.{AllByRecursion}
use Rattle.wasmprinter_spec.specs.Grammar.{◌>>=◌}
use Rattle.wasmprinter_spec.specs.Forest.{Forest, End, Word, Group, onto}
use Rattle.wasmprinter_spec.specs.Types.{FuncKind, signature_at}
use Rattle.wasmprinter_spec.specs.Call.{text_of}
use Rattle.wasmprinter_spec.specs.Options.{Options, Answers, IsBlank}
use Rattle.wasmprinter_spec.specs.Customs.Hints.{hints_of}
use Rattle.wasmprinter_spec.specs.Placed.{PlacedFunction, PlacedModule}
use Rattle.wasmprinter_spec.specs.Names.{Names, AreNamed}
use Rattle.wasmprinter_spec.specs.ModuleNames.{module_names}
use Rattle.wasmprinter_spec.specs.Layout.{scope_after, layout, refusal, pieces_by}
use Rattle.wasmprinter_spec.specs.Layout.Declarations.{Folding, Scope, folding_of}
use Rattle.wasmprinter_spec.specs.Folding.Refusals.{element_lists, data_lists, init_list, IsFoldable}
use Rattle.wasmprinter_spec.specs.Read.{fields, module_fields}
use Rattle.wasmprinter_laws.specs.Listed.{AreSignaturesInRange}
use Rattle.wasmprinter_laws.specs.NodeLaws.{items_in}
use Rattle.wasmprinter_laws.specs.TreeLaws.{field_nodes, segment_nodes, constant_tree, init_tree, segment_trees, body_trees, AreAlike, AreNodesOf, tree_scope, HaveTrees, FoldedModulesHaveTrees}
use Rattle.wasmprinter_laws.proofs.Ranged.{IsRangedTable, IsRangedGlobal, IsRangedElement, IsRangedData, IsRangedFunction, IsRanged}
use Rattle.wasmprinter_laws.proofs.Ranges.{ranged}
use Rattle.wasmprinter_laws.proofs.GivenNames.{module_names_named}
use Rattle.wasmprinter_laws.proofs.Identifiers.{id_items, declaration-items}
use Rattle.wasmprinter_laws.proofs.Numbered.{map_numbered}
use Rattle.wasmprinter_laws.proofs.Foldable.{Foldable, AllFoldable, CanFold}
use Rattle.wasmprinter_laws.proofs.AsAsked.{layout_as_asked, refused_as_asked, can_fold_as_asked, uncolored_as_asked}
use Rattle.wasmprinter_laws.proofs.Folded.Lists.{IsUncolored}
use Rattle.wasmprinter_laws.proofs.Back.{and_each, signatures_ranged, early, late, before, waiting, own_hints, own_table, own_global, own_element, own_function, own_data, module_items, all_fields, fields-module_items, no_identifier}
use Rattle.wasmprinter_laws.proofs.Written.{next_waiting, module_writes}
use Rattle.wasmprinter_laws.proofs.Folded.Groups.{items_written}
use Rattle.wasmprinter_laws.proofs.Trees.Fields.{own_folding, function_has, global_has, table_has, element_has, data_has}

-- If a relation holds for each element with its number, it holds for the lists.
numbered_alike : {A B C : Type 0} {P : A → Type 0} (R : B → C → Type 0) (found : Forest → B) (items : ℕ → A → Forest) (expected : A → C) →
    ((i : ℕ) (x : A) → P x → R (found (items i x)) (expected x)) → (i : ℕ) (xs : List A) → AllByRecursion P xs → AreAlike R (map found (map_numbered items i xs)) (map expected xs)
numbered_alike R found items expected law i [] h = tt
numbered_alike R found items expected law i (x ∷ xs) h = (law i x h.0, numbered_alike R found items expected law (i + 1) xs h.1)

module _ (o : Options) (folds : o.folds ≡ true) (whole : o.skeleton ≡ false) (plain : o.color ≡ false) (m : PlacedModule) (h : IsRanged m) (foldable : IsFoldable o m) where
  abbrev own_names : Names
  own_names = module_names o.synthesizes m

  abbrev own_scope : Scope
  own_scope = tree_scope o.synthesizes m

  abbrev asked : Option Folding
  asked = folding_of o m

  bare : IsUncolored asked
  bare = uncolored_as_asked o m plain

  named : AreNamed own_names
  named = module_names_named o.synthesizes m h

  in_range : AreSignaturesInRange (signature_at (early asked own_names m).types)
  in_range = signatures_ranged asked own_names m h

  folded : folding_of o m ≡ Some (own_folding o.color m)
  folded = ap (λ t. cond t (Some (own_folding o.color m)) None) folds

  can : CanFold asked m
  can = can_fold_as_asked o m whole foldable

  -- The nodes of functions from index i on, with the hints left for them, are those of their trees.
  functions_have : (i : ℕ) → before asked own_names m FuncKind ≤ i → (fs : List PlacedFunction) → AllByRecursion (λ f. IsRangedFunction f × Foldable asked m f.body.value.operators) fs →
      AreAlike AreNodesOf (map field_nodes (map_numbered (own_function asked own_names m false) i fs))
      (body_trees m own_scope (waiting asked own_names m (i - before asked own_names m FuncKind)) i fs)
  functions_have i low [] k = tt
  functions_have i low (f ∷ fs) k =
      let rest : List Forest = map_numbered (own_function asked own_names m false) (i + 1) fs in (
        function_has o.color m (early asked own_names m) folded named in_range i (own_hints asked own_names m i) f k.0.0 k.0.1,
        subst (λ es. AreAlike AreNodesOf (map field_nodes rest) (body_trees m own_scope es (i + 1) fs))
            (sym (next_waiting asked bare o own_names named m h i low)) (functions_have (i + 1) (omega (arith, low)) fs k.1),
      )

  all_functions : AreAlike AreNodesOf (map field_nodes (map_numbered (own_function asked own_names m false) (before asked own_names m FuncKind) m.functions))
      (body_trees m own_scope (hints_of m.customs) (before asked own_names m FuncKind) m.functions)
  all_functions =
      let b : ℕ = before asked own_names m FuncKind in
      let none : b - b ≡ 0 = omega arith in
      subst (λ (k : ℕ). AreAlike AreNodesOf (map field_nodes (map_numbered (own_function asked own_names m false) b m.functions)) (body_trees m own_scope (waiting asked own_names m k) b m.functions)) none
      (functions_have b (omega arith) m.functions (and_each IsRangedFunction (λ f. Foldable asked m f.body.value.operators) m.functions h.each_function can.functions))

  fields_have : HaveTrees o.synthesizes m (all_fields asked own_names m)
  unfolding all_fields
  fields_have = record {
    tables = numbered_alike AreNodesOf field_nodes (own_table asked own_names m) (λ t. init_tree m own_scope t.value.init)
        (λ i t k. table_has o.color m (early asked own_names m) folded named in_range i t.value k.0 k.1) _ m.tables
        (and_each (λ t. IsRangedTable t.value) (λ t. AllFoldable asked m (init_list t)) m.tables h.each_table can.tables);
    globals = numbered_alike AreNodesOf field_nodes (own_global asked own_names m) (λ g. constant_tree m own_scope 2 g.value.init)
        (λ i g k. global_has o.color m (early asked own_names m) folded named in_range i g.value k.0 k.1) _ m.globals
        (and_each (λ g. IsRangedGlobal g.value) (λ g. Foldable asked m g.value.init) m.globals h.each_global can.globals);
    elements = numbered_alike (AreAlike AreNodesOf) segment_nodes (own_element asked own_names m false) (λ e. segment_trees m own_scope (element_lists false e))
        (λ i e k. element_has o.color m (early asked own_names m) folded named in_range i e k.0 k.1) 0 m.elements
        (and_each (λ e. IsRangedElement e.value) (λ e. AllFoldable asked m (element_lists false e)) m.elements h.each_element can.elements);
    functions = all_functions;
    data_segments = numbered_alike (AreAlike AreNodesOf) segment_nodes (own_data asked own_names m false) (λ d. segment_trees m (scope_after m own_scope) (data_lists d))
        (λ i d k. data_has o.color m (late asked own_names m) folded named in_range i d k.0 k.1) 0 m.data_segments
        (and_each (λ d. IsRangedData d.value) (λ d. AllFoldable asked m (data_lists d)) m.data_segments h.each_data can.data_segments);
  }

  -- The text has these fields.
  fields_read : (answers : Answers) → IsBlank o.indent → refusal o answers m ≡ None →
      (items_in (text_of (layout o answers m)) >>= module_fields >>= fields) ≡ Some (all_fields asked own_names m)
  fields_read answers spaces none =
      ap (λ cs. items_in (text_of cs) >>= module_fields >>= fields) (layout_as_asked o answers m)
      ∙ ap (λ t. t >>= module_fields >>= fields)
      (items_written o spaces (pieces_by asked o answers own_names m) (module_writes asked bare o own_names named m h answers (sym (refused_as_asked o answers m) ∙ none)))
      ∙ ap (λ t. module_fields (Group (Word (codes "module") (onto (id_items own_names.module_name) (module_items asked own_names m t))) End) >>= fields) whole
      ∙ ap (λ t. Some t.1 >>= fields) (declaration-items own_names.module_name (module_items asked own_names m false) (no_identifier asked own_names m))
      ∙ fields-module_items asked own_names m h

pub folded_modules_have_trees : FoldedModulesHaveTrees
folded_modules_have_trees bytes m o answers spelled folds whole plain spaces foldable none =
    let h : IsRanged m = ranged bytes m spelled in
    (all_fields (folding_of o m) (module_names o.synthesizes m) m, fields_read o folds whole plain m h foldable answers spaces none, fields_have o folds whole plain m h foldable)
