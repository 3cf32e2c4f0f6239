-- The nodes of a field are those of its lists of operators.
use Rattle.std.proofs.Common.{◌≡◌, ℕ, ◌==◌, Bool, true, false, List, [], ◌∷◌, ◌++◌, Option, Some, None, option_map, refl, sym, ap, ◌∙◌, subst, codes}
use Rattle.std.specs.List.{AllByRecursion}
use Rattle.wasmprinter_spec.specs.Grammar.{Placed}
use Rattle.wasmprinter_spec.specs.Forest.{Forest, End, Word, Name, String, Reserved, Group, Note, onto}
use Rattle.wasmprinter_spec.specs.Types.{HeapType, Index, ValType, Ref, FuncType, TableType, signature_at}
use Rattle.wasmprinter_spec.specs.Operator.{Operator}
use Rattle.wasmprinter_spec.specs.Row as row
use Rattle.wasmprinter_spec.specs.Table.{table}
use Rattle.wasmprinter_spec.specs.Labels.{Named}
use Rattle.wasmprinter_spec.specs.Names.{Names, AreNamed}
use Rattle.wasmprinter_spec.specs.Placed.{Table, Global, ElementMode, Passive, Declared, Active, Items, Functions, Expressions, ElementEntry, DataMode, PassiveData, ActiveData, Data, PlacedFunction, PlacedModule}
use Rattle.wasmprinter_spec.specs.Module.{locals_of}
use Rattle.wasmprinter_spec.specs.Indexed.{parameter_count}
use Rattle.wasmprinter_spec.specs.Code.{head}
use Rattle.wasmprinter_spec.specs.Customs.Hints.{Hint}
use Rattle.wasmprinter_spec.specs.Layout.Declarations.{Scope, Folding, scope_of_function}
use Rattle.wasmprinter_spec.specs.Layout.Limits.{max_words}
use Rattle.wasmprinter_spec.specs.Layout.Functions.{over_lines, result_count}
use Rattle.wasmprinter_spec.specs.Layout.Operators.{Setting}
use Rattle.wasmprinter_spec.specs.Layout.Types.{parameters_of}
use Rattle.wasmprinter_spec.specs.Layout.Variables.{Variables, Alone, Together, variable_groups}
use Rattle.wasmprinter_spec.specs.Folding.Arities.{signatures_within}
use Rattle.wasmprinter_spec.specs.Folding.Refusals.{Operators, offset_list, item_lists, element_lists, data_lists}
use Rattle.wasmprinter_spec.specs.Folding.Tree.{NodesOf, Nodes, Nil}
use Rattle.wasmprinter_spec.proofs.Each.{all_parts}
use Rattle.wasmprinter_laws.proofs.Tokens.Writes.{words_before}
use Rattle.wasmprinter_laws.specs.Listed.{AreSignaturesInRange}
use Rattle.wasmprinter_laws.specs.NodeLaws.{is_node_head, node_row_of, with_heads}
use Rattle.wasmprinter_laws.specs.TreeLaws.{field_nodes, segment_nodes, constant_tree, init_tree, segment_trees, body_tree, AreAlike, AreNodesOf}
use Rattle.wasmprinter_laws.proofs.Ranged.{IsRangedExpression, IsRangedInit, IsRangedTable, IsRangedGlobal, IsRangedMode, AreRangedItems, IsRangedElement, IsRangedDataMode, IsRangedData, IsRangedFunction}
use Rattle.wasmprinter_laws.proofs.Identifiers.{index_items, id_items}
use Rattle.wasmprinter_laws.proofs.Types.Trees.{ref_items_by, ref_items, val_items, groups_items, group_items, signature_if_any_items, type_use_items}
use Rattle.wasmprinter_laws.proofs.Folded.Lists.{AreFoldable, list_items}
use Rattle.wasmprinter_laws.proofs.Folded.Groups.{AreFront}
use Rattle.wasmprinter_laws.proofs.Fields.Scopes.{own_id}
use Rattle.wasmprinter_laws.proofs.Fields.Limits.{wide_items, limits_items}
use Rattle.wasmprinter_laws.proofs.Fields.Tables.{table_type_items, init_items, table_items}
use Rattle.wasmprinter_laws.proofs.Fields.Globals.{mutable_items, global_type_items, global_items}
use Rattle.wasmprinter_laws.proofs.Fields.Expressions.{constant_items, constant_held}
use Rattle.wasmprinter_laws.proofs.Fields.Elements as elements
use Rattle.wasmprinter_laws.proofs.Fields.Elements.{element_items}
use Rattle.wasmprinter_laws.proofs.Fields.DataSegments as data_segments
use Rattle.wasmprinter_laws.proofs.Fields.DataSegments.{data_items}
use Rattle.wasmprinter_laws.proofs.Fields.Functions.{function_items}
use Rattle.wasmprinter_laws.proofs.Trees.Lists.{HasNodes, list_has, IsField, after_front, field_has, GroupHas, constant_has, constant_folds, group_has}

-- ---- the items before the operators

front_onto : (a b : Forest) → AreFront a → AreFront b → AreFront (onto a b)
front_onto End b h k = k
front_onto (Word w a) b h k = front_onto a b h k
front_onto (Name s a) b h k = front_onto a b h k
front_onto (String s a) b h k = front_onto a b h k
front_onto (Reserved a) b h k = front_onto a b h k
front_onto (Group g a) b h k = (h.0, front_onto a b h.1 k)
front_onto (Note id g a) b h k = absurd h

id_front : (o : Option Named) → AreFront (id_items o)
id_front None = tt
id_front (Some n) = tt

ref_front : (names : Names) (nullable : Bool) (h : HeapType) → AreFront (ref_items_by names nullable h)
unfolding head table
ref_front names true (Index n) = (refl, tt)
ref_front names true _ = tt
ref_front names false h = (refl, tt)

val_front : (names : Names) (t : ValType) → AreFront (val_items names t)
val_front names (Ref r) = ref_front names r.nullable r.heap
val_front names _ = tt

mutable_front : (names : Names) (mut : Bool) (t : ValType) → AreFront (mutable_items names mut t)
unfolding head table
mutable_front names true t = (refl, tt)
mutable_front names false t = val_front names t

max_front : (max : Option ℕ) → AreFront (words_before (max_words max) End)
max_front None = tt
max_front (Some n) = tt

wide_front : (wide : Bool) → AreFront (wide_items wide)
wide_front true = tt
wide_front false = tt

table_type_front : (names : Names) (t : TableType) → AreFront (table_type_items names t)
table_type_front names t =
    front_onto (wide_items t.wide) (onto (limits_items t.limits) (ref_items names t.element)) (wide_front t.wide)
    (front_onto (limits_items t.limits) (ref_items names t.element) (max_front t.limits.max) (ref_front names t.element.nullable t.element.heap))

-- Parameters, results and locals are not nodes.
groups_front : (names : Names) (w : List ℕ) (gs : List Variables) → is_node_head (head w) ≡ false → AreFront (groups_items names w gs)
groups_front names w [] h = tt
groups_front names w (Alone d t ∷ gs) h = (h, groups_front names w gs h)
groups_front names w (Together ts ∷ gs) h = (h, groups_front names w gs h)

results_front : (names : Names) (ts : List ValType) → AreFront (group_items names (codes "result") ts)
unfolding head
results_front names [] = tt
results_front names (t ∷ ts) = (refl, tt)

no_param : is_node_head (head (codes "param")) ≡ false
unfolding head
no_param = refl

no_local : is_node_head (head (codes "local")) ≡ false
unfolding head table
no_local = refl

signature_front : (names : Names) (f : Option ℕ) (t : Option FuncType) → AreFront (signature_if_any_items names f t)
signature_front names f None = tt
signature_front names f (Some t) =
    front_onto (groups_items names (codes "param") (variable_groups (parameters_of names f) 0 t.params)) (group_items names (codes "result") t.results)
    (groups_front names (codes "param") (variable_groups (parameters_of names f) 0 t.params) no_param) (results_front names t.results)

use_front : (names : Names) (f : Option ℕ) (i : ℕ) (t : Option FuncType) → AreFront (type_use_items names f i t)
unfolding head
use_front names f i t = (refl, signature_front names f t)

-- ---- the items among the expressions of a segment

id_silent : (o : Option Named) (f : Forest) → segment_nodes (onto (id_items o) f) ≡ segment_nodes f
id_silent None f = refl
id_silent (Some n) f = refl

index_silent : (o : Option Named) (n : ℕ) (f : Forest) → segment_nodes (onto (index_items o n) f) ≡ segment_nodes f
index_silent None n f = refl
index_silent (Some m) n f = refl

ref_silent : (names : Names) (nullable : Bool) (h : HeapType) (f : Forest) → segment_nodes (onto (ref_items_by names nullable h) f) ≡ segment_nodes f
unfolding head table
ref_silent names true (Index n) f = refl
ref_silent names true _ f = refl
ref_silent names false h f = refl

table_silent : (s : Scope) (named : Bool) (t : ℕ) (f : Forest) → segment_nodes (elements.named_table_items s named t f) ≡ segment_nodes f
unfolding head table
table_silent s true t f = refl
table_silent s false t f = refl

memory_silent : (s : Scope) (zeroth : Bool) (m : ℕ) (f : Forest) → segment_nodes (data_segments.named_memory_items_by s zeroth m f) ≡ segment_nodes f
unfolding head table
memory_silent s true m f = refl
memory_silent s false m f = refl

function_row_silent : (s : Scope) (is : List ℕ) → segment_nodes (elements.function_row s is) ≡ []
function_row_silent s [] = refl
function_row_silent s (i ∷ is) = index_silent (s.names.items row.Func i) i (elements.function_row s is) ∙ function_row_silent s is

-- An expression before others
group_then : {g : Forest} {t : Option Nodes} → GroupHas g t → (f : Forest) (ts : List (Option Nodes)) → AreAlike AreNodesOf (segment_nodes f) ts →
    AreAlike AreNodesOf (segment_nodes (Group g f)) (t ∷ ts)
group_then {t = t} h f ts rest =
    subst (λ l. AreAlike AreNodesOf (l ++ segment_nodes f) (t ∷ ts)) (sym h.is) (h.are, rest)

-- ---- fields

-- The way in which this module's operators are folded
abbrev pub own_folding : Bool → PlacedModule → Folding
own_folding color m = record { color = color; signatures = signatures_within m }

module _ (color : Bool) (m : PlacedModule) (s : Scope) (is : s.folding ≡ Some (own_folding color m)) (named : AreNamed s.names) (ranged : AreSignaturesInRange (signature_at s.types)) where
  abbrev Foldable : List (Placed Operator) → Type 0
  Foldable os = AreFoldable s.folding os

  pub function_has : (i : ℕ) (hs : List (Placed Hint)) (f : PlacedFunction) → IsRangedFunction f → Foldable f.body.value.operators →
      AreNodesOf (field_nodes (function_items false s i hs f)) (body_tree m (scope_of_function s i) hs f)
  function_has i hs f h foldable =
      let own : Scope = scope_of_function s i in
      let os : List (Placed Operator) = f.body.value.operators in
      let results : Option ℕ = result_count own f.type_index in
      let setting : Setting = over_lines own f.body.place in
      let k : HasNodes setting (signatures_within m results) hs os =
      list_has setting named ranged (signatures_within m results) hs os h.body.listed h.body.nested (subst (λ t. AreFoldable t os) is foldable) in
      let locals : List Variables = variable_groups (s.names.locals i) (parameter_count (signature_at s.types f.type_index)) (locals_of f.body.value.locals) in
      field_has k
      (after_front (own_id s row.Func i) (id_front (s.names.items row.Func i))
      (after_front (type_use_items s.names (Some i) f.type_index (signature_at s.types f.type_index)) (use_front s.names (Some i) f.type_index (signature_at s.types f.type_index))
      (after_front (groups_items s.names (codes "local") locals) (groups_front s.names (codes "local") locals no_local)
      (record { front = End; row = ap (λ t. node_row_of (list_items false t results setting hs os)) is ∙ k.row }))))

  -- A constant expression in a field
  constant_field : (nesting : ℕ) (os : List (Placed Operator)) (h : IsRangedExpression os) (foldable : Foldable os) →
      IsField (constant_items s nesting os) (constant_has s (own_folding color m) is named ranged nesting os h foldable).groups
  constant_field nesting os h foldable =
      record {
        front = End;
        row = ap node_row_of (constant_folds s (own_folding color m) is named ranged nesting os) ∙ (constant_has s (own_folding color m) is named ranged nesting os h foldable).row;
      }

  pub global_has : (i : ℕ) (g : Global (Placed Operator)) → IsRangedGlobal g → Foldable g.init →
      AreNodesOf (field_nodes (global_items s i g)) (constant_tree m s 2 g.init)
  global_has i g h foldable =
      field_has (constant_has s (own_folding color m) is named ranged 2 g.init h.init foldable)
      (after_front (own_id s row.Global i) (id_front (s.names.items row.Global i))
      (after_front (global_type_items s.names g.type) (mutable_front s.names g.type.mutable g.type.type)
      (constant_field 2 g.init h.init foldable)))

  pub table_has : (i : ℕ) (t : Table (Placed Operator)) → IsRangedTable t → AllByRecursion Foldable (elim t.init as (λ x. List Operators) [ None ↦ [] | Some os ↦ os ∷ [] ]) →
      AreNodesOf (field_nodes (table_items s i t)) (init_tree m s t.init)
  table_has i t h foldable = by t.init h.init foldable
    where
      after : {f : Forest} {ns : NodesOf Forest} → IsField f ns → IsField (onto (own_id s row.Table i) (onto (table_type_items s.names t.type) f)) ns
      after x =
          after_front (own_id s row.Table i) (id_front (s.names.items row.Table i))
          (after_front (table_type_items s.names t.type) (table_type_front s.names t.type) x)

      by : (o : Option (List (Placed Operator))) → IsRangedInit o → AllByRecursion Foldable (elim o as (λ x. List Operators) [ None ↦ [] | Some os ↦ os ∷ [] ]) →
          AreNodesOf (field_nodes (onto (own_id s row.Table i) (onto (table_type_items s.names t.type) (init_items s o)))) (init_tree m s o)
      by None h l =
          let x = after (record { front = End; row = refl }) in
          (Nil, refl, ap (λ r. option_map (with_heads (λ (f : Forest). Some f)) (option_map (λ r. r.nodes) r)) x.row)
      by (Some os) h l = field_has (constant_has s (own_folding color m) is named ranged 2 os h l.0) (after (constant_field 2 os h l.0))

  -- ---- segments

  -- These items contain these expressions.
  abbrev HasExpressions : Forest → List Operators → Type 0
  HasExpressions f es = AreAlike AreNodesOf (segment_nodes f) (segment_trees m s es)

  offset_has : (os : List (Placed Operator)) → IsRangedExpression os → Foldable os → GroupHas (constant_held s (codes "offset") os) (constant_tree m s 3 os)
  offset_has os h foldable = group_has s (own_folding color m) is named ranged (codes "offset") refl os h foldable

  expressions_have : (es : List Operators) → AllByRecursion IsRangedExpression es → AllByRecursion Foldable es → HasExpressions (elements.expressions_items s es) es
  expressions_have [] h l = tt
  expressions_have (e ∷ es) h l =
      group_then (group_has s (own_folding color m) is named ranged (codes "item") refl e h.0 l.0) (elements.expressions_items s es) (segment_trees m s es) (expressions_have es h.1 l.1)

  items_have : (is : Items (Placed Operator)) → AreRangedItems is → AllByRecursion Foldable (item_lists is) → HasExpressions (elements.items_items s is) (item_lists is)
  items_have (Functions is) h l = subst (λ ns. AreAlike AreNodesOf ns []) (sym (function_row_silent s is)) tt
  items_have (Expressions t es) h l =
      subst (λ ns. AreAlike AreNodesOf ns (segment_trees m s es)) (sym (ref_silent s.names t.nullable t.heap (elements.expressions_items s es)))
      (expressions_have es h.1 l)

  mode_has : (names : Bool) (mode : ElementMode (Placed Operator)) → IsRangedMode names mode → AllByRecursion Foldable (offset_list mode) → (f : Forest) (es : List Operators) → HasExpressions f es →
      HasExpressions (elements.mode_items s names mode f) (offset_list mode ++ es)
  mode_has names Passive h l f es k = k
  mode_has names Declared h l f es k = k
  mode_has names (Active t offset) h l f es k =
      subst (λ ns. AreAlike AreNodesOf ns (segment_trees m s (offset ∷ es))) (sym (table_silent s names t (Group (constant_held s (codes "offset") offset) f)))
      (group_then (offset_has offset h.1 l.0) f (segment_trees m s es) k)

  pub element_has : (i : ℕ) (e : Placed ElementEntry) → IsRangedElement e.value → AllByRecursion Foldable (element_lists false e) →
      AreAlike AreNodesOf (segment_nodes (element_items s false i e.value)) (segment_trees m s (element_lists false e))
  element_has i e h l =
      let parts = all_parts Foldable (offset_list e.value.element.mode) (item_lists e.value.element.items) l in
      subst (λ ns. AreAlike AreNodesOf ns (segment_trees m s (element_lists false e))) (sym (id_silent (s.names.items row.Elem i) (elements.segment_items s false e.value)))
      (mode_has e.value.has_table_index e.value.element.mode h.mode parts.0 (elements.items_items s e.value.element.items) (item_lists e.value.element.items)
      (items_have e.value.element.items h.items parts.1))

  pub data_has : (i : ℕ) (d : Placed (Data (Placed Operator))) → IsRangedData d.value → AllByRecursion Foldable (data_lists d) →
      AreAlike AreNodesOf (segment_nodes (data_items s false i d.value)) (segment_trees m s (data_lists d))
  data_has i d h l =
      subst (λ ns. AreAlike AreNodesOf ns (segment_trees m s (data_lists d))) (sym (id_silent (s.names.items row.Data i) (data_segments.segment_items s false d.value)))
      (by d.value.mode h.mode l)
    where
      by : (mode : DataMode (Placed Operator)) → IsRangedDataMode mode → AllByRecursion Foldable (elim mode as (λ x. List Operators) [ PassiveData ↦ [] | ActiveData memory os ↦ os ∷ [] ]) →
          HasExpressions (data_segments.data_mode_items s mode (data_segments.bytes_items false d.value.bytes)) (elim mode as (λ x. List Operators) [ PassiveData ↦ [] | ActiveData memory os ↦ os ∷ [] ])
      by PassiveData h l = tt
      by (ActiveData memory offset) h l =
          subst (λ ns. AreAlike AreNodesOf ns (segment_trees m s (offset ∷ [])))
          (sym (memory_silent s (memory == 0) memory (Group (constant_held s (codes "offset") offset) (data_segments.bytes_items false d.value.bytes))))
          (group_then (offset_has offset h.1 l.0) (data_segments.bytes_items false d.value.bytes) [] tt)
