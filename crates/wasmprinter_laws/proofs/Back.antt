-- The items of a module read back as that module.
use Rattle.std.proofs.Common.{◌≡◌, ℕ, zero, suc, ◌+◌, ◌-◌, ◌<◌, ◌≤◌, ◌^◌, Bool, false, List, [], ◌∷◌, ◌++◌, length, Option, Some, None, refl, sym, ap, ap₂, ◌∙◌, codes, map, append-nil, option_map, arith, min}
use Rattle.std.specs.List.{AllByRecursion}
use Rattle.std.proofs.lemmas.List.{length-map}
use Rattle.wasmprinter_spec.specs.Grammar.{Placed}
use Rattle.wasmprinter_spec.specs.Forest.{Forest, End, Word, Group, onto}
use Rattle.wasmprinter_spec.specs.Types.{SubType, MemoryType, ExternKind, FuncKind, TableKind, MemoryKind, GlobalKind, TagKind, ExternType, FuncExtern, TableExtern, MemoryExtern, GlobalExtern, TagExtern, concat, all_types, signature_at}
use Rattle.wasmprinter_spec.specs.Kinds.{Kind, CustomSection, TypeSection, ImportSection, FunctionSection, TableSection, MemorySection, TagSection, GlobalSection, ExportSection, StartSection, ElementSection, DataCountSection, CodeSection, DataSection}
use Rattle.wasmprinter_spec.specs.Row as row
use Rattle.wasmprinter_spec.specs.Row.{Space, Types, Func}
use Rattle.wasmprinter_spec.specs.Names.{Names, AreApart, AreNamed, identifiers, identifiers_at, in_function}
use Rattle.wasmprinter_spec.specs.Operator.{Operator}
use Rattle.wasmprinter_spec.specs.Placed.{TypeGroup, Import, Export, Table, Global, ElementMode, Passive, Declared, Active, Items, Functions, Expressions, ElementEntry, DataMode, PassiveData, ActiveData, Data, PlacedFunction, PlacedModule}
use Rattle.wasmprinter_spec.specs.Module.{func_import, table_import, memory_import, global_import, tag_import, without_places, each_value, mode_without_places, items_without_places, data_mode_without_places, groups_of, function_of, table_without_places, global_without_places, element_without_places, data_without_places, Module, module_of}
use Rattle.wasmprinter_spec.specs.Limits.{HasNoEmptyInit}
use Rattle.wasmprinter_spec.specs.Indexed as indexed
use Rattle.wasmprinter_spec.specs.Indexed.{IsDeclaredSub, Counts, IsIndexed, IsIndexedFunction, IsIndexedImport, IsIndexedTable, IsIndexedGlobal, IsIndexedExport, IsIndexedElement, IsIndexedData, NamesFunction, space_of, counts_of}
use Rattle.wasmprinter_spec.specs.IndexSpaces.{Identifiers, index_space, space_in, Spaces, Context}
use Rattle.wasmprinter_spec.specs.Customs.Hints.{Hint, FunctionHints, hints_of, hints_of_next, entries_after}
use Rattle.wasmprinter_spec.specs.Folding.Refusals.{Operators, init_list, offset_list, item_lists, element_lists, data_lists}
use Rattle.wasmprinter_spec.specs.Layout.Declarations.{Folding, Scope, scope_of}
use Rattle.wasmprinter_spec.specs.Layout.Expressions.{in_line}
use Rattle.wasmprinter_spec.specs.Layout.Imports.{Numbers, no_numbers, number_of, numbers_after}
use Rattle.wasmprinter_spec.specs.Layout.{scope_before, scope_after, section_order}
use Rattle.wasmprinter_spec.specs.Text.Items.{each, identifier_in_front}
use Rattle.wasmprinter_spec.specs.Text.Types as text
use Rattle.wasmprinter_spec.specs.Text.Types.{read_group}
use Rattle.wasmprinter_spec.specs.Text.Functions.{read_function}
use Rattle.wasmprinter_spec.specs.Text.Memories.{read_memory}
use Rattle.wasmprinter_spec.specs.Text.Tags.{read_tag}
use Rattle.wasmprinter_spec.specs.Text.Exports.{read_export}
use Rattle.wasmprinter_spec.specs.Text.Imports.{ImportField, read_import}
use Rattle.wasmprinter_spec.specs.Text.Tables.{read_table}
use Rattle.wasmprinter_spec.specs.Text.Globals.{read_global}
use Rattle.wasmprinter_spec.specs.Text.Elements.{read_element}
use Rattle.wasmprinter_spec.specs.Text.DataSegments.{read_data}
use Rattle.wasmprinter_spec.specs.Read.{Fields, no_fields, fields, identifiers_of, imported_ids, space_after, spaces_of, context, module_of_fields, read_forest}
use Rattle.wasmprinter_laws.specs.Listed.{AreSignaturesInRange}
use Rattle.wasmprinter_laws.specs.OperatorLaws.{count_in, HaveSameTypes, HaveSameNames}
use Rattle.wasmprinter_laws.proofs.Ranged.{IsRanged, IsRangedImport, IsRangedTable, IsRangedGlobal, IsRangedExport, IsRangedElement, IsRangedData, IsRangedFunction}
use Rattle.wasmprinter_laws.proofs.Counts.{imported_types-length, own_parameters_few, own_fields_few, types_few, variables_few}
use Rattle.wasmprinter_laws.proofs.Declarations.{id, identifiers_at-more}
use Rattle.wasmprinter_laws.proofs.Identifiers.{id_items, IsUnidentified, declaration-items, of_least}
use Rattle.wasmprinter_laws.proofs.Numbered.{map_numbered}
use Rattle.wasmprinter_laws.proofs.Spaces.{identifiers_space, declared_numbered, number_in, imports_of, imported_ids-held}
use Rattle.wasmprinter_laws.proofs.Fields.Scopes.{AreScoped, type_bound, type_indices-read}
use Rattle.wasmprinter_laws.proofs.Fields.Memories.{memory_items, identifier_in_front-memory, read_memory-items}
use Rattle.wasmprinter_laws.proofs.Fields.Tags.{tag_items, identifier_in_front-tag, read_tag-items}
use Rattle.wasmprinter_laws.proofs.Fields.Start.{start_held, start_items, IsIndexedStart, read_start-items}
use Rattle.wasmprinter_laws.proofs.Fields.Exports.{export_items, read_export-items}
use Rattle.wasmprinter_laws.proofs.Fields.Functions.{function_items, identifier_in_front-function, variable_count, read_function-items}
use Rattle.wasmprinter_laws.proofs.Fields.Expressions.{AreIndexed}
use Rattle.wasmprinter_laws.proofs.Fields.Imports.{extern_items, imports_items, IsScopedExtern, read_import-items}
use Rattle.wasmprinter_laws.proofs.Fields.Tables as tables
use Rattle.wasmprinter_laws.proofs.Fields.Tables.{table_items, identifier_in_front-table, read_table-items}
use Rattle.wasmprinter_laws.proofs.Fields.Globals.{global_items, identifier_in_front-global, read_global-items}
use Rattle.wasmprinter_laws.proofs.Fields.Elements as elements
use Rattle.wasmprinter_laws.proofs.Fields.Elements.{element_items, identifier_in_front-element, read_element-items}
use Rattle.wasmprinter_laws.proofs.Fields.DataSegments as data_segments
use Rattle.wasmprinter_laws.proofs.Fields.DataSegments.{data_items, identifier_in_front-data, read_data-items}
use Rattle.wasmprinter_spec.proofs.Each.{all_parts}
use Rattle.wasmprinter_laws.proofs.Foldable.{Foldable, AllFoldable, CanFold}
use Rattle.wasmprinter_laws.proofs.Types.Ranged.{IsRangedGroup}
use Rattle.wasmprinter_laws.proofs.Types.Ranges.{own_signature_ranged}
use Rattle.wasmprinter_laws.proofs.Types.Trees.{type_section_items}
use Rattle.wasmprinter_laws.proofs.Sorted.{field_rows, fields-gathered, gathered_functions, gathered_tables, gathered_memories, gathered_tags, gathered_globals, gathered_exports, gathered_elements, gathered_datas, fields-start, extern_id, imports_held, fields-imports, group_bodies, fields-types, unidentified_rows, unidentified_imports, unidentified_start, unidentified_types}
use Rattle.wasmprinter_laws.proofs.DeclaredTypes.{declared_types, declared_groups, read_groups-items, group_types-identifiers_of, field_space-identifiers_of, own_signature_counted, own_fields_counted, own_signature_declared}

-- ---- the value that each item reads as

each-numbered : {A B F : Type 0} {P : A → Type 0} (read : F → Option B) (items : ℕ → A → F) (value : A → B) →
    ((i : ℕ) (x : A) → P x → read (items i x) ≡ Some (value x)) → (i : ℕ) (xs : List A) → AllByRecursion P xs → each read (map_numbered items i xs) ≡ Some (map value xs)
each-numbered read items value law i [] h = refl
each-numbered read items value law i (x ∷ xs) h = rw (law i x h.0, each-numbered read items value law (i + 1) xs h.1)

-- Both facts hold of each element.
pub and_each : {A : Type 0} (P Q : A → Type 0) (xs : List A) → AllByRecursion P xs → AllByRecursion Q xs → AllByRecursion (λ x. P x × Q x) xs
and_each P Q [] h k = tt
and_each P Q (x ∷ xs) h k = ((h.0, k.0), and_each P Q xs h.1 k.1)

-- Two facts hold of each element, the second one of its value.
both_of_each : {A B : Type 0} (P : A → Type 0) (Q : B → Type 0) (value : A → B) (xs : List A) → AllByRecursion P xs → AllByRecursion Q (map value xs) →
    AllByRecursion (λ x. P x × Q (value x)) xs
both_of_each P Q value [] h k = tt
both_of_each P Q value (x ∷ xs) h k = ((h.0, k.0), both_of_each P Q value xs h.1 k.1)

-- ---- the module

-- Before the first import, the number of imports of each kind is 0.
none_before : (kind : ExternKind) → number_in kind no_numbers ≡ 0
none_before FuncKind = refl
none_before TableKind = refl
none_before MemoryKind = refl
none_before GlobalKind = refl
none_before TagKind = refl

imports_few : (kind : ExternKind) (is : List Import) → imports_of kind is ≤ length is
imports_few FuncKind is = imported_types-length func_import is
imports_few TableKind is = imported_types-length table_import is
imports_few MemoryKind is = imported_types-length memory_import is
imports_few GlobalKind is = imported_types-length global_import is
imports_few TagKind is = imported_types-length tag_import is

-- Types that are in range have type indices of 32 bits.
groups_ranged : (gs : List (Placed TypeGroup)) → AllByRecursion (λ g. IsRangedGroup g.value) gs → AllByRecursion (λ g. AllByRecursion (IsDeclaredSub (2 ^ 32)) g) (groups_of gs)
groups_ranged [] h = tt
groups_ranged (g ∷ gs) h = (h.0.each, groups_ranged gs h.1)

-- Type indices that are in range and declared are below the lesser of both bounds.
all_bounded : (n : ℕ) (gs : List (List SubType)) → AllByRecursion (λ g. AllByRecursion (IsDeclaredSub (2 ^ 32)) g) gs → AllByRecursion (λ g. AllByRecursion (IsDeclaredSub n) g) gs →
    AllByRecursion (λ g. AllByRecursion (IsDeclaredSub (min (2 ^ 32) n)) g) gs
all_bounded n gs h k = of_least (λ b. AllByRecursion (λ g. AllByRecursion (IsDeclaredSub b) g) gs) (2 ^ 32) n h k

module _ (folding : Option Folding) (names : Names) (m : PlacedModule) where
  abbrev pub own_types : List SubType
  own_types = all_types (groups_of m.types)

  pub signatures_ranged : IsRanged m → AreSignaturesInRange (signature_at own_types)
  signatures_ranged h i = own_signature_ranged m.types i h.each_group

  -- The scopes of fields before the functions and after them
  abbrev pub early : Scope
  early = scope_before folding names m

  abbrev pub late : Scope
  late = scope_after m early

  -- The number of imports of a kind
  abbrev pub before : ExternKind → ℕ
  before kind = imports_of kind (without_places m.imports)

  abbrev pub own_table : ℕ → Placed (Table (Placed Operator)) → Forest
  own_table i t = table_items early i t.value

  abbrev own_memory : ℕ → Placed MemoryType → Forest
  own_memory i x = memory_items early i x.value

  abbrev own_tag : ℕ → Placed ℕ → Forest
  own_tag i tag = tag_items early i tag.value

  abbrev pub own_global : ℕ → Placed (Global (Placed Operator)) → Forest
  own_global i g = global_items early i g.value

  abbrev own_export : ℕ → Placed Export → Forest
  own_export i e = export_items early e.value

  abbrev pub own_element : Bool → ℕ → Placed ElementEntry → Forest
  own_element skeleton i e = element_items early skeleton i e.value

  -- The hints that are left after this number of functions
  abbrev pub waiting : ℕ → List FunctionHints
  waiting zero = hints_of m.customs
  waiting (suc k) = entries_after (before FuncKind + k) (waiting k)

  -- The hints of function `i`
  abbrev pub own_hints : ℕ → List (Placed Hint)
  own_hints i = hints_of_next i (waiting (i - before FuncKind))

  abbrev pub own_function : Bool → ℕ → PlacedFunction → Forest
  own_function skeleton i f = function_items skeleton early i (own_hints i) f

  abbrev pub own_data : Bool → ℕ → Placed (Data (Placed Operator)) → Forest
  own_data skeleton i d = data_items late skeleton i d.value

  -- The items of the fields in the section of a kind; functions and segments are complete or a skeleton.
  abbrev pub fields_items : Bool → Kind → Forest
  fields_items skeleton TypeSection = type_section_items names 0 m.types
  fields_items skeleton ImportSection = imports_items early no_numbers m.imports
  fields_items skeleton FunctionSection = End
  fields_items skeleton TableSection = field_rows (codes "table") own_table (before TableKind) m.tables
  fields_items skeleton MemorySection = field_rows (codes "memory") own_memory (before MemoryKind) m.memories
  fields_items skeleton TagSection = field_rows (codes "tag") own_tag (before TagKind) m.tags
  fields_items skeleton GlobalSection = field_rows (codes "global") own_global (before GlobalKind) m.globals
  fields_items skeleton ExportSection = field_rows (codes "export") own_export 0 m.exports
  fields_items skeleton StartSection = start_items early m.start
  fields_items skeleton ElementSection = field_rows (codes "elem") (own_element skeleton) 0 m.elements
  fields_items skeleton DataCountSection = End
  fields_items skeleton CodeSection = field_rows (codes "func") (own_function skeleton) (before FuncKind) m.functions
  fields_items skeleton DataSection = field_rows (codes "data") (own_data skeleton) 0 m.data_segments
  fields_items skeleton CustomSection = End

  -- The items of the fields of sections in order
  abbrev pub kinds_items : Bool → List Kind → Forest
  kinds_items skeleton [] = End
  kinds_items skeleton (k ∷ ks) = onto (fields_items skeleton k) (kinds_items skeleton ks)

  -- The items of a module after its identifier
  unfoldable pub module_items : Bool → Forest
  module_items skeleton = kinds_items skeleton section_order

  abbrev own_imports : List ImportField
  own_imports = imports_held early no_numbers m.imports

  -- The fields, sorted by kind
  unfoldable pub all_fields : Fields
  all_fields = record {
    types = group_bodies names 0 m.types;
    imports = own_imports;
    functions = map_numbered (own_function false) (before FuncKind) m.functions;
    tables = map_numbered own_table (before TableKind) m.tables;
    memories = map_numbered own_memory (before MemoryKind) m.memories;
    tags = map_numbered own_tag (before TagKind) m.tags;
    globals = map_numbered own_global (before GlobalKind) m.globals;
    exports = map_numbered own_export 0 m.exports;
    start = start_held early m.start;
    elements = map_numbered (own_element false) 0 m.elements;
    data_segments = map_numbered (own_data false) 0 m.data_segments;
  }

  pub fields-module_items : IsRanged m → fields (module_items false) ≡ Some all_fields
  unfolding module_items all_fields
  fields-module_items h =
      fields-types names 0 m.types _ _ h.each_group
      (fields-imports early no_numbers m.imports _ _ h.each_import
      (fields-gathered gathered_tables own_table _ m.tables _ _ refl
      (fields-gathered gathered_memories own_memory _ m.memories _ _ refl
      (fields-gathered gathered_tags own_tag _ m.tags _ _ refl
      (fields-gathered gathered_globals own_global _ m.globals _ _ refl
      (fields-gathered gathered_exports own_export _ m.exports _ _ refl
      (fields-start early m.start _ _ refl
      (fields-gathered gathered_elements (own_element false) _ m.elements _ _ refl
      (fields-gathered gathered_functions (own_function false) _ m.functions _ _ refl
      (fields-gathered gathered_datas (own_data false) 0 m.data_segments End no_fields refl refl))))))))))
      ∙ ap (λ v. Some v) (simp append-nil)

  -- ---- the index spaces

  abbrev own_counts : Counts
  own_counts = counts_of (module_of m)

  abbrev own_space : Space → Identifiers
  own_space space = identifiers (names.items space) (count_in own_counts space)

  all_spaces : Spaces
  all_spaces = record {
    types = own_space Types;
    functions = own_space Func;
    tables = own_space row.Table;
    memories = own_space row.Memory;
    tags = own_space row.Tag;
    globals = own_space row.Global;
    elems = own_space row.Elem;
    data_segments = own_space row.Data;
    locals = [];
  }

  -- The index space of a kind: its imports, and then its definitions
  kind_space : {A : Type 0} → AreApart names → (kind : ExternKind) (items : ℕ → A → Forest) →
      ((i : ℕ) (x : A) → (identifier_in_front (items i x)).0 ≡ id (names.items (space_of kind) i)) → (xs : List A) → before kind + length xs ≤ 2 ^ 64 →
      (n : ℕ) → n ≡ before kind + length xs →
      space_after kind own_imports (map_numbered items (before kind) xs) ≡ Some (identifiers (names.items (space_of kind)) n)
  kind_space apart kind items its xs few n e =
      let named = names.items (space_of kind) in
      let b : ℕ = before kind in
      let start : b ≡ 0 + b = omega arith in
      let first = imported_ids-held names (extern_items early) (extern_id early) kind no_numbers m.imports ∙ ap (λ (k : ℕ). identifiers_at named k b) (none_before kind) in
      let rest = declared_numbered items named its b xs ∙ ap (λ (k : ℕ). identifiers_at named k (length xs)) start in
      let are : imported_ids kind own_imports ++ identifiers_of (map_numbered items b xs) ≡ identifiers named n =
      ap₂ (λ x y. x ++ y) first rest ∙ identifiers_at-more named 0 b (length xs) ∙ ap (identifiers_at named 0) (sym e) in
      let fits : n ≤ 2 ^ 64 = omega (arith, e, few) in
      ap index_space are ∙ identifiers_space named (apart.items (space_of kind)) n fits

  -- There are at most 2 ^ 64 imports and definitions of a kind together.
  pub numbers_fit : IsRanged m → (kind : ExternKind) (n : ℕ) → n < 2 ^ 32 → before kind + n ≤ 2 ^ 64
  numbers_fit h kind n small = omega (arith, small, h.imports, imports_few kind (without_places m.imports), length-map m.imports (λ i. i.value))

  -- The index space of items that can't be imported
  alone_space : {A : Type 0} → AreApart names → (space : Space) (items : ℕ → A → Forest) → ((i : ℕ) (x : A) → (identifier_in_front (items i x)).0 ≡ id (names.items space i)) →
      (xs : List A) (n : ℕ) → n < 2 ^ 32 → n ≡ length xs →
      index_space (identifiers_of (map_numbered items 0 xs)) ≡ Some (identifiers (names.items space) n)
  alone_space apart space items its xs n small e =
      ap index_space (declared_numbered items (names.items space) its 0 xs ∙ ap (identifiers_at (names.items space) 0) (sym e))
      ∙ identifiers_space (names.items space) (apart.items space) n (omega (arith, small))

  -- There are at most 2 ^ 64 types.
  types_fit : IsRanged m → length own_types ≤ 2 ^ 64
  types_fit h = omega (arith, h.types, types_few m.types h.each_group)

  types_space : AreApart names → IsRanged m → index_space (identifiers_of (concat (group_bodies names 0 m.types))) ≡ Some (own_space Types)
  types_space apart h = ap index_space (declared_types names 0 m.types) ∙ identifiers_space (names.items Types) (apart.items Types) (length own_types) (types_fit h)

  -- Mapping the items of a kind does not change their number.
  counted : {A B : Type 0} (kind : ExternKind) (f : A → B) (xs : List A) → before kind + length (map f xs) ≡ before kind + length xs
  counted kind f xs = ap (λ (k : ℕ). before kind + k) (length-map xs f)

  spaces_of-all_fields : AreApart names → IsRanged m → spaces_of all_fields ≡ Some all_spaces
  unfolding all_fields all_spaces
  spaces_of-all_fields apart h =
      rw (
        types_space apart h,
        kind_space apart FuncKind (own_function false) (λ i f. identifier_in_front-function early i (own_hints i) f) m.functions
            (numbers_fit h FuncKind _ h.functions) own_counts.functions (counted FuncKind function_of m.functions),
        kind_space apart TableKind own_table (λ i t. ap (λ x. x.0) (identifier_in_front-table early i t.value)) m.tables
            (numbers_fit h TableKind _ h.tables) own_counts.tables (counted TableKind (λ t. table_without_places t.value) m.tables),
        kind_space apart MemoryKind own_memory (λ i x. ap (λ y. y.0) (identifier_in_front-memory early i x.value)) m.memories
            (numbers_fit h MemoryKind _ h.memories) own_counts.memories (counted MemoryKind (λ x. x.value) m.memories),
        kind_space apart TagKind own_tag (λ i tag. identifier_in_front-tag early i tag.value) m.tags
            (numbers_fit h TagKind _ h.tags) own_counts.tags (counted TagKind (λ x. x.value) m.tags),
        kind_space apart GlobalKind own_global (λ i g. ap (λ x. x.0) (identifier_in_front-global early i g.value)) m.globals
            (numbers_fit h GlobalKind _ h.globals) own_counts.globals (counted GlobalKind (λ g. global_without_places g.value) m.globals),
        alone_space apart row.Elem (own_element false) (λ i e. ap (λ x. x.0) (identifier_in_front-element early i e.value)) m.elements own_counts.elems
            (omega (arith, h.elements, length-map m.elements (λ e. element_without_places e.value))) (length-map m.elements (λ e. element_without_places e.value)),
        alone_space apart row.Data (own_data false) (λ i d. ap (λ x. x.0) (identifier_in_front-data late i d.value)) m.data_segments own_counts.data_segments
            (omega (arith, h.data_segments, length-map m.data_segments (λ d. data_without_places d.value))) (length-map m.data_segments (λ d. data_without_places d.value)),
      )

  -- ---- the context in which fields are read

  abbrev own_groups : List (List (text.Declared SubType))
  own_groups = declared_groups names 0 m.types

  abbrev whole_context : Context
  whole_context = context all_spaces own_groups

  own_signatures : (i : ℕ) → whole_context.signature i ≡ signature_at own_types i
  own_signatures i = ap (λ gs. signature_at (all_types gs) i) (group_types-identifiers_of names 0 m.types)

  module _ (apart : AreApart names) (named : AreNamed names) (foldable : CanFold folding m) (k : IsIndexed (module_of m)) (h : IsRanged m) where
    spaces_are : (f : ℕ) (space : Space) → space_in all_spaces space ≡ identifiers (in_function names f space) (count_in own_counts space)
    unfolding all_spaces
    spaces_are f Types = refl
    spaces_are f Func = refl
    spaces_are f row.Table = refl
    spaces_are f row.Memory = refl
    spaces_are f row.Tag = refl
    spaces_are f row.Global = refl
    spaces_are f row.Elem = refl
    spaces_are f row.Data = refl
    spaces_are f row.Local = refl
    spaces_are f row.Label = refl

    spaces_few : (space : Space) → count_in own_counts space ≤ 2 ^ 64
    spaces_few Types = types_fit h
    spaces_few Func = omega (arith, numbers_fit h FuncKind _ h.functions, length-map m.functions function_of)
    spaces_few row.Table = omega (arith, numbers_fit h TableKind _ h.tables, length-map m.tables (λ t. table_without_places t.value))
    spaces_few row.Memory = omega (arith, numbers_fit h MemoryKind _ h.memories, length-map m.memories (λ x. x.value))
    spaces_few row.Tag = omega (arith, numbers_fit h TagKind _ h.tags, length-map m.tags (λ x. x.value))
    spaces_few row.Global = omega (arith, numbers_fit h GlobalKind _ h.globals, length-map m.globals (λ g. global_without_places g.value))
    spaces_few row.Elem = omega (arith, h.elements, length-map m.elements (λ e. element_without_places e.value))
    spaces_few row.Data = omega (arith, h.data_segments, length-map m.data_segments (λ d. data_without_places d.value))
    spaces_few row.Local = omega arith
    spaces_few row.Label = omega arith

    same_types : (f : ℕ) → HaveSameTypes (in_line (scope_of own_types names f folding) 2) whole_context own_counts
    same_types f = record { read = own_signatures; counted = λ i. refl; in_range = signatures_ranged h }

    same_names : (f : ℕ) → HaveSameNames (in_line (scope_of own_types names f folding) 2) whole_context own_counts
    same_names f = record {
      spaces = spaces_are f;
      fields = λ t fs e. field_space-identifiers_of names m.types t fs e;
      few = spaces_few;
      few_fields = λ t fs e. let less = own_fields_few m.types t fs h.each_group e in omega (arith, less);
      functions = λ t s e. own_signature_counted m.types t s e;
      signatures = λ t s e. own_signature_declared (length own_types) m.types t s k.types e;
      structures = λ t fs e. own_fields_counted m.types t fs e;
    }

    scoped : (f : ℕ) → AreScoped (scope_of own_types names f folding) whole_context own_counts
    scoped f = record { types = same_types f; names = same_names f; apart = apart; named = named; few = λ i. own_parameters_few m.types i h.each_group }

    -- ---- each field

    read_function-own : (i : ℕ) (f : PlacedFunction) → (IsRangedFunction f × Foldable folding m f.body.value.operators) × IsIndexedFunction (module_of m) (function_of f) →
        read_function whole_context (own_function false i f) ≡ Some (function_of f)
    read_function-own i f ((ranged, folds), indexes) =
        let few : variable_count (signature_at own_types f.type_index) f ≤ 2 ^ 64 =
        variables_few _ f.body.value.locals (own_parameters_few m.types f.type_index h.each_group) ranged.body.groups ranged.body.locals in
        let (type, is_type) = indexes.type_index in
        read_function-items early whole_context own_counts (scoped early.function) i (own_hints i) type f is_type
        ranged indexes.locals few indexes.operators folds

    read_tag-own : (i : ℕ) (tag : Placed ℕ) → (tag.value < 2 ^ 32) × NamesFunction (module_of m) tag.value → read_tag whole_context (own_tag i tag) ≡ Some tag.value
    read_tag-own i tag (small, (type, is_type)) =
        read_tag-items early whole_context own_counts (scoped early.function) i type tag.value is_type small

    scoped_extern : (t : ExternType) → indexed.IsIndexedExtern (module_of m) t → IsScopedExtern early own_counts t
    scoped_extern (FuncExtern i) d = d
    scoped_extern (TableExtern t) d = d
    scoped_extern (MemoryExtern t) d = tt
    scoped_extern (GlobalExtern t) d = d
    scoped_extern (TagExtern i) d = d

    read_imports-held : (n : Numbers) (is : List (Placed Import)) → AllByRecursion (λ i. IsRangedImport i.value) is → AllByRecursion (IsIndexedImport (module_of m)) (without_places is) →
        each (read_import whole_context) (imports_held early n is) ≡ Some (without_places is)
    read_imports-held n [] r d = refl
    read_imports-held n (i ∷ is) r d =
        rw (
          read_import-items early whole_context own_counts (scoped early.function) (number_of i.value.type n) i.value r.0 (scoped_extern i.value.type d.0),
          read_imports-held (numbers_after i.value.type n) is r.1 d.1,
        )

    indexed_init : (i : Option (List (Placed Operator))) → indexed.IsIndexedInit (module_of m) (option_map without_places i) →
        AllFoldable folding m (elim i as (λ x. List Operators) [ None ↦ [] | Some os ↦ os ∷ [] ]) → tables.IsIndexedInit early whole_context own_counts (scoped early.function) i
    indexed_init None d l = tt
    indexed_init (Some os) d l = (d, l.0)

    read_table-own : (i : ℕ) (t : Placed (Table (Placed Operator))) →
        ((IsRangedTable t.value × HasNoEmptyInit t.value.init) × AllFoldable folding m (init_list t)) × IsIndexedTable (module_of m) (table_without_places t.value) →
        read_table whole_context (own_table i t) ≡ Some (table_without_places t.value)
    read_table-own i t (((ranged, some), folds), indexes) =
        read_table-items early whole_context own_counts (scoped early.function) i t.value ranged some indexes.element (indexed_init t.value.init indexes.init folds)

    read_global-own : (i : ℕ) (g : Placed (Global (Placed Operator))) → (IsRangedGlobal g.value × Foldable folding m g.value.init) × IsIndexedGlobal (module_of m) (global_without_places g.value) →
        read_global whole_context (own_global i g) ≡ Some (global_without_places g.value)
    read_global-own i g ((ranged, folds), indexes) =
        read_global-items early whole_context own_counts (scoped early.function) i g.value ranged indexes.type (indexes.init, folds)

    read_export-own : (i : ℕ) (e : Placed Export) → IsRangedExport e.value × IsIndexedExport (module_of m) e.value → read_export whole_context (own_export i e) ≡ Some e.value
    read_export-own i e d = read_export-items early whole_context own_counts (scoped early.function) e.value d.0 d.1

    indexed_start : (start : Option (Placed ℕ)) → indexed.IsStart (module_of m) (option_map (λ i. i.value) start) → IsIndexedStart own_counts start
    indexed_start None d = tt
    indexed_start (Some i) d = d

    indexed_mode : (x : ElementMode (Placed Operator)) → indexed.IsIndexedMode (module_of m) (mode_without_places x) → AllFoldable folding m (offset_list x) →
        elements.IsIndexedMode early whole_context own_counts (scoped early.function) x
    indexed_mode Passive d l = tt
    indexed_mode Declared d l = tt
    indexed_mode (Active t offset) d l = (d.0, (d.1, l.0))

    indexed_expressions : (es : List (List (Placed Operator))) → AllByRecursion (indexed.IsIndexedExpression (module_of m)) (map without_places es) → AllFoldable folding m es →
        AllByRecursion (AreIndexed early own_counts) es
    indexed_expressions [] d l = tt
    indexed_expressions (e ∷ es) d l = ((d.0, l.0), indexed_expressions es d.1 l.1)

    indexed_items : (is : Items (Placed Operator)) → indexed.AreIndexedItems (module_of m) (items_without_places is) → AllFoldable folding m (item_lists is) →
        elements.AreIndexedItems early whole_context own_counts (scoped early.function) is
    indexed_items (Functions is) d l = d
    indexed_items (Expressions t es) d l = (d.0, indexed_expressions es d.1 l)

    read_element-own : (i : ℕ) (e : Placed ElementEntry) → (IsRangedElement e.value × AllFoldable folding m (element_lists false e)) × IsIndexedElement (module_of m) (element_without_places e.value) →
        read_element whole_context (own_element false i e) ≡ Some (element_without_places e.value)
    read_element-own i e ((ranged, folds), indexes) =
        let parts = all_parts (Foldable folding m) (offset_list e.value.element.mode) (item_lists e.value.element.items) folds in
        read_element-items early whole_context own_counts (scoped early.function) i e.value ranged
        (indexed_mode e.value.element.mode indexes.mode parts.0) (indexed_items e.value.element.items indexes.items parts.1)

    indexed_data_mode : (x : DataMode (Placed Operator)) → indexed.IsIndexedDataMode (module_of m) (data_mode_without_places x) →
        AllFoldable folding m (elim x as (λ y. List Operators) [ PassiveData ↦ [] | ActiveData memory os ↦ os ∷ [] ]) → data_segments.IsIndexedDataMode late whole_context own_counts (scoped late.function) x
    indexed_data_mode PassiveData d l = tt
    indexed_data_mode (ActiveData memory offset) d l = (d.0, (d.1, l.0))

    read_data-own : (i : ℕ) (d : Placed (Data (Placed Operator))) → (IsRangedData d.value × AllFoldable folding m (data_lists d)) × IsIndexedData (module_of m) (data_without_places d.value) →
        read_data whole_context (own_data false i d) ≡ Some (data_without_places d.value)
    read_data-own i x ((ranged, folds), indexes) =
        read_data-items late whole_context own_counts (scoped late.function) i x.value ranged (indexed_data_mode x.value.mode indexes folds)

    -- ---- all fields of each kind

    read_functions : each (read_function whole_context) (map_numbered (own_function false) (before FuncKind) m.functions) ≡ Some (map function_of m.functions)
    read_functions =
        each-numbered (read_function whole_context) (own_function false) function_of read_function-own _ m.functions
        (both_of_each (λ f. IsRangedFunction f × Foldable folding m f.body.value.operators) (IsIndexedFunction (module_of m)) function_of m.functions
        (and_each IsRangedFunction (λ f. Foldable folding m f.body.value.operators) m.functions h.each_function foldable.functions) k.functions)

    read_tables : AllByRecursion (λ t. HasNoEmptyInit t.value.init) m.tables →
        each (read_table whole_context) (map_numbered own_table (before TableKind) m.tables) ≡ Some (each_value table_without_places m.tables)
    read_tables some =
        each-numbered (read_table whole_context) own_table (λ t. table_without_places t.value) read_table-own _ m.tables
        (both_of_each (λ t. (IsRangedTable t.value × HasNoEmptyInit t.value.init) × AllFoldable folding m (init_list t)) (IsIndexedTable (module_of m)) (λ t. table_without_places t.value) m.tables
        (and_each (λ t. IsRangedTable t.value × HasNoEmptyInit t.value.init) (λ t. AllFoldable folding m (init_list t)) m.tables
        (and_each (λ t. IsRangedTable t.value) (λ t. HasNoEmptyInit t.value.init) m.tables h.each_table some) foldable.tables) k.tables)

    read_memories : each read_memory (map_numbered own_memory (before MemoryKind) m.memories) ≡ Some (without_places m.memories)
    read_memories =
        each-numbered read_memory own_memory (λ x. x.value) (λ i x r. read_memory-items early i x.value r) _ m.memories h.each_memory

    read_tags : each (read_tag whole_context) (map_numbered own_tag (before TagKind) m.tags) ≡ Some (without_places m.tags)
    read_tags =
        each-numbered (read_tag whole_context) own_tag (λ tag. tag.value) read_tag-own _ m.tags
        (both_of_each (λ tag. tag.value < 2 ^ 32) (NamesFunction (module_of m)) (λ tag. tag.value) m.tags h.each_tag k.tags)

    read_globals : each (read_global whole_context) (map_numbered own_global (before GlobalKind) m.globals) ≡ Some (each_value global_without_places m.globals)
    read_globals =
        each-numbered (read_global whole_context) own_global (λ g. global_without_places g.value) read_global-own _ m.globals
        (both_of_each (λ g. IsRangedGlobal g.value × Foldable folding m g.value.init) (IsIndexedGlobal (module_of m)) (λ g. global_without_places g.value) m.globals
        (and_each (λ g. IsRangedGlobal g.value) (λ g. Foldable folding m g.value.init) m.globals h.each_global foldable.globals) k.globals)

    read_exports : each (read_export whole_context) (map_numbered own_export 0 m.exports) ≡ Some (without_places m.exports)
    read_exports =
        each-numbered (read_export whole_context) own_export (λ e. e.value) read_export-own 0 m.exports
        (both_of_each (λ e. IsRangedExport e.value) (IsIndexedExport (module_of m)) (λ e. e.value) m.exports h.each_export k.exports)

    read_elements : each (read_element whole_context) (map_numbered (own_element false) 0 m.elements) ≡ Some (each_value element_without_places m.elements)
    read_elements =
        each-numbered (read_element whole_context) (own_element false) (λ e. element_without_places e.value) read_element-own 0 m.elements
        (both_of_each (λ e. IsRangedElement e.value × AllFoldable folding m (element_lists false e)) (IsIndexedElement (module_of m)) (λ e. element_without_places e.value) m.elements
        (and_each (λ e. IsRangedElement e.value) (λ e. AllFoldable folding m (element_lists false e)) m.elements h.each_element foldable.elements) k.elements)

    read_datas : each (read_data whole_context) (map_numbered (own_data false) 0 m.data_segments) ≡ Some (each_value data_without_places m.data_segments)
    read_datas =
        each-numbered (read_data whole_context) (own_data false) (λ d. data_without_places d.value) read_data-own 0 m.data_segments
        (both_of_each (λ d. IsRangedData d.value × AllFoldable folding m (data_lists d)) (IsIndexedData (module_of m)) (λ d. data_without_places d.value) m.data_segments
        (and_each (λ d. IsRangedData d.value) (λ d. AllFoldable folding m (data_lists d)) m.data_segments h.each_data foldable.data_segments) k.data_segments)

    read_types : each (read_group all_spaces.types) (group_bodies names 0 m.types) ≡ Some own_groups
    unfolding all_spaces
    read_types =
        read_groups-items names (own_space Types) (type_bound early whole_context own_counts (scoped early.function))
        (type_indices-read early whole_context own_counts (scoped early.function)) apart.fields 0 m.types
        (all_bounded own_counts.types (groups_of m.types) (groups_ranged m.types h.each_group) k.types) h.each_group

    -- The module without its custom sections, which no field contains
    abbrev uncustomed : Module
    uncustomed = record (module_of m) { customs = [] }

    module_of-all_fields : AllByRecursion (λ t. HasNoEmptyInit t.value.init) m.tables → module_of_fields all_fields ≡ Some uncustomed
    unfolding all_fields
    module_of-all_fields some =
        rw (
          spaces_of-all_fields apart h,
          read_types,
          read_imports-held no_numbers m.imports h.each_import k.imports,
          read_functions,
          read_tables some,
          read_memories,
          read_tags,
          read_globals,
          read_exports,
          read_start-items early whole_context own_counts (scoped early.function) m.start h.start (indexed_start m.start k.start),
          read_elements,
          read_datas,
          group_types-identifiers_of names 0 m.types,
        )

  -- The fields do not start with an identifier.
  unidentified_fields : (k : Kind) (f : Forest) → IsUnidentified f → IsUnidentified (onto (fields_items false k) f)
  unidentified_fields TypeSection f h = unidentified_types names 0 m.types f h
  unidentified_fields ImportSection f h = unidentified_imports early no_numbers m.imports f h
  unidentified_fields FunctionSection f h = h
  unidentified_fields StartSection f h = unidentified_start early m.start f h
  unidentified_fields DataCountSection f h = h
  unidentified_fields CustomSection f h = h
  unidentified_fields _ f h = unidentified_rows _ f h

  unidentified_kinds : (ks : List Kind) → IsUnidentified (kinds_items false ks)
  unidentified_kinds [] = refl
  unidentified_kinds (k ∷ ks) = unidentified_fields k (kinds_items false ks) (unidentified_kinds ks)

  pub no_identifier : IsUnidentified (module_items false)
  unfolding module_items
  no_identifier = unidentified_kinds section_order

  -- After the word `module`, the identifier and the fields of the module read back.
  pub module_reads : AreApart names → AreNamed names → CanFold folding m → IsIndexed (module_of m) → IsRanged m → AllByRecursion (λ t. HasNoEmptyInit t.value.init) m.tables →
      read_forest (Group (Word (codes "module") (onto (id_items names.module_name) (module_items false))) End) ≡ Some (record (module_of m) { customs = [] })
  module_reads apart named foldable k h some =
      rw (declaration-items names.module_name (module_items false) no_identifier, fields-module_items h, module_of-all_fields apart named foldable k h some)
