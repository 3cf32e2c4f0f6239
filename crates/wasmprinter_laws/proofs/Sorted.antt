-- The fields of a module, sorted by kind
use Rattle.std.proofs.Common.{◌≡◌, ℕ, ◌+◌, Bool, true, false, List, [], ◌∷◌, ◌++◌, length, Option, Some, None, refl, sym, ap, subst, ◌∙◌, codes, option_map}
use Rattle.std.specs.List.{AllByRecursion}
use Rattle.wasmprinter_spec.specs.Grammar.{Placed, ◌>>=◌}
use Rattle.wasmprinter_spec.specs.Forest.{Forest, Word, onto}
use Rattle.wasmprinter_spec.specs.Types.{SubType, ExternType}
use Rattle.wasmprinter_spec.specs.Row.{Func}
use Rattle.wasmprinter_spec.specs.Names.{Names}
use Rattle.wasmprinter_spec.specs.Indexed.{space_of}
use Rattle.wasmprinter_spec.specs.Placed.{TypeGroup, Import}
use Rattle.wasmprinter_spec.specs.Layout.Declarations.{Scope}
use Rattle.wasmprinter_spec.specs.Layout.Imports.{Numbers, number_of, numbers_after}
use Rattle.wasmprinter_spec.specs.Text.Items.{identifier_in_front}
use Rattle.wasmprinter_spec.specs.Text.Imports.{ImportField}
use Rattle.wasmprinter_spec.specs.Read.{Fields, with_start, with_field, fields}
use Rattle.wasmprinter_laws.proofs.Tokens.Grown.{onto_assoc}
use Rattle.wasmprinter_laws.proofs.Ranged.{IsRangedImport}
use Rattle.wasmprinter_laws.proofs.Declarations.{id}
use Rattle.wasmprinter_laws.proofs.Identifiers.{IsUnidentified}
use Rattle.wasmprinter_laws.proofs.Numbered.{rows, map_numbered}
use Rattle.wasmprinter_laws.proofs.Spaces.{kind_of_extern, held_imports}
use Rattle.wasmprinter_laws.proofs.Types.Ranged.{IsSingle, IsRangedGroup}
use Rattle.wasmprinter_laws.proofs.Types.Trees.{type_items, type_field, members_items, type_group_items_by, type_section_items}
use Rattle.wasmprinter_laws.proofs.Types.Back.{group_members-items}
use Rattle.wasmprinter_laws.proofs.Fields.Scopes.{own_index}
use Rattle.wasmprinter_laws.proofs.Fields.Start.{start_held, start_items}
use Rattle.wasmprinter_laws.proofs.Fields.Imports.{extern_items, import_items, imports_items, import_field-items, identifier_in_front-extern}

-- ---- fields of one kind, before others

-- Fields that start with the word w, each with the items of an element and its number
abbrev pub field_rows : {A : Type 0} → List ℕ → (ℕ → A → Forest) → ℕ → List A → Forest
field_rows w items i xs = rows (map_numbered (λ k x. Word w (items k x)) i xs)

-- Fields with this word are gathered in one list of `Fields`, if no imports follow them.
pub record IsGathered (w : List ℕ) (held : Fields → List Forest) (holding : List Forest → Fields → Fields) : Type 0 where
  takes : (f : Forest) (m : Fields) → m.imports ≡ [] → with_field w f m ≡ Some (holding (f ∷ held m) m)
  alone : (m : Fields) → holding (held m) m ≡ m
  first : (fs : List Forest) (m : Fields) → held (holding fs m) ≡ fs
  last : (fs gs : List Forest) (m : Fields) → holding fs (holding gs m) ≡ holding fs m
  leaves : (fs : List Forest) (m : Fields) → (holding fs m).imports ≡ m.imports

pub gathered_functions : IsGathered (codes "func") (λ m. m.functions) (λ fs m. record m { functions = fs })
gathered_functions = record { takes = λ f m e. rw e; alone = λ m. refl; first = λ fs m. refl; last = λ fs gs m. refl; leaves = λ fs m. refl }

pub gathered_tables : IsGathered (codes "table") (λ m. m.tables) (λ fs m. record m { tables = fs })
gathered_tables = record { takes = λ f m e. rw e; alone = λ m. refl; first = λ fs m. refl; last = λ fs gs m. refl; leaves = λ fs m. refl }

pub gathered_memories : IsGathered (codes "memory") (λ m. m.memories) (λ fs m. record m { memories = fs })
gathered_memories = record { takes = λ f m e. rw e; alone = λ m. refl; first = λ fs m. refl; last = λ fs gs m. refl; leaves = λ fs m. refl }

pub gathered_tags : IsGathered (codes "tag") (λ m. m.tags) (λ fs m. record m { tags = fs })
gathered_tags = record { takes = λ f m e. rw e; alone = λ m. refl; first = λ fs m. refl; last = λ fs gs m. refl; leaves = λ fs m. refl }

pub gathered_globals : IsGathered (codes "global") (λ m. m.globals) (λ fs m. record m { globals = fs })
gathered_globals = record { takes = λ f m e. rw e; alone = λ m. refl; first = λ fs m. refl; last = λ fs gs m. refl; leaves = λ fs m. refl }

pub gathered_exports : IsGathered (codes "export") (λ m. m.exports) (λ fs m. record m { exports = fs })
gathered_exports = record { takes = λ f m e. refl; alone = λ m. refl; first = λ fs m. refl; last = λ fs gs m. refl; leaves = λ fs m. refl }

pub gathered_elements : IsGathered (codes "elem") (λ m. m.elements) (λ fs m. record m { elements = fs })
gathered_elements = record { takes = λ f m e. refl; alone = λ m. refl; first = λ fs m. refl; last = λ fs gs m. refl; leaves = λ fs m. refl }

pub gathered_datas : IsGathered (codes "data") (λ m. m.data_segments) (λ fs m. record m { data_segments = fs })
gathered_datas = record { takes = λ f m e. refl; alone = λ m. refl; first = λ fs m. refl; last = λ fs gs m. refl; leaves = λ fs m. refl }

pub fields-gathered : {A : Type 0} {w : List ℕ} {held : Fields → List Forest} {holding : List Forest → Fields → Fields} → IsGathered w held holding →
    (items : ℕ → A → Forest) (i : ℕ) (xs : List A) (f : Forest) (m : Fields) → m.imports ≡ [] → fields f ≡ Some m →
    fields (onto (field_rows w items i xs) f) ≡ Some (holding (map_numbered items i xs ++ held m) m)
unfolding rows
fields-gathered g items i [] f m none e = e ∙ ap (λ x. Some x) (sym (g.alone m))
fields-gathered {w = w} {held = held} {holding = holding} g items i (x ∷ xs) f m none e =
    let fs : List Forest = map_numbered items (i + 1) xs ++ held m in
    ap (λ o. o >>= with_field w (items i x)) (fields-gathered g items (i + 1) xs f m none e)
    ∙ g.takes (items i x) (holding fs m) (g.leaves fs m ∙ none)
    ∙ ap (λ gs. Some (holding (items i x ∷ gs) (holding fs m))) (g.first fs m)
    ∙ ap (λ x. Some x) (g.last (items i x ∷ fs) fs m)

-- The start function is read if no other one follows it.
pub fields-start : (s : Scope) (start : Option (Placed ℕ)) (f : Forest) (m : Fields) → m.start ≡ None → fields f ≡ Some m →
    fields (onto (start_items s start) f) ≡ Some (record m { start = start_held s start })
fields-start s None f m none e = e ∙ ap (λ x. Some (record m { start = x })) none
fields-start s (Some i) f m none e =
    ap (λ o. o >>= with_field (codes "start") (own_index s Func i.value)) e ∙ ap (with_start (own_index s Func i.value) m) none

-- ---- imports

pub extern_id : (s : Scope) (n : ℕ) (t : ExternType) → (identifier_in_front (extern_items s n t)).0 ≡ id (s.names.items (space_of (kind_of_extern t)) n)
extern_id s n t = ap (λ x. x.0) (identifier_in_front-extern s n t)

abbrev pub imports_held : Scope → Numbers → List (Placed Import) → List ImportField
imports_held s n is = held_imports s.names (extern_items s) (extern_id s) n is

-- Imports are read before all other fields.
pub fields-imports : (s : Scope) (n : Numbers) (is : List (Placed Import)) (f : Forest) (m : Fields) → AllByRecursion (λ i. IsRangedImport i.value) is →
    fields f ≡ Some m → fields (onto (imports_items s n is) f) ≡ Some (record m { imports = imports_held s n is ++ m.imports })
fields-imports s n [] f m h e = e
fields-imports s n (i ∷ is) f m h e =
    let after : Numbers = numbers_after i.value.type n in
    let held : List ImportField = imports_held s after is ++ m.imports in
    let k : ℕ = number_of i.value.type n in
    ap (λ o. o >>= with_field (codes "import") (import_items s k i.value)) (fields-imports s after is f m h.1 e)
    ∙ ap (option_map (λ j. record m { imports = j ∷ held })) (import_field-items s k i.value h.0)

-- ---- types

-- The items inside the fields of each group's types
abbrev pub group_bodies : Names → ℕ → List (Placed TypeGroup) → List (List Forest)
group_bodies names i [] = []
group_bodies names i (g ∷ gs) = map_numbered (type_items names) i g.value.types ∷ group_bodies names (i + length g.value.types) gs

-- The types of a group are read, whether it is written as a group or not.
fields-group : (names : Names) (written : Bool) (i : ℕ) (ts : List SubType) (f : Forest) (m : Fields) → IsSingle written ts → fields f ≡ Some m →
    fields (onto (type_group_items_by names written (members_items names i ts)) f) ≡ Some (record m { types = map_numbered (type_items names) i ts ∷ m.types })
unfolding rows
fields-group names true i ts f m h e = rw (e, group_members-items names i ts)
fields-group names false i (t ∷ []) f m h e = rw e
fields-group names false i [] f m h e = absurd h
fields-group names false i (t ∷ u ∷ ts) f m h e = absurd h

pub fields-types : (names : Names) (i : ℕ) (gs : List (Placed TypeGroup)) (f : Forest) (m : Fields) → AllByRecursion (λ g. IsRangedGroup g.value) gs →
    fields f ≡ Some m → fields (onto (type_section_items names i gs) f) ≡ Some (record m { types = group_bodies names i gs ++ m.types })
fields-types names i [] f m h e = e
fields-types names i (g ∷ gs) f m h e =
    let group : Forest = type_group_items_by names g.value.explicit (members_items names i g.value.types) in
    let rest : Forest = type_section_items names (i + length g.value.types) gs in
    ap fields (onto_assoc group rest f)
    ∙ fields-group names g.value.explicit i g.value.types (onto rest f) _ h.0.single (fields-types names (i + length g.value.types) gs f m h.1 e)

-- ---- fields do not start with an identifier

pub unidentified_rows : (gs : List Forest) (f : Forest) → IsUnidentified f → IsUnidentified (onto (rows gs) f)
unfolding rows
unidentified_rows [] f h = h
unidentified_rows (g ∷ gs) f h = refl

pub unidentified_imports : (s : Scope) (n : Numbers) (is : List (Placed Import)) (f : Forest) → IsUnidentified f → IsUnidentified (onto (imports_items s n is) f)
unidentified_imports s n [] f h = h
unidentified_imports s n (i ∷ is) f h = refl

pub unidentified_start : (s : Scope) (start : Option (Placed ℕ)) (f : Forest) → IsUnidentified f → IsUnidentified (onto (start_items s start) f)
unidentified_start s None f h = h
unidentified_start s (Some i) f h = refl

unidentified_group : (names : Names) (written : Bool) (i : ℕ) (ts : List SubType) (f : Forest) → IsUnidentified f →
    IsUnidentified (onto (type_group_items_by names written (members_items names i ts)) f)
unidentified_group names true i ts f h = refl
unidentified_group names false i ts f h = unidentified_rows (map_numbered (type_field names) i ts) f h

pub unidentified_types : (names : Names) (i : ℕ) (gs : List (Placed TypeGroup)) (f : Forest) → IsUnidentified f → IsUnidentified (onto (type_section_items names i gs) f)
unidentified_types names i [] f h = h
unidentified_types names i (g ∷ gs) f h =
    let group : Forest = type_group_items_by names g.value.explicit (members_items names i g.value.types) in
    let rest : Forest = type_section_items names (i + length g.value.types) gs in
    let after : IsUnidentified (onto rest f) = unidentified_types names (i + length g.value.types) gs f h in
    subst IsUnidentified (sym (onto_assoc group rest f)) (unidentified_group names g.value.explicit i g.value.types (onto rest f) after)
