-- A module that bytes encode is in range.
use Rattle.std.proofs.Common.{◌≡◌, ℕ, suc, ◌<◌, ◌≤◌, ◌+◌, ◌^◌, ◌&&◌, List, [], ◌∷◌, length, Option, Some, None, refl, sym, ap, subst, inl, inr, arith}
use Rattle.std.specs.List.{AllByRecursion}
use Rattle.std.proofs.lemmas.Bool.{and_parts}
use Rattle.std.proofs.lemmas.List.{length-append, length-map}
use Rattle.wasmprinter_spec.specs.Choices.{tested}
use Rattle.wasmprinter_spec.specs.Grammar.{Grammar, Placed, ◌>>=◌, bind_some, some_is, seq, map_value, value_with_place}
use Rattle.wasmprinter_spec.specs.Name.{u32}
use Rattle.wasmprinter_spec.specs.Operator.{Operator}
use Rattle.wasmprinter_spec.specs.Nesting.{Nests, Sequence}
use Rattle.wasmprinter_spec.specs.Instructions.{roles, operator, operator_takes}
use Rattle.wasmprinter_spec.specs.Repeated.{AreItems}
use Rattle.wasmprinter_spec.specs.Module.{without_places}
use Rattle.wasmprinter_spec.specs.Placed.{Body, Custom, custom_of, PlacedFunction, PlacedModule}
use Rattle.wasmprinter_spec.specs.Sized.{exactly, alone}
use Rattle.wasmprinter_spec.specs.Binary.Exports.{extern_kind, export}
use Rattle.wasmprinter_spec.specs.Binary.Customs.{custom_section}
use Rattle.wasmprinter_spec.specs.Binary.Code.{local_entry, body_from, body, code_entry}
use Rattle.wasmprinter_spec.specs.Sections.{Kind, CustomSection, TypeSection, ImportSection, FunctionSection, TableSection, MemorySection, TagSection, GlobalSection, ExportSection, StartSection, ElementSection, DataCountSection, CodeSection, DataSection, Section, holds, content, content_of, section_id, section, are_above, kind_after, customs_after}
use Rattle.wasmprinter_spec.proofs.Ordered.{picks, held_each}
use Rattle.wasmprinter_spec.specs.Binary.{type_indices_in, bodies_in, data_count_in, datas_in, counts_data, function_pairs, module_from, module_of_sections, AreBytes, Spells}
use Rattle.wasmprinter_laws.specs.Listed.{IsListed}
use Rattle.wasmprinter_laws.proofs.Ranged.{IsRangedImport, IsRangedTable, IsRangedMemory, IsRangedGlobal, IsRangedExport, IsRangedStart, IsRangedElement, IsRangedData, IsRangedCustom, IsRangedLocal, ArePlaced, IsRangedBody, IsRangedFunction, IsRanged}
use Rattle.wasmprinter_laws.proofs.Customs.Ordered.{in_order}
use Rattle.wasmprinter_laws.proofs.AllSpelled.{AllSpelled, split_bytes, entries_have, Spelled-any, Spelled-seq, Spelled-map_value, Spelled-value_with_place, Spelled-exactly, Spelled-within}
use Rattle.wasmprinter_laws.proofs.Few.{FewSpelled, AllSpelled-few}
use Rattle.wasmprinter_laws.proofs.PartRanges.{AllSpelled-name, AllSpelled-memory_type, AllSpelled-tag, FewSpelled-table, FewSpelled-global, AllSpelled-import, FewSpelled-element, FewSpelled-data}
use Rattle.wasmprinter_laws.proofs.Vectors.{IsVector, AllSpelled-u32, Spelled-vec}
use Rattle.wasmprinter_laws.proofs.Types.Ranged.{IsRangedGroup}
use Rattle.wasmprinter_laws.proofs.Types.Ranges.{AllSpelled-val_type, AllSpelled-group}
use Rattle.wasmprinter_laws.proofs.Operators.Spelled.{AllSpelled-expression, expression_takes}

-- ---- sections

-- Locals whose types are in range, and operators that are listed and well nested
record IsNestedBody (b : Body) : Type 0 where
  locals : IsVector (λ e. IsRangedLocal e.value) b.locals
  listed : AllByRecursion IsListed (without_places b.operators)
  nested : Nests Sequence (roles b.operators)

-- The content of a section of each kind is in range: a vector, or the start function.
abbrev IsRangedSection : Section → Type 0
IsRangedSection (holds CustomSection c) = IsRangedCustom c.value
IsRangedSection (holds TypeSection gs) = IsVector (λ g. IsRangedGroup g.value) gs
IsRangedSection (holds ImportSection is) = IsVector (λ i. IsRangedImport i.value) is
IsRangedSection (holds FunctionSection is) = IsVector (λ i. i < 2 ^ 32) is
IsRangedSection (holds TableSection ts) = IsVector (λ t. IsRangedTable t.value) ts
IsRangedSection (holds MemorySection xs) = IsVector (λ x. IsRangedMemory x.value) xs
IsRangedSection (holds TagSection is) = IsVector (λ i. i.value < 2 ^ 32) is
IsRangedSection (holds GlobalSection gs) = IsVector (λ g. IsRangedGlobal g.value) gs
IsRangedSection (holds ExportSection es) = IsVector (λ e. IsRangedExport e.value) es
IsRangedSection (holds StartSection start) = IsRangedStart start
IsRangedSection (holds ElementSection es) = IsVector (λ e. IsRangedElement e.value) es
IsRangedSection (holds DataCountSection count) = Unit {0}
IsRangedSection (holds CodeSection bs) = IsVector IsRangedBody bs
IsRangedSection (holds DataSection ds) = IsVector (λ d. IsRangedData d.value) ds

-- An export is in range: a name, a kind and an index.
AllSpelled-export : AllSpelled export IsRangedExport
AllSpelled-export =
    Spelled-map_value (Spelled-seq AllSpelled-name (λ _. Spelled-seq (Spelled-any extern_kind) (λ _. AllSpelled-u32)))
    (λ x (name, (_, index)). record { name = name; index = index })

-- A group of locals is in range: a count and a type.
AllSpelled-local_entry : AllSpelled local_entry IsRangedLocal
AllSpelled-local_entry = Spelled-map_value (Spelled-seq AllSpelled-u32 (λ _. AllSpelled-val_type)) (λ x h. record { count = h.0; type = h.1 })

-- The locals and operators of a body are in range.
AllSpelled-body : AllSpelled body (λ b. IsNestedBody b)
AllSpelled-body =
    Spelled-map_value (Spelled-seq (Spelled-vec (Spelled-value_with_place AllSpelled-local_entry)) (λ _. AllSpelled-expression))
    (λ x h. record { locals = h.0; listed = h.1.listed; nested = h.1.nested })

-- A body has at most as many operators as bytes.
body_takes : (p : ℕ) (text : List ℕ) (b : Placed Body) → (value_with_place body).spells p text b → length b.value.operators ≤ length text
body_takes p text b (here, ((locals, code), made, (t, u, joined, locals_spelled, code_spelled))) =
    let same : body_from locals code ≡ b.value = some_is (body_from locals code) b.value made in
    let count : length code.items ≤ length u = expression_takes (p + length t) u code code_spelled in
    omega (arith, count, ap (λ y. length y.operators) same, ap length joined, length-append t u)

-- Operators that are encoded one after the other have increasing places.
operators_placed : (os : List (Placed Operator)) (low p : ℕ) (text : List ℕ) → low ≤ p → AreItems (value_with_place operator) p text os → ArePlaced low os
operators_placed [] low p text h s = tt
operators_placed (o ∷ os) low p text h (t, u, joined, spelled, all_spelled) =
    let takes : 0 < length t = operator_takes p t o spelled in
    (omega (arith, h, spelled.0), operators_placed os (suc o.place) (p + length t) u (omega (arith, takes, spelled.0)) all_spelled)

body_placed : (p : ℕ) (text : List ℕ) (b : Placed Body) → (value_with_place body).spells p text b → ArePlaced b.place b.value.operators
body_placed p text b (here, ((locals, code), made, (front, back, joined, locals_spelled, (t, closed, all_spelled, nested, end_place)))) =
    let same : body_from locals code ≡ b.value = some_is (body_from locals code) b.value made in
    let placed : ArePlaced b.place code.items =
    operators_placed code.items b.place (p + length front) t (omega (arith, here)) all_spelled in
    subst (λ y. ArePlaced b.place y.operators) same placed

AllSpelled-placed_body : AllSpelled (value_with_place body) (λ b. IsNestedBody b.value × ArePlaced b.place b.value.operators)
AllSpelled-placed_body = record {
  has = λ p text b bytes s. ((Spelled-value_with_place AllSpelled-body).has p text b bytes s, body_placed p text b s);
}

-- The body in a code entry is in range.
AllSpelled-code_entry : AllSpelled code_entry IsRangedBody
AllSpelled-code_entry =
    Spelled-map_value (Spelled-seq AllSpelled-u32 (λ size. Spelled-within {size = λ b. length b.value.operators} body_takes AllSpelled-placed_body size))
    (λ x (small, ((own, placed), few)). record {
      groups = own.locals.count;
      locals = own.locals.each;
      listed = own.listed;
      nested = own.nested;
      count = omega (arith, small, few, length-map x.1.value.operators (λ (o : Placed Operator). o.value));
      places = placed;
    })

-- A size, followed by the content of a section in that many bytes, gives a section in range.
AllSpelled-sized : {A : Type 0} {g : Grammar A} {P : A → Type 0} (made : A → Section) → AllSpelled g P → ((a : A) → P a → IsRangedSection (made a))
    → AllSpelled (map_value (λ x. made x.1) (seq u32 (λ size. exactly (alone g) size))) IsRangedSection
AllSpelled-sized made all keeps = Spelled-map_value (Spelled-seq AllSpelled-u32 (λ size. Spelled-exactly all size)) (λ x h. keeps x.1 h.1)

-- The same for a fact about fewer than 2 ^ 32 bytes
AllSpelled-few_sized : {A : Type 0} {g : Grammar A} {P : A → Type 0} (made : A → Section) → FewSpelled g P → ((a : A) → P a → IsRangedSection (made a))
    → AllSpelled (map_value (λ x. made x.1) (seq u32 (λ size. exactly (alone g) size))) IsRangedSection
AllSpelled-few_sized made all keeps = Spelled-map_value (Spelled-seq AllSpelled-u32 (λ size. AllSpelled-few all size)) (λ x h. keeps x.1 (h.1 h.0))

-- A custom section, a name and all other bytes, is in range.
custom_has : (p : ℕ) (text : List ℕ) (c : Placed Custom) → AreBytes text → custom_section.spells p text c → IsRangedCustom c.value
custom_has p text c bytes (here, ((title, rest), made, (t, u, joined, title_spelled, (rest_place, all_left)))) =
    let both = split_bytes t u (subst AreBytes joined bytes) in
    subst IsRangedCustom (some_is (custom_of title rest) c.value made)
    (record { name = AllSpelled-name.has p t title both.0 title_spelled; bytes = subst AreBytes (sym all_left) both.1 })

AllSpelled-custom : (size : ℕ) → AllSpelled (exactly custom_section size) (λ c. IsRangedCustom c.value)
AllSpelled-custom size = record { has = λ p text c bytes s. custom_has p text c bytes s.1 }

-- The content of a section of each kind is in range.
AllSpelled-content : (kind : Kind) → AllSpelled (map_value (λ x. holds kind x.1) (seq u32 (λ size. exactly (content kind) size))) IsRangedSection
AllSpelled-content CustomSection = Spelled-map_value (Spelled-seq AllSpelled-u32 (λ size. AllSpelled-custom size)) (λ x h. h.1)
AllSpelled-content TypeSection = AllSpelled-sized (holds TypeSection) (Spelled-vec (Spelled-value_with_place AllSpelled-group)) (λ gs h. h)
AllSpelled-content ImportSection = AllSpelled-sized (holds ImportSection) (Spelled-vec (Spelled-value_with_place AllSpelled-import)) (λ is h. h)
AllSpelled-content FunctionSection = AllSpelled-sized (holds FunctionSection) (Spelled-vec AllSpelled-u32) (λ is h. h)
AllSpelled-content TableSection = AllSpelled-few_sized (holds TableSection) (Spelled-vec (Spelled-value_with_place FewSpelled-table)) (λ ts h. h)
AllSpelled-content MemorySection = AllSpelled-sized (holds MemorySection) (Spelled-vec (Spelled-value_with_place AllSpelled-memory_type)) (λ xs h. h)
AllSpelled-content TagSection = AllSpelled-sized (holds TagSection) (Spelled-vec (Spelled-value_with_place AllSpelled-tag)) (λ is h. h)
AllSpelled-content GlobalSection = AllSpelled-few_sized (holds GlobalSection) (Spelled-vec (Spelled-value_with_place FewSpelled-global)) (λ gs h. h)
AllSpelled-content ExportSection = AllSpelled-sized (holds ExportSection) (Spelled-vec (Spelled-value_with_place AllSpelled-export)) (λ es h. h)
AllSpelled-content StartSection = AllSpelled-sized (holds StartSection) (Spelled-map_value (Spelled-value_with_place AllSpelled-u32) (λ i h. h)) (λ start h. h)
AllSpelled-content ElementSection = AllSpelled-few_sized (holds ElementSection) (Spelled-vec (Spelled-value_with_place FewSpelled-element)) (λ es h. h)
AllSpelled-content DataCountSection = AllSpelled-sized (holds DataCountSection) (Spelled-map_value AllSpelled-u32 (λ n h. tt)) (λ count h. h)
AllSpelled-content CodeSection = AllSpelled-sized (holds CodeSection) (Spelled-vec AllSpelled-code_entry) (λ bs h. h)
AllSpelled-content DataSection = AllSpelled-few_sized (holds DataSection) (Spelled-vec (Spelled-value_with_place FewSpelled-data)) (λ ds h. h)

-- A section is in range.
AllSpelled-section : AllSpelled section IsRangedSection
AllSpelled-section = Spelled-map_value (Spelled-seq (Spelled-any section_id) (λ k. AllSpelled-content k)) (λ x h. h.1)

-- The empty list is a vector.
no_items : {A : Type 0} (P : A → Type 0) → IsVector P []
no_items P = record { count = omega arith; each = tt }

-- If each section is in range, then so is each custom section.
customs_each : (last : Option Kind) (ss : List Section) → AllByRecursion IsRangedSection ss → AllByRecursion (λ c. IsRangedCustom c.section.value) (customs_after last ss)
customs_each last [] all = tt
customs_each last (s ∷ ss) all =
    elim (picks CustomSection s) [
      | inl other ↦ rw other (customs_each (kind_after last s) ss all.1)
      | inr own ↦ rw (ap (content_of CustomSection) own.1) (subst IsRangedSection own.1 all.0, customs_each (kind_after last s) ss all.1)
    ]

-- ---- functions

-- n functions, each in range
abbrev AreRangedFunctions : ℕ → List PlacedFunction → Type 0
AreRangedFunctions n fs = (length fs ≡ n) × AllByRecursion IsRangedFunction fs

-- Type indices paired with bodies are as many functions, each in range.
pairs_ranged : (is : List ℕ) (bs : List (Placed Body)) (fs : List PlacedFunction) → function_pairs is bs ≡ Some fs →
    AllByRecursion (λ i. i < 2 ^ 32) is → AllByRecursion IsRangedBody bs → AreRangedFunctions (length is) fs
pairs_ranged [] [] fs e indices bodies = subst (AreRangedFunctions 0) (some_is [] fs e) (refl, tt)
pairs_ranged (i ∷ is) (b ∷ bs) fs e indices bodies =
    let first : PlacedFunction = record { type_index = i; body = b } in
    let (others, paired, result) = bind_some (function_pairs is bs) (λ gs. Some (first ∷ gs)) fs e in
    let ranged = pairs_ranged is bs others paired indices.1 bodies.1 in
    subst (AreRangedFunctions (length (i ∷ is))) (some_is (first ∷ others) fs result)
    (ap suc ranged.0, (record { type_index = indices.0; body = bodies.0 }, ranged.1))
pairs_ranged [] (b ∷ bs) fs e indices bodies = absurd cc
pairs_ranged (i ∷ is) [] fs e indices bodies = absurd cc

-- ---- the module

-- A module of sections in range is in range.
module_ranged : (size : ℕ) (ss : List Section) (m : PlacedModule) → module_of_sections size ss ≡ Some m → AllByRecursion IsRangedSection ss → IsRanged m
module_ranged size ss m e ranged =
    let ordered = tested (are_above 0 ss && counts_data (data_count_in ss) (length (datas_in ss))) (function_pairs (type_indices_in ss) (bodies_in ss) >>= λ fs. Some (module_from size ss fs)) m e in
    let (functions, paired, result) =
    bind_some (function_pairs (type_indices_in ss) (bodies_in ss)) (λ fs. Some (module_from size ss fs)) m ordered.1 in
    let types = held_each TypeSection IsRangedSection [] ss ranged (no_items (λ g. IsRangedGroup g.value)) in
    let imports = held_each ImportSection IsRangedSection [] ss ranged (no_items (λ i. IsRangedImport i.value)) in
    let type_indices = held_each FunctionSection IsRangedSection [] ss ranged (no_items (λ i. i < 2 ^ 32)) in
    let tables = held_each TableSection IsRangedSection [] ss ranged (no_items (λ t. IsRangedTable t.value)) in
    let memories = held_each MemorySection IsRangedSection [] ss ranged (no_items (λ x. IsRangedMemory x.value)) in
    let tags = held_each TagSection IsRangedSection [] ss ranged (no_items (λ i. i.value < 2 ^ 32)) in
    let globals = held_each GlobalSection IsRangedSection [] ss ranged (no_items (λ g. IsRangedGlobal g.value)) in
    let exports = held_each ExportSection IsRangedSection [] ss ranged (no_items (λ e. IsRangedExport e.value)) in
    let start = held_each StartSection IsRangedSection None ss ranged tt in
    let elements = held_each ElementSection IsRangedSection [] ss ranged (no_items (λ e. IsRangedElement e.value)) in
    let bodies = held_each CodeSection IsRangedSection [] ss ranged (no_items IsRangedBody) in
    let customs = customs_each None ss ranged in
    let data_segments = held_each DataSection IsRangedSection [] ss ranged (no_items (λ d. IsRangedData d.value)) in
    let pairs = pairs_ranged (type_indices_in ss) (bodies_in ss) functions paired type_indices.each bodies.each in
    subst IsRanged (some_is (module_from size ss functions) m result)
    (record {
      types = types.count;
      imports = imports.count;
      tables = tables.count;
      memories = memories.count;
      tags = tags.count;
      globals = globals.count;
      exports = exports.count;
      elements = elements.count;
      functions = omega (arith, pairs.0, type_indices.count);
      data_segments = data_segments.count;
      each_group = types.each;
      each_import = imports.each;
      each_table = tables.each;
      each_memory = memories.each;
      each_tag = tags.each;
      each_global = globals.each;
      each_export = exports.each;
      start = start;
      each_element = elements.each;
      each_function = pairs.1;
      each_data = data_segments.each;
      each_custom = customs;
      customs_in_order = in_order 0 None ss refl (omega arith) (and_parts (are_above 0 ss) (counts_data (data_count_in ss) (length (datas_in ss))) ordered.0).0;
    })

-- A module that bytes encode is in range.
pub ranged : (bytes : List ℕ) (m : PlacedModule) → Spells bytes m → IsRanged m
ranged bytes m s =
    let ((marks, sections), made, (t, u, joined, preamble, entries)) = s.spelled in
    let parts = split_bytes t u (subst AreBytes joined s.are_bytes) in
    module_ranged (0 + length bytes) sections m made (entries_have AllSpelled-section sections (0 + length t) u parts.1 entries)
