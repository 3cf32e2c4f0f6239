-- The places in each kind of section are within the section.
use Rattle.std.proofs.Common.{◌≡◌, ℕ, ◌+◌, ◌≤◌, ◌==◌, List, [], ◌∷◌, ◌++◌, length, Bool, true, false, refl, sym, ap, subst, ◌∙◌, arith, map}
use Rattle.std.specs.List.{flat_map}
use Rattle.std.proofs.lemmas.List.{length-append}
use Rattle.wasmprinter_spec.specs.Grammar.{Remainder, Placed, value_with_place, choose, map_value, some_is}
use Rattle.wasmprinter_spec.specs.Name.{u32, vec}
use Rattle.wasmprinter_spec.specs.Types.{SubType}
use Rattle.wasmprinter_spec.specs.Placed.{TypeGroup, type_group, Custom, custom_of}
use Rattle.wasmprinter_spec.specs.Customs.{custom_treatment_of}
use Rattle.wasmprinter_spec.specs.Customs.Hints.{hints_given}
use Rattle.wasmprinter_spec.specs.Binary.Types.{subtype, sub_type_after, group}
use Rattle.wasmprinter_spec.specs.Binary.Imports.{import}
use Rattle.wasmprinter_spec.specs.Binary.Tables.{table}
use Rattle.wasmprinter_spec.specs.Binary.Memories.{memory_type}
use Rattle.wasmprinter_spec.specs.Binary.Tags.{tag}
use Rattle.wasmprinter_spec.specs.Binary.Globals.{global}
use Rattle.wasmprinter_spec.specs.Binary.Exports.{export}
use Rattle.wasmprinter_spec.specs.Binary.Elements.{element}
use Rattle.wasmprinter_spec.specs.Binary.DataSegments.{segment}
use Rattle.wasmprinter_spec.specs.Binary.Customs.{custom_section}
use Rattle.wasmprinter_spec.specs.Sections.{Kind, CustomSection, TypeSection, ImportSection, FunctionSection, TableSection, MemorySection, TagSection, GlobalSection, ExportSection, StartSection, ElementSection, DataCountSection, CodeSection, DataSection, Section, holds, content, section_id, section}
use Rattle.wasmprinter_spec.specs.Lines.{places, places_of_hints}
use Rattle.wasmprinter_spec.specs.Apart.{member_places, group_places, start_places, treatment_places, body_places}
use Rattle.wasmprinter_laws.proofs.Lines.Order.{Order, rising, inside, Inside, inside_ends, inside_wider, inside_both}
use Rattle.wasmprinter_laws.proofs.Lines.Lies.{Lies, Lies-any, Lies-byte, Lies-u32, Lies-after, Lies-less, Lies-mapped, Lies-map_value, LiesIn, LiesIn-alone, Lies-exactly, Lies-vec}
use Rattle.wasmprinter_laws.proofs.Lines.Bodies.{Lies-code_entry}
use Rattle.wasmprinter_laws.proofs.Lines.CustomData.{Lies-here, Lies-list, treatment_inside, hints_inside}

-- ---- groups of types: the place of the types of an explicit `(rec ..)` is two bytes after that of the group

all_same : (low q high : ℕ) (ts : List SubType) → low ≤ q → q ≤ high → Inside low (map (λ t. q) ts) high
all_same low q high [] above below = omega (arith, above, below)
all_same low q high (t ∷ ts) above below = (above, below, all_same low q high ts above below)

members_lie : (b : Bool) (first p place : ℕ) (text : List ℕ) (g : TypeGroup) → place + 1 ≡ p →
    (choose b (map_value (type_group true) (vec subtype)) (map_value (λ t. type_group false (t ∷ [])) (sub_type_after first))).spells p text g →
    Inside place (member_places g.explicit place g.types) (p + length text)
members_lie true first p place text g next (types, made, spelled) =
    let count : Lies inside 1 (vec subtype) (λ ts. flat_map (λ t. []) ts) = Lies-vec (Lies-any subtype) in
    let long : p + 1 ≤ p + length text =
    inside_ends (p + 1) (p + length text) (flat_map (λ t. []) types) (count.lie p text types spelled) in
    subst (λ (x : TypeGroup). Inside place (member_places x.explicit place x.types) (p + length text))
    (some_is (type_group true types) g made)
    (all_same place (place + 2) (p + length text) types (omega arith) (omega (arith, next, long)))
members_lie false first p place text g next (type, made, spelled) =
    subst (λ (x : TypeGroup). Inside place (member_places x.explicit place x.types) (p + length text))
    (some_is (type_group false (type ∷ [])) g made)
    (omega (arith, next))

group_lies : (p : ℕ) (text : List ℕ) (g : Placed TypeGroup) → (value_with_place group).spells p text g → Inside p (group_places g) (p + length text)
group_lies p text g (here, ((first, own), made, (front, back, joined, byte, spelled))) =
    let same : own ≡ g.value = some_is own g.value made in
    let one : length front ≡ 1 = ap length byte in
    let long : length text ≡ length front + length back = omega (arith, ap length joined, length-append front back) in
    let end : ℕ = p + length front + length back in
    let members : Inside p (member_places own.explicit p own.types) end =
    members_lie (first == 0x4e) first (p + length front) p back own (omega (arith, one)) spelled in
    let named : Inside p (member_places g.value.explicit p g.value.types) end =
    subst (λ (x : TypeGroup). Inside p (member_places x.explicit p x.types) end) same members in
    let shown : List ℕ = member_places g.value.explicit g.place g.value.types in
    let there : Inside p shown end =
    subst (λ (q : ℕ). Inside p (member_places g.value.explicit q g.value.types) end) (sym here) named in (
      omega (arith, here),
      omega (arith, here),
      inside_wider p p end (p + length text) shown (omega arith) (omega (arith, long)) there,
    )

Lies-group : Lies inside 0 (value_with_place group) group_places
Lies-group = record { lie = λ p text g s. inside_wider (p + 0) p (p + length text) (p + length text) (group_places g) (omega arith) (omega arith) (group_lies p text g s) }

-- ---- custom sections

-- The places of a custom section: those of its lines, and those of the hints that its data would give
abbrev pub given_places : Placed Custom → List ℕ
given_places c = c.place ∷ (c.value.bytes.place ∷ (treatment_places (custom_treatment_of c.value) ++ places_of_hints (hints_given c.value.bytes)))

LiesIn-custom : LiesIn inside 0 custom_section given_places
LiesIn-custom = record {
  lie = λ p text c s.
      let (here, ((title, bytes), made, (front, back, joined, named, (data_place, all_left)))) = s in
      let own : Custom = c.value in
      let same : custom_of title bytes ≡ own = some_is (custom_of title bytes) own made in
      let place : own.bytes.place ≡ p + length front = ap (λ (y : Custom). y.bytes.place) (sym same) ∙ data_place in
      let data_length : length own.bytes.value ≡ length back =
      ap (λ (y : Custom). length y.bytes.value) (sym same) ∙ ap length all_left in
      let long : length text ≡ length front + length back = omega (arith, ap length joined, length-append front back) in
      let start : ℕ = own.bytes.place in
      let end : ℕ = own.bytes.place + length own.bytes.value in
      let shown : List ℕ = treatment_places (custom_treatment_of own) ++ places_of_hints (hints_given own.bytes) in
      let both : Inside start shown end = inside_both start end (treatment_places (custom_treatment_of own)) (places_of_hints (hints_given own.bytes)) (treatment_inside own) (hints_inside own.bytes) in
      let inner : Inside (p + 0) shown (p + length text) = inside_wider (p + 0) start end (p + length text) shown (omega (arith, place)) (omega (arith, place, long, data_length)) both in
      (omega (arith, here), omega (arith, here), (omega (arith, place), omega (arith, place, long), inner));
}

-- ---- sections

-- The places of a section that is no code section
abbrev pub other_places : Section → List ℕ
other_places (holds CustomSection c) = given_places c
other_places (holds TypeSection gs) = flat_map group_places gs
other_places (holds ImportSection is) = places is
other_places (holds FunctionSection is) = []
other_places (holds TableSection ts) = places ts
other_places (holds MemorySection xs) = places xs
other_places (holds TagSection is) = places is
other_places (holds GlobalSection gs) = places gs
other_places (holds ExportSection es) = places es
other_places (holds StartSection start) = start_places start
other_places (holds ElementSection es) = places es
other_places (holds DataCountSection count) = []
other_places (holds CodeSection bs) = []
other_places (holds DataSection ds) = places ds

-- The places of a code section
abbrev pub code_places : Section → List ℕ
code_places (holds CodeSection bs) = flat_map body_places bs
code_places _ = []

LiesIn-any : {o : Order} {A : Type 0} (w : Remainder A) → LiesIn o 0 w (λ a. [])
LiesIn-any {o} w = record { lie = λ p text a s. o.none (p + 0) (p + length text) (omega arith) }

-- The places of the content of each kind of section are within that content, in any order.
LiesIn-content : (kind : Kind) → LiesIn inside 0 (content kind) (λ x. other_places (holds kind x))
LiesIn-content CustomSection = LiesIn-custom
LiesIn-content TypeSection = LiesIn-alone (Lies-less 1 0 (omega arith) (Lies-vec Lies-group))
LiesIn-content ImportSection = LiesIn-alone (Lies-list import)
LiesIn-content FunctionSection = LiesIn-any (content FunctionSection)
LiesIn-content TableSection = LiesIn-alone (Lies-list table)
LiesIn-content MemorySection = LiesIn-alone (Lies-list memory_type)
LiesIn-content TagSection = LiesIn-alone (Lies-list tag)
LiesIn-content GlobalSection = LiesIn-alone (Lies-list global)
LiesIn-content ExportSection = LiesIn-alone (Lies-list export)
LiesIn-content StartSection = LiesIn-alone (Lies-map_value start_places (Lies-here u32))
LiesIn-content ElementSection = LiesIn-alone (Lies-list element)
LiesIn-content DataCountSection = LiesIn-any (content DataCountSection)
LiesIn-content CodeSection = LiesIn-any (content CodeSection)
LiesIn-content DataSection = LiesIn-alone (Lies-list segment)

-- The places of the content of a code section increase within that content.
LiesIn-code : (kind : Kind) → LiesIn rising 0 (content kind) (λ x. code_places (holds kind x))
LiesIn-code CodeSection = LiesIn-alone (Lies-less 1 0 (omega arith) (Lies-vec Lies-code_entry))
LiesIn-code CustomSection = LiesIn-any (content CustomSection)
LiesIn-code TypeSection = LiesIn-any (content TypeSection)
LiesIn-code ImportSection = LiesIn-any (content ImportSection)
LiesIn-code FunctionSection = LiesIn-any (content FunctionSection)
LiesIn-code TableSection = LiesIn-any (content TableSection)
LiesIn-code MemorySection = LiesIn-any (content MemorySection)
LiesIn-code TagSection = LiesIn-any (content TagSection)
LiesIn-code GlobalSection = LiesIn-any (content GlobalSection)
LiesIn-code ExportSection = LiesIn-any (content ExportSection)
LiesIn-code StartSection = LiesIn-any (content StartSection)
LiesIn-code ElementSection = LiesIn-any (content ElementSection)
LiesIn-code DataCountSection = LiesIn-any (content DataCountSection)
LiesIn-code DataSection = LiesIn-any (content DataSection)

-- The id of a section is one byte.
Lies-section_id : {o : Order} → Lies o 1 section_id (λ k. [])
Lies-section_id = Lies-mapped (λ a b e. refl) Lies-byte

in_section : {o : Order} (shown : Section → List ℕ) → ((kind : Kind) → LiesIn o 0 (content kind) (λ x. shown (holds kind x))) → Lies o 1 section shown
in_section {o} shown all =
    Lies-map_value shown (Lies-less (1 + 1) 1 (omega arith)
    (Lies-after Lies-section_id (λ kind. Lies-map_value shown (Lies-less (1 + 0) 1 (omega arith) (Lies-after Lies-u32 (λ size. Lies-exactly (all kind) size))))))

pub Lies-other_section : Lies inside 0 section other_places
Lies-other_section = Lies-less 1 0 (omega arith) (in_section other_places LiesIn-content)

pub Lies-code_section : Lies rising 1 section code_places
Lies-code_section = in_section code_places LiesIn-code
