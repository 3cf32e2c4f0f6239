-- Lists have fewer than 2 ^ 32 items, because a count of 32 bits comes before them.
use Rattle.std.proofs.Common.{◌≡◌, ℕ, ◌+◌, ◌-◌, ◌^◌, ◌<◌, lit≤, List, [], ◌∷◌, length, Some, sym, ap, subst, ◌∙◌, inl, inr, arith}
use Rattle.std.specs.List.{AllByRecursion}
use Rattle.wasmprinter_spec.specs.Grammar.{Input, Grammar, some_is, value_with_place}
use Rattle.wasmprinter_spec.specs.Repeated.{Entries, until_end}
use Rattle.wasmprinter_spec.specs.Leb.{IsUnsigned}
use Rattle.wasmprinter_spec.specs.Name.{u32, vec}
use Rattle.wasmprinter_spec.specs.Binary.Types.{group}
use Rattle.wasmprinter_spec.specs.Binary.Imports.{import}
use Rattle.wasmprinter_spec.specs.Binary.Tables.{table}
use Rattle.wasmprinter_spec.specs.Binary.Memories.{memory_type}
use Rattle.wasmprinter_spec.specs.Binary.Tags.{tag}
use Rattle.wasmprinter_spec.specs.Binary.Globals.{global}
use Rattle.wasmprinter_spec.specs.Binary.Exports.{export}
use Rattle.wasmprinter_spec.specs.Binary.Elements.{element}
use Rattle.wasmprinter_spec.specs.Binary.DataSegments.{segment}
use Rattle.wasmprinter_spec.specs.Binary.Code.{code_entry}
use Rattle.wasmprinter_spec.specs.Sections.{CustomSection, TypeSection, ImportSection, FunctionSection, TableSection, MemorySection, TagSection, GlobalSection}
use Rattle.wasmprinter_spec.specs.Sections.{ExportSection, StartSection, ElementSection, DataCountSection, CodeSection, DataSection}
use Rattle.wasmprinter_spec.specs.Sections.{Kind, Content, content, Section, holds, section}
use Rattle.wasmprinter_spec.specs.Binary.{AreBytes}
use Rattle.wasmprinter_spec.proofs.Each.{all_parts}
use Rattle.wasmprinter_spec.proofs.Ordered.{held_each}
use Rattle.wasmprinter_bytes.proofs.Powers.{joined_fits}
use Rattle.wasmprinter_decoder.specs.Contents.{item_count}
use Rattle.wasmprinter_decoder.specs.Modules.{HasFewItems}
use Rattle.wasmprinter_decoder.specs.Gathering.{Gathered, IsHeld, sections_at}

-- A number that bytes encode in `bits` bits is below 2 ^ `bits`.
unsigned_below : (text : List ℕ) (bits n : ℕ) → AreBytes text → IsUnsigned bits text n → n < 2 ^ bits
unsigned_below [] bits n all s = absurd s
unsigned_below (b ∷ bs) bits n all (inl (last, fits, none_after, is)) = omega (arith, fits, is)
unsigned_below (b ∷ bs) bits n all (inr (more, has_room, high, joined, spelled)) =
    let below : high < 2 ^ (bits - 7) = unsigned_below bs (bits - 7) high all.1 spelled in
    omega (arith, joined_fits bits b high has_room all.0 below, joined)

-- A list has as many items as its count says, so fewer than 2 ^ 32.
vec_listed : {A : Type 0} (g : Grammar A) (p : ℕ) (text : List ℕ) (xs : List A) → AreBytes text → (vec g).spells p text xs → length xs < 2 ^ 32
vec_listed g p text xs all s =
    let ((count, items), kept, (front, after, joined, count_spelled, (many, spelled))) = s in
    let apart = all_parts (λ b. b < 256) front after (subst AreBytes joined all) in
    let same : length xs ≡ count = ap length (sym (some_is items xs kept)) ∙ many in
    omega (arith, same, unsigned_below front 32 count apart.0 count_spelled)

-- The section has fewer than 2 ^ 32 items.
abbrev IsListed : Section → Type 0
IsListed s = item_count s < 2 ^ 32

-- The content of a section of each kind has fewer than 2 ^ 32 items.
content_listed : (kind : Kind) (p : ℕ) (text : List ℕ) (c : Content kind) → AreBytes text → (content kind).spells p text c → IsListed (holds kind c)
content_listed CustomSection p text c all s = lit≤ tt
content_listed TypeSection p text c all s = vec_listed (value_with_place group) p text c all s
content_listed ImportSection p text c all s = vec_listed (value_with_place import) p text c all s
content_listed FunctionSection p text c all s = vec_listed u32 p text c all s
content_listed TableSection p text c all s = vec_listed (value_with_place table) p text c all s
content_listed MemorySection p text c all s = vec_listed (value_with_place memory_type) p text c all s
content_listed TagSection p text c all s = vec_listed (value_with_place tag) p text c all s
content_listed GlobalSection p text c all s = vec_listed (value_with_place global) p text c all s
content_listed ExportSection p text c all s = vec_listed (value_with_place export) p text c all s
content_listed StartSection p text c all s = lit≤ tt
content_listed ElementSection p text c all s = vec_listed (value_with_place element) p text c all s
content_listed DataCountSection p text c all s = lit≤ tt
content_listed CodeSection p text c all s = vec_listed code_entry p text c all s
content_listed DataSection p text c all s = vec_listed (value_with_place segment) p text c all s

-- A section has fewer than 2 ^ 32 items.
section_listed : (p : ℕ) (text : List ℕ) (s : Section) → AreBytes text → section.spells p text s → IsListed s
section_listed p text s all spelled =
    let ((kind, own), kept, (id_text, after_id, joined, kind_spelled, sized)) = spelled in
    let ((size, value), made, (size_text, after_size, split, size_spelled, (fills, value_spelled))) = sized in
    let id_apart = all_parts (λ b. b < 256) id_text after_id (subst AreBytes joined all) in
    let size_apart = all_parts (λ b. b < 256) size_text after_size (subst AreBytes split id_apart.1) in
    let is : holds kind value ≡ s = some_is (holds kind value) own made ∙ some_is own s kept in
    subst IsListed is (content_listed kind (p + length id_text + length size_text) after_size value size_apart.1 value_spelled)

-- Each of several consecutive sections has fewer than 2 ^ 32 items.
entries_listed : (p : ℕ) (text : List ℕ) (ss : List Section) → AreBytes text → Entries section p text ss → AllByRecursion IsListed ss
entries_listed p text [] all spelled = tt
entries_listed p text (s ∷ ss) all spelled =
    let (front, after, joined, takes, first_spelled, others_spelled) = spelled in
    let apart = all_parts (λ b. b < 256) front after (subst AreBytes joined all) in
    (section_listed p front s apart.0 first_spelled, entries_listed (p + length front) after ss apart.1 others_spelled)

-- Each section up to the end of the bytes has fewer than 2 ^ 32 items.
pub sections_listed : (at : Input) (ss : List Section) → sections_at at ≡ Some ss → AreBytes at.bytes → AllByRecursion IsListed ss
sections_listed at ss read all = entries_listed at.place at.bytes ss all ((until_end section).sound at ss read)

-- The gathered contents have fewer than 2 ^ 32 imports, tables, memories, tags and globals each.
pub items_held : (g : Gathered) (ss : List Section) → AllByRecursion IsListed ss → IsHeld g ss → HasFewItems g.imports g.tables g.memories g.tags g.globals
items_held g ss all held = record {
  imports = omega (arith, ap length (held ImportSection), held_each ImportSection IsListed [] ss all (lit≤ tt));
  tables = omega (arith, ap length (held TableSection), held_each TableSection IsListed [] ss all (lit≤ tt));
  memories = omega (arith, ap length (held MemorySection), held_each MemorySection IsListed [] ss all (lit≤ tt));
  tags = omega (arith, ap length (held TagSection), held_each TagSection IsListed [] ss all (lit≤ tt));
  globals = omega (arith, ap length (held GlobalSection), held_each GlobalSection IsListed [] ss all (lit≤ tt));
}
