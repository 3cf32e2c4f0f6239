-- Worked rows of the sections of imports, tables, memories, globals, element segments, data segments and the data
-- count (section 5.5 of the standard): what single lists of bytes encode, and the modules without places.
use Rattle.std.specs.Prelude.{◌≡◌, ℕ, List, [], ◌∷◌, ◌++◌, map, Option, Some, None, refl}
use Rattle.std.specs.List.{AllByRecursion}
use Rattle.wasmprinter_spec.specs.Placed.{PassiveData, data_of, PlacedModule}
use Rattle.wasmprinter_spec.specs.Module.{module_of}
use Rattle.wasmprinter_spec.specs.Sections.{rank}
use Rattle.wasmprinter_spec.specs.Layout.{section_order}
use Rattle.wasmprinter_spec.specs.Limits.{IsWithinLimits}
use Rattle.wasmprinter_spec.proofs.Samples.{head_bytes, empty_placed}
use Rattle.wasmprinter_spec.proofs.SectionSamples.{Sample, with_item, emptied_table, tables, globals, elements, data_segments, memories, imports}
use Rattle.wasmprinter_spec.proofs.Computing.{reading}
use Rattle.wasmprinter_spec.proofs.FromBytes.{parsed}

-- ---- the order of sections

-- The text has the sections in the order of the bytes: each kind that has a rank, except the data count, which is
-- not printed.
section_order-rises :
    map rank section_order
    ≡ Some 1 ∷ Some 2 ∷ Some 3 ∷ Some 4 ∷ Some 5 ∷ Some 6 ∷ Some 7 ∷ Some 8 ∷ Some 9 ∷ Some 10 ∷ Some 12 ∷ Some 13 ∷ []
section_order-rises = refl

-- ---- what the bytes of the samples encode

abbrev Parses : Sample → Type 0
Parses s = parsed s.bytes ≡ Some s.placed

abbrev IsModule : Sample → Type 0
IsModule s = module_of s.placed ≡ s.value

tables_parse : AllByRecursion Parses tables
unfolding reading
tables_parse = (refl, (refl, (refl, (refl, tt))))

globals_parse : AllByRecursion Parses globals
unfolding reading
globals_parse = (refl, (refl, (refl, (refl, (refl, tt)))))

elements_parse : AllByRecursion Parses elements
unfolding reading
elements_parse = (refl, (refl, (refl, (refl, (refl, (refl, (refl, (refl, (refl, tt)))))))))

datas_parse : AllByRecursion Parses data_segments
unfolding reading
datas_parse = (refl, (refl, (refl, (refl, (refl, tt)))))

memories_parse : AllByRecursion Parses memories
unfolding reading
memories_parse = (refl, (refl, (refl, (refl, (refl, (refl, (refl, (refl, (refl, tt)))))))))

imports_parse : Parses imports
unfolding reading
imports_parse = refl

emptied_table_parses : Parses emptied_table
unfolding reading
emptied_table_parses = refl

-- A table with an empty initialiser is not within the limits.
emptied_table_beyond : IsWithinLimits emptied_table.placed → ⊥
emptied_table_beyond h = h.tables.0

tables_are : AllByRecursion IsModule (emptied_table ∷ tables)
tables_are = (refl, (refl, (refl, (refl, (refl, tt)))))

globals_are : AllByRecursion IsModule globals
globals_are = (refl, (refl, (refl, (refl, (refl, tt)))))

elements_are : AllByRecursion IsModule elements
elements_are = (refl, (refl, (refl, (refl, (refl, (refl, (refl, (refl, (refl, tt)))))))))

datas_are : AllByRecursion IsModule data_segments
datas_are = (refl, (refl, (refl, (refl, (refl, tt)))))

memories_are : AllByRecursion IsModule memories
memories_are = (refl, (refl, (refl, (refl, (refl, (refl, (refl, (refl, (refl, tt)))))))))

imports_are : IsModule imports
imports_are = refl

-- ---- the data count

-- A data count and one passive data segment
abbrev with_count : List ℕ → List ℕ
with_count count = head_bytes ++ (0x0c ∷ 0x01 ∷ count) ++ (0x0b ∷ 0x04 ∷ 0x01 ∷ 0x01 ∷ 0x01 ∷ 0x61 ∷ [])

right_count : parsed (with_count (0x01 ∷ [])) ≡ Some (record empty_placed { data_segments = record { place = 0xe; value = data_of PassiveData (0x61 ∷ []) } ∷ []; size = 17 })
right_count = refl

-- Counts that differ; a count without segments, which is correct if it is 0; a count after the segments; two
-- counts
other_counts : map parsed (
    with_count (0x00 ∷ [])
    ∷ with_count (0x02 ∷ [])
    ∷ (head_bytes ++ (0x0c ∷ 0x01 ∷ 0x01 ∷ []))
    ∷ (head_bytes ++ (0x0c ∷ 0x01 ∷ 0x00 ∷ []))
    ∷ (head_bytes ++ (0x0b ∷ 0x04 ∷ 0x01 ∷ 0x01 ∷ 0x01 ∷ 0x61 ∷ 0x0c ∷ 0x01 ∷ 0x01 ∷ []))
    ∷ (head_bytes ++ (0x0c ∷ 0x01 ∷ 0x00 ∷ 0x0c ∷ 0x01 ∷ 0x00 ∷ []))
    ∷ [])
    ≡ None ∷ None ∷ None ∷ Some (record empty_placed { size = 11 }) ∷ None ∷ None ∷ []
other_counts = refl

-- ---- bytes that encode no module

abbrev unspelled : ℕ → List (List ℕ) → List (Option PlacedModule)
unspelled id items = map (λ i. parsed (with_item id i)) items

-- Flags of tables other than 0, 1, 4 and 5; a byte other than 0 after 40; an initialiser without its `end`; a type
-- that is no reference type
no_tables : unspelled 4 (
    (0x70 ∷ 0x02 ∷ 0x01 ∷ [])
    ∷ (0x70 ∷ 0x03 ∷ 0x01 ∷ 0x02 ∷ [])
    ∷ (0x70 ∷ 0x06 ∷ 0x01 ∷ [])
    ∷ (0x70 ∷ 0x07 ∷ 0x01 ∷ 0x02 ∷ [])
    ∷ (0x70 ∷ 0x08 ∷ 0x01 ∷ [])
    ∷ (0x40 ∷ 0x01 ∷ 0x70 ∷ 0x00 ∷ 0x01 ∷ 0xd0 ∷ 0x70 ∷ 0x0b ∷ [])
    ∷ (0x40 ∷ 0x00 ∷ 0x70 ∷ 0x00 ∷ 0x01 ∷ 0xd0 ∷ 0x70 ∷ [])
    ∷ (0x7f ∷ 0x00 ∷ 0x01 ∷ [])
    ∷ []) ≡ None ∷ None ∷ None ∷ None ∷ None ∷ None ∷ None ∷ None ∷ []
unfolding reading
no_tables = refl

-- A mutability of 2, no mutability, no initialiser, and an initialiser with an open block
no_globals : unspelled 6 (
    (0x7f ∷ 0x02 ∷ 0x41 ∷ 0x00 ∷ 0x0b ∷ [])
    ∷ (0x7f ∷ 0x41 ∷ 0x00 ∷ 0x0b ∷ [])
    ∷ (0x7f ∷ 0x00 ∷ [])
    ∷ (0x7f ∷ 0x00 ∷ 0x02 ∷ 0x40 ∷ 0x0b ∷ [])
    ∷ []) ≡ None ∷ None ∷ None ∷ None ∷ []
unfolding reading
no_globals = refl

-- Flags of 8, a kind other than 0, a type in place of a kind, a kind in place of a type, and an item without its
-- `end`
no_elements : unspelled 9 (
    (0x08 ∷ 0x41 ∷ 0x00 ∷ 0x0b ∷ 0x00 ∷ [])
    ∷ (0x01 ∷ 0x01 ∷ 0x00 ∷ [])
    ∷ (0x01 ∷ 0x70 ∷ 0x00 ∷ [])
    ∷ (0x05 ∷ 0x00 ∷ 0x00 ∷ [])
    ∷ (0x05 ∷ 0x70 ∷ 0x01 ∷ 0xd0 ∷ 0x70 ∷ [])
    ∷ []) ≡ None ∷ None ∷ None ∷ None ∷ None ∷ []
unfolding reading
no_elements = refl

-- Flags of 3, a length greater than the number of bytes, and one that is less
no_datas : unspelled 11 (
    (0x03 ∷ 0x00 ∷ [])
    ∷ (0x01 ∷ 0x02 ∷ 0x61 ∷ [])
    ∷ (0x01 ∷ 0x00 ∷ 0x61 ∷ [])
    ∷ []) ≡ None ∷ None ∷ None ∷ []
unfolding reading
no_datas = refl

-- A kind of 5, a name that is not UTF-8, only one name, a tag whose attribute is not 0, and a table with an
-- initialiser
no_imports : unspelled 2 (
    (0x01 ∷ 0x6d ∷ 0x01 ∷ 0x66 ∷ 0x05 ∷ 0x00 ∷ [])
    ∷ (0x01 ∷ 0xff ∷ 0x01 ∷ 0x66 ∷ 0x00 ∷ 0x00 ∷ [])
    ∷ (0x01 ∷ 0x6d ∷ 0x00 ∷ [])
    ∷ (0x01 ∷ 0x6d ∷ 0x01 ∷ 0x66 ∷ 0x04 ∷ 0x01 ∷ 0x00 ∷ [])
    ∷ (0x01 ∷ 0x6d ∷ 0x01 ∷ 0x66 ∷ 0x01 ∷ 0x40 ∷ 0x00 ∷ 0x70 ∷ 0x00 ∷ 0x01 ∷ 0x0b ∷ [])
    ∷ []) ≡ None ∷ None ∷ None ∷ None ∷ None ∷ []
unfolding reading
no_imports = refl

-- Flags of 16, which have no meaning; an exponent of 64; flags of two bytes; a missing page size, and a page size
-- without its flag
no_memories : unspelled 5 (
    (0x10 ∷ 0x01 ∷ [])
    ∷ (0x08 ∷ 0x01 ∷ 0x40 ∷ [])
    ∷ (0x80 ∷ 0x00 ∷ 0x01 ∷ [])
    ∷ (0x08 ∷ 0x01 ∷ [])
    ∷ (0x00 ∷ 0x01 ∷ 0x10 ∷ [])
    ∷ []) ≡ None ∷ None ∷ None ∷ None ∷ None ∷ []
unfolding reading
no_memories = refl
