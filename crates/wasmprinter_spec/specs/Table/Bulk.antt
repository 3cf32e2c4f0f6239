-- Operators on regions of memories and tables, and on segments, after the prefix FC (section 5.4 of the standard,
-- "Memory Instructions", "Table Instructions").
use Prim.Native.String.{String}
use Rattle.std.specs.Prelude.{ℕ, List, [], ◌∷◌}
use Rattle.wasmprinter_spec.specs.Row.{Row, Table, Memory, Elem, Data, Shape, IndexShape, DefaultIndexShape, SegmentShape, CopyShape, Arity, Fixed}
use Rattle.wasmprinter_spec.specs.Table.Rows.{prefixed_row}

-- An operator after the prefix: its number, word, shape and arity.
abbrev bulk : ℕ → String → Shape → Arity → Row
bulk n w s a = prefixed_row 0xfc n w s a

-- The operators on regions and segments, and those that grow, measure and fill a table.
unfoldable pub bulk_rows : List Row
bulk_rows =
    bulk 8 "memory.init" (SegmentShape Data Memory) (Fixed 3 0) ∷
    bulk 9 "data.drop" (IndexShape Data) (Fixed 0 0) ∷
    bulk 10 "memory.copy" (CopyShape Memory) (Fixed 3 0) ∷
    bulk 11 "memory.fill" (DefaultIndexShape Memory) (Fixed 3 0) ∷
    bulk 12 "table.init" (SegmentShape Elem Table) (Fixed 3 0) ∷
    bulk 13 "elem.drop" (IndexShape Elem) (Fixed 0 0) ∷
    bulk 14 "table.copy" (CopyShape Table) (Fixed 3 0) ∷
    bulk 15 "table.grow" (IndexShape Table) (Fixed 2 1) ∷
    bulk 16 "table.size" (IndexShape Table) (Fixed 0 1) ∷
    bulk 17 "table.fill" (IndexShape Table) (Fixed 3 0) ∷
    []
