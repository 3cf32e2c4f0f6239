-- Operators on operands, variables and table elements (section 5.4 of the standard, "Parametric Instructions",
-- "Variable Instructions", "Table Instructions").
use Rattle.std.specs.Prelude.{List, [], ◌∷◌}
use Rattle.wasmprinter_spec.specs.Row.{Row, Local, Global, Table, NoneShape, IndexShape, SelectShape, Fixed}
use Rattle.wasmprinter_spec.specs.Table.Rows.{plain}

-- The operators on operands, variables and table elements.
unfoldable pub variable_rows : List Row
variable_rows =
    plain 0x1a "drop" NoneShape (Fixed 1 0) ∷
    plain 0x1b "select" NoneShape (Fixed 3 1) ∷
    plain 0x1c "select" SelectShape (Fixed 3 1) ∷
    plain 0x20 "local.get" (IndexShape Local) (Fixed 0 1) ∷
    plain 0x21 "local.set" (IndexShape Local) (Fixed 1 0) ∷
    plain 0x22 "local.tee" (IndexShape Local) (Fixed 1 1) ∷
    plain 0x23 "global.get" (IndexShape Global) (Fixed 0 1) ∷
    plain 0x24 "global.set" (IndexShape Global) (Fixed 1 0) ∷
    plain 0x25 "table.get" (IndexShape Table) (Fixed 1 1) ∷
    plain 0x26 "table.set" (IndexShape Table) (Fixed 2 0) ∷
    []
