-- Tables in the text format (section 6.4 of the standard, "Table Types"; section 6.6, "Tables"). A table with
-- inline elements or an inline export is an abbreviation that is not read.
use Rattle.std.specs.Prelude.{Bool, List, Option, Some, None, option_map}
use Rattle.wasmprinter_spec.specs.Grammar.{◌>>=◌}
use Rattle.wasmprinter_spec.specs.Forest.{Forest, End}
use Rattle.wasmprinter_spec.specs.Types.{TableType, table_type_of}
use Rattle.wasmprinter_spec.specs.Operator.{Operator}
use Rattle.wasmprinter_spec.specs.Placed.{Table, table_of}
use Rattle.wasmprinter_spec.specs.IndexSpaces.{Context}
use Rattle.wasmprinter_spec.specs.Text.Items.{identifier_in_front, leading_item}
use Rattle.wasmprinter_spec.specs.Text.Types.{ref_named, ref_group}
use Rattle.wasmprinter_spec.specs.Text.Limits.{address_type, limits}
use Rattle.wasmprinter_spec.specs.Text.Expressions.{expression}

module _ (c : Context) where
  -- A table type, and the items after it.
  abbrev pub table_type : Forest → Option (TableType × Forest)
  table_type f =
      let wide : Bool × Forest = address_type f in
      limits wide.1 >>= λ l. leading_item ref_named (ref_group c.spaces.types) l.1 >>= λ t. Some (table_type_of wide.0 l.0 t.0, t.1)

  -- The initialiser, or none if no item is left.
  abbrev pub init : Forest → Option (Option (List Operator))
  init End = Some None
  init f = option_map Some (expression c f)

  -- A table, which may have an identifier before it.
  abbrev pub read_table : Forest → Option (Table Operator)
  read_table f = table_type (identifier_in_front f).1 >>= λ t. init t.1 >>= λ i. Some (table_of t.0 i)
