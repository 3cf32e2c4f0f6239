-- Fields that begin with a declaration and a type.
use Rattle.std.specs.Prelude.{◌≡◌, ℕ, ◌∷◌, ◌++◌}
use Rattle.std.proofs.Common.{sym, append_assoc}
use Rattle.wasmprinter_spec.specs.Grammar.{Placed}
use Rattle.wasmprinter_spec.specs.Row as row
use Rattle.wasmprinter_spec.specs.Operator.{Operator}
use Rattle.wasmprinter_spec.specs.Placed.{Table, Global}
use Rattle.wasmprinter_spec.specs.Piece.{OneSpace}
use Rattle.wasmprinter_spec.specs.Layout.Declarations.{Scope, item_declaration}
use Rattle.wasmprinter_spec.specs.Layout.Expressions.{constant_pieces}
use Rattle.wasmprinter_spec.specs.Layout.Globals.{global_type_pieces, declared_global, global_parts}
use Rattle.wasmprinter_spec.specs.Layout.Tables.{table_type_pieces, init_pieces, declared_table, table_parts}

-- The pieces of a table are those of its declaration and its initialiser.
pub table-parts : (s : Scope) (i : ℕ) (t : Table (Placed Operator)) → table_parts s i t ≡ declared_table s i t.type ++ init_pieces s t.init
table-parts s i t = sym (append_assoc (item_declaration s row.Table i) (OneSpace ∷ table_type_pieces s.names t.type) (init_pieces s t.init))

-- The pieces of a global are those of its declaration and its value.
pub global-parts : (s : Scope) (i : ℕ) (g : Global (Placed Operator)) → global_parts s i g ≡ declared_global s i g.type ++ (OneSpace ∷ constant_pieces s 2 g.init)
global-parts s i g = sym (append_assoc (item_declaration s row.Global i) (OneSpace ∷ global_type_pieces s.names g.type) (OneSpace ∷ constant_pieces s 2 g.init))
