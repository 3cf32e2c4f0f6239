-- The fields of a module whose folded operators have colors in their text, and the same fields without colors.
use Rattle.std.proofs.Common.{ℕ, ◌+◌, List, [], ◌∷◌, Bool, true, false, Option, Some, None, codes}
use Rattle.wasmprinter_spec.specs.Grammar.{Placed}
use Rattle.wasmprinter_spec.specs.Types.{MemoryType, ExternType, FuncExtern, TableExtern, MemoryExtern, GlobalExtern, TagExtern, ExternKind, FuncKind, TableKind, MemoryKind, GlobalKind, TagKind}
use Rattle.wasmprinter_spec.specs.Row as row
use Rattle.wasmprinter_spec.specs.Row.{Space}
use Rattle.wasmprinter_spec.specs.Operator.{Operator}
use Rattle.wasmprinter_spec.specs.Placed.{Import, Table, Global, Export, ElementMode, Passive, Declared, Active, Items, Functions, Expressions, ElementEntry, DataMode, PassiveData, ActiveData, Data}
use Rattle.wasmprinter_spec.specs.Layout.ValTypes.{ref_pieces}
use Rattle.wasmprinter_spec.specs.Layout.Declarations.{Scope, Folding, item_declaration, item_index}
use Rattle.wasmprinter_spec.specs.Layout.Operators.{expression_pieces}
use Rattle.wasmprinter_spec.specs.Layout.Expressions.{in_line, constant_pieces, word_unless_one, grouped_pieces, group_parts, constant_group}
use Rattle.wasmprinter_spec.specs.Layout.Functions.{header_pieces}
use Rattle.wasmprinter_spec.specs.Layout.Tables.{table_type_pieces, init_pieces, table_pieces}
use Rattle.wasmprinter_spec.specs.Layout.Memories.{memory_pieces}
use Rattle.wasmprinter_spec.specs.Layout.Globals.{global_type_pieces, global_pieces}
use Rattle.wasmprinter_spec.specs.Layout.Imports.{Numbers, number_of, numbers_after, extern_pieces, import_pieces, imports_pieces}
use Rattle.wasmprinter_spec.specs.Layout.Exports.{kind_word, extern_index_pieces, export_pieces}
use Rattle.wasmprinter_spec.specs.Layout.Elements.{named_table, mode_pieces, function_items, expression_items, items_pieces, shown_items, element_pieces}
use Rattle.wasmprinter_spec.specs.Layout.DataSegments.{named_memory, data_mode_pieces, shown_bytes, data_pieces}
use Rattle.wasmprinter_spec.specs.Layout.Tags.{tag_pieces}
use Rattle.wasmprinter_spec.specs.Layout.Start.{start_pieces}
use Rattle.wasmprinter_laws.proofs.Colored.Recolored.{Recolored, none, same, same_all, both, after, closed, in_group_space, in_line_group_space}
use Rattle.wasmprinter_laws.proofs.Colored.Nodes.{Bared, constant_so}

-- The scope with operators laid out in this way.
abbrev pub in_way : Scope → Option Folding → Scope
in_way s x = record s { folding = x }

module _ (x y : Option Folding) (d : Bared x y) (s : Scope) where
  -- ---- expressions

  constant_pieces_so : (nesting : ℕ) (os : List (Placed Operator)) → Recolored (constant_pieces (in_way s x) nesting os) (constant_pieces (in_way s y) nesting os)
  unfolding constant_pieces
  constant_pieces_so nesting os = constant_so d (in_line s nesting) os

  held_so : (nesting : ℕ) (os : List (Placed Operator)) → Recolored (grouped_pieces (in_way s x) nesting os) (grouped_pieces (in_way s y) nesting os)
  held_so nesting [] = constant_pieces_so nesting []
  held_so nesting (o ∷ []) = same_all (expression_pieces (in_line s nesting) (o ∷ []))
  held_so nesting (o ∷ p ∷ os) = constant_pieces_so nesting (o ∷ p ∷ os)

  parts_so : (nesting : ℕ) (w : List ℕ) (os : List (Placed Operator)) → Recolored (group_parts (in_way s x) nesting w os) (group_parts (in_way s y) nesting w os)
  parts_so nesting w os = after (word_unless_one w os) (held_so nesting os)

  constant_group_so : (nesting : ℕ) (w : List ℕ) (os : List (Placed Operator)) →
      Recolored (constant_group (in_way s x) nesting w os) (constant_group (in_way s y) nesting w os)
  unfolding constant_group
  constant_group_so nesting w os = same (closed None nesting (λ b. b) (parts_so (nesting + 1) w os))

  -- ---- tables and globals

  init_so : (e : Option (List (Placed Operator))) → Recolored (init_pieces (in_way s x) e) (init_pieces (in_way s y) e)
  unfolding init_pieces
  init_so None = none
  init_so (Some os) = same (constant_pieces_so 2 os)

  pub table_so : (i : ℕ) (t : Placed (Table (Placed Operator))) → Recolored (table_pieces (in_way s x) i t) (table_pieces (in_way s y) i t)
  unfolding table_pieces
  table_so i t =
      same (in_group_space 1 (codes "table") (after (item_declaration s row.Table i) (same (after (table_type_pieces s.names t.value.type) (init_so t.value.init)))))

  pub global_so : (i : ℕ) (g : Placed (Global (Placed Operator))) → Recolored (global_pieces (in_way s x) i g) (global_pieces (in_way s y) i g)
  unfolding global_pieces
  global_so i g =
      same (in_group_space 1 (codes "global") (after (item_declaration s row.Global i)
      (same (after (global_type_pieces s.names g.value.type) (same (constant_pieces_so 2 g.value.init))))))

  -- ---- segments

  named_table_so : (b : Bool) (t : ℕ) → Recolored (named_table (in_way s x) b t) (named_table (in_way s y) b t)
  named_table_so true t = same_all (named_table s true t)
  named_table_so false t = none

  mode_so : (names : Bool) (m : ElementMode (Placed Operator)) → Recolored (mode_pieces (in_way s x) names m) (mode_pieces (in_way s y) names m)
  unfolding mode_pieces
  mode_so names Passive = none
  mode_so names Declared = same (same none)
  mode_so names (Active t offset) = both (named_table_so names t) (same (constant_group_so 2 (codes "offset") offset))

  function_items_so : (is : List ℕ) → Recolored (function_items (in_way s x) is) (function_items (in_way s y) is)
  unfolding function_items
  function_items_so [] = none
  function_items_so (i ∷ is) = same (after (item_index s row.Func i) (function_items_so is))

  expression_items_so : (es : List (List (Placed Operator))) → Recolored (expression_items (in_way s x) es) (expression_items (in_way s y) es)
  unfolding expression_items
  expression_items_so [] = none
  expression_items_so (e ∷ es) = same (both (constant_group_so 2 (codes "item") e) (expression_items_so es))

  items_so : (items : Items (Placed Operator)) → Recolored (items_pieces (in_way s x) items) (items_pieces (in_way s y) items)
  unfolding items_pieces
  items_so (Functions is) = same (function_items_so is)
  items_so (Expressions t es) = after (ref_pieces s.names t) (expression_items_so es)

  shown_so : (skeleton : Bool) (items : Items (Placed Operator)) → Recolored (shown_items skeleton (in_way s x) items) (shown_items skeleton (in_way s y) items)
  shown_so true items = same none
  shown_so false items = items_so items

  pub element_so : (skeleton : Bool) (i : ℕ) (e : Placed ElementEntry) → Recolored (element_pieces skeleton (in_way s x) i e) (element_pieces skeleton (in_way s y) i e)
  unfolding element_pieces
  element_so skeleton i e =
      same (in_group_space 1 (codes "elem") (after (item_declaration s row.Elem i)
      (both (mode_so e.value.has_table_index e.value.element.mode) (same (shown_so skeleton e.value.element.items)))))

  data_mode_so : (m : DataMode (Placed Operator)) → Recolored (data_mode_pieces (in_way s x) m) (data_mode_pieces (in_way s y) m)
  unfolding data_mode_pieces
  data_mode_so PassiveData = none
  data_mode_so (ActiveData memory offset) = after (named_memory s memory) (both (constant_group_so 2 (codes "offset") offset) (same none))

  pub data_so : (skeleton : Bool) (i : ℕ) (e : Placed (Data (Placed Operator))) → Recolored (data_pieces skeleton (in_way s x) i e) (data_pieces skeleton (in_way s y) i e)
  unfolding data_pieces
  data_so skeleton i e =
      same (in_group_space 1 (codes "data") (after (item_declaration s row.Data i)
      (same (both (data_mode_so e.value.mode) (same_all (shown_bytes skeleton e.value.bytes))))))

-- Fields without operators are the same in both layouts.
module _ (x y : Option Folding) (s : Scope) where
  extern_same : (n : ℕ) (t : ExternType) → Recolored (extern_pieces (in_way s x) n t) (extern_pieces (in_way s y) n t)
  unfolding extern_pieces header_pieces
  extern_same n (FuncExtern i) = same_all (extern_pieces s n (FuncExtern i))
  extern_same n (TableExtern t) = same_all (extern_pieces s n (TableExtern t))
  extern_same n (MemoryExtern t) = same_all (extern_pieces s n (MemoryExtern t))
  extern_same n (GlobalExtern t) = same_all (extern_pieces s n (GlobalExtern t))
  extern_same n (TagExtern i) = same_all (extern_pieces s n (TagExtern i))

  import_same : (n : ℕ) (i : Placed Import) → Recolored (import_pieces (in_way s x) n i) (import_pieces (in_way s y) n i)
  unfolding import_pieces
  import_same n i = same (in_line_group_space (codes "import") (same (same (same (same (extern_same n i.value.type))))))

  pub imports_same : (n : Numbers) (is : List (Placed Import)) → Recolored (imports_pieces (in_way s x) n is) (imports_pieces (in_way s y) n is)
  unfolding imports_pieces
  imports_same n [] = none
  imports_same n (i ∷ is) = both (import_same (number_of i.value.type n) i) (imports_same (numbers_after i.value.type n) is)

  pub memory_same : (i : ℕ) (m : Placed MemoryType) → Recolored (memory_pieces (in_way s x) i m) (memory_pieces (in_way s y) i m)
  unfolding memory_pieces
  memory_same i m = same_all (memory_pieces s i m)

  pub header_same : (space : Space) (f : Option ℕ) (i t : ℕ) → Recolored (header_pieces (in_way s x) space f i t) (header_pieces (in_way s y) space f i t)
  unfolding header_pieces
  header_same space f i t = same_all (header_pieces s space f i t)

  pub tag_same : (i : ℕ) (t : Placed ℕ) → Recolored (tag_pieces (in_way s x) i t) (tag_pieces (in_way s y) i t)
  unfolding tag_pieces
  tag_same i t = same (in_line_group_space (codes "tag") (header_same row.Tag None i t.value))

  extern_index_same : (k : ExternKind) (n : ℕ) → Recolored (extern_index_pieces (in_way s x) k n) (extern_index_pieces (in_way s y) k n)
  unfolding extern_index_pieces
  extern_index_same FuncKind n = same_all (extern_index_pieces s FuncKind n)
  extern_index_same TableKind n = same_all (extern_index_pieces s TableKind n)
  extern_index_same MemoryKind n = same_all (extern_index_pieces s MemoryKind n)
  extern_index_same GlobalKind n = same_all (extern_index_pieces s GlobalKind n)
  extern_index_same TagKind n = same_all (extern_index_pieces s TagKind n)

  pub export_same : (e : Placed Export) → Recolored (export_pieces (in_way s x) e) (export_pieces (in_way s y) e)
  unfolding export_pieces
  export_same e =
      same (in_line_group_space (codes "export") (same (same (in_line_group_space (kind_word e.value.kind) (extern_index_same e.value.kind e.value.index)))))

  pub start_same : (e : Option (Placed ℕ)) → Recolored (start_pieces (in_way s x) e) (start_pieces (in_way s y) e)
  unfolding start_pieces
  start_same None = none
  start_same (Some e) = same_all (start_pieces s (Some e))
