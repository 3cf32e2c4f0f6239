-- The fields of a module do not begin the first line.
use Rattle.std.proofs.Common.{ℕ, ◌+◌, List, [], ◌∷◌, Bool, true, false, Option, Some, None, refl, codes, length}
use Rattle.wasmprinter_spec.specs.Grammar.{Placed}
use Rattle.wasmprinter_spec.specs.Types.{SubType, MemoryType}
use Rattle.wasmprinter_spec.specs.Row as row
use Rattle.wasmprinter_spec.specs.Row.{Func, Tag}
use Rattle.wasmprinter_spec.specs.Names.{Names}
use Rattle.wasmprinter_spec.specs.Operator.{Operator}
use Rattle.wasmprinter_spec.specs.Placed.{TypeGroup, Import, Table, Global, ElementMode, Passive, Declared, Active, Items, Functions, Expressions, ElementEntry, DataMode, PassiveData, ActiveData, Data, Export}
use Rattle.wasmprinter_spec.specs.Layout.Groups.{has_break}
use Rattle.wasmprinter_spec.specs.Layout.Declarations.{Scope, Folding}
use Rattle.wasmprinter_spec.specs.Layout.Types.{type_pieces, member_pieces, group_pieces_by, type_group_pieces, type_section_pieces}
use Rattle.wasmprinter_spec.specs.Layout.Operators.{Setting, expression_pieces}
use Rattle.wasmprinter_spec.specs.Layout.Expressions.{in_line, constant_by, constant_pieces, grouped_pieces, group_parts, constant_group}
use Rattle.wasmprinter_spec.specs.Layout.Tables.{init_pieces, table_pieces}
use Rattle.wasmprinter_spec.specs.Layout.Memories.{memory_pieces}
use Rattle.wasmprinter_spec.specs.Layout.Tags.{tag_pieces}
use Rattle.wasmprinter_spec.specs.Layout.Globals.{global_pieces}
use Rattle.wasmprinter_spec.specs.Layout.Imports.{Numbers, number_of, numbers_after, import_pieces, imports_pieces}
use Rattle.wasmprinter_spec.specs.Layout.Exports.{kind_word, export_pieces}
use Rattle.wasmprinter_spec.specs.Layout.Start.{start_pieces}
use Rattle.wasmprinter_spec.specs.Layout.Elements.{mode_pieces, expression_items, items_pieces, shown_items, element_pieces}
use Rattle.wasmprinter_spec.specs.Layout.DataSegments.{data_mode_pieces, data_pieces}
use Rattle.wasmprinter_spec.proofs.OneLine.{then_stay, line_group_space_stays, both_stay, type_stays, ref_stays}
use Rattle.wasmprinter_laws.proofs.Lines.FieldLines.{header_stays, item_stays, declared_stays, word_stays, table_type_stays, memory_type_stays, global_type_stays, extern_stays, extern_index_stays, named_table_stays, function_items_stay, named_memory_stays, bytes_stay}
use Rattle.wasmprinter_laws.proofs.Lines.NoBegin.{HasNoBegin, nothing_none, both_none, then_none, alone_none, line_none, field_none, close_none, group_none, group_space_none, numbered_none}
use Rattle.wasmprinter_laws.proofs.Lines.NoBeginCode.{operators_none, folded_none}

-- ---- types

module _ (names : Names) where
  member_none : (place i : ℕ) (t : SubType) → HasNoBegin (member_pieces names place i t)
  unfolding member_pieces
  member_none place i t = field_none (Some (place + 2)) 2 (line_none (type_stays names i t))

  group_by_none : (written : Bool) (place i : ℕ) (ts : List SubType) → HasNoBegin (group_pieces_by names written place i ts)
  group_by_none true place i ts = group_none 1 (codes "rec") (numbered_none (member_pieces names place) (member_none place) i ts)
  group_by_none false place i ts = numbered_none (type_pieces names) (λ k t. line_none (type_stays names k t)) i ts

  pub types_none : (i : ℕ) (gs : List (Placed TypeGroup)) → HasNoBegin (type_section_pieces names i gs)
  unfolding type_section_pieces type_group_pieces
  types_none i [] = nothing_none
  types_none i (g ∷ gs) =
      both_none (field_none (Some g.place) 1 (group_by_none g.value.explicit g.place i g.value.types)) (types_none (i + length g.value.types) gs)

-- ---- expressions

expression_none : (s : Setting) (os : List (Placed Operator)) → HasNoBegin (expression_pieces s os)
unfolding expression_pieces
expression_none s os = operators_none s [] true 0 [] os

constant_by_none : (folding : Option Folding) (s : Setting) (os : List (Placed Operator)) → HasNoBegin (constant_by folding s os)
unfolding constant_by
constant_by_none None s os = expression_none s os
constant_by_none (Some f) s os = folded_none f (Some 0) s [] os

module _ (s : Scope) where
  constant_none : (nesting : ℕ) (os : List (Placed Operator)) → HasNoBegin (constant_pieces s nesting os)
  unfolding constant_pieces
  constant_none nesting os = constant_by_none s.folding (in_line s nesting) os

  held_none : (nesting : ℕ) (os : List (Placed Operator)) → HasNoBegin (grouped_pieces s nesting os)
  held_none nesting [] = constant_none nesting []
  held_none nesting (o ∷ []) = expression_none (in_line s nesting) (o ∷ [])
  held_none nesting (o ∷ p ∷ os) = constant_none nesting (o ∷ p ∷ os)

  constant_group_none : (nesting : ℕ) (w : List ℕ) (os : List (Placed Operator)) → HasNoBegin (constant_group s nesting w os)
  unfolding constant_group
  constant_group_none nesting w os =
      then_none tt (both_none (both_none (line_none (word_stays w os)) (held_none (nesting + 1) os)) (close_none None nesting (has_break (group_parts s (nesting + 1) w os))))

  -- ---- tables, memories, tags, globals

  init_none : (init : Option (List (Placed Operator))) → HasNoBegin (init_pieces s init)
  unfolding init_pieces
  init_none None = nothing_none
  init_none (Some os) = then_none tt (constant_none 2 os)

  pub table_none : (i : ℕ) (t : Placed (Table (Placed Operator))) → HasNoBegin (table_pieces s i t)
  unfolding table_pieces
  table_none i t =
      field_none (Some t.place) 1 (group_space_none 1 (codes "table")
      (both_none (line_none (declared_stays s row.Table i)) (then_none tt (both_none (line_none (table_type_stays s.names t.value.type)) (init_none t.value.init)))))

  pub memory_none : (i : ℕ) (m : Placed MemoryType) → HasNoBegin (memory_pieces s i m)
  unfolding memory_pieces
  memory_none i m =
      field_none (Some m.place) 1 (line_none (line_group_space_stays (codes "memory") (both_stay (declared_stays s row.Memory i) (then_stay refl (memory_type_stays m.value)))))

  pub tag_none : (i : ℕ) (t : Placed ℕ) → HasNoBegin (tag_pieces s i t)
  unfolding tag_pieces
  tag_none i t = field_none (Some t.place) 1 (line_none (line_group_space_stays (codes "tag") (header_stays s Tag None i t.value)))

  pub global_none : (i : ℕ) (g : Placed (Global (Placed Operator))) → HasNoBegin (global_pieces s i g)
  unfolding global_pieces
  global_none i g =
      field_none (Some g.place) 1 (group_space_none 1 (codes "global")
      (both_none (line_none (declared_stays s row.Global i)) (then_none tt (both_none (line_none (global_type_stays s.names g.value.type)) (then_none tt (constant_none 2 g.value.init))))))

  -- ---- imports and exports, the start function

  import_none : (n : ℕ) (i : Placed Import) → HasNoBegin (import_pieces s n i)
  unfolding import_pieces
  import_none n i =
      field_none (Some i.place) 1
      (line_none (line_group_space_stays (codes "import") (then_stay refl (then_stay refl (then_stay refl (then_stay refl (extern_stays s n i.value.type)))))))

  pub imports_none : (n : Numbers) (is : List (Placed Import)) → HasNoBegin (imports_pieces s n is)
  unfolding imports_pieces
  imports_none n [] = nothing_none
  imports_none n (i ∷ is) = both_none (import_none (number_of i.value.type n) i) (imports_none (numbers_after i.value.type n) is)

  pub export_none : (e : Placed Export) → HasNoBegin (export_pieces s e)
  unfolding export_pieces
  export_none e =
      field_none (Some e.place) 1 (line_none (line_group_space_stays (codes "export")
      (then_stay refl (then_stay refl (line_group_space_stays (kind_word e.value.kind) (extern_index_stays s e.value.kind e.value.index))))))

  pub start_none : (start : Option (Placed ℕ)) → HasNoBegin (start_pieces s start)
  unfolding start_pieces
  start_none None = nothing_none
  start_none (Some start) = field_none (Some start.place) 1 (line_none (line_group_space_stays (codes "start") (item_stays s Func start.value)))

  -- ---- segments

  mode_none : (b : Bool) (m : ElementMode (Placed Operator)) → HasNoBegin (mode_pieces s b m)
  unfolding mode_pieces
  mode_none b Passive = nothing_none
  mode_none b Declared = then_none tt (alone_none tt)
  mode_none b (Active t offset) = both_none (line_none (named_table_stays s b t)) (then_none tt (constant_group_none 2 (codes "offset") offset))

  expression_items_none : (es : List (List (Placed Operator))) → HasNoBegin (expression_items s es)
  unfolding expression_items
  expression_items_none [] = nothing_none
  expression_items_none (e ∷ es) = then_none tt (both_none (constant_group_none 2 (codes "item") e) (expression_items_none es))

  items_none : (items : Items (Placed Operator)) → HasNoBegin (items_pieces s items)
  unfolding items_pieces
  items_none (Functions is) = then_none tt (line_none (function_items_stay s is))
  items_none (Expressions t es) = both_none (line_none (ref_stays s.names t)) (expression_items_none es)

  shown_items_none : (skeleton : Bool) (items : Items (Placed Operator)) → HasNoBegin (shown_items skeleton s items)
  shown_items_none true items = alone_none tt
  shown_items_none false items = items_none items

  pub element_none : (skeleton : Bool) (i : ℕ) (e : Placed ElementEntry) → HasNoBegin (element_pieces skeleton s i e)
  unfolding element_pieces
  element_none skeleton i e =
      field_none (Some e.place) 1 (group_space_none 1 (codes "elem")
      (both_none (line_none (declared_stays s row.Elem i))
      (both_none (mode_none e.value.has_table_index e.value.element.mode) (then_none tt (shown_items_none skeleton e.value.element.items)))))

  data_mode_none : (m : DataMode (Placed Operator)) → HasNoBegin (data_mode_pieces s m)
  unfolding data_mode_pieces
  data_mode_none PassiveData = nothing_none
  data_mode_none (ActiveData memory offset) =
      both_none (line_none (named_memory_stays s memory)) (both_none (constant_group_none 2 (codes "offset") offset) (alone_none tt))

  pub data_none : (skeleton : Bool) (i : ℕ) (d : Placed (Data (Placed Operator))) → HasNoBegin (data_pieces skeleton s i d)
  unfolding data_pieces
  data_none skeleton i d =
      field_none (Some d.place) 1 (group_space_none 1 (codes "data")
      (both_none (line_none (declared_stays s row.Data i)) (then_none tt (both_none (data_mode_none d.value.mode) (line_none (bytes_stay skeleton d.value.bytes))))))
