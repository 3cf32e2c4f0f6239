-- The lines that fields begin: each field begins one line, except an explicit `(rec ..)`.
use Rattle.std.proofs.Common.{◌≡◌, ℕ, ◌+◌, ◌==◌, List, [], ◌∷◌, ◌++◌, Bool, true, false, Option, Some, None, map, refl, ap, ap₂, subst, sym, ◌∙◌, codes, length}
use Rattle.std.specs.List.{AllByRecursion, flat_map}
use Rattle.std.proofs.lemmas.List.Concat.{flat_map-append}
use Rattle.wasmprinter_spec.specs.Grammar.{Placed}
use Rattle.wasmprinter_spec.specs.Types.{SubType, TableType, MemoryType, GlobalType, ValType, Limits, ExternType, FuncExtern, TableExtern, MemoryExtern, GlobalExtern, TagExtern, ExternKind, FuncKind, TableKind, MemoryKind, GlobalKind, TagKind, signature_at}
use Rattle.wasmprinter_spec.specs.Row as row
use Rattle.wasmprinter_spec.specs.Row.{Space, Func, Tag}
use Rattle.wasmprinter_spec.specs.Names.{Names}
use Rattle.wasmprinter_spec.specs.Operator.{Operator}
use Rattle.wasmprinter_spec.specs.Indexed.{space_of}
use Rattle.wasmprinter_spec.specs.Placed.{TypeGroup, Import, Table, Global, ElementMode, Passive, Declared, Active, Items, Functions, Expressions, ElementEntry, DataMode, PassiveData, ActiveData, Data, Export}
use Rattle.wasmprinter_spec.specs.Piece.{Piece, Break}
use Rattle.wasmprinter_spec.specs.Layout.Groups.{has_break, close, group, numbered_pieces}
use Rattle.wasmprinter_spec.specs.Layout.Declarations.{Scope, Folding, item_declaration, item_index}
use Rattle.wasmprinter_spec.specs.Layout.Types.{type_pieces, member_pieces, group_pieces_by, type_group_pieces, type_section_pieces}
use Rattle.wasmprinter_spec.specs.Layout.Operators.{InLine, Setting}
use Rattle.wasmprinter_spec.specs.Layout.Functions.{header_pieces}
use Rattle.wasmprinter_spec.specs.Layout.Expressions.{in_line, constant_by, constant_pieces, word_unless_one, grouped_pieces, constant_group}
use Rattle.wasmprinter_spec.specs.Layout.Limits.{wide_pieces, limits_pieces}
use Rattle.wasmprinter_spec.specs.Layout.Tables.{table_type_pieces, init_pieces, table_pieces}
use Rattle.wasmprinter_spec.specs.Layout.Memories.{shared_pieces, page_pieces, memory_type_pieces, memory_pieces}
use Rattle.wasmprinter_spec.specs.Layout.Globals.{mutable_pieces, global_type_pieces, global_pieces}
use Rattle.wasmprinter_spec.specs.Layout.Imports.{Numbers, number_of, numbers_after, extern_pieces, import_pieces, imports_pieces}
use Rattle.wasmprinter_spec.specs.Layout.Exports.{kind_word, extern_index_pieces, export_pieces}
use Rattle.wasmprinter_spec.specs.Layout.Elements.{named_table, mode_pieces, function_items, expression_items, items_pieces, shown_items, element_pieces}
use Rattle.wasmprinter_spec.specs.Layout.DataSegments.{named_memory, data_mode_pieces, shown_bytes, data_pieces}
use Rattle.wasmprinter_spec.specs.Layout.Tags.{tag_pieces}
use Rattle.wasmprinter_spec.specs.Layout.Start.{start_pieces}
use Rattle.wasmprinter_spec.specs.Lines.{places}
use Rattle.wasmprinter_spec.specs.Apart.{IsOutside, member_places, group_places, start_places}
use Rattle.wasmprinter_laws.proofs.Lines.Indexes.{AreElsewhere}
use Rattle.wasmprinter_spec.proofs.Each.{all_parts}
use Rattle.wasmprinter_spec.proofs.OneLine.{starts, IsOneLine, nothing_stays, both_stay, then_stay, alone_stays, cond_stays, close_stays, line_group_space_stays, group_space_stays, declaration_stays, index_stays, ref_stays, val_stays, type_use_stays, type_stays}
use Rattle.wasmprinter_laws.proofs.Lines.OperatorLines.{expression_stays}

-- ---- lines with places elsewhere

-- If its pieces begin no other line, a field begins one line.
pub field_begins : (place nesting : ℕ) {ps : List Piece} → IsOneLine ps → flat_map starts (Break (Some place) nesting ∷ ps) ≡ Some place ∷ []
field_begins place nesting h = ap (λ (ls : List (Option ℕ)). Some place ∷ ls) h.begins

abbrev pub placed_lines : {A : Type 0} → List (Placed A) → List (Option ℕ)
placed_lines xs = map (λ x. Some x.place) xs

-- If each item begins one line, with its place, the lines of the items are those with their places.
pub numbered_begin : {A : Type 0} (write : ℕ → Placed A → List Piece) → ((i : ℕ) (x : Placed A) → flat_map starts (write i x) ≡ Some x.place ∷ []) →
    (i : ℕ) (xs : List (Placed A)) → flat_map starts (numbered_pieces write i xs) ≡ placed_lines xs
unfolding numbered_pieces
numbered_begin write one i [] = refl
numbered_begin write one i (x ∷ xs) =
    flat_map-append starts (write i x) (numbered_pieces write (i + 1) xs)
    ∙ ap₂ (λ (ls ms : List (Option ℕ)). ls ++ ms) (one i x) (numbered_begin write one (i + 1) xs)

module _ (low high : ℕ) where
  pub elsewhere_both : (xs ys : List (Option ℕ)) → AreElsewhere low high xs → AreElsewhere low high ys → AreElsewhere low high (xs ++ ys)
  elsewhere_both [] ys h k = k
  elsewhere_both (x ∷ xs) ys h k = (h.0, elsewhere_both xs ys h.1 k)

  -- If the lines of two lists of pieces have places elsewhere, so have those of both joined.
  pub pieces_elsewhere : (ps qs : List Piece) → AreElsewhere low high (flat_map starts ps) → AreElsewhere low high (flat_map starts qs) → AreElsewhere low high (flat_map starts (ps ++ qs))
  pieces_elsewhere ps qs h k =
      subst (AreElsewhere low high) (sym (flat_map-append starts ps qs)) (elsewhere_both (flat_map starts ps) (flat_map starts qs) h k)

  pub stay_elsewhere : {ps : List Piece} → IsOneLine ps → AreElsewhere low high (flat_map starts ps)
  stay_elsewhere h = subst (AreElsewhere low high) (sym h.begins) tt

  pub placed_elsewhere : {A : Type 0} (xs : List (Placed A)) → AllByRecursion (IsOutside low high) (places xs) → AreElsewhere low high (placed_lines xs)
  placed_elsewhere [] h = tt
  placed_elsewhere (x ∷ xs) h = (h.0, placed_elsewhere xs h.1)

  -- A closing parenthesis without a place begins no line with a place of the interval.
  pub close_elsewhere : (nesting : ℕ) (b : Bool) → AreElsewhere low high (flat_map starts (close None nesting b))
  close_elsewhere nesting true = (tt, tt)
  close_elsewhere nesting false = tt

  -- ---- types

  members_elsewhere : (names : Names) (place i : ℕ) (ts : List SubType) → AllByRecursion (IsOutside low high) (member_places true place ts) →
      AreElsewhere low high (flat_map starts (numbered_pieces (member_pieces names place) i ts))
  unfolding numbered_pieces member_pieces
  members_elsewhere names place i [] h = tt
  members_elsewhere names place i (t ∷ ts) h =
      let rest : List Piece = numbered_pieces (member_pieces names place) (i + 1) ts in
      (h.0, pieces_elsewhere (type_pieces names i t) rest (stay_elsewhere (type_stays names i t)) (members_elsewhere names place (i + 1) ts h.1))

  alone_elsewhere : (names : Names) (i : ℕ) (ts : List SubType) → AreElsewhere low high (flat_map starts (numbered_pieces (type_pieces names) i ts))
  unfolding numbered_pieces
  alone_elsewhere names i [] = tt
  alone_elsewhere names i (t ∷ ts) =
      pieces_elsewhere (type_pieces names i t) (numbered_pieces (type_pieces names) (i + 1) ts) (stay_elsewhere (type_stays names i t)) (alone_elsewhere names (i + 1) ts)

  group_by_elsewhere : (names : Names) (written : Bool) (place i : ℕ) (ts : List SubType) → AllByRecursion (IsOutside low high) (member_places written place ts) →
      AreElsewhere low high (flat_map starts (group_pieces_by names written place i ts))
  unfolding group
  group_by_elsewhere names true place i ts h =
      let members : List Piece = numbered_pieces (member_pieces names place) i ts in
      pieces_elsewhere members (close None 1 (has_break members)) (members_elsewhere names place i ts h) (close_elsewhere 1 (has_break members))
  group_by_elsewhere names false place i ts h = alone_elsewhere names i ts

  group_elsewhere : (names : Names) (i : ℕ) (g : Placed TypeGroup) → AllByRecursion (IsOutside low high) (group_places g) →
      AreElsewhere low high (flat_map starts (type_group_pieces names i g))
  unfolding type_group_pieces
  group_elsewhere names i g h = (h.0, group_by_elsewhere names g.value.explicit g.place i g.value.types h.1)

  pub types_elsewhere : (names : Names) (i : ℕ) (gs : List (Placed TypeGroup)) → AllByRecursion (IsOutside low high) (flat_map group_places gs) →
      AreElsewhere low high (flat_map starts (type_section_pieces names i gs))
  unfolding type_section_pieces
  types_elsewhere names i [] h = tt
  types_elsewhere names i (g ∷ gs) h =
      let parts = all_parts (IsOutside low high) (group_places g) (flat_map group_places gs) h in
      pieces_elsewhere (type_group_pieces names i g) (type_section_pieces names (i + length g.value.types) gs)
      (group_elsewhere names i g parts.0) (types_elsewhere names (i + length g.value.types) gs parts.1)

-- ---- parts of fields

pub header_stays : (s : Scope) (space : Space) (f : Option ℕ) (i type_index : ℕ) → IsOneLine (header_pieces s space f i type_index)
unfolding header_pieces
header_stays s space f i type_index =
    both_stay (declaration_stays (s.names.items space i) i) (then_stay refl (type_use_stays s.names f type_index (signature_at s.types type_index)))

pub item_stays : (s : Scope) (space : Space) (i : ℕ) → IsOneLine (item_index s space i)
item_stays s space i = index_stays (s.names.items space i) i

pub declared_stays : (s : Scope) (space : Space) (i : ℕ) → IsOneLine (item_declaration s space i)
declared_stays s space i = declaration_stays (s.names.items space i) i

-- An expression that is not folded begins no line.
constant_by_stays : (f : Option Folding) → f ≡ None → (s : Setting) → s.form ≡ InLine → (os : List (Placed Operator)) → IsOneLine (constant_by f s os)
unfolding constant_by
constant_by_stays None flat s line os = expression_stays s line os
constant_by_stays (Some f) flat s line os = absurd cc

constant_stays : (s : Scope) → s.folding ≡ None → (nesting : ℕ) (os : List (Placed Operator)) → IsOneLine (constant_pieces s nesting os)
unfolding constant_pieces
constant_stays s flat nesting os = constant_by_stays s.folding flat (in_line s nesting) refl os

pub word_stays : (w : List ℕ) (os : List (Placed Operator)) → IsOneLine (word_unless_one w os)
word_stays w [] = then_stay refl (alone_stays refl)
word_stays w (o ∷ []) = nothing_stays
word_stays w (o ∷ p ∷ os) = then_stay refl (alone_stays refl)

held_stay : (s : Scope) → s.folding ≡ None → (nesting : ℕ) (os : List (Placed Operator)) → IsOneLine (grouped_pieces s nesting os)
held_stay s flat nesting [] = constant_stays s flat nesting []
held_stay s flat nesting (o ∷ []) = expression_stays (in_line s nesting) refl (o ∷ [])
held_stay s flat nesting (o ∷ p ∷ os) = constant_stays s flat nesting (o ∷ p ∷ os)

constant_group_stays : (s : Scope) → s.folding ≡ None → (nesting : ℕ) (w : List ℕ) (os : List (Placed Operator)) → IsOneLine (constant_group s nesting w os)
unfolding constant_group
constant_group_stays s flat nesting w os =
    let parts = both_stay (word_stays w os) (held_stay s flat (nesting + 1) os) in then_stay refl (both_stay parts (close_stays nesting parts))

wide_stays : (b : Bool) → IsOneLine (wide_pieces b)
wide_stays true = alone_stays refl
wide_stays false = nothing_stays

limits_stay : (l : Limits) → IsOneLine (limits_pieces l)
unfolding limits_pieces
limits_stay l = alone_stays refl

-- ---- tables, memories, tags, globals

pub table_type_stays : (names : Names) (t : TableType) → IsOneLine (table_type_pieces names t)
unfolding table_type_pieces
table_type_stays names t = both_stay (wide_stays t.wide) (both_stay (limits_stay t.limits) (then_stay refl (ref_stays names t.element)))

init_stays : (s : Scope) → s.folding ≡ None → (init : Option (List (Placed Operator))) → IsOneLine (init_pieces s init)
unfolding init_pieces
init_stays s flat None = nothing_stays
init_stays s flat (Some os) = then_stay refl (constant_stays s flat 2 os)

pub table_begins : (s : Scope) → s.folding ≡ None → (i : ℕ) (t : Placed (Table (Placed Operator))) → flat_map starts (table_pieces s i t) ≡ Some t.place ∷ []
unfolding table_pieces
table_begins s flat i t =
    field_begins t.place 1 (group_space_stays 1 (codes "table") (both_stay (declared_stays s row.Table i) (then_stay refl (both_stay (table_type_stays s.names t.value.type) (init_stays s flat t.value.init)))))

shared_stays : (b : Bool) → IsOneLine (shared_pieces b)
shared_stays true = alone_stays refl
shared_stays false = nothing_stays

page_stays : (p : Option ℕ) → IsOneLine (page_pieces p)
page_stays None = nothing_stays
page_stays (Some e) = then_stay refl (line_group_space_stays (codes "pagesize") (alone_stays refl))

pub memory_type_stays : (m : MemoryType) → IsOneLine (memory_type_pieces m)
unfolding memory_type_pieces
memory_type_stays m = both_stay (wide_stays m.wide) (both_stay (limits_stay m.limits) (both_stay (shared_stays m.shared) (page_stays m.page)))

pub memory_begins : (s : Scope) (i : ℕ) (m : Placed MemoryType) → flat_map starts (memory_pieces s i m) ≡ Some m.place ∷ []
unfolding memory_pieces
memory_begins s i m = field_begins m.place 1 (line_group_space_stays (codes "memory") (both_stay (declared_stays s row.Memory i) (then_stay refl (memory_type_stays m.value))))

pub tag_begins : (s : Scope) (i : ℕ) (t : Placed ℕ) → flat_map starts (tag_pieces s i t) ≡ Some t.place ∷ []
unfolding tag_pieces
tag_begins s i t = field_begins t.place 1 (line_group_space_stays (codes "tag") (header_stays s Tag None i t.value))

mutable_stays : (names : Names) (b : Bool) (t : ValType) → IsOneLine (mutable_pieces names b t)
mutable_stays names true t = then_stay refl (both_stay (val_stays names t) (alone_stays refl))
mutable_stays names false t = val_stays names t

pub global_type_stays : (names : Names) (t : GlobalType) → IsOneLine (global_type_pieces names t)
unfolding global_type_pieces
global_type_stays names t = mutable_stays names t.mutable t.type

pub global_begins : (s : Scope) → s.folding ≡ None → (i : ℕ) (g : Placed (Global (Placed Operator))) → flat_map starts (global_pieces s i g) ≡ Some g.place ∷ []
unfolding global_pieces
global_begins s flat i g =
    field_begins g.place 1 (group_space_stays 1 (codes "global")
    (both_stay (declared_stays s row.Global i) (then_stay refl (both_stay (global_type_stays s.names g.value.type) (then_stay refl (constant_stays s flat 2 g.value.init))))))

-- ---- imports and exports, the start function

pub extern_stays : (s : Scope) (n : ℕ) (t : ExternType) → IsOneLine (extern_pieces s n t)
unfolding extern_pieces
extern_stays s n (FuncExtern i) = line_group_space_stays (codes "func") (header_stays s Func (Some n) n i)
extern_stays s n (TableExtern t) = line_group_space_stays (codes "table") (both_stay (declared_stays s row.Table n) (then_stay refl (table_type_stays s.names t)))
extern_stays s n (MemoryExtern t) = line_group_space_stays (codes "memory") (both_stay (declared_stays s row.Memory n) (then_stay refl (memory_type_stays t)))
extern_stays s n (GlobalExtern t) = line_group_space_stays (codes "global") (both_stay (declared_stays s row.Global n) (then_stay refl (global_type_stays s.names t)))
extern_stays s n (TagExtern i) = line_group_space_stays (codes "tag") (header_stays s Tag None n i)

import_begins : (s : Scope) (n : ℕ) (i : Placed Import) → flat_map starts (import_pieces s n i) ≡ Some i.place ∷ []
unfolding import_pieces
import_begins s n i =
    field_begins i.place 1 (line_group_space_stays (codes "import") (then_stay refl (then_stay refl (then_stay refl (then_stay refl (extern_stays s n i.value.type))))))

pub imports_begin : (s : Scope) (n : Numbers) (is : List (Placed Import)) → flat_map starts (imports_pieces s n is) ≡ placed_lines is
unfolding imports_pieces
imports_begin s n [] = refl
imports_begin s n (i ∷ is) =
    flat_map-append starts (import_pieces s (number_of i.value.type n) i) (imports_pieces s (numbers_after i.value.type n) is)
    ∙ ap₂ (λ (ls ms : List (Option ℕ)). ls ++ ms) (import_begins s (number_of i.value.type n) i) (imports_begin s (numbers_after i.value.type n) is)

pub extern_index_stays : (s : Scope) (k : ExternKind) (n : ℕ) → IsOneLine (extern_index_pieces s k n)
unfolding extern_index_pieces
extern_index_stays s TagKind n = alone_stays refl
extern_index_stays s FuncKind n = item_stays s (space_of FuncKind) n
extern_index_stays s TableKind n = item_stays s (space_of TableKind) n
extern_index_stays s MemoryKind n = item_stays s (space_of MemoryKind) n
extern_index_stays s GlobalKind n = item_stays s (space_of GlobalKind) n

pub export_begins : (s : Scope) (e : Placed Export) → flat_map starts (export_pieces s e) ≡ Some e.place ∷ []
unfolding export_pieces
export_begins s e =
    field_begins e.place 1 (line_group_space_stays (codes "export")
    (then_stay refl (then_stay refl (line_group_space_stays (kind_word e.value.kind) (extern_index_stays s e.value.kind e.value.index)))))

pub start_elsewhere : (low high : ℕ) (s : Scope) (start : Option (Placed ℕ)) → AllByRecursion (IsOutside low high) (start_places start) → AreElsewhere low high (flat_map starts (start_pieces s start))
unfolding start_pieces
start_elsewhere low high s None h = tt
start_elsewhere low high s (Some start) h = (h.0, stay_elsewhere low high (line_group_space_stays (codes "start") (item_stays s Func start.value)))

-- ---- segments

pub named_table_stays : (s : Scope) (b : Bool) (t : ℕ) → IsOneLine (named_table s b t)
named_table_stays s true t = then_stay refl (line_group_space_stays (codes "table") (item_stays s row.Table t))
named_table_stays s false t = nothing_stays

mode_stays : (s : Scope) → s.folding ≡ None → (b : Bool) (m : ElementMode (Placed Operator)) → IsOneLine (mode_pieces s b m)
unfolding mode_pieces
mode_stays s flat b Passive = nothing_stays
mode_stays s flat b Declared = then_stay refl (alone_stays refl)
mode_stays s flat b (Active t offset) = both_stay (named_table_stays s b t) (then_stay refl (constant_group_stays s flat 2 (codes "offset") offset))

pub function_items_stay : (s : Scope) (is : List ℕ) → IsOneLine (function_items s is)
unfolding function_items
function_items_stay s [] = nothing_stays
function_items_stay s (i ∷ is) = then_stay refl (both_stay (item_stays s Func i) (function_items_stay s is))

expression_items_stay : (s : Scope) → s.folding ≡ None → (es : List (List (Placed Operator))) → IsOneLine (expression_items s es)
unfolding expression_items
expression_items_stay s flat [] = nothing_stays
expression_items_stay s flat (e ∷ es) = then_stay refl (both_stay (constant_group_stays s flat 2 (codes "item") e) (expression_items_stay s flat es))

items_stay : (s : Scope) → s.folding ≡ None → (items : Items (Placed Operator)) → IsOneLine (items_pieces s items)
unfolding items_pieces
items_stay s flat (Functions is) = then_stay refl (function_items_stay s is)
items_stay s flat (Expressions t es) = both_stay (ref_stays s.names t) (expression_items_stay s flat es)

shown_items_stay : (skeleton : Bool) (s : Scope) → s.folding ≡ None → (items : Items (Placed Operator)) → IsOneLine (shown_items skeleton s items)
shown_items_stay true s flat items = alone_stays refl
shown_items_stay false s flat items = items_stay s flat items

pub element_begins : (skeleton : Bool) (s : Scope) → s.folding ≡ None → (i : ℕ) (e : Placed ElementEntry) → flat_map starts (element_pieces skeleton s i e) ≡ Some e.place ∷ []
unfolding element_pieces
element_begins skeleton s flat i e =
    field_begins e.place 1 (group_space_stays 1 (codes "elem")
    (both_stay (declared_stays s row.Elem i) (both_stay (mode_stays s flat e.value.has_table_index e.value.element.mode) (then_stay refl (shown_items_stay skeleton s flat e.value.element.items)))))

pub named_memory_stays : (s : Scope) (n : ℕ) → IsOneLine (named_memory s n)
named_memory_stays s n = cond_stays (n == 0) nothing_stays (both_stay (line_group_space_stays (codes "memory") (item_stays s row.Memory n)) (alone_stays refl))

data_mode_stays : (s : Scope) → s.folding ≡ None → (m : DataMode (Placed Operator)) → IsOneLine (data_mode_pieces s m)
unfolding data_mode_pieces
data_mode_stays s flat PassiveData = nothing_stays
data_mode_stays s flat (ActiveData memory offset) = both_stay (named_memory_stays s memory) (both_stay (constant_group_stays s flat 2 (codes "offset") offset) (alone_stays refl))

pub bytes_stay : (skeleton : Bool) (bs : List ℕ) → IsOneLine (shown_bytes skeleton bs)
bytes_stay true bs = alone_stays refl
bytes_stay false bs = alone_stays refl

pub data_begins : (skeleton : Bool) (s : Scope) → s.folding ≡ None → (i : ℕ) (d : Placed (Data (Placed Operator))) → flat_map starts (data_pieces skeleton s i d) ≡ Some d.place ∷ []
unfolding data_pieces
data_begins skeleton s flat i d =
    field_begins d.place 1 (group_space_stays 1 (codes "data")
    (both_stay (declared_stays s row.Data i) (then_stay refl (both_stay (data_mode_stays s flat d.value.mode) (bytes_stay skeleton d.value.bytes)))))
