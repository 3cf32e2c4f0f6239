-- A module: everything that its text must repeat (section 2.5 of the standard). These are not part of it: places; how
-- numbers were encoded and locals were grouped; the data count; `rec` around a single type; whether an element segment
-- names its table explicitly; and all custom sections that are not printed as raw bytes, such as `name` sections.
use Rattle.std.specs.Prelude.{ℕ, List, [], ◌∷◌, ◌++◌, map, replicate, Option, Some, None, option_map}
use Rattle.wasmprinter_spec.specs.Grammar.{Placed}
use Rattle.wasmprinter_spec.specs.Types.{ValType, SubType, TableType, MemoryType, GlobalType, ExternType, FuncExtern, TableExtern, MemoryExtern, GlobalExtern, TagExtern}
use Rattle.wasmprinter_spec.specs.Operator.{Operator}
use Rattle.wasmprinter_spec.specs.Customs.{RawCustom, raw_customs}
use Rattle.wasmprinter_spec.specs.Placed.{TypeGroup, LocalEntry, Export, Import, Table, table_of, Global, global_of, ElementMode, Passive, Declared, Active, Items, Functions, Expressions, Element, element_of, ElementEntry, DataMode, PassiveData, ActiveData, Data, data_of, PlacedFunction, PlacedModule}

-- A defined function: its type's index, the types of all its locals, not counting parameters, and its operators
-- without the last `end`.
pub record Function : Type 0 where
  pub type_index : ℕ
  pub locals : List ValType
  pub operators : List Operator

-- A module. Its custom sections are those that are printed as raw bytes. Types are in their groups; a type by
-- itself is a group of one. A tag is given by the index of its type.
pub record Module : Type 0 where
  pub types : List (List SubType)
  pub imports : List Import
  pub functions : List Function
  pub tables : List (Table Operator)
  pub memories : List MemoryType
  pub tags : List ℕ
  pub globals : List (Global Operator)
  pub exports : List Export
  pub start : Option ℕ
  pub elements : List (Element Operator)
  pub data_segments : List (Data Operator)
  pub customs : List RawCustom

-- The values without their places.
abbrev pub without_places : {A : Type 0} → List (Placed A) → List A
without_places xs = map (λ x. x.value) xs

-- The types of each group.
abbrev pub groups_of : List (Placed TypeGroup) → List (List SubType)
groups_of gs = map (λ g. g.value.types) gs

-- The type of each single local.
abbrev pub locals_of : List (Placed LocalEntry) → List ValType
locals_of [] = []
locals_of (e ∷ es) = replicate e.value.count e.value.type ++ locals_of es

-- The function without the places, and with each local listed by itself.
abbrev pub function_of : PlacedFunction → Function
function_of f = record {
  type_index = f.type_index;
  locals = locals_of f.body.value.locals;
  operators = without_places f.body.value.operators;
}

-- The table without the places of the operators of its initialiser.
abbrev pub table_without_places : Table (Placed Operator) → Table Operator
table_without_places t = table_of t.type (option_map without_places t.init)

-- The global without the places of the operators of its initialiser.
abbrev pub global_without_places : Global (Placed Operator) → Global Operator
global_without_places g = global_of g.type (without_places g.init)

-- The mode of an element segment without the places of the operators of its offset.
abbrev pub mode_without_places : ElementMode (Placed Operator) → ElementMode Operator
mode_without_places Passive = Passive
mode_without_places Declared = Declared
mode_without_places (Active table offset) = Active table (without_places offset)

-- The items of an element segment without the places of their operators.
abbrev pub items_without_places : Items (Placed Operator) → Items Operator
items_without_places (Functions is) = Functions is
items_without_places (Expressions t es) = Expressions t (map without_places es)

-- The element segment without places, and without whether the bytes name its table.
abbrev pub element_without_places : ElementEntry → Element Operator
element_without_places e = element_of (mode_without_places e.element.mode) (items_without_places e.element.items)

-- The mode of a data segment without the places of the operators of its offset.
abbrev pub data_mode_without_places : DataMode (Placed Operator) → DataMode Operator
data_mode_without_places PassiveData = PassiveData
data_mode_without_places (ActiveData memory offset) = ActiveData memory (without_places offset)

-- The data segment without the places of the operators of its offset.
abbrev pub data_without_places : Data (Placed Operator) → Data Operator
data_without_places d = data_of (data_mode_without_places d.mode) d.bytes

-- `f` of each value, without its place.
abbrev pub each_value : {A B : Type 0} → (A → B) → List (Placed A) → List B
each_value f xs = map (λ x. f x.value) xs

-- The module without its places and everything else that a text does not repeat.
abbrev pub module_of : PlacedModule → Module
module_of m = record {
  types = groups_of m.types;
  imports = without_places m.imports;
  functions = map function_of m.functions;
  tables = each_value table_without_places m.tables;
  memories = without_places m.memories;
  tags = without_places m.tags;
  globals = each_value global_without_places m.globals;
  exports = without_places m.exports;
  start = option_map (λ x. x.value) m.start;
  elements = each_value element_without_places m.elements;
  data_segments = each_value data_without_places m.data_segments;
  customs = raw_customs m.customs;
}

-- ---- The imports of each kind: in each index space, imports come first (section 2.5.1 of the standard, "Indices")

-- The list with the value before it, if there is one.
abbrev pub with_first_if_any : {A : Type 0} → Option A → List A → List A
with_first_if_any None xs = xs
with_first_if_any (Some x) xs = x ∷ xs

-- The values of f for the items of the list, in order. Items where f has no value are left out.
abbrev pub values_some : {A B : Type 0} → (A → Option B) → List A → List B
values_some f [] = []
values_some f (x ∷ xs) = with_first_if_any (f x) (values_some f xs)

-- The type of an import, if it is one of the kind: for `func_import` the type index of a function, for
-- `table_import`, `memory_import` and `global_import` the type, for `tag_import` the type index of a tag.
abbrev pub func_import : ExternType → Option ℕ
func_import (FuncExtern i) = Some i
func_import _ = None

abbrev pub table_import : ExternType → Option TableType
table_import (TableExtern t) = Some t
table_import _ = None

abbrev pub memory_import : ExternType → Option MemoryType
memory_import (MemoryExtern t) = Some t
memory_import _ = None

abbrev pub global_import : ExternType → Option GlobalType
global_import (GlobalExtern t) = Some t
global_import _ = None

abbrev pub tag_import : ExternType → Option ℕ
tag_import (TagExtern i) = Some i
tag_import _ = None

-- The types of the imports of a kind, in order.
abbrev pub imported_types : {A : Type 0} → (ExternType → Option A) → List Import → List A
imported_types f is = values_some (λ i. f i.type) is
