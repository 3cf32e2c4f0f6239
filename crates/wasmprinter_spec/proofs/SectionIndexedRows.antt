-- Worked rows of declared indices in imports, tables, globals, element segments and data segments (section 2.5 of
-- the standard, "Indices"). An index space counts imports first, and there are no locals outside functions.
use Rattle.std.specs.Prelude.{List, [], ◌∷◌, codes, true, false, None, refl}
use Rattle.std.proofs.Common.{arith}
use Rattle.wasmprinter_spec.specs.Types as types
use Rattle.wasmprinter_spec.specs.Types.{limits_of, ref_type, RefType, table_type_of, memory_type_of, global_type_of, FuncExtern, MemoryExtern, GlobalExtern}
use Rattle.wasmprinter_spec.specs.Operator.{Index, Operator}
use Rattle.wasmprinter_spec.specs.Table.{table}
use Rattle.wasmprinter_spec.specs.Placed.{import_of, table_of, global_of, Passive, Active, Functions, Expressions, Element, element_of, ActiveData, Data, data_of}
use Rattle.wasmprinter_spec.specs.Module.{Module}
use Rattle.wasmprinter_spec.specs.Indexed.{IsIndexed}
use Rattle.wasmprinter_spec.proofs.Samples.{func, to_null, local_get, empty, made}
use Rattle.wasmprinter_spec.proofs.SectionSamples.{ref_func, filled_table, imports}

-- Imports of each kind, followed by a memory and a tag
imports_indexed : IsIndexed imports.value
imports_indexed = record {
  imports = ((_, refl), ((_, refl), (tt, (tt, (tt, ((_, refl), tt))))));
  tables = tt;
  globals = tt;
  elements = tt;
  data_segments = tt;
  types = ((record { supertypes = tt; composite = record { params = tt; results = tt } }, tt), tt);
  functions = tt;
  tags = ((_, refl), tt);
  exports = tt;
  start = tt;
}

filled_table_indexed : IsIndexed filled_table.value
unfolding table
filled_table_indexed = record {
  imports = tt;
  tables = (record { element = tt; init = (tt, tt) }, tt);
  globals = tt;
  elements = tt;
  data_segments = tt;
  types = tt;
  functions = tt;
  tags = tt;
  exports = tt;
  start = tt;
}

-- One of each item that contains indices, after an imported function, an imported memory and an imported global
abbrev global_get : Operator
global_get = made 0x23 (Index 0)

abbrev using : RefType → List Operator → Element Operator → Data Operator → Module
using element init e d = record empty {
  types = (func [] [] ∷ []) ∷ [];
  imports =
      import_of (codes "m") (codes "f") (FuncExtern 0)
      ∷ import_of (codes "m") (codes "y") (MemoryExtern (memory_type_of false false (limits_of 0 None) None))
      ∷ import_of (codes "m") (codes "g") (GlobalExtern (global_type_of false (to_null (types.Index 0))))
      ∷ [];
  functions = record { type_index = 0; locals = []; operators = [] } ∷ [];
  tables = table_of (table_type_of false (limits_of 1 None) element) None ∷ [];
  globals = global_of (global_type_of true (to_null (types.Index 0))) init ∷ [];
  elements = e ∷ [];
  data_segments = d ∷ [];
}

-- References to type 0; uses of the imported global, of both functions, of table 0 and of memory 0
abbrev own_ref : RefType
own_ref = ref_type true (types.Index 0)

abbrev own_element : Element Operator
own_element = element_of (Active 0 (global_get ∷ [])) (Functions (0 ∷ 1 ∷ []))

abbrev own_data : Data Operator
own_data = data_of (ActiveData 0 (global_get ∷ [])) []

using_indexed : IsIndexed (using own_ref (ref_func 1 ∷ []) own_element own_data)
unfolding table
using_indexed = record {
  imports = ((_, refl), (tt, (omega arith, tt)));
  tables = (record { element = omega arith; init = tt }, tt);
  globals = (record { type = omega arith; init = (omega arith, tt) }, tt);
  elements = (record { mode = (omega arith, (omega arith, tt)); items = (omega arith, (omega arith, tt)) }, tt);
  data_segments = ((omega arith, (omega arith, tt)), tt);
  types = ((record { supertypes = tt; composite = record { params = tt; results = tt } }, tt), tt);
  functions = (record { type_index = (_, refl); locals = tt; operators = tt }, tt);
  tags = tt;
  exports = tt;
  start = tt;
}

-- ---- indices that are not declared

other_type : IsIndexed (using (ref_type false (types.Index 1)) [] own_element own_data) → ⊥
other_type i = omega (arith, i.tables.0.element)

other_function : IsIndexed (using own_ref (ref_func 2 ∷ []) own_element own_data) → ⊥
unfolding table
other_function i = omega (arith, i.globals.0.init.0)

-- There are no locals.
local_outside : IsIndexed (using own_ref (local_get 0 ∷ []) own_element own_data) → ⊥
unfolding table
local_outside i = omega (arith, i.globals.0.init.0)

function_in_items : IsIndexed (using own_ref [] (element_of Passive (Functions (2 ∷ []))) own_data) → ⊥
function_in_items i = omega (arith, i.elements.0.items.0)

function_in_expressions : IsIndexed (using own_ref [] (element_of Passive (Expressions own_ref ((ref_func 2 ∷ []) ∷ []))) own_data) → ⊥
unfolding table
function_in_expressions i = let (type, ((function, _), _)) = i.elements.0.items in omega (arith, function)

other_table : IsIndexed (using own_ref [] (element_of (Active 1 []) (Functions [])) own_data) → ⊥
other_table i = omega (arith, i.elements.0.mode.0)

other_memory : IsIndexed (using own_ref [] own_element (data_of (ActiveData 1 []) [])) → ⊥
other_memory i = let ((memory, offset), _) = i.data_segments in omega (arith, memory)

-- The type of an imported function must be a function type that is declared.
no_type : IsIndexed (record empty { imports = import_of [] [] (FuncExtern 0) ∷ [] }) → ⊥
no_type i = let ((signature, declared), _) = i.imports in absurd cc
