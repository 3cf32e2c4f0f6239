-- Worked rows of imports, tables, memories, globals, element segments and data segments in the text format
-- (sections 6.4 to 6.6 of the standard): the texts of single modules, and the modules that texts write.
use Rattle.std.specs.Prelude.{◌≡◌, [], ◌∷◌, map, true, false, codes, Option, Some, None, refl}
use Rattle.std.specs.List.{AllByRecursion}
use Rattle.wasmprinter_spec.specs.Types as types
use Rattle.wasmprinter_spec.specs.Types.{limits_of, ref_type, table_type_of, global_type_of, FuncExtern}
use Rattle.wasmprinter_spec.specs.Operator.{NoImmediates, Operator}
use Rattle.wasmprinter_spec.specs.Placed.{table_of, global_of, Passive, Declared, Active, Functions, Expressions, Element, element_of, PassiveData, ActiveData, Data, data_of, import_of}
use Rattle.wasmprinter_spec.specs.Module.{Module}
use Rattle.wasmprinter_spec.specs.Options.{defaults}
use Rattle.wasmprinter_spec.specs.Read.{read}
use Rattle.wasmprinter_spec.proofs.Samples.{empty, func, made}
use Rattle.wasmprinter_spec.proofs.SectionSamples.{Sample, one_field, ref_null_func, ref_func, filled_table, emptied_table, tables, globals, elements, data_segments, memories, imports, zero_const}
use Rattle.wasmprinter_spec.proofs.UnreadRows.{numbers_read}
use Rattle.wasmprinter_spec.proofs.Computing.{composing, reading}
use Rattle.wasmprinter_spec.proofs.FromBytes.{skeleton, text_by}

-- ---- the texts of the samples, and the modules that these texts write

abbrev Prints : Sample → Type 0
Prints s = text_by defaults s.placed ≡ s.text

abbrev ReadsBack : Sample → Type 0
ReadsBack s = read s.text ≡ Some s.value

tables_print : AllByRecursion Prints tables
unfolding composing
tables_print = (refl, (refl, (refl, (refl, tt))))

globals_print : AllByRecursion Prints globals
unfolding composing
globals_print = (refl, (refl, (refl, (refl, (refl, tt)))))

elements_print : AllByRecursion Prints elements
unfolding composing
elements_print = (refl, (refl, (refl, (refl, (refl, (refl, (refl, (refl, (refl, tt)))))))))

datas_print : AllByRecursion Prints data_segments
unfolding composing
datas_print = (refl, (refl, (refl, (refl, (refl, tt)))))

memories_print : AllByRecursion Prints memories
unfolding composing
memories_print = (refl, (refl, (refl, (refl, (refl, (refl, (refl, (refl, (refl, tt)))))))))

imports_print : Prints imports
unfolding composing
imports_print = refl

tables_read : AllByRecursion ReadsBack tables
unfolding reading
tables_read = (refl, (refl, (refl, (refl, tt))))

globals_read : AllByRecursion ReadsBack globals
unfolding reading
globals_read = (refl, (refl, (refl, (refl, (refl, tt)))))

elements_read : AllByRecursion ReadsBack elements
unfolding reading
elements_read = (refl, (refl, (refl, (refl, (refl, (refl, (refl, (refl, (refl, tt)))))))))

datas_read : AllByRecursion ReadsBack data_segments
unfolding reading
datas_read = (refl, (refl, (refl, (refl, (refl, tt)))))

memories_read : AllByRecursion ReadsBack memories
unfolding reading
memories_read = (refl, (refl, (refl, (refl, (refl, (refl, (refl, (refl, (refl, tt)))))))))

imports_read : ReadsBack imports
unfolding reading
imports_read = refl

-- The text of a table with an empty initialiser reads as a table without one.
emptied_table_prints : Prints emptied_table
unfolding composing
emptied_table_prints = refl

emptied_table_reads : read emptied_table.text ≡ Some (record empty { tables = table_of (table_type_of false (limits_of 0 (Some 1)) (ref_type true types.Func)) None ∷ [] })
unfolding reading
emptied_table_reads = refl

-- ---- skeletons

elements_in_skeletons : map (λ s. text_by skeleton s.placed) elements ≡ map one_field (
    codes "(elem (;0;) (i32.const 0) ...)"
    ∷ codes "(elem (;0;) ...)"
    ∷ codes "(elem (;0;) (table 0) (i32.const 0) ...)"
    ∷ codes "(elem (;0;) declare ...)"
    ∷ codes "(elem (;0;) (i32.const 0) ...)"
    ∷ codes "(elem (;0;) ...)"
    ∷ codes "(elem (;0;) (table 1) (offset ) ...)"
    ∷ codes "(elem (;0;) declare ...)"
    ∷ codes "(elem (;0;) ...)"
    ∷ [])
unfolding composing
elements_in_skeletons = refl

datas_in_skeletons : map (λ s. text_by skeleton s.placed) data_segments ≡ map one_field (
    codes "(data (;0;) (i32.const 0) ...)"
    ∷ codes "(data (;0;) (offset ) ...)"
    ∷ codes "(data (;0;) ...)"
    ∷ codes "(data (;0;) (memory 1) (i32.const 0) ...)"
    ∷ codes "(data (;0;) (offset i32.const 0 ref.func 1) ...)"
    ∷ [])
unfolding composing
datas_in_skeletons = refl

-- Skeletons contain initialisers.
filled_table_in_skeleton : text_by skeleton filled_table.placed ≡ filled_table.text
unfolding composing
filled_table_in_skeleton = refl

-- ---- other texts of the same modules

abbrev elem_module : Element Operator → Option Module
elem_module e = Some (record empty { elements = e ∷ [] })

abbrev data_module : Data Operator → Option Module
data_module d = Some (record empty { data_segments = d ∷ [] })

-- Offsets and items with `offset` and `item` or folded, table 0 omitted or named, and identifiers
element_texts : map read (
    codes "(module (elem (offset i32.const 0) func 0))"
    ∷ codes "(module (elem $e (table 0) (offset (i32.const 0)) func 0))"
    ∷ codes "(module (elem (offset) func))"
    ∷ codes "(module (elem funcref (item ref.null func) (item (ref.null func)) (ref.null func)))"
    ∷ codes "(module (elem declare (ref null func) (item)))"
    ∷ codes "(module (elem func $f 0) (import \"m\" \"n\" (func (type 0))) (type (func)) (func $f (type 0)))"
    ∷ [])
    ≡ elem_module (element_of (Active 0 (zero_const ∷ [])) (Functions (0 ∷ [])))
    ∷ elem_module (element_of (Active 0 (zero_const ∷ [])) (Functions (0 ∷ [])))
    ∷ elem_module (element_of (Active 0 []) (Functions []))
    ∷ elem_module (element_of Passive (Expressions (ref_type true types.Func) ((ref_null_func ∷ []) ∷ (ref_null_func ∷ []) ∷ (ref_null_func ∷ []) ∷ [])))
    ∷ elem_module (element_of Declared (Expressions (ref_type true types.Func) ([] ∷ [])))
    ∷ Some (record empty {
      types = (func [] [] ∷ []) ∷ [];
      imports = import_of (codes "m") (codes "n") (FuncExtern 0) ∷ [];
      functions = record { type_index = 0; locals = []; operators = [] } ∷ [];
      elements = element_of Passive (Functions (1 ∷ 0 ∷ [])) ∷ [];
    })
    ∷ []
unfolding reading
element_texts = refl

-- The same for data segments, whose bytes may be split into any number of strings, and a folded offset of several
-- operators
data_texts : map read (
    codes "(module (data (offset i32.const 0) \"a\"))"
    ∷ codes "(module (data $d (memory 0x0) (i32.const 0) \"\\61\" \"\"))"
    ∷ codes "(module (data (memory $m) (offset)) (memory 0) (memory $m 0))"
    ∷ codes "(module (data))"
    ∷ codes "(module (data (i32.add (i32.const 0) (i32.const 0))))"
    ∷ codes "(module (data \"a\" \"\" \"bc\"))"
    ∷ [])
    ≡ data_module (data_of (ActiveData 0 (zero_const ∷ [])) (codes "a"))
    ∷ data_module (data_of (ActiveData 0 (zero_const ∷ [])) (codes "a"))
    ∷ Some (record empty {
      memories =
          types.memory_type_of false false (limits_of 0 None) None ∷ types.memory_type_of false false (limits_of 0 None) None ∷ [];
      data_segments = data_of (ActiveData 1 []) [] ∷ [];
    })
    ∷ data_module (data_of PassiveData [])
    ∷ data_module (data_of (ActiveData 0 (zero_const ∷ zero_const ∷ made 0x6a NoImmediates ∷ [])) [])
    ∷ data_module (data_of PassiveData (codes "abc"))
    ∷ []
unfolding reading
data_texts = refl

-- Folded initialisers, an explicit 32-bit address type, and a global that uses items declared after it
init_texts : map read (
    codes "(module (table $t i32 1 (ref null func) (ref.null func)))"
    ∷ codes "(module (global (ref $t) (ref.func $f)) (type $t (func)) (func (type 0)) (func $f (type $t)))"
    ∷ [])
    ≡ Some filled_table.value
    ∷ Some (record empty {
      types = (func [] [] ∷ []) ∷ [];
      functions = record { type_index = 0; locals = []; operators = [] } ∷ record { type_index = 0; locals = []; operators = [] } ∷ [];
      globals = global_of (global_type_of false (types.Ref (ref_type false (types.Index 0)))) (ref_func 1 ∷ []) ∷ [];
    })
    ∷ []
unfolding reading
init_texts = refl

-- ---- texts that write no module (in each list, the first text reads)

-- Imports come before all definitions of the kinds that can be imported, but other fields may come before them.
unread_imports : numbers_read (
    codes "(module (type (func)) (import \"m\" \"f\" (func (type 0))) (func (type 0)))"
    ∷ codes "(module (export \"e\" (func 0)) (elem func) (data) (import \"m\" \"f\" (func (type 0))) (type (func)))"
    ∷ codes "(module (type (func)) (func (type 0)) (import \"m\" \"f\" (func (type 0))))"
    ∷ codes "(module (type (func)) (memory 1) (import \"m\" \"f\" (func (type 0))))"
    ∷ codes "(module (table 1 funcref) (import \"m\" \"f\" (memory 1)))"
    ∷ codes "(module (global i32) (import \"m\" \"f\" (memory 1)))"
    ∷ codes "(module (type (func)) (tag (type 0)) (import \"m\" \"f\" (memory 1)))"
    ∷ codes "(module (import \"m\" \"f\" (func (type 0))))"
    ∷ codes "(module (import \"m\" (memory 1)))"
    ∷ codes "(module (import \"m\" \"f\"))"
    ∷ codes "(module (import \"m\" \"f\" (memory 1) (memory 1)))"
    ∷ codes "(module (import \"m\" \"f\" (data 1)))"
    ∷ codes "(module (import \"m\" \"\\ff\" (memory 1)))"
    ∷ codes "(module (import \"m\" \"f\" (table 1 funcref ref.null func)))"
    ∷ codes "(module (import \"m\" \"f\" (global i32 i32.const 0)))"
    ∷ codes "(module (import \"m\" \"f\" (memory $m 1)) (memory $m 1))"
    ∷ []) ≡ 0 ∷ 1 ∷ []
unfolding reading
unread_imports = refl

unread_fields : numbers_read (
    codes "(module (elem) )"
    ∷ codes "(module (elem func))"
    ∷ codes "(module (elem declare))"
    ∷ codes "(module (elem 0))"
    ∷ codes "(module (elem i32))"
    ∷ codes "(module (elem func (ref.func 0)))"
    ∷ codes "(module (elem funcref 0))"
    ∷ codes "(module (elem (table 0) func))"
    ∷ codes "(module (elem (i32.const 0) (i32.const 0) func))"
    ∷ codes "(module (elem (item i32.const 0) func))"
    ∷ codes "(module (elem declare (i32.const 0) func))"
    ∷ codes "(module (elem $e func) (elem $e func))"
    ∷ codes "(module (data (memory 0) \"\"))"
    ∷ codes "(module (data (i32.const 0) (i32.const 0)))"
    ∷ codes "(module (data 0))"
    ∷ codes "(module (data (item) \"\"))"
    ∷ codes "(module (table funcref))"
    ∷ codes "(module (table 1))"
    ∷ codes "(module (table 1 i32))"
    ∷ codes "(module (table funcref 1))"
    ∷ codes "(module (table 1 funcref end))"
    ∷ codes "(module (global))"
    ∷ codes "(module (global mut i32))"
    ∷ codes "(module (global (mut) i32.const 0))"
    ∷ codes "(module (global i32 block))"
    ∷ codes "(module (global i32 local.get $x))"
    ∷ []) ≡ 1 ∷ []
unfolding reading
unread_fields = refl

-- Page sizes that are no power of two, that have more than 64 bits, or that precede `shared`
unread_memories : numbers_read (
    codes "(module (memory 1 (pagesize 0x8000000000000000)))"
    ∷ codes "(module (memory 1 (pagesize 3)))"
    ∷ codes "(module (memory 1 (pagesize 0)))"
    ∷ codes "(module (memory 1 (pagesize 18446744073709551616)))"
    ∷ codes "(module (memory 1 (pagesize)))"
    ∷ codes "(module (memory 1 (pagesize 1) shared))"
    ∷ []) ≡ 0 ∷ []
unfolding reading
unread_memories = refl
