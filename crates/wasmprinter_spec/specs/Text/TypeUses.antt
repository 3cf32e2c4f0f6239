-- Type uses in the text format (section 6.4 of the standard, "Type Uses"): the index of a type, and a signature
-- after it.
use Rattle.std.specs.Prelude.{ℕ, List, [], ◌∷◌, ◌+◌, Bool, true, false, ◌&&◌, ◌==◌, cond, Option, Some, None, if◌then◌else◌, replicate, length}
use Rattle.wasmprinter_spec.specs.Types.{HeapType, Exn, Array, Struct, I31, Eq, Any, Extern, Func, NoAny, NoExtern, NoFunc, NoExn, Index, ValType, I32, I64, F32, F64, V128, Ref, FuncType}
use Rattle.wasmprinter_spec.specs.IndexSpaces.{Identifiers}
use Rattle.wasmprinter_spec.specs.Text.Items.{ids_of}
use Rattle.wasmprinter_spec.specs.Text.Types.{Signature, type_of}

-- A number for each heap type, different from all others.
abbrev pub heap_number : HeapType → ℕ
heap_number Exn = 0
heap_number Array = 1
heap_number Struct = 2
heap_number I31 = 3
heap_number Eq = 4
heap_number Any = 5
heap_number Extern = 6
heap_number Func = 7
heap_number NoAny = 8
heap_number NoExtern = 9
heap_number NoFunc = 10
heap_number NoExn = 11
heap_number (Index n) = 12 + n

-- The two heap types are equal. `same_flag`, `same_type`, `same_types` and `same_func_type` compare flags, value
-- types, lists of value types, and function types.
abbrev pub same_heap : HeapType → HeapType → Bool
same_heap a b = heap_number a == heap_number b

abbrev pub same_flag : Bool → Bool → Bool
same_flag true b = b
same_flag false true = false
same_flag false false = true

abbrev pub same_type : ValType → ValType → Bool
same_type I32 I32 = true
same_type I64 I64 = true
same_type F32 F32 = true
same_type F64 F64 = true
same_type V128 V128 = true
same_type (Ref r) (Ref s) = same_flag r.nullable s.nullable && same_heap r.heap s.heap
same_type _ _ = false

abbrev pub same_types : List ValType → List ValType → Bool
same_types [] [] = true
same_types (t ∷ ts) (u ∷ us) = same_type t u && same_types ts us
same_types _ _ = false

abbrev pub same_func_type : FuncType → FuncType → Bool
same_func_type s t = same_types s.params t.params && same_types s.results t.results

-- The function type without parameters and without results.
abbrev pub no_type : FuncType
no_type = record { params = []; results = [] }

-- A signature after the index of a type is that of the type, or it is absent.
abbrev pub agrees : Signature → FuncType → Bool
agrees s t = cond (same_func_type (type_of s) t) true (same_func_type (type_of s) no_type)

-- The identifiers of a function's parameters. The type that a function uses must be a function type. A signature
-- after the type's index is that of the type, or it is absent; then the parameters have no identifiers, whatever
-- the type says (sections 6.4 and 6.6 of the standard, "Type Uses").
abbrev pub parameters : Signature → Option FuncType → Option Identifiers
parameters s None = None
parameters s (Some t) =
    if same_func_type (type_of s) t then Some (ids_of s.params)
    else (if same_func_type (type_of s) no_type then Some (replicate (length t.params) None) else None)
