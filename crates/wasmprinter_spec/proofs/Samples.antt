-- Modules, typed by hand, which the worked rows share: their bytes, the modules with places that the bytes encode,
-- their texts, and the modules that the texts write.
use Rattle.std.specs.Prelude.{ℕ, ℤ, pos, negsuc, neg_ℤ, List, [], ◌∷◌, ◌++◌, length, flat_map, true, false, codes, None}
use Rattle.wasmprinter_spec.specs.Grammar.{Placed}
use Rattle.wasmprinter_spec.specs.Types as types
use Rattle.wasmprinter_spec.specs.Types.{HeapType, ref_type, ValType, Ref, CompositeType, FuncComposite, SubType, final_type, FuncKind}
use Rattle.wasmprinter_spec.specs.Operator.{opcode, Immediates, NoImmediates, Index, I32, I64, Operator}
use Rattle.wasmprinter_spec.specs.Placed.{TypeGroup, type_group, PlacedModule}
use Rattle.wasmprinter_spec.specs.Module.{Module}
use Rattle.wasmprinter_spec.specs.IndexSpaces.{Spaces}

-- The preamble: the magic number and the version
abbrev pub head_bytes : List ℕ
head_bytes = 0x00 ∷ 0x61 ∷ 0x73 ∷ 0x6d ∷ 0x01 ∷ 0x00 ∷ 0x00 ∷ 0x00 ∷ []

-- A section of fewer than 128 bytes
abbrev pub section : ℕ → List ℕ → List ℕ
section id bytes = id ∷ length bytes ∷ bytes

-- A custom section whose name has fewer than 128 bytes
abbrev pub custom : List ℕ → List ℕ → List ℕ
custom name bytes = section 0x00 (length name ∷ (name ++ bytes))

-- Lines, each with its line feed
abbrev pub lines : List (List ℕ) → List ℕ
lines [] = []
lines (l ∷ ls) = l ++ codes "\n" ++ lines ls

-- The lines of a function's body
abbrev pub body_lines : List (List ℕ) → List ℕ
body_lines ls = flat_map (λ l. codes "\n    " ++ l) ls

-- ---- types

-- Non-nullable and nullable references
abbrev pub to : HeapType → ValType
to h = Ref (ref_type false h)

abbrev pub to_null : HeapType → ValType
to_null h = Ref (ref_type true h)

-- The function type with these parameters and results
abbrev pub func : List ValType → List ValType → SubType
func ps rs = final_type (FuncComposite (record { params = ps; results = rs }))

-- The composite type of functions without parameters and results
abbrev pub nothing : CompositeType
nothing = FuncComposite (record { params = []; results = [] })

-- A type outside an explicit `(rec ..)`, at this place
abbrev pub bare : ℕ → SubType → Placed TypeGroup
bare place t = record { place = place; value = type_group false (t ∷ []) }

-- ---- operators

-- The operator with this one-byte opcode and these immediates
abbrev pub made : ℕ → Immediates → Operator
made n i = record { opcode = opcode 0 n; immediates = i }

abbrev pub local_get : ℕ → Operator
local_get i = made 0x20 (Index i)

abbrev pub local_set : ℕ → Operator
local_set i = made 0x21 (Index i)

abbrev pub call : ℕ → Operator
call i = made 0x10 (Index i)

abbrev pub drop : Operator
drop = made 0x1a NoImmediates

abbrev pub return : Operator
return = made 0x0f NoImmediates

abbrev pub i32_const : ℤ → Operator
i32_const z = made 0x41 (I32 z)

abbrev pub i64_const : ℤ → Operator
i64_const z = made 0x42 (I64 z)

-- ---- the module without fields

abbrev pub empty_placed : PlacedModule
empty_placed = record {
  types = [];
  imports = [];
  tables = [];
  memories = [];
  tags = [];
  globals = [];
  exports = [];
  start = None;
  elements = [];
  functions = [];
  data_segments = [];
  customs = [];
  size = 8;
}

abbrev pub empty : Module
empty = record {
  types = [];
  imports = [];
  functions = [];
  tables = [];
  memories = [];
  tags = [];
  globals = [];
  exports = [];
  start = None;
  elements = [];
  data_segments = [];
  customs = [];
}

-- The text of a module with one function, which has this code and a local
abbrev pub procedure_text : List ℕ → List ℕ
procedure_text code = codes "(module (type (func)) (func (type 0) (local i32) " ++ code ++ codes "))"

-- A function with one parameter and an `if`, and these bytes as a hint section before its code
abbrev pub hinted : List ℕ → List ℕ
hinted bytes =
    head_bytes
    ++ (section 0x01 (0x01 ∷ 0x60 ∷ 0x01 ∷ 0x7f ∷ 0x00 ∷ [])
    ++ (section 0x03 (0x01 ∷ 0x00 ∷ [])
    ++ (custom (codes "metadata.code.branch_hint") bytes
    ++ section 0x0a (0x01 ∷ 0x07 ∷ 0x00 ∷ 0x20 ∷ 0x00 ∷ 0x04 ∷ 0x40 ∷ 0x0b ∷ 0x0b ∷ []))))

-- All index spaces are empty.
abbrev pub no_spaces : Spaces
no_spaces = record { types = []; functions = []; tables = []; memories = []; tags = []; globals = []; elems = []; data_segments = []; locals = [] }

-- ---- a function that returns its parameter, exported as f

abbrev pub identity_bytes : List ℕ
identity_bytes =
    head_bytes
    ++ (0x01 ∷ 0x06 ∷ 0x01 ∷ 0x60 ∷ 0x01 ∷ 0x7f ∷ 0x01 ∷ 0x7f ∷ [])
    ++ (0x03 ∷ 0x02 ∷ 0x01 ∷ 0x00 ∷ [])
    ++ (0x07 ∷ 0x05 ∷ 0x01 ∷ 0x01 ∷ 0x66 ∷ 0x00 ∷ 0x00 ∷ [])
    ++ (0x0a ∷ 0x06 ∷ 0x01 ∷ 0x04 ∷ 0x00 ∷ 0x20 ∷ 0x00 ∷ 0x0b ∷ [])

abbrev pub identity_placed : PlacedModule
identity_placed = record empty_placed {
  types = bare 0xb (func (types.I32 ∷ []) (types.I32 ∷ [])) ∷ [];
  functions =
      record {
        type_index = 0;
        body = record {
          place = 0x1f;
          value = record { locals = []; operators = record { place = 0x20; value = local_get 0 } ∷ []; end = 0x22 };
        };
      }
      ∷ [];
  exports = record { place = 0x17; value = record { name = codes "f"; kind = FuncKind; index = 0 } } ∷ [];
  size = 35;
}

abbrev pub identity : Module
identity = record empty {
  types = (func (types.I32 ∷ []) (types.I32 ∷ []) ∷ []) ∷ [];
  functions = record { type_index = 0; locals = []; operators = local_get 0 ∷ [] } ∷ [];
  exports = record { name = codes "f"; kind = FuncKind; index = 0 } ∷ [];
}

abbrev pub identity_text : List ℕ
identity_text = lines (
    codes "(module"
    ∷ codes "  (type (;0;) (func (param i32) (result i32)))"
    ∷ codes "  (export \"f\" (func 0))"
    ∷ codes "  (func (;0;) (type 0) (param i32) (result i32)"
    ∷ codes "    local.get 0"
    ∷ codes "  )"
    ∷ codes ")"
    ∷ [])

abbrev pub identity_text_with_offsets : List ℕ
identity_text_with_offsets = lines (
    codes "(module"
    ∷ codes "(;@b     ;)  (type (;0;) (func (param i32) (result i32)))"
    ∷ codes "(;@17    ;)  (export \"f\" (func 0))"
    ∷ codes "(;@1f    ;)  (func (;0;) (type 0) (param i32) (result i32)"
    ∷ codes "(;@20    ;)    local.get 0"
    ∷ codes "(;@22    ;)  )"
    ∷ codes "(;@23    ;))"
    ∷ [])

-- ---- a function that stores -1 in a local

abbrev pub stored_bytes_to_end : List ℕ
stored_bytes_to_end =
    head_bytes
    ++ (0x01 ∷ 0x05 ∷ 0x01 ∷ 0x60 ∷ 0x00 ∷ 0x01 ∷ 0x7e ∷ [])
    ++ (0x03 ∷ 0x02 ∷ 0x01 ∷ 0x00 ∷ [])
    ++ (0x0a ∷ 0x0c ∷ 0x01 ∷ 0x0a ∷ 0x01 ∷ 0x01 ∷ 0x7e ∷ 0x42 ∷ 0x7f ∷ 0x21 ∷ 0x00 ∷ 0x20 ∷ 0x00 ∷ [])

abbrev pub stored_bytes : List ℕ
stored_bytes = stored_bytes_to_end ++ (0x0b ∷ [])

abbrev pub stored_placed : PlacedModule
stored_placed = record empty_placed {
  types = bare 0xb (func [] (types.I64 ∷ [])) ∷ [];
  functions =
      record {
        type_index = 0;
        body = record {
          place = 0x17;
          value = record {
            locals = record { place = 0x18; value = record { count = 1; type = types.I64 } } ∷ [];
            operators =
                record { place = 0x1a; value = i64_const (negsuc 0) }
                ∷ record { place = 0x1c; value = local_set 0 }
                ∷ record { place = 0x1e; value = local_get 0 }
                ∷ [];
            end = 0x20;
          };
        };
      }
      ∷ [];
  exports = [];
  size = 33;
}

abbrev pub stored : Module
stored = record empty {
  types = (func [] (types.I64 ∷ []) ∷ []) ∷ [];
  functions =
      record {
        type_index = 0;
        locals = types.I64 ∷ [];
        operators = i64_const (negsuc 0) ∷ local_set 0 ∷ local_get 0 ∷ [];
      }
      ∷ [];
  exports = [];
}

abbrev pub stored_text : List ℕ
stored_text = lines (
    codes "(module"
    ∷ codes "  (type (;0;) (func (result i64)))"
    ∷ codes "  (func (;0;) (type 0) (result i64)"
    ∷ codes "    (local i64)"
    ∷ codes "    i64.const -1"
    ∷ codes "    local.set 0"
    ∷ codes "    local.get 0"
    ∷ codes "  )"
    ∷ codes ")"
    ∷ [])

-- ---- several types, functions, locals and results, and indices of items that do not exist

abbrev pub mixed_bytes : List ℕ
mixed_bytes =
    head_bytes
    ++ (0x01 ∷ 0x0b ∷ 0x02 ∷ [])
    ++ (0x60 ∷ 0x00 ∷ 0x00 ∷ [])
    ++ (0x60 ∷ 0x02 ∷ 0x7f ∷ 0x7e ∷ 0x02 ∷ 0x7e ∷ 0x7f ∷ [])
    ++ (0x03 ∷ 0x04 ∷ 0x03 ∷ 0x00 ∷ 0x01 ∷ 0x07 ∷ [])
    ++ (0x07 ∷ 0x0a ∷ 0x02 ∷ [])
    ++ (0x03 ∷ 0x1b ∷ 0xc3 ∷ 0xa9 ∷ 0x00 ∷ 0x01 ∷ [])
    ++ (0x00 ∷ 0x00 ∷ 0x0c ∷ [])
    ++ (0x0a ∷ 0x2d ∷ 0x03 ∷ [])
    ++ (0x02 ∷ 0x00 ∷ 0x0b ∷ [])
    ++ (0x23 ∷ 0x04 ∷ 0x00 ∷ 0x7f ∷ 0x02 ∷ 0x7e ∷ 0x00 ∷ 0x7e ∷ 0x01 ∷ 0x7f ∷ [])
    ++ (0x41 ∷ 0x80 ∷ 0x80 ∷ 0x80 ∷ 0x80 ∷ 0x78 ∷ 0x1a ∷ [])
    ++ (0x42 ∷ 0xff ∷ 0xff ∷ 0xff ∷ 0xff ∷ 0xff ∷ 0xff ∷ 0xff ∷ 0xff ∷ 0xff ∷ 0x00 ∷ [])
    ++ (0x10 ∷ 0xff ∷ 0xff ∷ 0xff ∷ 0xff ∷ 0x0f ∷ 0x0f ∷ 0x0b ∷ [])
    ++ (0x04 ∷ 0x01 ∷ 0x00 ∷ 0x7f ∷ 0x0b ∷ [])

abbrev pub mixed_placed : PlacedModule
mixed_placed = record empty_placed {
  types =
      bare 0xb (func [] [])
      ∷ bare 0xe (func (types.I32 ∷ types.I64 ∷ []) (types.I64 ∷ types.I32 ∷ []))
      ∷ [];
  functions =
      record { type_index = 0; body = record { place = 0x2b; value = record { locals = []; operators = []; end = 0x2c } } }
      ∷ record {
        type_index = 1;
        body = record {
          place = 0x2e;
          value = record {
            locals =
                record { place = 0x2f; value = record { count = 0; type = types.I32 } }
                ∷ record { place = 0x31; value = record { count = 2; type = types.I64 } }
                ∷ record { place = 0x33; value = record { count = 0; type = types.I64 } }
                ∷ record { place = 0x35; value = record { count = 1; type = types.I32 } }
                ∷ [];
            operators =
                record { place = 0x37; value = i32_const (neg_ℤ (pos 2147483648)) }
                ∷ record { place = 0x3d; value = drop }
                ∷ record { place = 0x3e; value = i64_const (pos 9223372036854775807) }
                ∷ record { place = 0x49; value = call 4294967295 }
                ∷ record { place = 0x4f; value = return }
                ∷ [];
            end = 0x50;
          };
        };
      }
      ∷ record {
        type_index = 7;
        body = record { place = 0x52; value = record { locals = record { place = 0x53; value = record { count = 0; type = types.I32 } } ∷ []; operators = []; end = 0x55 } };
      }
      ∷ [];
  exports =
      record { place = 0x1e; value = record { name = 0x1b ∷ 0xc3 ∷ 0xa9 ∷ []; kind = FuncKind; index = 1 } }
      ∷ record { place = 0x24; value = record { name = []; kind = FuncKind; index = 12 } }
      ∷ [];
  size = 0x56;
}

-- The module without places, whose last function has this type
abbrev pub mixed_using : ℕ → Module
mixed_using type = record empty {
  types = (func [] [] ∷ []) ∷ (func (types.I32 ∷ types.I64 ∷ []) (types.I64 ∷ types.I32 ∷ []) ∷ []) ∷ [];
  functions =
      record { type_index = 0; locals = []; operators = [] }
      ∷ record {
        type_index = 1;
        locals = types.I64 ∷ types.I64 ∷ types.I32 ∷ [];
        operators = i32_const (neg_ℤ (pos 2147483648)) ∷ drop ∷ i64_const (pos 9223372036854775807) ∷ call 4294967295 ∷ return ∷ [];
      }
      ∷ record { type_index = type; locals = []; operators = [] }
      ∷ [];
  exports = record { name = 0x1b ∷ 0xc3 ∷ 0xa9 ∷ []; kind = FuncKind; index = 1 } ∷ record { name = []; kind = FuncKind; index = 12 } ∷ [];
}

abbrev pub mixed : Module
mixed = mixed_using 7

abbrev pub mixed_text_using : List ℕ → List ℕ
mixed_text_using type = lines (
    codes "(module"
    ∷ codes "  (type (;0;) (func))"
    ∷ codes "  (type (;1;) (func (param i32 i64) (result i64 i32)))"
    ∷ codes "  (export \"\\u{1b}\\u{e9}\" (func 1))"
    ∷ codes "  (export \"\" (func 12))"
    ∷ codes "  (func (;0;) (type 0))"
    ∷ codes "  (func (;1;) (type 1) (param i32 i64) (result i64 i32)"
    ∷ codes "    (local i64 i64 i32)"
    ∷ codes "    i32.const -2147483648"
    ∷ codes "    drop"
    ∷ codes "    i64.const 9223372036854775807"
    ∷ codes "    call 4294967295"
    ∷ codes "    return"
    ∷ codes "  )"
    ∷ (codes "  (func (;2;) (type " ++ type ++ codes "))")
    ∷ codes ")"
    ∷ [])

abbrev pub mixed_text : List ℕ
mixed_text = mixed_text_using (codes "7")
