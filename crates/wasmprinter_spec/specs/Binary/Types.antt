-- How bytes encode composite types, subtypes and their groups (section 5.3 of the standard), and the type section
-- (section 5.5, "Type Section"): a list of groups.
use Rattle.std.specs.Prelude.{ℕ, List, [], ◌∷◌, Bool, true, false, ◌==◌, is_some, Option}
use Rattle.wasmprinter_spec.specs.Grammar.{Grammar, Remainder, byte, seq, try_map, map_value, fail, choose, Placed, value_with_place}
use Rattle.wasmprinter_spec.specs.FirstByte.{after_first_byte}
use Rattle.wasmprinter_spec.specs.Sized.{alone}
use Rattle.wasmprinter_spec.specs.Name.{u32, vec}
use Rattle.wasmprinter_spec.specs.Types.{StorageType, Val, I8, I16, FieldType, field_type, FuncType, CompositeType, FuncComposite, ArrayComposite, StructComposite, SubType, sub_type, final_type}
use Rattle.wasmprinter_spec.specs.Binary.ValTypes.{lookup, value_if_any, val_type, val_type_after}
use Rattle.wasmprinter_spec.specs.Placed.{TypeGroup, type_group}

-- The packed type of the byte, or `None` for any other byte.
abbrev pub packed_type_of : ℕ → Option StorageType
packed_type_of b = lookup ((0x78, I8) ∷ (0x77, I16) ∷ []) b

-- A storage type after its first byte: a packed type, or a value type.
abbrev pub storage_type_after : ℕ → Grammar StorageType
storage_type_after b = choose (is_some (packed_type_of b)) (value_if_any (packed_type_of b)) (map_value Val (val_type_after b))

-- A storage type (section 5.3, "Composite Types").
abbrev pub storage_type : Grammar StorageType
storage_type = after_first_byte storage_type_after

-- Whether a field or a global is mutable: the byte 01 if it is, 00 if not.
abbrev pub mutability : Grammar Bool
mutability = try_map (λ b. lookup ((0x00, false) ∷ (0x01, true) ∷ []) b) byte

-- A field type: a storage type, and whether the field is mutable.
abbrev pub field : Grammar FieldType
field = map_value (λ x. field_type x.1 x.0) (seq storage_type (λ _. mutability))

-- A function type: the parameters, and then the results.
abbrev pub signature : Grammar FuncType
signature = map_value (λ x. record { params = x.0; results = x.1 }) (seq (vec val_type) (λ _. vec val_type))

-- A composite type after its first byte: 5E and a field, 5F and fields, or 60 and a function type.
abbrev pub composite_after : ℕ → Grammar CompositeType
composite_after b =
    choose (b == 0x5e) (map_value ArrayComposite field)
    (choose (b == 0x5f) (map_value StructComposite (vec field))
    (choose (b == 0x60) (map_value FuncComposite signature) fail))

-- A composite type (section 5.3, "Composite Types").
abbrev pub composite : Grammar CompositeType
composite = after_first_byte composite_after

-- Supertypes, and a composite type.
abbrev pub sub_type_parts : Bool → Grammar SubType
sub_type_parts final = map_value (λ x. sub_type final x.0 x.1) (seq (vec u32) (λ _. composite))

-- A subtype after its first byte: 50 if it is not final, 4F if it is; or a composite type, which is final and has
-- no supertypes.
abbrev pub sub_type_after : ℕ → Grammar SubType
sub_type_after b =
    choose (b == 0x50) (sub_type_parts false)
    (choose (b == 0x4f) (sub_type_parts true)
    (map_value final_type (composite_after b)))

-- A subtype (section 5.3, "Recursive Types").
abbrev pub subtype : Grammar SubType
subtype = after_first_byte sub_type_after

-- A group after its first byte: 4E and a list of types, or a single type by itself.
abbrev pub group_after : ℕ → Grammar TypeGroup
group_after b =
    choose (b == 0x4e) (map_value (type_group true) (vec subtype))
    (map_value (λ t. type_group false (t ∷ [])) (sub_type_after b))

-- A group of types, the standard's recursive type (section 5.3, "Recursive Types").
abbrev pub group : Grammar TypeGroup
group = after_first_byte group_after

-- The content of a type section.
abbrev pub type_section : Remainder (List (Placed TypeGroup))
type_section = alone (vec (value_with_place group))
