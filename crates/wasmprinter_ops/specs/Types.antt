-- The program's storage, field and composite types, and the types of the definitions that they represent.
use Rattle.std.specs.Prelude.{List, map, Option, Some}
use Rattle.wasmprinter_spec.specs.Grammar.{Input, ◌>>=◌}
use Rattle.wasmprinter_spec.specs.Binary.Types.{field}
use Rattle.wasmprinter_spec.specs.Types.{field_type, FuncComposite, ArrayComposite, StructComposite}
use Rattle.wasmprinter_spec.specs.Types.{StorageType as DefinedStorage, FieldType as DefinedField, CompositeType as DefinedComposite}
use Rattle.wasmprinter_spec.specs.Types as defined
use Rattle.wasmprinter_ops.specs.ValTypes.{val_type_view, type_of_view}
use Rattle.wasmprinter_ops.specs.declared.composite_types.StorageType.{StorageType}
use Rattle.wasmprinter_ops.specs.declared.composite_types.StorageType.TheVariants as s
use Rattle.wasmprinter_ops.specs.declared.composite_types.FieldType.{FieldType}
use Rattle.wasmprinter_ops.specs.declared.composite_types.CompositeType.{CompositeType}
use Rattle.wasmprinter_ops.specs.declared.composite_types.CompositeType.TheVariants as c

-- The storage type that a storage type of the program represents.
abbrev pub storage_view : StorageType → DefinedStorage
storage_view (s.Val t) = defined.Val (val_type_view t)
storage_view s.I8 = defined.I8
storage_view s.I16 = defined.I16

-- The storage type of the program for one of the definitions.
abbrev pub storage_of_view : DefinedStorage → StorageType
storage_of_view (defined.Val t) = s.Val (type_of_view t)
storage_of_view defined.I8 = s.I8
storage_of_view defined.I16 = s.I16

-- The field type that a field type of the program represents.
abbrev pub field_view : FieldType → DefinedField
field_view f = field_type f.mutable (storage_view f.storage)

-- The field type of the program for one of the definitions.
abbrev pub field_of_view : DefinedField → FieldType
field_of_view f = record { storage = storage_of_view f.storage; mutable = f.mutable }

-- Reads a field type, as a value of the program.
abbrev pub field_at : Input → Option (FieldType × Input)
field_at at = field.parse at >>= λ x. Some (field_of_view x.0, x.1)

-- The field types that field types of the program represent.
abbrev pub fields_view : List FieldType → List DefinedField
fields_view fs = map field_view fs

-- The composite type that a composite type of the program represents.
abbrev pub composite_view : CompositeType → DefinedComposite
composite_view (c.Func t) = FuncComposite t
composite_view (c.Array f) = ArrayComposite (field_view f)
composite_view (c.Struct fs) = StructComposite (fields_view fs)
