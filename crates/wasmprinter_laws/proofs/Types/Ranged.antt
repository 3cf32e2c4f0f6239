-- Ranges in types that some bytes encode: their indices are numbers of 32 bits.
use Rattle.std.proofs.Common.{◌<◌, ◌^◌, length, List, [], ◌∷◌, Bool, true, false}
use Rattle.std.specs.List.{AllByRecursion}
use Rattle.wasmprinter_spec.specs.Types.{HeapType, ValType, StorageType, FieldType, FuncType, CompositeType, FuncComposite, ArrayComposite, StructComposite, SubType}
use Rattle.wasmprinter_spec.specs.Placed.{TypeGroup}
use Rattle.wasmprinter_spec.specs.Indexed.{IsDeclaredHeap, IsDeclaredVal, IsDeclaredStorage, IsDeclaredField, IsDeclaredFunc, IsDeclaredComposite, IsDeclaredSub}

abbrev pub IsRangedHeap : HeapType → Type 0
IsRangedHeap h = IsDeclaredHeap (2 ^ 32) h

abbrev pub IsRangedVal : ValType → Type 0
IsRangedVal t = IsDeclaredVal (2 ^ 32) t

abbrev pub IsRangedStorage : StorageType → Type 0
IsRangedStorage s = IsDeclaredStorage (2 ^ 32) s

abbrev pub IsRangedField : FieldType → Type 0
IsRangedField f = IsDeclaredField (2 ^ 32) f

abbrev pub IsRangedFunc : FuncType → Type 0
IsRangedFunc t = IsDeclaredFunc (2 ^ 32) t

abbrev pub IsRangedComposite : CompositeType → Type 0
IsRangedComposite c = IsDeclaredComposite (2 ^ 32) c

abbrev pub IsRangedSub : SubType → Type 0
IsRangedSub t = IsDeclaredSub (2 ^ 32) t

-- Fewer than 2 ^ 32 parameters or fields
abbrev pub IsFewComposite : CompositeType → Type 0
IsFewComposite (FuncComposite t) = length t.params < 2 ^ 32
IsFewComposite (ArrayComposite f) = Unit {0}
IsFewComposite (StructComposite fs) = length fs < 2 ^ 32

abbrev pub IsFewSub : SubType → Type 0
IsFewSub t = IsFewComposite t.composite

-- A group that is not written as one has one type.
abbrev pub IsSingle : Bool → List SubType → Type 0
IsSingle true ts = Unit {0}
IsSingle false (t ∷ []) = Unit {0}
IsSingle false _ = ⊥

pub record IsRangedGroup (g : TypeGroup) : Type 0 where
  pub count : length g.types < 2 ^ 32
  pub each : AllByRecursion IsRangedSub g.types
  pub few : AllByRecursion IsFewSub g.types
  pub single : IsSingle g.explicit g.types
