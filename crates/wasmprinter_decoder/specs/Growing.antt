-- Where reading may allocate: at a block of an expression, and for a list of expressions that is not empty.
use Rattle.std.specs.Prelude.{◌≡◌, ℕ, zero, suc, ◌⊎◌, Bool, true, false, Option, Some}
use Rattle.wasmprinter_spec.specs.Grammar.{Input, value_with_place}
use Rattle.wasmprinter_spec.specs.FirstByte.{only}
use Rattle.wasmprinter_spec.specs.Name.{u32, vec}
use Rattle.wasmprinter_spec.specs.Binary.ValTypes.{reference_type}
use Rattle.wasmprinter_spec.specs.Binary.Tables.{table_type}
use Rattle.wasmprinter_spec.specs.Binary.Globals.{global_type}
use Rattle.wasmprinter_spec.specs.Binary.Code.{local_entry}
use Rattle.wasmprinter_bytes.specs.Lists.{CountsItems}
use Rattle.wasmprinter_ops.specs.Operators.{ReachesBlock}
use Rattle.wasmprinter_decoder.specs.Segments.{is_inactive, is_explicit, holds_expressions, omits_kind, mode_by}

-- The bytes begin with a value, and `HoldsEntries` holds of it and of the position after it.
pub record After {A : Type 0} (parse : Input → Option (A × Input)) (HoldsEntries : A → Input → Type 0) (at : Input) : Type 0 where
  pub value : A
  pub after : Input
  pub read : parse at ≡ Some (value, after)
  pub holds : HoldsEntries value after

-- Reading a body may allocate in the expression after its locals.
abbrev pub HasBlocks : Input → Type 0
HasBlocks at = After (vec (value_with_place local_entry)).parse (λ _. ReachesBlock) at

-- Reading a global may allocate in its initialiser.
abbrev pub GlobalGrows : Input → Type 0
GlobalGrows at = After global_type.parse (λ _. ReachesBlock) at

-- Reading a table may allocate in its initialiser, after 40 00 and a type.
abbrev pub TableGrows : Input → Type 0
TableGrows at = After (only 0x40).parse (λ _. After (only 0x00).parse (λ _. After table_type.parse (λ _. ReachesBlock))) at

-- Reading the mode of an element segment may allocate in the offset of an active segment.
abbrev pub OffsetGrows : (inactive explicit : Bool) → Input → Type 0
OffsetGrows true explicit at = ⊥
OffsetGrows false true at = After u32.parse (λ _. ReachesBlock) at
OffsetGrows false false at = ReachesBlock at

-- The same, by the flags.
abbrev pub ModeGrows : ℕ → Input → Type 0
ModeGrows flags at = OffsetGrows (is_inactive flags) (is_explicit flags) at

-- Reading the items of an element segment may allocate for a list of expressions.
abbrev pub ExpressionsGrow : (expressions omitted : Bool) → Input → Type 0
ExpressionsGrow false omitted at = ⊥
ExpressionsGrow true true at = CountsItems at
ExpressionsGrow true false at = After reference_type.parse (λ _. CountsItems) at

-- The same, by the flags.
abbrev pub ItemsGrow : ℕ → Input → Type 0
ItemsGrow flags at = ExpressionsGrow (holds_expressions flags) (omits_kind flags) at

-- Reading an element segment after its flags may allocate for its mode or its items.
abbrev pub SegmentGrows : ℕ → Input → Type 0
SegmentGrows flags at = ModeGrows flags at ⊎ After (mode_by flags).parse (λ _. ItemsGrow flags) at

-- Reading an element segment may allocate for its mode or its items.
abbrev pub ElementGrows : Input → Type 0
ElementGrows at = After u32.parse SegmentGrows at

-- Reading the mode of a data segment, after its flags, may allocate in the offset of an active segment.
abbrev pub DataModeGrows : ℕ → Input → Type 0
DataModeGrows zero at = ReachesBlock at
DataModeGrows (suc zero) at = ⊥
DataModeGrows (suc (suc n)) at = After u32.parse (λ _. ReachesBlock) at

-- Reading a data segment may allocate for its mode.
abbrev pub DataGrows : Input → Type 0
DataGrows at = After u32.parse DataModeGrows at
