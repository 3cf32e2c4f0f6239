-- Block types and catch clauses of the program, and those of the definitions that they represent.
use Rattle.std.specs.Prelude.{List, map, Option, Some}
use Rattle.wasmprinter_spec.specs.Grammar.{Input, ◌>>=◌}
use Rattle.wasmprinter_spec.specs.Operator.{Empty, Value, OfType, One, OneRef, All, AllRef}
use Rattle.wasmprinter_spec.specs.Operator.{BlockType as DefinedBlockType, Catch as DefinedCatch}
use Rattle.wasmprinter_spec.specs.Instructions.{catch}
use Rattle.wasmprinter_ops.specs.ValTypes.{val_type_view}
use Rattle.wasmprinter_ops.specs.declared.block_immediates.BlockType.{BlockType}
use Rattle.wasmprinter_ops.specs.declared.block_immediates.BlockType.TheVariants as block_types
use Rattle.wasmprinter_ops.specs.declared.block_immediates.Catch.{Catch}
use Rattle.wasmprinter_ops.specs.declared.block_immediates.Catch.TheVariants as catch_clauses

-- The block type that a block type of the program represents.
abbrev pub block_type_view : BlockType → DefinedBlockType
block_type_view block_types.Empty = Empty
block_type_view (block_types.Value t) = Value (val_type_view t)
block_type_view (block_types.Func index) = OfType index

-- The catch clause that a catch clause of the program represents.
abbrev pub catch_view : Catch → DefinedCatch
catch_view (catch_clauses.One tag label) = One tag label
catch_view (catch_clauses.OneRef tag label) = OneRef tag label
catch_view (catch_clauses.All label) = All label
catch_view (catch_clauses.AllRef label) = AllRef label

-- The catch clause of the program for one of the definitions.
abbrev pub catch_of_view : DefinedCatch → Catch
catch_of_view (One tag label) = catch_clauses.One tag label
catch_of_view (OneRef tag label) = catch_clauses.OneRef tag label
catch_of_view (All label) = catch_clauses.All label
catch_of_view (AllRef label) = catch_clauses.AllRef label

-- Reads a catch clause, as a value of the program.
abbrev pub catch_at : Input → Option (Catch × Input)
catch_at at = catch.parse at >>= λ x. Some (catch_of_view x.0, x.1)

-- The catch clauses that catch clauses of the program represent.
abbrev pub catches_view : List Catch → List DefinedCatch
catches_view cs = map catch_view cs
