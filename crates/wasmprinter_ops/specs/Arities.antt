-- Operand and result counts of operators: the program's arities, and the arities of the table of operators.
use Rattle.std.specs.Prelude.{Option, Some, None}
use Rattle.wasmprinter_spec.specs.Row.{Arity, Fixed, OfCall, OfReturnCall, OfIndirectCall, OfReturnIndirectCall, OfThrow, OfReturn, OfBranch, OfBranchIf, OfBranchTable, OfBranchOnNull, OfBranchOnNonNull, OfBranchOnCast, OfBlock, OfStruct, OfCount}
use Rattle.wasmprinter_ops.specs.declared.opcode_shapes_arities_and_roles.Arity.{Arity as ProgramArity}
use Rattle.wasmprinter_ops.specs.declared.opcode_shapes_arities_and_roles.Arity.TheVariants as arities

-- The arity that an arity of the program represents.
abbrev pub arity_view : ProgramArity → Arity
arity_view (arities.Fixed operands results) = Fixed operands results
arity_view arities.OfCall = OfCall
arity_view arities.OfReturnCall = OfReturnCall
arity_view arities.OfIndirectCall = OfIndirectCall
arity_view arities.OfReturnIndirectCall = OfReturnIndirectCall
arity_view arities.OfThrow = OfThrow
arity_view arities.OfReturn = OfReturn
arity_view arities.OfBranch = OfBranch
arity_view arities.OfBranchIf = OfBranchIf
arity_view arities.OfBranchTable = OfBranchTable
arity_view arities.OfBranchOnNull = OfBranchOnNull
arity_view arities.OfBranchOnNonNull = OfBranchOnNonNull
arity_view arities.OfBranchOnCast = OfBranchOnCast
arity_view arities.OfBlock = OfBlock
arity_view arities.OfStruct = OfStruct
arity_view arities.OfCount = OfCount

-- The same for an optional arity.
abbrev pub optional_arity_view : Option ProgramArity → Option Arity
optional_arity_view None = None
optional_arity_view (Some a) = Some (arity_view a)
