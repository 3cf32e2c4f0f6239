-- Control operators (section 5.4 of the standard, "Control Instructions"; `try`, `catch`, `rethrow`, `delegate`
-- and `catch_all` are those of the legacy exception handling proposal).
use Rattle.std.specs.Prelude.{List, [], ◌∷◌}
use Rattle.wasmprinter_spec.specs.Row.{Row, Types, Func, Tag, Label, NoneShape, BlockShape, TryTableShape, IndexShape, CallShape, BranchTableShape, CastShape, Fixed, OfCall, OfReturnCall, OfIndirectCall, OfReturnIndirectCall, OfThrow, OfReturn, OfBranch, OfBranchIf, OfBranchTable, OfBranchOnNull, OfBranchOnNonNull, OfBranchOnCast, OfBlock, Opens, OpensIf, OpensTry, Else, Catches, CatchesAll, Delegates, Ends}
use Rattle.wasmprinter_spec.specs.Table.Rows.{control, prefixed_row, plain}

-- The control operators.
unfoldable pub control_rows : List Row
control_rows =
    plain 0x00 "unreachable" NoneShape (Fixed 0 0) ∷
    plain 0x01 "nop" NoneShape (Fixed 0 0) ∷
    control 0x02 "block" BlockShape OfBlock Opens ∷
    control 0x03 "loop" BlockShape OfBlock Opens ∷
    control 0x04 "if" BlockShape OfBlock OpensIf ∷
    control 0x05 "else" NoneShape OfBlock Else ∷
    control 0x06 "try" BlockShape OfBlock OpensTry ∷
    control 0x07 "catch" (IndexShape Tag) OfBlock Catches ∷
    plain 0x08 "throw" (IndexShape Tag) OfThrow ∷
    plain 0x09 "rethrow" (IndexShape Label) (Fixed 0 0) ∷
    plain 0x0a "throw_ref" NoneShape (Fixed 1 0) ∷
    control 0x0b "end" NoneShape OfBlock Ends ∷
    plain 0x0c "br" (IndexShape Label) OfBranch ∷
    plain 0x0d "br_if" (IndexShape Label) OfBranchIf ∷
    plain 0x0e "br_table" BranchTableShape OfBranchTable ∷
    plain 0x0f "return" NoneShape OfReturn ∷
    plain 0x10 "call" (IndexShape Func) OfCall ∷
    plain 0x11 "call_indirect" CallShape OfIndirectCall ∷
    plain 0x12 "return_call" (IndexShape Func) OfReturnCall ∷
    plain 0x13 "return_call_indirect" CallShape OfReturnIndirectCall ∷
    plain 0x14 "call_ref" (IndexShape Types) OfIndirectCall ∷
    plain 0x15 "return_call_ref" (IndexShape Types) OfReturnIndirectCall ∷
    control 0x18 "delegate" (IndexShape Label) OfBlock Delegates ∷
    control 0x19 "catch_all" NoneShape OfBlock CatchesAll ∷
    control 0x1f "try_table" TryTableShape OfBlock Opens ∷
    plain 0xd5 "br_on_null" (IndexShape Label) OfBranchOnNull ∷
    plain 0xd6 "br_on_non_null" (IndexShape Label) OfBranchOnNonNull ∷
    prefixed_row 0xfb 24 "br_on_cast" CastShape OfBranchOnCast ∷
    prefixed_row 0xfb 25 "br_on_cast_fail" CastShape OfBranchOnCast ∷
    []
