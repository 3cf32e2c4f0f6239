-- The rest of the functions have the same first place as all functions.
use Rattle.std.specs.Prelude.{◌≡◌, ◌+◌, drop}
use Rattle.wasmprinter_bytes.specs.declared.library_error.Error.TheVariants.{FoldHint}
use Rattle.wasmprinter_spec.specs.Types.{FuncKind}
use Rattle.wasmprinter_spec.specs.Customs.Hints.{hints_of}
use Rattle.wasmprinter_spec.specs.Folding.Refusals.{misplaced_hints_from}
use Rattle.wasmprinter_decoder.specs.Externs.{imported_count}
use Rattle.wasmprinter_fold.specs.Refused.{error_of_first}
use Rattle.wasmprinter_fold.proofs.fold_refusals.hint_checks.check_hints.Given as goal

abbrev pub invariant-loop-index : goal.invariant-loop-index
invariant-loop-index l =
    error_of_first FoldHint (misplaced_hints_from l.hints (imported_count FuncKind l.module.imports + l.index) (drop l.index l.module.functions))
    ≡ error_of_first FoldHint (misplaced_hints_from (hints_of l.module.customs) (imported_count FuncKind l.module.imports) l.module.functions)
