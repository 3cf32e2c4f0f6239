use Rattle.wasmprinter_spec.specs.Module.{func_import, tag_import}
use Rattle.wasmprinter_fold.proofs.Gathered.{Gathers}
use Rattle.wasmprinter_fold.proofs.arities.function_and_tag_types.FunctionAndTagTypes.new.Given as goal

abbrev pub invariant-loop-import : goal.invariant-loop-import
invariant-loop-import l = record {
  functions : Gathers func_import l.module.imports l.functions.items l.import-index;
  tags : Gathers tag_import l.module.imports l.tags.items l.import-index;
}
