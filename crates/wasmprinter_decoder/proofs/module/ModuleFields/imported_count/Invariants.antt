use Rattle.std.proofs.Common.{◌≡◌, ◌+◌, ◌≤◌}
use Rattle.wasmprinter_decoder.specs.Externs.{kind_view}
use Rattle.wasmprinter_decoder.proofs.Imported.{count_from}
use Rattle.wasmprinter_decoder.proofs.module.ModuleFields.imported_count.Given as goal

abbrev pub invariant-loop-import : goal.invariant-loop-import
invariant-loop-import l = record {
  counted : l.count + count_from (kind_view l.kind) l.self.imports l.import-index ≡ count_from (kind_view l.kind) l.self.imports 0;
  few : l.count ≤ l.import-index;
}
