use Rattle.std.proofs.Common.{◌≡◌, length}
use Rattle.wasmprinter_custom.proofs.Marked.{Marks}
use Rattle.wasmprinter_custom.proofs.subsections_with_names.used_subsections.Given as goal

abbrev pub invariant-loop-key : goal.invariant-loop-key
invariant-loop-key l = record {
  len : length l.marks ≡ 256;
  marks : Marks l.entries l.key-index l.marks;
}
