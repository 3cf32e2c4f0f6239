use Rattle.std.proofs.Common.{◌≡◌, drop}
use Rattle.wasmprinter_fold.specs.Buffers.{see_all}
use Rattle.wasmprinter_fold.proofs.node_text.line_comment_scan.see_text.Given as goal

abbrev pub invariant-loop-byte : goal.invariant-loop-byte
invariant-loop-byte l = see_all l.seen (drop l.byte-index l.text) ≡ see_all l.fn.seen l.text
