use Rattle.std.proofs.Common.{drop, ◌∷◌, []}
use Rattle.std.specs.Prelude.{flat_map}
use Rattle.wasmprinter_spec.specs.Call.{Text}
use Rattle.wasmprinter_spec.specs.Quoted.{byte_text}
use Rattle.wasmprinter_text.proofs.strings.write_bytes_one_by_one.Given as goal

abbrev pub invariant-loop-byte : goal.invariant-loop-byte
invariant-loop-byte g l =
    (t : _) → g.O.Output.called l.out t (Text (flat_map byte_text (drop l.byte-index l.fn.bytes)) ∷ []) →
    g.O.Output.called l.fn.out t (Text (flat_map byte_text l.fn.bytes) ∷ [])
