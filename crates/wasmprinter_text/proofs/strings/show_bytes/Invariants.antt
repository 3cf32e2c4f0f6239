use Rattle.std.proofs.Common.{◌≡◌, ◌*◌, ◌≤◌, take}
use Rattle.std.specs.Prelude.{flat_map}
use Rattle.wasmprinter_spec.specs.Quoted.{byte_text}
use Rattle.wasmprinter_text.proofs.strings.show_bytes.Given as goal

abbrev pub invariant-loop-byte : goal.invariant-loop-byte
invariant-loop-byte l = (take l.len l.escaped ≡ flat_map byte_text (take l.byte-index l.fn.bytes)) × (l.len ≤ 3 * l.byte-index)
