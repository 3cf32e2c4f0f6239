use Rattle.std.proofs.Common.{◌≡◌, ◌++◌, take, flat_map}
use Rattle.wasm2html.specs.Escaped.{escape_byte}
use Rattle.wasm2html.proofs.escaping.append_text.Given as goal

abbrev pub invariant-loop-byte : goal.invariant-loop-byte
invariant-loop-byte l = l.out.items ≡ l.fn.out.items ++ flat_map escape_byte (take l.byte-index l.text)
