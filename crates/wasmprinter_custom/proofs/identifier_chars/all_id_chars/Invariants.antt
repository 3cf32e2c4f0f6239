use Rattle.std.proofs.Common.{◌≡◌}
use Rattle.std.specs.Prelude.{drop}
use Rattle.wasmprinter_spec.specs.Quoted.{all_id_chars}
use Rattle.wasmprinter_custom.proofs.identifier_chars.all_id_chars.Given as goal

abbrev pub invariant-loop-byte : goal.invariant-loop-byte
invariant-loop-byte l = all_id_chars (drop l.byte-index l.bytes) ≡ all_id_chars l.bytes
