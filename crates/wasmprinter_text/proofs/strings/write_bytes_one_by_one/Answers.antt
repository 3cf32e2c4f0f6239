use Rattle.std.proofs.Common.{ap, flat_map, get_or, sym, ◌∙◌}
use Rattle.std.specs.Char.{encode_utf8}
use Rattle.std.proofs.lemmas.List.{at_drop_more}
use Rattle.wasmprinter_spec.specs.Quoted.{is_plain, byte_text}
use Rattle.wasmprinter_text.proofs.Plain.{plain_byte}
use Rattle.wasmprinter_text.proofs.strings.write_bytes_one_by_one.Goals as goal

pub loop-byte-preserved-then-is_plain : goal.loop-byte-preserved-then-is_plain
loop-byte-preserved-then-is_plain g c = λ t w.
    let step = at_drop_more (flat_map byte_text) c.args.bytes.now c.loop-byte.byte-index 0 c.loop-byte-test.true in
    let plain = plain_byte (get_or c.args.bytes.now c.loop-byte.byte-index 0) (ap is_plain (sym c.from-c.ensures) ∙ sym c.is_plain.ensures ∙ c.if-is_plain.true) in
    let wrote = rw (c.encode_utf8.ensures.value ∙ ap encode_utf8 c.from-c.ensures ∙ plain) at c.write_str.ensures in
    c.loop-byte.invariant t (rw step (g.met.O.Output.text_then _ _ _ _ _ _ wrote w))
