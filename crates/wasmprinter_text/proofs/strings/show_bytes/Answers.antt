use Rattle.std.proofs.Common.{arith, ap, ◌∙◌, flat_map}
use Rattle.std.proofs.lemmas.List.{take_all}
use Rattle.wasmprinter_spec.specs.Quoted.{byte_text}
use Rattle.wasmprinter_text.proofs.Tables.{ascii_bytes}
use Rattle.wasmprinter_text.proofs.strings.show_bytes.Goals as goal

pub returns-clause-ascii : goal.returns-clause-ascii
returns-clause-ascii c =
    let whole = ap (flat_map byte_text) (take_all c.loop-byte.byte-index c.args.bytes.now (omega arith)) in
    rw (c.loop-byte.invariant.0 ∙ whole) (ascii_bytes c.args.bytes.now (λ i. (c.type_inv.bytes i).fits))
