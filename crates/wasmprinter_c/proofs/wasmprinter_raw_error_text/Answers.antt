use Rattle.std.proofs.Common.{◌≡◌, ◌≤◌, arith}
use Rattle.wasmprinter_c.proofs.Texts.{short_message}
use Rattle.wasmprinter_c.proofs.wasmprinter_raw_error_text.Goals as goal

pub returns-clause-short : goal.returns-clause-short
returns-clause-short c =
    let short = short_message c.args.status c.args.detail in
    let counted = c.write_description.ensures.counted in
    let given = c.length.ensures in
    omega (arith, short, counted, given)
