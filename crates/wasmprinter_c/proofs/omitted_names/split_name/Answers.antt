use Rattle.std.proofs.Common.{arith}
use Rattle.wasmprinter_c.proofs.NameLists.{starts}
use Rattle.wasmprinter_c.proofs.omitted_names.split_name.Goals as goal

pub returns-then-len-rest-clause-found : goal.returns-then-len-rest-clause-found
returns-then-len-rest-clause-found c =
    let sized = c.from_le_bytes-len.ensures in
    rw (c.split_at.ensures.front, c.split_at.ensures.back)
    (starts c.args.list.now c.from_le_bytes-len.result c.in-len4-up.len_at_least (omega (arith, sized)) c.if-len-rest.true)
