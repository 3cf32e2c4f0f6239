use Rattle.std.proofs.lemmas.Map.Text.{btree_map_updates_str}
use Rattle.wasmprinter_flat.proofs.open_labels.label_numbering.number.Goals as goal

pub returns-clause-known : goal.returns-clause-known
returns-clause-known c = λ q. btree_map_updates_str c.args.given.now c.args.numbers.now c.insert.new.self _ c.in_ok-insert.ensures.updates q
