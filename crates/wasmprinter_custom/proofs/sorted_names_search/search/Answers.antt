use Rattle.wasmprinter_custom.proofs.Lookups.{found_at}
use Rattle.wasmprinter_custom.proofs.sorted_names_search.search.Goals as goal

pub returns : goal.returns
returns c =
    found_at c.args.entries.now c.requires c.args.key c.in_ok-position.position c.index-entries-position.result c.in_ok-position.ensures.bound
    (c.in_ok-position.ensures.at c.index-entries-position.result)
