use Rattle.std.proofs.Common.{rules}
use Rattle.wasmprinter_custom.proofs.Adding.{name_at-lookup}
use Rattle.wasmprinter_custom.proofs.names.Names.look_up.Goals as goal

pub returns : goal.returns
returns c = search (rules, name_at-lookup c.self.inside.entries.items c.args.key)
