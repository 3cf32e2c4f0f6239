use Rattle.std.specs.Prelude.{◌≡◌, codes}
use Rattle.std.proofs.Common.{rules}
use Rattle.wasmprinter_print.proofs.Repeats.{gets_spaces}
use Rattle.wasmprinter_print.proofs.options.PrintOptions.indent_of.Goals as goal

pub returns-in-Default : goal.returns-in-Default
returns-in-Default c =
    let spaces : c.args.self.now.indent ≡ codes "  " = search rules in
    rw spaces (gets_spaces c.get.result c.args.levels c.requires c.get.ensures.cases)
