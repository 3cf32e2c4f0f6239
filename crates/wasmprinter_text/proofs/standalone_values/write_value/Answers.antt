use Rattle.std.proofs.Common.{rules, refl}
use Rattle.wasmprinter_text.proofs.ValueResults.{value_result}
use Rattle.wasmprinter_text.proofs.standalone_values.write_value.Goals as goal

pub returns : goal.returns
returns g c =
    rw c.finish.ensures.result
    (value_result g.P.Print.meaning _ _ _ (g.V.Value.calls c.args.value.now) (search rules) (search rules) (search (rules, c.finish.ensures.printer)) refl c.write_to_printer.ensures.made)
