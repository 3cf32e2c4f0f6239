use Rattle.wasmprinter_spec.specs.Layout.Customs.{space_quoted_list}
use Rattle.wasmprinter_module_text.proofs.dylink.write_space_strings.Given as goal

abbrev pub invariant-loop-name : goal.invariant-loop-name
invariant-loop-name g l =
    (t : _) → g.O.Output.wrote l.out t (space_quoted_list l.name-iterator) → g.O.Output.wrote l.fn.out t (space_quoted_list l.fn.names)
