use Rattle.wasmprinter_spec.specs.Layout.Customs.{subsections_pieces}
use Rattle.wasmprinter_module_text.proofs.dylink.write_subsections.Given as goal

abbrev pub invariant-loop-subsection : goal.invariant-loop-subsection
invariant-loop-subsection g l =
    (t : _) → g.O.Output.wrote l.out t (subsections_pieces l.subsection-iterator) →
    g.O.Output.wrote l.fn.out t (subsections_pieces l.fn.subsections)
