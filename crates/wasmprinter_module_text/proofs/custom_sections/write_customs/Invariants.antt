use Rattle.std.specs.Prelude.{drop}
use Rattle.wasmprinter_spec.specs.Options.{Answers}
use Rattle.wasmprinter_spec.specs.Layout.Customs.{parts_at}
use Rattle.wasmprinter_decoder.specs.Places.{after_view}
use Rattle.wasmprinter_module_text.proofs.custom_sections.write_customs.Given as goal

abbrev pub invariant-loop-entry : goal.invariant-loop-entry
invariant-loop-entry g l =
    (t : _) (others : Answers) →
    g.O.Output.laid l.out t (parts_at g.O.Output.chosen.skeleton others (after_view l.after) l.entry-index (drop l.entry-index l.customs)) →
    (answers : Answers) × g.O.Output.laid l.fn.out t (parts_at g.O.Output.chosen.skeleton answers (after_view l.after) 0 l.customs)
