use Rattle.std.proofs.Common.{sym, ◌∙◌}
use Rattle.wasmprinter_module_text.proofs.CustomLists.{subsections-none, subsections-next}
use Rattle.wasmprinter_module_text.proofs.dylink.write_subsections.Goals as goal

pub loop-subsection-preserved : goal.loop-subsection-preserved
loop-subsection-preserved g c = λ t w.
    let step = subsections-next _ _ _ c.in-Some.ensures.steps in
    let wrote = rw (c.place.ensures, c.content.ensures) at c.write_content.ensures in
    c.loop-subsection.invariant t (rw step (g.met.O.Output.pieces_then _ _ _ _ _ wrote w))

pub loop-subsection-preserved-else-has_failed : goal.loop-subsection-preserved-else-has_failed
loop-subsection-preserved-else-has_failed g c = λ t w.
    let step = subsections-next _ _ _ c.in-Some.ensures.steps in
    let wrote = rw (c.place.ensures, c.content.ensures) at c.write_content.ensures in
    c.loop-subsection.invariant t (rw step (g.met.O.Output.pieces_then _ _ _ _ _ wrote w))

pub loop-subsection-preserved-else-has_failed-2 : goal.loop-subsection-preserved-else-has_failed-2
loop-subsection-preserved-else-has_failed-2 g c = λ t w.
    let step = subsections-next _ _ _ c.in-Some.ensures.steps in
    let wrote = rw (c.place.ensures, c.content.ensures) at c.write_content.ensures in
    c.loop-subsection.invariant t (rw step (g.met.O.Output.pieces_then _ _ _ _ _ wrote w))

pub returns-then-has_failed : goal.returns-then-has_failed
returns-then-has_failed g c = c.loop-subsection.invariant _ (g.met.O.Output.pieces_skipped _ _ (sym c.has_failed.ensures ∙ c.if-has_failed.true))

pub returns : goal.returns
returns g c =
    let none = subsections-none _ c.in-None.ensures.steps.0 in
    c.loop-subsection.invariant _ (rw none (g.met.O.Output.no_piece _))
