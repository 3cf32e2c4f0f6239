use Rattle.wasmprinter_module_text.proofs.CustomLists.{words-none, words-next}
use Rattle.wasmprinter_module_text.proofs.symbol_flag_printing.write_words.Goals as goal

pub loop-flag-preserved : goal.loop-flag-preserved
loop-flag-preserved g c = λ t w.
    let step = words-next _ _ _ c.in-Some.ensures.steps in
    c.loop-flag.invariant t (rw step (g.met.O.Output.pieces_then _ _ _ _ _ c.write_space_word.ensures w))

pub returns : goal.returns
returns g c =
    let none = words-none _ c.in-None.ensures.steps.0 in
    c.loop-flag.invariant _ (rw none (g.met.O.Output.no_piece _))
