use Rattle.wasmprinter_spec.specs.Layout.Customs.{flag_words}
use Rattle.wasmprinter_custom.specs.Flags.{bits_of, words_by}
use Rattle.wasmprinter_custom.specs.FlagPieces.{words_pieces}
use Rattle.wasmprinter_module_text.proofs.symbol_flag_printing.write_words.Given as goal

abbrev pub invariant-loop-flag : goal.invariant-loop-flag
invariant-loop-flag g l =
    (t : _) → g.O.Output.wrote l.out t (words_pieces l.flag-iterator) →
    g.O.Output.wrote l.fn.out t (words_pieces (words_by flag_words (bits_of l.fn.flags)))
