use Rattle.std.proofs.Common.{IsUtf8, ◌∷◌, []}
use Rattle.std.specs.Str.Iter.{chars_rest}
use Rattle.wasmprinter_spec.specs.Call.{Text}
use Rattle.wasmprinter_print.specs.MadeCalls.{StillToMake}
use Rattle.wasmprinter_print.proofs.print.Print.write_each_char.Given as goal

abbrev pub invariant-loop-c : goal.invariant-loop-c
invariant-loop-c g l =
    IsUtf8 (chars_rest l.c-iterator)
    × StillToMake g.Self.Print.meaning l.fn.self l.self (Text l.fn.s ∷ []) (Text (chars_rest l.c-iterator) ∷ [])
