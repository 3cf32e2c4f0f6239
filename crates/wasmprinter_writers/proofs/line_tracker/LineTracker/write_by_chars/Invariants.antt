use Rattle.std.proofs.Common.{IsUtf8, ◌∷◌, []}
use Rattle.std.specs.Str.Iter.{chars_rest}
use Rattle.wasmprinter_spec.specs.Call.{Text}
use Rattle.wasmprinter_print.specs.MadeCalls.{StillToMake}
use Rattle.wasmprinter_writers.specs.Tracking.{tracked_meaning}
use Rattle.wasmprinter_writers.proofs.line_tracker.LineTracker.write_by_chars.Given as goal

abbrev pub invariant-loop-c : goal.invariant-loop-c
invariant-loop-c l =
    IsUtf8 (chars_rest l.c-iterator)
    × StillToMake tracked_meaning l.fn.self l.self (Text l.fn.piece ∷ []) (Text (chars_rest l.c-iterator) ∷ [])
