-- Failures were reported for the files so far, and printing the others completes printing all.
use Rattle.std.proofs.Common.{◌≡◌, List, ◌++◌, map, drop}
use Rattle.wasm2text.specs.Messages.{Failure}
use Rattle.wasm2text.specs.Outcome.{Reads, series, style_choice, writer, PrintsEach, Reports, status_of}
use Rattle.wasm2text.proofs.Files.{Completes}
use Rattle.wasm2text.proofs.printing.print_files.Given as goal

abbrev pub invariant-loop-file : goal.invariant-loop-file
invariant-loop-file g l =
    let p = series (Reads g.I.Inputs.reads g.I.Inputs.reads_input) (style_choice l.fn.style)
    (writer g.O.Output.takes g.O.Output.flushes g.O.Output.uncreated) in
    (failures : List Failure)
    × Reports g.E.Messages.sends l.fn.err failures l.err
    × (l.status ≡ status_of failures)
    × Completes p l.inputs l.out (map (λ f. f.now) (drop l.file-index l.fn.files))
    (λ others after new. PrintsEach p l.fn.inputs l.fn.out (map (λ f. f.now) l.fn.files) (failures ++ others) after new)
