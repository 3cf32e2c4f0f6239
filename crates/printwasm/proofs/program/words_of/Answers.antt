-- The run of `collect` is part of a run of the iterator itself, whose first item `skip` dropped.
use Rattle.std.proofs.Common.{ap, ◌∙◌, map, string_bytes}
use Rattle.printwasm.proofs.program.words_of.Goals as goal

pub returns-clause-words : goal.returns-clause-words
returns-clause-words g c =
    let run = c.in_ok-collect.ensures.runs tt in
    let part = c.skip.ensures.runs run.0 run.0.seen run.1 in
    rw c.in_ok-args.was (part.0, part.1, part.2.0 ∙ run.2, ap (map string_bytes) (run.3.0 ∙ part.2.2))
