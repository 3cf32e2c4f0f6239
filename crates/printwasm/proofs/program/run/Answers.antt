use Rattle.std.proofs.Common.{string_bytes, map, ap, sym, ◌∙◌, option_copied}
use Rattle.printwasm.proofs.Endings.{refusal_told}
use Rattle.printwasm.proofs.program.run.Goals as goal

pub returns : goal.returns
returns g c =
    let words = map string_bytes c.args.words.now in
    let named = sym c.file_of.ensures ∙ ap option_copied c.in-Some.is in
    rw c.refuse.ensures.status
    (refusal_told words c.in-Some.file.now c.in-Err.error named (rw c.choice_of.ensures at c.in-Err.ensures.refused) c.refuse.ensures.reported)
