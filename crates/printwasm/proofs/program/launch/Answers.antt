use Rattle.std.proofs.Common.{map, string_bytes}
use Rattle.printwasm.proofs.Endings.{by_result}
use Rattle.printwasm.proofs.program.launch.Goals as goal

pub returns : goal.returns
returns g c =
    by_result c.words_of-words.result _ _ _ _ _ _ c.words_of-words.ensures.words c.start.ensures.runs c.words_of-words.ensures.unread c.start.ensures.refuses
    (λ words are has. (map string_bytes words.items, are, has)) (λ error unread refuses. (error, unread, refuses))
