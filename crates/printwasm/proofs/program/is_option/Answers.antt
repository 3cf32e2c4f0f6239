-- The prefix of options, byte by byte.
use Rattle.std.proofs.Common.{◌∷◌, []}
use Rattle.std.proofs.lemmas.Str.Pattern.{starts_text}
use Rattle.printwasm.proofs.program.is_option.Goals as goal

pub returns : goal.returns
returns c = starts_text c.starts_with.result (45 ∷ 45 ∷ []) c.args.word.now c.starts_with.ensures.cases
