-- The option equals one of the words exactly if it equals one of their texts.
use Rattle.std.proofs.Common.{rules, tests, List, ℕ, Bool, string_bytes, bytes_eq, ◌∙◌}
use Rattle.std.proofs.lemmas.Iterator.Search.{any_from_yields_List}
use Rattle.std.proofs.lemmas.Iterator.{YieldsList-from_slice}
use Rattle.printwasm.proofs.Files.{any_of_map}
use Rattle.printwasm.proofs.program.has.Goals as goal

pub returns : goal.returns
returns c =
    let words = c.args.words.now in
    let is_same : List ℕ → Bool = λ w. bytes_eq w c.args.option.now in
    any_from_yields_List (λ w. is_same (string_bytes w)) _ _ c.any.result c.any.ensures.ran (YieldsList-from_slice words cc) (λ x b q k. search (rules, tests))
    ∙ any_of_map is_same string_bytes words
