-- The module is the one that the bytes encode.
use Rattle.std.proofs.lemmas.Result.{IfOk-weaker}
use Rattle.wasm2text.proofs.function_text.range_in_module.Goals as goal

pub returns : goal.returns
returns c = IfOk-weaker c.range_of_function.result _ _ (λ found is. (c.in_ok-module.module, c.in_ok-module.ensures, is)) c.range_of_function.ensures
