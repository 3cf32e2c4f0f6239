-- The range is that of the body.
use Rattle.std.proofs.Common.{sym}
use Rattle.wasm2text.proofs.FunctionPlaces.{range_of_body}
use Rattle.wasm2text.proofs.function_search.range_of_body.Goals as goal

pub returns : goal.returns
returns c =
    rw (c.place.ensures, c.end.ensures) (range_of_body c.args.module.now.functions c.args.index c.in_ok-body.body (sym c.in_ok-body.ensures))
