-- The last choice of colors counts.
use Rattle.std.proofs.Common.{refl}
use Rattle.wasm2text.specs.Arguments.{Colored}
use Rattle.wasm2text.proofs.Requests.{adds}
use Rattle.wasm2text.proofs.request.Request.choose_color.Goals as goal

pub returns : goal.returns
returns c = adds c.args.self.now (record c.args.self.now { color = c.args.color }) (Colored c.args.color) refl
