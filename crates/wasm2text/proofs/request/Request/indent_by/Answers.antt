-- The last indent counts.
use Rattle.std.proofs.Common.{Some, refl}
use Rattle.wasm2text.specs.Arguments.{IndentedBy}
use Rattle.wasm2text.proofs.Requests.{adds}
use Rattle.wasm2text.proofs.request.Request.indent_by.Goals as goal

pub returns : goal.returns
returns c = adds c.args.self.now (record c.args.self.now { indent = Some c.args.spaces }) (IndentedBy c.args.spaces) refl
