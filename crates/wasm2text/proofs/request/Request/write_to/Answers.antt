-- The last output counts.
use Rattle.std.proofs.Common.{Some, refl}
use Rattle.wasm2text.specs.Arguments.{WrittenTo}
use Rattle.wasm2text.proofs.Requests.{adds}
use Rattle.wasm2text.proofs.request.Request.write_to.Goals as goal

pub returns : goal.returns
returns c = adds c.args.self.now (record c.args.self.now { output = Some c.args.file }) (WrittenTo c.args.file.now) refl
