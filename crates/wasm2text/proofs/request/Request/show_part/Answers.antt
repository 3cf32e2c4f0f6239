-- The last part counts.
use Rattle.std.proofs.Common.{Some, refl}
use Rattle.wasm2text.specs.Arguments.{Shows}
use Rattle.wasm2text.specs.Parts.{part_view}
use Rattle.wasm2text.proofs.Requests.{adds}
use Rattle.wasm2text.proofs.request.Request.show_part.Goals as goal

pub returns : goal.returns
returns c = adds c.args.self.now (record c.args.self.now { part = Some c.args.part }) (Shows (part_view c.args.part)) refl
