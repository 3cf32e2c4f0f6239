-- The help takes precedence.
use Rattle.std.proofs.Common.{Bool, Some, None, sym, ap}
use Rattle.std.specs.Prelude.{if◌then◌else◌}
use Rattle.wasm2text.specs.OwnTexts.{help_text, version_text}
use Rattle.wasm2text.proofs.program.own_text.Goals as goal

pub returns-then-request : goal.returns-then-request
returns-then-request c =
    ap (λ (b : Bool). if b then Some help_text else if c.args.request.now.version then Some version_text else None) (sym c.if-request.true)
