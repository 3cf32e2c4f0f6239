-- The words are a command line, or have an error.
use Rattle.std.proofs.Common.{map, string_bytes, refl, inr}
use Rattle.wasm2text.specs.Parsing.{request_read}
use Rattle.wasm2text.proofs.Runs.{performs}
use Rattle.wasm2text.proofs.program.run.Goals as goal

pub returns-in-Ok : goal.returns-in-Ok
returns-in-Ok g c =
    let parsed = c.in-Ok.ensures in
    performs _ (map string_bytes c.args.words.now) _ parsed.0 (request_read c.in-Ok.request) parsed.1 parsed.2 c.perform.ensures

pub returns-in-Err : goal.returns-in-Err
returns-in-Err g c = inr (
  c.in-Err.error,
  c.in-Err.ensures,
  record { reports = c.refuse.ensures.reports; unread = refl; uncreated = refl; silent = refl; status = c.refuse.ensures.status },
)
