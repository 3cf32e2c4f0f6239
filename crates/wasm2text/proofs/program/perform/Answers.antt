-- The help or the version is written, or the files are printed.
use Rattle.std.proofs.Common.{refl, sym, inl}
use Rattle.wasm2text.proofs.Runs.{tells}
use Rattle.wasm2text.proofs.program.perform.Goals as goal

pub returns-in-Some : goal.returns-in-Some
returns-in-Some g c =
    let written = c.write_text-status.ensures in
    inl (record {
      failures = written.0;
      done = tells _ _ _ written.0 c.in-Some.text.now (sym c.in-Some.ensures) refl refl written.1;
      reports = written.2;
      status = written.3;
    })

pub returns-in-None : goal.returns-in-None
returns-in-None g c = c.print_request.ensures (sym c.in-None.ensures)
