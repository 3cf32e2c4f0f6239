-- The files are printed to standard output or to a file.
use Rattle.std.proofs.Common.{option_copied, refl, ap}
use Rattle.wasm2text.proofs.Runs.{prints_out, prints_to}
use Rattle.wasm2text.proofs.program.print_completed.Goals as goal

pub returns-in-None : goal.returns-in-None
returns-in-None g c e none =
    let printed = c.print_files-status.ensures in
    record {
      failures = printed.0;
      done = prints_out _ _ _ printed.0 none (ap option_copied c.in-None.is) refl (rw (c.deref.ensures.value, e, c.form.ensures) at printed.1);
      reports = printed.2;
      status = printed.3;
    }

pub returns-in-Some : goal.returns-in-Some
returns-in-Some g c e none =
    let printed = c.print_to_file-status.ensures in
    record {
      failures = printed.0;
      done = prints_to _ _ _ printed.0 c.in-Some.path.now none (ap option_copied c.in-Some.is) refl
          (rw (c.deref-in-Some.ensures.value, e, c.form.ensures) at printed.1);
      reports = printed.2;
      status = printed.3;
    }
