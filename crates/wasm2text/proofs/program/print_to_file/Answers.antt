-- The files are printed to a file that is not created yet.
use Rattle.std.proofs.Common.{None, refl}
use Rattle.wasm2text.proofs.program.print_to_file.Goals as goal

pub returns : goal.returns
returns g c =
    let printed = c.print_files-status.ensures in (
      printed.0,
      (
        record { outputs = c.args.outputs; path = c.args.path; file = None },
        c.print_files-status.result.1,
        refl,
        refl,
        refl,
        printed.1,
        c.close.ensures,
      ),
      printed.2,
      printed.3,
    )
