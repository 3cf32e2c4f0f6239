-- The failure is the one that is reported.
use Rattle.std.proofs.Common.{◌∷◌, [], refl}
use Rattle.wasm2text.proofs.printing.note.Goals as goal

pub returns-in-Refused : goal.returns-in-Refused
returns-in-Refused g c =
    (record { name = c.args.name.now; cause = c.in-Refused.cause } ∷ [], rw c.in-Refused.is (refl, refl), (c.report.new.err, c.report.ensures, refl), refl)
