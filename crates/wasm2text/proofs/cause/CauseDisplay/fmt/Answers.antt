-- The two numbers are written in hexadecimal.
use Rattle.wasm2text.proofs.cause.CauseDisplay.fmt.Goals as goal

pub returns-in-NoByte-clause-writes : goal.returns-in-NoByte-clause-writes
returns-in-NoByte-clause-writes g c plain ok =
    rw c.in-NoByte.is ((rw (c.in_radix.ensures, c.in_radix-in-NoByte.ensures) at c.write-in-NoByte.ensures.writes) plain ok)
