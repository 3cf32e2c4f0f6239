-- The exit statuses.
use Rattle.std.specs.Prelude.{ℕ}
use Rattle.example_lines.specs.declared.Failure.{Failure}
use Rattle.example_lines.specs.declared.Failure.TheVariants.{Usage}

-- The exit status after a failure.
abbrev pub status_of : Failure → ℕ
status_of Usage = 2
status_of failure = 1
