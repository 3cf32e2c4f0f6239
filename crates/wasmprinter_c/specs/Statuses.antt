-- Names for the statuses that contracts mention, and for the version of the library.
use Rattle.std.specs.Prelude.{ℕ, ◌+◌, ◌*◌}

-- The module was printed.
abbrev pub ok_status : ℕ
ok_status = 0

-- The bytes are marked as a component.
abbrev pub component_status : ℕ
component_status = 2

-- The indent is not UTF-8.
abbrev pub indent_status : ℕ
indent_status = 12

-- The flags choose an option that this library does not know.
abbrev pub option_status : ℕ
option_status = 13

-- The list of names is cut off.
abbrev pub list_status : ℕ
list_status = 14

-- The major number times 1,000,000, plus the minor number times 1,000, plus the patch number.
abbrev pub library_version : ℕ
library_version = 0 * 1000000 + 263 * 1000 + 0

-- The number N of the release 0.263.0-rN.
abbrev pub library_revision : ℕ
library_revision = 1
