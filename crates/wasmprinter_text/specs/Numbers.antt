-- Names for numbers in contracts: bytes of ASCII characters, and sizes of the buffer in which quoted strings are made.
use Rattle.std.specs.Prelude.{ℕ}

-- The characters `space`, `dollar`, `backslash` and `letter_p`.
abbrev pub space : ℕ
space = 32

abbrev pub dollar : ℕ
dollar = 36

abbrev pub backslash : ℕ
backslash = 92

abbrev pub letter_p : ℕ
letter_p = 112

-- The maximum number of bytes of a quoted string that one call writes.
abbrev pub buffer_len : ℕ
buffer_len = 256

-- The maximum number of bytes that one byte takes in a quoted string.
abbrev pub widest : ℕ
widest = 3

-- The maximum number of bytes of a byte string that one call writes.
abbrev pub chunk_len : ℕ
chunk_len = 85
