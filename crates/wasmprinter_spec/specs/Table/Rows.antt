-- How the parts of the table write a row: the number after the prefix or the byte itself, the word, the shape, the
-- arity. The standard has the rows in sections 5.4 and 6.5.
use Prim.Native.String.{String}
use Rattle.std.specs.Prelude.{ℕ, codes}
use Rattle.wasmprinter_spec.specs.Row.{Row, Shape, Arity, Role, Plain}

-- An operator without a prefix, with this role in the nesting of blocks.
abbrev pub control : ℕ → String → Shape → Arity → Role → Row
control n w s a r = record { prefix = 0; number = n; word = codes w; shape = s; arity = a; role = r }

-- An operator with a prefix: the prefix, its number after the prefix, its word, shape and arity.
abbrev pub prefixed_row : ℕ → ℕ → String → Shape → Arity → Row
prefixed_row p n w s a = record { prefix = p; number = n; word = codes w; shape = s; arity = a; role = Plain }

-- An operator without a prefix: its opcode, word, shape and arity.
abbrev pub plain : ℕ → String → Shape → Arity → Row
plain n w s a = prefixed_row 0 n w s a
