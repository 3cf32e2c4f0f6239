-- The operators (sections 5.4 and 6.5 of the standard): a row for each opcode. The grammar, the layout and the
-- reader take opcodes, words and immediates from these rows. The program has its own tables: their words, shapes,
-- arities and roles are proved equal to these.
use Rattle.std.specs.Prelude.{ℕ, List, [], ◌∷◌, ◌++◌, Bool, ◌&&◌, ◌==◌, cond, bytes_eq, Option, Some, None}
use Rattle.std.specs.List.{filter}
use Rattle.wasmprinter_spec.specs.Operator.{Opcode}
use Rattle.wasmprinter_spec.specs.Row.{Row, Shape, Arity, Role, Plain}
use Rattle.wasmprinter_spec.specs.Table.Control.{control_rows}
use Rattle.wasmprinter_spec.specs.Table.Variables.{variable_rows}
use Rattle.wasmprinter_spec.specs.Table.Memory.{memory_rows}
use Rattle.wasmprinter_spec.specs.Table.Numbers.{number_rows}
use Rattle.wasmprinter_spec.specs.Table.References.{reference_rows}
use Rattle.wasmprinter_spec.specs.Table.Bulk.{bulk_rows}
use Rattle.wasmprinter_spec.specs.Table.Vectors.{vector_rows}
use Rattle.wasmprinter_spec.specs.Table.VectorNumbers.{vector_number_rows}
use Rattle.wasmprinter_spec.specs.Table.Atomics.{atomic_rows}
pub mod Rows
pub mod Control
pub mod Variables
pub mod Memory
pub mod Numbers
pub mod References
pub mod Bulk
pub mod Vectors
pub mod VectorNumbers
pub mod Atomics

-- The rows of all parts, one part after the other.
unfoldable pub table : List Row
unfolding control_rows variable_rows memory_rows number_rows reference_rows bulk_rows vector_rows vector_number_rows atomic_rows
table =
    control_rows ++ (variable_rows ++ (memory_rows ++ (number_rows ++ (reference_rows
    ++ (bulk_rows ++ (vector_rows ++ (vector_number_rows ++ atomic_rows)))))))

-- The first row that passes the test, or None.
abbrev pub first : (Row → Bool) → List Row → Option Row
first p [] = None
first p (r ∷ rs) = cond (p r) (Some r) (first p rs)

-- The row has the word w.
abbrev pub has_word : List ℕ → Row → Bool
has_word w r = bytes_eq r.word w

-- The row is that of the opcode o.
abbrev pub has_opcode : Opcode → Row → Bool
has_opcode o r = (r.prefix == o.prefix) && (r.number == o.number)

-- All rows with the word w, in the order of the table. The list is empty if no operator has this word. Operators
-- that share a word are distinguished by their immediates.
abbrev pub rows_of : List ℕ → List Row
rows_of w = filter (has_word w) table

-- The row of an opcode, or None if the opcode is not listed.
abbrev pub by_opcode : Opcode → Option Row
by_opcode o = first (has_opcode o) table

-- The word of the row, empty if there is no row.
abbrev pub word_of_row : Option Row → List ℕ
word_of_row None = []
word_of_row (Some r) = r.word

-- The word of an opcode, empty if the opcode is not listed.
abbrev pub word_of : Opcode → List ℕ
word_of o = word_of_row (by_opcode o)

-- The role of the row, `Plain` if there is no row.
abbrev pub role_of_row : Option Row → Role
role_of_row None = Plain
role_of_row (Some r) = r.role

-- The role of an opcode in the nesting of blocks, `Plain` if the opcode is not listed.
abbrev pub role_of : Opcode → Role
role_of o = role_of_row (by_opcode o)

-- The shape of the immediates of the row, if there is one.
abbrev pub shape_of_row : Option Row → Option Shape
shape_of_row None = None
shape_of_row (Some r) = Some r.shape

-- The shape of the immediates of an opcode, or None if the opcode is not listed.
abbrev pub shape_of : Opcode → Option Shape
shape_of o = shape_of_row (by_opcode o)

-- The arity of the row, if there is one.
abbrev pub arity_of_row : Option Row → Option Arity
arity_of_row None = None
arity_of_row (Some r) = Some r.arity

-- The arity of an opcode, or None if the opcode is not listed.
abbrev pub arity_of : Opcode → Option Arity
arity_of o = arity_of_row (by_opcode o)
