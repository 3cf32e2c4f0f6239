-- Expressions of fields in the text format (section 6.5 of the standard, "Expressions"; section 6.6: an expression
-- in a group of its own, and its abbreviation, a single instruction).
use Rattle.std.specs.Prelude.{List, ℕ, bytes_eq, Option, None, if◌then◌else◌}
use Rattle.wasmprinter_spec.specs.Grammar.{◌>>=◌}
use Rattle.wasmprinter_spec.specs.Forest.{Forest, End, Word, Group}
use Rattle.wasmprinter_spec.specs.Operator.{Operator}
use Rattle.wasmprinter_spec.specs.IndexSpaces.{Context}
use Rattle.wasmprinter_spec.specs.Code.{chunks_of_forest}
use Rattle.wasmprinter_spec.specs.Text.Operators.{read_operators}

module _ (c : Context) where
  -- The operators of an expression, folded ones in their flat order.
  abbrev pub expression : Forest → Option (List Operator)
  expression f = chunks_of_forest f >>= read_operators c

  -- The content of a group: an expression after the word w, or a single instruction.
  abbrev pub expression_group : List ℕ → Forest → Option (List Operator)
  expression_group w (Word v f) = if bytes_eq v w then expression f else expression (Group (Word v f) End)
  expression_group w f = None
