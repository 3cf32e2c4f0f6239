-- Constant expressions, flat and folded.
use Rattle.std.specs.Prelude.{◌≡◌, ℕ, List, [], Option, Some, None, refl}
use Rattle.wasmprinter_spec.specs.Grammar.{Placed}
use Rattle.wasmprinter_spec.specs.Operator.{Operator}
use Rattle.wasmprinter_spec.specs.Layout.Operators.{Setting, expression_pieces}
use Rattle.wasmprinter_spec.specs.Layout.Declarations.{Scope, Folding}
use Rattle.wasmprinter_spec.specs.Layout.Functions.{body_by}
use Rattle.wasmprinter_spec.specs.Layout.Expressions.{in_line, constant_by, constant_pieces}

constant_by-list : (f : Option Folding) (s : Setting) (os : List (Placed Operator)) → constant_by f s os ≡ body_by f (Some 0) s [] os
unfolding constant_by body_by expression_pieces
constant_by-list None s os = refl
constant_by-list (Some f) s os = refl

-- A constant expression is a list of operators without hints, outside functions.
pub constant_pieces-list : (s : Scope) (nesting : ℕ) (os : List (Placed Operator)) →
    constant_pieces s nesting os ≡ body_by s.folding (Some 0) (in_line s nesting) [] os
unfolding constant_pieces
constant_pieces-list s nesting os = constant_by-list s.folding (in_line s nesting) os
