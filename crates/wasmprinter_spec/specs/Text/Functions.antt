-- Functions in the text format (section 6.6 of the standard, "Functions" and "Type Uses").
use Rattle.std.specs.Prelude.{ℕ, ◌++◌, codes, bytes_eq, Option, Some, None, if◌then◌else◌}
use Rattle.wasmprinter_spec.specs.Grammar.{◌>>=◌}
use Rattle.wasmprinter_spec.specs.Forest.{Forest, Word, Group}
use Rattle.wasmprinter_spec.specs.Module.{Function}
use Rattle.wasmprinter_spec.specs.IndexSpaces.{index_space, index, Context}
use Rattle.wasmprinter_spec.specs.Code.{chunks_of_forest}
use Rattle.wasmprinter_spec.specs.Text.Items.{identifier_in_front, groups, ids_of, types_of}
use Rattle.wasmprinter_spec.specs.Text.Types.{variables, signature}
use Rattle.wasmprinter_spec.specs.Text.TypeUses.{parameters}
use Rattle.wasmprinter_spec.specs.Text.Operators.{read_operators}

-- ---- Functions

module _ (c : Context) where
  -- A function of type i: its signature, its locals and its operators. Parameters and locals are one index space.
  abbrev pub function_parts : ℕ → Forest → Option Function
  function_parts i f = do
    sig ← signature c.spaces.types f
    locals ← groups (variables c.spaces.types) (codes "local") sig.1
    chunks ← chunks_of_forest locals.1
    params ← parameters sig.0 (c.signature i)
    space ← index_space (params ++ ids_of locals.0)
    operators ← read_operators (record c { spaces = record c.spaces { locals = space } }) chunks
    Some (record { type_index = i; locals = types_of locals.0; operators = operators })

  -- A function without its identifier: the group `type`, and then the parts of the function.
  abbrev pub function_of_type : Forest → Option Function
  function_of_type (Group (Word w t) f) = if bytes_eq w (codes "type") then index c.spaces.types t >>= (λ i. function_parts i f) else None
  function_of_type _ = None

  -- A function, which may have an identifier before it.
  abbrev pub read_function : Forest → Option Function
  read_function f = function_of_type (identifier_in_front f).1
