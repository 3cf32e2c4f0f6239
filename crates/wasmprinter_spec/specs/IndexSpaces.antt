-- Indices in the text format: a number means itself, an identifier the position of its declaration (sections 6.3,
-- "Identifiers" and "Contexts", and 6.6, "Indices", of the standard). An index space is given by the identifiers
-- of its declarations, in order.
use Rattle.std.specs.Prelude.{ℕ, ◌+◌, List, [], ◌∷◌, Bool, true, false, cond, not, ◌&&◌, bytes_eq, Option, Some, None, if◌then◌else◌, option_map}
use Rattle.wasmprinter_spec.specs.Row.{Space, Types, Func, Table, Memory, Tag, Global, Elem, Data, Local, Label}
use Rattle.wasmprinter_spec.specs.Grammar.{◌>>=◌}
use Rattle.wasmprinter_spec.specs.Types.{FuncType}
use Rattle.wasmprinter_spec.specs.Numeral.{natural, number_below}
use Rattle.wasmprinter_spec.specs.Forest.{Forest, End, Word, Name}

-- The identifiers of declarations, in order. A declaration may have no identifier.
abbrev pub Identifiers : Type 0
Identifiers = List (Option (List ℕ))

-- The declaration has the identifier `id`.
abbrev pub declares : List ℕ → Option (List ℕ) → Bool
declares id None = false
declares id (Some s) = bytes_eq s id

-- One of the declarations has the identifier `id`.
abbrev pub is_declared : List ℕ → Identifiers → Bool
is_declared id [] = false
is_declared id (d ∷ ds) = cond (declares id d) true (is_declared id ds)

-- No identifier is declared twice.
abbrev pub are_distinct : Identifiers → Bool
are_distinct [] = true
are_distinct (None ∷ ds) = are_distinct ds
are_distinct (Some id ∷ ds) = not (is_declared id ds) && are_distinct ds

-- The index space of these declarations. There is none if an identifier is declared twice, even if nothing uses
-- it. The standard calls an identifier context well-formed if it contains no duplicate identifiers in one space.
abbrev pub index_space : Identifiers → Option Identifiers
index_space ids = if are_distinct ids then Some ids else None

-- The position of the declaration of an identifier.
abbrev pub resolve : List ℕ → Identifiers → Option ℕ
resolve id [] = None
resolve id (d ∷ ds) = if declares id d then Some 0 else option_map (λ n. n + 1) (resolve id ds)

-- A single item that is an index.
abbrev pub index : Identifiers → Forest → Option ℕ
index ids (Word w End) = natural w >>= number_below 32
index ids (Name s End) = resolve s ids
index ids _ = None

-- A first item that is an index, and the items after it.
abbrev pub leading_index : Identifiers → Forest → Option (ℕ × Forest)
leading_index ids (Word w f) = index ids (Word w End) >>= λ i. Some (i, f)
leading_index ids (Name s f) = index ids (Name s End) >>= λ i. Some (i, f)
leading_index ids _ = None

-- The index spaces of a module, and that of a function's parameters with its locals.
pub record Spaces : Type 0 where
  pub types : Identifiers
  pub functions : Identifiers
  pub tables : Identifiers
  pub memories : Identifiers
  pub tags : Identifiers
  pub globals : Identifiers
  pub elems : Identifiers
  pub data_segments : Identifiers
  pub locals : Identifiers

-- The index space of each kind. (Labels are resolved by another rule, with the operators.)
abbrev pub space_in : Spaces → Space → Identifiers
space_in s Types = s.types
space_in s Func = s.functions
space_in s Table = s.tables
space_in s Memory = s.memories
space_in s Tag = s.tags
space_in s Global = s.globals
space_in s Elem = s.elems
space_in s Data = s.data_segments
space_in s Local = s.locals
space_in s Label = []

-- The context in which functions and operators are read: the index spaces, the signature of each function type,
-- and the fields of each structure type, which are an index space of their own.
pub record Context : Type 0 where
  pub spaces : Spaces
  pub signature : ℕ → Option FuncType
  pub fields : ℕ → Identifiers
