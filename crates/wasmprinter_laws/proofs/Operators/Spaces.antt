-- Indices of items in operators: their items in the text, that pieces write these, and that they read back
use Rattle.std.proofs.Common.{◌≡◌, ℕ, ◌<◌, ◌^◌, true, List, Option, Some, None, refl, length, arith, min}
use Rattle.wasmprinter_spec.specs.Forest.{Forest}
use Rattle.wasmprinter_spec.specs.Row.{Space, Types, Local, Label}
use Rattle.wasmprinter_spec.specs.Labels.{Named}
use Rattle.wasmprinter_spec.specs.Names.{IsNamedIfAny, AreNamed, AreApart, AreDistinct, in_function}
use Rattle.wasmprinter_spec.specs.Types.{FieldType}
use Rattle.wasmprinter_spec.specs.Indexed.{Counts, IsIndex, IsFieldOf}
use Rattle.wasmprinter_spec.specs.IndexSpaces.{Context, space_in, index}
use Rattle.wasmprinter_spec.specs.Layout.Operators.{Setting, named_index}
use Rattle.wasmprinter_laws.proofs.Tokens.Pieces.{Free, Bound}
use Rattle.wasmprinter_laws.proofs.Tokens.Writes.{Writes}
use Rattle.wasmprinter_laws.specs.Listed.{IsU32}
use Rattle.wasmprinter_laws.specs.OperatorLaws.{count_in, HaveSameNames}
use Rattle.wasmprinter_laws.proofs.Tabled.{is_item}
use Rattle.wasmprinter_laws.proofs.Identifiers.{index_items, Declares, Reads, index_reads, reads_least, index_writes}
use Rattle.wasmprinter_laws.proofs.Operators.Arguments.{AreArguments}
use Rattle.wasmprinter_laws.proofs.Operators.Numbers.{index_is_no_word}

-- ---- the items

abbrev pub space_items : Setting → Space → ℕ → Forest
space_items s space n = index_items (in_function s.names s.function space n) n

-- A field of a structure type
abbrev pub field_items : Setting → ℕ → ℕ → Forest
field_items s t n = index_items (s.names.fields t n) n

-- ---- arguments

pub item_arguments : (o : Option Named) (n : ℕ) → IsU32 n → AreArguments (index_items o n)
item_arguments None n h = (index_is_no_word n h, tt)
item_arguments (Some m) n h = tt

-- ---- the items read back

pub function_apart : (s : Setting) → AreApart s.names → (space : Space) → AreDistinct (in_function s.names s.function space)
function_apart s apart Local = apart.locals s.function
function_apart s apart Types = apart.items Types
function_apart s apart _ = apart.items _

counted : (k : Counts) (space : Space) (n : ℕ) → is_item space ≡ true → IsIndex k space n → n < count_in k space
counted k Label n t d = absurd cc
counted k _ n t d = d

-- Indices below this bound are those of declared types, and numbers of 32 bits.
abbrev pub least : Counts → ℕ
least k = min (2 ^ 32) k.types

module _ (s : Setting) (c : Context) (k : Counts) (same : HaveSameNames s c k) (apart : AreApart s.names) where
  space_declares : (space : Space) → Declares (space_in c.spaces space) (in_function s.names s.function space) (count_in k space)
  space_declares space = record { are = same.spaces space; few = same.few space; apart = function_apart s apart space }

  pub item_reads : (space : Space) (n : ℕ) → is_item space ≡ true → IsU32 n → IsIndex k space n → index (space_in c.spaces space) (space_items s space n) ≡ Some n
  item_reads space n t h d =
      index_reads (space_in c.spaces space) (in_function s.names s.function space) (count_in k space) (space_declares space) n (counted k space n t d) h

  pub types_read : Reads c.spaces.types (s.names.items Types) (least k)
  types_read = reads_least c.spaces.types (s.names.items Types) k.types (record { are = same.spaces Types; few = same.few Types; apart = apart.items Types })

  pub field_reads : (t n : ℕ) → IsU32 n → IsFieldOf (k.fields t) n → index (c.fields t) (field_items s t n) ≡ Some n
  field_reads t n h d = by (k.fields t) refl d
    where
      by : (fs : Option (List FieldType)) → k.fields t ≡ fs → IsFieldOf fs n → index (c.fields t) (field_items s t n) ≡ Some n
      by None e f = absurd f
      by (Some fs) e f =
          index_reads (c.fields t) (s.names.fields t) (length fs) (record { are = same.fields t fs e; few = same.few_fields t fs e; apart = apart.fields t }) n f h

-- ---- pieces write the items

in_function-named : (s : Setting) → AreNamed s.names → (space : Space) (n : ℕ) → IsNamedIfAny (in_function s.names s.function space n)
in_function-named s named Local n = named.locals s.function n
in_function-named s named Types n = named.items Types n
in_function-named s named _ n = named.items _ n

pub item_writes : (s : Setting) → AreNamed s.names → (space : Space) (n : ℕ) → IsU32 n → Writes Free (named_index s space n) Bound (space_items s space n)
item_writes s named space n h = index_writes (in_function s.names s.function space n) n (in_function-named s named space n) (omega (arith, h))
