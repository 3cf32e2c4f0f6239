-- Tags among the fields of a module
use Rattle.std.proofs.Common.{◌≡◌, ℕ, ◌<◌, ◌^◌, Some, None, refl, ap, codes}
use Rattle.wasmprinter_spec.specs.Character.{class}
use Rattle.wasmprinter_spec.specs.Forest.{Forest, End, Word, Group}
use Rattle.wasmprinter_spec.specs.Grammar.{Placed}
use Rattle.wasmprinter_spec.specs.Types.{FuncType, signature_at}
use Rattle.wasmprinter_spec.specs.Indexed.{Counts}
use Rattle.wasmprinter_spec.specs.IndexSpaces.{Context}
use Rattle.wasmprinter_spec.specs.Text.Items.{identifier_in_front}
use Rattle.wasmprinter_spec.specs.Text.Tags.{read_tag}
use Rattle.wasmprinter_spec.specs.Row.{Tag}
use Rattle.wasmprinter_spec.specs.Names.{AreNamed}
use Rattle.wasmprinter_spec.specs.Layout.Declarations.{Scope}
use Rattle.wasmprinter_spec.specs.Layout.Tags.{tag_pieces}
use Rattle.wasmprinter_laws.proofs.Tokens.Pieces.{Bound}
use Rattle.wasmprinter_laws.proofs.Tokens.Writes.{Writes, break_writes, line_group_space_writes}
use Rattle.wasmprinter_laws.specs.Listed.{AreSignaturesInRange}
use Rattle.wasmprinter_laws.proofs.Declarations.{id}
use Rattle.wasmprinter_laws.proofs.Fields.Scopes.{AreScoped}
use Rattle.wasmprinter_laws.proofs.Fields.Headers.{header_items, header_alone_writes, identifier_in_front-header, use-items}

-- The items of a tag after its word
abbrev pub tag_items : Scope → ℕ → ℕ → Forest
tag_items s i type_index = header_items s Tag None i type_index End

pub tag_writes : (s : Scope) → AreNamed s.names → AreSignaturesInRange (signature_at s.types) → (i : ℕ) (tag : Placed ℕ) → i < 2 ^ 64 → tag.value < 2 ^ 32 →
    Writes Bound (tag_pieces s i tag) Bound (Group (Word (codes "tag") (tag_items s i tag.value)) End)
unfolding tag_pieces class
tag_writes s named ranged i tag h r = break_writes (line_group_space_writes (codes "tag") _ refl refl (header_alone_writes s named ranged Tag None i tag.value h r))

-- The identifier of a tag is read.
pub identifier_in_front-tag : (s : Scope) (i type_index : ℕ) → (identifier_in_front (tag_items s i type_index)).0 ≡ id (s.names.items Tag i)
identifier_in_front-tag s i type_index = ap (λ x. x.0) (identifier_in_front-header s Tag None i type_index End)

-- A tag reads as the index of its function type.
pub read_tag-items : (s : Scope) (c : Context) (n : Counts) → AreScoped s c n → (i : ℕ) (t : FuncType) (type_index : ℕ) → signature_at s.types type_index ≡ Some t →
    type_index < 2 ^ 32 → read_tag c (tag_items s i type_index) ≡ Some type_index
read_tag-items s c n scoped i t type_index own h = rw (identifier_in_front-header s Tag None i type_index End, use-items s c n scoped None t type_index own h)
