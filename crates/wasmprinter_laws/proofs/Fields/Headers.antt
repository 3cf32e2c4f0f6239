-- The header of functions and tags: an identifier, the index of a type, and its signature. A tag, and a function or
-- tag that is imported, consists of the header alone.
use Rattle.std.proofs.Common.{◌≡◌, ℕ, ◌<◌, ◌^◌, [], List, ◌++◌, length, Option, Some, None, refl, ap, ◌∙◌, subst, append-nil, arith}
use Rattle.wasmprinter_spec.specs.Forest.{Forest, End, onto}
use Rattle.wasmprinter_spec.specs.Types.{FuncType, signature_at}
use Rattle.wasmprinter_spec.specs.Row.{Space, Types}
use Rattle.wasmprinter_spec.specs.Labels.{Named}
use Rattle.wasmprinter_spec.specs.Names.{AreNamed, AreDistinct, identifiers}
use Rattle.wasmprinter_spec.specs.Indexed.{Counts, parameter_count}
use Rattle.wasmprinter_spec.specs.IndexSpaces.{Identifiers, index_space, index, Context}
use Rattle.wasmprinter_spec.specs.Piece.{Piece}
use Rattle.wasmprinter_spec.specs.Layout.Declarations.{Scope}
use Rattle.wasmprinter_spec.specs.Layout.Types.{parameters_of}
use Rattle.wasmprinter_spec.specs.Layout.Functions.{header_pieces}
use Rattle.wasmprinter_spec.specs.Text.Items.{identifier_in_front}
use Rattle.wasmprinter_spec.specs.Text.Types.{signature}
use Rattle.wasmprinter_spec.specs.Text.TypeIndices.{type_index}
use Rattle.wasmprinter_laws.proofs.Tokens.Grown.{onto_assoc}
use Rattle.wasmprinter_laws.proofs.Tokens.Pieces.{Edge, Free, Bound}
use Rattle.wasmprinter_laws.proofs.Tokens.Writes.{Writes, WritesNoted, both_write, nothing_writes, one_space_writes}
use Rattle.wasmprinter_laws.specs.Listed.{AreSignaturesInRange}
use Rattle.wasmprinter_laws.proofs.Declarations.{id}
use Rattle.wasmprinter_laws.proofs.Identifiers.{declaration-items, declaration_writes}
use Rattle.wasmprinter_laws.proofs.Spaces.{identifiers_space}
use Rattle.wasmprinter_laws.proofs.Types.Trees.{signature_items, type_use_items, type_use_writes}
use Rattle.wasmprinter_laws.proofs.Types.Back.{end_after_signature, printed_signature, signature-items, own_parameters}
use Rattle.wasmprinter_laws.proofs.Fields.Scopes.{own_id, own_index, AreScoped, own_index-reads, type_bound, type_indices-read, signature_bounded, signature_declared}

-- The type and its signature, with the identifiers of the parameters of a function or of none
abbrev pub use_items : Scope → Option ℕ → ℕ → Forest
use_items s f type_index = type_use_items s.names f type_index (signature_at s.types type_index)

-- The declaration and its type, before the rest
abbrev pub header_items : Scope → Space → Option ℕ → ℕ → ℕ → Forest → Forest
header_items s space f i type_index rest = onto (own_id s space i) (onto (use_items s f type_index) rest)

module _ (s : Scope) (named : AreNamed s.names) (ranged : AreSignaturesInRange (signature_at s.types)) where
  pub header_writes : {b : Edge} (space : Space) (f : Option ℕ) (i type_index : ℕ) (qs : List Piece) (rest more : Forest) → i < 2 ^ 64 → type_index < 2 ^ 32 →
      WritesNoted Bound qs b rest more →
      WritesNoted Free (header_pieces s space f i type_index ++ qs) b (header_items s space f i type_index rest) (header_items s space f i type_index more)
  unfolding header_pieces
  header_writes {b = b} space f i type_index qs rest more h r w =
      let ps : List Piece = header_pieces s space f i type_index ++ qs in
      let again : (x : Forest) → onto (onto (own_id s space i) (use_items s f type_index)) x ≡ header_items s space f i type_index x =
      onto_assoc (own_id s space i) (use_items s f type_index) in
      subst (WritesNoted Free ps b (header_items s space f i type_index rest)) (again more)
      (subst (λ x. WritesNoted Free ps b x (onto (onto (own_id s space i) (use_items s f type_index)) more)) (again rest)
      (both_write (both_write (declaration_writes (s.names.items space i) i (named.items space i) h)
      (one_space_writes {a = Bound} refl (type_use_writes s.names named f type_index (signature_at s.types type_index) refl r (ranged type_index)))) w))

  -- A header without items after it
  pub header_alone_writes : (space : Space) (f : Option ℕ) (i type_index : ℕ) → i < 2 ^ 64 → type_index < 2 ^ 32 →
      Writes Free (header_pieces s space f i type_index) Bound (header_items s space f i type_index End)
  header_alone_writes space f i type_index h r = rw append-nil at (header_writes space f i type_index [] End End h r nothing_writes)

-- The identifier is read, and the items after it are left.
pub identifier_in_front-header : (s : Scope) (space : Space) (f : Option ℕ) (i type_index : ℕ) (rest : Forest) →
    identifier_in_front (header_items s space f i type_index rest) ≡ (id (s.names.items space i), onto (use_items s f type_index) rest)
identifier_in_front-header s space f i type_index rest = declaration-items (s.names.items space i) (onto (use_items s f type_index) rest) refl

-- ---- the items read back

module _ (s : Scope) (c : Context) (n : Counts) (scoped : AreScoped s c n) where
  parameters_apart : (f : Option ℕ) → AreDistinct (parameters_of s.names f)
  parameters_apart None i j a b p q e g h = absurd cc
  parameters_apart (Some f) i j a b p q e g h = scoped.apart.locals f i j a b p q e g h

  -- A function type has fewer than 2 ^ 32 parameters.
  pub parameters_fit : (t : FuncType) (i : ℕ) → signature_at s.types i ≡ Some t → length t.params < 2 ^ 32
  parameters_fit t i own = subst (λ o. parameter_count o < 2 ^ 32) own (scoped.few i)

  -- A type use reads as the index of its function type.
  pub use-items : (f : Option ℕ) (t : FuncType) (i : ℕ) → signature_at s.types i ≡ Some t → i < 2 ^ 32 → type_index c (onto (use_items s f i) End) ≡ Some i
  use-items f t i own small =
      let ids : Identifiers = c.spaces.types in
      let named : ℕ → Option Named = parameters_of s.names f in
      let read : c.signature i ≡ Some t = scoped.types.read i ∙ own in
      let index : index ids (own_index s Types i) ≡ Some i =
      own_index-reads s c n scoped Types (λ names g. refl) i (signature_declared s c n scoped t i own) small in
      let sig : signature ids (onto (signature_items s.names f t) End) ≡ Some (printed_signature named t, End) =
      signature-items s.names ids (type_bound s c n scoped) (type_indices-read s c n scoped) f t End (signature_bounded s c n scoped t i own) (end_after_signature ids) in
      let fit : length t.params < 2 ^ 32 = parameters_fit t i own in
      let space : index_space (identifiers named (length t.params)) ≡ Some (identifiers named (length t.params)) =
      identifiers_space named (parameters_apart f) (length t.params) (omega (arith, fit)) in
      let whole : type_index c (onto (type_use_items s.names f i (Some t)) End) ≡ Some i = rw (index, sig, read, own_parameters named t, space) in
      ap (λ x. type_index c (onto (type_use_items s.names f i x) End)) own ∙ whole
