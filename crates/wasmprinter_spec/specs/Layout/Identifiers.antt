-- The layout of identifiers (section 6.3 of the standard, "Identifiers"): at declarations, and in place of
-- indices. If the identifier had to differ from the given name, an annotation `(@name "..")` has the name.
use Rattle.std.specs.Prelude.{ℕ, List, [], ◌∷◌, ◌++◌, cond, chars, bytes_eq, Option, Some, None}
use Rattle.wasmprinter_spec.specs.Labels.{Named}
use Rattle.wasmprinter_spec.specs.Piece.{Piece, OneSpace, Number, IndexComment, BeginName, EndStyle, Identifier, NameAnnotation}

-- The annotation with the given name, if the name is not the identifier.
abbrev pub given_pieces : Option (List ℕ) → List ℕ → List Piece
given_pieces None content = []
given_pieces (Some s) content = cond (bytes_eq s content) [] (OneSpace ∷ (NameAnnotation (chars s) ∷ []))

-- An identifier and then, if a name was given that is not its content, a space and the annotation with this name.
unfoldable pub id_and_name_pieces : Named → List Piece
id_and_name_pieces n = Identifier (chars n.content) ∷ given_pieces n.given n.content

-- A space, the identifier and the annotation, if it has one; nothing if there is no identifier.
unfoldable pub leading_id_and_name_pieces : Option Named → List Piece
leading_id_and_name_pieces None = []
leading_id_and_name_pieces (Some n) = OneSpace ∷ id_and_name_pieces n

-- The identifier, the annotation, if it has one, and a space; nothing if there is no identifier.
unfoldable pub id_and_name_space_pieces : Option Named → List Piece
id_and_name_space_pieces None = []
id_and_name_space_pieces (Some n) = id_and_name_pieces n ++ (OneSpace ∷ [])

-- The identifier and a space, if there is one.
unfoldable pub identifier_space_pieces : Option Named → List Piece
identifier_space_pieces None = []
identifier_space_pieces (Some n) = Identifier (chars n.content) ∷ (OneSpace ∷ [])

-- The declaration of the item with index i, in the style of names, which an annotation ends: the identifier, if it has
-- one, the annotation with the given name, if this is not the identifier, and the comment `(;i;)`.
unfoldable pub declaration_pieces : Option Named → ℕ → List Piece
declaration_pieces n i = BeginName ∷ (id_and_name_space_pieces n ++ (IndexComment i ∷ (EndStyle ∷ [])))

-- An index in the style of names: the identifier of the item, without an annotation, or else the number i.
unfoldable pub index_pieces : Option Named → ℕ → List Piece
index_pieces None i = Number i ∷ []
index_pieces (Some n) i = BeginName ∷ (Identifier (chars n.content) ∷ (EndStyle ∷ []))
