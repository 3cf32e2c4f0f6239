-- Single pieces and sequences of pieces: their text lexes to their tokens, and all its bytes are plain.
use Rattle.std.proofs.Common.{◌≡◌, ℕ, zero, suc, ◌<◌, ◌-◌, ◌*◌, ◌^◌, Bool, true, false, ◌&&◌, min, List, [], ◌∷◌, ◌++◌, Option, Some, None, refl, sym, ap, ◌∙◌, append_assoc, append-nil, true≢false, codes, decimal, replicate, length, flat_map, encode_utf8_all, ◌⊎◌, inl, inr}
use Rattle.std.proofs.lemmas.Bool.{and_parts, and_from}
use Rattle.std.specs.Fmt.{signed_decimal, digits}
use Rattle.std.specs.Int.Signed.{mag}
use Rattle.std.specs.List.{AllByRecursion}
use Rattle.std.proofs.Math.Utf8.{scalars}
use Rattle.wasmprinter_spec.specs.Character.{class}
use Rattle.wasmprinter_spec.specs.Call.{Text, text_of}
use Rattle.wasmprinter_spec.specs.Options.{Options, IsBlank}
use Rattle.wasmprinter_spec.specs.Float.{IsWidth, sign_bit}
use Rattle.wasmprinter_spec.specs.Quoted.{is_id, char_text, quoted_text, quoted_bytes, identifier_text}
use Rattle.wasmprinter_spec.specs.Token.{Clear, word, is_name, lex}
use Rattle.wasmprinter_spec.specs.Piece.{Piece, Begin, EndLine, Break, OneSpace, Open, OpenSpace, OpenPlain, OpenUnnamed, OpenTypeSpace, OpenAnnotation, OpenAnnotationSpace, OpenAnnotationWord, CloseParen, Word, TypeWord, TypeWordSpace, SpaceTypeWord, Number, Constant, Literals, SpaceLiterals, Float, IndexComment, BeginName, EndStyle, Quoted, QuotedBytes, Identifier, NameAnnotation, BlockComment, LineComment, PlainLineComment, HintAnnotation, Claimed, flag_byte, repetition_of, left_in, place_text, place_calls, most_indents, after_spaces, word_tokens, calls, text, piece_tokens, all_calls, all_tokens}
use Rattle.wasmprinter_spec.proofs.Texts.{text_of-append}
use Rattle.wasmprinter_laws.proofs.Tokens.Runs.{is_quiet, ends_line, ending_lexes, is_word, are_words, all_quiet, all_blank, is_blank_class, delimited, begins_item, begins_item-word, left_lexes, word_lexes, open_lexes, blanks_lex, comment_lexes}
use Rattle.wasmprinter_laws.proofs.Tokens.Numbers.{is_word-decimal, is_word-signed_decimal, all_quiet-decimal}
use Rattle.wasmprinter_laws.proofs.Tokens.FloatPieces.{float_lexes}
use Rattle.wasmprinter_laws.proofs.Tokens.Quotes.{text_lexes, quoted_bytes_lex}
use Rattle.wasmprinter_laws.proofs.Tokens.Printed.{hex_digits_are_good, is_remark, remark}
use Rattle.wasmprinter_laws.proofs.Tokens.Identifiers.{identifier_lexes, name_note_lexes}
use Rattle.wasmprinter_laws.proofs.Tokens.Notes.{note_lexes, run_lexes, hint_lexes}

-- ---- which piece may follow which

-- What may follow a piece: anything, only a text before which a token may end, only a text that may follow a
-- parenthesis without a keyword, or only the end of the line
pub data Edge : Type 0 where
  Free : Edge
  Bound : Edge
  Opened : Edge  -- no line comment and no start of an annotation
  Ended : Edge  -- only the end of the line

-- Whether a token may end before the piece
abbrev pub begins : Piece → Bool
begins (Begin place) = false
begins (Word w) = false
begins (TypeWord w) = false
begins (TypeWordSpace w) = false
begins (Number n) = false
begins BeginName = false
begins (Literals w ws) = false
begins (Float w bits) = false
begins (Quoted cs) = false
begins (QuotedBytes bs) = false
begins (Identifier cs) = false
begins _ = true

-- Whether the piece may follow a parenthesis without a keyword
abbrev pub starts : Piece → Bool
starts (Begin place) = false
starts (SpaceLiterals ws) = false
starts (Float w bits) = false
starts BeginName = false
starts EndStyle = false
starts (LineComment s) = false
starts (PlainLineComment s) = false
starts (Claimed name place bytes answer) = false
starts _ = true

-- Whether the piece begins with the end of a line
abbrev pub feeds : Piece → Bool
feeds EndLine = true
feeds (Break place nesting) = true
feeds _ = false

abbrev pub leaves : Piece → Edge
leaves (Open w) = Bound
leaves (OpenPlain w) = Bound
leaves (OpenAnnotation w) = Bound
leaves (OpenAnnotationWord w) = Bound
leaves OpenUnnamed = Opened
leaves (Word w) = Bound
leaves (TypeWord w) = Bound
leaves (SpaceTypeWord w) = Bound
leaves (Number n) = Bound
leaves (Constant z) = Bound
leaves (Literals w ws) = Bound
leaves (SpaceLiterals ws) = Bound
leaves (Float w bits) = Bound
leaves EndStyle = Bound
leaves (Quoted cs) = Bound
leaves (QuotedBytes bs) = Bound
leaves (Identifier cs) = Bound
leaves (LineComment s) = Ended
leaves (PlainLineComment s) = Ended
leaves (Claimed name place bytes answer) = Bound
leaves _ = Free

abbrev pub may_follow : Edge → Piece → Bool
may_follow Free p = true
may_follow Bound p = begins p
may_follow Opened p = starts p
may_follow Ended p = feeds p

abbrev pub pieces_follow : Edge → List Piece → Bool
pieces_follow e [] = true
pieces_follow e (p ∷ ps) = may_follow e p && pieces_follow (leaves p) ps

-- The contents of a piece are as its kind requires.
abbrev pub IsPiece : Piece → Type 0
IsPiece (Open w) = is_word w ≡ true
IsPiece (OpenSpace w) = is_word w ≡ true
IsPiece (OpenPlain w) = is_word w ≡ true
IsPiece (OpenTypeSpace w) = is_word w ≡ true
IsPiece (OpenAnnotation w) = is_id w ≡ true
IsPiece (OpenAnnotationSpace w) = is_id w ≡ true
IsPiece (OpenAnnotationWord w) = is_id w ≡ true
IsPiece (Word w) = is_word w ≡ true
IsPiece (TypeWord w) = is_word w ≡ true
IsPiece (TypeWordSpace w) = is_word w ≡ true
IsPiece (SpaceTypeWord w) = is_word w ≡ true
IsPiece (Number n) = n < 2 ^ 64
IsPiece (Constant z) = mag z < 2 ^ 63
IsPiece (Literals w ws) = are_words (w ∷ ws) ≡ true
IsPiece (SpaceLiterals ws) = are_words ws ≡ true
IsPiece (Float w bits) = IsWidth w × (bits < 2 * sign_bit w)
IsPiece (IndexComment n) = n < 2 ^ 64
IsPiece (Quoted cs) = scalars cs ≡ true
IsPiece (QuotedBytes bs) = AllByRecursion (λ b. b < 256) bs
IsPiece (Identifier cs) = (scalars cs ≡ true) × (is_name (encode_utf8_all cs) ≡ true)
IsPiece (NameAnnotation cs) = scalars cs ≡ true
IsPiece (BlockComment t s) = is_remark s ≡ true
IsPiece (LineComment s) = is_remark s ≡ true
IsPiece (PlainLineComment s) = is_remark s ≡ true
IsPiece _ = Unit {0}

abbrev pub ArePieces : List Piece → Type 0
ArePieces [] = Unit {0}
ArePieces (p ∷ ps) = IsPiece p × ArePieces ps

abbrev pub follows : Edge → List ℕ → Bool
follows Free rest = true
follows Bound rest = delimited rest
follows Opened rest = begins_item rest
follows Ended rest = ends_line rest

-- ---- new lines

-- Spaces and tabs pass the test `is_blank_class`.
is_blank_byte : (b : ℕ) → (b ≡ 32) ⊎ (b ≡ 9) → is_blank_class (class b) ≡ true
unfolding class
is_blank_byte b (inl e) = ap (λ c. is_blank_class (class c)) e
is_blank_byte b (inr e) = ap (λ c. is_blank_class (class c)) e

pub all_blank-IsBlank : (bs : List ℕ) → IsBlank bs → all_blank bs ≡ true
all_blank-IsBlank [] h = refl
all_blank-IsBlank (b ∷ bs) h = and_from (is_blank_class (class b)) (all_blank bs) (is_blank_byte b h.0) (all_blank-IsBlank bs h.1)

all_blank-append : (a b : List ℕ) → all_blank a ≡ true → all_blank b ≡ true → all_blank (a ++ b) ≡ true
all_blank-append [] b h k = k
all_blank-append (c ∷ cs) b h k =
    let parts : (is_blank_class (class c) ≡ true) × (all_blank cs ≡ true) = and_parts (is_blank_class (class c)) (all_blank cs) h in
    and_from (is_blank_class (class c)) (all_blank (cs ++ b)) parts.0 (all_blank-append cs b parts.1 k)

pub all_blank-repetition_of : (n : ℕ) (bs : List ℕ) → all_blank bs ≡ true → all_blank (repetition_of n bs) ≡ true
unfolding repetition_of
all_blank-repetition_of zero bs h = refl
all_blank-repetition_of (suc n) bs h = all_blank-append bs (repetition_of n bs) h (all_blank-repetition_of n bs h)

all_blank-blanks : (n : ℕ) → all_blank (replicate n 32) ≡ true
unfolding class
all_blank-blanks zero = refl
all_blank-blanks (suc n) = all_blank-blanks n

all_quiet-append : (a b : List ℕ) → all_quiet a ≡ true → all_quiet b ≡ true → all_quiet (a ++ b) ≡ true
all_quiet-append [] b h k = k
all_quiet-append (c ∷ cs) b h k =
    let parts : (is_quiet (class c) ≡ true) × (all_quiet cs ≡ true) = and_parts (is_quiet (class c)) (all_quiet cs) h in
    and_from (is_quiet (class c)) (all_quiet (cs ++ b)) parts.0 (all_quiet-append cs b parts.1 k)

all_quiet-blanks : (n : ℕ) → all_quiet (replicate n 32) ≡ true
unfolding class
all_quiet-blanks zero = refl
all_quiet-blanks (suc n) = all_quiet-blanks n

all_quiet-left_in : (n p : ℕ) → all_quiet (left_in n (digits 16 false p)) ≡ true
unfolding left_in
all_quiet-left_in n p =
    all_quiet-append (digits 16 false p) (replicate (n - length (digits 16 false p)) 32) (hex_digits_are_good p).1 (all_quiet-blanks (n - length (digits 16 false p)))

-- The place at the start of a line is a comment or spaces, and lexes to no token.
place_lexes : (place : Option ℕ) (rest : List ℕ) → lex Clear (place_text place ++ rest) ≡ lex Clear rest
unfolding place_text class
place_lexes (Some p) rest =
    ap (λ t. lex Clear (40 ∷ (59 ∷ (64 ∷ t)))) (append_assoc (left_in 6 (digits 16 false p)) (codes ";)") rest)
    ∙ comment_lexes (64 ∷ left_in 6 (digits 16 false p)) rest (all_quiet-left_in 6 p)
place_lexes None rest = blanks_lex (replicate 11 32) rest (all_blank-blanks 11)

place_calls_lex : (offsets : Bool) (place : Option ℕ) (rest : List ℕ) → lex Clear (text_of (place_calls offsets place) ++ rest) ≡ lex Clear rest
place_calls_lex false place rest = refl
place_calls_lex true (Some p) rest = ap (λ t. lex Clear (t ++ rest)) (append-nil (place_text (Some p))) ∙ place_lexes (Some p) rest
place_calls_lex true None rest = ap (λ t. lex Clear (t ++ rest)) (append-nil (place_text None)) ∙ place_lexes None rest

indent_lexes : (offsets : Bool) (place : Option ℕ) (indent rest : List ℕ) → all_blank indent ≡ true →
    lex Clear (text_of (place_calls offsets place ++ (Text indent ∷ [])) ++ rest) ≡ lex Clear rest
indent_lexes offsets place indent rest h =
    ap (λ t. lex Clear (t ++ rest)) (text_of-append (place_calls offsets place) (Text indent ∷ []))
    ∙ ap (lex Clear) (append_assoc (text_of (place_calls offsets place)) (indent ++ []) rest)
    ∙ place_calls_lex offsets place ((indent ++ []) ++ rest)
    ∙ ap (λ t. lex Clear (t ++ rest)) (append-nil indent)
    ∙ blanks_lex indent rest h

-- ---- words with spaces before them

after_spaces_delimited : (ws : List (List ℕ)) (rest : List ℕ) → delimited rest ≡ true → delimited (after_spaces ws ++ rest) ≡ true
unfolding class
after_spaces_delimited [] rest d = d
after_spaces_delimited (w ∷ ws) rest d = refl

after_spaces_lex : (ws : List (List ℕ)) (rest : List ℕ) → are_words ws ≡ true → delimited rest ≡ true →
    lex Clear (after_spaces ws ++ rest) ≡ word_tokens ws ++ lex Clear rest
unfolding lex class
after_spaces_lex [] rest h d = refl
after_spaces_lex (w ∷ ws) rest h d =
    let parts : (is_word w ≡ true) × (are_words ws ≡ true) = and_parts (is_word w) (are_words ws) h in
    ap (lex Clear) (append_assoc w (after_spaces ws) rest)
    ∙ word_lexes w (after_spaces ws ++ rest) parts.0 (after_spaces_delimited ws rest d)
    ∙ ap (λ t. word w ∷ t) (after_spaces_lex ws rest parts.1 d)

words_lex : (w : List ℕ) (ws : List (List ℕ)) (rest : List ℕ) → are_words (w ∷ ws) ≡ true → delimited rest ≡ true →
    lex Clear ((w ++ after_spaces ws) ++ rest) ≡ word_tokens (w ∷ ws) ++ lex Clear rest
words_lex w ws rest h d =
    let parts : (is_word w ≡ true) × (are_words ws ≡ true) = and_parts (is_word w) (are_words ws) h in
    ap (lex Clear) (append_assoc w (after_spaces ws) rest)
    ∙ word_lexes w (after_spaces ws ++ rest) parts.0 (after_spaces_delimited ws rest d)
    ∙ ap (λ t. word w ∷ t) (after_spaces_lex ws rest parts.1 d)

-- ---- single pieces

module _ (o : Options) (spaces : all_blank o.indent ≡ true) where
  piece_lexes : (p : Piece) (rest : List ℕ) → IsPiece p → follows (leaves p) rest ≡ true → lex Clear (text o p ++ rest) ≡ piece_tokens p ++ lex Clear rest
  unfolding lex class
  piece_lexes (Begin place) rest h d = refl
  piece_lexes EndLine rest h d = refl
  piece_lexes (Break place nesting) rest h d =
      indent_lexes o.offsets place (repetition_of (min nesting most_indents) o.indent) rest (all_blank-repetition_of (min nesting most_indents) o.indent spaces)
  piece_lexes OneSpace rest h d = refl
  piece_lexes (Open w) rest h d =
      ap (λ t. lex Clear (40 ∷ (t ++ rest))) (append-nil w) ∙ open_lexes w rest h d
  piece_lexes (OpenSpace w) rest h d =
      ap (λ t. lex Clear (40 ∷ (t ++ rest))) (append-nil (w ++ (32 ∷ [])))
      ∙ ap (λ t. lex Clear (40 ∷ t)) (append_assoc w (32 ∷ []) rest)
      ∙ open_lexes w (32 ∷ rest) h refl
  piece_lexes (OpenPlain w) rest h d =
      ap (λ t. lex Clear (40 ∷ (t ++ rest))) (append-nil w) ∙ open_lexes w rest h d
  piece_lexes OpenUnnamed rest h d = left_lexes rest d
  piece_lexes (OpenTypeSpace w) rest h d =
      ap (λ t. lex Clear (40 ∷ (t ++ rest))) (append-nil (w ++ (32 ∷ [])))
      ∙ ap (λ t. lex Clear (40 ∷ t)) (append_assoc w (32 ∷ []) rest)
      ∙ open_lexes w (32 ∷ rest) h refl
  piece_lexes (OpenAnnotation w) rest h d = ap (λ t. lex Clear (40 ∷ (64 ∷ (t ++ rest)))) (append-nil w) ∙ note_lexes w rest h d
  piece_lexes (OpenAnnotationSpace w) rest h d =
      ap (λ t. lex Clear (40 ∷ (64 ∷ (t ++ rest)))) (append-nil (w ++ (32 ∷ [])))
      ∙ ap (λ t. lex Clear (40 ∷ (64 ∷ t))) (append_assoc w (32 ∷ []) rest)
      ∙ note_lexes w (32 ∷ rest) h refl
  piece_lexes (OpenAnnotationWord w) rest h d = ap (λ t. lex Clear (40 ∷ (t ++ rest))) (append-nil w) ∙ run_lexes w rest h d
  piece_lexes CloseParen rest h d = refl
  piece_lexes (Word w) rest h d = ap (λ t. lex Clear (t ++ rest)) (append-nil w) ∙ word_lexes w rest h d
  piece_lexes (TypeWord w) rest h d = ap (λ t. lex Clear (t ++ rest)) (append-nil w) ∙ word_lexes w rest h d
  piece_lexes (TypeWordSpace w) rest h d =
      ap (λ t. lex Clear (t ++ rest)) (append-nil (w ++ (32 ∷ [])))
      ∙ ap (lex Clear) (append_assoc w (32 ∷ []) rest)
      ∙ word_lexes w (32 ∷ rest) h refl
  piece_lexes (SpaceTypeWord w) rest h d = ap (λ t. lex Clear (t ++ rest)) (append-nil w) ∙ word_lexes w rest h d
  piece_lexes (Number n) rest h d = ap (λ t. lex Clear (t ++ rest)) (append-nil (decimal n)) ∙ word_lexes (decimal n) rest (is_word-decimal n h) d
  piece_lexes (Constant z) rest h d = ap (λ t. lex Clear (t ++ rest)) (append-nil (signed_decimal z)) ∙ word_lexes (signed_decimal z) rest (is_word-signed_decimal z h) d
  piece_lexes (Literals w ws) rest h d = ap (λ t. lex Clear (t ++ rest)) (append-nil (w ++ after_spaces ws)) ∙ words_lex w ws rest h d
  piece_lexes (SpaceLiterals ws) rest h d = ap (λ t. lex Clear (t ++ rest)) (append-nil (after_spaces ws)) ∙ after_spaces_lex ws rest h d
  piece_lexes (Float w bits) rest h d = float_lexes w h.0 bits rest h.1 d
  piece_lexes BeginName rest h d = refl
  piece_lexes EndStyle rest h d = refl
  piece_lexes (IndexComment n) rest h d =
      ap (λ t. lex Clear (40 ∷ (59 ∷ (t ++ rest)))) (append-nil (decimal n ++ codes ";)"))
      ∙ ap (λ t. lex Clear (40 ∷ (59 ∷ t))) (append_assoc (decimal n) (codes ";)") rest)
      ∙ comment_lexes (decimal n) rest (all_quiet-decimal n h)
  piece_lexes (Quoted cs) rest h d =
      ap (λ t. lex Clear (t ++ rest)) (append-nil (quoted_text cs)) ∙ text_lexes cs rest h d
  piece_lexes (QuotedBytes bs) rest h d =
      ap (λ t. lex Clear (t ++ rest)) (append-nil (quoted_bytes bs)) ∙ quoted_bytes_lex bs rest h d
  piece_lexes (Identifier cs) rest h d =
      ap (λ t. lex Clear (t ++ rest)) (append-nil (identifier_text cs)) ∙ identifier_lexes cs rest h.0 h.1 d
  piece_lexes (NameAnnotation cs) rest h d =
      ap (λ t. lex Clear (codes "(@name \"" ++ t)) (append_assoc (flat_map char_text cs) (codes "\")") rest)
      ∙ name_note_lexes cs rest h
  piece_lexes (BlockComment true s) rest h d =
      ap (λ t. lex Clear (40 ∷ (59 ∷ (t ++ rest)))) (append-nil (s ++ codes ";)"))
      ∙ ap (λ t. lex Clear (40 ∷ (59 ∷ t))) (append_assoc s (codes ";)") rest)
      ∙ comment_lexes s rest (remark s h).quiet
  piece_lexes (BlockComment false s) rest h d =
      ap (λ t. lex Clear (40 ∷ (59 ∷ (t ++ rest)))) (append-nil (s ++ codes ";)"))
      ∙ ap (λ t. lex Clear (40 ∷ (59 ∷ t))) (append_assoc s (codes ";)") rest)
      ∙ comment_lexes s rest (remark s h).quiet
  piece_lexes (LineComment s) rest h d =
      ap (λ t. lex Clear (codes ";; " ++ (t ++ rest))) (append-nil s)
      ∙ ending_lexes s rest (remark s h).inline d
  piece_lexes (PlainLineComment s) rest h d =
      ap (λ t. lex Clear (codes ";; " ++ (t ++ rest))) (append-nil s)
      ∙ ending_lexes s rest (remark s h).inline d
  piece_lexes (HintAnnotation taken) rest h d =
      ap (λ t. lex Clear (codes "(@metadata.code.branch_hint " ++ (t ++ rest))) (append-nil (quoted_bytes (flag_byte taken ∷ []) ++ codes ")"))
      ∙ ap (λ t. lex Clear (codes "(@metadata.code.branch_hint " ++ t)) (append_assoc (quoted_bytes (flag_byte taken ∷ [])) (codes ")") rest)
      ∙ hint_lexes taken rest
  piece_lexes (Claimed name place bytes answer) rest h d = refl

begins_delimited : (o : Options) (p : Piece) (rest : List ℕ) → begins p ≡ true → follows (leaves p) rest ≡ true → delimited (text o p ++ rest) ≡ true
unfolding class
begins_delimited o (Begin place) rest h d = absurd (true≢false (sym h))
begins_delimited o EndLine rest h d = refl
begins_delimited o (Break place nesting) rest h d = refl
begins_delimited o OneSpace rest h d = refl
begins_delimited o (Open w) rest h d = refl
begins_delimited o (OpenSpace w) rest h d = refl
begins_delimited o (OpenPlain w) rest h d = refl
begins_delimited o OpenUnnamed rest h d = refl
begins_delimited o (OpenTypeSpace w) rest h d = refl
begins_delimited o (OpenAnnotation w) rest h d = refl
begins_delimited o (OpenAnnotationSpace w) rest h d = refl
begins_delimited o (OpenAnnotationWord w) rest h d = refl
begins_delimited o CloseParen rest h d = refl
begins_delimited o (Word w) rest h d = absurd (true≢false (sym h))
begins_delimited o (TypeWord w) rest h d = absurd (true≢false (sym h))
begins_delimited o (TypeWordSpace w) rest h d = absurd (true≢false (sym h))
begins_delimited o (SpaceTypeWord w) rest h d = refl
begins_delimited o (Number n) rest h d = absurd (true≢false (sym h))
begins_delimited o (Constant z) rest h d = refl
begins_delimited o (Literals w ws) rest h d = absurd (true≢false (sym h))
begins_delimited o (SpaceLiterals ws) rest h d =
    ap (λ t. delimited (t ++ rest)) (append-nil (after_spaces ws)) ∙ after_spaces_delimited ws rest d
begins_delimited o (Float w bits) rest h d = absurd (true≢false (sym h))
begins_delimited o (IndexComment n) rest h d = refl
begins_delimited o BeginName rest h d = absurd (true≢false (sym h))
begins_delimited o EndStyle rest h d = d
begins_delimited o (Quoted cs) rest h d = absurd (true≢false (sym h))
begins_delimited o (QuotedBytes bs) rest h d = absurd (true≢false (sym h))
begins_delimited o (Identifier cs) rest h d = absurd (true≢false (sym h))
begins_delimited o (NameAnnotation cs) rest h d = refl
begins_delimited o (BlockComment true s) rest h d = refl
begins_delimited o (BlockComment false s) rest h d = refl
begins_delimited o (LineComment s) rest h d = refl
begins_delimited o (PlainLineComment s) rest h d = refl
begins_delimited o (HintAnnotation taken) rest h d = refl
begins_delimited o (Claimed name place bytes answer) rest h d = d

starts_item : (o : Options) (p : Piece) (rest : List ℕ) → starts p ≡ true → IsPiece p → begins_item (text o p ++ rest) ≡ true
unfolding class quoted_text quoted_bytes identifier_text
starts_item o (Begin place) rest h i = absurd (true≢false (sym h))
starts_item o EndLine rest h i = refl
starts_item o (Break place nesting) rest h i = refl
starts_item o OneSpace rest h i = refl
starts_item o (Open w) rest h i = refl
starts_item o (OpenSpace w) rest h i = refl
starts_item o (OpenPlain w) rest h i = refl
starts_item o OpenUnnamed rest h i = refl
starts_item o (OpenTypeSpace w) rest h i = refl
starts_item o (OpenAnnotation w) rest h i = refl
starts_item o (OpenAnnotationSpace w) rest h i = refl
starts_item o (OpenAnnotationWord w) rest h i = refl
starts_item o CloseParen rest h i = refl
starts_item o (Word w) rest h i = begins_item-word w [] rest i
starts_item o (TypeWord w) rest h i = begins_item-word w [] rest i
starts_item o (TypeWordSpace w) rest h i =
    ap (λ t. begins_item (t ++ rest)) (append-nil (w ++ (32 ∷ []))) ∙ begins_item-word w (32 ∷ []) rest i
starts_item o (SpaceTypeWord w) rest h i = refl
starts_item o (Number n) rest h i = begins_item-word (decimal n) [] rest (is_word-decimal n i)
starts_item o (Constant z) rest h i = refl
starts_item o (Literals w ws) rest h i =
    ap (λ t. begins_item (t ++ rest)) (append-nil (w ++ after_spaces ws))
    ∙ begins_item-word w (after_spaces ws) rest (and_parts (is_word w) (are_words ws) i).0
starts_item o (SpaceLiterals ws) rest h i = absurd (true≢false (sym h))
starts_item o (Float w bits) rest h i = absurd (true≢false (sym h))
starts_item o (IndexComment n) rest h i = refl
starts_item o BeginName rest h i = absurd (true≢false (sym h))
starts_item o EndStyle rest h i = absurd (true≢false (sym h))
starts_item o (Quoted cs) rest h i = refl
starts_item o (QuotedBytes bs) rest h i = refl
starts_item o (Identifier cs) rest h i = refl
starts_item o (NameAnnotation cs) rest h i = refl
starts_item o (BlockComment true s) rest h i = refl
starts_item o (BlockComment false s) rest h i = refl
starts_item o (LineComment s) rest h i = absurd (true≢false (sym h))
starts_item o (PlainLineComment s) rest h i = absurd (true≢false (sym h))
starts_item o (HintAnnotation taken) rest h i = refl
starts_item o (Claimed name place bytes answer) rest h i = absurd (true≢false (sym h))

feeds_ends_line : (o : Options) (p : Piece) (rest : List ℕ) → feeds p ≡ true → ends_line (text o p ++ rest) ≡ true
unfolding class
feeds_ends_line o EndLine rest h = refl
feeds_ends_line o (Break place nesting) rest h = refl
feeds_ends_line o _ rest h = absurd (true≢false (sym h))

-- ---- sequences of pieces

abbrev pub all_text : Options → List Piece → List ℕ
all_text o [] = []
all_text o (p ∷ ps) = text o p ++ all_text o ps

pub text_of-all_calls : (o : Options) (ps : List Piece) → text_of (all_calls o ps) ≡ all_text o ps
text_of-all_calls o [] = refl
text_of-all_calls o (p ∷ ps) = text_of-append (calls o p) (all_calls o ps) ∙ ap (λ t. text o p ++ t) (text_of-all_calls o ps)

follows_first : (o : Options) (e : Edge) (ps : List Piece) → pieces_follow e ps ≡ true → ArePieces ps → follows e (all_text o ps) ≡ true
follows_first o Free ps h a = refl
follows_first o Bound [] h a = refl
follows_first o Bound (p ∷ ps) h a =
    let parts : (begins p ≡ true) × (pieces_follow (leaves p) ps ≡ true) = and_parts (begins p) (pieces_follow (leaves p) ps) h in
    begins_delimited o p (all_text o ps) parts.0 (follows_first o (leaves p) ps parts.1 a.1)
follows_first o Opened [] h a = refl
follows_first o Opened (p ∷ ps) h a = starts_item o p (all_text o ps) (and_parts (starts p) (pieces_follow (leaves p) ps) h).0 a.0
follows_first o Ended [] h a = refl
follows_first o Ended (p ∷ ps) h a = feeds_ends_line o p (all_text o ps) (and_parts (feeds p) (pieces_follow (leaves p) ps) h).0

pub pieces_lex : (o : Options) → IsBlank o.indent → (e : Edge) (ps : List Piece) → pieces_follow e ps ≡ true → ArePieces ps → lex Clear (all_text o ps) ≡ all_tokens ps
unfolding lex
pieces_lex o spaces e [] h a = refl
pieces_lex o spaces e (p ∷ ps) h a =
    let parts : (may_follow e p ≡ true) × (pieces_follow (leaves p) ps ≡ true) = and_parts (may_follow e p) (pieces_follow (leaves p) ps) h in
    piece_lexes o (all_blank-IsBlank o.indent spaces) p (all_text o ps) a.0 (follows_first o (leaves p) ps parts.1 a.1)
    ∙ ap (λ t. piece_tokens p ++ t) (pieces_lex o spaces (leaves p) ps parts.1 a.1)
