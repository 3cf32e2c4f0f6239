-- The text of pieces is plain.
use Rattle.std.proofs.Common.{◌≡◌, ℕ, zero, suc, ◌<◌, ◌-◌, ◌/◌, ◌%◌, Bool, true, false, ◌&&◌, ◌||◌, not, min, cond, leb, eqb, List, [], ◌∷◌, ◌++◌, Option, Some, None, refl, ap, ◌∙◌, arith, append_assoc, codes, decimal, flat_map, replicate, length, lit<}
use Rattle.std.proofs.lemmas.Bool.{and_parts, and_from, or_right}
use Rattle.std.specs.Fmt.{signed_decimal, digits, digit_glyph}
use Rattle.std.specs.List.{AllByRecursion}
use Rattle.wasmprinter_spec.specs.Call.{Text, text_of}
use Rattle.wasmprinter_spec.specs.Options.{Options, IsBlank}
use Rattle.wasmprinter_spec.specs.Plain.{IsPlainText}
use Rattle.wasmprinter_spec.specs.Quoted.{char_text, byte_text, is_plain, quoted_text, quoted_bytes, is_id, identifier_text}
use Rattle.wasmprinter_spec.specs.Piece.{Piece, Begin, EndLine, Break, OneSpace, Open, OpenSpace, OpenPlain, OpenUnnamed, OpenTypeSpace, OpenAnnotation, OpenAnnotationSpace, OpenAnnotationWord, CloseParen, Word, TypeWord, TypeWordSpace, SpaceTypeWord, Number, Constant, Literals, SpaceLiterals, Float, IndexComment, BeginName, EndStyle, Quoted, QuotedBytes, Identifier, NameAnnotation, BlockComment, LineComment, PlainLineComment, HintAnnotation, Claimed, flag_byte, after_spaces, repetition_of, left_in, place_text, place_calls, most_indents, text, all_calls}
use Rattle.wasmprinter_spec.proofs.Texts.{text_of-append}
use Rattle.wasmprinter_laws.proofs.Tokens.Runs.{is_word, are_words}
use Rattle.wasmprinter_laws.proofs.Tokens.Numbers.{is_word-decimal, is_word-signed_decimal}
use Rattle.wasmprinter_laws.proofs.Tokens.FloatPieces.{printed_float}
use Rattle.wasmprinter_laws.proofs.Tokens.Printed.{is_printed, all_printed, all_printed-append, all_printed-spaces, printed_word, glyph_is_good, hex_digits_are_good, remark}
use Rattle.wasmprinter_laws.proofs.Tokens.Identifiers.{run_is_printed}
use Rattle.wasmprinter_laws.proofs.Tokens.Plain.{plain_text}
use Rattle.wasmprinter_laws.proofs.Tokens.Pieces.{IsPiece, ArePieces, all_text, text_of-all_calls, all_blank-IsBlank, all_blank-repetition_of}

-- ---- parts of texts

printed_plain : (c : ℕ) → is_plain c ≡ true → is_printed c ≡ true
printed_plain c h =
    let a : ((leb 32 c && leb c 126 && not (eqb c 34)) ≡ true) × (not (eqb c 92) ≡ true) = and_parts _ _ h in
    let b : ((leb 32 c && leb c 126) ≡ true) × (not (eqb c 34) ≡ true) = and_parts _ _ a.0 in
    or_right (eqb c 10 || eqb c 9) (leb 32 c && leb c 126) b.0

printed_char : (c : ℕ) → all_printed (char_text c) ≡ true
unfolding char_text
printed_char c = by (is_plain c) refl
  where
    by : (t : Bool) → is_plain c ≡ t → all_printed (cond t (c ∷ []) (92 ∷ (117 ∷ (123 ∷ (digits 16 false c ++ (125 ∷ [])))))) ≡ true
    by true e = and_from (is_printed c) true (printed_plain c e) refl
    by false e = all_printed-append (digits 16 false c) (125 ∷ []) (hex_digits_are_good c).0 refl

printed_chars : (cs rest : List ℕ) → all_printed rest ≡ true → all_printed (flat_map char_text cs ++ rest) ≡ true
printed_chars [] rest h = h
printed_chars (c ∷ cs) rest h =
    ap all_printed (append_assoc (char_text c) (flat_map char_text cs) rest)
    ∙ all_printed-append (char_text c) (flat_map char_text cs ++ rest) (printed_char c) (printed_chars cs rest h)

printed_quoted : (cs : List ℕ) → all_printed (quoted_text cs) ≡ true
unfolding quoted_text
printed_quoted cs = printed_chars cs (34 ∷ []) refl

printed_byte : (b : ℕ) → b < 256 → all_printed (byte_text b) ≡ true
unfolding byte_text
printed_byte b h = by (is_plain b) refl
  where
    by : (t : Bool) → is_plain b ≡ t → all_printed (cond t (b ∷ []) (92 ∷ (digit_glyph false (b / 16) ∷ (digit_glyph false (b % 16) ∷ [])))) ≡ true
    by true e = and_from (is_printed b) true (printed_plain b e) refl
    by false e =
        and_from (is_printed (digit_glyph false (b / 16))) (is_printed (digit_glyph false (b % 16)) && true) (glyph_is_good (b / 16) (omega arith)).0
        (and_from (is_printed (digit_glyph false (b % 16))) true (glyph_is_good (b % 16) (omega arith)).0 refl)

printed_bytes : (bs rest : List ℕ) → AllByRecursion (λ b. b < 256) bs → all_printed rest ≡ true → all_printed (flat_map byte_text bs ++ rest) ≡ true
printed_bytes [] rest h k = k
printed_bytes (b ∷ bs) rest h k =
    ap all_printed (append_assoc (byte_text b) (flat_map byte_text bs) rest)
    ∙ all_printed-append (byte_text b) (flat_map byte_text bs ++ rest) (printed_byte b h.0) (printed_bytes bs rest h.1 k)

printed_quoted_bytes : (bs : List ℕ) → AllByRecursion (λ b. b < 256) bs → all_printed (quoted_bytes bs) ≡ true
unfolding quoted_bytes
printed_quoted_bytes bs h = printed_bytes bs (34 ∷ []) h refl

printed_words : (ws : List (List ℕ)) → are_words ws ≡ true → all_printed (after_spaces ws) ≡ true
printed_words [] h = refl
printed_words (w ∷ ws) h =
    let parts : (is_word w ≡ true) × (are_words ws ≡ true) = and_parts (is_word w) (are_words ws) h in
    all_printed-append w (after_spaces ws) (printed_word w parts.0) (printed_words ws parts.1)

printed_identifier : (cs : List ℕ) → all_printed (identifier_text cs) ≡ true
unfolding identifier_text
printed_identifier cs = by (is_id cs) refl
  where
    by : (t : Bool) → is_id cs ≡ t → all_printed (cond t cs (quoted_text cs)) ≡ true
    by true e = run_is_printed cs e
    by false e = printed_quoted cs

printed_blanks : (n : ℕ) → all_printed (replicate n 32) ≡ true
printed_blanks zero = refl
printed_blanks (suc n) = printed_blanks n

printed_place : (place : Option ℕ) → all_printed (place_text place) ≡ true
unfolding place_text left_in
printed_place (Some p) =
    all_printed-append (digits 16 false p ++ replicate (6 - length (digits 16 false p)) 32) (codes ";)")
    (all_printed-append (digits 16 false p) (replicate (6 - length (digits 16 false p)) 32) (hex_digits_are_good p).0 (printed_blanks (6 - length (digits 16 false p)))) refl
printed_place None = refl

printed_place_calls : (offsets : Bool) (place : Option ℕ) → all_printed (text_of (place_calls offsets place)) ≡ true
printed_place_calls false place = refl
printed_place_calls true (Some p) = all_printed-append (place_text (Some p)) [] (printed_place (Some p)) refl
printed_place_calls true None = all_printed-append (place_text None) [] (printed_place None) refl

-- ---- pieces

flag_is_byte : (taken : Bool) → flag_byte taken < 256
flag_is_byte true = lit< tt
flag_is_byte false = lit< tt

printed_styled : (w : List ℕ) → all_printed w ≡ true → all_printed (w ++ []) ≡ true
printed_styled w h = all_printed-append w [] h refl

module _ (o : Options) (spaces : IsBlank o.indent) where
  printed_piece : (p : Piece) → IsPiece p → all_printed (text o p) ≡ true
  printed_piece (Begin place) h = refl
  printed_piece EndLine h = refl
  printed_piece (Break place nesting) h =
      ap all_printed (text_of-append (place_calls o.offsets place) (Text (repetition_of (min nesting most_indents) o.indent) ∷ []))
      ∙ all_printed-append (text_of (place_calls o.offsets place)) (repetition_of (min nesting most_indents) o.indent ++ [])
      (printed_place_calls o.offsets place)
      (printed_styled (repetition_of (min nesting most_indents) o.indent)
      (all_printed-spaces (repetition_of (min nesting most_indents) o.indent) (all_blank-repetition_of (min nesting most_indents) o.indent (all_blank-IsBlank o.indent spaces))))
  printed_piece OneSpace h = refl
  printed_piece (Open w) h = printed_styled w (printed_word w h)
  printed_piece (OpenSpace w) h = printed_styled (w ++ (32 ∷ [])) (all_printed-append w (32 ∷ []) (printed_word w h) refl)
  printed_piece (OpenPlain w) h = printed_styled w (printed_word w h)
  printed_piece OpenUnnamed h = refl
  printed_piece (OpenTypeSpace w) h = printed_styled (w ++ (32 ∷ [])) (all_printed-append w (32 ∷ []) (printed_word w h) refl)
  printed_piece (OpenAnnotation w) h = printed_styled w (run_is_printed w h)
  printed_piece (OpenAnnotationSpace w) h = printed_styled (w ++ (32 ∷ [])) (all_printed-append w (32 ∷ []) (run_is_printed w h) refl)
  printed_piece (OpenAnnotationWord w) h = printed_styled w (run_is_printed w h)
  printed_piece CloseParen h = refl
  printed_piece (Word w) h = printed_styled w (printed_word w h)
  printed_piece (TypeWord w) h = printed_styled w (printed_word w h)
  printed_piece (TypeWordSpace w) h = printed_styled (w ++ (32 ∷ [])) (all_printed-append w (32 ∷ []) (printed_word w h) refl)
  printed_piece (SpaceTypeWord w) h = printed_styled w (printed_word w h)
  printed_piece (Number n) h = printed_styled (decimal n) (printed_word (decimal n) (is_word-decimal n h))
  printed_piece (Constant z) h = printed_styled (signed_decimal z) (printed_word (signed_decimal z) (is_word-signed_decimal z h))
  printed_piece (Literals w ws) h =
      let parts : (is_word w ≡ true) × (are_words ws ≡ true) = and_parts (is_word w) (are_words ws) h in
      printed_styled (w ++ after_spaces ws) (all_printed-append w (after_spaces ws) (printed_word w parts.0) (printed_words ws parts.1))
  printed_piece (SpaceLiterals ws) h = printed_styled (after_spaces ws) (printed_words ws h)
  printed_piece (Float w bits) h = printed_float w h.0 bits h.1
  printed_piece BeginName h = refl
  printed_piece EndStyle h = refl
  printed_piece (IndexComment n) h =
      printed_styled (decimal n ++ codes ";)") (all_printed-append (decimal n) (codes ";)") (printed_word (decimal n) (is_word-decimal n h)) refl)
  printed_piece (Quoted cs) h = printed_styled (quoted_text cs) (printed_quoted cs)
  printed_piece (QuotedBytes bs) h = printed_styled (quoted_bytes bs) (printed_quoted_bytes bs h)
  printed_piece (Identifier cs) h = printed_styled (identifier_text cs) (printed_identifier cs)
  printed_piece (NameAnnotation cs) h = printed_chars cs (codes "\")") refl
  printed_piece (BlockComment true s) h = printed_styled (s ++ codes ";)") (all_printed-append s (codes ";)") (remark s h).printed refl)
  printed_piece (BlockComment false s) h = printed_styled (s ++ codes ";)") (all_printed-append s (codes ";)") (remark s h).printed refl)
  printed_piece (LineComment s) h = printed_styled s (remark s h).printed
  printed_piece (PlainLineComment s) h = printed_styled s (remark s h).printed
  printed_piece (HintAnnotation taken) h =
      printed_styled (quoted_bytes (flag_byte taken ∷ []) ++ codes ")")
      (all_printed-append (quoted_bytes (flag_byte taken ∷ [])) (codes ")") (printed_quoted_bytes (flag_byte taken ∷ []) (flag_is_byte taken, tt)) refl)
  printed_piece (Claimed name place bytes answer) h = refl

  printed_pieces : (ps : List Piece) → ArePieces ps → all_printed (all_text o ps) ≡ true
  printed_pieces [] h = refl
  printed_pieces (p ∷ ps) h = all_printed-append (text o p) (all_text o ps) (printed_piece p h.0) (printed_pieces ps h.1)

  text_is_printed : (ps : List Piece) → ArePieces ps → all_printed (text_of (all_calls o ps)) ≡ true
  text_is_printed ps h = ap all_printed (text_of-all_calls o ps) ∙ printed_pieces ps h

  pub text_is_plain : (ps : List Piece) → ArePieces ps → IsPlainText (text_of (all_calls o ps))
  text_is_plain ps h = plain_text _ (text_is_printed ps h)
