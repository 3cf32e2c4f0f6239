-- The items that pieces read as. `WritesNoted a ps b f k`: the pieces `ps`, or others with the same text, may
-- follow the edge `a` and leave the edge `b`. Their tokens are those of the items `k`, with annotations without a
-- meaning after identifiers; `f` is `k` without its annotations. `Writes a ps b f`: `k` has no annotations. There
-- is one rule for each piece and each kind of group; `search writing` finds whole derivations.
use Rattle.std.proofs.Common.{◌≡◌, ℕ, ℤ, ◌<◌, ◌*◌, ◌^◌, Bool, true, false, ◌||◌, List, [], ◌∷◌, ◌++◌, Option, Some, None, refl, sym, ap, ap₂, ◌∙◌, append_assoc, append-nil, decimal, codes, subst, encode_utf8_all}
use Rattle.std.proofs.lemmas.Bool.{and_parts, and_from, or_right}
use Rattle.std.specs.Fmt.{signed_decimal}
use Rattle.std.specs.Int.Signed.{mag}
use Rattle.std.specs.List.{AllByRecursion}
use Rattle.std.proofs.Math.Utf8.{scalars}
use Rattle.wasmprinter_spec.specs.Call.{text_of}
use Rattle.wasmprinter_spec.specs.Float.{Width, IsWidth, sign_bit}
use Rattle.wasmprinter_spec.specs.FloatText.{float_text}
use Rattle.wasmprinter_spec.specs.Options.{Options, IsBlank}
use Rattle.wasmprinter_spec.specs.Quoted.{is_id}
use Rattle.wasmprinter_spec.specs.Token.{open_paren, open_annotation, close_paren, word, name, string, is_name, tokens}
use Rattle.wasmprinter_spec.specs.Forest.{Forest, End, Word, Name, String, Group, Note, flat, onto, without_annotations, forest, the_one, grow}
use Rattle.wasmprinter_spec.specs.Piece as piece
use Rattle.wasmprinter_spec.specs.Piece.{Piece, Begin, EndLine, Break, OneSpace, Open, OpenSpace, OpenPlain, OpenUnnamed, OpenTypeSpace, OpenAnnotation, OpenAnnotationSpace, OpenAnnotationWord, CloseParen, TypeWord, TypeWordSpace, SpaceTypeWord, Number, Constant, Literals, SpaceLiterals, Float, IndexComment, BeginName, EndStyle, Quoted, QuotedBytes, Identifier, NameAnnotation, BlockComment, LineComment, PlainLineComment, HintAnnotation, Claimed, flag_byte, word_tokens, all_calls, all_tokens, piece_tokens}
use Rattle.wasmprinter_spec.specs.Layout.Groups.{group, group_space, line_group_space, group_at, group_space_at, line_group, close, has_break}
use Rattle.wasmprinter_laws.proofs.Tokens.Runs.{is_word, are_words}
use Rattle.wasmprinter_laws.proofs.Tokens.Grown.{flat-onto, one-flat, without_annotations-onto}
use Rattle.wasmprinter_laws.proofs.Tokens.Noted.{Noted, no_items, a_word, a_name, a_noted_name, a_string, a_group, a_note, noted-same, noted-onto}
use Rattle.wasmprinter_laws.proofs.Tokens.Notes.{Beginning, InGroup, InNote, beginning_tokens, beginning, run_tokens}
use Rattle.wasmprinter_laws.proofs.Tokens.Printed.{is_remark}
use Rattle.wasmprinter_laws.proofs.Tokens.Pieces.{Edge, Free, Bound, Opened, Ended, begins, feeds, leaves, may_follow, pieces_follow, IsPiece, ArePieces, text_of-all_calls, pieces_lex}
use Rattle.wasmprinter_laws.proofs.Tokens.Respelled.{Respelled, same_spelled, first_spelled, both_spelled, then_spelled, all_lexed, pieces_lexed}

pub record WritesNoted (a : Edge) (ps : List Piece) (b : Edge) (f k : Forest) : Type 0 where
  pub printed : List Piece
  pub spelled : Respelled ps printed
  pub joins : (qs : List Piece) → pieces_follow b qs ≡ true → pieces_follow a (printed ++ qs) ≡ true
  pub are : ArePieces printed
  pub whole : Forest
  pub tokens : all_tokens printed ≡ flat whole
  pub noted : Noted whole k
  pub without : without_annotations k ≡ f

-- The items of the pieces have no annotations with a meaning.
abbrev pub Writes : Edge → List Piece → Edge → Forest → Type 0
Writes a ps b f = WritesNoted a ps b f f

-- ---- consequences

-- The tokens of the texts of the pieces are those of the pieces with the same text.
pub writes_lexed : {a b : Edge} {ps : List Piece} {f k : Forest} (w : WritesNoted a ps b f k) → all_lexed ps ≡ all_tokens w.printed
writes_lexed w = w.spelled.tokens ∙ pieces_lexed w.printed w.are

-- The text of the pieces is that of the pieces with the same text.
pub writes_text : {a b : Edge} {f k : Forest} (o : Options) (ps : List Piece) (w : WritesNoted a ps b f k) → text_of (all_calls o ps) ≡ text_of (all_calls o w.printed)
writes_text o ps w = text_of-all_calls o ps ∙ w.spelled.text o ∙ sym (text_of-all_calls o w.printed)

-- If each piece may follow the one before it, the text of pieces lexes to their tokens.
pub pieces_tokens : (o : Options) → IsBlank o.indent → (ps : List Piece) → pieces_follow Free ps ≡ true → ArePieces ps → tokens (text_of (all_calls o ps)) ≡ all_tokens ps
pieces_tokens o spaces ps j a = ap tokens (text_of-all_calls o ps) ∙ pieces_lex o spaces Free ps j a

pub writes_joined : {a b : Edge} {ps : List Piece} {f k : Forest} (w : WritesNoted a ps b f k) → pieces_follow a w.printed ≡ true
writes_joined {a = a} w = subst (λ t. pieces_follow a t ≡ true) (append-nil w.printed) (w.joins [] refl)

pub writes_tokens : {b : Edge} {f k : Forest} (o : Options) → IsBlank o.indent → (ps : List Piece) (w : WritesNoted Free ps b f k) → tokens (text_of (all_calls o ps)) ≡ all_tokens w.printed
writes_tokens o spaces ps w = ap tokens (writes_text o ps w) ∙ pieces_tokens o spaces w.printed (writes_joined w) w.are

-- Pieces may be replaced by pieces with the same text and tokens.
pub respelled_write : {a b : Edge} {ps qs : List Piece} {f k : Forest} → Respelled qs ps → WritesNoted a ps b f k → WritesNoted a qs b f k
respelled_write s w = record {
  printed = w.printed;
  spelled = then_spelled s w.spelled;
  joins = w.joins;
  are = w.are;
  whole = w.whole;
  tokens = w.tokens;
  noted = w.noted;
  without = w.without;
}

-- The text of pieces grows into the items that they write.
pub writes_forest : {b : Edge} {f k : Forest} (o : Options) → IsBlank o.indent → (ps : List Piece) (w : WritesNoted Free ps b f k) → forest (text_of (all_calls o ps)) ≡ Some w.whole
writes_forest o spaces ps w =
    ap (λ t. the_one (grow t)) (writes_tokens o spaces ps w ∙ w.tokens) ∙ one-flat w.whole

-- ---- joined pieces

pub all_tokens-append : (ps qs : List Piece) → all_tokens (ps ++ qs) ≡ all_tokens ps ++ all_tokens qs
all_tokens-append [] qs = refl
all_tokens-append (p ∷ ps) qs = ap (λ t. piece_tokens p ++ t) (all_tokens-append ps qs) ∙ sym (append_assoc (piece_tokens p) (all_tokens ps) (all_tokens qs))

pub ArePieces-append : (ps qs : List Piece) → ArePieces ps → ArePieces qs → ArePieces (ps ++ qs)
ArePieces-append [] qs a b = b
ArePieces-append (p ∷ ps) qs a b = (a.0, ArePieces-append ps qs a.1 b)

-- If the edge that pieces leave is one that other pieces may follow, both together write the items of both.
pub both_write : {a b c : Edge} {ps qs : List Piece} {f g k h : Forest} → WritesNoted a ps b f k → WritesNoted b qs c g h → WritesNoted a (ps ++ qs) c (onto f g) (onto k h)
both_write {a = a} {k = k} {h = h} v w = record {
  printed = v.printed ++ w.printed;
  spelled = both_spelled v.spelled w.spelled;
  joins = λ rs j. subst (λ t. pieces_follow a t ≡ true) (sym (append_assoc v.printed w.printed rs)) (v.joins (w.printed ++ rs) (w.joins rs j));
  are = ArePieces-append v.printed w.printed v.are w.are;
  whole = onto v.whole w.whole;
  tokens = all_tokens-append v.printed w.printed ∙ ap (λ t. t ++ all_tokens w.printed) v.tokens ∙ ap (λ t. flat v.whole ++ t) w.tokens ∙ sym (flat-onto v.whole w.whole);
  without = without_annotations-onto k h ∙ ap₂ onto v.without w.without;
  noted = noted-onto v.noted w.noted;
}

-- ---- the rules for pieces (each holds for every edge for which it can, so a search never has a choice)

loosen : (b : Edge) (qs : List Piece) → pieces_follow b qs ≡ true → pieces_follow Free qs ≡ true
loosen b [] h = refl
loosen b (q ∷ qs) h = (and_parts (may_follow b q) (pieces_follow (leaves q) qs) h).1

-- Whether any token may follow on the same line, possibly after a delimiter
abbrev pub is_open : Edge → Bool
is_open Opened = false
is_open Ended = false
is_open _ = true

begins_all : (a : Edge) (p : Piece) → is_open a ≡ true → begins p ≡ true → may_follow a p ≡ true
begins_all Free p o b = refl
begins_all Bound p o b = b
begins_all Opened p o b = absurd cc
begins_all Ended p o b = absurd cc

feeds_all : (a : Edge) (p : Piece) → feeds p ≡ true → may_follow a p ≡ true
feeds_all Free p f = refl
feeds_all Bound EndLine f = refl
feeds_all Bound (Break place nesting) f = refl
feeds_all Bound _ f = absurd cc
feeds_all Opened EndLine f = refl
feeds_all Opened (Break place nesting) f = refl
feeds_all Opened _ f = absurd cc
feeds_all Ended p f = f

-- Pieces may also be used between other edges, if they may follow and leave these.
rejoined : {a b c d : Edge} {ps : List Piece} {f k : Forest} (w : WritesNoted a ps b f k) →
    ((qs : List Piece) → pieces_follow d qs ≡ true → pieces_follow c (w.printed ++ qs) ≡ true) → WritesNoted c ps d f k
rejoined w joins = record {
  printed = w.printed;
  spelled = w.spelled;
  joins = joins;
  are = w.are;
  whole = w.whole;
  tokens = w.tokens;
  without = w.without;
  noted = w.noted;
}

-- Pieces that may follow a word may follow anything. (In no set of rules, or a search would not terminate.)
pub loosened : {b : Edge} {ps : List Piece} {f k : Forest} → WritesNoted Bound ps b f k → WritesNoted Free ps b f k
loosened w = rejoined w (λ qs h. loosen Bound (w.printed ++ qs) (w.joins qs h))

-- The piece may follow this edge, before any pieces that may follow it.
abbrev MayStand : Edge → Piece → Type 0
MayStand a p = (ps : List Piece) → pieces_follow (leaves p) ps ≡ true → pieces_follow a (p ∷ ps) ≡ true

-- A piece that may follow a word may follow every edge at which the line goes on.
joins_anywhere : (a : Edge) (p : Piece) → is_open a ≡ true → begins p ≡ true → MayStand a p
joins_anywhere a p o b ps j = and_from (may_follow a p) (pieces_follow (leaves p) ps) (begins_all a p o b) j

-- The end of a line may follow every edge.
joins_line : (a : Edge) (p : Piece) → feeds p ≡ true → MayStand a p
joins_line a p f ps j = and_from (may_follow a p) (pieces_follow (leaves p) ps) (feeds_all a p f) j

-- Pieces that may follow an edge at which the line must end may follow every edge.
pub ended_joins : (a : Edge) (ps : List Piece) → pieces_follow Ended ps ≡ true → pieces_follow a ps ≡ true
ended_joins a [] j = refl
ended_joins a (p ∷ ps) j =
    let parts : (feeds p ≡ true) × (pieces_follow (leaves p) ps ≡ true) = and_parts (feeds p) (pieces_follow (leaves p) ps) j in
    joins_line a p parts.0 ps parts.1

pub nothing_writes : {a : Edge} → WritesNoted a [] a End End
nothing_writes = record { printed = []; spelled = same_spelled; joins = λ qs h. h; are = tt; whole = End; tokens = refl; without = refl; noted = no_items }

pub free_writes : {b : Edge} → WritesNoted Free [] b End End
free_writes {b = b} = record { printed = []; spelled = same_spelled; joins = λ qs h. loosen b qs h; are = tt; whole = End; tokens = refl; without = refl; noted = no_items }

-- The rule for a piece that may follow this edge. It turns the items after it into the items `around` them; `kept`
-- gives these without annotations.
piece_writes : {a b : Edge} {ps : List Piece} {f k : Forest} (p : Piece) (around kept : Forest → Forest) → IsPiece p → MayStand a p →
    ((g : Forest) → piece_tokens p ++ flat g ≡ flat (around g)) → ((g h : Forest) → Noted g h → Noted (around g) (around h)) →
    ((g : Forest) → without_annotations (around g) ≡ kept (without_annotations g)) →
    WritesNoted (leaves p) ps b f k → WritesNoted a (p ∷ ps) b (kept f) (around k)
piece_writes {k = k} p around kept is stands shows notes cuts w = record {
  printed = p ∷ w.printed;
  spelled = first_spelled p w.spelled;
  joins = λ qs h. stands (w.printed ++ qs) (w.joins qs h);
  are = (is, w.are);
  whole = around w.whole;
  tokens = ap (λ t. piece_tokens p ++ t) w.tokens ∙ shows w.whole;
  noted = notes w.whole k w.noted;
  without = cuts k ∙ ap kept w.without;
}

-- The rule for a piece that is no item
silent_writes : {a b : Edge} {ps : List Piece} {f k : Forest} (p : Piece) → IsPiece p → MayStand a p → piece_tokens p ≡ [] →
    WritesNoted (leaves p) ps b f k → WritesNoted a (p ∷ ps) b f k
silent_writes p is stands none w = piece_writes p (λ g. g) (λ g. g) is stands (λ g. ap (λ t. t ++ flat g) none) (λ g h n. n) (λ g. refl) w

-- The rule for a piece that is one word
one_word_writes : {a b : Edge} {ps : List Piece} {f k : Forest} (p : Piece) (v : List ℕ) → IsPiece p → MayStand a p → piece_tokens p ≡ word v ∷ [] →
    WritesNoted (leaves p) ps b f k → WritesNoted a (p ∷ ps) b (Word v f) (Word v k)
one_word_writes p v is stands one w = piece_writes p (Word v) (Word v) is stands (λ g. ap (λ t. t ++ flat g) one) (λ g h n. a_word n) (λ g. refl) w

-- The rule for a piece that is one string
one_string_writes : {a b : Edge} {ps : List Piece} {f k : Forest} (p : Piece) (s : List ℕ) → IsPiece p → MayStand a p → piece_tokens p ≡ string s ∷ [] →
    WritesNoted (leaves p) ps b f k → WritesNoted a (p ∷ ps) b (String s f) (String s k)
one_string_writes p s is stands one w = piece_writes p (String s) (String s) is stands (λ g. ap (λ t. t ++ flat g) one) (λ g h n. a_string n) (λ g. refl) w

pub begin_writes : {b : Edge} {place : ℕ} {ps : List Piece} {f k : Forest} → WritesNoted Free ps b f k → WritesNoted Free (Begin place ∷ ps) b f k
begin_writes {place = place} w = silent_writes (Begin place) tt (λ qs j. j) refl w

pub feed_writes : {a b : Edge} {ps : List Piece} {f k : Forest} → WritesNoted Free ps b f k → WritesNoted a (EndLine ∷ ps) b f k
feed_writes {a = a} w = silent_writes EndLine tt (joins_line a EndLine refl) refl w

pub break_writes : {a b : Edge} {place : Option ℕ} {nesting : ℕ} {ps : List Piece} {f k : Forest} → WritesNoted Free ps b f k → WritesNoted a (Break place nesting ∷ ps) b f k
break_writes {a = a} {place = place} {nesting = nesting} w = silent_writes (Break place nesting) tt (joins_line a (Break place nesting) refl) refl w

pub one_space_writes : {a b : Edge} {ps : List Piece} {f k : Forest} → is_open a ≡ true → WritesNoted Free ps b f k → WritesNoted a (OneSpace ∷ ps) b f k
one_space_writes {a = a} e w = silent_writes OneSpace tt (joins_anywhere a OneSpace e refl) refl w

pub number_remark_writes : {a b : Edge} {n : ℕ} {ps : List Piece} {f k : Forest} → is_open a ≡ true → n < 2 ^ 64 → WritesNoted Free ps b f k → WritesNoted a (IndexComment n ∷ ps) b f k
number_remark_writes {a = a} {n = n} e h w = silent_writes (IndexComment n) h (joins_anywhere a (IndexComment n) e refl) refl w

-- The start of the style of names has no text and is no item.
pub begin_name_writes : {b : Edge} {ps : List Piece} {f k : Forest} → WritesNoted Free ps b f k → WritesNoted Free (BeginName ∷ ps) b f k
begin_name_writes w = silent_writes BeginName tt (λ qs j. j) refl w

pub end_style_writes : {a b : Edge} {ps : List Piece} {f k : Forest} → is_open a ≡ true → WritesNoted Bound ps b f k → WritesNoted a (EndStyle ∷ ps) b f k
end_style_writes {a = a} e w = silent_writes EndStyle tt (joins_anywhere a EndStyle e refl) refl w

pub word_writes : {b : Edge} {v : List ℕ} {ps : List Piece} {f k : Forest} → is_word v ≡ true → WritesNoted Bound ps b f k → WritesNoted Free (piece.Word v ∷ ps) b (Word v f) (Word v k)
word_writes {v = v} h w = one_word_writes (piece.Word v) v h (λ qs j. j) refl w

pub type_word_writes : {b : Edge} {v : List ℕ} {ps : List Piece} {f k : Forest} → is_word v ≡ true → WritesNoted Bound ps b f k → WritesNoted Free (TypeWord v ∷ ps) b (Word v f) (Word v k)
type_word_writes {v = v} h w = one_word_writes (TypeWord v) v h (λ qs j. j) refl w

pub number_writes : {b : Edge} {n : ℕ} {ps : List Piece} {f k : Forest} → n < 2 ^ 64 → WritesNoted Bound ps b f k → WritesNoted Free (Number n ∷ ps) b (Word (decimal n) f) (Word (decimal n) k)
number_writes {n = n} h w = one_word_writes (Number n) (decimal n) h (λ qs j. j) refl w

pub constant_writes : {a b : Edge} {z : ℤ} {ps : List Piece} {f k : Forest} → is_open a ≡ true → mag z < 2 ^ 63 → WritesNoted Bound ps b f k → WritesNoted a (Constant z ∷ ps) b (Word (signed_decimal z) f) (Word (signed_decimal z) k)
constant_writes {a = a} {z = z} e h w = one_word_writes (Constant z) (signed_decimal z) h (joins_anywhere a (Constant z) e refl) refl w

pub type_word_space_writes : {b : Edge} {v : List ℕ} {ps : List Piece} {f k : Forest} → is_word v ≡ true → WritesNoted Free ps b f k →
    WritesNoted Free (TypeWordSpace v ∷ ps) b (Word v f) (Word v k)
type_word_space_writes {v = v} h w = one_word_writes (TypeWordSpace v) v h (λ qs j. j) refl w

pub space_type_word_writes : {a b : Edge} {v : List ℕ} {ps : List Piece} {f k : Forest} → is_open a ≡ true → is_word v ≡ true → WritesNoted Bound ps b f k →
    WritesNoted a (SpaceTypeWord v ∷ ps) b (Word v f) (Word v k)
space_type_word_writes {a = a} {v = v} e h w = one_word_writes (SpaceTypeWord v) v h (joins_anywhere a (SpaceTypeWord v) e refl) refl w

-- Words, followed by other items
abbrev pub words_before : List (List ℕ) → Forest → Forest
words_before [] f = f
words_before (v ∷ vs) f = Word v (words_before vs f)

words_before-flat : (vs : List (List ℕ)) (f : Forest) → flat (words_before vs f) ≡ word_tokens vs ++ flat f
words_before-flat [] f = refl
words_before-flat (v ∷ vs) f = ap (λ t. word v ∷ t) (words_before-flat vs f)

words_before-without_annotations : (vs : List (List ℕ)) (f : Forest) → without_annotations (words_before vs f) ≡ words_before vs (without_annotations f)
words_before-without_annotations [] f = refl
words_before-without_annotations (v ∷ vs) f = ap (Word v) (words_before-without_annotations vs f)

noted-words : {f k : Forest} (vs : List (List ℕ)) → Noted f k → Noted (words_before vs f) (words_before vs k)
noted-words [] n = n
noted-words (v ∷ vs) n = a_word (noted-words vs n)

-- The rule for a piece that consists of these words
words_writes : {a b : Edge} {ps : List Piece} {f k : Forest} (p : Piece) (vs : List (List ℕ)) → IsPiece p → MayStand a p → piece_tokens p ≡ word_tokens vs →
    WritesNoted (leaves p) ps b f k → WritesNoted a (p ∷ ps) b (words_before vs f) (words_before vs k)
words_writes p vs is stands they w =
    piece_writes p (words_before vs) (words_before vs) is stands (λ g. ap (λ t. t ++ flat g) they ∙ sym (words_before-flat vs g))
    (λ g h n. noted-words vs n) (words_before-without_annotations vs) w

pub literals_writes : {b : Edge} {v : List ℕ} {vs : List (List ℕ)} {ps : List Piece} {f k : Forest} → are_words (v ∷ vs) ≡ true → WritesNoted Bound ps b f k →
    WritesNoted Free (Literals v vs ∷ ps) b (Word v (words_before vs f)) (Word v (words_before vs k))
literals_writes {v = v} {vs = vs} h w = words_writes (Literals v vs) (v ∷ vs) h (λ qs j. j) refl w

pub space_literals_writes : {a b : Edge} {vs : List (List ℕ)} {ps : List Piece} {f k : Forest} → is_open a ≡ true → are_words vs ≡ true → WritesNoted Bound ps b f k →
    WritesNoted a (SpaceLiterals vs ∷ ps) b (words_before vs f) (words_before vs k)
space_literals_writes {a = a} {vs = vs} e h w = words_writes (SpaceLiterals vs) vs h (joins_anywhere a (SpaceLiterals vs) e refl) refl w

pub float_writes : {b : Edge} {width : Width} {bits : ℕ} {ps : List Piece} {f k : Forest} → IsWidth width → bits < 2 * sign_bit width → WritesNoted Bound ps b f k →
    WritesNoted Free (Float width bits ∷ ps) b (Word (float_text width bits) f) (Word (float_text width bits) k)
float_writes {width = width} {bits = bits} is h w = one_word_writes (Float width bits) (float_text width bits) (is, h) (λ qs j. j) refl w

pub quoted_writes : {b : Edge} {cs : List ℕ} {ps : List Piece} {f k : Forest} → scalars cs ≡ true → WritesNoted Bound ps b f k → WritesNoted Free (Quoted cs ∷ ps) b (String (encode_utf8_all cs) f) (String (encode_utf8_all cs) k)
quoted_writes {cs = cs} h w = one_string_writes (Quoted cs) (encode_utf8_all cs) h (λ qs j. j) refl w

pub quoted_bytes_writes : {b : Edge} {bs : List ℕ} {ps : List Piece} {f k : Forest} → AllByRecursion (λ x. x < 256) bs → WritesNoted Bound ps b f k →
    WritesNoted Free (QuotedBytes bs ∷ ps) b (String bs f) (String bs k)
quoted_bytes_writes {bs = bs} h w = one_string_writes (QuotedBytes bs) bs h (λ qs j. j) refl w

pub identifier_writes : {b : Edge} {cs : List ℕ} {ps : List Piece} {f k : Forest} → scalars cs ≡ true → is_name (encode_utf8_all cs) ≡ true → WritesNoted Bound ps b f k →
    WritesNoted Free (Identifier cs ∷ ps) b (Name (encode_utf8_all cs) f) (Name (encode_utf8_all cs) k)
identifier_writes {cs = cs} h n w =
    piece_writes (Identifier cs) (Name (encode_utf8_all cs)) (Name (encode_utf8_all cs)) (h, n) (λ qs j. j) (λ g. refl) (λ g h m. a_name m) (λ g. refl) w

-- The rule for an identifier with the annotation of the given name
pub noted_identifier_writes : {b : Edge} {cs ds : List ℕ} {ps : List Piece} {f k : Forest} → scalars cs ≡ true → is_name (encode_utf8_all cs) ≡ true → scalars ds ≡ true →
    WritesNoted Free ps b f k →
    WritesNoted Free (Identifier cs ∷ (OneSpace ∷ (NameAnnotation ds ∷ ps))) b (Name (encode_utf8_all cs) f) (Name (encode_utf8_all cs) k)
noted_identifier_writes {cs = cs} {ds = ds} h n d w = record {
  printed = Identifier cs ∷ (OneSpace ∷ (NameAnnotation ds ∷ w.printed));
  spelled = first_spelled (Identifier cs) (first_spelled OneSpace (first_spelled (NameAnnotation ds) w.spelled));
  joins = w.joins;
  are = ((h, n), (tt, (d, w.are)));
  whole = Name (encode_utf8_all cs) (Note (codes "name") (String (encode_utf8_all ds) End) w.whole);
  tokens = ap (λ t. name (encode_utf8_all cs) ∷ (open_annotation (codes "name") ∷ (string (encode_utf8_all ds) ∷ (close_paren ∷ t)))) w.tokens;
  without = ap (Name (encode_utf8_all cs)) w.without;
  noted = a_noted_name w.noted;
}

pub remark_writes : {a b : Edge} {t : Bool} {s : List ℕ} {ps : List Piece} {f k : Forest} → is_open a ≡ true → is_remark s ≡ true → WritesNoted Free ps b f k → WritesNoted a (BlockComment t s ∷ ps) b f k
remark_writes {a = a} {t = t} {s = s} e h w = silent_writes (BlockComment t s) h (joins_anywhere a (BlockComment t s) e refl) refl w

pub ending_writes : {a b : Edge} {s : List ℕ} {ps : List Piece} {f k : Forest} → is_open a ≡ true → is_remark s ≡ true → WritesNoted Ended ps b f k → WritesNoted a (LineComment s ∷ ps) b f k
ending_writes {a = a} {s = s} e h w = silent_writes (LineComment s) h (joins_anywhere a (LineComment s) e refl) refl w

pub plain_ending_writes : {a b : Edge} {s : List ℕ} {ps : List Piece} {f k : Forest} → is_open a ≡ true → is_remark s ≡ true → WritesNoted Ended ps b f k →
    WritesNoted a (PlainLineComment s ∷ ps) b f k
plain_ending_writes {a = a} {s = s} e h w = silent_writes (PlainLineComment s) h (joins_anywhere a (PlainLineComment s) e refl) refl w

-- ---- where a line must end (in no set of rules, or a search would not terminate)

-- Pieces that may follow an edge at which the line must end may follow every edge.
pub after_anything : {b : Edge} {ps : List Piece} {f k : Forest} (a : Edge) → WritesNoted Ended ps b f k → WritesNoted a ps b f k
after_anything a w = rejoined w (λ qs h. ended_joins a (w.printed ++ qs) (w.joins qs h))

-- The line may end after any pieces.
pub before_line : {a : Edge} {ps : List Piece} {f k : Forest} (b : Edge) → WritesNoted a ps b f k → WritesNoted a ps Ended f k
before_line b w = rejoined w (λ qs h. w.joins qs (ended_joins b qs h))

-- ---- after a parenthesis without a keyword

-- A word may follow a parenthesis without a keyword.
pub opened_word_writes : {b : Edge} {v : List ℕ} {ps : List Piece} {f k : Forest} → is_word v ≡ true → WritesNoted Bound ps b f k → WritesNoted Opened (piece.Word v ∷ ps) b (Word v f) (Word v k)
opened_word_writes {v = v} h w = one_word_writes (piece.Word v) v h (λ qs j. j) refl w

-- ---- groups

pub close_tokens : (place : Option ℕ) (nesting : ℕ) (t : Bool) → all_tokens (close place nesting t) ≡ close_paren ∷ []
close_tokens place nesting true = refl
close_tokens place nesting false = refl

-- If the line must end, a group closes on a line of its own.
abbrev pub may_close : Edge → Bool → Bool
may_close Ended t = t
may_close _ t = true

close_joins : (c : Edge) (place : Option ℕ) (nesting : ℕ) (t : Bool) (qs : List Piece) → may_close c t ≡ true → pieces_follow Free qs ≡ true → pieces_follow c (close place nesting t ++ qs) ≡ true
close_joins Free place nesting true qs m h = h
close_joins Free place nesting false qs m h = h
close_joins Bound place nesting true qs m h = h
close_joins Bound place nesting false qs m h = h
close_joins Opened place nesting true qs m h = h
close_joins Opened place nesting false qs m h = h
close_joins Ended place nesting true qs m h = h
close_joins Ended place nesting false qs m h = absurd cc

close_are : (place : Option ℕ) (nesting : ℕ) (t : Bool) → ArePieces (close place nesting t)
close_are place nesting true = (tt, (tt, tt))
close_are place nesting false = (tt, tt)

-- The start of a group or an annotation, which leaves this edge. It turns the items within into the items `around`
-- them; `kept` gives these without annotations.
record IsOpening (p : Piece) (a : Edge) (around kept : Forest → Forest) : Type 0 where
  delimits : begins p ≡ true
  leaves_it : leaves p ≡ a
  is : ArePieces (p ∷ [])
  opens : (f : Forest) → piece_tokens p ++ (flat f ++ (close_paren ∷ [])) ≡ flat (around f)
  notes : {f k : Forest} → Noted f k → Noted (around f) (around k)
  cuts : (k : Forest) → without_annotations (around k) ≡ kept (without_annotations k)

abbrev group_of : List ℕ → Forest → Forest
group_of v f = Group (Word v f) End

opening : (v : List ℕ) → is_word v ≡ true → IsOpening (Open v) Bound (group_of v) (group_of v)
opening v h = record { delimits = refl; leaves_it = refl; is = (h, tt); opens = λ f. refl; notes = λ n. a_group (a_word n) no_items; cuts = λ k. refl }

opening_space : (v : List ℕ) → is_word v ≡ true → IsOpening (OpenSpace v) Free (group_of v) (group_of v)
opening_space v h = record { delimits = refl; leaves_it = refl; is = (h, tt); opens = λ f. refl; notes = λ n. a_group (a_word n) no_items; cuts = λ k. refl }

opening_plain : (v : List ℕ) → is_word v ≡ true → IsOpening (OpenPlain v) Bound (group_of v) (group_of v)
opening_plain v h = record { delimits = refl; leaves_it = refl; is = (h, tt); opens = λ f. refl; notes = λ n. a_group (a_word n) no_items; cuts = λ k. refl }

opening_type : (v : List ℕ) → is_word v ≡ true → IsOpening (OpenTypeSpace v) Free (group_of v) (group_of v)
opening_type v h = record { delimits = refl; leaves_it = refl; is = (h, tt); opens = λ f. refl; notes = λ n. a_group (a_word n) no_items; cuts = λ k. refl }

opening_bare : IsOpening OpenUnnamed Opened (λ f. Group f End) (λ f. Group f End)
opening_bare = record { delimits = refl; leaves_it = refl; is = (tt, tt); opens = λ f. refl; notes = λ n. a_group n no_items; cuts = λ k. refl }

opening_note : (v : List ℕ) → is_id v ≡ true → IsOpening (OpenAnnotation v) Bound (λ f. Note v f End) (λ f. End)
opening_note v h = record { delimits = refl; leaves_it = refl; is = (h, tt); opens = λ f. refl; notes = λ n. a_note n no_items; cuts = λ k. refl }

opening_note_space : (v : List ℕ) → is_id v ≡ true → IsOpening (OpenAnnotationSpace v) Free (λ f. Note v f End) (λ f. End)
opening_note_space v h = record { delimits = refl; leaves_it = refl; is = (h, tt); opens = λ f. refl; notes = λ n. a_note n no_items; cuts = λ k. refl }

-- The items that result if a parenthesis and identifier characters come before these items
abbrev opened_items : Beginning → Forest → Forest
opened_items (InGroup f) g = Group (onto f g) End
opened_items (InNote id) g = Note id g End

abbrev opened_kept : Beginning → Forest → Forest
opened_kept (InGroup f) g = Group (onto (without_annotations f) g) End
opened_kept (InNote id) g = End

opened_flat : (x : Beginning) (f : Forest) → beginning_tokens x ++ (flat f ++ (close_paren ∷ [])) ≡ flat (opened_items x f)
opened_flat (InGroup g) f =
    ap (λ t. open_paren ∷ t) (sym (append_assoc (flat g) (flat f) (close_paren ∷ [])) ∙ ap (λ t. t ++ (close_paren ∷ [])) (sym (flat-onto g f)))
opened_flat (InNote id) f = refl

opened_noted : (x : Beginning) {f k : Forest} → Noted f k → Noted (opened_items x f) (opened_items x k)
opened_noted (InGroup g) n = a_group (noted-onto (noted-same g) n) no_items
opened_noted (InNote id) n = a_note n no_items

opened_cut : (x : Beginning) (k : Forest) → without_annotations (opened_items x k) ≡ opened_kept x (without_annotations k)
opened_cut (InGroup g) k = ap (λ f. Group f End) (without_annotations-onto g k)
opened_cut (InNote id) k = refl

opening_run : (v : List ℕ) → is_id v ≡ true → IsOpening (OpenAnnotationWord v) Bound (opened_items (beginning v)) (opened_kept (beginning v))
opening_run v h = record {
  delimits = refl;
  leaves_it = refl;
  is = (h, tt);
  opens = λ f. ap (λ t. t ++ (flat f ++ (close_paren ∷ []))) (run_tokens v h) ∙ opened_flat (beginning v) f;
  notes = opened_noted (beginning v);
  cuts = opened_cut (beginning v);
}

-- The rule for a start, the pieces within, and the closing parenthesis
closed_writes : {b e c : Edge} {f k : Forest} {around kept : Forest → Forest} (p : Piece) (place : Option ℕ) (nesting : ℕ) (t : Bool) (ps : List Piece) (a : Edge) →
    is_open a ≡ true → may_close c t ≡ true → IsOpening p e around kept → WritesNoted e ps c f k →
    WritesNoted a (p ∷ (ps ++ close place nesting t)) b (kept f) (around k)
closed_writes {b = b} {e = e} {c = c} {k = k} {around = around} {kept = kept} p place nesting t ps a o m i w = record {
  printed = p ∷ (w.printed ++ close place nesting t);
  spelled = first_spelled p (both_spelled w.spelled same_spelled);
  joins = λ qs g. joins_anywhere a p o i.delimits ((w.printed ++ close place nesting t) ++ qs)
      (subst (λ x. pieces_follow x ((w.printed ++ close place nesting t) ++ qs) ≡ true) (sym i.leaves_it)
      (subst (λ x. pieces_follow e x ≡ true) (sym (append_assoc w.printed (close place nesting t) qs))
      (w.joins (close place nesting t ++ qs) (close_joins c place nesting t qs m (loosen b qs g)))));
  are = (i.is.0, ArePieces-append w.printed (close place nesting t) w.are (close_are place nesting t));
  whole = around w.whole;
  tokens =
      ap (λ x. piece_tokens p ++ x)
      (all_tokens-append w.printed (close place nesting t)
      ∙ ap (λ x. x ++ all_tokens (close place nesting t)) w.tokens
      ∙ ap (λ x. flat w.whole ++ x) (close_tokens place nesting t))
      ∙ i.opens w.whole;
  noted = i.notes w.noted;
  without = i.cuts k ∙ ap kept w.without;
}

pub group_writes : {a b : Edge} (nesting : ℕ) (v : List ℕ) (ps : List Piece) {f k : Forest} → is_open a ≡ true → is_word v ≡ true → WritesNoted Bound ps Bound f k → WritesNoted a (group nesting v ps) b (Group (Word v f) End) (Group (Word v k) End)
unfolding group
group_writes {a = a} nesting v ps o h w = closed_writes (Open v) None nesting (has_break ps) ps a o refl (opening v h) w

pub group_space_writes : {a b : Edge} (nesting : ℕ) (v : List ℕ) (ps : List Piece) {f k : Forest} → is_open a ≡ true → is_word v ≡ true → WritesNoted Free ps Bound f k → WritesNoted a (group_space nesting v ps) b (Group (Word v f) End) (Group (Word v k) End)
unfolding group_space
group_space_writes {a = a} nesting v ps o h w = closed_writes (OpenSpace v) None nesting (has_break ps) ps a o refl (opening_space v h) w

-- The rule for a group without a keyword
pub bare_group_writes : {a b : Edge} (nesting : ℕ) (t : Bool) (ps : List Piece) {f k : Forest} → is_open a ≡ true → WritesNoted Opened ps Bound f k → WritesNoted a (OpenUnnamed ∷ (ps ++ close None nesting t)) b (Group f End) (Group k End)
bare_group_writes {a = a} nesting t ps o w = closed_writes OpenUnnamed None nesting t ps a o refl opening_bare w

pub group_at_writes : {a b : Edge} (offsets : Bool) (place nesting : ℕ) (v : List ℕ) (ps : List Piece) {f k : Forest} → is_open a ≡ true → is_word v ≡ true → WritesNoted Bound ps Bound f k → WritesNoted a (group_at offsets place nesting v ps) b (Group (Word v f) End) (Group (Word v k) End)
unfolding group_at
group_at_writes {a = a} offsets place nesting v ps o h w = closed_writes (Open v) (Some place) nesting (offsets || has_break ps) ps a o refl (opening v h) w

pub group_space_at_writes : {a b : Edge} (offsets : Bool) (place nesting : ℕ) (v : List ℕ) (ps : List Piece) {f k : Forest} → is_open a ≡ true → is_word v ≡ true → WritesNoted Free ps Bound f k → WritesNoted a (group_space_at offsets place nesting v ps) b (Group (Word v f) End) (Group (Word v k) End)
unfolding group_space_at
group_space_at_writes {a = a} offsets place nesting v ps o h w = closed_writes (OpenSpace v) (Some place) nesting (offsets || has_break ps) ps a o refl (opening_space v h) w

-- The rule for a group over several lines that ends where the line must end
pub ended_group_space_at_writes : {a b : Edge} (offsets : Bool) (place nesting : ℕ) (v : List ℕ) (ps : List Piece) {f k : Forest} → is_open a ≡ true → is_word v ≡ true → has_break ps ≡ true → WritesNoted Free ps Ended f k →
    WritesNoted a (group_space_at offsets place nesting v ps) b (Group (Word v f) End) (Group (Word v k) End)
unfolding group_space_at
ended_group_space_at_writes {a = a} offsets place nesting v ps o h t w = closed_writes (OpenSpace v) (Some place) nesting (offsets || has_break ps) ps a o (or_right offsets (has_break ps) t) (opening_space v h) w

pub line_group_writes : {a b : Edge} (v : List ℕ) (ps : List Piece) {f k : Forest} → is_open a ≡ true → is_word v ≡ true → WritesNoted Bound ps Bound f k → WritesNoted a (line_group v ps) b (Group (Word v f) End) (Group (Word v k) End)
unfolding line_group
line_group_writes {a = a} v ps o h w = closed_writes (Open v) None 0 false ps a o refl (opening v h) w

pub line_group_space_writes : {a b : Edge} (v : List ℕ) (ps : List Piece) {f k : Forest} → is_open a ≡ true → is_word v ≡ true → WritesNoted Free ps Bound f k → WritesNoted a (line_group_space v ps) b (Group (Word v f) End) (Group (Word v k) End)
unfolding line_group_space
line_group_space_writes {a = a} v ps o h w = closed_writes (OpenSpace v) None 0 false ps a o refl (opening_space v h) w

-- ---- the same before other pieces, in forms that a search can apply

pub group_then : {a c : Edge} (nesting : ℕ) (v : List ℕ) (ps qs : List Piece) {f g k h : Forest} → is_open a ≡ true → is_word v ≡ true → WritesNoted Bound ps Bound f k → WritesNoted Bound qs c g h → WritesNoted a (group nesting v ps ++ qs) c (Group (Word v f) g) (Group (Word v k) h)
group_then nesting v ps qs o h v' w = both_write (group_writes nesting v ps o h v') w

pub group_at_then : {a c : Edge} (offsets : Bool) (place nesting : ℕ) (v : List ℕ) (ps qs : List Piece) {f g k h : Forest} → is_open a ≡ true → is_word v ≡ true → WritesNoted Bound ps Bound f k → WritesNoted Bound qs c g h → WritesNoted a (group_at offsets place nesting v ps ++ qs) c (Group (Word v f) g) (Group (Word v k) h)
group_at_then offsets place nesting v ps qs o h v' w = both_write (group_at_writes offsets place nesting v ps o h v') w

pub line_group_then : {a c : Edge} (v : List ℕ) (ps qs : List Piece) {f g k h : Forest} → is_open a ≡ true → is_word v ≡ true → WritesNoted Bound ps Bound f k → WritesNoted Bound qs c g h → WritesNoted a (line_group v ps ++ qs) c (Group (Word v f) g) (Group (Word v k) h)
line_group_then v ps qs o h v' w = both_write (line_group_writes v ps o h v') w

pub line_group_space_then : {a c : Edge} (v : List ℕ) (ps qs : List Piece) {f g k h : Forest} → is_open a ≡ true → is_word v ≡ true → WritesNoted Free ps Bound f k → WritesNoted Bound qs c g h → WritesNoted a (line_group_space v ps ++ qs) c (Group (Word v f) g) (Group (Word v k) h)
line_group_space_then v ps qs o h v' w = both_write (line_group_space_writes v ps o h v') w

-- The rule for a group without a style, whose pieces are in the list itself
pub plain_group_then : {a c : Edge} {v : List ℕ} {ps qs : List Piece} {f g k h : Forest} → is_open a ≡ true → is_word v ≡ true → WritesNoted Bound ps Bound f k → WritesNoted Bound qs c g h →
    WritesNoted a (OpenPlain v ∷ (ps ++ (CloseParen ∷ qs))) c (Group (Word v f) g) (Group (Word v k) h)
plain_group_then {a = a} {c = c} {v = v} {ps = ps} {qs = qs} {f = f} {g = g} {k = k} {h = l} o h v' w =
    subst (λ t. WritesNoted a (OpenPlain v ∷ t) c (Group (Word v f) g) (Group (Word v k) l)) (append_assoc ps (CloseParen ∷ []) qs)
    (both_write (closed_writes (OpenPlain v) None 0 false ps a o refl (opening_plain v h) v') w)

-- The rules for a group with the style of a type, and for one without a keyword, whose pieces are in the list
-- itself
pub type_group_then : {a c : Edge} {v : List ℕ} {ps qs : List Piece} {f g k h : Forest} → is_open a ≡ true → is_word v ≡ true → WritesNoted Free ps Bound f k → WritesNoted Bound qs c g h →
    WritesNoted a (OpenTypeSpace v ∷ (ps ++ (CloseParen ∷ qs))) c (Group (Word v f) g) (Group (Word v k) h)
type_group_then {a = a} {c = c} {v = v} {ps = ps} {qs = qs} {f = f} {g = g} {k = k} {h = l} o h v' w =
    subst (λ t. WritesNoted a (OpenTypeSpace v ∷ t) c (Group (Word v f) g) (Group (Word v k) l)) (append_assoc ps (CloseParen ∷ []) qs)
    (both_write (closed_writes (OpenTypeSpace v) None 0 false ps a o refl (opening_type v h) v') w)

pub bare_group_then : {a c : Edge} {ps qs : List Piece} {f g k h : Forest} → is_open a ≡ true → WritesNoted Opened ps Bound f k → WritesNoted Bound qs c g h →
    WritesNoted a (OpenUnnamed ∷ (ps ++ (CloseParen ∷ qs))) c (Group f g) (Group k h)
bare_group_then {a = a} {c = c} {ps = ps} {qs = qs} {f = f} {g = g} {k = k} {h = l} o v' w =
    subst (λ t. WritesNoted a (OpenUnnamed ∷ t) c (Group f g) (Group k l)) (append_assoc ps (CloseParen ∷ []) qs)
    (both_write (closed_writes OpenUnnamed None 0 false ps a o refl opening_bare v') w)

-- ---- annotations

-- The pieces write some items.
pub record IsWritten (a : Edge) (ps : List Piece) (b : Edge) : Type 0 where
  pub items : Forest
  pub noted : Forest
  pub writes : WritesNoted a ps b items noted

pub written : {a b : Edge} {ps : List Piece} {f k : Forest} → WritesNoted a ps b f k → IsWritten a ps b
written w = record { items = _; noted = _; writes = w }

-- The rule for an annotation whose lines are nested like those of a group
pub note_writes : {a b : Edge} {f k : Forest} (nesting : ℕ) (v : List ℕ) (ps : List Piece) → is_open a ≡ true → is_id v ≡ true → WritesNoted Bound ps Bound f k →
    WritesNoted a (OpenAnnotation v ∷ (ps ++ close None nesting (has_break ps))) b End (Note v k End)
note_writes {a = a} nesting v ps o h w = closed_writes (OpenAnnotation v) None nesting (has_break ps) ps a o refl (opening_note v h) w

-- The rule for an annotation in one line
pub note_space_writes : {a b : Edge} {f k : Forest} (v : List ℕ) (ps : List Piece) → is_open a ≡ true → is_id v ≡ true → WritesNoted Free ps Bound f k →
    WritesNoted a (OpenAnnotationSpace v ∷ (ps ++ (CloseParen ∷ []))) b End (Note v k End)
note_space_writes {a = a} v ps o h w = closed_writes (OpenAnnotationSpace v) None 0 false ps a o refl (opening_note_space v h) w

-- The rule for a group within an annotation, which starts with any identifier characters
pub run_group_writes : {a b : Edge} (v : List ℕ) (ps : List Piece) → is_open a ≡ true → is_id v ≡ true → IsWritten Bound ps Bound →
    IsWritten a (OpenAnnotationWord v ∷ (ps ++ (CloseParen ∷ []))) b
run_group_writes {a = a} v ps o h w = written (closed_writes (OpenAnnotationWord v) None 0 false ps a o refl (opening_run v h) w.writes)

-- The rule for the annotation of a hint
pub hint_note_writes : {a b : Edge} {taken : Bool} {ps : List Piece} {f k : Forest} → is_open a ≡ true → WritesNoted Free ps b f k →
    WritesNoted a (HintAnnotation taken ∷ ps) b f (Note (codes "metadata.code.branch_hint") (String (flag_byte taken ∷ []) End) k)
hint_note_writes {a = a} {taken = taken} e w =
    piece_writes (HintAnnotation taken) (Note (codes "metadata.code.branch_hint") (String (flag_byte taken ∷ []) End)) (λ g. g) tt (joins_anywhere a (HintAnnotation taken) e refl)
    (λ g. refl) (λ g h n. a_note (a_string no_items) n) (λ g. refl) w

-- The rule for a claim, which has no text
pub claimed_writes : {a b : Edge} {s : List ℕ} {place : ℕ} {bytes : List ℕ} {answer : Bool} {ps : List Piece} {f k : Forest} → is_open a ≡ true →
    WritesNoted Bound ps b f k → WritesNoted a (Claimed s place bytes answer ∷ ps) b f k
claimed_writes {a = a} {s = s} {place = place} {bytes = bytes} {answer = answer} e w =
    silent_writes (Claimed s place bytes answer) tt (joins_anywhere a (Claimed s place bytes answer) e refl) refl w

pub then : {a c : Edge} {ps qs : List Piece} {f g k h : Forest} → WritesNoted a ps Bound f k → WritesNoted Bound qs c g h → WritesNoted a (ps ++ qs) c (onto f g) (onto k h)
then v w = both_write v w

pub ruleset writing = (nothing_writes, free_writes, begin_writes, feed_writes, one_space_writes, break_writes, number_remark_writes, begin_name_writes, end_style_writes, word_writes, type_word_writes, type_word_space_writes, space_type_word_writes, number_writes, constant_writes, literals_writes, space_literals_writes, float_writes, quoted_writes, quoted_bytes_writes, identifier_writes, noted_identifier_writes, remark_writes, ending_writes, plain_ending_writes, hint_note_writes, claimed_writes, group_writes, group_at_writes, group_space_at_writes, line_group_writes, line_group_space_writes, group_then, group_at_then, line_group_then, line_group_space_then, plain_group_then, type_group_then, bare_group_then, opened_word_writes, then)
