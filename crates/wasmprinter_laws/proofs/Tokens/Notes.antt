-- The starts of annotations, and of groups within them: any identifier characters may follow the parenthesis.
use Rattle.std.proofs.Common.{◌≡◌, ℕ, Bool, true, false, List, [], ◌∷◌, ◌++◌, refl, sym, ap, ◌∙◌, append-nil, true≢false, codes, lit<}
use Rattle.std.proofs.lemmas.Bool.{and_parts}
use Rattle.wasmprinter_spec.specs.Character.{Class, Space, Tab, Feed, OpenParen, CloseParen, Semicolon, Backslash, Dollar, At, Plain, class}
use Rattle.wasmprinter_spec.specs.Quoted.{is_id_char, all_id_chars, is_id, quoted_bytes}
use Rattle.wasmprinter_spec.specs.Token as token
use Rattle.wasmprinter_spec.specs.Token.{Token, open_paren, open_annotation, close_paren, string, reserved, AsWord, AsNote, Clear, InRun, AfterDollar, AfterOpenParen, AfterOpenParenAt, Next, clear, delimits, after_dollar, after_open_paren, after_open_paren_at, lex}
use Rattle.wasmprinter_spec.specs.Forest.{Forest, End, Word, Name, Reserved, flat}
use Rattle.wasmprinter_spec.specs.Piece.{flag_byte}
use Rattle.wasmprinter_laws.proofs.Tokens.Runs.{delimited, run_goes_on, run_ends}
use Rattle.wasmprinter_laws.proofs.Tokens.Identifiers.{run_name}
use Rattle.wasmprinter_laws.proofs.Tokens.Quotes.{quoted_bytes_lex}

-- ---- the name of an annotation

after_at_begins : (c : Class) (b : ℕ) (k : Next) → is_id_char c ≡ true → after_open_paren_at c b k ≡ k (InRun AsNote (b ∷ []))
after_at_begins Backslash b k h = refl
after_at_begins Dollar b k h = refl
after_at_begins At b k h = refl
after_at_begins Plain b k h = refl
after_at_begins _ b k h = absurd (true≢false (sym h))

run_note : (w rest : List ℕ) → is_id w ≡ true → delimited rest ≡ true → lex AfterOpenParenAt (w ++ rest) ≡ open_annotation w ∷ lex Clear rest
unfolding lex
run_note [] rest h d = absurd (true≢false (sym h))
run_note (b ∷ bs) rest h d =
    let parts : (is_id_char (class b) ≡ true) × (all_id_chars bs ≡ true) = and_parts (is_id_char (class b)) (all_id_chars bs) h in
    after_at_begins (class b) b (λ next. lex next (bs ++ rest)) parts.0
    ∙ run_goes_on AsNote (b ∷ []) bs rest parts.1
    ∙ run_ends AsNote (b ∷ bs) rest d

pub note_lexes : (w rest : List ℕ) → is_id w ≡ true → delimited rest ≡ true → lex Clear (40 ∷ (64 ∷ (w ++ rest))) ≡ open_annotation w ∷ lex Clear rest
unfolding lex class
note_lexes w rest h d = run_note w rest h d

-- The text of a hint lexes to the tokens of its annotation.
pub hint_lexes : (taken : Bool) (rest : List ℕ) →
    lex Clear (codes "(@metadata.code.branch_hint " ++ (quoted_bytes (flag_byte taken ∷ []) ++ (codes ")" ++ rest)))
    ≡ open_annotation (codes "metadata.code.branch_hint") ∷ (string (flag_byte taken ∷ []) ∷ (close_paren ∷ lex Clear rest))
unfolding lex class
hint_lexes true rest = ap (λ t. open_annotation (codes "metadata.code.branch_hint") ∷ t) (quoted_bytes_lex (1 ∷ []) (41 ∷ rest) (lit< tt, tt) refl)
hint_lexes false rest = ap (λ t. open_annotation (codes "metadata.code.branch_hint") ∷ t) (quoted_bytes_lex (0 ∷ []) (41 ∷ rest) (lit< tt, tt) refl)

-- ---- the start of a group within an annotation

-- The items before those of a group, or the name of an annotation
pub data Beginning : Type 0 where
  InGroup : Forest → Beginning
  InNote : List ℕ → Beginning

abbrev pub beginning_tokens : Beginning → List Token
beginning_tokens (InGroup f) = open_paren ∷ flat f
beginning_tokens (InNote id) = open_annotation id ∷ []

abbrev begins_as : Class → ℕ → List ℕ → Beginning
begins_as Dollar b [] = InGroup (Reserved End)
begins_as Dollar b (c ∷ cs) = InGroup (Name (c ∷ cs) End)
begins_as At b [] = InGroup (Reserved End)
begins_as At b (c ∷ cs) = InNote (c ∷ cs)
begins_as _ b bs = InGroup (Word (b ∷ bs) End)

abbrev pub beginning : List ℕ → Beginning
beginning [] = InGroup End
beginning (b ∷ bs) = begins_as (class b) b bs

after_dollar_ends : (c : Class) (b : ℕ) (k : Next) → delimits c ≡ true → after_dollar c b k ≡ reserved ∷ clear c b k
after_dollar_ends Space b k h = refl
after_dollar_ends Tab b k h = refl
after_dollar_ends Feed b k h = refl
after_dollar_ends OpenParen b k h = refl
after_dollar_ends CloseParen b k h = refl
after_dollar_ends Semicolon b k h = refl
after_dollar_ends _ b k h = absurd (true≢false (sym h))

after_at_ends : (c : Class) (b : ℕ) (k : Next) → delimits c ≡ true → after_open_paren_at c b k ≡ open_paren ∷ (reserved ∷ clear c b k)
after_at_ends Space b k h = refl
after_at_ends Tab b k h = refl
after_at_ends Feed b k h = refl
after_at_ends OpenParen b k h = refl
after_at_ends CloseParen b k h = refl
after_at_ends Semicolon b k h = refl
after_at_ends _ b k h = absurd (true≢false (sym h))

dollar_stands : (rest : List ℕ) → delimited rest ≡ true → lex AfterDollar rest ≡ reserved ∷ lex Clear rest
unfolding lex
dollar_stands [] d = refl
dollar_stands (b ∷ bs) d = after_dollar_ends (class b) b (λ next. lex next bs) d

at_stands : (rest : List ℕ) → delimited rest ≡ true → lex AfterOpenParenAt rest ≡ open_paren ∷ (reserved ∷ lex Clear rest)
unfolding lex
at_stands [] d = refl
at_stands (b ∷ bs) d = after_at_ends (class b) b (λ next. lex next bs) d

pub run_opens : (w rest : List ℕ) → is_id w ≡ true → delimited rest ≡ true → lex AfterOpenParen (w ++ rest) ≡ beginning_tokens (beginning w) ++ lex Clear rest
unfolding lex
run_opens [] rest h d = absurd (true≢false (sym h))
run_opens (b ∷ bs) rest h d =
    let parts : (is_id_char (class b) ≡ true) × (all_id_chars bs ≡ true) = and_parts (is_id_char (class b)) (all_id_chars bs) h in
    by (class b) parts.0 bs parts.1
  where
    by : (c : Class) → is_id_char c ≡ true → (w : List ℕ) → all_id_chars w ≡ true →
        after_open_paren c b (λ next. lex next (w ++ rest)) ≡ beginning_tokens (begins_as c b w) ++ lex Clear rest
    by Plain r w a = ap (λ t. open_paren ∷ t) (run_goes_on AsWord (b ∷ []) w rest a ∙ run_ends AsWord (b ∷ w) rest d)
    by Backslash r w a = ap (λ t. open_paren ∷ t) (run_goes_on AsWord (b ∷ []) w rest a ∙ run_ends AsWord (b ∷ w) rest d)
    by Dollar r [] a = ap (λ t. open_paren ∷ t) (dollar_stands rest d)
    by Dollar r (c ∷ cs) a = ap (λ t. open_paren ∷ t) (run_name (c ∷ cs) rest a d)
    by At r [] a = at_stands rest d
    by At r (c ∷ cs) a = run_note (c ∷ cs) rest a d
    by _ r w a = absurd (true≢false (sym r))

-- A parenthesis and identifier characters by themselves lex to the tokens of the start.
pub run_tokens : (w : List ℕ) → is_id w ≡ true → token.tokens (40 ∷ w) ≡ beginning_tokens (beginning w)
unfolding lex class
run_tokens w h =
    ap (lex AfterOpenParen) (sym (append-nil w)) ∙ run_opens w [] h refl ∙ append-nil (beginning_tokens (beginning w))

pub run_lexes : (w rest : List ℕ) → is_id w ≡ true → delimited rest ≡ true → lex Clear (40 ∷ (w ++ rest)) ≡ token.tokens (40 ∷ w) ++ lex Clear rest
unfolding lex class
run_lexes w rest h d = run_opens w rest h d ∙ ap (λ t. t ++ lex Clear rest) (sym (run_tokens w h))
