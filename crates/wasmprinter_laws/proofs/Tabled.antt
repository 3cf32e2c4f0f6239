-- Facts about the table, shown by tests over its rows. Each test is computed once, for all rows.
use Rattle.std.proofs.Common.{◌≡◌, ℕ, ◌<◌, ◌≤◌, ◌^◌, Bool, true, false, ◌&&◌, ◌||◌, not, cond, eqb, leb, is_some, List, [], ◌∷◌, Option, Some, None, refl, sym, ap, ◌∙◌, subst, codes, bytes_eq, decimal, map, ℤ, pos, negsuc, ◌*◌, ◌+◌, arith, suc}
use Rattle.std.proofs.lemmas.Bool.{and_parts, eqb-true, not-true, eq-eqb, both_ways, false_from_ne_true, le-leb}
use Rattle.std.specs.Fmt.{signed_decimal}
use Rattle.std.specs.Int.Signed.{mag}
use Rattle.std.proofs.lemmas.Fmt.{decimal_is_IsNumeral}
use Rattle.std.proofs.lemmas.Str.Parse.{digit_at}
use Rattle.std.specs.Str.Parse.{IsNumeral}
use Rattle.std.specs.List.{AllByRecursion, filter, list_any}
use Rattle.wasmprinter_spec.specs.Character.{class}
use Rattle.wasmprinter_spec.specs.Operator.{Operator}
use Rattle.wasmprinter_spec.specs.Row.{Row, Role, Plain, Opens, OpensIf, OpensTry, Space, Label, Shape, NoneShape, BlockShape, TryTableShape, DefaultIndexShape, PairShape, SegmentShape, CopyShape, SelectShape, RefShape}
use Rattle.wasmprinter_spec.specs.Table.{table, first, has_word, has_opcode, rows_of, by_opcode}
use Rattle.wasmprinter_spec.specs.Code.{part_words}
use Rattle.wasmprinter_spec.specs.Text.TypeUses.{same_flag}
use Rattle.wasmprinter_spec.specs.Text.Operators.{after_prefix, is_option}
use Rattle.wasmprinter_laws.proofs.Tokens.Runs.{is_word}
use Rattle.wasmprinter_spec.specs.Shapes.{has_shape, has_row_shape}
use Rattle.wasmprinter_laws.specs.Listed.{IsListed}
use Rattle.wasmprinter_laws.proofs.Bytes.{bytes_same}

abbrev pub all : {A : Type 0} → (A → Bool) → List A → Bool
all p [] = true
all p (x ∷ xs) = p x && all p xs

-- ---- words that no operator has

-- Reports whether a word starts with a digit or a minus sign, as numbers do.
abbrev pub is_number : List ℕ → Bool
is_number [] = false
is_number (b ∷ bs) = eqb b 45 || (leb 48 b && leb b 57)

abbrev begins_with : List ℕ → List ℕ → Bool
begins_with p w = is_some (after_prefix p w)

-- The words of heap types, of references to them, and of the lanes of a vector
abbrev argument_words : List (List ℕ)
argument_words =
    codes "exn" ∷ codes "array" ∷ codes "struct" ∷ codes "i31" ∷ codes "eq" ∷ codes "any"
    ∷ codes "extern" ∷ codes "func" ∷ codes "none" ∷ codes "noextern" ∷ codes "nofunc" ∷ codes "noexn"
    ∷ codes "exnref" ∷ codes "arrayref" ∷ codes "structref" ∷ codes "i31ref" ∷ codes "eqref" ∷ codes "anyref"
    ∷ codes "externref" ∷ codes "funcref" ∷ codes "nullref" ∷ codes "nullexternref" ∷ codes "nullfuncref" ∷ codes "nullexnref"
    ∷ codes "ref" ∷ codes "i32x4" ∷ []

-- Reports whether a word can be one of immediates: a number, a float, an offset or an alignment, or a word of that
-- list.
abbrev pub is_argument : List ℕ → Bool
is_argument w =
    is_number w || (is_option w || (begins_with (codes "inf") w || (begins_with (codes "nan") w || list_any (λ v. bytes_eq v w) argument_words)))

-- ---- blocks

-- Reports whether an operator with this role opens a block; its immediates then contain a block type.
abbrev pub is_opening : Role → Bool
is_opening Opens = true
is_opening OpensIf = true
is_opening OpensTry = true
is_opening _ = false

abbrev pub has_block : Shape → Bool
has_block BlockShape = true
has_block TryTableShape = true
has_block _ = false

abbrev pub fits : Role → Shape → Bool
fits r s = not (is_opening r) || has_block s

-- ---- labels

abbrev pub is_item : Space → Bool
is_item Label = false
is_item _ = true

-- Reports whether no index of this shape that may be left out, or that is one of two, is a label.
abbrev pub means_items : Shape → Bool
means_items (DefaultIndexShape space) = is_item space
means_items (PairShape first second) = is_item first && is_item second
means_items (SegmentShape segments space) = is_item segments && is_item space
means_items (CopyShape space) = is_item space
means_items _ = true

-- ---- operators that share a word

-- A word as one number, so that words are compared in one step
abbrev pub key_after : ℕ → List ℕ → ℕ
key_after k [] = k
key_after k (b ∷ bs) = key_after (k * 256 + b) bs

abbrev pub key : Row → ℕ
key r = key_after 0 r.word

-- Reports whether no operator of the first shape reads the items of one of the second.
abbrev pub refuses : Shape → Shape → Bool
refuses NoneShape SelectShape = true
refuses SelectShape NoneShape = true
refuses (RefShape a) (RefShape b) = not (same_flag b a)
refuses _ _ = false

abbrev pub keyed : Row → ℕ × Shape
keyed r = (key r, r.shape)

-- Reports whether, of any two rows with the same word, the first refuses the items of the second.
abbrev pub are_told_apart : List (ℕ × Shape) → Bool
are_told_apart [] = true
are_told_apart (x ∷ xs) = all (λ y. not (eqb y.0 x.0) || refuses x.1 y.1) xs && are_told_apart xs

-- ---- operators that are alone in a group

-- Reports whether an operator neither opens nor closes a block. Its group is then no part of another operator, and
-- none of the groups of a field.
abbrev pub is_plain : Role → Bool
is_plain Plain = true
is_plain _ = false

-- The words of the operators of blocks
abbrev pub block_words : List (List ℕ)
block_words =
    codes "block" ∷ codes "loop" ∷ codes "if" ∷ codes "else" ∷ codes "try" ∷ codes "catch" ∷ codes "end"
    ∷ codes "delegate" ∷ codes "catch_all" ∷ codes "try_table" ∷ []

abbrev pub is_block_word : List ℕ → Bool
is_block_word w = list_any (λ v. bytes_eq v w) block_words

-- The words of groups that may occur where a folded operator may
abbrev pub group_words : List (List ℕ)
group_words = codes "then" ∷ codes "else" ∷ codes "offset" ∷ codes "item" ∷ codes "ref" ∷ codes "table" ∷ codes "memory" ∷ codes "local" ∷ codes "param" ∷ codes "result" ∷ codes "type" ∷ []

abbrev pub is_group_word : List ℕ → Bool
is_group_word w = list_any (λ v. bytes_eq w v) group_words

abbrev pub is_part_word : List ℕ → Bool
is_part_word w = list_any (λ v. bytes_eq v w) part_words

-- ---- the tests

pub table_tells_apart : are_told_apart (map keyed table) ≡ true
unfolding table
table_tells_apart = refl

words_are_words : all (λ r. is_word r.word) table ≡ true
unfolding table class
words_are_words = refl

no_arguments : all (λ r. not (is_argument r.word)) table ≡ true
unfolding table
no_arguments = refl

rows_fit : all (λ r. fits r.role r.shape) table ≡ true
unfolding table
rows_fit = refl

rows_mean_items : all (λ r. means_items r.shape) table ≡ true
unfolding table
rows_mean_items = refl

plain_words : all (λ r. same_flag (is_plain r.role) (not (is_block_word r.word))) table ≡ true
unfolding table
plain_words = refl

words_alone : all (λ r. not (is_plain r.role) || (not (is_part_word r.word) && not (is_group_word r.word))) table ≡ true
unfolding table
words_alone = refl

-- ---- consequences of the tests

-- r is one of the rows.
pub data In : Row → List Row → Type 0 where
  here : {r : Row} {rs : List Row} → In r (r ∷ rs)
  there : {r s : Row} {rs : List Row} → In r rs → In r (s ∷ rs)

pub all_at : (p : Row → Bool) (r : Row) (rs : List Row) → all p rs ≡ true → In r rs → p r ≡ true
all_at p r (s ∷ rs) h here = (and_parts (p r) (all p rs) h).0
all_at p r (s ∷ rs) h (there i) = all_at p r rs (and_parts (p s) (all p rs) h).1 i
all_at p r [] h i = elim i [ ]

keyed_at : (p : ℕ × Shape → Bool) (r : Row) (rs : List Row) → all p (map keyed rs) ≡ true → In r rs → p (keyed r) ≡ true
keyed_at p r (s ∷ rs) h here = (and_parts (p (keyed r)) (all p (map keyed rs)) h).0
keyed_at p r (s ∷ rs) h (there i) = keyed_at p r rs (and_parts (p (keyed s)) (all p (map keyed rs)) h).1 i
keyed_at p r [] h i = elim i [ ]

-- If `first` returns a row, it is one of the rows and passes the test.
first_gives : (p : Row → Bool) (rs : List Row) (r : Row) → first p rs ≡ Some r → In r rs × (p r ≡ true)
first_gives p [] r h = absurd (cc)
first_gives p (s ∷ rs) r h = by (p s) refl h (first_gives p rs r)
  where
    by : (t : Bool) → p s ≡ t → cond t (Some s) (first p rs) ≡ Some r → (first p rs ≡ Some r → In r rs × (p r ≡ true)) → In r (s ∷ rs) × (p r ≡ true)
    by true e g more = let same : s ≡ r = cc in (subst (λ x. In x (s ∷ rs)) same here, subst (λ x. p x ≡ true) same e)
    by false e g more = (there (more g).0, (more g).1)

-- If the rows with one word are distinguished in a list, they are in its tail.
pub told_apart_later : (s : Row) (rs : List Row) → are_told_apart (map keyed (s ∷ rs)) ≡ true → are_told_apart (map keyed rs) ≡ true
told_apart_later s rs t = (and_parts (all (λ y. not (eqb y.0 (key s)) || refuses s.shape y.1) (map keyed rs)) (are_told_apart (map keyed rs)) t).1

-- A row before another one with the same word refuses its items.
pub refuses_later : (s r : Row) (rs : List Row) → are_told_apart (map keyed (s ∷ rs)) ≡ true → In r rs → has_word r.word s ≡ true →
    refuses s.shape r.shape ≡ true
refuses_later s r rs t i e =
    let apart : all (λ (y : ℕ × Shape). not (eqb y.0 (key s)) || refuses s.shape y.1) (map keyed rs) ≡ true =
    (and_parts (all (λ (y : ℕ × Shape). not (eqb y.0 (key s)) || refuses s.shape y.1) (map keyed rs)) (are_told_apart (map keyed rs)) t).0 in
    let either : (not (eqb (key r) (key s)) || refuses s.shape r.shape) ≡ true = keyed_at (λ y. not (eqb y.0 (key s)) || refuses s.shape y.1) r rs apart i in
    let same : eqb (key r) (key s) ≡ true = eq-eqb (key r) (key s) (ap (key_after 0) (sym (bytes_same s.word r.word e))) in
    ap (λ b. not b || refuses s.shape r.shape) (sym same) ∙ either

-- ---- the row of an operator

pub record HasRow (o : Operator) : Type 0 where
  pub row : Row
  pub found : by_opcode o.opcode ≡ Some row
  pub shape : has_shape row.shape o.immediates ≡ true
  pub prefix : row.prefix ≡ o.opcode.prefix
  pub number : row.number ≡ o.opcode.number
  pub in_table : In row table
  pub is_its_word : is_word row.word ≡ true
  pub fit : fits row.role row.shape ≡ true
  pub items : means_items row.shape ≡ true

pub row_for : (o : Operator) → IsListed o → HasRow o
row_for o h = by (by_opcode o.opcode) refl h.shape
  where
    by : (r : Option Row) → by_opcode o.opcode ≡ r → has_row_shape r o.immediates ≡ true → HasRow o
    by None e l = absurd cc
    by (Some r) e l =
        let found : In r table × (has_opcode o.opcode r ≡ true) = first_gives (has_opcode o.opcode) table r e in
        let codes : (eqb r.prefix o.opcode.prefix ≡ true) × (eqb r.number o.opcode.number ≡ true) =
        and_parts (eqb r.prefix o.opcode.prefix) (eqb r.number o.opcode.number) found.1 in
        record {
          row = r;
          found = e;
          shape = l;
          prefix = eqb-true r.prefix o.opcode.prefix codes.0;
          number = eqb-true r.number o.opcode.number codes.1;
          in_table = found.0;
          is_its_word = all_at (λ x. is_word x.word) r table words_are_words found.0;
          fit = all_at (λ x. fits x.role x.shape) r table rows_fit found.0;
          items = all_at (λ x. means_items x.shape) r table rows_mean_items found.0;
        }

-- ---- a plain operator can be alone in a group

pub record StandsAlone (w : List ℕ) : Type 0 where
  pub part : is_part_word w ≡ false
  pub others : AllByRecursion (λ v. bytes_eq w v ≡ false) group_words

-- A word that differs from each word of a list differs from any word in that list.
differs_from : (w v : List ℕ) (us : List (List ℕ)) → AllByRecursion (λ u. bytes_eq w u ≡ false) us → list_any (λ u. bytes_eq v u) us ≡ true → bytes_eq w v ≡ false
differs_from w v [] apart h = absurd cc
differs_from w v (u ∷ us) apart h = by (bytes_eq v u) refl h (differs_from w v us apart.1)
  where
    by : (t : Bool) → bytes_eq v u ≡ t → (t || list_any (λ x. bytes_eq v x) us) ≡ true → (list_any (λ x. bytes_eq v x) us ≡ true → bytes_eq w v ≡ false) → bytes_eq w v ≡ false
    by true same k more = ap (λ x. bytes_eq w x) (bytes_same v u same) ∙ apart.0
    by false other k more = more k

-- The word of an operator that can be alone in a group differs from the words of groups of other kinds.
pub differs : (w v : List ℕ) → StandsAlone w → is_group_word v ≡ true → bytes_eq w v ≡ false
differs w v a h = differs_from w v group_words a.others h

pub none_among : (w : List ℕ) (vs : List (List ℕ)) → list_any (λ v. bytes_eq w v) vs ≡ false → AllByRecursion (λ v. bytes_eq w v ≡ false) vs
none_among w [] h = tt
none_among w (v ∷ vs) h = by (bytes_eq w v) refl h (none_among w vs)
  where
    by : (t : Bool) → bytes_eq w v ≡ t → (t || list_any (λ u. bytes_eq w u) vs) ≡ false →
        (list_any (λ u. bytes_eq w u) vs ≡ false → AllByRecursion (λ u. bytes_eq w u ≡ false) vs) → AllByRecursion (λ u. bytes_eq w u ≡ false) (v ∷ vs)
    by true e k more = absurd cc
    by false e k more = (e, more k)

pub plain_alone : (r : Row) → In r table → r.role ≡ Plain → StandsAlone r.word
plain_alone r i p =
    let either : (not (is_plain r.role) || (not (is_part_word r.word) && not (is_group_word r.word))) ≡ true =
    all_at (λ x. not (is_plain x.role) || (not (is_part_word x.word) && not (is_group_word x.word))) r table words_alone i in
    let both : (not (is_part_word r.word) && not (is_group_word r.word)) ≡ true =
    ap (λ x. not (is_plain x) || (not (is_part_word r.word) && not (is_group_word r.word))) (sym p) ∙ either in
    let parts = and_parts (not (is_part_word r.word)) (not (is_group_word r.word)) both in
    record { part = not-true (is_part_word r.word) parts.0; others = none_among r.word group_words (not-true (is_group_word r.word) parts.1) }

is_plain-true : (x : Role) → is_plain x ≡ true → x ≡ Plain
is_plain-true Plain e = refl
is_plain-true _ e = absurd cc

same_flag-true : (b c : Bool) → same_flag b c ≡ true → b ≡ c
same_flag-true true true e = refl
same_flag-true false false e = refl
same_flag-true true false e = absurd cc
same_flag-true false true e = absurd cc

-- If one operator with a word is plain, then so are all with that word.
pub plain_by_word : (r s : Row) → In r table → In s table → s.word ≡ r.word → r.role ≡ Plain → s.role ≡ Plain
plain_by_word r s i j same p =
    let first : is_plain r.role ≡ not (is_block_word r.word) = same_flag-true _ _
    (all_at (λ x. same_flag (is_plain x.role) (not (is_block_word x.word))) r table plain_words i) in
    let second : is_plain s.role ≡ not (is_block_word s.word) = same_flag-true _ _
    (all_at (λ x. same_flag (is_plain x.role) (not (is_block_word x.word))) s table plain_words j) in
    is_plain-true s.role (second ∙ ap (λ w. not (is_block_word w)) same ∙ sym first ∙ ap is_plain p)

-- ---- the words of immediates are not in the table

none_of_argument : (w : List ℕ) (rs : List Row) → is_argument w ≡ true → all (λ r. not (is_argument r.word)) rs ≡ true → filter (has_word w) rs ≡ []
none_of_argument w [] n h = refl
none_of_argument w (r ∷ rs) n h =
    let parts : (not (is_argument r.word) ≡ true) × (all (λ x. not (is_argument x.word)) rs ≡ true) =
    and_parts (not (is_argument r.word)) (all (λ x. not (is_argument x.word)) rs) h in
    let no : has_word w r ≡ false = false_from_ne_true (has_word w r) (λ e.
    both_ways (is_argument r.word) (not-true (is_argument r.word) parts.0) (ap is_argument (bytes_same r.word w e) ∙ n)) in
    ap (λ t. cond t (r ∷ filter (has_word w) rs) (filter (has_word w) rs)) no ∙ none_of_argument w rs n parts.1

pub no_rows : (w : List ℕ) → is_argument w ≡ true → rows_of w ≡ []
no_rows w h = none_of_argument w table h no_arguments

or_true : (t : Bool) → (t || true) ≡ true
or_true true = refl
or_true false = refl

is_number_digits : (ds : List ℕ) → IsNumeral 10 ds → is_number ds ≡ true
is_number_digits [] h = absurd (omega (arith, h.0))
is_number_digits (c ∷ cs) h =
    let within : (48 ≤ c) × (c ≤ 57) = digit_at (c ∷ cs) 0 h.1 h.0 in
    rw (le-leb 48 c within.0, le-leb c 57 within.1) (or_true (eqb c 45))

pub no_rows-number : (w : List ℕ) → is_number w ≡ true → rows_of w ≡ []
no_rows-number w h =
    no_rows w (ap (λ b. b || (is_option w || (begins_with (codes "inf") w || (begins_with (codes "nan") w || list_any (λ v. bytes_eq v w) argument_words)))) h)

pub no_rows-decimal : (n : ℕ) → n < 2 ^ 64 → rows_of (decimal n) ≡ []
no_rows-decimal n h = no_rows-number (decimal n) (is_number_digits (decimal n) (decimal_is_IsNumeral n h).0)

pub no_rows-signed_decimal : (z : ℤ) → mag z < 2 ^ 63 → rows_of (signed_decimal z) ≡ []
no_rows-signed_decimal (pos n) h = no_rows-decimal n (omega arith)
no_rows-signed_decimal (negsuc n) h = no_rows-number (45 ∷ decimal (suc n)) refl
