-- Labels with the names of a name section, and with synthesized identifiers or none for the others, are apart, and
-- their names are UTF-8.
use Rattle.std.proofs.Common.{◌≡◌, ℕ, zero, suc, ◌<◌, ◌^◌, ◌/◌, ◌%◌, Bool, true, false, ◌&&◌, not, cond, eqb, List, [], ◌∷◌, ◌++◌, Option, Some, None, refl, sym, ap, ◌∙◌, arith, true≢false, codes, decimal, bytes_eq, length}
use Rattle.std.proofs.lemmas.Bool.{and_parts, and_from, agree_below, agree_below_at}
use Rattle.std.proofs.lemmas.Fmt.{decimal_injective}
use Rattle.std.specs.Fmt.{digits, digits_onto, digit_glyph}
use Rattle.std.specs.Prelude.{IsUtf8}
use Rattle.std.proofs.lemmas.Str.{IsUtf8-append}
use Rattle.wasmprinter_laws.proofs.Tokens.Printed.{all_printed, remark, is_remark-decimal}
use Rattle.wasmprinter_laws.proofs.Tokens.Plain.{plain_text, plain_is_utf8}
use Rattle.wasmprinter_spec.specs.Labels.{Named, same_name, AreLabelsApart}
use Rattle.wasmprinter_spec.specs.LabelNames.{is_clean, label_content, label_named, label_naming, no_label_names}
use Rattle.wasmprinter_spec.specs.Names.{IsNamed, IsNamedIfAny}
use Rattle.wasmprinter_laws.proofs.Bytes.{same_bytes}

-- ---- a number contains no space

abbrev pub no_blank : List ℕ → Bool
no_blank [] = true
no_blank (b ∷ bs) = not (eqb b 32) && no_blank bs

glyph_is_no_blank : ℕ → Bool
glyph_is_no_blank d = not (eqb (digit_glyph false d) 32)

glyphs_are_no_blanks : agree_below glyph_is_no_blank (λ d. true) 10 ≡ true
unfolding glyph_is_no_blank
glyphs_are_no_blanks = refl

no_blank-digit : (d : ℕ) (bs : List ℕ) → d < 10 → no_blank bs ≡ true → no_blank (digit_glyph false d ∷ bs) ≡ true
unfolding glyph_is_no_blank
no_blank-digit d bs h g = and_from (not (eqb (digit_glyph false d) 32)) (no_blank bs) (agree_below_at glyph_is_no_blank (λ x. true) 10 d glyphs_are_no_blanks h) g

no_blank-digits : (k n : ℕ) (bs : List ℕ) → no_blank bs ≡ true → no_blank (digits_onto k 10 false n bs) ≡ true
no_blank-digits zero n bs g = g
no_blank-digits (suc k) n bs g =
    by _ _ (eqb (n / 10) 0) (no_blank-digit (n % 10) bs (omega arith) g) (no_blank-digits k (n / 10) (digit_glyph false (n % 10) ∷ bs) (no_blank-digit (n % 10) bs (omega arith) g))
  where
    by : (a b : List ℕ) (t : Bool) → no_blank a ≡ true → no_blank b ≡ true → no_blank (cond t a b) ≡ true
    by a b true x y = x
    by a b false x y = y

pub no_blank-decimal : (n : ℕ) → no_blank (decimal n) ≡ true
unfolding digits
no_blank-decimal n = no_blank-digits 64 n [] refl

-- If two texts are equal, so are their parts before the first space and their parts after it.
pub around_blank : (a b s t : List ℕ) → no_blank a ≡ true → no_blank b ≡ true → a ++ (32 ∷ s) ≡ b ++ (32 ∷ t) → (a ≡ b) × (s ≡ t)
around_blank [] [] s t ha hb e = (refl, cc)
around_blank [] (y ∷ ys) s t ha hb e = let same : 32 ≡ y = cc in absurd (true≢false (sym hb ∙ ap (λ c. not (eqb c 32) && no_blank ys) (sym same)))
around_blank (x ∷ xs) [] s t ha hb e = let same : x ≡ 32 = cc in absurd (true≢false (sym ha ∙ ap (λ c. not (eqb c 32) && no_blank xs) same))
around_blank (x ∷ xs) (y ∷ ys) s t ha hb e =
    let more : xs ++ (32 ∷ s) ≡ ys ++ (32 ∷ t) = cc in
    let first : x ≡ y = cc in
    let parts = around_blank xs ys s t (and_parts (not (eqb x 32)) (no_blank xs) ha).1 (and_parts (not (eqb y 32)) (no_blank ys) hb).1 more in
    let rest : xs ≡ ys = parts.0 in
    (cc, parts.1)

pub has_blank : (a b s : List ℕ) → no_blank b ≡ true → a ++ (32 ∷ s) ≡ b → ⊥
has_blank [] [] s h e = absurd cc
has_blank [] (y ∷ ys) s h e = let same : 32 ≡ y = cc in absurd (true≢false (sym h ∙ ap (λ c. not (eqb c 32) && no_blank ys) (sym same)))
has_blank (x ∷ xs) [] s h e = absurd cc
has_blank (x ∷ xs) (y ∷ ys) s h e = let more : xs ++ (32 ∷ s) ≡ ys = cc in has_blank xs ys s (and_parts (not (eqb y 32)) (no_blank ys) h).1 more

-- ---- contents

-- Equal contents come from equal names.
one_content : (m n : ℕ) (s t : List ℕ) → label_content m s ≡ label_content n t → s ≡ t
one_content m n s t e = by (is_clean s) refl (is_clean t) refl e
  where
    by : (a : Bool) → is_clean s ≡ a → (b : Bool) → is_clean t ≡ b →
        cond a s (codes "#label" ++ (decimal m ++ (32 ∷ s))) ≡ cond b t (codes "#label" ++ (decimal n ++ (32 ∷ t))) → s ≡ t
    by true f true g e = e
    by true f false g e = absurd (true≢false (sym f ∙ ap is_clean e))
    by false f true g e = absurd (true≢false (sym g ∙ ap is_clean (sym e)))
    by false f false g e =
        let rest : decimal m ++ (32 ∷ s) ≡ decimal n ++ (32 ∷ t) = cc in
        (around_blank (decimal m) (decimal n) s t (no_blank-decimal m) (no_blank-decimal n) rest).1

-- The content that a name gives is never a synthesized one.
not_synthesized : (m d : ℕ) (s : List ℕ) → label_content m s ≡ codes "#label" ++ decimal d → ⊥
not_synthesized m d s e = by (is_clean s) refl e
  where
    by : (a : Bool) → is_clean s ≡ a → cond a s (codes "#label" ++ (decimal m ++ (32 ∷ s))) ≡ codes "#label" ++ decimal d → ⊥
    by true f e = true≢false (sym f ∙ ap is_clean e)
    by false f e = let rest : decimal m ++ (32 ∷ s) ≡ decimal d = cc in has_blank (decimal m) (decimal d) s (no_blank-decimal d) rest

named_apart : (synthesizes : Bool) (i j d e : ℕ) (x y : Option (List ℕ)) (outer inner : Named) → d < e → e < 2 ^ 64 →
    label_named synthesizes i d x ≡ Some outer → label_named synthesizes j e y ≡ Some inner → inner.content ≡ outer.content → same_name inner.given outer.given ≡ true
named_apart synthesizes i j d e (Some s) (Some t) outer inner lt small f g same =
    let o : record { given = Some s; content = label_content i s } ≡ outer = cc in
    let n : record { given = Some t; content = label_content j t } ≡ inner = cc in
    let ts : t ≡ s = one_content j i t s (ap (λ r. r.content) n ∙ same ∙ sym (ap (λ r. r.content) o)) in
    ap (λ r. same_name r.given outer.given) (sym n) ∙ ap (λ r. same_name (Some t) r.given) (sym o) ∙ ap (λ u. bytes_eq t u) (sym ts) ∙ same_bytes t
named_apart true i j d e (Some s) None outer inner lt small f g same =
    let o : record { given = Some s; content = label_content i s } ≡ outer = cc in
    let n : record { given = None; content = codes "#label" ++ decimal e } ≡ inner = cc in
    absurd (not_synthesized i e s (ap (λ r. r.content) o ∙ sym same ∙ sym (ap (λ r. r.content) n)))
named_apart true i j d e None (Some t) outer inner lt small f g same =
    let o : record { given = None; content = codes "#label" ++ decimal d } ≡ outer = cc in
    let n : record { given = Some t; content = label_content j t } ≡ inner = cc in
    absurd (not_synthesized j d t (ap (λ r. r.content) n ∙ same ∙ sym (ap (λ r. r.content) o)))
named_apart true i j d e None None outer inner lt small f g same =
    let o : record { given = None; content = codes "#label" ++ decimal d } ≡ outer = cc in
    let n : record { given = None; content = codes "#label" ++ decimal e } ≡ inner = cc in
    let contents : codes "#label" ++ decimal e ≡ codes "#label" ++ decimal d = ap (λ r. r.content) n ∙ same ∙ sym (ap (λ r. r.content) o) in
    let numbers : decimal e ≡ decimal d = cc in
    let de : e ≡ d = decimal_injective e d small (omega arith) numbers in
    absurd (omega arith)
named_apart false i j d e (Some s) None outer inner lt small f g same = absurd cc
named_apart false i j d e None y outer inner lt small f g same = absurd cc

pub label_naming_apart : (synthesizes : Bool) (names : ℕ → Option (List ℕ)) → AreLabelsApart (label_naming synthesizes names)
label_naming_apart synthesizes names i j d e outer inner lt small f g same = named_apart synthesizes i j d e (names i) (names j) outer inner lt small f g same

-- ---- contents are UTF-8

pub printed_is_utf8 : (text : List ℕ) → all_printed text ≡ true → IsUtf8 text
printed_is_utf8 text h = plain_is_utf8 text (plain_text text h)

pub utf8-decimal : (n : ℕ) → IsUtf8 (decimal n)
utf8-decimal n = printed_is_utf8 (decimal n) (remark (decimal n) (is_remark-decimal n)).printed

label_is_named : (synthesizes : Bool) (n d : ℕ) (x : Option (List ℕ)) → ((s : List ℕ) → x ≡ Some s → IsUtf8 s) → IsNamedIfAny (label_named synthesizes n d x)
label_is_named synthesizes n d (Some s) utf8 = by (is_clean s) refl
  where
    spaces : IsUtf8 (32 ∷ [])
    spaces = printed_is_utf8 (32 ∷ []) refl

    group : IsUtf8 (codes "#label")
    group = printed_is_utf8 (codes "#label") refl

    long : (t : List ℕ) → is_clean t ≡ true → 0 < length t
    long [] h = absurd (true≢false (sym h))
    long (b ∷ bs) h = omega arith

    by : (t : Bool) → is_clean s ≡ t → IsNamed (record { given = Some s; content = cond t s (codes "#label" ++ (decimal n ++ (32 ∷ s))) })
    by true c = record { given = utf8 s refl; content = utf8 s refl; some = long s c }
    by false c = record {
      given = utf8 s refl;
      content = IsUtf8-append (codes "#label") (decimal n ++ (32 ∷ s)) group (IsUtf8-append (decimal n) (32 ∷ s) (utf8-decimal n) (IsUtf8-append (32 ∷ []) s spaces (utf8 s refl)));
      some = omega arith;
    }
label_is_named true n d None utf8 = record { given = tt; content = IsUtf8-append (codes "#label") (decimal d) (printed_is_utf8 (codes "#label") refl) (utf8-decimal d); some = omega arith }
label_is_named false n d None utf8 = tt

pub label_naming_names : (synthesizes : Bool) (names : ℕ → Option (List ℕ)) → ((n : ℕ) (s : List ℕ) → names n ≡ Some s → IsUtf8 s) →
    (i d : ℕ) → IsNamedIfAny (label_naming synthesizes names i d)
label_naming_names synthesizes names utf8 i d = label_is_named synthesizes i d (names i) (utf8 i)

-- ---- no label has a name

pub no_label_names_are_apart : AreLabelsApart no_label_names
no_label_names_are_apart i j d e outer inner lt small f g same = absurd cc
