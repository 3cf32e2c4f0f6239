-- The meaning of a label, computed from the open blocks whose labels have names.
use Rattle.std.proofs.Common.{◌≡◌, ◌≢◌, ℕ, zero, suc, ◌+◌, ◌-◌, ◌<◌, ◌≤◌, List, [], ◌∷◌, ◌++◌, length, refl, sym, ap, ◌∙◌, subst, arith}
use Rattle.std.proofs.lemmas.Bool.{eqb-true, eqb-false}
use Rattle.std.specs.Prelude.{Bool, true, false, ◌||◌, nat_eq, Option, Some, None, if◌then◌else◌, codes, decimal}
use Rattle.std.specs.List.{AllByRecursion, list_any}
use Rattle.wasmprinter_spec.specs.Labels.{Label, Named, same_name, hides, is_hidden, Around, Own, Nothing, after, target}
use Rattle.wasmprinter_flat.specs.OpenLabels.Found.{Found, ByName, ByNumber, ToBlock, ToNothing, found_named, found_by, found_among}
use Rattle.wasmprinter_flat.specs.OpenLabels.Stack.{Block, depths, AreBelow, Descend, without_block_at, StandsAtDepth, unnamed_label, label_here, labels_from}

nat_eq-is : (a b : ℕ) → a ≡ b → nat_eq a b ≡ true
nat_eq-is a b h = by (nat_eq a b) refl
  where
    by : (c : Bool) → nat_eq a b ≡ c → c ≡ true
    by true t = refl
    by false t = absurd (eqb-false a b t h)

nat_eq-not : (a b : ℕ) → a ≢ b → nat_eq a b ≡ false
nat_eq-not a b h = by (nat_eq a b) refl
  where
    by : (c : Bool) → nat_eq a b ≡ c → c ≡ false
    by true t = absurd (h (eqb-true a b t))
    by false t = refl

pub labels_length : (synthesizes : Bool) (bs : List Block) (d : ℕ) → length (labels_from synthesizes bs d) ≡ d
labels_length synthesizes bs zero = refl
labels_length synthesizes bs (suc d) = ap suc (labels_length synthesizes (without_block_at d bs) d)

-- ---- Opening a block

pub labels_named : (synthesizes : Bool) (b : Block) (bs : List Block) (d : ℕ) → b.depth ≡ d → labels_from synthesizes (b ∷ bs) (suc d) ≡ Some b.name ∷ labels_from synthesizes bs d
labels_named synthesizes b bs d e = rw (nat_eq-is b.depth d e) refl

here_none : (synthesizes : Bool) (bs : List Block) (d : ℕ) → AreBelow d (depths bs) → (label_here synthesizes d bs ≡ unnamed_label synthesizes d) × (without_block_at d bs ≡ bs)
here_none synthesizes [] d h = (refl, refl)
here_none synthesizes (b ∷ bs) d h = rw (nat_eq-not b.depth d (λ e. absurd (omega (arith, h.0, e)))) (refl, refl)

pub labels_unnamed : (synthesizes : Bool) (bs : List Block) (d : ℕ) → AreBelow d (depths bs) → labels_from synthesizes bs (suc d) ≡ unnamed_label synthesizes d ∷ labels_from synthesizes bs d
labels_unnamed synthesizes bs d h =
    let p = here_none synthesizes bs d h in
    ap (λ (x : Label). x ∷ labels_from synthesizes (without_block_at d bs) d) p.0 ∙ ap (λ (cs : List Block). unnamed_label synthesizes d ∷ labels_from synthesizes cs d) p.1

-- ---- Closing a block

below_weaker : (c d : ℕ) (xs : List ℕ) → c ≤ d → AreBelow c xs → AreBelow d xs
below_weaker c d [] le h = tt
below_weaker c d (x ∷ xs) le h = (omega (arith, le, h.0), below_weaker c d xs le h.1)

pub below_more : (d : ℕ) (xs : List ℕ) → AreBelow d xs → AreBelow (suc d) xs
below_more d xs h = below_weaker d (suc d) xs (omega arith) h

-- If all depths are at most d, then after a block at depth d is removed, all depths are below d.
at_end : (d : ℕ) (b : Block) (bs : List Block) → AreBelow (suc d) (depths (b ∷ bs)) → Descend (depths (b ∷ bs)) → (hit : Bool) → nat_eq b.depth d ≡ hit
    → AreBelow d (depths (if hit then bs else b ∷ bs))
at_end d b bs h s true e = subst (λ n. AreBelow n (depths bs)) (eqb-true b.depth d e) s.0
at_end d b bs h s false e = let differ : b.depth ≢ d = eqb-false b.depth d e in let lt : b.depth < d = omega (arith, h.0, differ) in (lt, below_weaker b.depth d (depths bs) (omega (arith, lt)) s.0)

pub below_closed : (d : ℕ) (bs : List Block) → AreBelow (suc d) (depths bs) → Descend (depths bs) → AreBelow d (depths (without_block_at d bs))
below_closed d [] h s = tt
below_closed d (b ∷ bs) h s = at_end d b bs h s (nat_eq b.depth d) refl

pub length_closed : (d : ℕ) (bs : List Block) → length (without_block_at d bs) ≤ length bs
length_closed d [] = omega arith
length_closed d (b ∷ bs) = by (nat_eq b.depth d)
  where
    by : (hit : Bool) → length (if hit then bs else b ∷ bs) ≤ length (b ∷ bs)
    by true = omega arith
    by false = omega arith

pub all_closed : (P : Block → Type 0) (d : ℕ) (bs : List Block) → AllByRecursion P bs → AllByRecursion P (without_block_at d bs)
all_closed P d [] h = h
all_closed P d (b ∷ bs) h = by (nat_eq b.depth d)
  where
    by : (hit : Bool) → AllByRecursion P (if hit then bs else b ∷ bs)
    by true = h.1
    by false = h

-- ---- Targets

-- The label index l means an enclosing block with the label y.
record Means (l : ℕ) (xs : List Label) (y : Label) : Type 0 where
  further : List Label
  is : target l xs ≡ Around y further

abbrev same_given : Named → Block → Bool
same_given n x = same_name x.name.given n.given

-- The label index l means an enclosing block with the name n; `front` are the named blocks further in, which may
-- shadow it.
record MeansNamed (l : ℕ) (xs : List Label) (n : Named) (front : List Block) : Type 0 where
  further : List Label
  is : target l xs ≡ Around (Some n) further
  hidden : is_hidden n further ≡ list_any (same_given n) front

unnamed_hides : (n : Named) (synthesizes : Bool) (d : ℕ) → hides n (unnamed_label synthesizes d) ≡ false
unnamed_hides n true d = refl
unnamed_hides n false d = refl

-- If l means a block with the name n, then l + 1 means that block after one more block is opened.
further_in : (l : ℕ) (x : Label) (xs : List Label) (n : Named) (front new : List Block) → (hides n x || list_any (same_given n) front) ≡ list_any (same_given n) new
    → MeansNamed l xs n front → MeansNamed (suc l) (x ∷ xs) n new
further_in l x xs n front new e m = record {
  further = x ∷ m.further;
  is = ap (after x) m.is;
  hidden = ap (λ (b : Bool). hides n x || b) m.hidden ∙ e;
}

below_in : (d : ℕ) (front rest : List Block) (b : Block) → AreBelow d (depths (front ++ b ∷ rest)) → b.depth < d
below_in d [] rest b h = h.0
below_in d (x ∷ front) rest b h = below_in d front rest b h.1

further_unnamed : (synthesizes : Bool) (l d : ℕ) (front : List Block) (n : Named) (bs : List Block) → AreBelow (suc d) (depths bs)
    → MeansNamed l (labels_from synthesizes bs (suc d)) n front → MeansNamed (suc l) (labels_from synthesizes bs (suc (suc d))) n front
further_unnamed synthesizes l d front n bs h m =
    subst (λ (ls : List Label). MeansNamed (suc l) ls n front) (sym (labels_unnamed synthesizes bs (suc d) h))
    (further_in l (unnamed_label synthesizes (suc d)) (labels_from synthesizes bs (suc d)) n front front (ap (λ (b : Bool). b || list_any (same_given n) front) (unnamed_hides n synthesizes (suc d))) m)

further_named : (synthesizes : Bool) (l d : ℕ) (front : List Block) (n : Named) (x : Block) (bs : List Block) → x.depth ≡ suc d
    → MeansNamed l (labels_from synthesizes bs (suc d)) n front → MeansNamed (suc l) (labels_from synthesizes (x ∷ bs) (suc (suc d))) n (x ∷ front)
further_named synthesizes l d front n x bs e m =
    subst (λ (ls : List Label). MeansNamed (suc l) ls n (x ∷ front)) (sym (labels_named synthesizes x bs (suc d) e)) (further_in l (Some x.name) (labels_from synthesizes bs (suc d)) n front (x ∷ front) refl m)

means_named : (synthesizes : Bool) (l d : ℕ) (front rest : List Block) (b : Block) → Descend (depths (front ++ b ∷ rest)) → AreBelow (suc d) (depths (front ++ b ∷ rest)) → b.depth + l ≡ d
    → MeansNamed l (labels_from synthesizes (front ++ b ∷ rest) (suc d)) b.name front
means_named synthesizes zero d [] rest b s h e = record { further = []; is = ap (λ (x : Label). Around x []) (rw (nat_eq-is b.depth d (omega (arith, e))) refl); hidden = refl }
means_named synthesizes zero d (x ∷ front) rest b s h e = let lt = below_in x.depth front rest b s.0 in absurd (omega (arith, lt, h.0, e))
means_named synthesizes (suc l) zero front rest b s h e = absurd (omega (arith, e))
means_named synthesizes (suc l) (suc d) [] rest b s h e =
    let lt : b.depth < suc d = omega (arith, e) in
    let below : AreBelow (suc d) (depths (b ∷ rest)) = (lt, below_weaker b.depth (suc d) (depths rest) (omega (arith, lt)) s.0) in
    further_unnamed synthesizes l d [] b.name (b ∷ rest) below (means_named synthesizes l d [] rest b s below (omega (arith, e)))
means_named synthesizes (suc l) (suc d) (x ∷ front) rest b s h e =
    by (nat_eq x.depth (suc d)) refl (λ c. means_named synthesizes l d front rest b s.1 c (omega (arith, e))) (λ c. means_named synthesizes l d (x ∷ front) rest b s c (omega (arith, e)))
  where
    by : (hit : Bool) → nat_eq x.depth (suc d) ≡ hit
        → (AreBelow (suc d) (depths (front ++ b ∷ rest)) → MeansNamed l (labels_from synthesizes (front ++ b ∷ rest) (suc d)) b.name front)
        → (AreBelow (suc d) (depths (x ∷ front ++ b ∷ rest)) → MeansNamed l (labels_from synthesizes (x ∷ front ++ b ∷ rest) (suc d)) b.name (x ∷ front))
        → MeansNamed (suc l) (labels_from synthesizes (x ∷ front ++ b ∷ rest) (suc (suc d))) b.name (x ∷ front)
    by true t same more =
        let is : x.depth ≡ suc d = eqb-true x.depth (suc d) t in
        further_named synthesizes l d front b.name x (front ++ b ∷ rest) is (same (subst (λ n. AreBelow n (depths (front ++ b ∷ rest))) is s.0))
    by false t same more =
        let differ : x.depth ≢ suc d = eqb-false x.depth (suc d) t in
        let lt : x.depth < suc d = omega (arith, differ, h.0) in
        let below : AreBelow (suc d) (depths (x ∷ front ++ b ∷ rest)) = (lt, below_weaker x.depth (suc d) (depths (front ++ b ∷ rest)) (omega (arith, lt)) s.0) in
        further_unnamed synthesizes l d (x ∷ front) b.name (x ∷ front ++ b ∷ rest) below (more below)

here_other : (synthesizes : Bool) (d : ℕ) (bs : List Block) → AllByRecursion (λ b. b.depth ≢ d) bs → label_here synthesizes d bs ≡ unnamed_label synthesizes d
here_other synthesizes d [] h = refl
here_other synthesizes d (b ∷ bs) h = rw (nat_eq-not b.depth d h.0) refl

means_unnamed : (synthesizes : Bool) (l d e : ℕ) (bs : List Block) → AllByRecursion (λ b. b.depth ≢ e) bs → e + l ≡ d → Means l (labels_from synthesizes bs (suc d)) (unnamed_label synthesizes e)
means_unnamed synthesizes zero d e bs h is =
    let same : e ≡ d = omega (arith, is) in
    record { further = []; is = ap (λ (x : Label). Around x []) (here_other synthesizes d bs (subst (λ n. AllByRecursion (λ (b : Block). b.depth ≢ n) bs) same h) ∙ ap (unnamed_label synthesizes) (sym same)) }
means_unnamed synthesizes (suc l) zero e bs h is = absurd (omega (arith, is))
means_unnamed synthesizes (suc l) (suc d) e bs h is =
    let m = means_unnamed synthesizes l d e (without_block_at (suc d) bs) (all_closed (λ (b : Block). b.depth ≢ e) (suc d) bs h) (omega (arith, is)) in
    record { further = label_here synthesizes (suc d) bs ∷ m.further; is = ap (after (label_here synthesizes (suc d) bs)) m.is }

-- ---- The result of looking up a label

target_own : (xs : List Label) → target (length xs) xs ≡ Own
target_own [] = refl
target_own (x ∷ xs) = ap (after x) (target_own xs)

target_nothing : (l : ℕ) (xs : List Label) → length xs < l → target l xs ≡ Nothing
target_nothing zero xs lt = absurd (omega (arith, lt))
target_nothing (suc l) [] lt = refl
target_nothing (suc l) (x ∷ xs) lt = ap (after x) (target_nothing l xs (omega (arith, lt)))

or_false : (b : Bool) → (b || false) ≡ b
or_false true = refl
or_false false = refl

pub found_own : (l : ℕ) (xs : List Label) → length xs ≡ l → found_among [] xs l ≡ ByNumber
found_own l xs e = ap (found_by [] (length xs) l) (ap (λ n. target n xs) (sym e) ∙ target_own xs)

pub found_nothing : (l : ℕ) (xs : List Label) → length xs < l → found_among [] xs l ≡ ToNothing
found_nothing l xs lt = ap (found_by [] (length xs) l) (target_nothing l xs lt)

pub found_at_name : (synthesizes : Bool) (l d : ℕ) (bs : List Block) (b : Block) (hidden : Bool) (s : StandsAtDepth bs b.depth b hidden) → Descend (depths bs) → AreBelow (suc d) (depths bs) → b.depth + l ≡ d
    → list_any (same_given b.name) s.front ≡ hidden → found_among [] (labels_from synthesizes bs (suc d)) l ≡ found_named b.name hidden
found_at_name synthesizes l d bs b hidden s descend below e h =
    let m = means_named synthesizes l d s.front s.rest b (subst (λ cs. Descend (depths cs)) s.is descend) (subst (λ cs. AreBelow (suc d) (depths cs)) s.is below) e in
    let i : target l (labels_from synthesizes bs (suc d)) ≡ Around (Some b.name) m.further = ap (λ cs. target l (labels_from synthesizes cs (suc d))) s.is ∙ m.is in
    ap (found_by [] (length (labels_from synthesizes bs (suc d))) l) i ∙ ap (found_named b.name) (or_false (is_hidden b.name m.further) ∙ (m.hidden ∙ h))

none_hides : (n : Named) (xs : List Label) → n.given ≡ None → is_hidden n xs ≡ false
none_hides n [] e = refl
none_hides n (x ∷ xs) e = ap (λ (b : Bool). b || is_hidden n xs) (one x) ∙ none_hides n xs e
  where
    same : (a b : Option (List ℕ)) → b ≡ None → same_name a b ≡ false
    same None b h = refl
    same (Some s) None h = refl
    same (Some s) (Some t) h = absurd cc

    one : (x : Label) → hides n x ≡ false
    one None = refl
    one (Some m) = same m.given n.given e

abbrev synthesized : ℕ → Named
synthesized d = record { given = None; content = codes "#label" ++ decimal d }

-- The result for a label without a name: its synthesized identifier, or the number of the block.
abbrev pub unnamed_found : Label → ℕ → Found
unnamed_found None n = ToBlock n
unnamed_found (Some y) n = ByName y

pub found_unnamed : (synthesizes : Bool) (l d e : ℕ) (bs : List Block) → AllByRecursion (λ b. b.depth ≢ e) bs → e + l ≡ d
    → found_among [] (labels_from synthesizes bs (suc d)) l ≡ unnamed_found (unnamed_label synthesizes e) (suc d - l)
found_unnamed synthesizes l d e bs h is =
    let m = means_unnamed synthesizes l d e bs h is in
    ap (found_by [] (length (labels_from synthesizes bs (suc d))) l) m.is ∙ by synthesizes m.further
  where
    by : (b : Bool) (further : List Label) → found_by [] (length (labels_from synthesizes bs (suc d))) l (Around (unnamed_label b e) further) ≡ unnamed_found (unnamed_label b e) (suc d - l)
    by true further = ap (found_named (synthesized e)) (or_false (is_hidden (synthesized e) further) ∙ none_hides (synthesized e) further refl)
    by false further = ap (λ n. ToBlock (n - l)) (labels_length synthesizes bs (suc d))
