-- A label means the intended block, whether it is printed by its identifier or by its number.
use Rattle.std.proofs.Common.{◌≡◌, ℕ, zero, suc, ◌<◌, ◌-◌, ◌^◌, Bool, true, false, ◌||◌, cond, List, [], ◌∷◌, ◌++◌, Option, Some, None, refl, sym, ap, ◌∙◌, subst, map, length, bytes_eq, decimal, arith, option_map}
use Rattle.std.specs.List.{AllByRecursion}
use Rattle.std.proofs.lemmas.Bool.{or_parts, both_ways, false_from_ne_true, lt-ltb}
use Rattle.wasmprinter_spec.specs.Character.{class}
use Rattle.wasmprinter_spec.specs.Forest.{Forest, End, Word, Name, onto}
use Rattle.wasmprinter_spec.specs.Labels.{Named, Label, LabelNaming, same_name, hides, is_hidden, AreLabelsApart, Target, Around, Own, Nothing, after, target}
use Rattle.wasmprinter_spec.specs.IndexSpaces.{Identifiers, declares}
use Rattle.wasmprinter_spec.specs.Text.Operators.{depth, labels, label, last_apart}
use Rattle.wasmprinter_spec.specs.Layout.Operators.{label_name_pieces, named_pieces, target_pieces, label_pieces, labels_pieces}
use Rattle.wasmprinter_laws.proofs.Tokens.Runs.{is_word}
use Rattle.wasmprinter_laws.proofs.Tokens.Grown.{onto-End}
use Rattle.wasmprinter_laws.proofs.Tokens.Numbers.{natural-decimal, is_word-decimal}
use Rattle.wasmprinter_laws.proofs.Tokens.Printed.{is_remark, is_remark-decimal}
use Rattle.wasmprinter_laws.proofs.Tokens.Pieces.{Free, Bound}
use Rattle.wasmprinter_laws.proofs.Tokens.Writes.{Writes, writing, then}
use Rattle.wasmprinter_laws.specs.Listed.{IsU32}
pub use Rattle.wasmprinter_laws.specs.LabelLaws.{Opened}
use Rattle.wasmprinter_laws.specs.LabelLaws.{LabelsMeanTheirBlocks}
use Rattle.wasmprinter_spec.specs.Names.{IsNamed, IsNamedIfAny}
use Rattle.wasmprinter_laws.proofs.Bytes.{bytes_same, same_bytes}
use Rattle.wasmprinter_laws.proofs.Declarations.{id}
use Rattle.wasmprinter_laws.proofs.Identifiers.{id_and_name_writes, index_writes}
use Rattle.wasmprinter_laws.proofs.Operators.Arguments.{AreArguments, arguments_onto}
use Rattle.wasmprinter_laws.proofs.Operators.Numbers.{index_is_no_word}

-- ---- which labels are open

-- The identifiers of labels, as a reader keeps them
abbrev pub ids : List Label → Identifiers
ids xs = map id xs

module _ (naming : LabelNaming) (apart : AreLabelsApart naming) where
  -- The label that an index means is that of a block with fewer blocks around it than there are labels.
  further_out : (l : ℕ) (xs : List Label) (y : Label) (further : List Label) → Opened naming xs → target l xs ≡ Around y further →
      (i : ℕ) × (d : ℕ) × (d < length xs) × (naming i d ≡ y)
  further_out zero [] y further o e = absurd cc
  further_out (suc l) [] y further o e = absurd cc
  further_out zero (x ∷ xs) y further ((index, own), small, others) e =
      let same : x ≡ y = cc in
      (index, length xs, omega arith, own ∙ same)
  further_out (suc l) (x ∷ xs) y further (own, small, others) e = by (target l xs) refl e (λ z f. further_out l xs z f others)
    where
      by : (t : Target) → target l xs ≡ t → after x t ≡ Around y further →
          ((z : Label) (f : List Label) → target l xs ≡ Around z f → (i : ℕ) × (d : ℕ) × (d < length xs) × (naming i d ≡ z)) →
          (i : ℕ) × (d : ℕ) × (d < suc (length xs)) × (naming i d ≡ y)
      by (Around z f) same g more =
          let (index, around, fewer, is_outer) = more z f same in
          let zy : z ≡ y = cc in
          (index, around, omega (arith, fewer), is_outer ∙ zy)
      by Own same g more = absurd cc
      by Nothing same g more = absurd cc

  -- If a label further in does not hide an identifier, it does not have that identifier.
  not_declared : (x : Label) (xs : List Label) (n : Named) (i j d : ℕ) → d < length xs → length xs < 2 ^ 64 → naming i d ≡ Some n → naming j (length xs) ≡ x →
      hides n x ≡ false → declares n.content (id x) ≡ false
  not_declared None xs n i j d lt small outer inner h = refl
  not_declared (Some m) xs n i j d lt small outer inner h =
      false_from_ne_true (bytes_eq m.content n.content)
      (λ e. both_ways (same_name m.given n.given) h (apart i j d (length xs) n m lt small outer inner (bytes_same m.content n.content e)))

  -- A reader finds an identifier that no label hides at the number of its own label.
  depth-target : (l : ℕ) (xs : List Label) (n : Named) (further : List Label) → Opened naming xs → target l xs ≡ Around (Some n) further →
      is_hidden n further ≡ false →
      depth n.content (ids xs) ≡ Some l
  depth-target zero [] n further o e h = absurd cc
  depth-target (suc l) [] n further o e h = absurd cc
  depth-target zero (x ∷ xs) n further o e h =
      let same : Some n ≡ x = cc in
      subst (λ y. depth n.content (ids (y ∷ xs)) ≡ Some 0) same
      (ap (λ t. cond t (Some 0) (option_map suc (depth n.content (ids xs)))) (same_bytes n.content))
  depth-target (suc l) (x ∷ xs) n further ((own_index, is_own), small, others) e h =
      by (target l xs) refl e (λ f. depth-target l xs n f others)
    where
      by : (t : Target) → target l xs ≡ t → after x t ≡ Around (Some n) further →
          ((f : List Label) → target l xs ≡ Around (Some n) f → is_hidden n f ≡ false → depth n.content (ids xs) ≡ Some l) →
          depth n.content (ids (x ∷ xs)) ≡ Some (suc l)
      by (Around z f) same g more =
          let zn : z ≡ Some n = cc in
          let fs : further ≡ x ∷ f = cc in
          let outer : target l xs ≡ Around (Some n) f = same ∙ ap (λ y. Around y f) zn in
          let parts : (hides n x ≡ false) × (is_hidden n f ≡ false) = or_parts (hides n x) (is_hidden n f) (subst (λ t. is_hidden n t ≡ false) fs h) in
          let (index, around, fewer, is_outer) = further_out l xs (Some n) f others outer in
          let no : declares n.content (id x) ≡ false =
          not_declared x xs n index own_index around fewer small is_outer is_own parts.0 in
          ap (λ t. cond t (Some 0) (option_map suc (depth n.content (ids xs)))) no ∙ ap (option_map suc) (more f outer parts.1)
      by Own same g more = absurd cc
      by Nothing same g more = absurd cc

-- ---- the items of labels

abbrev pub named_items : ℕ → Named → Bool → Forest
named_items l n true = Word (decimal l) End
named_items l n false = Name n.content End

-- `inner` are the labels of blocks further in than those that the operator may mean.
abbrev pub target_items : List Label → ℕ → Target → Forest
target_items inner l (Around (Some n) further) = named_items l n (is_hidden n further || is_hidden n inner)
target_items inner l (Around None further) = Word (decimal l) End
target_items inner l Own = Word (decimal l) End
target_items inner l Nothing = Word (decimal l) End

abbrev pub label_items : List Label → List Label → ℕ → Forest
label_items inner xs l = target_items inner l (target l xs)

abbrev pub labels_items : List Label → List Label → List ℕ → ℕ → Forest
labels_items inner xs [] l = label_items inner xs l
labels_items inner xs (m ∷ ms) l = onto (label_items inner xs m) (labels_items inner xs ms l)

-- ---- the items are arguments

pub label_arguments : (inner xs : List Label) (l : ℕ) → IsU32 l → AreArguments (label_items inner xs l)
label_arguments inner xs l h = by (target l xs)
  where
    named : (n : Named) (t : Bool) → AreArguments (named_items l n t)
    named n true = (index_is_no_word l h, tt)
    named n false = tt

    by : (t : Target) → AreArguments (target_items inner l t)
    by (Around (Some n) further) = named n (is_hidden n further || is_hidden n inner)
    by (Around None further) = (index_is_no_word l h, tt)
    by Own = (index_is_no_word l h, tt)
    by Nothing = (index_is_no_word l h, tt)

pub labels_arguments : (inner xs : List Label) (ls : List ℕ) (l : ℕ) → AllByRecursion IsU32 ls → IsU32 l → AreArguments (labels_items inner xs ls l)
labels_arguments inner xs [] l hs h = label_arguments inner xs l h
labels_arguments inner xs (m ∷ ms) l hs h = arguments_onto (label_items inner xs m) (labels_items inner xs ms l) (label_arguments inner xs m hs.0) (labels_arguments inner xs ms l hs.1 h)

-- ---- the items read back

number_first : (is : Identifiers) (l : ℕ) (f : Forest) (ls : List ℕ) → IsU32 l → labels is f ≡ Some ls →
    labels is (onto (Word (decimal l) End) f) ≡ Some (l ∷ ls)
number_first is l f ls small e = rw (natural-decimal l (omega arith), lt-ltb l (2 ^ 32) small, e)

abbrev pub targets : List ℕ → ℕ → List ℕ
targets [] l = l ∷ []
targets (m ∷ ms) l = m ∷ targets ms l

last_apart-more : (m k : ℕ) (ks ls : List ℕ) (l : ℕ) → last_apart (k ∷ ks) ≡ Some (ls, l) → last_apart (m ∷ (k ∷ ks)) ≡ Some (m ∷ ls, l)
last_apart-more m k ks ls l e = rw e

pub last_apart-targets : (ls : List ℕ) (l : ℕ) → last_apart (targets ls l) ≡ Some (ls, l)
last_apart-targets [] l = refl
last_apart-targets (m ∷ []) l = refl
last_apart-targets (m ∷ k ∷ ks) l = last_apart-more m k (targets ks l) (k ∷ ks) l (last_apart-targets (k ∷ ks) l)

module _ (naming : LabelNaming) (apart : AreLabelsApart naming) (inner xs : List Label) (o : Opened naming xs) where
  -- A printed label before others reads back.
  label_first : (l : ℕ) (f : Forest) (ls : List ℕ) → IsU32 l → labels (ids xs) f ≡ Some ls → labels (ids xs) (onto (label_items inner xs l) f) ≡ Some (l ∷ ls)
  label_first l f ls small e = by (target l xs) refl
    where
      named : (n : Named) (further : List Label) → target l xs ≡ Around (Some n) further → (h : Bool) → (is_hidden n further || is_hidden n inner) ≡ h →
          labels (ids xs) (onto (named_items l n h) f) ≡ Some (l ∷ ls)
      named n further around true h = number_first (ids xs) l f ls small e
      named n further around false h =
          let parts : (is_hidden n further ≡ false) × (is_hidden n inner ≡ false) = or_parts (is_hidden n further) (is_hidden n inner) h in
          let d : depth n.content (ids xs) ≡ Some l = depth-target naming apart l xs n further o around parts.0 in
          rw (d, e)

      by : (t : Target) → target l xs ≡ t → labels (ids xs) (onto (target_items inner l t) f) ≡ Some (l ∷ ls)
      by (Around (Some n) further) around = named n further around (is_hidden n further || is_hidden n inner) refl
      by (Around None further) around = number_first (ids xs) l f ls small e
      by Own around = number_first (ids xs) l f ls small e
      by Nothing around = number_first (ids xs) l f ls small e

  pub labels_read : (ls : List ℕ) (l : ℕ) → AllByRecursion IsU32 ls → IsU32 l → labels (ids xs) (labels_items inner xs ls l) ≡ Some (targets ls l)
  labels_read [] l hs h =
      let e : labels (ids xs) (onto (label_items inner xs l) End) ≡ Some (l ∷ []) = label_first l End [] h refl in
      rw onto-End at e
  labels_read (m ∷ ms) l hs h = label_first m (labels_items inner xs ms l) (targets ms l) hs.0 (labels_read ms l hs.1 h)

  pub label_reads : (l : ℕ) → IsU32 l → label (ids xs) (label_items inner xs l) ≡ Some l
  label_reads l small = let e : labels (ids xs) (label_items inner xs l) ≡ Some (l ∷ []) = labels_read [] l tt small in rw e

-- ---- pieces write the items

is_label-target : (l : ℕ) (xs : List Label) (y : Label) (further : List Label) → AllByRecursion IsNamedIfAny xs → target l xs ≡ Around y further → IsNamedIfAny y
is_label-target zero [] y further h e = absurd cc
is_label-target (suc l) [] y further h e = absurd cc
is_label-target zero (x ∷ xs) y further h e = let same : x ≡ y = cc in subst IsNamedIfAny same h.0
is_label-target (suc l) (x ∷ xs) y further h e = by (target l xs) refl e (λ z f. is_label-target l xs z f h.1)
  where
    by : (t : Target) → target l xs ≡ t → after x t ≡ Around y further → ((z : Label) (f : List Label) → target l xs ≡ Around z f → IsNamedIfAny z) → IsNamedIfAny y
    by (Around z f) same g more = let zy : z ≡ y = cc in subst IsNamedIfAny zy (more z f same)
    by Own same g more = absurd cc
    by Nothing same g more = absurd cc

label_name_writes : (g : Option (List ℕ)) (l : ℕ) (n : Named) → l < 2 ^ 64 → IsNamed n → Writes Free (label_name_pieces g l n) Bound (Name n.content End)
label_name_writes (Some s) l n small h = id_and_name_writes n h
label_name_writes None l n small h = index_writes (Some n) l h small

target_writes : (inner : List Label) (d l : ℕ) (t : Target) → l < 2 ^ 64 → ((n : Named) (f : List Label) → t ≡ Around (Some n) f → IsNamed n) →
    Writes Free (target_pieces inner d l t) Bound (target_items inner l t)
unfolding class
target_writes inner d l (Around (Some n) further) small h = by (is_hidden n further || is_hidden n inner)
  where
    by : (t : Bool) → Writes Free (named_pieces l n t) Bound (named_items l n t)
    by true = search writing
    by false = label_name_writes n.given l n small (h n further refl)
target_writes inner d l (Around None further) small h =
    let depth : is_remark (64 ∷ decimal (d - l)) ≡ true = is_remark-decimal (d - l) in
    search writing
target_writes inner d l Own small h = search writing
target_writes inner d l Nothing small h =
    let word : is_word (decimal l) ≡ true = is_word-decimal l small in
    search writing

pub label_writes : (inner xs : List Label) (l : ℕ) → AllByRecursion IsNamedIfAny xs → IsU32 l → Writes Bound (label_pieces inner xs l) Bound (label_items inner xs l)
unfolding label_pieces
label_writes inner xs l h small =
    let held = target_writes inner (length xs) l (target l xs) (omega arith) (λ n f e. is_label-target l xs (Some n) f h e) in
    search (writing, held)

pub labels_write : (inner xs : List Label) (ls : List ℕ) (l : ℕ) → AllByRecursion IsNamedIfAny xs → AllByRecursion IsU32 ls → IsU32 l →
    Writes Bound (labels_pieces inner xs ls l) Bound (labels_items inner xs ls l)
unfolding labels_pieces
labels_write inner xs [] l h hs small = label_writes inner xs l h small
labels_write inner xs (m ∷ ms) l h hs small = then (label_writes inner xs m h hs.0) (labels_write inner xs ms l h hs.1 small)

-- ---- the law

-- A name is hidden by inner labels joined with further ones exactly if it is hidden by either.
hidden-append : (n : Named) (inner further : List Label) → is_hidden n (inner ++ further) ≡ (is_hidden n further || is_hidden n inner)
hidden-append n [] further = by (is_hidden n further)
  where
    by : (b : Bool) → b ≡ (b || false)
    by true = refl
    by false = refl
hidden-append n (x ∷ xs) further = ap (λ b. hides n x || b) (hidden-append n xs further) ∙ by (hides n x) (is_hidden n further)
  where
    by : (b c : Bool) → (b || (c || is_hidden n xs)) ≡ (c || (b || is_hidden n xs))
    by true true = refl
    by true false = refl
    by false c = refl

pub labels_mean_their_blocks : LabelsMeanTheirBlocks
unfolding label_pieces
labels_mean_their_blocks naming apart inner xs o l n further around = (
  λ clear.
      let shown : (is_hidden n further || is_hidden n inner) ≡ false = sym (hidden-append n inner further) ∙ clear in
      (rw (around, shown) refl, depth-target naming apart l xs n further o around (or_parts (is_hidden n further) (is_hidden n inner) shown).0),
  λ hidden.
      let numbered : (is_hidden n further || is_hidden n inner) ≡ true = sym (hidden-append n inner further) ∙ hidden in
      rw (around, numbered) refl,
)
