-- Annotations without a meaning. `Noted f g`: `f` is `g` with an annotation `name` after some of its identifiers.
use Rattle.std.proofs.Common.{◌≡◌, cond, List, ◌∷◌, ◌++◌, ℕ, Bool, true, false, bytes_eq, codes, map, refl, sym, ap, ap₂, ◌∙◌}
use Rattle.std.proofs.lemmas.List.{map-append}
use Rattle.wasmprinter_spec.specs.Forest.{Forest, End, Word, Name, String, Reserved, Group, Note, onto, without_annotations, row_customs, customs}

pub data Noted : Forest → Forest → Type 0 where
  no_items : Noted End End
  a_word : {s : List ℕ} {f g : Forest} → Noted f g → Noted (Word s f) (Word s g)
  a_name : {s : List ℕ} {f g : Forest} → Noted f g → Noted (Name s f) (Name s g)
  a_noted_name : {s : List ℕ} {h f g : Forest} → Noted f g → Noted (Name s (Note (codes "name") h f)) (Name s g)
  a_string : {s : List ℕ} {f g : Forest} → Noted f g → Noted (String s f) (String s g)
  a_reserved : {f g : Forest} → Noted f g → Noted (Reserved f) (Reserved g)
  a_group : {h i f g : Forest} → Noted h i → Noted f g → Noted (Group h f) (Group i g)
  a_note : {id : List ℕ} {h i f g : Forest} → Noted h i → Noted f g → Noted (Note id h f) (Note id i g)

pub noted-same : (f : Forest) → Noted f f
noted-same End = no_items
noted-same (Word s f) = a_word (noted-same f)
noted-same (Name s f) = a_name (noted-same f)
noted-same (String s f) = a_string (noted-same f)
noted-same (Reserved f) = a_reserved (noted-same f)
noted-same (Group h f) = a_group (noted-same h) (noted-same f)
noted-same (Note id h f) = a_note (noted-same h) (noted-same f)

pub noted-onto : {f g h i : Forest} → Noted f g → Noted h i → Noted (onto f h) (onto g i)
noted-onto no_items m = m
noted-onto (a_word n) m = a_word (noted-onto n m)
noted-onto (a_name n) m = a_name (noted-onto n m)
noted-onto (a_noted_name n) m = a_noted_name (noted-onto n m)
noted-onto (a_string n) m = a_string (noted-onto n m)
noted-onto (a_reserved n) m = a_reserved (noted-onto n m)
noted-onto (a_group k n) m = a_group k (noted-onto n m)
noted-onto (a_note k n) m = a_note k (noted-onto n m)

-- Without annotations, both are equal.
pub noted-without_annotations : {f g : Forest} → Noted f g → without_annotations f ≡ without_annotations g
noted-without_annotations no_items = refl
noted-without_annotations (a_word {s} n) = ap (Word s) (noted-without_annotations n)
noted-without_annotations (a_name {s} n) = ap (Name s) (noted-without_annotations n)
noted-without_annotations (a_noted_name {s} n) = ap (Name s) (noted-without_annotations n)
noted-without_annotations (a_string {s} n) = ap (String s) (noted-without_annotations n)
noted-without_annotations (a_reserved n) = ap Reserved (noted-without_annotations n)
noted-without_annotations (a_group k n) = ap₂ Group (noted-without_annotations k) (noted-without_annotations n)
noted-without_annotations (a_note k n) = noted-without_annotations n

-- ---- custom sections

-- The contents of the custom sections among the items of a sequence, and of those among the items of its groups
abbrev pub raw_row : Forest → List Forest
raw_row f = map without_annotations (row_customs f)

abbrev pub raw_groups : Forest → List Forest
raw_groups f = map without_annotations (customs f)

noted-raw_row : {f g : Forest} → Noted f g → raw_row f ≡ raw_row g
noted-raw_row no_items = refl
noted-raw_row (a_word n) = noted-raw_row n
noted-raw_row (a_name n) = noted-raw_row n
noted-raw_row (a_noted_name n) = noted-raw_row n
noted-raw_row (a_string n) = noted-raw_row n
noted-raw_row (a_reserved n) = noted-raw_row n
noted-raw_row (a_group k n) = noted-raw_row n
noted-raw_row (a_note {id} {h} {i} {f} {g} k n) = by (bytes_eq id (codes "custom")) (noted-raw_row n)
  where
    by : (t : Bool) → raw_row f ≡ raw_row g → map without_annotations (cond t (h ∷ row_customs f) (row_customs f)) ≡ map without_annotations (cond t (i ∷ row_customs g) (row_customs g))
    by true e = ap₂ (λ x y. x ∷ y) (noted-without_annotations k) e
    by false e = e

-- Both have the same custom sections among the items of their groups.
pub noted-raw_groups : {f g : Forest} → Noted f g → raw_groups f ≡ raw_groups g
noted-raw_groups no_items = refl
noted-raw_groups (a_word n) = noted-raw_groups n
noted-raw_groups (a_name n) = noted-raw_groups n
noted-raw_groups (a_noted_name n) = noted-raw_groups n
noted-raw_groups (a_string n) = noted-raw_groups n
noted-raw_groups (a_reserved n) = noted-raw_groups n
noted-raw_groups (a_group {h} {i} {f} {g} k n) =
    map-append without_annotations (row_customs h) (customs f)
    ∙ ap₂ (λ x y. x ++ y) (noted-raw_row k) (noted-raw_groups n)
    ∙ sym (map-append without_annotations (row_customs i) (customs g))
noted-raw_groups (a_note k n) = noted-raw_groups n
