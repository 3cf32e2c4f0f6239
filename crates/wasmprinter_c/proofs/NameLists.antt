-- The bytes of a list of names determine the names, and a list that is cut off is no list of names.
use Rattle.std.proofs.Common.{◌≡◌, ℕ, ◌+◌, ◌-◌, ◌<◌, ◌≤◌, List, [], ◌∷◌, ◌++◌, length, take, drop, refl, sym, ap, ap₂, ◌∙◌, subst, length-append, take-append-drop, arith}
use Rattle.std.specs.Prelude.{Bool, true, false, ◌||◌, bytes_eq, get_or}
use Rattle.std.proofs.lemmas.List.{length-take-le, take_all}
use Rattle.wasmprinter_spec.specs.Instructions.{little_endian}
use Rattle.wasmprinter_c.specs.Omitted.{StartsWithName, StartsWithNames, IsListOf, IsCut, IsCutAt, has_name}

-- ---- One name

take_front : (x y : List ℕ) → take (length x) (x ++ y) ≡ x
take_front [] y = refl
take_front (b ∷ x) y = ap (λ (t : List ℕ). b ∷ t) (take_front x y)

drop_front : (x y : List ℕ) → drop (length x) (x ++ y) ≡ y
drop_front [] y = refl
drop_front (b ∷ x) y = drop_front x y

-- If two joined lists are equal and their first parts have one length, their parts are equal.
front_same : (x y v w : List ℕ) → length x ≡ length v → x ++ y ≡ v ++ w → x ≡ v
front_same x y v w n e = sym (take_front x y) ∙ ap₂ (λ (k : ℕ) (t : List ℕ). take k t) n e ∙ take_front v w

rest_same : (x y v w : List ℕ) → length x ≡ length v → x ++ y ≡ v ++ w → y ≡ w
rest_same x y v w n e = sym (drop_front x y) ∙ ap₂ (λ (k : ℕ) (t : List ℕ). drop k t) n e ∙ drop_front v w

-- The bytes determine the first name and the rest.
record IsSameName (name rest other left : List ℕ) : Type 0 where
  alike : name ≡ other
  after : rest ≡ left

same_name : (bytes name rest other left : List ℕ) → StartsWithName name bytes rest → StartsWithName other bytes left → IsSameName name rest other left
same_name bytes name rest other left s t =
    let joined : s.size ++ (name ++ rest) ≡ t.size ++ (other ++ left) = sym s.is ∙ t.is in
    let four : length s.size ≡ length t.size = s.four ∙ sym t.four in
    let size : s.size ≡ t.size = front_same s.size (name ++ rest) t.size (other ++ left) four joined in
    let after : name ++ rest ≡ other ++ left = rest_same s.size (name ++ rest) t.size (other ++ left) four joined in
    let long : length name ≡ length other = sym s.sized ∙ ap little_endian size ∙ t.sized in
    record { alike = front_same name rest other left long after; after = rest_same name rest other left long after }

-- Bytes that start with a name are not empty.
not_empty : (bytes name rest : List ℕ) → StartsWithName name bytes rest → bytes ≡ [] → ⊥
not_empty bytes name rest s e =
    let n₁ = ap length (sym s.is ∙ e) in
    let n₂ = length-append s.size (name ++ rest) in
    let four = s.four in
    omega (arith, n₁, n₂, four)

-- The rest is shorter.
pub shorter : (bytes name rest : List ℕ) → StartsWithName name bytes rest → length rest < length bytes
shorter bytes name rest s =
    let n₁ = ap length s.is in
    let n₂ = length-append s.size (name ++ rest) in
    let n₃ = length-append name rest in
    let four = s.four in
    omega (arith, n₁, n₂, n₃, four)

-- Bytes of which the first four are a length, and which are long enough, start with a name.
pub starts : (bytes : List ℕ) (len : ℕ) → 4 ≤ length bytes →
    len ≡ little_endian (get_or bytes 0 0 ∷ (get_or bytes 1 0 ∷ (get_or bytes 2 0 ∷ (get_or bytes 3 0 ∷ [])))) →
    len ≤ length (take (length bytes - 4) (drop 4 bytes)) →
    StartsWithName (take len (take (length bytes - 4) (drop 4 bytes))) bytes (drop len (take (length bytes - 4) (drop 4 bytes)))
starts [] len four n h = absurd (omega (arith, four))
starts (a ∷ []) len four n h = absurd (omega (arith, four))
starts (a ∷ (b ∷ [])) len four n h = absurd (omega (arith, four))
starts (a ∷ (b ∷ (c ∷ []))) len four n h = absurd (omega (arith, four))
starts (a ∷ (b ∷ (c ∷ (d ∷ more)))) len four n h =
    let size : List ℕ = a ∷ (b ∷ (c ∷ (d ∷ []))) in
    let all : take (length (size ++ more) - 4) more ≡ more = take_all (length (size ++ more) - 4) more (omega arith) in
    subst (λ (t : List ℕ). StartsWithName (take len t) (size ++ more) (drop len t)) (sym all) (record {
      size = size;
      four = omega arith;
      sized = sym n ∙ sym (length-take-le len more (subst (λ (t : List ℕ). len ≤ length t) all h));
      is = ap (λ (t : List ℕ). size ++ t) (sym (take-append-drop len more));
    })

-- ---- Lists

-- One more name at the end.
pub one_more : (names : List (List ℕ)) (bytes name rest left : List ℕ) → StartsWithNames names bytes rest → StartsWithName name rest left →
    StartsWithNames (names ++ name ∷ []) bytes left
one_more [] bytes name rest left s t = (left, subst (λ (b : List ℕ). StartsWithName name b left) (sym s) t, refl)
one_more (x ∷ names) bytes name rest left (more, first, s) t = (more, first, one_more names more name rest left s t)

-- A list of names is not cut off.
never_cut : (names others : List (List ℕ)) (bytes rest : List ℕ) → IsListOf names bytes → StartsWithNames others bytes rest → IsCut rest → ⊥
never_cut [] [] bytes rest l s c = c.0 (sym s ∙ l)
never_cut [] (x ∷ others) bytes rest l (more, first, s) c = not_empty bytes x more first l
never_cut (x ∷ names) [] bytes rest (more, first, l) s c = c.1 x more (subst (λ (b : List ℕ). StartsWithName x b more) s first)
never_cut (x ∷ names) (y ∷ others) bytes rest (more, first, l) (left, other, s) c =
    never_cut names others more rest l (subst (λ (b : List ℕ). StartsWithNames others b rest) (sym (same_name bytes x more y left first other).after) s) c

pub whole_not_cut : (names : List (List ℕ)) (place : ℕ) (bytes : List ℕ) → IsListOf names bytes → IsCutAt place bytes → ⊥
whole_not_cut names place bytes l c = never_cut names c.names bytes c.rest l c.whole c.cut

-- The empty list has no names.
pub no_names : (names : List (List ℕ)) → IsListOf names [] → names ≡ []
no_names [] l = refl
no_names (x ∷ names) (more, first, l) = absurd (not_empty [] x more first refl)

-- ---- The search for a name

-- The names from some place of a list on have the same answer for this name as all of them.
abbrev pub IsLeft : List ℕ → List ℕ → List ℕ → Type 0
IsLeft name list rest = (names : List (List ℕ)) → IsListOf names list → (more : List (List ℕ)) × IsListOf more rest × (has_name names name ≡ has_name more name)

pub all_left : (name list : List ℕ) → IsLeft name list list
all_left name list = λ names l. (names, l, refl)

-- The next name is another one.
pub next_left : (name list rest first left : List ℕ) → IsLeft name list rest → StartsWithName first rest left → bytes_eq first name ≡ false → IsLeft name list left
next_left name list rest first left h s e = λ names l. step (h names l).0 (h names l).1 (has_name names name) (h names l).2
  where
    step : (more : List (List ℕ)) → IsListOf more rest → (answer : Bool) → answer ≡ has_name more name →
        (others : List (List ℕ)) × IsListOf others left × (answer ≡ has_name others name)
    step [] l answer is = absurd (not_empty rest first left s l)
    step (x ∷ more) (tail, own, l) answer is =
        let same = same_name rest x tail first left own s in (
          more,
          subst (λ (b : List ℕ). IsListOf more b) same.after l,
          is ∙ ap (λ (b : Bool). b || has_name more name) (ap (λ (t : List ℕ). bytes_eq t name) same.alike ∙ e),
        )

-- The next name is the one that is looked for.
pub found_left : (name list rest first left : List ℕ) → IsLeft name list rest → StartsWithName first rest left → bytes_eq first name ≡ true →
    (names : List (List ℕ)) → IsListOf names list → true ≡ has_name names name
found_left name list rest first left h s e names l = sym ((h names l).2 ∙ has (h names l).0 (h names l).1)
  where
    has : (more : List (List ℕ)) → IsListOf more rest → has_name more name ≡ true
    has [] k = absurd (not_empty rest first left s k)
    has (x ∷ more) (tail, own, k) =
        ap (λ (b : Bool). b || has_name more name) (ap (λ (t : List ℕ). bytes_eq t name) (same_name rest x tail first left own s).alike ∙ e)

-- No name is left.
pub none_left : (name list rest : List ℕ) → IsLeft name list rest → ((first left : List ℕ) → ¬ StartsWithName first rest left) →
    (names : List (List ℕ)) → IsListOf names list → false ≡ has_name names name
none_left name list rest h none names l = sym ((h names l).2 ∙ has (h names l).0 (h names l).1)
  where
    has : (more : List (List ℕ)) → IsListOf more rest → has_name more name ≡ false
    has [] k = refl
    has (x ∷ more) (tail, own, k) = absurd (none x tail own)
