-- The innermost block of each number and the block that it hides, as blocks are opened and closed.
use Rattle.std.proofs.Common.{◌≡◌, ◌≢◌, ℕ, zero, suc, ◌+◌, ◌-◌, ◌<◌, ◌≤◌, List, [], ◌∷◌, ◌++◌, length, get_or, take, drop, refl, sym, ap, ◌∙◌, subst, append_assoc, arith, length-append}
use Rattle.std.proofs.Math.Seq.{drop-cons}
use Rattle.std.proofs.lemmas.List.{reverse-append, length-reverse, length-take, length-map, length-set, map-append, take-append-drop, get_or-set_same, get_or-set_other, get_or-map, get_or-reverse}
use Rattle.std.proofs.lemmas.List.Elements.{All-map, recursion_from_All}
use Rattle.std.proofs.lemmas.List.Sorted.{All-permutation, IsPermutation-reverse}
use Rattle.std.proofs.lemmas.Bool.{eqb-true, eqb-false, ltb-true, ltb-false}
use Rattle.std.proofs.lemmas.Cmp.{ranked}
use Rattle.std.specs.Prelude.{Bool, true, false, nat_eq, nat_lt, if◌then◌else◌, map, reverse, Option, Some, None, slice_set}
use Rattle.std.specs.List.{AllByRecursion, list_any}
use Rattle.std.specs.List.Sorted.{IsNonDecreasingBy, IsPartitionPoint}
use Rattle.std.specs.declared.cmp.Ordering.{Ordering}
use Rattle.std.specs.declared.cmp.Ordering.TheVariants.{Less, Equal, Greater}
use Rattle.std.specs.Ordering.{nat_cmp, ordering_index}
use Rattle.std.specs.Option.{option_eq}
use Rattle.wasmprinter_spec.specs.Grammar.{some_is}
use Rattle.wasmprinter_flat.specs.OpenLabels.Stack.{Block, depths, AreBelow, Descend, StandsAtDepth}
use Rattle.wasmprinter_flat.specs.OpenLabels.Blocks.{block_view, blocks_view, innermost_of, Hide, AreKept}
use Rattle.wasmprinter_flat.specs.declared.open_labels.label_shadowing.NamedBlock.{NamedBlock}

nat_eq-other : (a b : ℕ) → nat_eq a b ≡ false → b ≢ a
nat_eq-other a b e h = eqb-false a b e (sym h)

nat_eq-same : (a : ℕ) → nat_eq a a ≡ true
nat_eq-same a = by (nat_eq a a) refl
  where
    by : (b : Bool) → nat_eq a a ≡ b → b ≡ true
    by true e = refl
    by false e = absurd (eqb-false a a e refl)

-- ---- Opening and closing a block

kept_push : (bs : List NamedBlock) (b : NamedBlock) (last : List (Option ℕ)) (old new : ℕ) → AreKept bs last old → AreBelow b.depth (depths (map block_view bs)) → b.name_number < length last
    → b.hides ≡ innermost_of b.name_number bs → old ≤ new → AreKept (b ∷ bs) (slice_set last b.name_number (Some (length bs))) new
kept_push bs b last old new k below few hides le = record {
  descend = (below, k.descend);
  hide = subst (λ (n : ℕ). Hide n (b ∷ bs)) (sym (length-set last b.name_number (Some (length bs)))) (hides, few, k.hide);
  innermost = λ a o lt. by a o (omega (arith, lt, length-set last b.name_number (Some (length bs)))) (nat_eq b.name_number a) refl;
  room = omega (arith, k.room, length-set last b.name_number (Some (length bs)));
}
  where
    by : (a : ℕ) (o : Option ℕ) → a < length last → (hit : Bool) → nat_eq b.name_number a ≡ hit
        → get_or (slice_set last b.name_number (Some (length bs))) a o ≡ (if hit then Some (length bs) else innermost_of a bs)
    by a o lt true e = rw (← eqb-true b.name_number a e) (get_or-set_same last b.name_number (Some (length bs)) o few)
    by a o lt false e = get_or-set_other last b.name_number a (Some (length bs)) o (nat_eq-other b.name_number a e) ∙ k.innermost a o lt

kept_pop : (bs : List NamedBlock) (b : NamedBlock) (last : List (Option ℕ)) (room : ℕ) → AreKept (b ∷ bs) last room → AreKept bs (slice_set last b.name_number b.hides) room
kept_pop bs b last room k =
    let (hides, few, others) = k.hide in
    record {
      descend = k.descend.1;
      hide = subst (λ (n : ℕ). Hide n bs) (sym (length-set last b.name_number b.hides)) others;
      innermost = λ a o lt.
          by a o (omega (arith, lt, length-set last b.name_number b.hides)) (nat_eq b.name_number a) refl
          (k.innermost a o (omega (arith, lt, length-set last b.name_number b.hides)));
      room = omega (arith, k.room, length-set last b.name_number b.hides);
    }
  where
    by : (a : ℕ) (o : Option ℕ) → a < length last → (hit : Bool) → nat_eq b.name_number a ≡ hit → get_or last a o ≡ (if hit then Some (length bs) else innermost_of a bs)
        → get_or (slice_set last b.name_number b.hides) a o ≡ innermost_of a bs
    by a o lt true e h =
        let (hides, few, others) = k.hide in
        rw (← eqb-true b.name_number a e) (get_or-set_same last b.name_number b.hides o few ∙ hides)
    by a o lt false e h = get_or-set_other last b.name_number a b.hides o (nat_eq-other b.name_number a e) ∙ h

-- Adding a block at the end of the stored list, which has the outermost block first, keeps the invariant.
pub pushed : (xs ys : List NamedBlock) (b : NamedBlock) (last : List (Option ℕ)) (old new : ℕ) → ys ≡ xs ++ b ∷ [] → AreKept (reverse xs) last old
    → AreBelow b.depth (depths (blocks_view xs)) → b.name_number < length last → b.hides ≡ innermost_of b.name_number (reverse xs) → old ≤ new
    → AreKept (reverse ys) (slice_set last b.name_number (Some (length xs))) new
pushed xs ys b last old new e k below few hides le =
    subst (λ (zs : List NamedBlock). AreKept zs (slice_set last b.name_number (Some (length xs))) new) (sym (ap reverse e ∙ reverse-append xs (b ∷ [])))
    (subst (λ (n : ℕ). AreKept (b ∷ reverse xs) (slice_set last b.name_number (Some n)) new) (length-reverse xs) (kept_push (reverse xs) b last old new k below few hides le))

pub popped : (xs ys : List NamedBlock) (b : NamedBlock) (last : List (Option ℕ)) (old new : ℕ) → xs ≡ ys ++ b ∷ [] → AreKept (reverse xs) last old → old ≤ new
    → AreKept (reverse ys) (slice_set last b.name_number b.hides) new
popped xs ys b last old new e k le =
    let n = kept_pop (reverse ys) b last old (subst (λ (zs : List NamedBlock). AreKept zs last old) (ap reverse e ∙ reverse-append ys (b ∷ [])) k) in
    record { descend = n.descend; hide = n.hide; innermost = n.innermost; room = omega (arith, n.room, le) }

-- ---- A block among others

hide_at : (limit : ℕ) (front rest : List NamedBlock) (b : NamedBlock) → Hide limit (front ++ b ∷ rest) → b.name_number < limit
hide_at limit [] rest b (hides, few, others) = few
hide_at limit (x ∷ front) rest b (hides, few, others) = hide_at limit front rest b others

-- If the innermost block of b's number is at b's position, no block further in has that number.
shown_at : (front rest : List NamedBlock) (b : NamedBlock) → innermost_of b.name_number (front ++ b ∷ rest) ≡ Some (length rest) → list_any (λ x. nat_eq x.name_number b.name_number) (map block_view front) ≡ false
shown_at [] rest b e = refl
shown_at (x ∷ front) rest b e = by (nat_eq x.name_number b.name_number) refl e (shown_at front rest b)
  where
    by : (hit : Bool) → nat_eq x.name_number b.name_number ≡ hit → (if hit then Some (length (front ++ b ∷ rest)) else innermost_of b.name_number (front ++ b ∷ rest)) ≡ Some (length rest)
        → (innermost_of b.name_number (front ++ b ∷ rest) ≡ Some (length rest) → list_any (λ x. nat_eq x.name_number b.name_number) (map block_view front) ≡ false)
        → list_any (λ x. nat_eq x.name_number b.name_number) (map block_view (x ∷ front)) ≡ false
    by true t h r = let n = some_is (length (front ++ b ∷ rest)) (length rest) h in absurd (omega (arith, n, length-append front (b ∷ rest)))
    by false t h r = rw t (r h)

-- If the innermost block of b's number is not at b's position, a block further in has that number.
hidden_at : (front rest : List NamedBlock) (b : NamedBlock) → innermost_of b.name_number (front ++ b ∷ rest) ≢ Some (length rest) → list_any (λ x. nat_eq x.name_number b.name_number) (map block_view front) ≡ true
hidden_at [] rest b e = absurd (e (rw (nat_eq-same b.name_number) refl))
hidden_at (x ∷ front) rest b e = by (nat_eq x.name_number b.name_number) refl e (hidden_at front rest b)
  where
    by : (hit : Bool) → nat_eq x.name_number b.name_number ≡ hit → (if hit then Some (length (front ++ b ∷ rest)) else innermost_of b.name_number (front ++ b ∷ rest)) ≢ Some (length rest)
        → (innermost_of b.name_number (front ++ b ∷ rest) ≢ Some (length rest) → list_any (λ x. nat_eq x.name_number b.name_number) (map block_view front) ≡ true)
        → list_any (λ x. nat_eq x.name_number b.name_number) (map block_view (x ∷ front)) ≡ true
    by true t h r = rw t refl
    by false t h r = rw t (r h)

pub last_view : (xs ys : List NamedBlock) (b : NamedBlock) → xs ≡ ys ++ b ∷ [] → blocks_view xs ≡ block_view b ∷ blocks_view ys
last_view xs ys b e = ap blocks_view e ∙ ap (map block_view) (reverse-append ys (b ∷ []))

split_at : {X : Type 0} (xs : List X) (p : ℕ) (x : X) → p < length xs → x ≡ get_or xs p x → reverse xs ≡ reverse (drop (suc p) xs) ++ x ∷ reverse (take p xs)
split_at xs p x lt e =
    ap reverse (sym (take-append-drop p xs) ∙ ap (λ ys. take p xs ++ ys) (drop-cons xs p x lt ∙ ap (λ y. y ∷ drop (suc p) xs) (sym e)))
    ∙ reverse-append (take p xs) (x ∷ drop (suc p) xs) ∙ ap (λ ys. ys ++ reverse (take p xs)) (reverse-append (x ∷ []) (drop (suc p) xs))
    ∙ append_assoc (reverse (drop (suc p) xs)) (x ∷ []) (reverse (take p xs))

module _ (xs : List NamedBlock) (last : List (Option ℕ)) (room p d : ℕ) (b : NamedBlock) (k : AreKept (reverse xs) last room) (lt : p < length xs) (e : b ≡ get_or xs p b) where
  pub name_number_below : b.name_number < length last
  name_number_below = hide_at (length last) (reverse (drop (suc p) xs)) (reverse (take p xs)) b (subst (Hide (length last)) (split_at xs p b lt e) k.hide)

  stands : (hidden : Bool) → nat_cmp b.depth d ≡ Equal → list_any (λ x. nat_eq x.name_number b.name_number) (map block_view (reverse (drop (suc p) xs))) ≡ hidden → StandsAtDepth (blocks_view xs) d (block_view b) hidden
  stands hidden same h = record {
    front = map block_view (reverse (drop (suc p) xs));
    rest = map block_view (reverse (take p xs));
    is = ap (map block_view) (split_at xs p b lt e) ∙ map-append block_view (reverse (drop (suc p) xs)) (b ∷ reverse (take p xs));
    depth = ranked b.depth d Equal (sym same);
    hides = h;
  }

  innermost_is : (o : Option ℕ) → o ≡ get_or last b.name_number o → innermost_of b.name_number (reverse (drop (suc p) xs) ++ b ∷ reverse (take p xs)) ≡ o
  innermost_is o i = ap (innermost_of b.name_number) (sym (split_at xs p b lt e)) ∙ (sym (k.innermost b.name_number o name_number_below) ∙ sym i)

  place : length (reverse (take p xs)) ≡ p
  place = omega (arith, length-reverse (take p xs), length-take p xs, lt)

  pub is_shown : (o : Option ℕ) → o ≡ get_or last b.name_number o → nat_cmp b.depth d ≡ Equal → o ≡ Some p → StandsAtDepth (blocks_view xs) d (block_view b) false
  is_shown o i same h = stands false same (shown_at (reverse (drop (suc p) xs)) (reverse (take p xs)) b (innermost_is o i ∙ (h ∙ ap (λ (n : ℕ). Some n) (sym place))))

  pub is_hidden : (o : Option ℕ) → o ≡ get_or last b.name_number o → nat_cmp b.depth d ≡ Equal → o ≢ Some p → StandsAtDepth (blocks_view xs) d (block_view b) true
  is_hidden o i same h = stands true same (hidden_at (reverse (drop (suc p) xs)) (reverse (take p xs)) b (λ q. h (sym (innermost_is o i) ∙ (q ∙ ap (λ (n : ℕ). Some n) place))))

pub found_same : (zs xs : List NamedBlock) (p d : ℕ) (b : NamedBlock) → zs ≡ xs → b ≡ get_or xs p b → ((e : NamedBlock) → nat_cmp (get_or zs p e).depth d ≡ Equal) → nat_cmp b.depth d ≡ Equal
found_same zs xs p d b same e h = ap (λ (x : NamedBlock). nat_cmp x.depth d) (e ∙ ap (λ (l : List NamedBlock). get_or l p b) (sym same)) ∙ h b

pub is_position : (o : Option ℕ) (p : ℕ) → option_eq nat_eq o (Some p) ≡ true → o ≡ Some p
is_position None p e = absurd cc
is_position (Some q) p e = ap (λ (n : ℕ). Some n) (eqb-true q p e)

pub is_other_position : (o : Option ℕ) (p : ℕ) → option_eq nat_eq o (Some p) ≡ false → o ≢ Some p
is_other_position None p e h = absurd cc
is_other_position (Some q) p e h = eqb-false q p e (some_is q p h)

-- ---- No block at a depth

below_at : (d : ℕ) (xs : List ℕ) (i e : ℕ) → AreBelow d xs → i < length xs → get_or xs i e < d
below_at d [] i e h lt = absurd (omega (arith, lt))
below_at d (x ∷ xs) zero e h lt = h.0
below_at d (x ∷ xs) (suc i) e h lt = below_at d xs i e h.1 (omega (arith, lt))

fall_at : (xs : List ℕ) (i j e : ℕ) → Descend xs → i < j → j < length xs → get_or xs j e < get_or xs i e
fall_at [] i j e h lt le = absurd (omega (arith, le))
fall_at (x ∷ xs) i zero e h lt le = absurd (omega (arith, lt))
fall_at (x ∷ xs) zero (suc j) e h lt le = below_at x xs j e h.0 (omega (arith, le))
fall_at (x ∷ xs) (suc i) (suc j) e h lt le = fall_at xs i j e h.1 (omega (arith, lt)) (omega (arith, le))

index_rises : (m n d : ℕ) (r s : Ordering) → r ≡ nat_cmp m d → s ≡ nat_cmp n d → m ≤ n → ordering_index r ≤ ordering_index s
index_rises m n d Less s e f le = omega arith
index_rises m n d Equal Less e f le = let a : m ≡ d = ranked m d Equal e in let b : n < d = ranked n d Less f in absurd (omega (arith, a, b, le))
index_rises m n d Equal Equal e f le = omega arith
index_rises m n d Equal Greater e f le = omega arith
index_rises m n d Greater Less e f le = let a : d < m = ranked m d Greater e in let b : n < d = ranked n d Less f in absurd (omega (arith, a, b, le))
index_rises m n d Greater Equal e f le = let a : d < m = ranked m d Greater e in let b : n ≡ d = ranked n d Equal f in absurd (omega (arith, a, b, le))
index_rises m n d Greater Greater e f le = omega arith

depth_at : (xs : List NamedBlock) (i k : ℕ) (e : NamedBlock) → k + i + 1 ≡ length xs → get_or (depths (blocks_view xs)) k 0 ≡ (get_or xs i e).depth
depth_at xs i k e h =
    let is : length xs - 1 - k ≡ i = omega (arith, h) in
    let lt : k < length (reverse xs) = omega (arith, h, length-reverse xs) in
    let le : k < length (blocks_view xs) = omega (arith, lt, length-map (reverse xs) block_view) in
    get_or-map (λ (b : Block). b.depth) (blocks_view xs) k (block_view e) 0 le ∙ ap (λ (b : Block). b.depth) (get_or-map block_view (reverse xs) k e (block_view e) lt)
    ∙ ap (λ (b : NamedBlock). b.depth) (get_or-reverse xs k e (omega (arith, h)) ∙ ap (λ n. get_or xs n e) is)

-- From the outermost block inward, depths do not decrease.
rise : (xs : List NamedBlock) (i j : ℕ) (e : NamedBlock) → Descend (depths (blocks_view xs)) → i ≤ j → j < length xs → (get_or xs i e).depth ≤ (get_or xs j e).depth
rise xs i j e h le lt = by (nat_eq i j) refl
  where
    by : (same : Bool) → nat_eq i j ≡ same → (get_or xs i e).depth ≤ (get_or xs j e).depth
    by true t = let is : i ≡ j = eqb-true i j t in subst (λ n. (get_or xs i e).depth ≤ (get_or xs n e).depth) is (omega arith)
    by false t =
        let differ : i ≢ j = eqb-false i j t in
        let size : length (depths (blocks_view xs)) ≡ length xs = length-map (blocks_view xs) (λ b. b.depth) ∙ (length-map (reverse xs) block_view ∙ length-reverse xs) in
        let f = fall_at (depths (blocks_view xs)) (length xs - 1 - j) (length xs - 1 - i) 0 h (omega (arith, le, lt, differ)) (omega (arith, le, lt, size)) in
        omega (arith, f, depth_at xs i (length xs - 1 - i) e (omega (arith, le, lt)), depth_at xs j (length xs - 1 - j) e (omega (arith, lt)))

pub none_at : (xs zs : List NamedBlock) (d : ℕ) → zs ≡ xs → Descend (depths (blocks_view xs)) → (i : ℕ)
    → (IsNonDecreasingBy (λ b. ordering_index (nat_cmp b.depth d)) zs → IsPartitionPoint (λ b. nat_cmp b.depth d ≡ Less) (λ b. nat_cmp b.depth d ≡ Greater) zs i)
    → AllByRecursion (λ b. b.depth ≢ d) (blocks_view xs)
none_at xs zs d same h i p =
    recursion_from_All (λ (b : Block). b.depth ≢ d) (blocks_view xs) (All-map (λ (b : Block). b.depth ≢ d) block_view (reverse xs)
    (All-permutation (λ (b : NamedBlock). b.depth ≢ d) xs (reverse xs) (IsPermutation-reverse xs) (λ k e lt. by k e lt (nat_lt k i) refl)))
  where
    parts : IsPartitionPoint (λ b. nat_cmp b.depth d ≡ Less) (λ b. nat_cmp b.depth d ≡ Greater) xs i
    parts = subst (λ (l : List NamedBlock). IsPartitionPoint (λ b. nat_cmp b.depth d ≡ Less) (λ b. nat_cmp b.depth d ≡ Greater) l i) same
        (p (subst (IsNonDecreasingBy (λ b. ordering_index (nat_cmp b.depth d))) (sym same)
        (λ a b e le lt. index_rises (get_or xs a e).depth (get_or xs b e).depth d _ _ refl refl (rise xs a b e h le lt))))

    by : (k : ℕ) (e : NamedBlock) → k < length xs → (low : Bool) → nat_lt k i ≡ low → (get_or xs k e).depth ≢ d
    by k e lt true t q = let a : (get_or xs k e).depth < d = ranked (get_or xs k e).depth d Less (sym (parts.0 k e (omega arith) (ltb-true k i t))) in absurd (omega (arith, a, q))
    by k e lt false t q = let a : d < (get_or xs k e).depth = ranked (get_or xs k e).depth d Greater (sym (parts.1 k e (ltb-false k i t) lt)) in absurd (omega (arith, a, q))
