-- The tree of a list represents the list. Every list that is well nested and without `try`, `catch`, `catch_all` and `delegate` has
-- a tree.
use Rattle.std.proofs.Common.{subst, ◌≡◌, List, [], ◌∷◌, ◌++◌, map, refl, sym, ◌∙◌, ap, append_assoc, true, false, Option, Some}
use Rattle.std.proofs.lemmas.List.{append-nil, map-append}
use Rattle.wasmprinter_spec.specs.Grammar.{◌>>=◌, bind_some, some_is}
use Rattle.wasmprinter_spec.specs.Row as row
use Rattle.wasmprinter_spec.specs.Row.{Role, Opens, OpensIf, OpensTry, Else, Catches, CatchesAll, Delegates, Ends}
use Rattle.wasmprinter_spec.specs.Nesting.{FramePart, Sequence, Handlers, Nests, none, plain, block, one_armed, two_armed, tried, delegated, no_handler, caught, caught_all}
use Rattle.wasmprinter_spec.specs.Folding.Code.{Item, NestedCode, Done, Plain, Block, If, IfElse, flat, role, After, Outside, InBlock, InIf, with_code, in_front, after_of, whole, nested_code_of, IsFit, AreWithoutTry, TreesRepresentLists, TreesAreUnique, NestedOperatorsHaveTrees, TreesAreNested}

-- ---- from a tree to its list and back

-- Code, followed by more code
abbrev code_after : NestedCode → NestedCode → NestedCode
code_after Done d = d
code_after (Plain x rest) d = Plain x (code_after rest d)
code_after (Block x body end rest) d = Block x body end (code_after rest d)
code_after (If x body end rest) d = If x body end (code_after rest d)
code_after (IfElse x body turn other end rest) d = IfElse x body turn other end (code_after rest d)

code_after-done : (c : NestedCode) → code_after c Done ≡ c
code_after-done Done = refl
code_after-done (Plain x rest) = ap (Plain x) (code_after-done rest)
code_after-done (Block x body end rest) = ap (Block x body end) (code_after-done rest)
code_after-done (If x body end rest) = ap (If x body end) (code_after-done rest)
code_after-done (IfElse x body turn other end rest) = ap (IfElse x body turn other end) (code_after-done rest)

with_code-twice : (f g : NestedCode → NestedCode) (b : After) → with_code f (with_code g b) ≡ with_code (λ c. f (g c)) b
with_code-twice f g (Outside c) = refl
with_code-twice f g (InBlock c end b) = refl
with_code-twice f g (InIf c turn other end b) = refl

with_code-same : (b : After) → with_code (λ c. c) b ≡ b
with_code-same (Outside c) = refl
with_code-same (InBlock c end b) = refl
with_code-same (InIf c turn other end b) = refl

-- If a list continues with `b`, then the operators of some code and this list continue with that code and `b`.
after_of-flat : (c : NestedCode) (xs : List Item) (b : After) → IsFit c → after_of xs ≡ Some b → after_of (flat c ++ xs) ≡ Some (with_code (code_after c) b)
after_of-flat Done xs b h e = e ∙ ap (λ (b : After). Some b) (sym (with_code-same b))
after_of-flat (Plain x rest) xs b h e =
    rw (after_of-flat rest xs b h.1 e, h.0) (ap (λ (b : After). Some b) (with_code-twice (Plain x) (code_after rest) b))
after_of-flat (Block x body end rest) xs b h e =
    let (opens, fit_body, ends, fit_rest) = h in
    let after : after_of (end ∷ (flat rest ++ xs)) ≡ Some (InBlock Done end (with_code (code_after rest) b)) =
    rw (after_of-flat rest xs b fit_rest e, ends) refl in
    let inner : after_of (flat body ++ end ∷ (flat rest ++ xs)) ≡ Some (InBlock body end (with_code (code_after rest) b)) =
    after_of-flat body (end ∷ (flat rest ++ xs)) (InBlock Done end (with_code (code_after rest) b)) fit_body after
    ∙ ap (λ (c : NestedCode). Some (InBlock c end (with_code (code_after rest) b))) (code_after-done body) in
    rw (append_assoc (flat body) (end ∷ flat rest) xs, inner, opens)
    (ap (λ (b : After). Some b) (with_code-twice (Block x body end) (code_after rest) b))
after_of-flat (If x body end rest) xs b h e =
    let (opens, fit_body, ends, fit_rest) = h in
    let after : after_of (end ∷ (flat rest ++ xs)) ≡ Some (InBlock Done end (with_code (code_after rest) b)) =
    rw (after_of-flat rest xs b fit_rest e, ends) refl in
    let inner : after_of (flat body ++ end ∷ (flat rest ++ xs)) ≡ Some (InBlock body end (with_code (code_after rest) b)) =
    after_of-flat body (end ∷ (flat rest ++ xs)) (InBlock Done end (with_code (code_after rest) b)) fit_body after
    ∙ ap (λ (c : NestedCode). Some (InBlock c end (with_code (code_after rest) b))) (code_after-done body) in
    rw (append_assoc (flat body) (end ∷ flat rest) xs, inner, opens)
    (ap (λ (b : After). Some b) (with_code-twice (If x body end) (code_after rest) b))
after_of-flat (IfElse x body turn other end rest) xs b h e =
    let (opens, fit_body, turns, fit_other, ends, fit_rest) = h in
    let far : After = with_code (code_after rest) b in
    let after : after_of (end ∷ (flat rest ++ xs)) ≡ Some (InBlock Done end far) = rw (after_of-flat rest xs b fit_rest e, ends) refl in
    let second : after_of (flat other ++ end ∷ (flat rest ++ xs)) ≡ Some (InBlock other end far) =
    after_of-flat other (end ∷ (flat rest ++ xs)) (InBlock Done end far) fit_other after
    ∙ ap (λ (c : NestedCode). Some (InBlock c end far)) (code_after-done other) in
    let between : after_of (turn ∷ (flat other ++ end ∷ (flat rest ++ xs))) ≡ Some (InIf Done turn other end far) =
    rw (second, turns) refl in
    let first : after_of (flat body ++ turn ∷ (flat other ++ end ∷ (flat rest ++ xs))) ≡ Some (InIf body turn other end far) =
    after_of-flat body (turn ∷ (flat other ++ end ∷ (flat rest ++ xs))) (InIf Done turn other end far) fit_body between
    ∙ ap (λ (c : NestedCode). Some (InIf c turn other end far)) (code_after-done body) in
    rw (append_assoc (flat body) (turn ∷ (flat other ++ end ∷ flat rest)) xs, append_assoc (flat other) (end ∷ flat rest) xs, first, opens)
    (ap (λ (b : After). Some b) (with_code-twice (IfElse x body turn other end) (code_after rest) b))

-- The tree of the list of a tree is that tree.
pub nested_code_of-flat : TreesAreUnique
nested_code_of-flat c h =
    let e : after_of (flat c ++ []) ≡ Some (Outside c) =
    after_of-flat c [] (Outside Done) h refl ∙ ap (λ (c : NestedCode). Some (Outside c)) (code_after-done c) in
    ap (λ (b : Option After). b >>= whole) (ap after_of (sym (append-nil (flat c))) ∙ e)

-- The operators after a position in a list
abbrev flat_after : After → List Item
flat_after (Outside c) = flat c
flat_after (InBlock c end b) = flat c ++ end ∷ flat_after b
flat_after (InIf c turn other end b) = flat c ++ turn ∷ (flat other ++ end ∷ flat_after b)

abbrev IsFitAfter : After → Type 0
IsFitAfter (Outside c) = IsFit c
IsFitAfter (InBlock c end b) = IsFit c × (role end ≡ Ends) × IsFitAfter b
IsFitAfter (InIf c turn other end b) = IsFit c × (role turn ≡ Else) × IsFit other × (role end ≡ Ends) × IsFitAfter b

-- The operators after the position are `xs`, and each is where its role allows it.
abbrev IsTreeOf : List Item → After → Type 0
IsTreeOf xs b = (flat_after b ≡ xs) × IsFitAfter b

-- An operator with this role before the position `b` gives the position `new`.
abbrev Leads : Role → Item → After → After → Type 0
Leads r x b new = role x ≡ r → IsFitAfter b → IsTreeOf (x ∷ flat_after b) new

plain_in_front : (x : Item) (b : After) → Leads row.Plain x b (with_code (Plain x) b)
plain_in_front x (Outside c) e h = (refl, (e, h))
plain_in_front x (InBlock c end b) e (fit, ends, fit_after) = (refl, ((e, fit), ends, fit_after))
plain_in_front x (InIf c turn other end b) e (fit, turns, fit_other, ends, fit_after) =
    (refl, ((e, fit), turns, fit_other, ends, fit_after))

-- Lemma for each constructor of code whose last argument is the code that follows
module _ (f : NestedCode → NestedCode) (xs : List Item) (flat_f : (d : NestedCode) → flat (f d) ≡ xs ++ flat d) (fit_f : (d : NestedCode) → IsFit d → IsFit (f d)) where
  closed_in_front : (b : After) → IsFitAfter b → IsTreeOf (xs ++ flat_after b) (with_code f b)
  closed_in_front (Outside d) h = (flat_f d, fit_f d h)
  closed_in_front (InBlock d end b) (fit, ends, fit_after) = (
    ap (λ (l : List Item). l ++ end ∷ flat_after b) (flat_f d) ∙ append_assoc xs (flat d) (end ∷ flat_after b),
    (fit_f d fit, ends, fit_after),
  )
  closed_in_front (InIf d turn other end b) (fit, turns, fit_other, ends, fit_after) = (
    ap (λ (l : List Item). l ++ turn ∷ (flat other ++ end ∷ flat_after b)) (flat_f d) ∙ append_assoc xs (flat d) (turn ∷ (flat other ++ end ∷ flat_after b)),
    (fit_f d fit, turns, fit_other, ends, fit_after),
  )

-- A list that consists of an operator, a part, another operator and a second part can be grouped before the second
-- part.
in_two : (x : Item) (a b : List Item) (y : Item) → x ∷ (a ++ y ∷ b) ≡ (x ∷ (a ++ y ∷ [])) ++ b
in_two x a b y = simp (append_assoc)

block_in_front : (x : Item) (c : NestedCode) (end : Item) (b : After) → Leads Opens x (InBlock c end b) (with_code (Block x c end) b)
block_in_front x c end b e h =
    let (fit, ends, fit_after) = h in
    let t : IsTreeOf ((x ∷ (flat c ++ end ∷ [])) ++ flat_after b) (with_code (Block x c end) b) =
    closed_in_front (Block x c end) (x ∷ (flat c ++ end ∷ []))
    (λ d. in_two x (flat c) (flat d) end) (λ d i. (e, fit, ends, i)) b fit_after in
    (t.0 ∙ sym (in_two x (flat c) (flat_after b) end), t.1)

if_in_front : (x : Item) (c : NestedCode) (end : Item) (b : After) → Leads OpensIf x (InBlock c end b) (with_code (If x c end) b)
if_in_front x c end b e h =
    let (fit, ends, fit_after) = h in
    let t : IsTreeOf ((x ∷ (flat c ++ end ∷ [])) ++ flat_after b) (with_code (If x c end) b) =
    closed_in_front (If x c end) (x ∷ (flat c ++ end ∷ []))
    (λ d. in_two x (flat c) (flat d) end) (λ d i. (e, fit, ends, i)) b fit_after in
    (t.0 ∙ sym (in_two x (flat c) (flat_after b) end), t.1)

-- The same for three operators and three parts.
in_three : (x : Item) (a b c : List Item) (y z : Item) → x ∷ (a ++ y ∷ (b ++ z ∷ c)) ≡ (x ∷ (a ++ y ∷ (b ++ z ∷ []))) ++ c
in_three x a b c y z = simp (append_assoc)

if_else_in_front : (x : Item) (c : NestedCode) (turn : Item) (other : NestedCode) (end : Item) (b : After) → Leads OpensIf x (InIf c turn other end b) (with_code (IfElse x c turn other end) b)
if_else_in_front x c turn other end b e h =
    let (fit, turns, fit_other, ends, fit_after) = h in
    let t : IsTreeOf ((x ∷ (flat c ++ turn ∷ (flat other ++ end ∷ []))) ++ flat_after b) (with_code (IfElse x c turn other end) b) =
    closed_in_front (IfElse x c turn other end) (x ∷ (flat c ++ turn ∷ (flat other ++ end ∷ [])))
    (λ d. in_three x (flat c) (flat other) (flat d) turn end) (λ d i. (e, fit, turns, fit_other, ends, i)) b fit_after in
    (t.0 ∙ sym (in_three x (flat c) (flat other) (flat_after b) turn end), t.1)

tree_of_some : (xs : List Item) (b new : After) → ◌≡◌ {A = Option After} (Some b) (Some new) → IsTreeOf xs b → IsTreeOf xs new
tree_of_some xs b new e h = subst (IsTreeOf xs) (some_is b new e) h

in_front-tree : (r : Role) (x : Item) (b new : After) → role x ≡ r → IsFitAfter b → in_front r x b ≡ Some new → IsTreeOf (x ∷ flat_after b) new
in_front-tree row.Plain x b new p h e = tree_of_some _ _ new e (plain_in_front x b p h)
in_front-tree Ends x b new p h e = tree_of_some _ _ new e (refl, (tt, p, h))
in_front-tree Else x (InBlock c end b) new p (fit, ends, fit_after) e = tree_of_some _ _ new e (refl, (tt, p, fit, ends, fit_after))
in_front-tree Else x (Outside c) new p h e = absurd cc
in_front-tree Else x (InIf c turn other end b) new p h e = absurd cc
in_front-tree Opens x (InBlock c end b) new p h e = tree_of_some _ _ new e (block_in_front x c end b p h)
in_front-tree Opens x (Outside c) new p h e = absurd cc
in_front-tree Opens x (InIf c turn other end b) new p h e = absurd cc
in_front-tree OpensIf x (InBlock c end b) new p h e = tree_of_some _ _ new e (if_in_front x c end b p h)
in_front-tree OpensIf x (InIf c turn other end b) new p h e = tree_of_some _ _ new e (if_else_in_front x c turn other end b p h)
in_front-tree OpensIf x (Outside c) new p h e = absurd cc
in_front-tree OpensTry x b new p h e = absurd cc
in_front-tree Catches x b new p h e = absurd cc
in_front-tree CatchesAll x b new p h e = absurd cc
in_front-tree Delegates x b new p h e = absurd cc

after_of-tree : (xs : List Item) (b : After) → after_of xs ≡ Some b → IsTreeOf xs b
after_of-tree [] b e = tree_of_some [] (Outside Done) b e (refl, tt)
after_of-tree (x ∷ xs) b e =
    let (place, is_after, result) = bind_some (after_of xs) (in_front (role x) x) b e in
    let t : IsTreeOf xs place = after_of-tree xs place is_after in
    let top : IsTreeOf (x ∷ flat_after place) b = in_front-tree (role x) x place b refl t.1 result in
    (top.0 ∙ ap (λ (l : List Item). x ∷ l) t.0, top.1)

-- The tree of a list is well formed and represents the list.
pub nested_code_of-tree : TreesRepresentLists
nested_code_of-tree xs c e =
    let (place, is_after, result) = bind_some (after_of xs) whole c e in
    of_whole place result (after_of-tree xs place is_after)
  where
    of_whole : (b : After) → whole b ≡ Some c → IsTreeOf xs b → (flat c ≡ xs) × IsFit c
    of_whole (Outside d) e h = subst (λ (c : NestedCode). (flat c ≡ xs) × IsFit c) (some_is d c e) h
    of_whole (InBlock d end b) e h = absurd cc
    of_whole (InIf d turn other end b) e h = absurd cc

-- ---- well-nested operators have a tree

without_try-append : (a b : List Role) → AreWithoutTry a → AreWithoutTry b → AreWithoutTry (a ++ b)
without_try-append [] b h k = k
without_try-append (r ∷ a) b h k = (h.0, without_try-append a b h.1 k)

without_try-parts : (a b : List Role) → AreWithoutTry (a ++ b) → AreWithoutTry a × AreWithoutTry b
without_try-parts [] b h = (tt, h)
without_try-parts (r ∷ a) b h =
    let parts : AreWithoutTry a × AreWithoutTry b = without_try-parts a b h.1 in
    ((h.0, parts.0), parts.1)

-- Operators whose roles consist of two parts and a role between them
record AreParted (xs : List Item) (before : List Role) (between : Role) (code_after : List Role) : Type 0 where
  front : List Item
  middle : Item
  rest : List Item
  are : xs ≡ front ++ middle ∷ rest
  are_before : map role front ≡ before
  is_between : role middle ≡ between
  are_after : map role rest ≡ code_after

parted : (xs : List Item) (before : List Role) (between : Role) (after : List Role) → map role xs ≡ before ++ between ∷ after → AreParted xs before between after
parted [] [] between after e = absurd cc
parted [] (r ∷ before) between after e = absurd cc
parted (x ∷ xs) [] between after e =
    record { front = []; middle = x; rest = xs; are = refl; are_before = refl; is_between = cc; are_after = cc }
parted (x ∷ xs) (r ∷ before) between after e =
    let same : role x ≡ r = cc in
    let p : AreParted xs before between after = parted xs before between after cc in
    record {
      front = x ∷ p.front;
      middle = p.middle;
      rest = p.rest;
      are = ap (λ (l : List Item). x ∷ l) p.are;
      are_before = same_cons (role x) r (map role p.front) before same p.are_before;
      is_between = p.is_between;
      are_after = p.are_after;
    }
  where
    same_cons : (a b : Role) (rs ss : List Role) → a ≡ b → rs ≡ ss → a ∷ rs ≡ b ∷ ss
    same_cons a b rs ss e f = cc

-- A tree that represents these operators
record HasTree (xs : List Item) : Type 0 where
  code : NestedCode
  is_flat : flat code ≡ xs
  is_fit : IsFit code

abbrev Grows : FramePart → List Role → Type 0
Grows Sequence rs = (xs : List Item) → map role xs ≡ rs → AreWithoutTry rs → HasTree xs
Grows Handlers rs = Unit {0}

record AreLed (xs : List Item) (r : Role) (code_after : List Role) : Type 0 where
  first : Item
  rest : List Item
  are : xs ≡ first ∷ rest
  is_first : role first ≡ r
  are_after : map role rest ≡ code_after

led : (xs : List Item) (r : Role) (after : List Role) → map role xs ≡ r ∷ after → AreLed xs r after
led [] r after e = absurd cc
led (x ∷ xs) r after e = record { first = x; rest = xs; are = refl; is_first = cc; are_after = cc }

nothing_grows : (xs : List Item) → map role xs ≡ [] → HasTree xs
nothing_grows [] e = record { code = Done; is_flat = refl; is_fit = tt }
nothing_grows (x ∷ xs) e = absurd cc

-- No operator is `try`, `catch`, `catch_all` or `delegate`.
no_try : true ≡ false → ⊥
no_try e = cc

grows : {part : FramePart} {rs : List Role} → Nests part rs → Grows part rs
grows none = λ xs e h. nothing_grows xs e
grows (plain {rest} n) = λ xs e h.
    let l : AreLed xs row.Plain rest = led xs row.Plain rest e in
    let t : HasTree l.rest = grows n l.rest l.are_after h.1 in
    record { code = Plain l.first t.code; is_flat = ap (λ (ys : List Item). l.first ∷ ys) t.is_flat ∙ sym l.are; is_fit = (l.is_first, t.is_fit) }
grows (block {body} {rest} b n) = λ xs e h.
    let l : AreLed xs Opens (body ++ Ends ∷ rest) = led xs Opens (body ++ Ends ∷ rest) e in
    let p : AreParted l.rest body Ends rest = parted l.rest body Ends rest l.are_after in
    let (in_body, (_, in_rest)) = without_try-parts body (Ends ∷ rest) h.1 in
    let t : HasTree p.front = grows b p.front p.are_before in_body in
    let u : HasTree p.rest = grows n p.rest p.are_after in_rest in
    record {
      code = Block l.first t.code p.middle u.code;
      is_flat = rw (t.is_flat, u.is_flat) (ap (λ (ys : List Item). l.first ∷ ys) (sym p.are) ∙ sym l.are);
      is_fit = (l.is_first, t.is_fit, p.is_between, u.is_fit);
    }
grows (one_armed {body} {rest} b n) = λ xs e h.
    let l : AreLed xs OpensIf (body ++ Ends ∷ rest) = led xs OpensIf (body ++ Ends ∷ rest) e in
    let p : AreParted l.rest body Ends rest = parted l.rest body Ends rest l.are_after in
    let (in_body, (_, in_rest)) = without_try-parts body (Ends ∷ rest) h.1 in
    let t : HasTree p.front = grows b p.front p.are_before in_body in
    let u : HasTree p.rest = grows n p.rest p.are_after in_rest in
    record {
      code = If l.first t.code p.middle u.code;
      is_flat = rw (t.is_flat, u.is_flat) (ap (λ (ys : List Item). l.first ∷ ys) (sym p.are) ∙ sym l.are);
      is_fit = (l.is_first, t.is_fit, p.is_between, u.is_fit);
    }
grows (two_armed {yes} {no} {rest} y o n) = λ xs e h.
    let l : AreLed xs OpensIf (yes ++ Else ∷ (no ++ Ends ∷ rest)) = led xs OpensIf (yes ++ Else ∷ (no ++ Ends ∷ rest)) e in
    let p : AreParted l.rest yes Else (no ++ Ends ∷ rest) = parted l.rest yes Else (no ++ Ends ∷ rest) l.are_after in
    let q : AreParted p.rest no Ends rest = parted p.rest no Ends rest p.are_after in
    let (in_yes, (_, after_yes)) = without_try-parts yes (Else ∷ (no ++ Ends ∷ rest)) h.1 in
    let (in_no, (_, in_rest)) = without_try-parts no (Ends ∷ rest) after_yes in
    let t : HasTree p.front = grows y p.front p.are_before in_yes in
    let s : HasTree q.front = grows o q.front q.are_before in_no in
    let u : HasTree q.rest = grows n q.rest q.are_after in_rest in
    record {
      code = IfElse l.first t.code p.middle s.code q.middle u.code;
      is_flat = rw (t.is_flat, s.is_flat, u.is_flat, sym q.are) (ap (λ (ys : List Item). l.first ∷ ys) (sym p.are) ∙ sym l.are);
      is_fit = (l.is_first, t.is_fit, p.is_between, s.is_fit, q.is_between, u.is_fit);
    }
grows (tried b hs n) = λ xs e h. absurd (no_try h.0)
grows (delegated b n) = λ xs e h. absurd (no_try h.0)
grows no_handler = tt
grows (caught b hs) = tt
grows (caught_all b) = tt

pub nested_code_of-nested : NestedOperatorsHaveTrees
nested_code_of-nested xs n h =
    let t : HasTree xs = grows n xs refl h in
    (t.code, ap nested_code_of (sym t.is_flat) ∙ nested_code_of-flat t.code t.is_fit)

-- ---- operators that have a tree are well nested

-- The roles are well nested, and none is `try`, `catch`, `catch_all` or `delegate`.
abbrev IsNested : List Role → Type 0
IsNested rs = Nests Sequence rs × AreWithoutTry rs

nested-fit : (c : NestedCode) → IsFit c → IsNested (map role (flat c))
nested-fit Done h = (none, tt)
nested-fit (Plain x rest) h =
    let r : IsNested (map role (flat rest)) = nested-fit rest h.1 in
    rw (h.0) (plain r.0, (refl, r.1))
nested-fit (Block x body end rest) h =
    let (opens, fit_body, ends, fit_rest) = h in
    let b : IsNested (map role (flat body)) = nested-fit body fit_body in
    let r : IsNested (map role (flat rest)) = nested-fit rest fit_rest in
    rw (map-append role (flat body) (end ∷ flat rest), opens, ends)
    (block b.0 r.0, (refl, without_try-append _ (Ends ∷ map role (flat rest)) b.1 (refl, r.1)))
nested-fit (If x body end rest) h =
    let (opens, fit_body, ends, fit_rest) = h in
    let b : IsNested (map role (flat body)) = nested-fit body fit_body in
    let r : IsNested (map role (flat rest)) = nested-fit rest fit_rest in
    rw (map-append role (flat body) (end ∷ flat rest), opens, ends)
    (one_armed b.0 r.0, (refl, without_try-append _ (Ends ∷ map role (flat rest)) b.1 (refl, r.1)))
nested-fit (IfElse x body turn other end rest) h =
    let (opens, fit_body, turns, fit_other, ends, fit_rest) = h in
    let b : IsNested (map role (flat body)) = nested-fit body fit_body in
    let o : IsNested (map role (flat other)) = nested-fit other fit_other in
    let r : IsNested (map role (flat rest)) = nested-fit rest fit_rest in
    let at_turn = map-append role (flat body) (turn ∷ (flat other ++ end ∷ flat rest)) in
    let at_end = map-append role (flat other) (end ∷ flat rest) in
    rw (at_turn, at_end, opens, turns, ends) (
      two_armed b.0 o.0 r.0,
      (
        refl,
        without_try-append _ (Else ∷ (map role (flat other) ++ Ends ∷ map role (flat rest))) b.1
            (refl, without_try-append _ (Ends ∷ map role (flat rest)) o.1 (refl, r.1)),
      ),
    )

pub nested_code_of-nests : TreesAreNested
nested_code_of-nests xs c e =
    let t : (flat c ≡ xs) × IsFit c = nested_code_of-tree xs c e in
    subst (λ (ys : List Item). IsNested (map role ys)) t.0 (nested-fit c t.1)
