-- The effect of one more entry on the store.
use Rattle.std.proofs.Common.{◌≡◌, ℕ, List, [], ◌∷◌, ◌++◌, refl, sym, ap, ◌∙◌, subst, rules, arith, true≢false}
use Rattle.std.proofs.lemmas.Grind.{common_steps}
use Rattle.std.proofs.lemmas.Bool.{eqb-true}
use Rattle.std.proofs.lemmas.Bool.Decides.{nat_tests}
use Rattle.std.proofs.lemmas.List.{append-nil}
use Rattle.std.proofs.lemmas.List.Elements.{filter-append}
use Rattle.std.proofs.lemmas.Map.Text.{is_eq-slice_cmp}
use Rattle.std.specs.Prelude.{Bool, true, false, ◌||◌, ◌&&◌, nat_eq, bytes_eq, Option, Some, None, option_map, Result, Ok, Err, OnOk, OnErr, map, filter, if◌then◌else◌}
use Rattle.std.specs.declared.cmp.Ordering.{Ordering}
use Rattle.std.specs.declared.cmp.Ordering.TheVariants.{Less, Equal, Greater}
use Rattle.std.specs.Ordering.{nat_cmp, ordering_then, is_eq}
use Rattle.std.specs.Cmp.Lexicographic.{slice_cmp}
use Rattle.std.specs.BTreeMap.{is_at}
use Rattle.std.specs.Map.{lookup}
use Rattle.std.specs.BTreeSet.{contains}
use Rattle.std.specs.BTreeSet as set
use Rattle.wasmprinter_spec.specs.Labels.{Named}
use Rattle.wasmprinter_spec.specs.Grammar.{some_is}
use Rattle.wasmprinter_spec.specs.LabelNames.{label_content, label_named}
use Rattle.wasmprinter_spec.specs.Names.Section.{Entry, label_subsection}
use Rattle.wasmprinter_spec.specs.Names.Content.{is_among, entry_name, last_name, is_in, entries_in}
use Rattle.wasmprinter_custom.specs.Views.{given_cmp, key_cmp, content_or, stored_view, item_view, items_view, name_at}
use Rattle.wasmprinter_custom.specs.Lookups.{Gains, stored_at}
use Rattle.wasmprinter_custom.specs.Labels.{HaveLabelIdentifiers}
use Rattle.wasmprinter_custom.specs.HoldsEntries.{names_given, HoldsEntries}
use Rattle.wasmprinter_custom.specs.declared.names.Given.{Given}
use Rattle.wasmprinter_custom.specs.declared.names.Key.{Key}
use Rattle.wasmprinter_custom.specs.declared.names.StoredName.{StoredName}
use Rattle.wasmprinter_custom.specs.declared.names.NamesBuilder.{NamesBuilder}

-- ---- The tests of the set and of the names

eq_then : (a b : Ordering) → is_eq (ordering_then a b) ≡ (is_eq a && is_eq b)
eq_then Less b = refl
eq_then Equal b = refl
eq_then Greater b = refl

eq_cmp : (a b : ℕ) → is_eq (nat_cmp a b) ≡ nat_eq a b
eq_cmp a b = first_of (search rules, grind (arith, common_steps), grind (arith, nat_tests), grind (arith, nat_tests, common_steps))

eq_then3 : (a b c : Ordering) (x y z : Bool) → is_eq a ≡ x → is_eq b ≡ y → is_eq c ≡ z → is_eq (ordering_then a (ordering_then b c)) ≡ ((x && y) && z)
eq_then3 a b c x y z p q r = eq_then a (ordering_then b c) ∙ ap (λ t. is_eq a && t) (eq_then b c) ∙ assoc (is_eq a) (is_eq b) (is_eq c)
    ∙ ap (λ t. (t && is_eq b) && is_eq c) p ∙ ap (λ t. (x && t) && is_eq c) q ∙ ap (λ t. (x && y) && t) r
  where
    assoc : (u v w : Bool) → (u && (v && w)) ≡ ((u && v) && w)
    assoc true v w = refl
    assoc false v w = refl

pub same_key : (p q : Key) → is_at (key_cmp p) q ≡ ((nat_eq p.subsection q.subsection && nat_eq p.outer q.outer) && nat_eq p.index q.index)
same_key p q =
    eq_then3 (nat_cmp p.subsection q.subsection) (nat_cmp p.outer q.outer) (nat_cmp p.index q.index) _ _ _
    (eq_cmp p.subsection q.subsection) (eq_cmp p.outer q.outer) (eq_cmp p.index q.index)

same_given : (p q : Given) → is_at (given_cmp p) q ≡ ((nat_eq p.subsection q.subsection && nat_eq p.outer q.outer) && bytes_eq p.name.now q.name.now)
same_given p q =
    eq_then3 (nat_cmp p.subsection q.subsection) (nat_cmp p.outer q.outer) (slice_cmp nat_cmp p.name.now q.name.now) _ _ _
    (eq_cmp p.subsection q.subsection) (eq_cmp p.outer q.outer) (is_eq-slice_cmp p.name.now q.name.now)

map_if : {A B : Type 0} (f : A → B) (b : Bool) (x : A) (o : Option A) → option_map f (if b then Some x else o) ≡ (if b then Some (f x) else option_map f o)
map_if f true x o = refl
map_if f false x o = refl

and_left : (a b : Bool) → (a && b) ≡ true → a ≡ true
and_left true b e = refl
and_left false b e = absurd (true≢false (sym e))

and_right : (a b : Bool) → (a && b) ≡ true → b ≡ true
and_right true b e = e
and_right false b e = absurd (true≢false (sym e))

-- The name that the list has for a key is the name that its items have there.
at_by : (b : Bool) (x : Named) (o r : Option Named) → o ≡ r → (if b then Some x else o) ≡ (if b then Some x else r)
at_by true x o r e = refl
at_by false x o r e = e

pub name_at-lookup : (es : List (Key × StoredName)) (p : Key) → option_map stored_view (lookup (is_at (key_cmp p)) es) ≡ name_at (map item_view es) p.subsection p.outer p.index
name_at-lookup [] p = refl
name_at-lookup (e ∷ es) p =
    map_if stored_view (is_at (key_cmp p) e.0) e.1 (lookup (is_at (key_cmp p)) es)
    ∙ ap (λ (t : Bool). if t then Some (stored_view e.1) else option_map stored_view (lookup (is_at (key_cmp p)) es)) (same_key p e.0 ∙ flip)
    ∙ at_by _ (stored_view e.1) _ _ (name_at-lookup es p)
  where
    eq_flip : (a b : ℕ) → nat_eq a b ≡ nat_eq b a
    eq_flip a b = first_of (search rules, grind (arith, nat_tests))

    flip : ((nat_eq p.subsection e.0.subsection && nat_eq p.outer e.0.outer) && nat_eq p.index e.0.index)
        ≡ ((nat_eq e.0.subsection p.subsection && nat_eq e.0.outer p.outer) && nat_eq e.0.index p.index)
    flip = rw (eq_flip p.subsection e.0.subsection, eq_flip p.outer e.0.outer, eq_flip p.index e.0.index) refl

-- The names of the items after an insertion.
name_after : (a b : List (Key × StoredName)) (p q : Key) (x : StoredName) → Gains a b p x
    → name_at (items_view b) q.subsection q.outer q.index ≡ (if is_at (key_cmp p) q then Some (stored_view x) else name_at (items_view a) q.subsection q.outer q.index)
name_after a b p q x names =
    sym (name_at-lookup b q) ∙ ap (λ (r : Option StoredName). option_map stored_view r) (names q) ∙ map_if stored_view (is_at (key_cmp p) q) x (stored_at a q)
    ∙ ap (λ (r : Option Named). if is_at (key_cmp p) q then Some (stored_view x) else r) (name_at-lookup a q)

-- An insertion keeps the property that the identifiers of labels consist of their names and numbers.
stays_of_labels : (a b : List (Key × StoredName)) (p : Key) (x : StoredName) → Gains a b p x
    → (p.subsection ≡ label_subsection → content_or x.marked x.given.now ≡ label_content p.index x.given.now)
    → HaveLabelIdentifiers (items_view a) → HaveLabelIdentifiers (items_view b)
stays_of_labels a b p x names content old f n y e synthesizes d = by (is_at (key_cmp p) q) refl (sym (name_after a b p q x names) ∙ e)
  where
    q : Key
    q = record { subsection = label_subsection; outer = f; index = n }

    by : (hit : Bool) → is_at (key_cmp p) q ≡ hit → (if hit then Some (stored_view x) else name_at (items_view a) label_subsection f n) ≡ Some y → label_named synthesizes n d y.given ≡ Some y
    by true t h =
        let same = sym (same_key p q) ∙ t in
        let s : p.subsection ≡ label_subsection = eqb-true p.subsection label_subsection (and_left (nat_eq p.subsection label_subsection) (nat_eq p.outer f) (and_left _ (nat_eq p.index n) same)) in
        let i : p.index ≡ n = eqb-true p.index n (and_right (nat_eq p.subsection label_subsection && nat_eq p.outer f) (nat_eq p.index n) same) in
        subst (λ (z : Named). label_named synthesizes n d z.given ≡ Some z) (some_is (stored_view x) y h)
        (ap (λ (t : List ℕ). Some (record { given = Some x.given.now; content = t })) (ap (λ (k : ℕ). label_content k x.given.now) (sym i) ∙ sym (content s)))
    by false t h = old f n y h synthesizes d

-- The same if the insertion may fail.
pub keeps_of_labels : {X E : Type 0} (r : Result X E) (a b : List (Key × StoredName)) (p : Key) (x : StoredName) → OnOk r (Gains a b p x) → OnErr r (b ≡ a)
    → (p.subsection ≡ label_subsection → content_or x.marked x.given.now ≡ label_content p.index x.given.now)
    → HaveLabelIdentifiers (items_view a) → HaveLabelIdentifiers (items_view b)
keeps_of_labels (Ok r) a b p x names same content old = stays_of_labels a b p x names content old
keeps_of_labels (Err e) a b p x names same content old = subst (λ (es : List (Key × StoredName)). HaveLabelIdentifiers (items_view es)) (sym same) old

-- Two lists with the same name for each key have items with the same names.
pub same_name_at : (a b : List (Key × StoredName)) → ((q : Key) → stored_at b q ≡ stored_at a q) → (s outer index : ℕ)
    → name_at (items_view b) s outer index ≡ name_at (items_view a) s outer index
same_name_at a b same s outer index = sym (name_at-lookup b q) ∙ ap (λ (r : Option StoredName). option_map stored_view r) (same q) ∙ name_at-lookup a q
  where
    q : Key
    q = record { subsection = s; outer = outer; index = index }

pub same_of_labels : (a b : List (Key × StoredName)) → ((q : Key) → stored_at b q ≡ stored_at a q) → HaveLabelIdentifiers (items_view a) → HaveLabelIdentifiers (items_view b)
same_of_labels a b same old f n x e = old f n x (sym (same_name_at a b same label_subsection f n) ∙ e)

or_if : (b c : Bool) → (if b then true else c) ≡ (b || c)
or_if true c = refl
or_if false c = refl

-- ---- One more entry in a list of entries

-- The entry, if it belongs to the space.
abbrev only : Bool → Entry → List Entry
only b e = if b then e ∷ [] else []

filter-one : (p : Entry → Bool) (e : Entry) → filter p (e ∷ []) ≡ only (p e) e
filter-one p e = by (p e) refl
  where
    by : (b : Bool) → p e ≡ b → filter p (e ∷ []) ≡ only b e
    by true h = rw h refl
    by false h = rw h refl

in_more : (s outer : ℕ) (entries : List Entry) (e : Entry) → entries_in s outer (entries ++ e ∷ []) ≡ entries_in s outer entries ++ only (is_in s outer e) e
in_more s outer entries e =
    filter-append (is_in s outer) entries (e ∷ []) ∙ ap (λ (l : List Entry). entries_in s outer entries ++ l) (filter-one (is_in s outer) e)

given_more : (given : List (List ℕ)) (entries : List Entry) (e : Entry) → names_given given (entries ++ e ∷ []) ≡ e.name ∷ names_given given entries
given_more given [] e = refl
given_more given (d ∷ entries) e = given_more (d.name ∷ given) entries e

name_more : (s : ℕ) (given : List (List ℕ)) (before : Option Named) (entries : List Entry) (e : Entry) (i : ℕ)
    → last_name s given before (entries ++ e ∷ []) i
    ≡ (if nat_eq e.index i then Some (entry_name s (names_given given entries) e) else last_name s given before entries i)
name_more s given before [] e i = refl
name_more s given before (d ∷ entries) e i =
    name_more s (d.name ∷ given) (if nat_eq d.index i then Some (entry_name s given d) else before) entries e i

among_by : (xs : List Entry) (e : Entry) (q : List ℕ) (b : Bool) → ((b && bytes_eq e.name q) || is_among q (names_given [] xs)) ≡ is_among q (names_given [] (xs ++ only b e))
among_by xs e q true = sym (ap (is_among q) (given_more [] xs e))
among_by xs e q false = ap (λ (l : List Entry). is_among q (names_given [] l)) (sym (append-nil xs))

name_by : (s : ℕ) (xs : List Entry) (e : Entry) (i : ℕ) (n : Named) (b : Bool) → (b ≡ true → n ≡ entry_name s (names_given [] xs) e)
    → (if b && nat_eq e.index i then Some n else last_name s [] None xs i) ≡ last_name s [] None (xs ++ only b e) i
name_by s xs e i n true h = ap (λ (m : Named). if nat_eq e.index i then Some m else last_name s [] None xs i) (h refl) ∙ sym (name_more s [] None xs e i)
name_by s xs e i n false h = ap (λ (l : List Entry). last_name s [] None l i) (sym (append-nil xs))

-- If the entry belongs to the space, its content is the same by its own subsection and by that of the space.
same_space : (entries : List Entry) (e : Entry) (s outer : ℕ) → is_in s outer e ≡ true
    → entry_name e.subsection (names_given [] (entries_in e.subsection e.outer entries)) e ≡ entry_name s (names_given [] (entries_in s outer entries)) e
same_space entries e s outer h =
    ap (λ (k : ℕ). entry_name k (names_given [] (entries_in k e.outer entries)) e) (eqb-true e.subsection s (and_left (nat_eq e.subsection s) (nat_eq e.outer outer) h))
    ∙ ap (λ (o : ℕ). entry_name s (names_given [] (entries_in s o entries)) e) (eqb-true e.outer outer (and_right (nat_eq e.subsection s) (nat_eq e.outer outer) h))

-- ---- One more entry in the store

pub HoldsEntries-entry : (entries : List Entry) (a b : NamesBuilder) (e : Entry) (g : Given) (p : Key) (x : StoredName)
    → (g.subsection ≡ e.subsection) × (g.outer ≡ e.outer) × (g.name.now ≡ e.name) → (p.subsection ≡ e.subsection) × (p.outer ≡ e.outer) × (p.index ≡ e.index)
    → set.Updates given_cmp a.given b.given g true → Gains a.names b.names p x
    → stored_view x ≡ entry_name e.subsection (names_given [] (entries_in e.subsection e.outer entries)) e
    → HoldsEntries entries a → HoldsEntries (entries ++ e ∷ []) b
HoldsEntries-entry entries a b e g p x gs ps given names is h = record {
  given = λ q.
      given.0 q ∙ or_if (is_at (given_cmp g) q) (contains given_cmp a.given q)
      ∙ ap (λ (t : Bool). t || contains given_cmp a.given q) (same_given g q ∙ ap (λ (k : ℕ). (nat_eq k q.subsection && nat_eq g.outer q.outer) && bytes_eq g.name.now q.name.now) gs.0
      ∙ ap (λ (o : ℕ). (nat_eq e.subsection q.subsection && nat_eq o q.outer) && bytes_eq g.name.now q.name.now) gs.1
      ∙ ap (λ (n : List ℕ). (nat_eq e.subsection q.subsection && nat_eq e.outer q.outer) && bytes_eq n q.name.now) gs.2)
      ∙ ap (λ (t : Bool). (is_in q.subsection q.outer e && bytes_eq e.name q.name.now) || t) (h.given q)
      ∙ among_by (entries_in q.subsection q.outer entries) e q.name.now (is_in q.subsection q.outer e)
      ∙ ap (λ (l : List Entry). is_among q.name.now (names_given [] l)) (sym (in_more q.subsection q.outer entries e));
  names = λ s o i.
      let q : Key = record { subsection = s; outer = o; index = i } in
      sym (name_at-lookup b.names q) ∙ ap (λ (r : Option StoredName). option_map stored_view r) (names q) ∙ map_if stored_view (is_at (key_cmp p) q) x (stored_at a.names q)
      ∙ ap (λ (t : Bool). if t then Some (stored_view x) else option_map stored_view (stored_at a.names q))
      (same_key p q ∙ ap (λ (k : ℕ). (nat_eq k s && nat_eq p.outer o) && nat_eq p.index i) ps.0
      ∙ ap (λ (k : ℕ). (nat_eq e.subsection s && nat_eq k o) && nat_eq p.index i) ps.1 ∙ ap (λ (k : ℕ). (nat_eq e.subsection s && nat_eq e.outer o) && nat_eq k i) ps.2)
      ∙ ap (λ (r : Option Named). if is_in s o e && nat_eq e.index i then Some (stored_view x) else r) (name_at-lookup a.names q ∙ h.names s o i)
      ∙ name_by s (entries_in s o entries) e i (stored_view x) (is_in s o e) (λ t. is ∙ same_space entries e s o t)
      ∙ ap (λ (l : List Entry). last_name s [] None l i) (sym (in_more s o entries e));
}
