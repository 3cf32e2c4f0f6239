-- Operators and functions take all hints of a well-formed section: each hint reaches its operator, and each entry
-- its function.
use Rattle.std.proofs.Common.{◌≡◌, ℕ, suc, ◌+◌, ◌-◌, ◌<◌, ◌≤◌, eqb, ltb, Bool, true, false, cond, List, [], ◌∷◌, ◌++◌, Option, Some, None, refl, sym, ap, ap₂, ◌∙◌, subst, map, option_map, arith, inl, inr, ◌⊎◌}
use Rattle.std.specs.List.{AllByRecursion}
use Rattle.std.specs.Prelude.{slice_get}
use Rattle.std.proofs.lemmas.Bool.{and_parts, eqb-true, eqb-false, eq-eqb, ne_eqb, ltb-true, ltb-false, le-ltb, cases_lt}
use Rattle.wasmprinter_spec.specs.Grammar.{Placed, ◌>>=◌, bind_some, some_is}
use Rattle.wasmprinter_spec.specs.Operator.{Operator}
use Rattle.wasmprinter_spec.specs.Placed.{Body, PlacedFunction}
use Rattle.wasmprinter_spec.specs.Customs.Hints.{Hint, FunctionHints}
use Rattle.wasmprinter_spec.specs.HintsOfModule.{OperatorHint, operator_hint, number_at, hint_in, body_at, entry_hints, all_hints, rise, offsets_rise}
use Rattle.wasmprinter_spec.specs.Text.Items.{each}
use Rattle.wasmprinter_laws.proofs.Ranged.{ArePlaced, IsRangedFunction}
use Rattle.wasmprinter_laws.proofs.Hints.Bodies.{taken_hints, all_taken}

-- ---- increasing numbers

-- All numbers are greater than `a`.
abbrev AreOver : ℕ → List ℕ → Type 0
AreOver a bs = AllByRecursion (λ b. a < b) bs

over_greater : (a b : ℕ) (cs : List ℕ) → a ≤ b → AreOver b cs → AreOver a cs
over_greater a b [] le h = tt
over_greater a b (c ∷ cs) le h = (omega (arith, le, h.0), over_greater a b cs le h.1)

rise_over : (a : ℕ) (bs : List ℕ) → rise (a ∷ bs) ≡ true → AreOver a bs
rise_over a [] h = tt
rise_over a (b ∷ bs) h =
    let parts = and_parts (ltb a b) (rise (b ∷ bs)) h in
    let lt : a < b = ltb-true a b parts.0 in
    (lt, over_greater a b bs (omega (arith, lt)) (rise_over b bs parts.1))

rise_tail : (a : ℕ) (bs : List ℕ) → rise (a ∷ bs) ≡ true → rise bs ≡ true
rise_tail a [] h = refl
rise_tail a (b ∷ bs) h = (and_parts (ltb a b) (rise (b ∷ bs)) h).1

-- ---- operators

-- An operator that starts before the place is skipped.
passed : (place k : ℕ) (o : Placed Operator) (os : List (Placed Operator)) → o.place < place → number_at place k (o ∷ os) ≡ number_at place (k + 1) os
passed place k o os lt = rw (ne_eqb o.place place (λ e. omega (arith, lt, e)))

-- If an operator is found at a place, the place is not before the first operator.
found_after : (place low k : ℕ) (os : List (Placed Operator)) (n : ℕ) → ArePlaced low os → number_at place k os ≡ Some n → low ≤ place
found_after place low k [] n h e = absurd cc
found_after place low k (o ∷ os) n h e = by (eqb o.place place) refl e (λ f. found_after place (suc o.place) (k + 1) os n h.1 f)
  where
    by : (t : Bool) → eqb o.place place ≡ t → cond t (Some k) (number_at place (k + 1) os) ≡ Some n → (number_at place (k + 1) os ≡ Some n → suc o.place ≤ place) → low ≤ place
    by true same f more = omega (arith, h.0, eqb-true o.place place same)
    by false other f more = omega (arith, h.0, more f)

mapped_some : {A B : Type 0} (g : A → B) (o : Option A) (y : B) → option_map g o ≡ Some y → (x : A) × (o ≡ Some x)
mapped_some g None y e = absurd cc
mapped_some g (Some x) y e = (x, refl)

module _ (f body : ℕ) where
  -- The operator of a hint in a body, among the operators from k on
  abbrev hint_from : ℕ → List (Placed Operator) → Placed Hint → Option OperatorHint
  hint_from k os h = option_map (λ n. operator_hint f n h.value.taken) (number_at (body + h.value.offset) k os)

  abbrev offsets : List (Placed Hint) → List ℕ
  offsets hs = map (λ h. h.value.offset) hs

  -- Hints after an operator are not those of that operator.
  each_passed : (k : ℕ) (o : Placed Operator) (os : List (Placed Operator)) (hs : List (Placed Hint)) (a : ℕ) → o.place ≤ body + a → AreOver a (offsets hs) →
      each (hint_from k (o ∷ os)) hs ≡ each (hint_from (k + 1) os) hs
  each_passed k o os [] a le h = refl
  each_passed k o os (x ∷ hs) a le h =
      let lt : o.place < body + x.value.offset = omega (arith, le, h.0) in
      rw (passed (body + x.value.offset) k o os lt, each_passed k o os hs a le h.1)

  -- Without hints, operators take none.
  none_taken : (k : ℕ) (os : List (Placed Operator)) → taken_hints f k body [] os ≡ []
  none_taken k [] = refl
  none_taken k (o ∷ os) = none_taken (k + 1) os

  -- Operator o takes the hint.
  taken_here : (k : ℕ) (o : Placed Operator) (os : List (Placed Operator)) (h : Placed Hint) (hs : List (Placed Hint)) (rs : List OperatorHint) → o.place ≡ body + h.value.offset →
      AreOver h.value.offset (offsets hs) → each (hint_from k (o ∷ os)) (h ∷ hs) ≡ Some rs →
      ((ts : List OperatorHint) → each (hint_from (k + 1) os) hs ≡ Some ts → taken_hints f (k + 1) body hs os ≡ ts) → taken_hints f k body (h ∷ hs) (o ∷ os) ≡ rs
  taken_here k o os h hs rs same over e more =
      let (found, is_found, rest) =
      bind_some (hint_from k (o ∷ os) h) (λ y. each (hint_from k (o ∷ os)) hs >>= λ ys. Some (y ∷ ys)) rs e in
      let (others, are_others, result) = bind_some (each (hint_from k (o ∷ os)) hs) (λ ys. Some (found ∷ ys)) rs rest in
      let own : hint_from k (o ∷ os) h ≡ Some (operator_hint f k h.value.taken) =
      ap (λ t. option_map (λ n. operator_hint f n h.value.taken) (cond t (Some k) (number_at (body + h.value.offset) (k + 1) os))) (eq-eqb o.place (body + h.value.offset) same) in
      let first : operator_hint f k h.value.taken ≡ found = some_is (operator_hint f k h.value.taken) found (sym own ∙ is_found) in
      let after : taken_hints f (k + 1) body hs os ≡ others =
      more others (sym (each_passed k o os hs h.value.offset (omega (arith, same)) over) ∙ are_others) in
      let takes : eqb h.value.offset (o.place - body) ≡ true = eq-eqb h.value.offset (o.place - body) (omega (arith, same)) in
      rw takes (ap₂ (λ x y. x ∷ y) first after ∙ some_is (found ∷ others) rs result)

  -- Operator o takes no hint.
  taken_later : (k : ℕ) (o : Placed Operator) (os : List (Placed Operator)) (h : Placed Hint) (hs : List (Placed Hint)) (rs : List OperatorHint) → body ≤ o.place →
      ArePlaced (suc o.place) os → eqb o.place (body + h.value.offset) ≡ false → AreOver h.value.offset (offsets hs) → each (hint_from k (o ∷ os)) (h ∷ hs) ≡ Some rs →
      (each (hint_from (k + 1) os) (h ∷ hs) ≡ Some rs → taken_hints f (k + 1) body (h ∷ hs) os ≡ rs) → taken_hints f k body (h ∷ hs) (o ∷ os) ≡ rs
  taken_later k o os h hs rs le p other over e more =
      let moved : hint_from k (o ∷ os) h ≡ hint_from (k + 1) os h =
      ap (λ t. option_map (λ n. operator_hint f n h.value.taken) (cond t (Some k) (number_at (body + h.value.offset) (k + 1) os))) other in
      let one = bind_some (hint_from k (o ∷ os) h) (λ y. each (hint_from k (o ∷ os)) hs >>= λ ys. Some (y ∷ ys)) rs e in
      let found = mapped_some (λ n. operator_hint f n h.value.taken) (number_at (body + h.value.offset) (k + 1) os) one.0 (sym moved ∙ one.1) in
      let after : suc o.place ≤ body + h.value.offset = found_after (body + h.value.offset) (suc o.place) (k + 1) os found.0 p found.1 in
      let rest : each (hint_from k (o ∷ os)) hs ≡ each (hint_from (k + 1) os) hs = each_passed k o os hs h.value.offset (omega (arith, after)) over in
      let all : each (hint_from (k + 1) os) (h ∷ hs) ≡ Some rs = ap₂ (λ x y. x >>= λ z. y >>= λ zs. Some (z ∷ zs)) (sym moved) (sym rest) ∙ e in
      let leaves : eqb h.value.offset (o.place - body) ≡ false =
      ne_eqb h.value.offset (o.place - body) (λ same. eqb-false o.place (body + h.value.offset) other (omega (arith, le, same))) in
      rw leaves (more all)

  pub some_taken : (k low : ℕ) (os : List (Placed Operator)) → body ≤ low → ArePlaced low os → (hs : List (Placed Hint)) → rise (offsets hs) ≡ true → (rs : List OperatorHint) →
      each (hint_from k os) hs ≡ Some rs → taken_hints f k body hs os ≡ rs
  some_taken k low os le p [] up rs e = none_taken k os ∙ some_is [] rs e
  some_taken k low [] le p (h ∷ hs) up rs e = absurd cc
  some_taken k low (o ∷ os) le p (h ∷ hs) up rs e =
      let over : AreOver h.value.offset (offsets hs) = rise_over h.value.offset (offsets hs) up in
      by (eqb o.place (body + h.value.offset)) refl over
      (λ ts. some_taken (k + 1) (suc o.place) os (omega (arith, le, p.0)) p.1 hs (rise_tail h.value.offset (offsets hs) up) ts)
      (some_taken (k + 1) (suc o.place) os (omega (arith, le, p.0)) p.1 (h ∷ hs) up rs)
    where
      by : (t : Bool) → eqb o.place (body + h.value.offset) ≡ t → AreOver h.value.offset (offsets hs) →
          ((ts : List OperatorHint) → each (hint_from (k + 1) os) hs ≡ Some ts → taken_hints f (k + 1) body hs os ≡ ts) →
          (each (hint_from (k + 1) os) (h ∷ hs) ≡ Some rs → taken_hints f (k + 1) body (h ∷ hs) os ≡ rs) → taken_hints f k body (h ∷ hs) (o ∷ os) ≡ rs
      by true same over here later = taken_here k o os h hs rs (eqb-true o.place (body + h.value.offset) same) over e here
      by false other over here later = taken_later k o os h hs rs (omega (arith, le, p.0)) p.1 other over e later

-- ---- functions

abbrev functions_of : List FunctionHints → List ℕ
functions_of es = map (λ e. e.function) es

-- Functions with bodies are numbered after the imported ones. Without any, there is no body at any index.
no_body : (i g : ℕ) → body_at i [] g ≡ None
no_body i g = by (ltb g i)
  where
    by : (t : Bool) → cond t None (option_map (λ (x : PlacedFunction). x.body) (slice_get [] (g - i))) ≡ None
    by true = refl
    by false = refl

first_body : (i g : ℕ) (f : PlacedFunction) (fs : List PlacedFunction) → g ≡ i → body_at i (f ∷ fs) g ≡ Some f.body
first_body i g f fs same =
    let zero_after : g - i ≡ 0 = omega (arith, same) in
    rw (le-ltb g i (omega (arith, same)), zero_after)

later_body : (i g : ℕ) (f : PlacedFunction) (fs : List PlacedFunction) → i < g → body_at i (f ∷ fs) g ≡ body_at (i + 1) fs g
later_body i g f fs lt =
    let after : g - i ≡ suc (g - (i + 1)) = omega (arith, lt) in
    rw (le-ltb g i (omega (arith, lt)), le-ltb g (i + 1) (omega (arith, lt)), after)

-- A function with a body is not imported.
is_defined : (i g : ℕ) (fs : List PlacedFunction) (b : Placed Body) → body_at i fs g ≡ Some b → i ≤ g
is_defined i g fs b e = by (ltb g i) refl e
  where
    by : (t : Bool) → ltb g i ≡ t → cond t None (option_map (λ x. x.body) (slice_get fs (g - i))) ≡ Some b → i ≤ g
    by true lt k = absurd cc
    by false ge k = ltb-false g i ge

entries_later : (i : ℕ) (f : PlacedFunction) (fs : List PlacedFunction) (es : List FunctionHints) → AreOver i (functions_of es) → all_hints i (f ∷ fs) es ≡ all_hints (i + 1) fs es
entries_later i f fs [] over = refl
entries_later i f fs (e ∷ es) over = rw (later_body i e.function f fs over.0, entries_later i f fs es over.1)

none_of_functions : (i : ℕ) (fs : List PlacedFunction) → all_taken [] i fs ≡ []
none_of_functions i [] = refl
none_of_functions i (f ∷ fs) = rw (none_taken i f.body.place 0 f.body.value.operators, none_of_functions (i + 1) fs)

-- Function i takes the entry.
entry_here : (i : ℕ) (f : PlacedFunction) (fs : List PlacedFunction) (e : FunctionHints) (es : List FunctionHints) (rs : List OperatorHint) → IsRangedFunction f →
    rise (offsets i f.body.place e.hints) ≡ true → AreOver i (functions_of es) → e.function ≡ i → all_hints i (f ∷ fs) (e ∷ es) ≡ Some rs →
    ((ts : List OperatorHint) → all_hints (i + 1) fs es ≡ Some ts → all_taken es (i + 1) fs ≡ ts) → all_taken (e ∷ es) i (f ∷ fs) ≡ rs
entry_here i f fs e es rs h up over same k more =
    let (found, are_found, after) =
    bind_some (entry_hints i (f ∷ fs) e) (λ hs. all_hints i (f ∷ fs) es >>= λ rest. Some (hs ++ rest)) rs k in
    let (others, are_others, result) = bind_some (all_hints i (f ∷ fs) es) (λ rest. Some (found ++ rest)) rs after in
    let body : entry_hints i (f ∷ fs) e ≡ each (hint_in e.function f.body) e.hints =
    ap (λ b. b >>= λ x. each (hint_in e.function x) e.hints) (first_body i e.function f fs same) in
    let own : each (hint_in i f.body) e.hints ≡ Some found = ap (λ g. each (hint_in g f.body) e.hints) (sym same) ∙ sym body ∙ are_found in
    let taken : taken_hints i 0 f.body.place e.hints f.body.value.operators ≡ found =
    some_taken i f.body.place 0 f.body.place f.body.value.operators (omega arith) h.body.places e.hints up found own in
    let rest : all_taken es (i + 1) fs ≡ others = more others (sym (entries_later i f fs es over) ∙ are_others) in
    rw (eq-eqb e.function i same) (ap₂ (λ x y. x ++ y) taken rest ∙ some_is (found ++ others) rs result)

-- Function i takes no entry.
entry_later : (i : ℕ) (f : PlacedFunction) (fs : List PlacedFunction) (e : FunctionHints) (es : List FunctionHints) (rs : List OperatorHint) →
    AreOver e.function (functions_of es) → eqb e.function i ≡ false → all_hints i (f ∷ fs) (e ∷ es) ≡ Some rs →
    (all_hints (i + 1) fs (e ∷ es) ≡ Some rs → all_taken (e ∷ es) (i + 1) fs ≡ rs) → all_taken (e ∷ es) i (f ∷ fs) ≡ rs
entry_later i f fs e es rs over other k more =
    let one = bind_some (entry_hints i (f ∷ fs) e) (λ hs. all_hints i (f ∷ fs) es >>= λ rest. Some (hs ++ rest)) rs k in
    let body = bind_some (body_at i (f ∷ fs) e.function) (λ b. each (hint_in e.function b) e.hints) one.0 one.1 in
    let le : i ≤ e.function = is_defined i e.function (f ∷ fs) body.0 body.1 in
    let differs : e.function ≡ i → ⊥ = eqb-false e.function i other in
    let lt : i < e.function = by_order le differs in
    let all : AreOver i (functions_of (e ∷ es)) = (lt, over_greater i e.function (functions_of es) le over) in
    rw other (rw (none_taken i f.body.place 0 f.body.value.operators) (more (sym (entries_later i f fs (e ∷ es) all) ∙ k)))
  where
    by_order : {a b : ℕ} → a ≤ b → (b ≡ a → ⊥) → a < b
    by_order {a} {b} le differs = by (cases_lt a b)
      where
        by : (a < b) ⊎ (b ≤ a) → a < b
        by (inl l) = l
        by (inr l) = absurd (differs (omega (arith, le, l)))

pub functions_take : (i : ℕ) (fs : List PlacedFunction) → AllByRecursion IsRangedFunction fs → (es : List FunctionHints) → rise (functions_of es) ≡ true →
    offsets_rise es ≡ true → (rs : List OperatorHint) → all_hints i fs es ≡ Some rs → all_taken es i fs ≡ rs
functions_take i fs h [] up offs rs k = none_of_functions i fs ∙ some_is [] rs k
functions_take i [] h (e ∷ es) up offs rs k =
    absurd (let none : ◌≡◌ {A = Option (List OperatorHint)} None (Some rs) =
    ap (λ b. (b >>= λ x. each (hint_in e.function x) e.hints) >>= λ hs. all_hints i [] es >>= λ rest. Some (hs ++ rest)) (sym (no_body i e.function)) ∙ k in cc)
functions_take i (f ∷ fs) h (e ∷ es) up offs rs k =
    let over : AreOver e.function (functions_of es) = rise_over e.function (functions_of es) up in
    let parts = and_parts (rise (map (λ x. x.value.offset) e.hints)) (offsets_rise es) offs in
    by (eqb e.function i) refl over parts.0
    (λ ts. functions_take (i + 1) fs h.1 es (rise_tail e.function (functions_of es) up) parts.1 ts) (functions_take (i + 1) fs h.1 (e ∷ es) up offs rs)
  where
    by : (t : Bool) → eqb e.function i ≡ t → AreOver e.function (functions_of es) → rise (offsets i f.body.place e.hints) ≡ true →
        ((ts : List OperatorHint) → all_hints (i + 1) fs es ≡ Some ts → all_taken es (i + 1) fs ≡ ts) →
        (all_hints (i + 1) fs (e ∷ es) ≡ Some rs → all_taken (e ∷ es) (i + 1) fs ≡ rs) → all_taken (e ∷ es) i (f ∷ fs) ≡ rs
    by true same over offsets_up here later =
        let is : e.function ≡ i = eqb-true e.function i same in
        entry_here i f fs e es rs h.0 offsets_up (subst (λ g. AreOver g (functions_of es)) is over) is k here
    by false other over offsets_up here later = entry_later i f fs e es rs over other k later
