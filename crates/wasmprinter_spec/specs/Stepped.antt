-- Items up to the one at which a state stops, such as operators up to the `end` that closes all blocks. Which item
-- is the last depends on those before it; the state is not part of the value. The standard has no such grammar: it
-- nests the operators of a block within the block (section 5.4, "Control Instructions").
use Rattle.std.specs.Prelude.{◌≡◌, ℕ, zero, suc, List, [], ◌∷◌, ◌++◌, ◌+◌, ◌<◌, length, Bool, true, false, Option, Some, None, refl}
use Rattle.std.proofs.Common.{sym, ap, subst, ◌∙◌, arith, append_assoc}
use Rattle.std.proofs.lemmas.List.{length-append}
use Rattle.wasmprinter_spec.specs.Grammar.{Input, input, Spans, Grammar, ◌>>=◌, bind_some, some_is}
use Rattle.wasmprinter_spec.specs.Repeated.{AreItems}

-- The effect of an item on a state: the next state, the end of the items, or a refusal of the item.
pub data Move (S : Type 0) : Type 0 where
  On : S → Move S
  Stop : Move S
  Never : Move S

-- `f s` for the next state s, `x` for the end of the items, `y` for a refusal.
abbrev pub by_move : {S X : Type 0} → Move S → (S → X) → X → X → X
by_move (On s) f x y = f s
by_move Stop f x y = x
by_move Never f x y = y

-- The last item, at which the state stops, and the items before it.
pub record Ended (A : Type 0) : Type 0 where
  pub items : List A
  pub last : A

-- These items, and the last item after them.
abbrev pub list_with_last : {A : Type 0} → List A → A → Ended A
list_with_last xs x = record { items = xs; last = x }

-- Each of the items leads to a next state, and the last item stops.
abbrev pub stops : {A S : Type 0} → (S → A → Move S) → S → List A → A → Bool
stops step s [] last = by_move (step s last) (λ t. false) true false
stops step s (x ∷ xs) last = by_move (step s x) (λ t. stops step t xs last) false false

-- The result of reading with one more item before the others.
abbrev pub in_front : {A : Type 0} → A → Option (Ended A × Input) → Option (Ended A × Input)
in_front a r = r >>= λ x. Some (list_with_last (a ∷ x.0.items) x.0.last, x.1)

module _ {A S : Type 0} (g : Grammar A) (step : S → A → Move S)
    (takes : (p : ℕ) (text : List ℕ) (a : A) → g.spells p text a → 0 < length text) where
  -- The bytes encode the items, one after the other, and then the last item, at which the state stops.
  abbrev pub Stepped : S → ℕ → List ℕ → Ended A → Type 0
  Stepped s p text x =
      (t u : List ℕ) × (text ≡ t ++ u) × AreItems g p t x.items × g.spells (p + length t) u x.last × (stops step s x.items x.last ≡ true)

  -- Reads at most n items, the last one included. Each item consumes a byte, so there are no more items than bytes.
  abbrev pub items_by_steps_of : ℕ → S → Input → Option (Ended A × Input)
  items_by_steps_of zero s at = None
  items_by_steps_of (suc n) s at =
      g.parse at >>= λ x. by_move (step s x.0) (λ t. in_front x.0 (items_by_steps_of n t x.1)) (Some (list_with_last [] x.0, x.1)) None

  push : (s t : S) (at : Input) (x : A × Input) (y : Ended A × Input) → (f : Spans g.spells at x) → step s x.0 ≡ On t →
      (r : Spans (Stepped t) x.1 y) → Spans (Stepped s) at (list_with_last (x.0 ∷ y.0.items) y.0.last, y.1)
  push s t at x y f e r =
      let (others, last, joined, are_items, last_spelled, stop) = r.spelled in
      let l : x.1.place + length others ≡ at.place + length (f.text ++ others) = omega (arith, f.ends, length-append f.text others) in
      record {
        text = f.text ++ r.text;
        parts = f.parts ∙ ap (λ (t : List ℕ). f.text ++ t) r.parts ∙ sym (append_assoc f.text r.text y.1.bytes);
        ends = omega (arith, f.ends, r.ends, length-append f.text r.text);
        spelled = (
          f.text ++ others,
          last,
          ap (λ (t : List ℕ). f.text ++ t) joined ∙ sym (append_assoc f.text others last),
          (f.text, others, refl, f.spelled, subst (λ (q : ℕ). AreItems g q others y.0.items) f.ends are_items),
          subst (λ (q : ℕ). g.spells q last y.0.last) l last_spelled,
          ap (λ (m : Move S). by_move m (λ t. stops step t y.0.items y.0.last) false false) e ∙ stop,
        );
      }

  stay : (s : S) (at : Input) (x : A × Input) → (f : Spans g.spells at x) → step s x.0 ≡ Stop →
      Spans (Stepped s) at (list_with_last [] x.0, x.1)
  stay s at x f e =
      let l : at.place ≡ at.place + 0 = omega arith in
      record {
        text = f.text;
        parts = f.parts;
        ends = f.ends;
        spelled = (
          [],
          f.text,
          refl,
          refl,
          subst (λ (q : ℕ). g.spells q f.text x.0) l f.spelled,
          ap (λ (m : Move S). by_move m (λ t. false) true false) e,
        );
      }

  by_cases : (n : ℕ) (more : (s : S) (at : Input) (x : Ended A × Input) → items_by_steps_of n s at ≡ Some x → Spans (Stepped s) at x)
      (s : S) (at : Input) (x : Ended A × Input)
      (y : A × Input) (f : Spans g.spells at y) (m : Move S) → step s y.0 ≡ m →
      by_move m (λ t. in_front y.0 (items_by_steps_of n t y.1)) (Some (list_with_last [] y.0, y.1)) None ≡ Some x → Spans (Stepped s) at x
  by_cases n more s at x y f (On t) same h =
      let ((others, after), all_parsed, result) =
      bind_some (items_by_steps_of n t y.1) (λ z. Some (list_with_last (y.0 ∷ z.0.items) z.0.last, z.1)) x h in
      subst (λ (z : Ended A × Input). Spans (Stepped s) at z) (some_is (list_with_last (y.0 ∷ others.items) others.last, after) x result)
      (push s t at y (others, after) f same (more t y.1 (others, after) all_parsed))
  by_cases n more s at x y f Stop same h =
      subst (λ (z : Ended A × Input). Spans (Stepped s) at z) (some_is (list_with_last [] y.0, y.1) x h) (stay s at y f same)
  by_cases n more s at x y f Never same h = absurd cc

  items_by_steps_sound_of : (n : ℕ) (s : S) (at : Input) (x : Ended A × Input) → items_by_steps_of n s at ≡ Some x → Spans (Stepped s) at x
  items_by_steps_sound_of zero s at x e = absurd cc
  items_by_steps_sound_of (suc n) s at x e =
      let rest : A × Input → Option (Ended A × Input) =
      λ y. by_move (step s y.0) (λ t. in_front y.0 (items_by_steps_of n t y.1)) (Some (list_with_last [] y.0, y.1)) None in
      let ((item, mid), parsed, goes_on) = bind_some (g.parse at) rest x e in
      by_cases n (items_by_steps_sound_of n) s at x (item, mid) (g.sound at (item, mid) parsed) (step s item) refl goes_on

  stop_case : {X : Type 0} (m : Move S) (f : S → X) (x y : X) → by_move m (λ t. false) true false ≡ true → by_move m f x y ≡ x
  stop_case (On t) f x y e = absurd cc
  stop_case Stop f x y e = refl
  stop_case Never f x y e = absurd cc

  on_case : (m : Move S) (n : ℕ) (x : A) (xs : List A) (last : A) (mid : Input) (y : Option (Ended A × Input)) (r : Ended A × Input) →
      by_move m (λ t. stops step t xs last) false false ≡ true
      → ((t : S) → stops step t xs last ≡ true → items_by_steps_of n t mid ≡ Some r) →
      by_move m (λ t. in_front x (items_by_steps_of n t mid)) y None ≡ Some (list_with_last (x ∷ r.0.items) r.0.last, r.1)
  on_case (On t) n x xs last mid y r e more = rw (more t e) refl
  on_case Stop n x xs last mid y r e more = absurd cc
  on_case Never n x xs last mid y r e more = absurd cc

  items_by_steps_complete_of : (xs : List A) (last : A) (n : ℕ) (s : S) (p : ℕ) (t u rest : List ℕ) → length t < n →
      AreItems g p t xs → g.spells (p + length t) u last → stops step s xs last ≡ true →
      items_by_steps_of n s (input p (t ++ (u ++ rest))) ≡ Some (list_with_last xs last, input (p + length t + length u) rest)
  items_by_steps_complete_of [] last zero s p t u rest lt i l h = absurd (omega arith)
  items_by_steps_complete_of [] last (suc n) s p t u rest lt i l h =
      let at : Input = input (p + length t) (u ++ rest) in
      let after : Input = input (p + length t + length u) rest in
      let e : g.parse at ≡ Some (last, after) = g.complete at (last, after) (record { text = u; parts = refl; ends = refl; spelled = l }) in
      let places : p ≡ p + length t = omega (arith, ap length i) in
      let next : A × Input → Option (Ended A × Input) =
      λ x. by_move (step s x.0) (λ t. in_front x.0 (items_by_steps_of n t x.1)) (Some (list_with_last [] x.0, x.1)) None in
      ap (λ (r : List ℕ). items_by_steps_of (suc n) s (input p (r ++ (u ++ rest)))) i
      ∙ ap (λ (q : ℕ). items_by_steps_of (suc n) s (input q (u ++ rest))) places
      ∙ ap (λ (r : Option (A × Input)). r >>= next) e
      ∙ stop_case (step s last) (λ t. in_front last (items_by_steps_of n t after)) (Some (list_with_last [] last, after)) None h
  items_by_steps_complete_of (x ∷ xs) last zero s p t u rest lt i l h = absurd (omega arith)
  items_by_steps_complete_of (x ∷ xs) last (suc n) s p t u rest lt i l h =
      let (head, tail, joined, spelled, others) = i in
      let mid : Input = input (p + length head) (tail ++ (u ++ rest)) in
      let after : Input = input (p + length head + length tail + length u) rest in
      let long : 0 < length head = takes p head x spelled in
      let joins : t ++ (u ++ rest) ≡ head ++ (tail ++ (u ++ rest)) =
      ap (λ (r : List ℕ). r ++ (u ++ rest)) joined ∙ append_assoc head tail (u ++ rest) in
      let len : length t ≡ length head + length tail = ap length joined ∙ length-append head tail in
      let e : g.parse (input p (head ++ (tail ++ (u ++ rest)))) ≡ Some (x, mid) =
      g.complete (input p (head ++ (tail ++ (u ++ rest)))) (x, mid)
      (record { text = head; parts = refl; ends = refl; spelled = spelled }) in
      let next : A × Input → Option (Ended A × Input) =
      λ y. by_move (step s y.0) (λ t. in_front y.0 (items_by_steps_of n t y.1)) (Some (list_with_last [] y.0, y.1)) None in
      let there : p + length t ≡ p + length head + length tail = omega arith in
      let last_there : g.spells (p + length head + length tail) u last = subst (λ (q : ℕ). g.spells q u last) there l in
      let places : p + length head + length tail + length u ≡ p + length t + length u = omega arith in
      ap (λ (r : List ℕ). items_by_steps_of (suc n) s (input p r)) joins
      ∙ ap (λ (r : Option (A × Input)). r >>= next) e
      ∙ on_case (step s x) n x xs last mid (Some (list_with_last [] x, mid)) (list_with_last xs last, after) h
      (λ t k. items_by_steps_complete_of xs last n t (p + length head) tail u rest (omega arith) others last_there k)
      ∙ ap (λ (q : ℕ). Some (list_with_last (x ∷ xs) last, input q rest)) places

  -- Reads items from the state s on, up to the item at which the state stops. There are at most as many items as
  -- bytes.
  abbrev pub items_by_steps_at : S → Input → Option (Ended A × Input)
  items_by_steps_at s at = items_by_steps_of (suc (length at.bytes)) s at

  pub items_by_steps_sound : (s : S) (at : Input) (x : Ended A × Input) → items_by_steps_at s at ≡ Some x → Spans (Stepped s) at x
  items_by_steps_sound s at x e = items_by_steps_sound_of (suc (length at.bytes)) s at x e

  pub items_by_steps_complete : (s : S) (at : Input) (x : Ended A × Input) → Spans (Stepped s) at x → items_by_steps_at s at ≡ Some x
  items_by_steps_complete s at x r =
      let (t, u, joined, items, last, stop) = r.spelled in
      let whole : at.bytes ≡ t ++ (u ++ x.1.bytes) = r.parts ∙ ap (λ (v : List ℕ). v ++ x.1.bytes) joined ∙ append_assoc t u x.1.bytes in
      let lt : length t < suc (length at.bytes) = omega (arith, ap length whole, length-append t (u ++ x.1.bytes)) in
      let there : at.place + length t + length u ≡ x.1.place = omega (arith, r.ends, ap length joined, length-append t u) in
      ap (λ (v : List ℕ). items_by_steps_of (suc (length at.bytes)) s (input at.place v)) whole
      ∙ items_by_steps_complete_of x.0.items x.0.last (suc (length at.bytes)) s at.place t u x.1.bytes lt items last stop
      ∙ ap (λ (q : ℕ). Some (x.0, input q x.1.bytes)) there

  -- Items from the state s on, up to the item at which the state stops.
  abbrev pub items_by_steps : S → Grammar (Ended A)
  items_by_steps s =
      record { spells = Stepped s; parse = items_by_steps_at s; sound = items_by_steps_sound s; complete = items_by_steps_complete s }
