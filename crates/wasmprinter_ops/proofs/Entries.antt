-- Items that take all bytes, each at least one byte.
use Rattle.std.proofs.Common.{◌≡◌, ℕ, ◌+◌, ◌<◌, ◌≤◌, List, [], ◌∷◌, ◌++◌, length, Some, refl, sym, ap, subst, ◌∙◌, arith, append_assoc, append-nil, length-append}
use Rattle.wasmprinter_spec.specs.Grammar.{Input, input, Spans, Grammar}
use Rattle.wasmprinter_spec.specs.Repeated.{Entries, until_end}

module _ {A : Type 0} (g : Grammar A) where
  -- The first item, and the others after it.
  pub record FirstEntry (at : Input) (xs : List A) : Type 0 where
    pub item : A
    pub others : List A
    pub after : Input
    pub is : xs ≡ item ∷ others
    pub first : g.parse at ≡ Some (item, after)
    pub rest : (until_end g).parse after ≡ Some others

  first_of : (at : Input) (xs : List A) → (at.bytes ≡ [] → ⊥) → Entries g at.place at.bytes xs → FirstEntry at xs
  first_of at [] some s = absurd (some s)
  first_of at (x ∷ xs) some s =
      let (text, remains, joined, takes, spelled, all_spelled) = s in
      let after : Input = input (at.place + length text) remains in
      record {
        item = x;
        others = xs;
        after = after;
        is = refl;
        first = g.complete at (x, after) (record { text = text; parts = joined; ends = refl; spelled = spelled });
        rest = (until_end g).complete after xs all_spelled;
      }

  pub first_entry : (at : Input) (xs : List A) → (at.bytes ≡ [] → ⊥) → (until_end g).parse at ≡ Some xs → FirstEntry at xs
  first_entry at xs some e = first_of at xs some ((until_end g).sound at xs e)

  -- There are at most as many items as bytes.
  pub entries-few : (p : ℕ) (text : List ℕ) (xs : List A) → Entries g p text xs → length xs ≤ length text
  entries-few p text [] s = omega arith
  entries-few p text (x ∷ xs) s =
      let (first, remains, joined, takes, spelled, all_spelled) = s in
      omega (arith, ap length joined, length-append first remains, takes, entries-few (p + length first) remains xs all_spelled)

  -- If the bytes encode items, and the bytes after them one more item, together they encode the longer list.
  entries-push : (xs : List A) (p : ℕ) (t u : List ℕ) (x : A) → Entries g p t xs → 0 < length u → g.spells (p + length t) u x → Entries g p (t ++ u) (xs ++ x ∷ [])
  entries-push [] p t u x s some last =
      let z : p + 0 ≡ p = omega arith in
      let here : g.spells (p + 0) u x = subst (λ (r : List ℕ). g.spells (p + length r) u x) s last in
      let at_p : g.spells p u x = subst (λ (q : ℕ). g.spells q u x) z here in
      subst (λ (r : List ℕ). Entries g p (r ++ u) (x ∷ [])) (sym s) (u, [], sym (append-nil u), some, at_p, refl)
  entries-push (y ∷ ys) p t u x s some last =
      let (first, remains, joined, takes, spelled, all_spelled) = s in
      let l : p + length t ≡ p + length first + length remains = omega (arith, ap length joined, length-append first remains) in
      let more : Entries g (p + length first) (remains ++ u) (ys ++ x ∷ []) =
      entries-push ys (p + length first) remains u x all_spelled some (subst (λ (q : ℕ). g.spells q u x) l last) in
      (first, remains ++ u, ap (λ (r : List ℕ). r ++ u) joined ∙ append_assoc first remains u, takes, spelled, more)

  -- The same for items between two positions.
  pub spans-push : (start mid after : Input) (xs : List A) (x : A) → Spans (Entries g) start (xs, mid) → (s : Spans g.spells mid (x, after)) → 0 < length s.text → Spans (Entries g) start (xs ++ x ∷ [], after)
  spans-push start mid after xs x f s some = record {
    text = f.text ++ s.text;
    parts = f.parts ∙ ap (λ (r : List ℕ). f.text ++ r) s.parts ∙ sym (append_assoc f.text s.text after.bytes);
    ends = omega (arith, f.ends, s.ends, length-append f.text s.text);
    spelled = entries-push xs start.place f.text s.text x f.spelled some (subst (λ (q : ℕ). g.spells q s.text x) f.ends s.spelled);
  }
