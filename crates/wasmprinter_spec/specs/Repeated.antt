-- Grammars of consecutive items: n items, a list with a count (section 5.1 of the standard, "Lists"), and items up
-- to the end of the bytes.
use Rattle.std.specs.Prelude.{◌≡◌, ℕ, zero, suc, List, [], ◌∷◌, ◌++◌, ◌+◌, ◌<◌, ◌≤◌, length, Option, Some, None, nat_lt, ◌==◌, if◌then◌else◌, refl}
use Rattle.std.proofs.Common.{sym, ap, subst, ◌∙◌, arith, append_assoc, cond, eqb, ltb, inl, inr}
use Rattle.std.proofs.lemmas.Bool.{eqb-true, eq-eqb, ne_eqb, ltb-true, lt-ltb}
use Rattle.std.proofs.lemmas.List.{length-append, nil_from_length}
use Rattle.wasmprinter_spec.specs.Grammar.{Input, input, Spans, Grammar, Remainder, ◌>>=◌, bind_some, some_is, seq, map_value}
use Rattle.wasmprinter_spec.specs.Choices.{cond_cases, tested}

-- `f` of the value, or `d` if there is none.
abbrev pub some_or : {A B : Type 0} → Option A → B → (A → B) → B
some_or None d f = d
some_or (Some x) d f = f x

-- ---- n items

module _ {A : Type 0} (parse : Input → Option (A × Input)) where
  -- Reads n items.
  abbrev pub items_at : ℕ → Input → Option (List A × Input)
  items_at zero at = Some ([], at)
  items_at (suc n) at = parse at >>= λ a. items_at n a.1 >>= λ b. Some (a.0 ∷ b.0, b.1)

module _ {A : Type 0} (g : Grammar A) where
  -- The bytes encode the items, one after the other.
  abbrev pub AreItems : ℕ → List ℕ → List A → Type 0
  AreItems p text [] = text ≡ []
  AreItems p text (x ∷ xs) = (t u : List ℕ) × (text ≡ t ++ u) × g.spells p t x × AreItems (p + length t) u xs

  -- The bytes encode n items, one after the other. The first argument is n.
  abbrev pub Times : ℕ → ℕ → List ℕ → List A → Type 0
  Times n p text xs = (length xs ≡ n) × AreItems p text xs

  pub times_sound : (n : ℕ) (at : Input) (x : List A × Input) → items_at g.parse n at ≡ Some x → Spans (Times n) at x
  times_sound zero at x e =
      subst (λ (y : List A × Input). Spans (Times 0) at y) (some_is ([], at) x e)
      (record { text = []; parts = refl; ends = omega arith; spelled = (refl, refl) })
  times_sound (suc n) at x e =
      let ((value, mid), parsed, rest) = bind_some (g.parse at) (λ a. items_at g.parse n a.1 >>= λ b. Some (a.0 ∷ b.0, b.1)) x e in
      let ((values, after), all_parsed, result) = bind_some (items_at g.parse n mid) (λ b. Some (value ∷ b.0, b.1)) x rest in
      let s = g.sound at (value, mid) parsed in
      let t = times_sound n mid (values, after) all_parsed in
      subst (λ (y : List A × Input). Spans (Times (suc n)) at y) (some_is (value ∷ values, after) x result)
      (record {
        text = s.text ++ t.text;
        parts = s.parts ∙ ap (λ (r : List ℕ). s.text ++ r) t.parts ∙ sym (append_assoc s.text t.text after.bytes);
        ends = omega (arith, s.ends, t.ends, length-append s.text t.text);
        spelled = (ap suc t.spelled.0, (s.text, t.text, refl, s.spelled, subst (λ (p : ℕ). AreItems p t.text values) s.ends t.spelled.1));
      })

  pub items_complete : (xs : List A) (at after : Input) → Spans AreItems at (xs, after) → items_at g.parse (length xs) at ≡ Some (xs, after)
  items_complete [] at after s =
      let e : at.bytes ≡ after.bytes = s.parts ∙ ap (λ (t : List ℕ). t ++ after.bytes) s.spelled in
      let l : after.place ≡ at.place = omega (arith, s.ends, ap length s.spelled) in
      let same : at ≡ after = ap (λ (p : ℕ). input p at.bytes) (sym l) ∙ ap (λ (bs : List ℕ). input after.place bs) e in
      ap (λ (y : Input). Some ([], y)) same
  items_complete (x ∷ xs) at after s =
      let (t, u, joined, spelled, all_spelled) = s.spelled in
      let mid : Input = input (at.place + length t) (u ++ after.bytes) in
      let e : g.parse at ≡ Some (x, mid) = g.complete at (x, mid) (record {
        text = t;
        parts = s.parts ∙ ap (λ (r : List ℕ). r ++ after.bytes) joined ∙ append_assoc t u after.bytes;
        ends = refl;
        spelled = spelled;
      }) in
      let f : items_at g.parse (length xs) mid ≡ Some (xs, after) = items_complete xs mid after (record {
        text = u;
        parts = refl;
        ends = omega (arith, s.ends, length-append t u, ap length joined);
        spelled = all_spelled;
      }) in
      rw (e, f) refl

  pub times_complete : (n : ℕ) (at : Input) (x : List A × Input) → Spans (Times n) at x → items_at g.parse n at ≡ Some x
  times_complete n at x s =
      rw (← s.spelled.0) (items_complete x.0 at x.1 (record { text = s.text; parts = s.parts; ends = s.ends; spelled = s.spelled.1 }))

  -- The grammar of n items, one after the other.
  abbrev pub times : ℕ → Grammar (List A)
  times n = record { spells = Times n; parse = items_at g.parse n; sound = times_sound n; complete = times_complete n }

-- A count n, and then n items.
abbrev pub vec_of : {A : Type 0} → Grammar ℕ → Grammar A → Grammar (List A)
vec_of count g = map_value (λ x. x.1) (seq count (λ n. times g n))

-- ---- Items up to the end of the bytes

module _ {A : Type 0} (g : Grammar A) where
  -- The bytes encode the items, one after the other, each by at least one byte.
  abbrev pub Entries : ℕ → List ℕ → List A → Type 0
  Entries p text [] = text ≡ []
  Entries p text (x ∷ xs) = (t u : List ℕ) × (text ≡ t ++ u) × (0 < length t) × g.spells p t x × Entries (p + length t) u xs

  -- Reads at most n items up to the end. Each item consumes a byte, so there are no more items than bytes.
  abbrev pub entries_at : ℕ → Input → Option (List A)
  entries_at zero at = if length at.bytes == 0 then Some [] else None
  entries_at (suc n) at =
      if length at.bytes == 0 then Some []
      else (g.parse at >>= λ x. if nat_lt (length x.1.bytes) (length at.bytes) then (entries_at n x.1 >>= λ xs. Some (x.0 ∷ xs)) else None)

  pub entries_sound : (n : ℕ) (at : Input) (xs : List A) → entries_at n at ≡ Some xs → Entries at.place at.bytes xs
  entries_sound zero at xs e =
      let t = tested (eqb (length at.bytes) 0) (Some []) xs e in
      subst (λ (ys : List A). Entries at.place at.bytes ys) (some_is [] xs t.1) (nil_from_length at.bytes (eqb-true _ _ t.0))
  entries_sound (suc n) at xs e =
      let more : (A × Input) → Option (List A) =
      λ x. cond (ltb (length x.1.bytes) (length at.bytes)) (entries_at n x.1 >>= λ ys. Some (x.0 ∷ ys)) None in
      elim (cond_cases (eqb (length at.bytes) 0) (Some []) (g.parse at >>= more) (Some xs) e) [
        | inl done ↦ subst (λ (ys : List A). Entries at.place at.bytes ys) (some_is [] xs done.1)
            (nil_from_length at.bytes (eqb-true _ _ done.0))
        | inr on ↦
            let ((value, mid), parsed, rest) = bind_some (g.parse at) more xs on.1 in
            let t = tested (ltb (length mid.bytes) (length at.bytes)) (entries_at n mid >>= λ ys. Some (value ∷ ys)) xs rest in
            let (values, all_parsed, result) = bind_some (entries_at n mid) (λ ys. Some (value ∷ ys)) xs t.1 in
            let s = g.sound at (value, mid) parsed in
            let less : length mid.bytes < length at.bytes = ltb-true _ _ t.0 in
            let some : 0 < length s.text = omega (arith, ap length s.parts, length-append s.text mid.bytes, less) in
            let all_spelled = subst (λ (p : ℕ). Entries p mid.bytes values) s.ends (entries_sound n mid values all_parsed) in
            subst (λ (zs : List A). Entries at.place at.bytes zs) (some_is (value ∷ values) xs result)
            (s.text, mid.bytes, s.parts, some, s.spelled, all_spelled)
      ]

  empty_at : (n : ℕ) (at : Input) → at.bytes ≡ [] → entries_at n at ≡ Some []
  empty_at zero at e = rw (eq-eqb (length at.bytes) 0 (ap length e)) refl
  empty_at (suc n) at e = rw (eq-eqb (length at.bytes) 0 (ap length e)) refl

  pub entries_complete : (xs : List A) (n : ℕ) (at : Input) → length at.bytes ≤ n → Entries at.place at.bytes xs → entries_at n at ≡ Some xs
  entries_complete [] n at le s = empty_at n at s
  entries_complete (x ∷ xs) zero at le s =
      let (t, u, joined, takes, _, _) = s in
      absurd (omega (arith, ap length joined, length-append t u, takes))
  entries_complete (x ∷ xs) (suc n) at le s =
      let (t, u, joined, takes, spelled, all_spelled) = s in
      let after : Input = input (at.place + length t) u in
      let some : 0 < length at.bytes = omega (arith, ap length joined, length-append t u, takes) in
      let p : g.parse at ≡ Some (x, after) =
      g.complete at (x, after) (record { text = t; parts = joined; ends = refl; spelled = spelled }) in
      let less : length u < length at.bytes = omega (arith, ap length joined, length-append t u, takes) in
      let r : entries_at n after ≡ Some xs = entries_complete xs n after (omega (arith, less)) all_spelled in
      rw (ne_eqb (length at.bytes) 0 (λ z. omega arith), p, lt-ltb (length u) (length at.bytes) less, r) refl

  -- The grammar of items that all bytes of the input encode, one after the other, each by at least one byte.
  abbrev pub until_end : Remainder (List A)
  until_end = record {
    spells = Entries;
    parse = λ at. entries_at (length at.bytes) at;
    sound = λ at xs e. entries_sound (length at.bytes) at xs e;
    complete = λ at xs s. entries_complete xs (length at.bytes) at (omega arith) s;
  }
