-- Items up to the one at which a state stops, read one at a time.
use Rattle.std.proofs.Common.{◌≡◌, ℕ, zero, suc, ◌<◌, List, [], length, Option, Some, None, refl, ap, ◌∙◌, arith, length-append}
use Rattle.wasmprinter_spec.specs.Grammar.{Input, Grammar, ◌>>=◌}
use Rattle.wasmprinter_spec.specs.Stepped.{Move, On, Stop, Never, by_move, Ended, list_with_last, in_front, items_by_steps_of, items_by_steps_at}

-- Two continuations that agree on the value that was read give the same result.
pub bind_same : {X Y : Type 0} (r : Option X) (f h : X → Option Y) → ((x : X) → r ≡ Some x → f x ≡ h x) → (r >>= f) ≡ (r >>= h)
bind_same None f h e = refl
bind_same (Some x) f h e = e x refl

same_move : {S X : Type 0} (m : Move S) (f h : S → X) (x y : X) → ((t : S) → f t ≡ h t) → by_move m f x y ≡ by_move m h x y
same_move (On t) f h x y e = e t
same_move Stop f h x y e = refl
same_move Never f h x y e = refl

module _ {A S : Type 0} (g : Grammar A) (step : S → A → Move S) (takes : (p : ℕ) (text : List ℕ) (a : A) → g.spells p text a → 0 < length text) where
  -- An item takes at least one byte.
  pub takes_byte : (at : Input) (x : A × Input) → g.parse at ≡ Some x → length x.1.bytes < length at.bytes
  takes_byte at x e =
      let s = g.sound at x e in
      omega (arith, ap length s.parts, length-append s.text x.1.bytes, takes at.place s.text x.0 s.spelled)

  -- The bound on the number of items does not matter if it exceeds the number of bytes.
  enough : (n m : ℕ) (s : S) (at : Input) → length at.bytes < n → length at.bytes < m → items_by_steps_of g step takes n s at ≡ items_by_steps_of g step takes m s at
  enough zero m s at lt lu = absurd (omega arith)
  enough (suc n) zero s at lt lu = absurd (omega arith)
  enough (suc n) (suc m) s at lt lu =
      let next : ℕ → A × Input → Option (Ended A × Input) = λ k y. by_move (step s y.0) (λ t. in_front y.0 (items_by_steps_of g step takes k t y.1)) (Some (list_with_last [] y.0, y.1)) None in
      bind_same (g.parse at) (next n) (next m) (λ y e.
      let less : length y.1.bytes < length at.bytes = takes_byte at y e in
      same_move (step s y.0) (λ t. in_front y.0 (items_by_steps_of g step takes n t y.1)) (λ t. in_front y.0 (items_by_steps_of g step takes m t y.1)) (Some (list_with_last [] y.0, y.1)) None
      (λ t. ap (in_front y.0) (enough n m t y.1 (omega arith) (omega arith))))

  -- If an item is read first, reading the items is reading on after it, in the state that the item leads to.
  pub stepped-item : (s : S) (at : Input) (x : A) (after : Input) → g.parse at ≡ Some (x, after)
      → items_by_steps_at g step takes s at ≡ by_move (step s x) (λ t. in_front x (items_by_steps_at g step takes t after)) (Some (list_with_last [] x, after)) None
  stepped-item s at x after e =
      let next : A × Input → Option (Ended A × Input) = λ y. by_move (step s y.0) (λ t. in_front y.0 (items_by_steps_of g step takes (length at.bytes) t y.1)) (Some (list_with_last [] y.0, y.1)) None in
      let less : length after.bytes < length at.bytes = takes_byte at (x, after) e in
      ap (λ (r : Option (A × Input)). r >>= next) e
      ∙ same_move (step s x) (λ t. in_front x (items_by_steps_of g step takes (length at.bytes) t after)) (λ t. in_front x (items_by_steps_at g step takes t after)) (Some (list_with_last [] x, after)) None
      (λ t. ap (in_front x) (enough (length at.bytes) (suc (length after.bytes)) t after less (omega arith)))
