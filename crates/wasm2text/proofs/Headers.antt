-- The header of the function to whose body a byte belongs.
use Rattle.std.specs.Prelude.{◌≡◌, ℕ, ◌+◌, ◌<◌, ◌≤◌, List, [], ◌∷◌, Option, Some, None, is_some, Bool, true, false, nat_le, ◌==◌, ◌||◌, cond, length, slice_get}
use Rattle.std.proofs.Common.{refl, sym, ap, ◌∙◌, subst, zero, suc, arith, inl, inr}
use Rattle.std.proofs.lemmas.Bool.{cases_order, eq-eqb, ne_eqb, le-leb, lt-leb, and_from, and_left, and_right}
use Rattle.std.proofs.lemmas.Option.{slice_get_within}
use Rattle.wasmprinter_spec.specs.Grammar.{Placed}
use Rattle.wasmprinter_spec.specs.Placed.{Body, PlacedFunction, PlacedModule}
use Rattle.wasmprinter_spec.specs.Lines.{TextLine, has_place, line_from}
use Rattle.wasmprinter_decoder.specs.Modules.{body_at}
use Rattle.wasm2text.specs.Excerpt.{IsInBody, IsPlaceOfBody, IsOutside, IsHeader}
use Rattle.wasm2text.specs.FunctionText.{only_place, is_in, any_in}

-- The function that has the body with this number.
abbrev HasBody : List PlacedFunction → ℕ → Placed Body → Type 0
HasBody functions number body = (f : PlacedFunction) × (slice_get functions number ≡ Some f) × (body ≡ f.body)

some_body : (a b : Placed Body) → ◌≡◌ {A = Option (Placed Body)} (Some a) (Some b) → b ≡ a
some_body a b e = cc

function_with : (functions : List PlacedFunction) (number : ℕ) (body : Placed Body) → body_at functions number ≡ Some body → HasBody functions number body
function_with [] number body e = absurd (let both : ◌≡◌ {A = Option (Placed Body)} None (Some body) = e in cc)
function_with (f ∷ functions) zero body e = (f, refl, some_body f.body body e)
function_with (f ∷ functions) (suc number) body e = function_with functions number body e

body_with : (functions : List PlacedFunction) (number : ℕ) (f : PlacedFunction) → slice_get functions number ≡ Some f → body_at functions number ≡ Some f.body
body_with [] number f e = absurd (let both : ◌≡◌ {A = Option PlacedFunction} None (Some f) = e in cc)
body_with (g ∷ functions) zero f e = ap (λ (o : Option PlacedFunction). elim o as (λ _. Option (Placed Body)) [ None ↦ None | Some h ↦ Some h.body ]) e
body_with (g ∷ functions) (suc number) f e = body_with functions number f e

-- The byte belongs to the body with this number.
pub inside : (functions : List PlacedFunction) (offset number : ℕ) (body : Placed Body) → body_at functions number ≡ Some body → IsInBody body offset →
    IsPlaceOfBody functions offset number body.place
inside functions offset number body e is =
    let h = function_with functions number body e in
    (h.0, h.1, subst (λ (b : Placed Body). IsInBody b offset) h.2 is, ap (λ (b : Placed Body). b.place) h.2)

-- The byte does not belong to the body with this number.
pub outside : (functions : List PlacedFunction) (offset number : ℕ) (body : Placed Body) → body_at functions number ≡ Some body →
    (IsInBody body offset → ⊥) → IsOutside functions offset number
outside functions offset number body e not place p =
    let same : body ≡ p.0.body = some_body p.0.body body (sym (body_with functions number p.0 p.1) ∙ e) in
    not (subst (λ (b : Placed Body). IsInBody b offset) (sym same) p.2)

-- There is no function with this number.
pub absent : (functions : List PlacedFunction) (offset number : ℕ) → body_at functions number ≡ None → IsOutside functions offset number
absent functions offset number e place p =
    let both : ◌≡◌ {A = Option (Placed Body)} None (Some p.0.body) = sym e ∙ body_with functions number p.0 p.1 in cc

-- The byte belongs to no body.
pub no_header : (m : PlacedModule) (lines : List TextLine) (offset k : ℕ) → length m.functions ≤ k →
    ((number : ℕ) → number < k → IsOutside m.functions offset number) → IsHeader m lines offset None
no_header m lines offset k all none = inr (
  (λ number place p. none number (let lt : number < length m.functions = slice_get_within m.functions number p.0 p.1 in omega (arith, lt, all)) place p),
  refl,
)

some_number : (a b : ℕ) → ◌≡◌ {A = Option ℕ} (Some a) (Some b) → b ≡ a
some_number a b e = cc

either_within : (t : Bool) (rest : Option ℕ) (n h count : ℕ) → cond t (Some n) rest ≡ Some h → (rest ≡ Some h → h < n + 1 + count) → h < n + suc count
either_within true rest n h count e f = let is : h ≡ n = some_number n h e in omega (arith, is)
either_within false rest n h count e f = let lt : h < n + 1 + count = f e in omega (arith, lt)

-- The index of a line with this place is below the number of lines.
pub line_within : (lines : List TextLine) (n place h : ℕ) → line_from n place lines ≡ Some h → h < n + length lines
line_within [] n place h e = absurd (let both : ◌≡◌ {A = Option ℕ} None (Some h) = e in cc)
line_within (line ∷ lines) n place h e =
    either_within (has_place place line.0) (line_from (n + 1) place lines) n h (length lines) e (λ f. line_within lines (n + 1) place h f)

-- ---- A line that exists

-- A line has a place if the place is in the range of this place alone.
place_in_range : (place : ℕ) (line : Option ℕ) → has_place place line ≡ is_in (only_place place) line
place_in_range place None = refl
place_in_range place (Some p) =
    elim (cases_order p place) [
      | inl e ↦ eq-eqb p place e ∙ sym (and_from (nat_le place p) (nat_le p place) (le-leb place p (omega (arith, e))) (le-leb p place (omega (arith, e))))
      | inr (inl lt) ↦ ne_eqb p place (λ e. absurd (omega (arith, lt, e))) ∙ sym (and_left (nat_le place p) (nat_le p place) (lt-leb place p lt))
      | inr (inr gt) ↦ ne_eqb p place (λ e. absurd (omega (arith, gt, e))) ∙ sym (and_right (nat_le place p) (nat_le p place) (lt-leb p place gt))
    ]

some_by_test : (t : Bool) (n : ℕ) (rest : Option ℕ) → is_some (cond t (Some n) rest) ≡ (t || is_some rest)
some_by_test true n rest = refl
some_by_test false n rest = refl

-- A line is found if and only if one of the lines has the place.
pub line_found : (lines : List TextLine) (n place : ℕ) → is_some (line_from n place lines) ≡ any_in (only_place place) lines
line_found [] n place = refl
line_found (line ∷ lines) n place =
    some_by_test (has_place place line.0) n (line_from (n + 1) place lines)
    ∙ ap (λ (b : Bool). has_place place line.0 || b) (line_found lines (n + 1) place)
    ∙ ap (λ (b : Bool). b || any_in (only_place place) lines) (place_in_range place line.0)
