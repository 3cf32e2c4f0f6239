-- The line that is found for an operator satisfies the laws of lines.
use Rattle.std.specs.Prelude.{◌≡◌, ℕ, List, Option, Some, None, option_map, slice_get, refl}
use Rattle.std.proofs.Common.{sym, ap, ◌∙◌, subst}
use Rattle.std.proofs.lemmas.Option.{slice_get-map}
use Rattle.wasmprinter_spec.specs.Grammar.{Placed, ◌>>=◌, bind_some}
use Rattle.wasmprinter_spec.specs.Operator.{Operator}
use Rattle.wasmprinter_spec.specs.Placed.{Body, PlacedFunction, PlacedModule}
use Rattle.wasmprinter_spec.specs.Lines.{TextLine, line_from, operator_at, place_of}
use Rattle.wasmprinter_laws.proofs.Lines.Finding.{finds_place, only_found}
use Rattle.wasmprinter_decoder.specs.Modules.{body_at}
use Rattle.wasmprinter.specs.Found.{place_at, IsAtItsLine, FindsItsLine}
use Rattle.wasmprinter.proofs.Named.{same_module}

-- ---- An operator is found by its body, then by its place, then by its line

abbrev numbered : List TextLine → ℕ → Option (ℕ × ℕ)
numbered lines place = line_from 0 place lines >>= λ number. Some (number, place)

by_place : (lines : List TextLine) (x : Option (Placed Operator)) → (x >>= λ o. numbered lines o.place) ≡ (option_map (λ o. o.place) x >>= λ place. numbered lines place)
by_place lines None = refl
by_place lines (Some o) = refl

by_body : (lines : List TextLine) (j : ℕ) (x : Option PlacedFunction) →
    ((x >>= λ f. slice_get f.body.value.operators j) >>= λ o. numbered lines o.place)
    ≡ (option_map (λ (f : PlacedFunction). f.body) x >>= λ b. (place_at b.value.operators j >>= λ place. numbered lines place))
by_body lines j None = refl
by_body lines j (Some f) = by_place lines (slice_get f.body.value.operators j)

by_parts : (m : PlacedModule) (lines : List TextLine) (i j : ℕ) →
    place_of m lines i j ≡ (body_at m.functions i >>= λ b. (place_at b.value.operators j >>= λ place. numbered lines place))
by_parts m lines i j =
    by_body lines j (slice_get m.functions i)
    ∙ ap (λ (x : Option (Placed Body)). x >>= λ b. (place_at b.value.operators j >>= λ place. numbered lines place)) (sym (slice_get-map (λ f. f.body) m.functions i))

module _ (m : PlacedModule) (lines : List TextLine) (i j : ℕ) (b : Placed Body) (e : body_at m.functions i ≡ Some b) where
  in_body : place_of m lines i j ≡ (place_at b.value.operators j >>= λ place. numbered lines place)
  in_body = by_parts m lines i j ∙ ap (λ (x : Option (Placed Body)). x >>= λ b. (place_at b.value.operators j >>= λ place. numbered lines place)) e

  pub no_operator : place_at b.value.operators j ≡ None → place_of m lines i j ≡ None
  no_operator f = in_body ∙ ap (λ (x : Option ℕ). x >>= λ place. numbered lines place) f

  at_place : (place : ℕ) → place_at b.value.operators j ≡ Some place → place_of m lines i j ≡ numbered lines place
  at_place place f = in_body ∙ ap (λ (x : Option ℕ). x >>= λ place. numbered lines place) f

  pub no_line : (place : ℕ) → place_at b.value.operators j ≡ Some place → line_from 0 place lines ≡ None → place_of m lines i j ≡ None
  no_line place f g = at_place place f ∙ ap (λ (x : Option ℕ). x >>= λ number. Some (number, place)) g

  pub its_line : (place number : ℕ) → place_at b.value.operators j ≡ Some place → line_from 0 place lines ≡ Some number → place_of m lines i j ≡ Some (number, place)
  its_line place number f g = at_place place f ∙ ap (λ (x : Option ℕ). x >>= λ number. Some (number, place)) g

-- ---- The result

pub names : (m : PlacedModule) (lines : List TextLine) (i j : ℕ) (result : Option (ℕ × ℕ)) → result ≡ place_of m lines i j → IsAtItsLine m lines i j result
names m lines i j result e number place f = finds_place m lines i j number place (sym e ∙ f)

all_found : (m : PlacedModule) (lines : List TextLine) (i j : ℕ) → FindsItsLine m lines i j (place_of m lines i j)
all_found m lines i j h =
    let own : PlacedModule = h.given.printed.decoded.placed in
    let same : own ≡ m = same_module h.given.printed.decoded m h.spelled in (
      λ a e.
          let f = bind_some (slice_get own.functions i) (λ f. slice_get f.body.value.operators j) a (ap (λ (x : PlacedModule). operator_at x i j) same ∙ e) in
          let line = ((h.given.functions h.whole h.flat i f.0 f.1).at_operator j a f.2).among_all in
          only_found m lines i j line.0 a e line.1,
      λ e. ap (λ (x : Option (Placed Operator)). x >>= λ o. line_from 0 o.place lines >>= λ k. Some (k, o.place)) e,
    )

pub finds : (m : PlacedModule) (lines : List TextLine) (i j : ℕ) (result : Option (ℕ × ℕ)) → result ≡ place_of m lines i j → FindsItsLine m lines i j result
finds m lines i j result e = subst (FindsItsLine m lines i j) (sym e) (all_found m lines i j)
