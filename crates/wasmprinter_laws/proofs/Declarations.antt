-- Declarations of parameters, locals and fields with their identifiers
use Rattle.std.proofs.Common.{◌≡◌, ℕ, zero, suc, ◌+◌, List, [], ◌∷◌, ◌++◌, length, Option, refl, ap, ◌∙◌, arith, option_map}
use Rattle.wasmprinter_spec.specs.Labels.{Named}
use Rattle.wasmprinter_spec.specs.Names.{identifiers_at}
use Rattle.wasmprinter_spec.specs.Text.Items.{Declaration, declaration, ids_of, types_of}

-- The identifier that a reader keeps
abbrev pub id : Option Named → Option (List ℕ)
id o = option_map (λ n. n.content) o

-- Declarations k, k + 1, and so on
abbrev pub declared_from : {A : Type 0} → (ℕ → Option Named) → ℕ → List A → List (Declaration A)
declared_from named k [] = []
declared_from named k (x ∷ xs) = declaration (id (named k)) x ∷ declared_from named (k + 1) xs

pub types_of-declared : {A : Type 0} (named : ℕ → Option Named) (k : ℕ) (xs : List A) → types_of (declared_from named k xs) ≡ xs
types_of-declared named k [] = refl
types_of-declared named k (x ∷ xs) = ap (λ ys. x ∷ ys) (types_of-declared named (k + 1) xs)

pub ids_of-declared : {A : Type 0} (named : ℕ → Option Named) (k : ℕ) (xs : List A) → ids_of (declared_from named k xs) ≡ identifiers_at named k (length xs)
ids_of-declared named k [] = refl
ids_of-declared named k (x ∷ xs) = ap (λ is. id (named k) ∷ is) (ids_of-declared named (k + 1) xs)

-- The identifiers of m items and of the n items after them are those of m + n items.
pub identifiers_at-more : (named : ℕ → Option Named) (k m n : ℕ) → identifiers_at named k m ++ identifiers_at named (k + m) n ≡ identifiers_at named k (m + n)
identifiers_at-more named k zero n =
    let e : k + 0 ≡ k = omega arith in
    let f : n ≡ 0 + n = omega arith in
    ap (λ j. identifiers_at named j n) e ∙ ap (λ j. identifiers_at named k j) f
identifiers_at-more named k (suc m) n =
    let e : k + suc m ≡ k + 1 + m = omega arith in
    let f : suc (m + n) ≡ suc m + n = omega arith in
    ap (λ is. id (named k) ∷ is) (ap (λ j. identifiers_at named (k + 1) m ++ identifiers_at named j n) e ∙ identifiers_at-more named (k + 1) m n)
    ∙ ap (λ j. identifiers_at named k j) f
