-- The layout of locals, entry by entry.
use Rattle.std.specs.Prelude.{◌≡◌, ℕ, zero, suc, ◌+◌, ◌-◌, ◌<◌, ◌≤◌, ◌==◌, List, [], ◌∷◌, ◌++◌, Bool, true, false, cond, Option, Some, None, codes, replicate, refl}
use Rattle.std.proofs.Common.{sym, ap, ap₂, ◌∙◌, append_assoc, arith}
use Rattle.std.proofs.lemmas.Bool.{eqb-true, eqb-false}
use Rattle.wasmprinter_spec.specs.Grammar.{Placed}
use Rattle.wasmprinter_spec.specs.Types.{ValType}
use Rattle.wasmprinter_spec.specs.Labels.{Named}
use Rattle.wasmprinter_spec.specs.Names.{Names}
use Rattle.wasmprinter_spec.specs.Placed.{LocalEntry}
use Rattle.wasmprinter_spec.specs.Module.{locals_of}
use Rattle.wasmprinter_spec.specs.Piece.{Piece, Break}
use Rattle.wasmprinter_spec.specs.Layout.Functions.{locals_place, local_line, local_pieces}
use Rattle.wasmprinter_spec.specs.Layout.Variables.{variable_groups}
use Rattle.wasmprinter_text.specs.declared.types.params_and_locals.Before.TheVariants as before
use Rattle.wasmprinter_text.specs.Variables.{end_pieces, walk_pieces}
use Rattle.wasmprinter_text.proofs.Walks.{walk-line}
use Rattle.wasmprinter_module_text.specs.declared.locals.Position.{Position}
use Rattle.wasmprinter_module_text.specs.LocalWalk.{after_one, after_all, local_parts, locals_parts}

-- ---- Locals, one after another

-- The pieces of the pass over locals of the function f, from a position on.
abbrev pub walk_from : Names → ℕ → Position → List ValType → List Piece
walk_from names f x ts = walk_pieces names (codes "local") (names.locals f) x.before x.number ts

module _ (names : Names) (f : ℕ) where
  -- The pass over two lists of locals writes the first and passes over the second from the position after the first.
  walk-append : (x : Position) (ts us : List ValType) →
      walk_from names f x (ts ++ us) ≡ locals_parts names f x ts ++ walk_from names f (after_all (names.locals f) x ts) us
  walk-append x [] us = refl
  walk-append x (t ∷ ts) us =
      ap (λ ps. local_parts names f x t ++ ps) (walk-append (after_one (names.locals f) x) ts us)
      ∙ sym (append_assoc (local_parts names f x t) (locals_parts names f (after_one (names.locals f) x) ts) (walk_from names f (after_all (names.locals f) x (t ∷ ts)) us))

  -- The pass over entries writes the locals of the first entry and passes over those of the others.
  pub entries-next : (x : Position) (es rest : List (Placed LocalEntry)) (e : Placed LocalEntry) → es ≡ e ∷ rest →
      walk_from names f x (locals_of es) ≡ locals_parts names f x (replicate e.value.count e.value.type)
      ++ walk_from names f (after_all (names.locals f) x (replicate e.value.count e.value.type)) (locals_of rest)
  entries-next x es rest e p =
      ap (λ xs. walk_from names f x (locals_of xs)) p ∙ walk-append x (replicate e.value.count e.value.type) (locals_of rest)

  -- The pass over no entries writes the end of the open group, if there is one.
  pub entries-none : (x : Position) (es : List (Placed LocalEntry)) → es ≡ [] → walk_from names f x (locals_of es) ≡ end_pieces x.before
  entries-none x es p = ap (λ xs. walk_from names f x (locals_of xs)) p

  -- If some of n locals with one type are left, their pieces are those of the next one and of the others.
  pub times-next : (x : Position) (n i : ℕ) (t : ValType) → i < n →
      locals_parts names f x (replicate (n - i) t) ≡ local_parts names f x t ++ locals_parts names f (after_one (names.locals f) x) (replicate (n - (i + 1)) t)
  times-next x n i t h = let e : n - i ≡ suc (n - (i + 1)) = omega arith in ap (λ m. locals_parts names f x (replicate m t)) e

  -- If none of n locals with one type is left, there are no pieces.
  pub times-none : (x : Position) (n i : ℕ) (t : ValType) → n ≤ i → locals_parts names f x (replicate (n - i) t) ≡ []
  times-none x n i t h = let e : n - i ≡ 0 = omega arith in ap (λ m. locals_parts names f x (replicate m t)) e

module _ (named : ℕ → Option Named) where
  -- The position after the rest of n locals is that after the next one and the others.
  pub after_times-next : (x : Position) (n i : ℕ) (t : ValType) → i < n →
      after_all named x (replicate (n - i) t) ≡ after_all named (after_one named x) (replicate (n - (i + 1)) t)
  after_times-next x n i t h = let e : n - i ≡ suc (n - (i + 1)) = omega arith in ap (λ m. after_all named x (replicate m t)) e

  pub after_times-none : (x : Position) (n i : ℕ) (t : ValType) → n ≤ i → after_all named x (replicate (n - i) t) ≡ x
  after_times-none x n i t h = let e : n - i ≡ 0 = omega arith in ap (λ m. after_all named x (replicate m t)) e

  -- The number after n locals is the number before them plus n.
  pub after_times-number : (x : Position) (n : ℕ) (t : ValType) → (after_all named x (replicate n t)).number ≡ x.number + n
  after_times-number x zero t = omega arith
  after_times-number x (suc n) t = let others = after_times-number (after_one named x) n t in omega (arith, others)

-- ---- The line of locals

-- If no entry declares a local, there are no locals.
pub declares-none : (es : List (Placed LocalEntry)) → locals_place es ≡ None → locals_of es ≡ []
declares-none [] h = refl
declares-none (e ∷ es) h = by (e.value.count == 0) refl h (declares-none es)
  where
    by : (b : Bool) → (e.value.count == 0) ≡ b → cond b (locals_place es) (Some e.place) ≡ None → (locals_place es ≡ None → locals_of es ≡ []) → locals_of (e ∷ es) ≡ []
    by true z g others = ap (λ n. replicate n e.value.type ++ locals_of es) (eqb-true e.value.count 0 z) ∙ others g
    by false z g others = absurd cc

-- There is at least one local.
pub record HasLocals (es : List (Placed LocalEntry)) : Type 0 where
  pub first : ValType
  pub others : List ValType
  pub types : locals_of es ≡ first ∷ others

some_here : (e : Placed LocalEntry) (es : List (Placed LocalEntry)) (n : ℕ) → (e.value.count == 0) ≡ false → e.value.count ≡ n → HasLocals (e ∷ es)
some_here e es zero z c = absurd (omega (arith, eqb-false e.value.count 0 z))
some_here e es (suc k) z c = record {
  first = e.value.type;
  others = replicate k e.value.type ++ locals_of es;
  types = ap (λ m. replicate m e.value.type ++ locals_of es) c;
}

later : (e : Placed LocalEntry) (es : List (Placed LocalEntry)) → (e.value.count == 0) ≡ true → HasLocals es → HasLocals (e ∷ es)
later e es z d = record {
  first = d.first;
  others = d.others;
  types = ap (λ m. replicate m e.value.type ++ locals_of es) (eqb-true e.value.count 0 z) ∙ d.types;
}

-- If an entry declares a local, there is at least one local.
pub declares-some : (es : List (Placed LocalEntry)) (place : ℕ) → locals_place es ≡ Some place → HasLocals es
declares-some [] place h = absurd cc
declares-some (e ∷ es) place h = by (e.value.count == 0) refl h (declares-some es place)
  where
    by : (b : Bool) → (e.value.count == 0) ≡ b → cond b (locals_place es) (Some e.place) ≡ Some place → (locals_place es ≡ Some place → HasLocals es) → HasLocals (e ∷ es)
    by true z g others = later e es z (others g)
    by false z g others = some_here e es e.value.count z refl

module _ (names : Names) (f count : ℕ) where
  -- If no entry declares a local, there is no line of locals.
  pub locals-none : (es : List (Placed LocalEntry)) → locals_place es ≡ None → local_pieces names f count es ≡ []
  unfolding local_pieces local_line
  locals-none es h = ap (λ ts. local_line names (locals_place es) (variable_groups (names.locals f) count ts)) (declares-none es h)

  -- If an entry declares a local, the line of locals is a line break and the pass over the locals.
  pub locals-some : (es : List (Placed LocalEntry)) (place : ℕ) → locals_place es ≡ Some place →
      local_pieces names f count es ≡ Break (Some place) 2 ∷ walk_pieces names (codes "local") (names.locals f) before.Line count (locals_of es)
  unfolding local_pieces
  locals-some es place h =
      let d = declares-some es place h in
      ap₂ (λ p ts. local_line names p (variable_groups (names.locals f) count ts)) h d.types
      ∙ sym (walk-line names (Some place) (names.locals f) count d.first d.others)
      ∙ sym (ap (λ ts. Break (Some place) 2 ∷ walk_pieces names (codes "local") (names.locals f) before.Line count ts) d.types)
