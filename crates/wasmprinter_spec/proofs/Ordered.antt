-- Sections in order: each kind that has a rank occurs at most once.
use Rattle.std.proofs.Common.{◌≡◌, ℕ, ◌≤◌, ◌⊎◌, inl, inr, true, List, [], ◌∷◌, ◌++◌, Option, Some, None, refl, sym, ap, subst, ◌∙◌, arith}
use Rattle.std.specs.List.{AllByRecursion}
use Rattle.std.proofs.lemmas.Bool.{and_parts, ltb-true}
use Rattle.wasmprinter_spec.specs.Grammar.{some_is}
use Rattle.wasmprinter_spec.specs.Repeated.{some_or}
use Rattle.wasmprinter_spec.specs.Sections.{Kind, CustomSection, TypeSection, ImportSection, FunctionSection, TableSection, MemorySection, TagSection, GlobalSection, ExportSection, StartSection, ElementSection, DataCountSection, CodeSection, DataSection, Content, Section, holds, section_kind, content_of, rank, follows, rank_after, are_above, content_in}

-- ---- the content of a section

-- A section has no content of a kind, or it is a section of that kind.
pub picks : (kind : Kind) (s : Section) → (content_of kind s ≡ None) ⊎ ((x : Content kind) × (s ≡ holds kind x))
picks CustomSection (holds CustomSection x) = inr (x, refl)
picks TypeSection (holds TypeSection x) = inr (x, refl)
picks ImportSection (holds ImportSection x) = inr (x, refl)
picks FunctionSection (holds FunctionSection x) = inr (x, refl)
picks TableSection (holds TableSection x) = inr (x, refl)
picks MemorySection (holds MemorySection x) = inr (x, refl)
picks TagSection (holds TagSection x) = inr (x, refl)
picks GlobalSection (holds GlobalSection x) = inr (x, refl)
picks ExportSection (holds ExportSection x) = inr (x, refl)
picks StartSection (holds StartSection x) = inr (x, refl)
picks ElementSection (holds ElementSection x) = inr (x, refl)
picks DataCountSection (holds DataCountSection x) = inr (x, refl)
picks CodeSection (holds CodeSection x) = inr (x, refl)
picks DataSection (holds DataSection x) = inr (x, refl)
picks _ _ = inl refl

-- The content of a section of a kind is what it holds.
pub picked_own : (kind : Kind) (x : Content kind) → content_of kind (holds kind x) ≡ Some x
picked_own CustomSection x = refl
picked_own TypeSection x = refl
picked_own ImportSection x = refl
picked_own FunctionSection x = refl
picked_own TableSection x = refl
picked_own MemorySection x = refl
picked_own TagSection x = refl
picked_own GlobalSection x = refl
picked_own ExportSection x = refl
picked_own StartSection x = refl
picked_own ElementSection x = refl
picked_own DataCountSection x = refl
picked_own CodeSection x = refl
picked_own DataSection x = refl

-- If a section has content of a kind, it holds exactly that content.
pub picked_is : (kind : Kind) (s : Section) (x : Content kind) → content_of kind s ≡ Some x → s ≡ holds kind x
picked_is kind s x e =
    elim (picks kind s) [
      | inl other ↦ absurd (let clash : ◌≡◌ {A = Option (Content kind)} None (Some x) = sym other ∙ e in cc)
      | inr own ↦
          let its : content_of kind s ≡ Some own.0 = ap (content_of kind) own.1 ∙ picked_own kind own.0 in
          own.1 ∙ ap (holds kind) (some_is own.0 x (sym its ∙ e))
    ]

-- ---- ranks

-- The rank of the last section that has a rank, or `low` if none has
abbrev pub last_rank : ℕ → List Section → ℕ
last_rank low [] = low
last_rank low (s ∷ ss) = last_rank (rank_after low (rank (section_kind s))) ss

-- If sections are in order, the first may follow `low`, and the others are in order after it.
above_parts : (low : ℕ) (s : Section) (ss : List Section) → are_above low (s ∷ ss) ≡ true
    → (follows low (rank (section_kind s)) ≡ true) × (are_above (rank_after low (rank (section_kind s))) ss ≡ true)
above_parts low s ss up = and_parts (follows low (rank (section_kind s))) (are_above (rank_after low (rank (section_kind s))) ss) up

-- Ranks do not decrease.
rank_grows : (low : ℕ) (r : Option ℕ) → follows low r ≡ true → low ≤ rank_after low r
rank_grows low None up = omega arith
rank_grows low (Some n) up = let lt = ltb-true low n up in omega arith

-- If sections are in order and another section may follow the last, they are in order together.
pub above_push : (low : ℕ) (ss : List Section) (s : Section) → are_above low ss ≡ true → follows (last_rank low ss) (rank (section_kind s)) ≡ true → are_above low (ss ++ s ∷ []) ≡ true
above_push low [] s up on = rw on refl
above_push low (x ∷ xs) s up on =
    let parts = above_parts low x xs up in
    rw (parts.0, above_push (rank_after low (rank (section_kind x))) xs s parts.1 on) refl

-- The rank of the added section is then the last rank.
pub last_rank_push : (low : ℕ) (ss : List Section) (s : Section) → last_rank low (ss ++ s ∷ []) ≡ rank_after (last_rank low ss) (rank (section_kind s))
last_rank_push low [] s = refl
last_rank_push low (x ∷ xs) s = last_rank_push (rank_after low (rank (section_kind x))) xs s

-- Each of the sections in order may follow those before it.
pub above_midst : (low : ℕ) (xs : List Section) (s : Section) (ys : List Section) → are_above low (xs ++ s ∷ ys) ≡ true → follows (last_rank low xs) (rank (section_kind s)) ≡ true
above_midst low [] s ys up = (above_parts low s ys up).0
above_midst low (x ∷ xs) s ys up = above_midst (rank_after low (rank (section_kind x))) xs s ys (above_parts low x (xs ++ s ∷ ys) up).1

-- ---- the contents of one kind in sections

module _ (kind : Kind) where
  -- The content after one more section
  abbrev pub with_one : Content kind → Section → Content kind
  with_one d s = some_or (content_of kind s) d (λ x. x)

  -- The content in sections and one more is the content after that section.
  pub held_push : (d : Content kind) (ss : List Section) (s : Section) → content_in kind d (ss ++ s ∷ []) ≡ with_one (content_in kind d ss) s
  held_push d [] s = refl
  held_push d (x ∷ xs) s = held_push (with_one d x) xs s

  -- If a property holds of each section and of a section with the default content, it holds of a section with the
  -- content in all of them.
  pub held_each : (P : Section → Type 0) (d : Content kind) (ss : List Section) → AllByRecursion P ss → P (holds kind d) → P (holds kind (content_in kind d ss))
  held_each P d [] all none = none
  held_each P d (s ∷ ss) all none =
      elim (picks kind s) [
        | inl other ↦ held_each P (with_one d s) ss all.1 (rw other none)
        | inr own ↦
            let same : with_one d s ≡ own.0 = rw (own.1, picked_own kind own.0) refl in
            held_each P (with_one d s) ss all.1 (subst (λ (x : Content kind). P (holds kind x)) (sym same) (subst P own.1 all.0))
      ]

  module _ (r : ℕ) (ranked : rank kind ≡ Some r) where
    -- Sections after the rank of a kind have no content of that kind.
    pub held_past : (d : Content kind) (low : ℕ) (ss : List Section) → r ≤ low → are_above low ss ≡ true → content_in kind d ss ≡ d
    held_past d low [] le up = refl
    held_past d low (s ∷ ss) le up =
        let parts = above_parts low s ss up in
        let grows = rank_grows low (rank (section_kind s)) parts.0 in
        elim (picks kind s) [
          | inl other ↦ rw other (held_past d (rank_after low (rank (section_kind s))) ss (omega arith) parts.1)
          | inr own ↦
              let its : rank (section_kind s) ≡ Some r = ap (λ (x : Section). rank (section_kind x)) own.1 ∙ ranked in
              let on : follows low (Some r) ≡ true = ap (follows low) (sym its) ∙ parts.0 in
              let lt = ltb-true low r on in
              absurd (omega arith)
        ]

    -- If sections in order include one of the kind, their content of that kind is what it holds.
    pub held_midst : (d : Content kind) (low : ℕ) (xs : List Section) (x : Content kind) (ys : List Section) → are_above low (xs ++ holds kind x ∷ ys) ≡ true
        → content_in kind d (xs ++ holds kind x ∷ ys) ≡ x
    held_midst d low [] x ys up =
        let parts = above_parts low (holds kind x) ys up in
        let after : are_above r ys ≡ true = ap (λ (o : Option ℕ). are_above (rank_after low o) ys) (sym ranked) ∙ parts.1 in
        ap (λ (o : Option (Content kind)). content_in kind (some_or o d (λ y. y)) ys) (picked_own kind x) ∙ held_past x r ys (omega arith) after
    held_midst d low (y ∷ xs) x ys up = held_midst (with_one d y) (rank_after low (rank (section_kind y))) xs x ys (above_parts low y (xs ++ holds kind x ∷ ys) up).1

    -- The same for a section that is known to have this content.
    pub held_picked : (d : Content kind) (low : ℕ) (xs : List Section) (s : Section) (x : Content kind) (ys : List Section) → content_of kind s ≡ Some x
        → are_above low (xs ++ s ∷ ys) ≡ true → content_in kind d (xs ++ s ∷ ys) ≡ x
    held_picked d low xs s x ys e up =
        let is : s ≡ holds kind x = picked_is kind s x e in
        ap (λ (y : Section). content_in kind d (xs ++ y ∷ ys)) is ∙ held_midst d low xs x ys (ap (λ (y : Section). are_above low (xs ++ y ∷ ys)) (sym is) ∙ up)
