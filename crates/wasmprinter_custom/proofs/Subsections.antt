-- A loop that adds the entries of subsections to the store.
use Rattle.std.proofs.Common.{◌≡◌, ◌≢◌, ◌<◌, List, [], ◌∷◌, ◌++◌, length, Option, Some, None, refl, sym, ap, ◌∙◌, subst, arith}
use Rattle.std.specs.Prelude.{MatchOption}
use Rattle.std.proofs.lemmas.List.{append-nil}
use Rattle.wasmprinter_spec.specs.Grammar.{Input}
use Rattle.wasmprinter_spec.specs.Lenient.{Groups}
use Rattle.wasmprinter_spec.specs.Types.{concat}
use Rattle.wasmprinter_spec.specs.Names.Section.{Entry, subsection}
use Rattle.wasmprinter_spec.proofs.NameSections.{subsection_shrinks}
use Rattle.wasmprinter_bytes.specs.declared.library_error.Error.{Error}
use Rattle.wasmprinter_bytes.specs.declared.library_error.Error.TheVariants.{Malformed, Memory}
use Rattle.wasmprinter_custom.specs.Adds.{Grows, AddsUpTo, WantsMemory, AddsBefore, AddsAll, GivesSome, AddsAllBefore}
use Rattle.wasmprinter_custom.specs.declared.names.NamesBuilder.{NamesBuilder}
use Rattle.wasmprinter_custom.proofs.Loops.{grows_none, grows_more, left-some, right-some}

-- Adding the remaining subsections completes the entries that were added. If the remaining subsections
-- have an entry, so has the whole.
pub record Underway (start : Input) (old : NamesBuilder) (at : Input) (now : NamesBuilder) : Type 0 where
  pub completes : (new : NamesBuilder) → AddsAll at now new → AddsAll start old new
  pub some : GivesSome at → GivesSome start

-- ---- One more subsection

module _ (at : Input) (a b : NamesBuilder) (some : at.bytes ≢ []) where
  more_by : (mid : Input) (new : NamesBuilder) (xs : List Entry) (groups : List (List Entry)) (end : Option Input) → subsection.read at ≡ (xs, end)
      → AddsUpTo subsection at a b (Some mid) → AddsAll mid b new → MatchOption end (groups ≡ []) (λ m. Groups subsection m groups) → Grows a new (xs ++ concat groups)
  more_by mid new xs groups end e h rest m =
      let ends : end ≡ Some mid = sym (ap (λ r. r.1) e) ∙ h.0 in
      let grown : Grows a b xs = subst (λ (ys : List Entry). Grows a b ys) (ap (λ r. r.0) e) h.1 in
      let others : Groups subsection mid groups = subst (λ (o : Option Input). MatchOption o (groups ≡ []) (λ x. Groups subsection x groups)) ends m in
      grows_more a b new xs (concat groups) grown (rest (concat groups) (groups, others, refl))

  all_more : (mid : Input) (new : NamesBuilder) → AddsUpTo subsection at a b (Some mid) → AddsAll mid b new → AddsAll at a new
  all_more mid new h rest gives ([], none, e) = absurd (some none)
  all_more mid new h rest gives (xs ∷ groups, (lt, end, s, m), e) =
      subst (λ (ys : List Entry). Grows a new ys) (sym e) (more_by mid new xs groups end (subsection.complete at xs end s) h rest m)

  stopped_by : (xs : List Entry) (groups : List (List Entry)) (end : Option Input) → subsection.read at ≡ (xs, end)
      → AddsUpTo subsection at a b None → MatchOption end (groups ≡ []) (λ m. Groups subsection m groups) → Grows a b (xs ++ concat groups)
  stopped_by xs groups end e h m =
      let ends : end ≡ None = sym (ap (λ r. r.1) e) ∙ h.0 in
      let grown : Grows a b xs = subst (λ (ys : List Entry). Grows a b ys) (ap (λ r. r.0) e) h.1 in
      let none : groups ≡ [] = subst (λ (o : Option Input). MatchOption o (groups ≡ []) (λ x. Groups subsection x groups)) ends m in
      subst (λ (ys : List Entry). Grows a b ys) (sym (ap (λ (gs : List (List Entry)). xs ++ concat gs) none ∙ append-nil xs)) grown

  all_stopped : AddsUpTo subsection at a b None → AddsAll at a b
  all_stopped h gives ([], none, e) = absurd (some none)
  all_stopped h gives (xs ∷ groups, (lt, end, s, m), e) =
      subst (λ (ys : List Entry). Grows a b ys) (sym e) (stopped_by xs groups end (subsection.complete at xs end s) h m)

  some_by : (mid : Input) (xs : List Entry) (groups : List (List Entry)) (end : Option Input) → subsection.read at ≡ (xs, end)
      → AddsUpTo subsection at a b (Some mid) → GivesSome mid → MatchOption end (groups ≡ []) (λ m. Groups subsection m groups) → (xs ++ concat groups) ≢ []
  some_by mid xs groups end e h rest m =
      let ends : end ≡ Some mid = sym (ap (λ r. r.1) e) ∙ h.0 in
      let others : Groups subsection mid groups = subst (λ (o : Option Input). MatchOption o (groups ≡ []) (λ x. Groups subsection x groups)) ends m in
      right-some xs (concat groups) (rest (concat groups) (groups, others, refl))

  some_more : (mid : Input) → AddsUpTo subsection at a b (Some mid) → GivesSome mid → GivesSome at
  some_more mid h rest gives ([], none, e) = absurd (some none)
  some_more mid h rest gives (xs ∷ groups, (lt, end, s, m), e) =
      subst (λ (ys : List Entry). ys ≢ []) (sym e) (some_by mid xs groups end (subsection.complete at xs end s) h rest m)

  some_here : WantsMemory subsection at → GivesSome at
  some_here h gives ([], none, e) = absurd (some none)
  some_here h gives (xs ∷ groups, (lt, end, s, m), e) =
      subst (λ (ys : List Entry). ys ≢ []) (sym e)
      (left-some xs (concat groups) (subst (λ (ys : List Entry). ys ≢ []) (ap (λ r. r.0) (subsection.complete at xs end s)) h))

  pub smaller : (mid : Input) → AddsUpTo subsection at a b (Some mid) → length mid.bytes < length at.bytes
  smaller mid h = subsection_shrinks at mid (subsection.read at).0 (subst (λ (o : Option Input). subsection.gives at (subsection.read at).0 o) h.0 (subsection.sound at))

  pub underway_more : (start : Input) (old : NamesBuilder) (mid : Input) → Underway start old at a → AddsUpTo subsection at a b (Some mid) → Underway start old mid b
  underway_more start old mid u h = record {
    completes = λ new rest. u.completes new (all_more mid new h rest);
    some = λ rest. u.some (some_more mid h rest);
  }

  pub underway_stopped : (start : Input) (old : NamesBuilder) (e : Error) → Underway start old at a → AddsBefore subsection at a b e → AddsAllBefore start old b e
  underway_stopped start old (Malformed place) u h = u.completes b (all_stopped h)
  underway_stopped start old Memory u h = u.some (some_here h)
  underway_stopped start old _ u h = absurd h

-- ---- No more subsections

all_ended : (at : Input) (a : NamesBuilder) → at.bytes ≡ [] → AddsAll at a a
all_ended at a none gives ([], n, e) = subst (λ (ys : List Entry). Grows a a ys) (sym e) (grows_none a)
all_ended at a none gives (xs ∷ groups, (lt, end, s, m), e) = absurd (omega (arith, ap length none, lt))

pub underway_ended : (start at : Input) (old a : NamesBuilder) → at.bytes ≡ [] → Underway start old at a → AddsAll start old a
underway_ended start at old a none u = u.completes a (all_ended at a none)
