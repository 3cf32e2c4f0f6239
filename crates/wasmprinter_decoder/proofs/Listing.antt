-- A loop that reads the bodies of a code section, and the section that contains them.
use Rattle.std.proofs.Common.{◌≡◌, ℕ, suc, ◌+◌, ◌-◌, ◌<◌, List, [], ◌∷◌, ◌++◌, Option, Some, None, refl, sym, ap, subst, ◌∙◌, arith, inl, inr, ◌≤◌}
use Rattle.std.specs.List.{AllByRecursion}
use Rattle.wasmprinter_spec.specs.Grammar.{Input, Grammar, ◌>>=◌, bind_some, some_is, Placed}
use Rattle.wasmprinter_spec.specs.Name.{u32, vec}
use Rattle.wasmprinter_spec.specs.Repeated.{items_at}
use Rattle.wasmprinter_spec.specs.Placed.{Body}
use Rattle.wasmprinter_spec.specs.Binary.Code.{code_entry}
use Rattle.wasmprinter_bytes.specs.Reads.{end_of}
use Rattle.wasmprinter_bytes.specs.declared.library_error.Error.{Error}
use Rattle.wasmprinter_bytes.specs.Reasons.{HasReason}
use Rattle.wasmprinter_bytes.proofs.Reasons.{reason_implied}
use Rattle.wasmprinter_bytes.proofs.Fronts.{with_front}
use Rattle.wasmprinter_decoder.specs.Refusals.{HasManyLocals, HasFew, IsOver, FirstIsOver}
use Rattle.wasmprinter_decoder.specs.Bodies.{body_reasons, HasEntryBlocks, bodies_reasons}
use Rattle.wasmprinter_spec.specs.Sections.{CodeSection}
use Rattle.wasmprinter_decoder.specs.Contents.{content_reasons}
use Rattle.wasmprinter_decoder.proofs.Parts.{alone_some, alone_none}
use Rattle.wasmprinter_decoder.proofs.SectionLists.{alone_items}
use Rattle.wasmprinter_decoder.proofs.LaterPlaces.{IsLater, later_none, later_more, many_later}

-- If a body within the limit on locals is appended to such bodies, all are within the limit.
pub few-push : (bs : List (Placed Body)) (b : Placed Body) → AllByRecursion HasFew bs → HasFew b → AllByRecursion HasFew (bs ++ b ∷ [])
few-push [] b all few = (few, tt)
few-push (x ∷ xs) b all few = (all.0, few-push xs b all.1 few)

-- A body with too many locals after bodies within the limit is the first one.
first_after : (place : ℕ) (front rest : List (Placed Body)) (b : Placed Body) → AllByRecursion HasFew front → IsOver place b
    → FirstIsOver place (front ++ b ∷ rest)
first_after place [] rest b few over = inl over
first_after place (x ∷ xs) rest b few over = inr (few.0, first_after place xs rest b few.1 over)

module _ {A : Type 0} (g : Grammar A) where
  -- The items with their count.
  abbrev with_count : ℕ → Option (List A × Input) → Option ((ℕ × List A) × Input)
  with_count n r = r >>= λ xs. Some ((n, xs.0), xs.1)

  -- The items, after attaching and removing their count.
  abbrev uncounted : ℕ → Option (List A × Input) → Option (List A × Input)
  uncounted n r = with_count n r >>= λ ((_, xs), after). Some (xs, after)

  -- Attaching and removing the count does not change the items.
  uncount : (n : ℕ) (r : Option (List A × Input)) → uncounted n r ≡ r
  uncount n None = refl
  uncount n (Some x) = refl

  -- Reading a vector is reading as many items as its count says.
  pub vec_is : (old start : Input) (count : ℕ) → u32.parse old ≡ Some (count, start) → (vec g).parse old ≡ items_at g.parse count start
  vec_is old start count e = rw e (uncount count (items_at g.parse count start))

-- Prepending no items changes nothing.
front_nil : {A : Type 0} (r : Option (List A × Input)) → with_front [] r ≡ r
front_nil None = refl
front_nil (Some x) = refl

-- Before the loop, no entry has been read.
pub front_start : (count : ℕ) (start at : Input) → start ≡ at → with_front [] (items_at code_entry.parse (count - 0) at) ≡ items_at code_entry.parse count start
front_start count start at e =
    let k : count - 0 ≡ count = omega arith in
    front_nil (items_at code_entry.parse (count - 0) at) ∙ ap (λ (n : ℕ). items_at code_entry.parse n at) k ∙ ap (items_at code_entry.parse count) (sym e)

-- The reader of an entry.
abbrev P : Input → Option (Placed Body × Input)
P = code_entry.parse

module _ (old start at : Input) (count i : ℕ) (front : List (Placed Body)) (counted : u32.parse old ≡ Some (count, start)) (lt : i < count)
    (so_far : with_front front (items_at P (count - i) at) ≡ items_at P count start) (later : IsLater start at) (ends : end_of at ≡ end_of old)
    (forward : old.place ≤ at.place) (few : AllByRecursion HasFew front) where
  -- The list is the items so far, followed by the next item and the others.
  one_more : (vec code_entry).parse old ≡ with_front front (items_at P (suc (count - (i + 1))) at)
  one_more =
      let k : count - i ≡ suc (count - (i + 1)) = omega arith in
      vec_is code_entry old start count counted ∙ sym so_far ∙ ap (λ (n : ℕ). with_front front (items_at P n at)) k

  -- If the next entry has too many locals, it is the first of all bodies that has.
  first_over : (place : ℕ) → ((x : Placed Body × Input) → P at ≡ Some x → IsOver place x.0) → (x : List (Placed Body) × Input) → (vec code_entry).parse old ≡ Some x → FirstIsOver place x.0
  first_over place over x r =
      let m : ℕ = count - (i + 1) in
      let (after_front, rest_parsed, whole) = bind_some (items_at P (suc m) at) (λ z. Some (front ++ z.0, z.1)) x (sym one_more ∙ r) in
      let (rest, end) = after_front in
      let ((entry, mid), parsed, remains) =
      bind_some (P at) (λ a. items_at P m a.1 >>= λ b. Some (a.0 ∷ b.0, b.1)) after_front rest_parsed in
      let ((others, after), others_parsed, result) = bind_some (items_at P m mid) (λ b. Some (entry ∷ b.0, b.1)) after_front remains in
      let first : entry ∷ others ≡ rest =
      ap (λ (z : List (Placed Body) × Input). z.0) (some_is (entry ∷ others, after) after_front result) in
      let all : front ++ rest ≡ x.0 = ap (λ (z : List (Placed Body) × Input). z.0) (some_is (front ++ rest, end) x whole) in
      let here : FirstIsOver place (front ++ entry ∷ others) = first_after place front others entry few (over (entry, mid) parsed) in
      let there : FirstIsOver place (front ++ rest) = subst (λ (bs : List (Placed Body)). FirstIsOver place (front ++ bs)) first here in
      subst (λ (bs : List (Placed Body)). FirstIsOver place bs) all there

  -- An error of an entry is an error of the list of bodies.
  pub bodies_fault : (f : Error) → HasReason (body_reasons P (HasEntryBlocks at) at) f → HasReason (bodies_reasons old) f
  bodies_fault = reason_implied (body_reasons P (HasEntryBlocks at) at) (bodies_reasons old) (record {
    malformed = λ place h. (one_more ∙ rw h.0 refl, omega (arith, h.1, forward));
    component = λ h. h;
    locals = λ place h.
        let from_start : HasManyLocals start place = many_later start at place later h.0 in
        (many_later old start place (later_more u32 old old start count counted (later_none old)) from_start, first_over place h.1);
    functions = λ count h. h;
    tables = λ place h. absurd h;
    memory = λ h. record { count = count; after = start; counted = counted; some = omega arith };
  })

-- An error of the list of bodies is an error of the code section.
pub code_fault : (at : Input) (f : Error) → HasReason (bodies_reasons at) f → HasReason (content_reasons CodeSection at) f
code_fault at = reason_implied (bodies_reasons at) (content_reasons CodeSection at) (record {
  malformed = λ place h. (alone_none (vec code_entry) at h.0, h.1);
  component = λ h. h;
  locals = λ place h. (h.0, λ x e. let s = alone_some (vec code_entry) at x e in (x, refl, h.1 (x, s.0) s.1));
  functions = λ count h. absurd h;
  tables = λ place h. absurd h;
  memory = λ h. (tt, h, λ x e. alone_items code_entry at h x e);
})
