-- Lists that are the whole content of a section.
use Rattle.std.proofs.Common.{◌≡◌, ℕ, ◌<◌, List, length, Some, None, refl, sym, ap, ◌∙◌, arith}
use Rattle.wasmprinter_spec.specs.Grammar.{Input, Grammar, some_is}
use Rattle.wasmprinter_spec.specs.Sized.{alone}
use Rattle.wasmprinter_spec.specs.Name.{u32, vec}
use Rattle.wasmprinter_spec.specs.Sections.{Section, FunctionSection}
use Rattle.wasmprinter_bytes.specs.declared.library_error.Error.{Error}
use Rattle.wasmprinter_bytes.specs.Reasons.{HasReason}
use Rattle.wasmprinter_bytes.specs.Lists.{CountsItems, BeginsList, reader_reasons}
use Rattle.wasmprinter_bytes.proofs.Reasons.{reason_implied}
use Rattle.wasmprinter_bytes.proofs.Grown.{part_fault}
use Rattle.wasmprinter_decoder.specs.Contents.{item_count, whole_reasons, content_reasons, indices_reasons}
use Rattle.wasmprinter_decoder.proofs.Parts.{alone_some, alone_none}
use Rattle.wasmprinter_decoder.proofs.Counting.{vec_counted, counts_items, vec_some}

-- A list that takes all bytes, with a count above zero, has items.
pub alone_items : {A : Type 0} (g : Grammar A) (at : Input) → CountsItems at → (x : List A) → (alone (vec g)).parse at ≡ Some x → 0 < length x
alone_items g at c x e = let s = alone_some (vec g) at x e in vec_some g at (x, s.0) s.1 c

-- An error of a list for whose items memory may be allocated is an error of the section that contains the list.
pub grown_fault : {A : Type 0} (g : Grammar A) (made : List A → Section) (items functions : Type 0) → items
    → ((xs : List A) → item_count (made xs) ≡ length xs) → (at : Input) (f : Error)
    → HasReason (reader_reasons ((vec g).parse at ≡ None) (CountsItems at) at) f → HasReason (whole_reasons (alone (vec g)) made items functions at) f
grown_fault g made items functions listed counts at =
    reason_implied (reader_reasons ((vec g).parse at ≡ None) (CountsItems at) at) (whole_reasons (alone (vec g)) made items functions at) (record {
      malformed = λ place h. (alone_none (vec g) at h.0, h.1);
      component = λ h. h;
      locals = λ place h. absurd h;
      functions = λ count h. absurd h;
      tables = λ place h. absurd h;
      memory = λ h. (listed, h, λ x e. let some = alone_items g at h x e in omega (arith, counts x));
    })

-- The same for a list that allocates only after its first item.
pub list_fault : {A : Type 0} (g : Grammar A) (made : List A → Section) (items functions : Type 0) → items
    → ((xs : List A) → item_count (made xs) ≡ length xs) → (at : Input) (f : Error)
    → HasReason (reader_reasons ((vec g).parse at ≡ None) (BeginsList g.parse at) at) f → HasReason (whole_reasons (alone (vec g)) made items functions at) f
list_fault g made items functions listed counts at f h =
    grown_fault g made items functions listed counts at f
    (part_fault ((vec g).parse at ≡ None) (BeginsList g.parse at) ((vec g).parse at ≡ None) (CountsItems at) at at (λ none. none) (λ b. b.counts) refl (omega arith) f h)

-- If an allocation failed for a list with items, this is a reason for `Memory` of the section.
pub list_grown : {A : Type 0} (g : Grammar A) (made : List A → Section) (items functions : Type 0) → items
    → ((xs : List A) → item_count (made xs) ≡ length xs) → (at : Input) (x : List A × Input)
    → (vec g).parse at ≡ Some x → 0 < length x.0 → (whole_reasons (alone (vec g)) made items functions at).memory
list_grown g made items functions listed counts at x read some =
    let c = counts_items g at x read some in
    (listed, c, λ y e. let held = alone_items g at c y e in omega (arith, counts y))

-- An error of the type indices is an error of the function section.
pub functions_fault : (at : Input) (f : Error) → HasReason (indices_reasons at) f → HasReason (content_reasons FunctionSection at) f
functions_fault at = reason_implied (indices_reasons at) (content_reasons FunctionSection at) (record {
  malformed = λ place h. (alone_none (vec u32) at h.0, h.1);
  component = λ h. h;
  locals = λ place h. absurd h;
  functions = λ count h. (
    refl,
    (let v = vec_counted u32 at (h.indices, h.after) h.read in record { after = v.after; counted = v.counted ∙ ap (λ (n : ℕ). Some (n, v.after)) h.counted }),
    h.many,
    λ x e.
        let s = alone_some (vec u32) at x e in
        let same : x ≡ h.indices = ap (λ (y : List ℕ × Input). y.0) (some_is (x, s.0) (h.indices, h.after) (sym s.1 ∙ h.read)) in
        (x, refl, ap length same ∙ h.counted),
  );
  tables = λ place h. absurd h;
  memory = λ h. (tt, h, λ x e. alone_items u32 at h x e);
})
