-- Errors of values whose readers may allocate: an error of a part is an error of the whole.
use Rattle.std.proofs.Common.{◌≡◌, ℕ, suc, ◌+◌, ◌-◌, ◌<◌, ◌≤◌, List, Option, Some, None, refl, sym, ◌∙◌, arith}
use Rattle.wasmprinter_spec.specs.Grammar.{Input}
use Rattle.wasmprinter_spec.specs.Name.{u32}
use Rattle.wasmprinter_spec.specs.Repeated.{items_at}
use Rattle.wasmprinter_bytes.specs.declared.library_error.Error.{Error}
use Rattle.wasmprinter_bytes.specs.Reasons.{HasReason}
use Rattle.wasmprinter_bytes.proofs.Reasons.{reason_implied}
use Rattle.wasmprinter_bytes.specs.Reads.{end_of}
use Rattle.wasmprinter_bytes.specs.Lists.{CountsItems, reader_reasons, vec_at}
use Rattle.wasmprinter_bytes.proofs.Fronts.{with_front}

-- An error of a part that ends where the whole ends, and does not start before it, is an error of the whole.
pub part_fault : (nothing grows whole grows_whole : Type 0) (at old : Input) → (nothing → whole) → (grows → grows_whole) → end_of at ≡ end_of old → old.place ≤ at.place → (f : Error)
    → HasReason (reader_reasons nothing grows at) f → HasReason (reader_reasons whole grows_whole old) f
part_fault nothing grows whole grows_whole at old none more ends forward = reason_implied (reader_reasons nothing grows at) (reader_reasons whole grows_whole old) (record {
  malformed = λ place h. (none h.0, omega (arith, h.1, ends, forward));
  component = λ h. h;
  locals = λ place h. h;
  functions = λ count h. h;
  tables = λ place h. h;
  memory = more;
})

module _ {A : Type 0} (parse : Input → Option (A × Input)) (old start at : Input) (count i : ℕ) (front : List A) (counted : u32.parse old ≡ Some (count, start)) (lt : i < count)
    (so_far : with_front front (items_at parse (count - i) at) ≡ items_at parse count start) where
  -- If an item can't be read, the list can't be read.
  none_after : parse at ≡ None → vec_at parse old ≡ None
  none_after e =
      let k : count - i ≡ suc (count - (i + 1)) = omega arith in
      let missing : with_front front (items_at parse (count - i) at) ≡ None = rw (k, e) refl in
      let none : items_at parse count start ≡ None = sym so_far ∙ missing in
      rw (counted, none) refl

  -- The count is above zero.
  pub counted_some : CountsItems old
  counted_some = record { count = count; after = start; counted = counted; some = omega arith }

  -- An error of an item is an error of the list.
  pub list_fault : (grows : Type 0) → end_of at ≡ end_of old → old.place ≤ at.place → (f : Error) → HasReason (reader_reasons (parse at ≡ None) grows at) f
      → HasReason (reader_reasons (vec_at parse old ≡ None) (CountsItems old) old) f
  list_fault grows ends forward = part_fault (parse at ≡ None) grows (vec_at parse old ≡ None) (CountsItems old) at old none_after (λ h. counted_some) ends forward
