-- Reading the bodies of functions.
use Rattle.std.specs.List.{AllByRecursion}
use Rattle.std.specs.Prelude.{◌≡◌, ℕ, ◌≤◌, List, Option, Some, None, Result, Ok, Err}
use Rattle.wasmprinter_spec.specs.Grammar.{Input, input, Placed, value_with_place}
use Rattle.wasmprinter_spec.specs.Sized.{front_at}
use Rattle.wasmprinter_spec.specs.Name.{u32, vec}
use Rattle.wasmprinter_spec.specs.Placed.{Body}
use Rattle.wasmprinter_spec.specs.Binary.Code.{body, code_entry}
use Rattle.wasmprinter_spec.specs.Limits.{local_count, most_locals}
use Rattle.wasmprinter_bytes.specs.Reads.{IsPlaceIn}
use Rattle.wasmprinter_bytes.specs.declared.library_error.Error.{Error}
use Rattle.wasmprinter_bytes.specs.Reasons.{Reasons, HasReason}
use Rattle.wasmprinter_decoder.specs.Growing.{HasBlocks}
use Rattle.wasmprinter_decoder.specs.Refusals.{HasManyLocals, HasFew, IsOver, FirstIsOver}
use Rattle.wasmprinter_bytes.specs.Lists.{CountsItems}

-- The bytes begin with a size, and the next `size` bytes are a body for which `HasBlocks` holds.
pub record HasEntryBlocks (at : Input) : Type 0 where
  pub size : ℕ
  pub after : Input
  pub sized : u32.parse at ≡ Some (size, after)
  pub part : List ℕ
  pub rest : Input
  pub cut : front_at size after ≡ Some (part, rest)
  pub blocks : HasBlocks (input after.place part)

-- The reasons for errors when a body is read. The bytes do not encode a body; or there are too many locals, and the
-- body that the bytes encode, if they encode one, has them; or an allocation failed, and `grows` holds.
abbrev pub body_reasons : (Input → Option (Placed Body × Input)) → Type 0 → Input → Reasons
body_reasons parse grows at = record {
  malformed = λ place. (parse at ≡ None) × IsPlaceIn at place;
  component = ⊥;
  locals = λ place. HasManyLocals at place × ((x : Placed Body × Input) → parse at ≡ Some x → IsOver place x.0);
  functions = λ count. ⊥;
  tables = λ place. ⊥;
  memory = grows;
}

-- A body within the limit on locals is read by the given reader; or the error has its reason.
abbrev pub TakesBodyBy : (Input → Option (Placed Body × Input)) → (Input → Type 0) → Input → Result (Placed Body) Error → Input → Type 0
TakesBodyBy parse Grows old (Ok b) new = (parse old ≡ Some (b, new)) × (local_count b.value.locals ≤ most_locals)
TakesBodyBy parse Grows old (Err e) new = HasReason (body_reasons parse (Grows old) old) e

-- A body within the limit on locals is read; or the error has its reason.
abbrev pub TakesBody : Input → Result (Placed Body) Error → Input → Type 0
TakesBody old r new = TakesBodyBy (value_with_place body).parse HasBlocks old r new

-- The same for an entry of a code section.
abbrev pub TakesEntry : Input → Result (Placed Body) Error → Input → Type 0
TakesEntry old r new = TakesBodyBy code_entry.parse HasEntryBlocks old r new

-- The reasons for errors when the bodies of a code section are read.
abbrev pub bodies_reasons : Input → Reasons
bodies_reasons at = record {
  malformed = λ place. ((vec code_entry).parse at ≡ None) × IsPlaceIn at place;
  component = ⊥;
  locals = λ place. HasManyLocals at place × ((x : List (Placed Body) × Input) → (vec code_entry).parse at ≡ Some x → FirstIsOver place x.0);
  functions = λ count. ⊥;
  tables = λ place. ⊥;
  memory = CountsItems at;
}

-- Bodies within the limit on locals are read; or the error has its reason.
abbrev pub TakesBodies : {X : Type 0} → (X → List (Placed Body)) → Input → Result X Error → Input → Type 0
TakesBodies items old (Ok v) new = ((vec code_entry).parse old ≡ Some (items v, new)) × AllByRecursion HasFew (items v)
TakesBodies items old (Err e) new = HasReason (bodies_reasons old) e
