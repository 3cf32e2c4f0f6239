-- Values that are read one after the other, and reading that may allocate.
use Rattle.std.specs.Prelude.{◌≡◌, ℕ, ◌<◌, ◌≤◌, List, Option, Some, None, IsSome, Result, Ok, Err}
use Rattle.wasmprinter_spec.specs.Grammar.{Input, ◌>>=◌}
use Rattle.wasmprinter_spec.specs.Name.{u32}
use Rattle.wasmprinter_spec.specs.Repeated.{items_at}
use Rattle.wasmprinter_bytes.specs.Reads.{IsPlaceIn, end_of}
use Rattle.wasmprinter_bytes.specs.declared.library_error.Error.{Error}
use Rattle.wasmprinter_bytes.specs.Reasons.{Reasons, HasReason}

-- A count, and that many values.
abbrev pub count_and_items_at : {A : Type 0} → (Input → Option (A × Input)) → Input → Option ((ℕ × List A) × Input)
count_and_items_at parse at = u32.parse at >>= λ (count, mid). items_at parse count mid >>= λ (xs, after). Some ((count, xs), after)

-- Reads a count and that many values, and gives the values without the count: `(vec g).parse` is `vec_at g.parse`.
abbrev pub vec_at : {A : Type 0} → (Input → Option (A × Input)) → Input → Option (List A × Input)
vec_at parse at = count_and_items_at parse at >>= λ ((count, xs), after). Some (xs, after)

-- The bytes begin with a count above zero.
pub record CountsItems (at : Input) : Type 0 where
  pub count : ℕ
  pub after : Input
  pub counted : u32.parse at ≡ Some (count, after)
  pub some : 0 < count

-- The bytes begin with a count above zero, followed by a first value.
pub record BeginsList {A : Type 0} (parse : Input → Option (A × Input)) (at : Input) : Type 0 where
  pub counts : CountsItems at
  pub first : IsSome (parse counts.after)

-- The reasons why a reader that may allocate can fail: `nothing`, that the bytes do not encode the value, for
-- `Malformed` at a place from the position to the end of the bytes; and `grows`, which holds where the reader may allocate, for `Memory`.
abbrev pub reader_reasons : Type 0 → Type 0 → Input → Reasons
reader_reasons nothing grows at = record {
  malformed = λ place. nothing × IsPlaceIn at place;
  component = ⊥;
  locals = λ place. ⊥;
  functions = λ count. ⊥;
  tables = λ place. ⊥;
  memory = grows;
}

-- A reader of a grammar, for a value whose reading may allocate.
pub record Reader (A : Type 0) : Type 1 where
  -- The value at a position, and the position after it; or nothing if the bytes do not encode a value.
  pub parse : Input → Option (A × Input)
  -- The condition on a position under which reading the value from there may allocate.
  pub grows : Input → Type 0

-- The reader `parse`, which may allocate at the positions where `grows` holds.
abbrev pub reader : {A : Type 0} → (Input → Option (A × Input)) → (Input → Type 0) → Reader A
reader parse grows = record { parse = parse; grows = grows }

-- If `result` is `Ok x`, the reader at the position `old` gives `view x` and the position `new`. If it is
-- `Malformed`, the reader gives nothing, and the place is not before the position `old` and not after the end of the
-- bytes. If it is `Memory`, the reader may allocate at `old`. No other error occurs. The place of an error is only
-- bounded here; tests check it.
abbrev pub ReadsOrFails : {X A : Type 0} → (X → A) → Reader A → Input → Result X Error → Input → Type 0
ReadsOrFails view by old (Ok x) new = by.parse old ≡ Some (view x, new)
ReadsOrFails view by old (Err e) new = HasReason (reader_reasons (by.parse old ≡ None) (by.grows old) old) e

-- The call reads a value by the reader `by` at the position `old`, returns `result`, and leaves the cursor at `new`.
-- `view` maps a value of the program to that of the definitions. This is `Decodes` for a value whose reading may
-- allocate.
pub record DecodesWithAllocation {X A : Type 0} (view : X → A) (by : Reader A) (old : Input) (result : Result X Error) (new : Input) : Type 0 where
  -- `Ok x`: the reader gives `view x` and the position `new`. `Malformed`: it gives nothing, and the place is within the
  -- bytes from `old` on, or their end. `Memory`: it may allocate at `old` (`grows`). No other error occurs.
  pub reads : ReadsOrFails view by old result new
  -- The bytes end where they ended before.
  pub end : end_of new ≡ end_of old
  -- The cursor only moves forward.
  pub forward : old.place ≤ new.place
