-- The result of a cursor call is the result of reading by a grammar.
use Rattle.std.specs.Prelude.{◌≡◌, ℕ, ◌+◌, ◌≤◌, length, Option, Some, None, Result, Ok, Err}
use Rattle.wasmprinter_spec.specs.Grammar.{Input}
use Rattle.wasmprinter_bytes.specs.declared.malformed.Malformed.{Malformed}

-- The place at which the bytes end.
abbrev pub end_of : Input → ℕ
end_of at = at.place + length at.bytes

-- `Reads view parse old result new`: if `result` is `Ok x`, `parse` at the position `old` gives `view x` and the
-- position `new`. If it is an error, `parse` gives nothing: the bytes do not encode a value.
abbrev pub Reads : {X A : Type 0} → (X → A) → (Input → Option (A × Input)) → Input → Result X Malformed → Input → Type 0
Reads view parse old (Ok x) new = parse old ≡ Some (view x, new)
Reads view parse old (Err e) new = parse old ≡ None

-- The place is not before `from`, and not after the end of the bytes.
abbrev pub IsPlaceFrom : ℕ → Input → ℕ → Type 0
IsPlaceFrom from at place = (from ≤ place) × (place ≤ end_of at)

-- The place is not before the position, and not after the end of the bytes.
abbrev pub IsPlaceIn : Input → ℕ → Type 0
IsPlaceIn at place = IsPlaceFrom at.place at place

-- The place of an error is not before `from`, and not after the end of the bytes.
abbrev pub IsWithinFrom : {X : Type 0} → ℕ → Input → Result X Malformed → Type 0
IsWithinFrom from old (Ok x) = Unit {0}
IsWithinFrom from old (Err e) = IsPlaceFrom from old e.place

-- The place of an error is not before the position, and not after the end of the bytes.
abbrev pub IsWithin : {X : Type 0} → Input → Result X Malformed → Type 0
IsWithin old result = IsWithinFrom old.place old result

-- The call reads a value by `parse` at the position `old`, returns `result`, and leaves the cursor at `new`. `view`
-- maps a value of the program to that of the definitions. The place of an error is only bounded here, and `from` is
-- the lower bound; tests check it.
pub record DecodesFrom {X A : Type 0} (from : ℕ) (view : X → A) (parse : Input → Option (A × Input)) (old : Input)
    (result : Result X Malformed) (new : Input) : Type 0 where
  -- `Ok x`: `parse` gives the value `view x` and the position `new`. An error: `parse` gives nothing.
  pub reads : Reads view parse old result new
  -- The place of an error is not before `from`, and not after the end of the bytes.
  pub within : IsWithinFrom from old result
  -- The bytes end where they ended before.
  pub end : end_of new ≡ end_of old
  -- The cursor only moves forward.
  pub forward : old.place ≤ new.place

-- The call reads a value by `parse` at `old`, returns `result`, and leaves the cursor at `new`, as `DecodesFrom` says.
-- The place of an error is not before the position `old`, and not after the end of the bytes.
abbrev pub Decodes : {X A : Type 0} → (X → A) → (Input → Option (A × Input)) → Input → Result X Malformed → Input → Type 0
Decodes view parse old result new = DecodesFrom old.place view parse old result new
