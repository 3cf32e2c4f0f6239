-- Lengths of subtypes, with the byte that says whether they are final.
use Rattle.std.proofs.Common.{◌≡◌, ℕ, ◌+◌, ◌<◌, Bool, true, false, List, [], ◌∷◌, length, refl, arith}
use Rattle.wasmprinter_spec.specs.Types.{CompositeType}
use Rattle.wasmprinter_hidden.specs.Lengths.{unsigned_len, list_len, composite_type_len, sub_type_parts_len}

-- A type that is not final.
pub open_type : (final : Bool) (supers : List ℕ) (t : CompositeType) → final ≡ false → sub_type_parts_len final supers t ≡ 1 + list_len unsigned_len supers + composite_type_len t
open_type true supers t is = cc
open_type false supers t is = refl

-- A type that has supertypes.
pub with_supertypes : (final : Bool) (supers : List ℕ) (t : CompositeType) → 0 < length supers → sub_type_parts_len final supers t ≡ 1 + list_len unsigned_len supers + composite_type_len t
with_supertypes true [] t some = absurd (omega arith)
with_supertypes true (x ∷ xs) t some = refl
with_supertypes false supers t some = refl
