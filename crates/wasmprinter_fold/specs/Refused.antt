-- Why a module cannot be folded: the reason for each error.
use Rattle.std.specs.Prelude.{ℕ, List, [], ◌∷◌, Result, Ok, Err}
use Rattle.wasmprinter_bytes.specs.declared.library_error.Error.{Error}
use Rattle.wasmprinter_bytes.specs.declared.library_error.Error.TheVariants.{FoldLegacy, FoldHint}
use Rattle.wasmprinter_spec.specs.Placed.{PlacedModule}
use Rattle.wasmprinter_spec.specs.Options.{Options}
use Rattle.wasmprinter_spec.specs.Folding.Refusals.{IsFirstLegacy, IsFirstMisplaced}

-- The error with the first place, if there is one.
abbrev pub error_of_first : (ℕ → Error) → List ℕ → Result (Unit {0}) Error
error_of_first error [] = Ok tt
error_of_first error (place ∷ places) = Err (error place)

-- The reason for an error: at its place is the first operator or hint that cannot be folded. Operators come before
-- hints. Errors without a reason are not returned.
abbrev pub HasFoldReason : Options → PlacedModule → Error → Type 0
HasFoldReason o m (FoldLegacy place) = IsFirstLegacy o m place
HasFoldReason o m (FoldHint place) = IsFirstMisplaced o m place
HasFoldReason o m _ = ⊥
