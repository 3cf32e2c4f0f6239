-- The folder of the program, and the layout's way to fold.
use Rattle.std.specs.Prelude.{◌≡◌, ℕ, ◌+◌, List, [], ◌∷◌, ◌++◌, Option, Some, None, refl}
use Rattle.std.proofs.Common.{ap₂}
use Rattle.wasmprinter_spec.specs.Placed.{PlacedModule}
use Rattle.wasmprinter_spec.specs.Options.{Options}
use Rattle.wasmprinter_spec.specs.Piece.{Piece}
use Rattle.wasmprinter_spec.specs.Layout.Declarations.{folding_of}
use Rattle.wasmprinter_spec.specs.Layout.Groups.{numbered_pieces}
use Rattle.wasmprinter_fold.specs.Views.{FolderView}
use Rattle.wasmprinter_module_text.specs.Scopes.{folding_in}
use Rattle.wasmprinter_module_text.specs.Sections.{Folds}

-- The folder of the program represents the one by which the layout folds.
pub folding-of : (o : Options) (folder : Option FolderView) (m : PlacedModule) → Folds o folder m → folding_in o.folds folder ≡ folding_of o m
folding-of o None m e = rw e refl
folding-of o (Some f) m e = rw (e.0, e.1, e.2) refl

-- If two layouts of fields agree on each field, they agree on lists of fields.
pub numbered_pieces-agree : {A : Type 0} (f g : ℕ → A → List Piece) → ((i : ℕ) (x : A) → f i x ≡ g i x) → (i : ℕ) (xs : List A) → numbered_pieces f i xs ≡ numbered_pieces g i xs
unfolding numbered_pieces
numbered_pieces-agree f g e i [] = refl
numbered_pieces-agree f g e i (x ∷ xs) = ap₂ (λ (ps qs : List Piece). ps ++ qs) (e i x) (numbered_pieces-agree f g e (i + 1) xs)
