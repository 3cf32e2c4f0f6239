-- The parts of the sections of a module, one after the other.
use Rattle.std.specs.Prelude.{◌≡◌, List, [], ◌∷◌, ◌++◌, codes, true, false, ◌||◌, Option, Some, None}
use Rattle.wasmprinter_spec.specs.Kinds.{Kind}
use Rattle.wasmprinter_spec.specs.Names.{Names}
use Rattle.wasmprinter_spec.specs.Placed.{PlacedModule}
use Rattle.wasmprinter_spec.specs.Options.{Options, Answers}
use Rattle.wasmprinter_spec.specs.Layout.{section_parts, module_parts, module_pieces_with}
use Rattle.wasmprinter_spec.specs.Piece.{Begin, EndLine, Open}
use Rattle.wasmprinter_spec.specs.Layout.Groups.{close, has_break}
use Rattle.wasmprinter_spec.specs.Layout.Identifiers.{leading_id_and_name_pieces}
use Rattle.wasmprinter_spec.specs.Layout.Declarations.{Scope}
use Rattle.wasmprinter_spec.specs.Layout.Customs.{Part, Shown, Laid, laid_parts}
use Rattle.wasmprinter_fold.specs.Views.{FolderView}

-- There is a folder exactly if the options ask for folding. It folds the operators of this module, with escape
-- sequences in the texts or without.
abbrev pub Folds : Options → Option FolderView → PlacedModule → Type 0
Folds o None m = o.folds ≡ false
Folds o (Some f) m = (o.folds ≡ true) × (f.operators_of ≡ m) × (f.color ≡ o.color)

-- The parts of the sections of these kinds. The custom sections after each have their own answers.
abbrev pub sections_parts : Options → Scope → PlacedModule → List Answers → List Kind → List Part
sections_parts o s m (a ∷ answers) (k ∷ ks) = section_parts o s m a k ++ sections_parts o s m answers ks
sections_parts o s m _ _ = []

-- The parts inside the module's group.
abbrev pub inner_parts : Options → Answers → Names → PlacedModule → List Part
inner_parts o answers names m = Shown (leading_id_and_name_pieces names.module_name) ∷ module_parts o answers names m

-- The last parenthesis.
abbrev pub last_parts : Options → Answers → Names → PlacedModule → List Part
last_parts o answers names m =
    Shown (close (Some m.size) 0 (o.offsets || has_break (laid_parts (inner_parts o answers names m)).pieces)) ∷ []

-- All parts of a module.
abbrev pub whole_parts : Options → Answers → Names → PlacedModule → List Part
whole_parts o answers names m =
    Shown (Begin 0 ∷ []) ∷ (Shown (Open (codes "module") ∷ [])
    ∷ ((inner_parts o answers names m ++ last_parts o answers names m) ++ (Shown (EndLine ∷ []) ∷ [])))

-- The layout of a module with these identifiers: its pieces, and the refusal that ends it, if there is one.
abbrev pub module_laid : Options → Answers → Names → PlacedModule → Laid
module_laid o answers names m =
    record { pieces = module_pieces_with o answers names m; refused = (laid_parts (module_parts o answers names m)).refused }
