-- The program's scope as the definitions express it, and the parts of it that fields use.
use Rattle.std.specs.Prelude.{ℕ, Bool, true, false, List, [], ◌∷◌, Option, None, option_map}
use Rattle.wasmprinter_spec.specs.Labels.{Named}
use Rattle.wasmprinter_spec.specs.Options.{Options}
use Rattle.wasmprinter_spec.specs.Names.{name_in}
use Rattle.wasmprinter_spec.specs.Layout.Declarations.{scope_of, scope_of_function}
use Rattle.wasmprinter_spec.specs.Layout.Declarations as layout
use Rattle.wasmprinter_spec.specs.Folding.Arities.{types_of}
use Rattle.wasmprinter_custom.specs.Spaces.{id_of, outer_of}
use Rattle.wasmprinter_custom.specs.Views.{name_at}
use Rattle.wasmprinter_custom.specs.declared.index_space.Space.{Space}
use Rattle.wasmprinter_flat.specs.OpenLabels.LabelState.{LabelState, names_of}
use Rattle.wasmprinter_fold.specs.Views.{FolderView, folding_view}
use Rattle.wasmprinter_module_text.specs.declared.printing_scope.Scope.{Scope}

-- How operators are folded, if the options ask for it (`true`) and there is a folder; otherwise `None`: they are flat.
abbrev pub folding_in : Bool → Option FolderView → Option layout.Folding
folding_in true f = option_map folding_view f
folding_in false f = None

-- The scope of the definitions under these options: the types and identifiers of the module, the function of locals and
-- labels, and how operators are folded, or `None` if they are flat.
abbrev pub scope_view : Options → Scope → layout.Scope
scope_view o s = scope_of (types_of s.types.module.now) (names_of s.labels) s.function (folding_in o.folds s.folder)

-- The scope of the definitions, for the locals and labels of function f.
abbrev pub function_scope_view : Options → Scope → ℕ → layout.Scope
function_scope_view o s f = scope_of_function (scope_view o s) f

-- The identifier of an item of the module, by its index in its space. A local or a label would be one of function 0, and
-- a field one of type 0. It computes to a lookup in the scope's names.
abbrev pub item_in : LabelState → Space → ℕ → Option Named
item_in s space number = name_in s.synthesizes (name_at s.item_names) (id_of space) (outer_of space 0) number

-- Whether a list has exactly one item.
abbrev pub is_one : {A : Type 0} → List A → Bool
is_one (x ∷ []) = true
is_one _ = false
