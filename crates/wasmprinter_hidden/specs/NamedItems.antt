-- The items that a name section names, with the names that count, as the program has them.
use Rattle.std.specs.Prelude.{◌≡◌, ℕ, List, Bool, false, not, bytes_eq, Option}
use Rattle.wasmprinter_spec.specs.Grammar.{◌>>=◌}
use Rattle.wasmprinter_spec.specs.Repeated.{some_or}
use Rattle.wasmprinter_spec.specs.Labels.{Named}
use Rattle.wasmprinter_spec.specs.Placed.{PlacedModule}
use Rattle.wasmprinter_spec.specs.ModuleNames.{name_entries}
use Rattle.wasmprinter_spec.specs.Names.Content.{name_of}
use Rattle.wasmprinter_spec.specs.Names.Section.{module_subsection, local_subsection, label_subsection, field_subsection}
use Rattle.wasmprinter_custom.specs.Spaces.{id_of}
use Rattle.wasmprinter_custom.specs.Views.{NamedItem, name_at}
use Rattle.wasmprinter_hidden.specs.declared.name_subsections.NamedKind.{NamedKind}
use Rattle.wasmprinter_hidden.specs.declared.name_subsections.NamedKind.TheVariants.{Module, Items}
use Rattle.wasmprinter_hidden.specs.declared.name_subsections.InnerSpace.{InnerSpace}
use Rattle.wasmprinter_hidden.specs.declared.name_subsections.InnerSpace.TheVariants.{Local, Label, Field}

-- The id of the subsection that names the module, or the items of the space.
abbrev pub kind_id : NamedKind → ℕ
kind_id Module = module_subsection
kind_id (Items space) = id_of space

-- The id of the subsection that names the items of the space.
abbrev pub inner_id : InnerSpace → ℕ
inner_id Local = local_subsection
inner_id Label = label_subsection
inner_id Field = field_subsection

-- Each item has the name that counts in the module.
abbrev pub HaveNames : PlacedModule → List NamedItem → Type 0
HaveNames m names = (s outer index : ℕ) → name_at names s outer index ≡ name_of (name_entries m.customs) s outer index

-- There is a name, and it is another one than this.
abbrev pub is_other : Option Named → List ℕ → Bool
is_other counted name = some_or (counted >>= λ n. n.given) false (λ given. not (bytes_eq given name))
