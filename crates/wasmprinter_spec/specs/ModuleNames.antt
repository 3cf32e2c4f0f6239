-- The identifiers of a module, by its name sections (appendix "Name Section" of the standard).
use Rattle.std.specs.Prelude.{ℕ, List, [], ◌∷◌, ◌++◌, Bool, bytes_eq, if◌then◌else◌, length}
use Rattle.wasmprinter_spec.specs.Grammar.{input, Placed}
use Rattle.wasmprinter_spec.specs.Placed.{Custom, CustomEntry, PlacedModule}
use Rattle.wasmprinter_spec.specs.Customs.{name_section}
use Rattle.wasmprinter_spec.specs.Names.{Names, names_of}
use Rattle.wasmprinter_spec.specs.Names.Section.{Entry, subsections}

-- The entries that the data of a name section gives: the only list with `GivesNames`.
abbrev pub entries_given : Placed (List ℕ) → List Entry
entries_given d = ((subsections (length d.value)).read (input d.place d.value)).0

-- The entries of a custom section, empty unless it is a name section.
abbrev pub custom_entries : Custom → List Entry
custom_entries c = if bytes_eq c.name name_section then entries_given c.bytes else []

-- The entries of all name sections, in order, of each section those before its first error.
abbrev pub name_entries : List CustomEntry → List Entry
name_entries [] = []
name_entries (c ∷ cs) = custom_entries c.section.value ++ name_entries cs

-- The identifiers of a module. For items without a name they are synthesized or absent.
abbrev pub module_names : Bool → PlacedModule → Names
module_names synthesizes m = names_of synthesizes (name_entries m.customs)
