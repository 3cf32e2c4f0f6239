-- The identifiers of a module that bytes encode are apart and are UTF-8.
use Rattle.std.proofs.Common.{List, [], ◌∷◌, ◌++◌, Bool, true, false, bytes_eq}
use Rattle.std.specs.Prelude.{if◌then◌else◌}
use Rattle.std.specs.List.{AllByRecursion}
use Rattle.wasmprinter_spec.specs.Grammar.{input}
use Rattle.wasmprinter_spec.specs.Placed.{Custom, CustomEntry, PlacedModule}
use Rattle.wasmprinter_spec.specs.Customs.{name_section}
use Rattle.wasmprinter_spec.specs.Names.{AreApart, AreNamed}
use Rattle.wasmprinter_spec.specs.Names.Section.{Entry}
use Rattle.wasmprinter_spec.specs.ModuleNames.{entries_given, custom_entries, name_entries, module_names}
use Rattle.wasmprinter_spec.proofs.NameSections.{gives_some}
use Rattle.wasmprinter_laws.specs.NameLaws.{AreEntries, EntriesAreGiven, ModulesHaveIdentifiers}
use Rattle.wasmprinter_laws.proofs.Ranged.{IsRangedCustom, IsRanged}
use Rattle.wasmprinter_laws.proofs.Ranges.{ranged}
use Rattle.wasmprinter_laws.proofs.Names.Distinct.{identifiers_are_apart}
use Rattle.wasmprinter_laws.proofs.Names.Fits.{bytes_give_entries}
use Rattle.wasmprinter_laws.proofs.Names.Named.{identifiers_are_named}

both_entries : (xs ys : List Entry) → AreEntries xs → AreEntries ys → AreEntries (xs ++ ys)
both_entries [] ys h k = k
both_entries (x ∷ xs) ys h k = (h.0, both_entries xs ys h.1 k)

custom_entries-are : (c : Custom) → IsRangedCustom c → AreEntries (custom_entries c)
custom_entries-are c h = by (bytes_eq c.name name_section)
  where
    by : (b : Bool) → AreEntries (if b then entries_given c.bytes else [])
    by true = let at = input c.bytes.place c.bytes.value in bytes_give_entries at (entries_given c.bytes) h.bytes (gives_some at)
    by false = tt

name_entries-are : (cs : List CustomEntry) → AllByRecursion (λ c. IsRangedCustom c.section.value) cs → AreEntries (name_entries cs)
name_entries-are [] h = tt
name_entries-are (c ∷ cs) h = both_entries (custom_entries c.section.value) (name_entries cs) (custom_entries-are c.section.value h.0) (name_entries-are cs h.1)

pub module_names_apart : (synthesizes : Bool) (m : PlacedModule) → IsRanged m → AreApart (module_names synthesizes m)
module_names_apart synthesizes m h = identifiers_are_apart synthesizes (name_entries m.customs) (name_entries-are m.customs h.each_custom)

pub module_names_named : (synthesizes : Bool) (m : PlacedModule) → IsRanged m → AreNamed (module_names synthesizes m)
module_names_named synthesizes m h = identifiers_are_named synthesizes (name_entries m.customs) (name_entries-are m.customs h.each_custom)

-- The entries from which items have their names are those that the data gives.
pub entries_are_given : EntriesAreGiven
entries_are_given d = gives_some (input d.place d.value)

pub modules_have_identifiers : ModulesHaveIdentifiers
modules_have_identifiers bytes m synthesizes spelled =
    let held = ranged bytes m spelled in
    (module_names_apart synthesizes m held, module_names_named synthesizes m held)
