-- The effect of a reader of entries on the store.
use Rattle.std.specs.Prelude.{◌≡◌, ◌≢◌, List, [], ◌++◌, Option, Some, None, Result, Ok, Err}
use Rattle.wasmprinter_spec.specs.Grammar.{Input}
use Rattle.wasmprinter_spec.specs.Lenient.{Lenient}
use Rattle.wasmprinter_spec.specs.Names.Section.{Entry, GivesNames}
use Rattle.wasmprinter_bytes.specs.declared.library_error.Error.{Error}
use Rattle.wasmprinter_bytes.specs.declared.library_error.Error.TheVariants.{Malformed, Memory}
use Rattle.wasmprinter_custom.specs.HoldsEntries.{HoldsEntries}
use Rattle.wasmprinter_custom.specs.declared.names.NamesBuilder.{NamesBuilder}

-- The store holds these entries, after those that it held before.
abbrev pub Grows : NamesBuilder → NamesBuilder → List Entry → Type 0
Grows old new xs = (entries : List Entry) → HoldsEntries entries old → HoldsEntries (entries ++ xs) new

-- The entries that reading gives were added, and `end` is the position after them, or `None` if reading met an error.
abbrev pub AddsUpTo : Lenient Entry → Input → NamesBuilder → NamesBuilder → Option Input → Type 0
AddsUpTo l at old new end = ((l.read at).1 ≡ end) × Grows old new (l.read at).0

-- Reading gives an entry, so memory is needed.
abbrev pub WantsMemory : Lenient Entry → Input → Type 0
WantsMemory l at = (l.read at).0 ≢ []

-- The effect of a reader that returned this error. For `Malformed`, the entries before the error in the bytes were
-- added. `Memory` is returned only if reading gives an entry, and no other error is returned.
abbrev pub AddsBefore : Lenient Entry → Input → NamesBuilder → NamesBuilder → Error → Type 0
AddsBefore l at old new (Malformed place) = AddsUpTo l at old new None
AddsBefore l at old new Memory = WantsMemory l at
AddsBefore l at old new _ = ⊥

-- The entries were added, and the cursor is after them; or reading met an error, and the entries before it were
-- added; or memory ran out.
abbrev pub Adds : {X : Type 0} → Lenient Entry → Input → NamesBuilder → Result X Error → Input → NamesBuilder → Type 0
Adds l at old (Ok x) after new = AddsUpTo l at old new (Some after)
Adds l at old (Err e) after new = AddsBefore l at old new e

-- The entries of all subsections from a position on were added.
abbrev pub AddsAll : Input → NamesBuilder → NamesBuilder → Type 0
AddsAll at old new = (gives : List Entry) → GivesNames at gives → Grows old new gives

-- Some subsection has an entry.
abbrev pub GivesSome : Input → Type 0
GivesSome at = (gives : List Entry) → GivesNames at gives → gives ≢ []

-- The effect of reading all subsections with this error. For `Malformed`, the entries were added. `Memory` is
-- returned only if some subsection has an entry, and no other error is returned.
abbrev pub AddsAllBefore : Input → NamesBuilder → NamesBuilder → Error → Type 0
AddsAllBefore at old new (Malformed place) = AddsAll at old new
AddsAllBefore at old new Memory = GivesSome at
AddsAllBefore at old new _ = ⊥

-- The entries were added, whether reading met an error or not; or memory ran out.
abbrev pub AddsNames : {X : Type 0} → Input → NamesBuilder → Result X Error → NamesBuilder → Type 0
AddsNames at old (Ok x) new = AddsAll at old new
AddsNames at old (Err e) new = AddsAllBefore at old new e
