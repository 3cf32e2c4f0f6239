-- The remaining entries of a hint section: the next one and those after it. If there is no next
-- entry, no entry remains.
use Rattle.std.specs.Prelude.{List, [], ◌∷◌, Option, Some, None}
use Rattle.wasmprinter_spec.specs.Customs.Hints.{FunctionHints}

-- The next entry, if there is one, and those after it.
abbrev pub entries_left : Option FunctionHints → List FunctionHints → List FunctionHints
entries_left None after = []
entries_left (Some entry) after = entry ∷ after
