-- The program's meaning of a label as the value of the definitions.
use Rattle.wasmprinter_custom.specs.Shown.{identifier_view}
use Rattle.wasmprinter_flat.specs.OpenLabels.Found.{Found, ByName, ByNumber, ToBlock, ToNothing}
use Rattle.wasmprinter_flat.specs.declared.open_labels.LabelRef.{LabelRef}
use Rattle.wasmprinter_flat.specs.declared.open_labels.LabelRef.TheVariants as meant

-- The meaning that the program's value represents.
abbrev pub found_view : LabelRef → Found
found_view (meant.ByName identifier) = ByName (identifier_view identifier)
found_view meant.ByNumber = ByNumber
found_view (meant.ToBlock number) = ToBlock number
found_view meant.ToNothing = ToNothing
