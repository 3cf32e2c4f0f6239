-- The label with its name that a value of the program represents.
use Rattle.wasmprinter_custom.specs.Views.{name_view}
use Rattle.wasmprinter_custom.specs.Labels.{NamedLabel}
use Rattle.wasmprinter_custom.specs.declared.names.LabelName.{LabelName}

-- The function, the number and the name of the label.
abbrev pub label_view : LabelName → NamedLabel
label_view l = record { function = l.function; number = l.number; name = name_view l.name }
