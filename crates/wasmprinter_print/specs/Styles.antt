-- The styles of the code as the styles of calls.
use Rattle.wasmprinter_spec.specs.Call as call
use Rattle.wasmprinter_spec.specs.Call.{Style}
use Rattle.wasmprinter_print.specs.declared.style.Style.{Style as LayoutOptions}
use Rattle.wasmprinter_print.specs.declared.style.Style.TheVariants.{Literal, Name, Keyword, TypeName, Comment}

-- The style that a value of the code's type `Style` chooses.
abbrev pub style_of : LayoutOptions → Style
style_of Literal = call.Literal
style_of Name = call.Name
style_of Keyword = call.Keyword
style_of TypeName = call.TypeName
style_of Comment = call.Comment
