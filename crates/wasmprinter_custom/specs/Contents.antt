-- The content of a `dylink.0` subsection that the program's value represents.
use Rattle.wasmprinter_spec.specs.Customs.Dylink as d
use Rattle.wasmprinter_custom.specs.declared.dylink.Content.{Content}
use Rattle.wasmprinter_custom.specs.declared.dylink.Content.TheVariants.{MemInfo, Needed, Exports, Imports, RuntimePath}

-- The content that the program's value represents.
abbrev pub content_view : Content → d.SubsectionContent
content_view (MemInfo m) = d.Sizes m
content_view (Needed names) = d.Needed names
content_view (Exports es) = d.Exports es
content_view (Imports is) = d.Imports is
content_view (RuntimePath names) = d.Paths names
