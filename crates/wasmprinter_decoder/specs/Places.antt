-- The sections that custom sections follow.
use Rattle.std.specs.Prelude.{Option, option_map}
use Rattle.wasmprinter_spec.specs.Kinds.{Kind, TypeSection, ImportSection, FunctionSection, TableSection, MemorySection, TagSection, GlobalSection, ExportSection, StartSection, ElementSection, CodeSection, DataSection}
use Rattle.wasmprinter_decoder.specs.declared.custom_section_positions.SectionKind.{SectionKind}
use Rattle.wasmprinter_decoder.specs.declared.custom_section_positions.SectionKind.TheVariants as k

-- The kind of section that a kind of the program represents.
abbrev pub section_kind_view : SectionKind → Kind
section_kind_view k.Type = TypeSection
section_kind_view k.Import = ImportSection
section_kind_view k.Function = FunctionSection
section_kind_view k.Table = TableSection
section_kind_view k.Memory = MemorySection
section_kind_view k.Tag = TagSection
section_kind_view k.Global = GlobalSection
section_kind_view k.Export = ExportSection
section_kind_view k.Start = StartSection
section_kind_view k.Element = ElementSection
section_kind_view k.Code = CodeSection
section_kind_view k.Data = DataSection

-- The kind of the section that a custom section follows, if there is one.
abbrev pub after_view : Option SectionKind → Option Kind
after_view after = option_map section_kind_view after
