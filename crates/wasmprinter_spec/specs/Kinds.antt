-- The kinds of sections (section 5.5 of the standard, "Sections").
use Rattle.std.specs.Prelude.{Bool, true, false}

-- A kind of section. The standard gives each kind an id (`kind_of` in `Sections`).
pub data Kind : Type 0 where
  CustomSection : Kind
  TypeSection : Kind
  ImportSection : Kind
  FunctionSection : Kind
  TableSection : Kind
  MemorySection : Kind
  TagSection : Kind
  GlobalSection : Kind
  ExportSection : Kind
  StartSection : Kind
  ElementSection : Kind
  DataCountSection : Kind
  CodeSection : Kind
  DataSection : Kind

-- The two kinds are equal.
abbrev pub same_kind : Kind → Kind → Bool
same_kind CustomSection CustomSection = true
same_kind TypeSection TypeSection = true
same_kind ImportSection ImportSection = true
same_kind FunctionSection FunctionSection = true
same_kind TableSection TableSection = true
same_kind MemorySection MemorySection = true
same_kind TagSection TagSection = true
same_kind GlobalSection GlobalSection = true
same_kind ExportSection ExportSection = true
same_kind StartSection StartSection = true
same_kind ElementSection ElementSection = true
same_kind DataCountSection DataCountSection = true
same_kind CodeSection CodeSection = true
same_kind DataSection DataSection = true
same_kind _ _ = false
