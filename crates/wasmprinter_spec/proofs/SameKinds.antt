-- The test whether two kinds of sections are the same.
use Rattle.std.specs.Prelude.{◌≡◌, true, refl}
use Rattle.wasmprinter_spec.specs.Kinds.{Kind, CustomSection, TypeSection, ImportSection, FunctionSection, TableSection, MemorySection, TagSection, GlobalSection, ExportSection, StartSection, ElementSection, DataCountSection, CodeSection, DataSection, same_kind}

pub same_kind-is : (j k : Kind) → same_kind j k ≡ true → j ≡ k
same_kind-is CustomSection CustomSection e = refl
same_kind-is TypeSection TypeSection e = refl
same_kind-is ImportSection ImportSection e = refl
same_kind-is FunctionSection FunctionSection e = refl
same_kind-is TableSection TableSection e = refl
same_kind-is MemorySection MemorySection e = refl
same_kind-is TagSection TagSection e = refl
same_kind-is GlobalSection GlobalSection e = refl
same_kind-is ExportSection ExportSection e = refl
same_kind-is StartSection StartSection e = refl
same_kind-is ElementSection ElementSection e = refl
same_kind-is DataCountSection DataCountSection e = refl
same_kind-is CodeSection CodeSection e = refl
same_kind-is DataSection DataSection e = refl
same_kind-is _ _ e = absurd cc

pub same_kind-refl : (k : Kind) → same_kind k k ≡ true
same_kind-refl CustomSection = refl
same_kind-refl TypeSection = refl
same_kind-refl ImportSection = refl
same_kind-refl FunctionSection = refl
same_kind-refl TableSection = refl
same_kind-refl MemorySection = refl
same_kind-refl TagSection = refl
same_kind-refl GlobalSection = refl
same_kind-refl ExportSection = refl
same_kind-refl StartSection = refl
same_kind-refl ElementSection = refl
same_kind-refl DataCountSection = refl
same_kind-refl CodeSection = refl
same_kind-refl DataSection = refl
