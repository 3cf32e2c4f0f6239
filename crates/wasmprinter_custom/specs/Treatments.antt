-- The treatment of a custom section that the program's value represents.
use Rattle.wasmprinter_spec.specs.Customs as d
use Rattle.wasmprinter_custom.specs.declared.section_treatment.CustomTreatment.{CustomTreatment}
use Rattle.wasmprinter_custom.specs.declared.section_treatment.CustomTreatment.TheVariants as r

-- The treatment that the program's value represents.
abbrev pub treatment_view : CustomTreatment → d.CustomTreatment
treatment_view r.Silent = d.Silent
treatment_view (r.Producers fields) = d.ProducersFields fields
treatment_view (r.Dylink subsections) = d.DylinkSubsections subsections
treatment_view (r.Refused id) = d.Refused id
treatment_view r.Raw = d.Raw
treatment_view r.Malformed = d.Malformed
