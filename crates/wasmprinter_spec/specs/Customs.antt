-- The custom sections that are known (from the standard's appendix, Code Metadata and the tool conventions), and
-- which custom sections of a module are printed as raw bytes.
use Rattle.std.specs.Prelude.{ℕ, List, [], ◌∷◌, ◌++◌, Bool, true, false, codes, bytes_eq, Option, Some, None, if◌then◌else◌}
use Rattle.wasmprinter_spec.specs.Grammar.{input}
use Rattle.wasmprinter_spec.specs.Kinds.{Kind}
use Rattle.wasmprinter_spec.specs.Placed.{Custom, CustomEntry}
use Rattle.wasmprinter_spec.specs.Customs.Producers as p
use Rattle.wasmprinter_spec.specs.Customs.Producers.{Field, have_id_names}
use Rattle.wasmprinter_spec.specs.Customs.Dylink.{Subsection, Judged, Whole, Faulty, Unknown, judgement_of}
pub mod Producers
pub mod Dylink
pub mod Hints

-- The names of the known custom sections: `name_section` (appendix "Name Section" of the standard), `hint_section`
-- (Code Metadata), `producers_section` and `dylink_section` (tool conventions).
abbrev pub name_section : List ℕ
name_section = codes "name"

abbrev pub hint_section : List ℕ
hint_section = codes "metadata.code.branch_hint"

abbrev pub producers_section : List ℕ
producers_section = codes "producers"

abbrev pub dylink_section : List ℕ
dylink_section = codes "dylink.0"

-- The treatment of a custom section in the text.
pub data CustomTreatment : Type 0 where
  Silent : CustomTreatment  -- its identifiers or hints occur in the text
  ProducersFields : List Field → CustomTreatment
  DylinkSubsections : List Subsection → CustomTreatment
  Refused : ℕ → CustomTreatment  -- for a subsection with this unknown id
  Raw : CustomTreatment
  Malformed : CustomTreatment  -- raw, after a line that reports its error

-- The treatment of a `producers` section by its fields; `None` if its data has an error.
abbrev pub producers_treatment : Option (List Field) → CustomTreatment
producers_treatment None = Malformed
producers_treatment (Some fields) = if have_id_names fields then ProducersFields fields else Raw

-- The treatment of a `dylink.0` section by the result of reading its data.
abbrev pub dylink_treatment : Judged → CustomTreatment
dylink_treatment (Whole subsections) = DylinkSubsections subsections
dylink_treatment (Unknown id) = Refused id
dylink_treatment Faulty = Malformed

-- The treatment of a custom section, by its name and, for `producers` and `dylink.0`, by its data. If that data has an
-- error, it is `Malformed`, but `Refused` if an unknown subsection of `dylink.0` comes first; it is `Raw` if the name of a
-- field of `producers` is empty or has characters that identifiers can't have.
abbrev pub custom_treatment_of : Custom → CustomTreatment
custom_treatment_of c =
    if bytes_eq c.name name_section then Silent else
    (if bytes_eq c.name hint_section then Silent else
    (if bytes_eq c.name producers_section then producers_treatment (p.producers.parse (input c.bytes.place c.bytes.value)) else
    (if bytes_eq c.name dylink_section then dylink_treatment (judgement_of (input c.bytes.place c.bytes.value)) else Raw)))

-- A custom section that a text must repeat: the kind of the section before it (`after`), its name and its bytes.
pub record RawCustom : Type 0 where
  pub after : Option Kind
  pub name : List ℕ
  pub bytes : List ℕ

-- The custom section as one that a text must repeat.
abbrev pub raw_custom : CustomEntry → RawCustom
raw_custom c = record { after = c.after; name = c.section.value.name; bytes = c.section.value.bytes.value }

-- The section is printed as raw bytes. A refused section is not raw: a text ends before it.
abbrev pub is_raw : CustomTreatment → Bool
is_raw Silent = false
is_raw (ProducersFields fields) = false
is_raw (DylinkSubsections subsections) = false
is_raw (Refused id) = false
is_raw Raw = true
is_raw Malformed = true

-- The custom sections that are printed as raw bytes, in order.
abbrev pub raw_customs : List CustomEntry → List RawCustom
raw_customs [] = []
raw_customs (c ∷ cs) = (if is_raw (custom_treatment_of c.section.value) then raw_custom c ∷ [] else []) ++ raw_customs cs
