-- The contents of the sections `producers` and `dylink.0` of a module that bytes encode: names in UTF-8 and numbers
-- of 32 bits
use Rattle.std.proofs.Common.{◌≡◌, ℕ, ◌<◌, ◌^◌, ◌==◌, Bool, true, false, cond, List, [], ◌∷◌, length, Option, Some, None, refl, sym, subst, bytes_eq}
use Rattle.std.specs.Prelude.{IsUtf8}
use Rattle.std.proofs.lemmas.Bool.{and_parts}
use Rattle.std.specs.List.{AllByRecursion}
use Rattle.wasmprinter_spec.specs.Character.{class}
use Rattle.wasmprinter_spec.specs.Grammar.{Input, input, byte}
use Rattle.wasmprinter_spec.specs.Quoted.{is_id}
use Rattle.wasmprinter_spec.specs.Sized.{take_bytes}
use Rattle.wasmprinter_spec.specs.Lenient.{Lenient, give, one, unless_ended}
use Rattle.wasmprinter_spec.specs.Placed.{Custom}
use Rattle.wasmprinter_spec.specs.Customs.{CustomTreatment, Silent, ProducersFields, DylinkSubsections, Raw, Malformed, producers_treatment, dylink_treatment, custom_treatment_of, name_section, hint_section, producers_section, dylink_section}
use Rattle.wasmprinter_spec.specs.Customs.Producers.{Value, Field, value, field, producers, have_id_names}
use Rattle.wasmprinter_spec.specs.Customs.Dylink.{MemInfo, SubsectionContent, Sizes, Needed, Exports, Imports, Paths, Other, Subsection, mem_info, export_info, import_info, content_by_id, is_known, content, subsection, subsections, first_other, judgement_by, judgement_of}
use Rattle.wasmprinter_laws.proofs.Tokens.Printed.{is_remark}
use Rattle.wasmprinter_laws.proofs.Bytes.{bytes_same}
use Rattle.wasmprinter_laws.proofs.AllSpelled.{AllSpelled, Spelled-any, Spelled-seq, Spelled-map_value, Spelled-choose, Spelled-value_with_place, Spelled-exactly}
use Rattle.wasmprinter_laws.proofs.AllGiven.{AllGiven, AllGiven-give, AllGiven-follow, AllGiven-repeat, AllGiven-unless_ended}
use Rattle.wasmprinter_laws.proofs.Vectors.{AllSpelled-u32, Spelled-vec}
use Rattle.wasmprinter_laws.proofs.PartRanges.{AllSpelled-name}
use Rattle.wasmprinter_laws.proofs.Ranged.{IsRangedCustom}

-- ---- `producers`

pub record IsRangedValue (v : Value) : Type 0 where
  pub name : IsUtf8 v.name
  pub version : IsUtf8 v.version

abbrev pub AreRangedValues : Field → Type 0
AreRangedValues f = AllByRecursion (λ v. IsRangedValue v.value) f.values

-- The name of the field can start a group.
abbrev pub IsRangedField : Field → Type 0
IsRangedField f = (is_id f.name ≡ true) × AreRangedValues f

AllSpelled-value : AllSpelled value IsRangedValue
AllSpelled-value = Spelled-map_value (Spelled-seq AllSpelled-name (λ _. AllSpelled-name)) (λ x h. record { name = h.0; version = h.1 })

AllSpelled-field : AllSpelled field AreRangedValues
AllSpelled-field = Spelled-map_value (Spelled-seq AllSpelled-name (λ _. Spelled-vec (Spelled-value_with_place AllSpelled-value))) (λ x h. h.1.each)

fields_ranged : (fs : List Field) → AllByRecursion AreRangedValues fs → have_id_names fs ≡ true → AllByRecursion IsRangedField fs
fields_ranged [] h r = tt
fields_ranged (f ∷ fs) h r = let parts = and_parts (is_id f.name) (have_id_names fs) r in ((parts.0, h.0), fields_ranged fs h.1 parts.1)

-- ---- `dylink.0`

pub record IsRangedMemInfo (m : MemInfo) : Type 0 where
  pub memory_size : m.memory_size < 2 ^ 32
  pub memory_alignment : m.memory_alignment < 2 ^ 32
  pub table_size : m.table_size < 2 ^ 32
  pub table_alignment : m.table_alignment < 2 ^ 32

abbrev pub IsRangedContent : SubsectionContent → Type 0
IsRangedContent (Sizes m) = IsRangedMemInfo m
IsRangedContent (Needed ns) = AllByRecursion IsUtf8 ns
IsRangedContent (Exports es) = AllByRecursion (λ e. IsUtf8 e.name) es
IsRangedContent (Imports is) = AllByRecursion (λ i. IsUtf8 i.source × IsUtf8 i.name) is
IsRangedContent (Paths ps) = AllByRecursion IsUtf8 ps
IsRangedContent (Other id) = Unit {0}

abbrev pub AreRangedSubsections : List Subsection → Type 0
AreRangedSubsections ss = AllByRecursion (λ s. IsRangedContent s.value) ss

AllSpelled-mem_info : AllSpelled mem_info IsRangedMemInfo
AllSpelled-mem_info =
    Spelled-map_value (Spelled-seq AllSpelled-u32 (λ _. Spelled-seq AllSpelled-u32 (λ _. Spelled-seq AllSpelled-u32 (λ _. AllSpelled-u32))))
    (λ x (size, (alignment, (table_size, table_alignment))). record { memory_size = size; memory_alignment = alignment; table_size = table_size; table_alignment = table_alignment })

AllSpelled-content_by_id : (id : ℕ) → AllSpelled (content_by_id id) IsRangedContent
AllSpelled-content_by_id id =
    Spelled-choose (id == 1) (Spelled-map_value AllSpelled-mem_info (λ m h. h))
    (Spelled-choose (id == 2) (Spelled-map_value (Spelled-vec AllSpelled-name) (λ ns h. h.each))
    (Spelled-choose (id == 3) (Spelled-map_value (Spelled-vec AllSpelled-export_info) (λ es h. h.each))
    (Spelled-choose (id == 4) (Spelled-map_value (Spelled-vec AllSpelled-import_info) (λ is h. h.each))
    (Spelled-map_value (Spelled-vec AllSpelled-name) (λ ps h. h.each)))))
  where
    AllSpelled-export_info : AllSpelled export_info (λ e. IsUtf8 e.name)
    AllSpelled-export_info = Spelled-map_value (Spelled-seq AllSpelled-name (λ _. AllSpelled-u32)) (λ x h. h.0)

    AllSpelled-import_info : AllSpelled import_info (λ i. IsUtf8 i.source × IsUtf8 i.name)
    AllSpelled-import_info =
        Spelled-map_value (Spelled-seq AllSpelled-name (λ _. Spelled-seq AllSpelled-name (λ _. AllSpelled-u32)))
        (λ x (source, (name, _)). (source, name))

AllSpelled-content : (id size : ℕ) → AllSpelled (content id size) IsRangedContent
AllSpelled-content id size =
    Spelled-choose (is_known id) (Spelled-exactly (AllSpelled-content_by_id id) size) (Spelled-map_value (Spelled-any (take_bytes size)) (λ _ h. tt))

AllSpelled-subsection : AllSpelled subsection (λ s. IsRangedContent s.value)
AllSpelled-subsection =
    Spelled-value_with_place (Spelled-map_value (Spelled-seq (Spelled-any byte) (λ id. Spelled-seq AllSpelled-u32 (λ size. AllSpelled-content id size)))
    (λ x (_, (_, ranged)). ranged))

AllGiven-subsections : (n : ℕ) → AllGiven (λ s. IsRangedContent s.value) (subsections n)
AllGiven-subsections n =
    AllGiven-repeat is (unless_ended each) (AllGiven-unless_ended is each (AllGiven-follow is subsection AllSpelled-subsection (λ s. give (s ∷ [])) (λ s h. AllGiven-give is (s ∷ []) (h, tt)))) n
  where
    is : Subsection → Type 0
    is s = IsRangedContent s.value

    each : Lenient Subsection
    each = one (λ s. s ∷ []) subsection

-- ---- the treatment of a section in the text

-- The name of a malformed section may be printed in a comment.
abbrev pub IsRangedTreatment : Custom → CustomTreatment → Type 0
IsRangedTreatment c (ProducersFields fields) = AllByRecursion IsRangedField fields
IsRangedTreatment c (DylinkSubsections ss) = AreRangedSubsections ss
IsRangedTreatment c Malformed = is_remark c.name ≡ true
IsRangedTreatment c _ = Unit {0}

module _ (c : Custom) (h : IsRangedCustom c) where
  abbrev at : Input
  at = input c.bytes.place c.bytes.value

  producers_ranged : c.name ≡ producers_section → (o : Option (List Field)) → producers.parse at ≡ o → IsRangedTreatment c (producers_treatment o)
  unfolding class
  producers_ranged same None e = subst (λ n. is_remark n ≡ true) (sym same) refl
  producers_ranged same (Some fields) e = by (have_id_names fields) refl
    where
      values : AllByRecursion AreRangedValues fields
      values = ((Spelled-vec AllSpelled-field).has c.bytes.place c.bytes.value fields h.bytes (producers.sound at fields e)).each

      by : (t : Bool) → have_id_names fields ≡ t → IsRangedTreatment c (cond t (ProducersFields fields) Raw)
      by true r = fields_ranged fields values r
      by false r = tt

  dylink_ranged : c.name ≡ dylink_section → IsRangedTreatment c (dylink_treatment (judgement_of at))
  unfolding class
  dylink_ranged same =
      let l = subsections (length at.bytes) in
      let ss : List Subsection = (l.read at).0 in
      by ss ((AllGiven-subsections (length at.bytes)).has at ss (l.read at).1 h.bytes (l.sound at)).0 (first_other ss) (l.read at).1
    where
      by : (ss : List Subsection) → AreRangedSubsections ss → (o : Option ℕ) (end : Option Input) → IsRangedTreatment c (dylink_treatment (judgement_by ss o end))
      by ss r (Some id) end = tt
      by ss r None (Some after) = r
      by ss r None None = subst (λ n. is_remark n ≡ true) (sym same) refl

  pub treatment_ranged : IsRangedTreatment c (custom_treatment_of c)
  treatment_ranged = by (bytes_eq c.name name_section) (bytes_eq c.name hint_section) (bytes_eq c.name producers_section) refl (bytes_eq c.name dylink_section) refl
    where
      by : (a b d : Bool) → bytes_eq c.name producers_section ≡ d → (e : Bool) → bytes_eq c.name dylink_section ≡ e →
          IsRangedTreatment c (cond a Silent (cond b Silent (cond d (producers_treatment (producers.parse at)) (cond e (dylink_treatment (judgement_of at)) Raw))))
      by true b d p e q = tt
      by false true d p e q = tt
      by false false true p e q = producers_ranged (bytes_same c.name producers_section p) (producers.parse at) refl
      by false false false p true q = dylink_ranged (bytes_same c.name dylink_section q)
      by false false false p false q = tt
