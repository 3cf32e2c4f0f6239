-- The names of a module: the printed identifiers are those of the definitions, and memory is allocated for them
-- only if the module has a custom section, which is kept.
use Rattle.std.proofs.Common.{◌≡◌, ◌≢◌, ℕ, ◌+◌, ◌<◌, Bool, true, false, ◌&&◌, Option, Some, None, List, [], ◌∷◌, ◌++◌, length, refl, sym, ap, ◌∙◌, subst, arith, append_assoc, inl, inr}
use Rattle.std.proofs.Math.Path.{fun_ext}
use Rattle.std.proofs.lemmas.List.{length-append}
use Rattle.wasmprinter_spec.specs.Grammar.{◌>>=◌, bind_some, some_is, Placed, input}
use Rattle.wasmprinter_spec.specs.Choices.{tested}
use Rattle.wasmprinter_spec.specs.Placed.{Custom, CustomEntry, PlacedFunction, PlacedModule}
use Rattle.wasmprinter_spec.specs.Sections.{Kind, CustomSection, Section, section, are_above, kind_after, with_custom, customs_after}
use Rattle.wasmprinter_spec.specs.Repeated.{until_end}
use Rattle.wasmprinter_spec.specs.Binary.{Spells, binary, customs_in, type_indices_in, bodies_in, data_count_in, datas_in, function_pairs, counts_data, module_from}
use Rattle.wasmprinter_spec.specs.Names.{Naming, names_by}
use Rattle.wasmprinter_spec.specs.Options.{Options}
use Rattle.wasmprinter_custom.specs.Views.{NamedItem, name_at}
use Rattle.wasmprinter_flat.specs.OpenLabels.LabelState.{LabelState, names_of}
use Rattle.wasmprinter_spec.specs.Names.Section.{Entry}
use Rattle.wasmprinter_spec.specs.Names.Content.{name_of}
use Rattle.wasmprinter_spec.specs.ModuleNames.{name_entries, module_names}
use Rattle.wasmprinter_spec.proofs.Ordered.{picks}
use Rattle.wasmprinter_decoder.specs.Refusals.{HasCustom, KeepsSome}
use Rattle.wasmprinter_decoder.specs.Decoding.{HoldsSome, HasDecodingReason}
use Rattle.wasmprinter_bytes.specs.declared.library_error.Error.TheVariants.{Memory}
use Rattle.wasmprinter.specs.Decoded.{Decoded}

-- ---- Identifiers

-- Two namings that name each item the same give the same names.
pub same_names : (synthesizes : Bool) (a b : Naming) → ((s outer index : ℕ) → a s outer index ≡ b s outer index) → names_by synthesizes a ≡ names_by synthesizes b
same_names synthesizes a b e = ap (names_by synthesizes) (fun_ext (λ s. fun_ext (λ outer. fun_ext (λ index. e s outer index))))

-- A naming that names each item by the entries of a module gives the names of the module.
pub are_names : (synthesizes : Bool) (m : PlacedModule) (a : Naming) → ((s outer index : ℕ) → a s outer index ≡ name_of (name_entries m.customs) s outer index)
    → names_by synthesizes a ≡ module_names synthesizes m
are_names synthesizes m a e = same_names synthesizes a (name_of (name_entries m.customs)) e

-- ---- Memory

-- If name sections give entries, there is at least one custom section.
no_entries : (cs : List CustomEntry) → name_entries cs ≢ [] → 0 < length cs
no_entries [] some = absurd (some refl)
no_entries (c ∷ cs) some = omega arith

-- If bytes after a prefix encode sections up to the end and one of them is a custom section, the input has a
-- custom section.
custom_among : (last : Option Kind) (p : ℕ) (before text : List ℕ) (ss : List Section) → (until_end section).spells (p + length before) text ss → 0 < length (customs_after last ss)
    → HasCustom (input p (before ++ text))
custom_among last p before text [] s some = absurd (omega (arith, some))
custom_among last p before text (x ∷ xs) s some =
    elim (picks CustomSection x) [
      | inl other ↦
          let next : Option Kind = kind_after last x in
          let rest : HasCustom (input p ((before ++ s.0) ++ s.1)) =
          custom_among next p (before ++ s.0) s.1 xs
          (subst (λ (q : ℕ). (until_end section).spells q s.1 xs) (omega (arith, length-append before s.0)) s.5)
          (subst (λ (cs : List CustomEntry). 0 < length cs) (ap (λ (o : Option (Placed Custom)). with_custom last o (customs_after next xs)) other) some) in
          subst (λ (bs : List ℕ). HasCustom (input p bs)) (append_assoc before s.0 s.1 ∙ ap (λ (r : List ℕ). before ++ r) (sym s.2)) rest
      | inr own ↦ record {
        before = before;
        text = s.0;
        after = s.1;
        parts = ap (λ (r : List ℕ). before ++ r) s.2;
        custom = own.0;
        spelled = subst (λ (y : Section). section.spells (p + length before) s.0 y) own.1 s.4;
      }
    ]

-- If bytes encode a module with custom sections, something of them is kept.
pub keeps_custom : (bytes : List ℕ) (m : PlacedModule) → Spells bytes m → 0 < length m.customs → KeepsSome (input 0 bytes)
keeps_custom bytes m s some =
    let ss : List Section = s.spelled.0.1 in
    let head = s.spelled.2 in
    let size : ℕ = 0 + length bytes in
    let pairs : Option (List PlacedFunction) = function_pairs (type_indices_in ss) (bodies_in ss) in
    let made : List PlacedFunction → Option PlacedModule = λ fs. Some (module_from size ss fs) in
    let counted = tested (are_above 0 ss && counts_data (data_count_in ss) (length (datas_in ss))) (pairs >>= made) m s.spelled.1 in
    let paired = bind_some pairs made m counted.1 in
    let same : customs_in ss ≡ m.customs = ap (λ (x : PlacedModule). x.customs) (some_is (module_from size ss paired.0) m paired.2) in
    let among : HasCustom (input 0 (head.0 ++ head.1)) =
    custom_among None 0 head.0 head.1 ss head.4 (subst (λ (cs : List CustomEntry). 0 < length cs) (sym same) some) in
    inr (subst (λ (bs : List ℕ). HasCustom (input 0 bs)) (sym head.2) among)

-- A module with custom sections holds something.
pub holds_custom : (m : PlacedModule) → 0 < length m.customs → HoldsSome m
holds_custom m some = omega (arith, some)

-- ---- Errors

pub one_module : (bytes : List ℕ) (m n : PlacedModule) → Spells bytes m → Spells bytes n → m ≡ n
one_module bytes m n s t = some_is m n (sym (binary.complete (input 0 bytes) m s.spelled) ∙ binary.complete (input 0 bytes) n t.spelled)

pub same_module : {bytes : List ℕ} (d : Decoded bytes) (n : PlacedModule) → Spells bytes n → d.placed ≡ n
same_module {bytes} d n s = one_module bytes d.placed n d.spelled s

-- If a module has names, a failed allocation for them is a true reason to refuse its bytes.
pub names_refusal : (bytes : List ℕ) (m : PlacedModule) → Spells bytes m → name_entries m.customs ≢ [] → HasDecodingReason bytes Memory
names_refusal bytes m s some =
    let filled : 0 < length m.customs = no_entries m.customs some in
    (keeps_custom bytes m s filled, λ n t. holds_custom n (subst (λ (x : PlacedModule). 0 < length x.customs) (one_module bytes m n s t) filled))

-- If there are no entries, no item has a name.
pub unnamed : (entries : List Entry) → entries ≡ [] → (s outer index : ℕ) → name_of entries s outer index ≡ None
unnamed entries e s outer index = rw e refl

-- ---- Printing with these names

-- The identifiers that are printed with the names of a module's sections are those of the module.
pub shown_names : (o : Options) (m : PlacedModule) (s : LabelState) (items : List NamedItem) → s.item_names ≡ items → s.synthesizes ≡ o.synthesizes →
    ((t outer index : ℕ) → name_at items t outer index ≡ name_of (name_entries m.customs) t outer index) → names_of s ≡ module_names o.synthesizes m
shown_names o m s items same synthesizes given =
    ap (λ (x : List NamedItem). names_by s.synthesizes (name_at x)) same ∙ ap (λ (b : Bool). names_by b (name_at items)) synthesizes ∙ are_names o.synthesizes m (name_at items) given

-- A refusal is not a success.
pub not_ok : false ≡ true → ⊥
not_ok h = absurd cc
