-- A module with functions has a code section.
use Rattle.std.specs.Prelude.{◌≡◌, ◌≢◌, ℕ, ◌+◌, ◌⊎◌, List, [], ◌∷◌, ◌++◌, Bool, true, false, ◌&&◌, nat_eq, bytes_eq, Option, Some, None, length}
use Rattle.std.specs.List.{AllByRecursion}
use Rattle.std.proofs.Common.{refl, sym, ap, ◌∙◌, subst, inl, inr, eqb}
use Rattle.std.proofs.lemmas.Bool.{eqb-true, ne_eqb}
use Rattle.std.proofs.lemmas.Bool.Decides.{eqb_tells}
use Rattle.std.proofs.lemmas.Slice.Eq.{bytes_eq-Decides}
use Rattle.wasmprinter_spec.specs.Grammar.{input, Placed, ◌>>=◌, bind_some, some_is}
use Rattle.wasmprinter_spec.specs.Choices.{tested, cond_cases}
use Rattle.wasmprinter_spec.specs.Repeated.{Entries}
use Rattle.wasmprinter_spec.specs.Placed.{Body, PlacedFunction, PlacedModule}
use Rattle.wasmprinter_spec.specs.Sections.{Kind, Section, holds, Content, CustomSection, TypeSection, ImportSection, FunctionSection, TableSection, MemorySection, TagSection, GlobalSection, ExportSection, StartSection, ElementSection, DataCountSection, CodeSection, DataSection, section, kind_of, content_of, content_in, are_above}
use Rattle.wasmprinter_spec.specs.Binary.{preamble, preamble_bytes, bodies_in, datas_in, data_count_in, type_indices_in, counts_data, function_pairs, module_from}
use Rattle.wasmprinter_spec.specs.Binary.ValTypes.{lookup}
use Rattle.wasm2text.specs.CodeSection.{any_section, IsSection, HasCodeAt, here, later, FunctionsHaveCode}

-- The kind is that of code sections.
abbrev is_code : Kind → Bool
is_code CodeSection = true
is_code _ = false

-- What holds of each row holds of the row that is found.
lookup_all : {A : Type 0} (P : ℕ × A → Type 0) (rows : List (ℕ × A)) (b : ℕ) (x : A) → AllByRecursion P rows → lookup rows b ≡ Some x → P (b, x)
lookup_all P [] b x all e = absurd cc
lookup_all {A} P (row ∷ rows) b x all e =
    elim (cond_cases (eqb b row.0) (Some row.1) (lookup rows b) (Some x) e) [
      | inl found ↦
          let is : (row.0, row.1) ≡ (b, x) =
          ap (λ (n : ℕ). (n, row.1)) (sym (eqb-true b row.0 found.0)) ∙ ap (λ (y : A). (b, y)) (some_is row.1 x found.1) in
          subst P is all.0
      | inr on ↦ lookup_all P rows b x all.1 on.1
    ]

-- Code sections are those with the id 10.
abbrev IsCodeRow : ℕ × Kind → Type 0
IsCodeRow row = is_code row.1 ≡ nat_eq row.0 10

abbrev rows : List (ℕ × Kind)
rows =
    (0, CustomSection) ∷ (1, TypeSection) ∷ (2, ImportSection) ∷ (3, FunctionSection) ∷ (4, TableSection) ∷ (5, MemorySection)
    ∷ (6, GlobalSection) ∷ (7, ExportSection) ∷ (8, StartSection) ∷ (9, ElementSection) ∷ (10, CodeSection) ∷ (11, DataSection)
    ∷ (12, DataCountSection) ∷ (13, TagSection) ∷ []

code_id : (id : ℕ) (kind : Kind) → kind_of id ≡ Some kind → is_code kind ≡ nat_eq id 10
code_id id kind e =
    let all : AllByRecursion IsCodeRow rows =
    (refl, (refl, (refl, (refl, (refl, (refl, (refl, (refl, (refl, (refl, (refl, (refl, (refl, (refl, tt)))))))))))))) in
    lookup_all IsCodeRow rows id kind all e

-- Another section has no bodies.
no_bodies : (kind : Kind) (x : Content kind) → is_code kind ≡ false → content_of CodeSection (holds kind x) ≡ None
no_bodies CustomSection x e = refl
no_bodies TypeSection x e = refl
no_bodies ImportSection x e = refl
no_bodies FunctionSection x e = refl
no_bodies TableSection x e = refl
no_bodies MemorySection x e = refl
no_bodies TagSection x e = refl
no_bodies GlobalSection x e = refl
no_bodies ExportSection x e = refl
no_bodies StartSection x e = refl
no_bodies ElementSection x e = refl
no_bodies DataCountSection x e = refl
no_bodies CodeSection x e = absurd cc
no_bodies DataSection x e = refl

-- A section with its content is a section of any kind. It has bodies only if its id is 10.
record IsRaw (p : ℕ) (text : List ℕ) (s : Section) : Type 0 where
  id : ℕ
  contents : ℕ
  bytes : List ℕ
  spelled : any_section.spells p text (id, record { place = contents; value = bytes })
  other : id ≢ 10 → content_of CodeSection s ≡ None

raw : (p : ℕ) (text : List ℕ) (s : Section) → section.spells p text s → IsRaw p text s
raw p text s (kx, is_s, (t, u, joined, (id, of_kind, is_id), (y, is_x, (v, w, split, size, (len, content))))) = record {
  id = id;
  contents = p + length t + length v;
  bytes = w;
  spelled = (t, u, joined, is_id, ((y.0, record { place = p + length t + length v; value = w }), refl, (v, w, split, size, (refl, (len, refl)))));
  other = λ ne.
      let held : holds kx.0 y.1 ≡ s = some_is (holds kx.0 y.1) kx.1 is_x ∙ some_is kx.1 s is_s in
      subst (λ (x : Section). content_of CodeSection x ≡ None) held (no_bodies kx.0 y.1 (code_id id kx.0 of_kind ∙ ne_eqb id 10 ne));
}

-- Among sections without bodies there may be no code section; otherwise there is one.
code_among : (ss : List Section) (p : ℕ) (text : List ℕ) (old : List (Placed Body)) → Entries section p text ss →
    (content_in CodeSection old ss ≡ old) ⊎ ((place : ℕ) × HasCodeAt (input p text) place)
code_among [] p text old e = inl refl
code_among (s ∷ ss) p text old (t, u, joined, takes, spelled, entries) =
    let r : IsRaw p t s = raw p t s spelled in
    let is : IsSection (input p text) (input (p + length t) u) r.id r.contents =
    (r.bytes, record { text = t; parts = joined; ends = refl; spelled = r.spelled }) in
    elim (eqb_tells r.id 10) [
      | inl ten ↦ inr (r.contents, here (subst (λ (id : ℕ). IsSection (input p text) (input (p + length t) u) id r.contents) ten.1 is))
      | inr ne ↦
          elim (code_among ss (p + length t) u old entries) [
            | inl none ↦ inl (rw (r.other ne.1) none)
            | inr found ↦ inr (found.0, later ne.1 is found.1)
          ]
    ]

-- Functions are as many as bodies.
no_functions : (types : List ℕ) (fs : List PlacedFunction) → function_pairs types [] ≡ Some fs → fs ≡ []
no_functions [] fs e = sym (some_is [] fs e)
no_functions (i ∷ is) fs e = absurd cc

preamble_is : (text bytes : List ℕ) → preamble.spells 0 text bytes → text ≡ preamble_bytes
preamble_is text bytes (a, e, (len, same)) =
    sym same ∙ (bytes_eq-Decides a preamble_bytes).0 (tested (bytes_eq a preamble_bytes) (Some a) bytes e).0

pub functions_have_code : FunctionsHaveCode
functions_have_code wasm m spells some =
    let ((magic, ss), maps, (t, u, joined, is_magic, entries)) = spells.spelled in
    let start : t ≡ preamble_bytes = preamble_is t magic is_magic in
    let whole : wasm ≡ preamble_bytes ++ u = joined ∙ ap (λ (x : List ℕ). x ++ u) start in
    let size : ℕ = 0 + length wasm in
    let more : List PlacedFunction → Option PlacedModule = λ fs. Some (module_from size ss fs) in
    let (fs, paired, made) =
    bind_some (function_pairs (type_indices_in ss) (bodies_in ss)) more m
    (tested (are_above 0 ss && counts_data (data_count_in ss) (length (datas_in ss))) (function_pairs (type_indices_in ss) (bodies_in ss) >>= more) m maps).1 in
    elim (code_among ss (0 + length t) u [] entries) [
      | inl none ↦
          let empty : fs ≡ [] =
          no_functions (type_indices_in ss) fs (subst (λ (bs : List (Placed Body)). function_pairs (type_indices_in ss) bs ≡ Some fs) none paired) in
          absurd (some (ap (λ (x : PlacedModule). x.functions) (sym (some_is (module_from size ss fs) m made)) ∙ empty))
      | inr found ↦ (found.0, (u, whole, subst (λ (n : ℕ). HasCodeAt (input n u) found.0) (ap (λ (x : List ℕ). 0 + length x) start) found.1))
    ]
