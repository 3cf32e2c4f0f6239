-- The sections up to the code section.
use Rattle.std.specs.Prelude.{◌≡◌, ◌≢◌, ℕ, List, ◌++◌, Option, Some, None, length}
use Rattle.std.proofs.Common.{refl, sym, ap, ◌∙◌, subst}
use Rattle.std.proofs.lemmas.List.{append_cancel_left}
use Rattle.wasmprinter_spec.specs.Grammar.{Input, input, Placed, some_is}
use Rattle.wasmprinter_spec.specs.Binary.{preamble_bytes}
use Rattle.wasm2text.specs.CodeSection.{any_section, IsSection, HasCodeAt, here, later, IsCodeStart, CodeStartsOnce}

-- A section, as it is read.
abbrev pub Section : Type 0
Section = (ℕ × Placed (List ℕ)) × Input

-- A section is what is read.
section_read : (at after : Input) (id place : ℕ) → (x : Section) → any_section.parse at ≡ Some x → IsSection at after id place →
    (id ≡ x.0.0) × (place ≡ x.0.1.place) × (after ≡ x.1)
section_read at after id place x e s =
    let y : Section = ((id, record { place = place; value = s.0 }), after) in
    let is : y ≡ x = some_is y x (sym (any_section.complete at y s.1) ∙ e) in
    (ap (λ (z : Section). z.0.0) is, ap (λ (z : Section). z.0.1.place) is, ap (λ (z : Section). z.1) is)

-- Nothing is read where there is no section.
no_section : (at after : Input) (id place : ℕ) → any_section.parse at ≡ None → IsSection at after id place → ⊥
no_section at after id place e s =
    let y : Section = ((id, record { place = place; value = s.0 }), after) in
    let both : ◌≡◌ {A = Option Section} None (Some y) = sym e ∙ any_section.complete at y s.1 in
    cc

-- A section with another id is passed over.
pub skips : (at : Input) (place : ℕ) (x : Section) → any_section.parse at ≡ Some x → x.0.0 ≢ 10 → HasCodeAt at place → HasCodeAt x.1 place
skips at place x e other (here {after = after} s) = absurd (other (sym (section_read at after 10 place x e s).0))
skips at place x e other (later {after = after} {id = id} {contents = contents} ne s h) =
    subst (λ (i : Input). HasCodeAt i place) (section_read at after id contents x e s).2 h

-- What is read is a section.
is_section : (at : Input) (x : Section) → any_section.parse at ≡ Some x → IsSection at x.1 x.0.0 x.0.1.place
is_section at x e = (x.0.1.value, any_section.sound at x e)

-- A section with another id may come first.
pub goes_back : (at : Input) (place : ℕ) (x : Section) → any_section.parse at ≡ Some x → x.0.0 ≢ 10 → HasCodeAt x.1 place → HasCodeAt at place
goes_back at place x e other h = later other (is_section at x e) h

-- The code section is what is read.
pub is_here : (at : Input) (x : Section) → any_section.parse at ≡ Some x → x.0.0 ≡ 10 → HasCodeAt at x.0.1.place
is_here at x e ten = here (subst (λ (id : ℕ). IsSection at x.1 id x.0.1.place) ten (is_section at x e))

-- Where no section is read, there is no code section.
pub ends : (at : Input) (place : ℕ) → any_section.parse at ≡ None → HasCodeAt at place → ⊥
ends at place e (here {after = after} s) = no_section at after 10 place e s
ends at place e (later {after = after} {id = id} {contents = contents} ne s h) = no_section at after id contents e s

-- The code section of the module is that of the sections.
pub of_sections : (wasm sections : List ℕ) (place : ℕ) → wasm ≡ preamble_bytes ++ sections → IsCodeStart wasm place →
    HasCodeAt (input (length preamble_bytes) sections) place
of_sections wasm sections place e (others, f, h) =
    subst (λ (bs : List ℕ). HasCodeAt (input (length preamble_bytes) bs) place) (append_cancel_left preamble_bytes others sections (sym f ∙ e)) h

-- Where the code section is read, it is the only one.
here_once : (at : Input) (q : ℕ) (x : Section) → any_section.parse at ≡ Some x → x.0.0 ≡ 10 → HasCodeAt at q → x.0.1.place ≡ q
here_once at q x e ten (here {after = after} s) = sym (section_read at after 10 q x e s).1
here_once at q x e ten (later {after = after} {id = id} {contents = contents} ne s h) = absurd (ne ((section_read at after id contents x e s).0 ∙ ten))

-- Sections have at most one code section.
code_once : (at : Input) (p q : ℕ) → HasCodeAt at p → HasCodeAt at q → p ≡ q
code_once at p q (here {after = after} s) h =
    let x : Section = ((10, record { place = p; value = s.0 }), after) in here_once at q x (any_section.complete at x s.1) refl h
code_once at p q (later {after = after} {id = id} {contents = contents} ne s g) h =
    let x : Section = ((id, record { place = contents; value = s.0 }), after) in
    code_once after p q g (skips at q x (any_section.complete at x s.1) ne h)

pub unique : CodeStartsOnce
unique wasm p q a (sections, e, h) = code_once (input (length preamble_bytes) sections) p q (of_sections wasm sections p e a) h
