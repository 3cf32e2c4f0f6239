-- Bytes that encode a module have exactly one list of findings.
use Rattle.std.specs.Prelude.{◌≡◌, ℕ, List, ◌∷◌, length, Some}
use Rattle.std.proofs.Common.{refl, sym, ap, ◌∙◌, subst}
use Rattle.std.proofs.lemmas.List.{append_cancel_left}
use Rattle.wasmprinter_spec.specs.Binary.{Spells, binary, preamble_bytes}
use Rattle.wasmprinter_spec.specs.Grammar.{Input, input, some_is}
use Rattle.wasmprinter_spec.specs.Placed.{PlacedModule}
use Rattle.wasmprinter_hidden.specs.Findings.{any_section}
use Rattle.wasmprinter_hidden.specs.Hidden.{Extent, extent, AreExtents, none, next, in_sections}
use Rattle.wasmprinter_hidden.specs.HiddenOnce.{FindingsAreUnique, ModulesHaveFindings}
use Rattle.wasmprinter_hidden.specs.Extents.{extent_at}
use Rattle.wasmprinter_hidden.proofs.SectionsLeft.{module_extents, first_read, no_more}

module_once : (wasm : List ℕ) (m n : PlacedModule) → Spells wasm m → Spells wasm n → m ≡ n
module_once wasm m n s t = some_is m n (sym (binary.complete (input 0 wasm) m s.spelled) ∙ binary.complete (input 0 wasm) n t.spelled)

extents_once : (at : Input) (xs ys : List Extent) → AreExtents at xs → AreExtents at ys → xs ≡ ys
extents_once _ _ ys (none {place = p}) h = sym (no_more p ys h)
extents_once at _ ys (next {after = after} {id = id} {contents = contents} {rest = rest} s are) h =
    let x : Extent = extent at.place id contents after.place in
    let read = any_section.complete at ((id, record { place = contents; value = s.0 }), after) s.1 in
    let known : extent_at at ≡ Some (x, after) = rw read refl in
    let (others, first, others_are) = first_read at after x ys known h in
    ap (λ (zs : List Extent). x ∷ zs) (extents_once after rest others are others_are) ∙ sym first

pub unique : FindingsAreUnique
unique wasm found others a b =
    let (sections, joined, are) = a.have in
    let (sections_2, joined_2, are_2) = b.have in
    let same_bytes : sections_2 ≡ sections = append_cancel_left preamble_bytes sections_2 sections (sym joined_2 ∙ joined) in
    let same : a.extents ≡ b.extents =
    extents_once (input (length preamble_bytes) sections) a.extents b.extents are
    (subst (λ (bytes : List ℕ). AreExtents (input (length preamble_bytes) bytes) b.extents) same_bytes are_2) in
    a.are ∙ ap (λ (m : PlacedModule). in_sections m m.customs a.extents) (module_once wasm a.placed b.placed a.spells b.spells)
    ∙ ap (λ (xs : List Extent). in_sections b.placed b.placed.customs xs) same ∙ sym b.are

pub exists : ModulesHaveFindings
exists wasm m spells =
    let (xs, have) = module_extents wasm m spells in
    (in_sections m m.customs xs, record { placed = m; spells = spells; extents = xs; have = have; are = refl })
