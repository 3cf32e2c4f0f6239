-- The sections of a module one after the other.
use Rattle.std.specs.Prelude.{◌≡◌, ℕ, ◌+◌, ◌<◌, ◌≤◌, ◌^◌, List, [], ◌∷◌, ◌++◌, Bool, true, false, ◌&&◌, drop, length, bytes_eq, Option, Some, None, if◌then◌else◌}
use Rattle.std.specs.List.{AllByRecursion, flat_map}
use Rattle.std.proofs.Common.{refl, sym, ap, ◌∙◌, subst, arith, append_assoc, append-nil, zero-add, eqb}
use Rattle.std.proofs.lemmas.List.{drop_at}
use Rattle.std.proofs.lemmas.Slice.Eq.{bytes_eq-Decides}
use Rattle.wasmprinter_spec.specs.Apart.{Rises, locals_places, body_places, IsApart}
use Rattle.wasmprinter_spec.specs.Binary.{Spells, preamble, preamble_bytes, bodies_in, datas_in, data_count_in, type_indices_in, counts_data, function_pairs, module_from}
use Rattle.wasmprinter_spec.specs.Choices.{tested}
use Rattle.wasmprinter_spec.specs.Grammar.{Input, input, Placed, ◌>>=◌, bind_some, some_is}
use Rattle.wasmprinter_spec.specs.Lines.{places}
use Rattle.wasmprinter_spec.specs.Placed.{Body, CustomEntry, PlacedFunction, PlacedModule}
use Rattle.wasmprinter_spec.specs.Repeated.{Entries}
use Rattle.wasmprinter_spec.specs.Sections.{Section, section, kind_of, are_above}
use Rattle.wasmprinter_laws.proofs.Lines.CodeSection.{apart}
use Rattle.wasmprinter_laws.proofs.Lines.Indexes.{rises_each, rises_right}
use Rattle.wasmprinter_hidden.specs.Extents.{extent_at, in_custom, customs_after}
use Rattle.wasmprinter_hidden.specs.Findings.{any_section}
use Rattle.wasmprinter_hidden.specs.Hidden.{Extent, extent, IsSection, AreExtents, none, next, HaveExtents, body_end, in_section, in_first_custom, in_sections, AreHidden}
use Rattle.wasmprinter_hidden.specs.declared.finding.Finding.{Finding}

-- ---- A module is its preamble and sections

-- A section of a kind is a section of any kind.
raw : (p : ℕ) (text rest : List ℕ) (s : Section) → section.spells p text s →
    (id contents : ℕ) × IsSection (input p (text ++ rest)) (input (p + length text) rest) id contents
raw p text rest s (kx, is_s, (t, u, joined, (id, of_kind, is_id), (y, is_x, (v, w, split, size, (len, content))))) =
    let contents : ℕ = p + length t + length v in (
      id,
      contents,
      (
        w,
        record {
          text = text;
          parts = refl;
          ends = refl;
          spelled = (t, u, joined, is_id, ((y.0, record { place = contents; value = w }), refl, (v, w, split, size, (refl, (len, refl)))));
        },
      ),
    )

extents_of : (ss : List Section) (p : ℕ) (text : List ℕ) → Entries section p text ss → (xs : List Extent) × AreExtents (input p text) xs
extents_of [] p text e = ([], subst (λ (t : List ℕ). AreExtents (input p t) []) (sym e) (none {place = p}))
extents_of (s ∷ ss) p text (t, u, joined, takes, spelled, entries) =
    let (id, contents, is) = raw p t u s spelled in
    let (xs, are) = extents_of ss (p + length t) u entries in (
      extent p id contents (p + length t) ∷ xs,
      subst (λ (bytes : List ℕ). AreExtents (input p bytes) (extent p id contents (p + length t) ∷ xs)) (sym joined) (next is are),
    )

preamble_is : (text bytes : List ℕ) → preamble.spells 0 text bytes → text ≡ preamble_bytes
preamble_is text bytes (a, e, (len, same)) =
    sym same ∙ (bytes_eq-Decides a preamble_bytes).0 (tested (bytes_eq a preamble_bytes) (Some a) bytes e).0

-- The bytes of a module have extents.
pub module_extents : (wasm : List ℕ) (m : PlacedModule) → Spells wasm m → (xs : List Extent) × HaveExtents wasm xs
module_extents wasm m spells =
    let ((magic, ss), maps, (t, u, joined, is_magic, entries)) = spells.spelled in
    let start : t ≡ preamble_bytes = preamble_is t magic is_magic in
    let (xs, are) = extents_of ss (0 + length t) u entries in
    (xs, (u, joined ∙ ap (λ (x : List ℕ). x ++ u) start, subst (λ (n : ℕ). AreExtents (input n u) xs) (ap (λ (x : List ℕ). 0 + length x) start) are))

-- ---- Reading them

-- The section that is read is the first.
pub first_read : (at after : Input) (x : Extent) (xs : List Extent) → extent_at at ≡ Some (x, after) → AreExtents at xs →
    (rest : List Extent) × (xs ≡ x ∷ rest) × AreExtents after rest
first_read _ after x _ e (none {place = p}) = absurd cc
first_read at after x _ e (next {after = mid} {id = id} {contents = contents} {rest = rest} s h) =
    let read : any_section.parse at ≡ Some ((id, record { place = contents; value = s.0 }), mid) =
    any_section.complete at ((id, record { place = contents; value = s.0 }), mid) s.1 in
    let y : Extent × Input = (extent at.place id contents mid.place, mid) in
    let known : extent_at at ≡ Some y = rw read refl in
    let same : y ≡ (x, after) = some_is y (x, after) (sym known ∙ e) in
    (rest, ap (λ (z : Extent × Input). z.0 ∷ rest) same, subst (λ (z : Extent × Input). AreExtents z.1 rest) same h)

-- No section is left where none is read.
none_read : (at : Input) (xs : List Extent) → extent_at at ≡ None → AreExtents at xs → xs ≡ []
none_read _ _ e (none {place = p}) = refl
none_read at _ e (next {after = mid} {id = id} {contents = contents} {rest = rest} s h) =
    let read : any_section.parse at ≡ Some ((id, record { place = contents; value = s.0 }), mid) =
    any_section.complete at ((id, record { place = contents; value = s.0 }), mid) s.1 in
    let known : extent_at at ≡ Some (extent at.place id contents mid.place, mid) = rw read refl in
    absurd cc

-- No section is left where the bytes end.
pub no_more : (place : ℕ) (xs : List Extent) → AreExtents (input place []) xs → xs ≡ []
no_more place xs h = none_read (input place []) xs refl h

-- The findings so far, with those in the sections that are left, are all findings.
pub record HasSectionsLeft (wasm : List ℕ) (m : PlacedModule) (at : Input) (customs : List CustomEntry) (found : List Finding) : Type 0 where
  pub left : List Extent
  pub are : AreExtents at left
  pub hidden : AreHidden wasm (found ++ in_sections m customs left)

pub sections_all : (wasm : List ℕ) (m : PlacedModule) (at : Input) (customs : List CustomEntry) (found : List Finding) → Spells wasm m →
    at ≡ input 8 (drop 8 wasm) → customs ≡ m.customs → found ≡ [] → HasSectionsLeft wasm m at customs found
sections_all wasm m at customs found spells is_at is_customs is_found =
    let (xs, (sections, joined, are)) = module_extents wasm m spells in
    let rest : drop 8 wasm ≡ sections = ap (drop 8) joined ∙ drop_at preamble_bytes sections 8 refl in
    record {
      left = xs;
      are = subst (λ (i : Input). AreExtents i xs) (ap (input 8) (sym rest) ∙ sym is_at) are;
      hidden = record {
        placed = m;
        spells = spells;
        extents = xs;
        have = (sections, joined, are);
        are = ap (λ (f : List Finding). f ++ in_sections m customs xs) is_found ∙ ap (λ (cs : List CustomEntry). in_sections m cs xs) is_customs;
      };
    }

-- The findings in a section, in it as a custom section, and in the sections after it.
in_next : (m : PlacedModule) (customs : List CustomEntry) (x : Extent) (xs : List Extent) →
    in_sections m customs (x ∷ xs) ≡ in_section m (kind_of x.id) x ++ (in_custom m x.id customs ++ in_sections m (customs_after x.id customs) xs)
in_next m customs x xs =
    let here : List Finding = in_section m (kind_of x.id) x in
    let by : (b : Bool) → here ++ (if b then in_first_custom m customs ++ in_sections m (drop 1 customs) xs else in_sections m customs xs)
    ≡ here ++ ((if b then in_first_custom m customs else []) ++ in_sections m (if b then drop 1 customs else customs) xs) =
    elim [ true ↦ refl | false ↦ refl ] in
    by (eqb x.id 0)

-- A section is read.
pub sections_more : (wasm : List ℕ) (m : PlacedModule) (at after : Input) (customs others : List CustomEntry) (found mid more : List Finding) (x : Extent) →
    extent_at at ≡ Some (x, after) → mid ≡ found ++ in_section m (kind_of x.id) x → more ≡ mid ++ in_custom m x.id customs →
    others ≡ customs_after x.id customs → HasSectionsLeft wasm m at customs found → HasSectionsLeft wasm m after others more
sections_more wasm m at after customs others found mid more x read is_mid is_more are_others h =
    let (rest, are_first, are) = first_read at after x h.left read h.are in
    let here : List Finding = in_section m (kind_of x.id) x in
    let custom : List Finding = in_custom m x.id customs in
    let later : List Finding = in_sections m (customs_after x.id customs) rest in
    let same : found ++ in_sections m customs h.left ≡ more ++ in_sections m others rest =
    ap (λ (xs : List Extent). found ++ in_sections m customs xs) are_first
    ∙ ap (λ (f : List Finding). found ++ f) (in_next m customs x rest)
    ∙ sym (append_assoc found here (custom ++ later))
    ∙ ap (λ (f : List Finding). f ++ (custom ++ later)) (sym is_mid)
    ∙ sym (append_assoc mid custom later)
    ∙ ap (λ (f : List Finding). f ++ later) (sym is_more)
    ∙ ap (λ (cs : List CustomEntry). more ++ in_sections m cs rest) (sym are_others) in
    record { left = rest; are = are; hidden = subst (AreHidden wasm) same h.hidden }

-- All sections are read.
pub sections_none : (wasm : List ℕ) (m : PlacedModule) (at : Input) (customs : List CustomEntry) (found : List Finding) → extent_at at ≡ None →
    HasSectionsLeft wasm m at customs found → AreHidden wasm found
sections_none wasm m at customs found e h =
    subst (AreHidden wasm)
    (ap (λ (xs : List Extent). found ++ in_sections m customs xs) (none_read at h.left e h.are) ∙ append-nil found) h.hidden

-- ---- The places after bodies

-- The last byte of a body is below the end of its places.
body_below : (b : Placed Body) (low high : ℕ) → Rises low (body_places b) high → b.value.end + 1 ≤ high
body_below b low high rise =
    let lasts : List ℕ = b.value.end ∷ [] in
    let after_locals = rises_right (b.place + 1) high (locals_places b.value.locals) (places b.value.operators ++ lasts) rise.1 in
    let last : Rises (b.place + 1) lasts high = rises_right (b.place + 1) high (places b.value.operators) lasts after_locals in
    last.1

ends_below : (fs : List PlacedFunction) (low high : ℕ) → high < 2 ^ 64 → Rises low (flat_map (λ f. body_places f.body) fs) high →
    AllByRecursion (λ f. body_end f < 2 ^ 64) fs
ends_below [] low high lt rise = tt
ends_below (f ∷ fs) low high lt rise =
    let shown : PlacedFunction → List ℕ = λ g. body_places g.body in
    let last : f.body.value.end + 1 ≤ high = body_below f.body low high (rises_each shown (f ∷ fs) low high 0 f rise refl) in
    (omega (arith, last, lt), ends_below fs low high lt (rises_right low high (shown f) (flat_map shown fs) rise))

module_size : (wasm : List ℕ) (m : PlacedModule) → Spells wasm m → m.size ≡ length wasm
module_size wasm m spells =
    let ((magic, ss), maps, spelled) = spells.spelled in
    let size : ℕ = 0 + length wasm in
    let more : List PlacedFunction → Option PlacedModule = λ fs. Some (module_from size ss fs) in
    let (fs, paired, made) =
    bind_some (function_pairs (type_indices_in ss) (bodies_in ss)) more m
    (tested (are_above 0 ss && counts_data (data_count_in ss) (length (datas_in ss))) (function_pairs (type_indices_in ss) (bodies_in ss) >>= more) m maps).1 in
    sym (ap (λ (x : PlacedModule). x.size) (some_is (module_from size ss fs) m made)) ∙ zero-add (length wasm)

-- The place after each body is a number of 64 bits.
pub ends_fit : (wasm : List ℕ) (m : PlacedModule) → Spells wasm m → length wasm < 2 ^ 64 → AllByRecursion (λ f. body_end f < 2 ^ 64) m.functions
ends_fit wasm m spells lt =
    let a : IsApart m = apart wasm m spells in
    let size = module_size wasm m spells in
    let last : a.high ≤ m.size = a.last in
    let below : a.high < 2 ^ 64 = omega arith in
    ends_below m.functions a.low a.high below a.bodies
