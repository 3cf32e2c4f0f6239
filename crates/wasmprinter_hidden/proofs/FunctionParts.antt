-- The findings in the function section and the code section, function by function.
use Rattle.std.proofs.Common.{◌≡◌, ℕ, zero, suc, ◌+◌, ◌/◌, ◌≤◌, ltb, length, drop, map, List, [], ◌∷◌, ◌++◌, Some, refl, sym, ap, ◌∙◌, arith, append_assoc, append-nil, add_assoc, add-zero, zero-add, subst}
use Rattle.std.specs.Prelude.{slice_get}
use Rattle.std.specs.List.{AllByRecursion}
use Rattle.std.proofs.lemmas.Bool.{cond_both}
use Rattle.std.proofs.lemmas.List.{drop_more, drop_all, length-map}
use Rattle.std.proofs.lemmas.Option.{slice_get_within, get_or_from_slice_get}
use Rattle.wasmprinter_spec.specs.Grammar.{some_is}
use Rattle.wasmprinter_spec.specs.Placed.{PlacedFunction}
use Rattle.wasmprinter_hidden.specs.Lengths.{digits, unsigned_len, items_len, list_len}
use Rattle.wasmprinter_hidden.specs.Findings.{if_longer}
use Rattle.wasmprinter_hidden.specs.Hidden.{Extent, body_end, body_size, in_body, in_bodies, in_size, in_code_section}
use Rattle.wasmprinter_hidden.specs.OpenParts.{in_open}
use Rattle.wasmprinter_hidden.specs.declared.finding.Part.TheVariants.{BodySize, Count}
use Rattle.wasmprinter_hidden.specs.declared.finding.Finding.{Finding}
use Rattle.wasmprinter_hidden.specs.declared.findings.OpenPart.{OpenPart}

digits-few : (most n : ℕ) → digits most n ≤ suc most
digits-few zero n = omega arith
digits-few (suc most) n =
    cond_both (ltb n 128) 1 (suc (digits most (n / 128))) (λ x. x ≤ suc (suc most)) (λ e. omega arith) (λ e. omega (arith, digits-few most (n / 128)))

-- A number of 64 bits has at most ten digits in base 128.
pub unsigned_len-few : (n : ℕ) → unsigned_len n ≤ 10
unsigned_len-few n = digits-few 9 n

-- The functions from this one on.
pub functions_drop : (fs : List PlacedFunction) (i : ℕ) (f : PlacedFunction) → slice_get fs i ≡ Some f → drop i fs ≡ f ∷ drop (i + 1) fs
functions_drop fs i f e =
    drop_more fs i f (slice_get_within fs i f e) ∙ ap (λ (g : PlacedFunction). g ∷ drop (i + 1) fs) (get_or_from_slice_get fs i f f e)

-- The length of the types' indices.
abbrev pub indices_len : List PlacedFunction → ℕ
indices_len fs = items_len unsigned_len (map (λ f. f.type_index) fs)

-- The length of one function's type more.
pub indices_more : (fs : List PlacedFunction) (i : ℕ) (f : PlacedFunction) (len more total : ℕ) → slice_get fs i ≡ Some f → more ≡ unsigned_len f.type_index →
    len + indices_len (drop i fs) ≡ total → (len + more) + indices_len (drop (i + 1) fs) ≡ total
indices_more fs i f len more total found is left =
    add_assoc len more (indices_len (drop (i + 1) fs)) ∙ ap (λ (n : ℕ). len + (n + indices_len (drop (i + 1) fs))) is
    ∙ ap (λ (n : ℕ). len + n) (sym (ap indices_len (functions_drop fs i f found))) ∙ left

-- No function is left.
pub indices_none : (fs : List PlacedFunction) (i len total : ℕ) → length fs ≤ i → len + indices_len (drop i fs) ≡ total → len ≡ total
indices_none fs i len total le left =
    sym (add-zero len) ∙ ap (λ (n : ℕ). len + n) (sym (ap indices_len (drop_all i fs le))) ∙ left

-- All functions are left.
pub indices_all : (fs : List PlacedFunction) (len : ℕ) → len ≡ unsigned_len (length fs) →
    len + indices_len fs ≡ list_len unsigned_len (map (λ f. f.type_index) fs)
indices_all fs len is =
    ap (λ (n : ℕ). n + indices_len fs) (is ∙ ap unsigned_len (sym (length-map fs (λ f. f.type_index))))

-- ---- The code section

-- What holds of each function holds of this one.
pub all_at : (P : PlacedFunction → Type 0) (fs : List PlacedFunction) (i : ℕ) (f : PlacedFunction) → AllByRecursion P fs → slice_get fs i ≡ Some f → P f
all_at P [] i f all e = absurd cc
all_at P (g ∷ fs) zero f all e = subst P (some_is g f e) all.0
all_at P (g ∷ fs) (suc i) f all e = all_at P fs i f all.1 e

-- The findings in bodies that follow each other. The size of the first is one part with what is open before it.
abbrev pub in_sized : OpenPart → List PlacedFunction → List Finding
in_sized size [] = []
in_sized size (f ∷ fs) =
    if_longer size.part size.place f.body.place (size.len + unsigned_len (body_size f)) ++ (in_body f.body ++ in_bodies (body_end f) fs)

-- Nothing is open before the size of a later body.
abbrev pub later_size : ℕ → OpenPart
later_size place = record { part = BodySize; place = place; len = 0 }

sized-bodies : (place : ℕ) (fs : List PlacedFunction) → in_sized (later_size place) fs ≡ in_bodies place fs
sized-bodies place [] = refl
sized-bodies place (f ∷ fs) =
    ap (λ (n : ℕ). if_longer BodySize place f.body.place n ++ (in_body f.body ++ in_bodies (body_end f) fs)) (zero-add (unsigned_len (body_size f)))

-- The findings in one body more.
pub bodies_more : (fs : List PlacedFunction) (i : ℕ) (f : PlacedFunction) (size : OpenPart) (len : ℕ) (found closed more whole : List Finding) →
    slice_get fs i ≡ Some f → len ≡ unsigned_len (body_size f) → found ++ in_sized size (drop i fs) ≡ whole →
    closed ≡ found ++ in_open (record size { len = size.len + len }) f.body.place → more ≡ closed ++ in_body f.body →
    more ++ in_sized (later_size (body_end f)) (drop (i + 1) fs) ≡ whole
bodies_more fs i f size len found closed more whole at is left is_closed is_more =
    let rest : List PlacedFunction = drop (i + 1) fs in
    let here : List Finding = in_open (record size { len = size.len + len }) f.body.place in
    let bodies : List Finding = in_bodies (body_end f) rest in
    let first : found ++ (here ++ (in_body f.body ++ bodies)) ≡ whole =
    ap (λ (n : ℕ). found ++ (if_longer size.part size.place f.body.place (size.len + n) ++ (in_body f.body ++ bodies))) is
    ∙ ap (λ (gs : List PlacedFunction). found ++ in_sized size gs) (sym (functions_drop fs i f at)) ∙ left in
    ap (λ (x : List Finding). more ++ x) (sized-bodies (body_end f) rest)
    ∙ ap (λ (x : List Finding). x ++ bodies) (is_more ∙ ap (λ (x : List Finding). x ++ in_body f.body) is_closed)
    ∙ append_assoc (found ++ here) (in_body f.body) bodies ∙ append_assoc found here (in_body f.body ++ bodies) ∙ first

-- No body is left.
pub bodies_none : (fs : List PlacedFunction) (i : ℕ) (size : OpenPart) (found whole : List Finding) → length fs ≤ i →
    found ++ in_sized size (drop i fs) ≡ whole → found ≡ whole
bodies_none fs i size found whole le left =
    sym (append-nil found) ∙ ap (λ (x : List Finding). found ++ x) (sym (ap (in_sized size) (drop_all i fs le))) ∙ left

-- All bodies with what is before the first are the code section.
pub code_of_bodies : (fs : List PlacedFunction) (x : Extent) (old sized found : List Finding) (len : ℕ) → (length fs ≡ 0 → ⊥) →
    sized ≡ old ++ in_size x → len ≡ unsigned_len (length fs) →
    found ≡ sized ++ in_sized (record { part = Count x.id; place = x.contents; len = len }) fs → found ≡ old ++ in_code_section fs x
code_of_bodies [] x old sized found len some is_sized is whole = absurd (some refl)
code_of_bodies (f ∷ fs) x old sized found len some is_sized is whole =
    let rest : ℕ → List Finding = λ n. in_sized (record { part = Count x.id; place = x.contents; len = n }) (f ∷ fs) in
    whole ∙ ap (λ (s : List Finding). s ++ rest len) is_sized ∙ append_assoc old (in_size x) (rest len)
    ∙ ap (λ (n : ℕ). old ++ (in_size x ++ rest n)) is
