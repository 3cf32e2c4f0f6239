-- The findings in a body are those in the count of its groups of locals, in the groups, and in the operators.
use Rattle.std.proofs.Common.{◌≡◌, ℕ, ◌<◌, ◌^◌, length, List, [], ◌∷◌, ◌++◌, refl, sym, ap, ◌∙◌, append_assoc}
use Rattle.wasmprinter_spec.specs.Grammar.{Placed}
use Rattle.wasmprinter_spec.specs.Operator.{Operator}
use Rattle.wasmprinter_spec.specs.Placed.{Body}
use Rattle.wasmprinter_ops.specs.Operators.{pairs}
use Rattle.wasmprinter_hidden.specs.Lengths.{unsigned_len, operator_len}
use Rattle.wasmprinter_hidden.specs.Findings.{if_longer}
use Rattle.wasmprinter_hidden.specs.Hidden.{first_place, in_items, in_list, in_body, shown_group_len}
use Rattle.wasmprinter_hidden.specs.OpenParts.{open_part, lengths, lengths_of_groups, lengths_of_operators, in_open, HasRead}
use Rattle.wasmprinter_hidden.specs.declared.finding.Part.TheVariants.{LocalCount, LocalGroup, Instruction}
use Rattle.wasmprinter_hidden.specs.declared.finding.Finding.{Finding}
use Rattle.wasmprinter_hidden.specs.declared.findings.OpenPart.{OpenPart}
use Rattle.wasmprinter_hidden.proofs.OpenParts.{if_longer-capped, first_place-lengths, in_items-lengths}

-- The places and lengths of operators as the program's iterator returns them.
abbrev pub of_pairs : List (ℕ × Operator) → List (Placed ℕ)
of_pairs xs = lengths (λ x. x.0) (λ x. operator_len x.1) xs

pub operators-pairs : (os : List (Placed Operator)) → lengths_of_operators os ≡ of_pairs (pairs os)
operators-pairs [] = refl
operators-pairs (o ∷ os) = ap (λ (xs : List (Placed ℕ)). record { place = o.place; value = operator_len o.value } ∷ xs) (operators-pairs os)

pub body_read : (b : Placed Body) (old with_locals with_operators found : List Finding) (count last_group last_operator : OpenPart) →
    count ≡ open_part LocalCount b.place (unsigned_len (length b.value.locals)) →
    HasRead LocalGroup old count (lengths_of_groups b.value.locals) with_locals last_group →
    HasRead Instruction with_locals last_group (lengths_of_operators b.value.operators) with_operators last_operator →
    b.value.end < 2 ^ 64 → found ≡ with_operators ++ in_open last_operator b.value.end → found ≡ old ++ in_body b
body_read b old with_locals with_operators found count last_group last_operator is_count read_locals read_operators lt is_found =
    let es = b.value.locals in
    let os = b.value.operators in
    let end = b.value.end in
    let start : ℕ = first_place os end in
    let (start_lt, with_os) = read_operators end lt in
    let (first_lt, with_es) = read_locals (first_place (lengths_of_operators os) end) start_lt in
    let in_os : List Finding = in_items Instruction operator_len os end in
    let in_es : ℕ → List Finding = λ p. in_items LocalGroup shown_group_len es p in
    let counted : (p : ℕ) → first_place (lengths_of_groups es) p < 2 ^ 64 → in_open count (first_place (lengths_of_groups es) p) ≡ if_longer LocalCount b.place (first_place es p) (unsigned_len (length es)) =
    λ p le. ap (λ (o : OpenPart). in_open o (first_place (lengths_of_groups es) p)) is_count
    ∙ if_longer-capped LocalCount b.place (first_place (lengths_of_groups es) p) (unsigned_len (length es)) le
    ∙ ap (λ (q : ℕ). if_longer LocalCount b.place q (unsigned_len (length es))) (first_place-lengths shown_group_len es p) in
    let locals : in_open count (first_place (lengths_of_groups es) (first_place (lengths_of_operators os) end)) ++ in_items LocalGroup (λ n. n) (lengths_of_groups es) (first_place (lengths_of_operators os) end)
    ≡ in_list LocalCount LocalGroup shown_group_len es b.place start =
    ap (λ (f : List Finding). f ++ in_items LocalGroup (λ n. n) (lengths_of_groups es) (first_place (lengths_of_operators os) end)) (counted (first_place (lengths_of_operators os) end) first_lt)
    ∙ ap (λ (f : List Finding). if_longer LocalCount b.place (first_place es (first_place (lengths_of_operators os) end)) (unsigned_len (length es)) ++ f)
    (in_items-lengths shown_group_len LocalGroup es (first_place (lengths_of_operators os) end))
    ∙ ap (λ (p : ℕ). in_list LocalCount LocalGroup shown_group_len es b.place p) (first_place-lengths operator_len os end) in
    is_found ∙ with_os
    ∙ sym (append_assoc with_locals (in_open last_group (first_place (lengths_of_operators os) end)) (in_items Instruction (λ n. n) (lengths_of_operators os) end))
    ∙ ap (λ (f : List Finding). f ++ in_items Instruction (λ n. n) (lengths_of_operators os) end)
    (with_es ∙ ap (λ (f : List Finding). old ++ f) locals)
    ∙ ap (λ (f : List Finding). (old ++ in_list LocalCount LocalGroup shown_group_len es b.place start) ++ f) (in_items-lengths operator_len Instruction os end)
    ∙ append_assoc old (in_list LocalCount LocalGroup shown_group_len es b.place start) in_os
