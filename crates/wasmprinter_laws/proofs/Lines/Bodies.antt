-- The places in bodies increase.
use Rattle.std.proofs.Common.{ℕ, ◌+◌, ◌≤◌, ◌==◌, List, [], ◌∷◌, ◌++◌, length, Bool, true, false, cond, Option, Some, refl, arith}
use Rattle.std.specs.List.{flat_map}
use Rattle.wasmprinter_spec.specs.Grammar.{Placed, value_with_place}
use Rattle.wasmprinter_spec.specs.Name.{vec}
use Rattle.wasmprinter_spec.specs.Binary.ValTypes.{val_type}
use Rattle.wasmprinter_spec.specs.Binary.Code.{local_entry, body, code_entry}
use Rattle.wasmprinter_spec.specs.Instructions.{operator, operator_takes}
use Rattle.wasmprinter_spec.specs.Placed.{LocalEntry, Body}
use Rattle.wasmprinter_spec.specs.Layout.Functions.{locals_place}
use Rattle.wasmprinter_spec.specs.Lines.{places}
use Rattle.wasmprinter_spec.specs.Apart.{Rises, place_if_any, locals_places, body_places}
use Rattle.wasmprinter_laws.proofs.Lines.Order.{Order, rising, rises_from, rises_ends}
use Rattle.wasmprinter_laws.proofs.Lines.Lies.{Lies, Lies-any, Lies-u32, Lies-seq, Lies-after, Lies-less, Lies-map_value, Lies-value_with_place, LiesIn-alone, Lies-exactly, Lies-vec, Lies-expression}

-- The encoding of an operator has at least one byte.
Lies-operator : {o : Order} → Lies o 1 operator (λ x. [])
Lies-operator {o} = record {
  lie = λ p text x s. o.none (p + 1) (p + length text) (omega (arith, operator_takes p text (record { place = p; value = x }) (refl, s)));
}

-- The encoding of an entry of locals has at least one byte.
Lies-local_entry : {o : Order} → Lies o 1 local_entry (λ e. [])
Lies-local_entry = Lies-map_value (λ e. []) (Lies-seq Lies-u32 (λ n. Lies-any val_type))

-- If the places of entries increase, so do those that remain if only the first entry that declares a local keeps
-- its place.
locals_step : (b : Bool) (p place q : ℕ) (rest : Option ℕ) → p ≤ place → place + 1 ≤ q → Rises p (place_if_any rest) q →
    Rises p (place_if_any (cond b rest (Some place))) q
locals_step true p place q rest le ends own = own
locals_step false p place q rest le ends own = (le, ends)

locals_rise : (es : List (Placed LocalEntry)) (p q : ℕ) → Rises p (places es) q → Rises p (locals_places es) q
locals_rise [] p q h = h
locals_rise (e ∷ es) p q h =
    locals_step (e.value.count == 0) p e.place q (locals_place es) h.0 (rises_ends (e.place + 1) q (places es) h.1)
    (rises_from p (e.place + 1) q (locals_places es) (omega (arith, h.0)) (locals_rise es (e.place + 1) q h.1))

-- The place of the line of locals is within the encoding of the locals.
Lies-locals : Lies rising 1 (vec (value_with_place local_entry)) locals_places
Lies-locals = record {
  lie = λ p text es s.
      let all : Lies rising 1 (vec (value_with_place local_entry)) (λ xs. flat_map (λ e. e.place ∷ []) xs) = Lies-vec (Lies-value_with_place Lies-local_entry) in
      locals_rise es (p + 1) (p + length text) (all.lie p text es s);
}

-- The places after the first byte of a body
abbrev inner_places : Body → List ℕ
inner_places b = locals_places b.locals ++ (places b.operators ++ (b.end ∷ []))

Lies-body : Lies rising 1 body inner_places
Lies-body = Lies-map_value inner_places (Lies-seq Lies-locals (λ es. Lies-expression (Lies-value_with_place Lies-operator)))

pub Lies-code_entry : Lies rising 0 code_entry body_places
Lies-code_entry =
    Lies-map_value body_places (Lies-less 1 0 (omega arith) (Lies-less (1 + 0) 1 (omega arith) (Lies-after Lies-u32 (λ size. Lies-exactly (LiesIn-alone (Lies-value_with_place Lies-body)) size))))
