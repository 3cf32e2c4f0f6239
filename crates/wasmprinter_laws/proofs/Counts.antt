-- A module that bytes encode has at most 2 ^ 64 items of each kind, few enough for their identifiers to be apart.
use Rattle.std.proofs.Common.{◌≡◌, ℕ, zero, suc, ◌<◌, ◌≤◌, ◌+◌, ◌*◌, ◌^◌, List, [], ◌∷◌, length, Option, Some, None, subst, replicate, arith}
use Rattle.std.specs.List.{AllByRecursion}
use Rattle.std.proofs.lemmas.List.{length-append, length-replicate}
use Rattle.wasmprinter_spec.specs.Grammar.{Placed, some_is}
use Rattle.wasmprinter_spec.specs.Types.{ExternType, FieldType, CompositeType, FuncComposite, ArrayComposite, StructComposite, SubType, all_types, func_type_of, fields_of, signature_at, fields_at}
use Rattle.wasmprinter_spec.specs.Placed.{TypeGroup, Import, LocalEntry}
use Rattle.wasmprinter_spec.specs.Module.{groups_of, locals_of, with_first_if_any, imported_types}
use Rattle.wasmprinter_spec.specs.Indexed.{parameter_count}
use Rattle.wasmprinter_spec.proofs.Each.{all_both}
use Rattle.wasmprinter_laws.proofs.Ranged.{IsRangedLocal}
use Rattle.wasmprinter_laws.proofs.Types.Ranged.{IsFewComposite, IsFewSub, IsRangedGroup}

-- ---- types

all_types_few : (gs : List (Placed TypeGroup)) → AllByRecursion (λ g. IsRangedGroup g.value) gs → AllByRecursion IsFewSub (all_types (groups_of gs))
all_types_few [] h = tt
all_types_few (g ∷ gs) h = all_both IsFewSub g.value.types (all_types (groups_of gs)) h.0.few (all_types_few gs h.1)

composite_parameters : (c : CompositeType) → IsFewComposite c → parameter_count (func_type_of c) < 2 ^ 32
composite_parameters (FuncComposite t) h = h
composite_parameters _ h = omega arith

parameters_few : (ts : List SubType) (i : ℕ) → AllByRecursion IsFewSub ts → parameter_count (signature_at ts i) < 2 ^ 32
parameters_few [] i h = omega arith
parameters_few (t ∷ ts) zero h = composite_parameters t.composite h.0
parameters_few (t ∷ ts) (suc i) h = parameters_few ts i h.1

-- A function type has fewer than 2 ^ 32 parameters.
pub own_parameters_few : (gs : List (Placed TypeGroup)) (i : ℕ) → AllByRecursion (λ g. IsRangedGroup g.value) gs →
    parameter_count (signature_at (all_types (groups_of gs)) i) < 2 ^ 32
own_parameters_few gs i h = parameters_few (all_types (groups_of gs)) i (all_types_few gs h)

composite_fields : (c : CompositeType) (fs : List FieldType) → IsFewComposite c → fields_of c ≡ Some fs → length fs < 2 ^ 32
composite_fields (FuncComposite t) fs h e = absurd cc
composite_fields (ArrayComposite f) fs h e = absurd cc
composite_fields (StructComposite gs) fs h e = subst (λ (xs : List FieldType). length xs < 2 ^ 32) (some_is gs fs e) h

fields_few : (ts : List SubType) (i : ℕ) (fs : List FieldType) → AllByRecursion IsFewSub ts → fields_at ts i ≡ Some fs → length fs < 2 ^ 32
fields_few [] i fs h e = absurd cc
fields_few (t ∷ ts) zero fs h e = composite_fields t.composite fs h.0 e
fields_few (t ∷ ts) (suc i) fs h e = fields_few ts i fs h.1 e

-- A structure type has fewer than 2 ^ 32 fields.
pub own_fields_few : (gs : List (Placed TypeGroup)) (i : ℕ) (fs : List FieldType) → AllByRecursion (λ g. IsRangedGroup g.value) gs →
    fields_at (all_types (groups_of gs)) i ≡ Some fs → length fs < 2 ^ 32
own_fields_few gs i fs h e = fields_few (all_types (groups_of gs)) i fs (all_types_few gs h) e

-- The number of types is at most 2 ^ 32 times that of groups, each of which has fewer.
pub types_few : (gs : List (Placed TypeGroup)) → AllByRecursion (λ g. IsRangedGroup g.value) gs → length (all_types (groups_of gs)) ≤ length gs * 2 ^ 32
types_few [] h = omega arith
types_few (g ∷ gs) h = omega (arith, length-append g.value.types (all_types (groups_of gs)), h.0.count, types_few gs h.1)

-- ---- imports

-- There are at most as many imports of a kind as imports.
pub imported_types-length : {A : Type 0} (f : ExternType → Option A) (is : List Import) → length (imported_types f is) ≤ length is
imported_types-length f [] = omega arith
imported_types-length {A = A} f (i ∷ is) = by (f i.type) (imported_types-length f is)
  where
    by : (x : Option A) → length (imported_types f is) ≤ length is → length (with_first_if_any x (imported_types f is)) ≤ suc (length is)
    by None less = omega (arith, less)
    by (Some x) less = omega (arith, less)

-- ---- locals

-- The number of locals is at most 2 ^ 32 - 1 times that of groups, each of which has fewer than 2 ^ 32.
pub locals_few : (es : List (Placed LocalEntry)) → AllByRecursion (λ e. IsRangedLocal e.value) es → length (locals_of es) ≤ length es * 4294967295
locals_few [] h = omega arith
locals_few (e ∷ es) h =
    omega (arith, length-append (replicate e.value.count e.value.type) (locals_of es), length-replicate e.value.count e.value.type, h.0.count, locals_few es h.1)

-- A function has at most 2 ^ 64 parameters and locals together.
pub variables_few : (parameters : ℕ) (es : List (Placed LocalEntry)) → parameters < 2 ^ 32 → length es < 2 ^ 32 → AllByRecursion (λ e. IsRangedLocal e.value) es →
    parameters + length (locals_of es) ≤ 2 ^ 64
variables_few parameters es p n h = omega (arith, p, n, locals_few es h)
