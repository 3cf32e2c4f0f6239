-- Numbers of 32 bits and vectors that bytes encode
use Rattle.std.proofs.Common.{◌<◌, ◌^◌, List, length, arith}
use Rattle.std.specs.List.{AllByRecursion}
use Rattle.wasmprinter_spec.specs.Grammar.{Grammar}
use Rattle.wasmprinter_spec.specs.Name.{u32, vec}
use Rattle.wasmprinter_laws.proofs.AllSpelled.{ByteStrings, Spelled, AllSpelled, Spelled-of_all, Spelled-seq, Spelled-map_value, Spelled-times}
use Rattle.wasmprinter_laws.proofs.LebRange.{AllSpelled-unsigned}

-- A vector: fewer than 2 ^ 32 items, each of which has P
pub record IsVector {A : Type 0} (P : A → Type 0) (xs : List A) : Type 0 where
  pub count : length xs < 2 ^ 32
  pub each : AllByRecursion P xs

-- A u32 is below 2 ^ 32.
pub AllSpelled-u32 : AllSpelled u32 (λ n. n < 2 ^ 32)
AllSpelled-u32 = AllSpelled-unsigned 32

-- If items have P, then so has each item of a vector.
pub Spelled-vec : {kind : ByteStrings} {A : Type 0} {g : Grammar A} {P : A → Type 0} → Spelled kind g P → Spelled kind (vec g) (IsVector P)
Spelled-vec all =
    Spelled-map_value (Spelled-seq (Spelled-of_all AllSpelled-u32) (λ n. Spelled-times all n))
    (λ x (few, (long, each)). record { count = omega (arith, few, long); each = each })
