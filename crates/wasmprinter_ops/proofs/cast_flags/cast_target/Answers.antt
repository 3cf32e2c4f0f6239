use Rattle.std.proofs.Common.{◌≡◌, ℕ, zero, suc, ◌<◌, ◌*◌, ◌/◌, ◌%◌, Bool, not, eqb, refl, ap, ◌∙◌, arith}
use Rattle.std.proofs.lemmas.Nat.Bits.{and_pow}
use Rattle.wasmprinter_spec.specs.Types.{ref_type}
use Rattle.wasmprinter_ops.specs.ValTypes.{heap_view}
use Rattle.wasmprinter_ops.proofs.cast_flags.cast_target.Goals as goal

-- For a bit b, 2 b is not 0 exactly if b is 1.
bit_set : (b : ℕ) → b < 2 → not (eqb (b * 2) 0) ≡ eqb b 1
bit_set zero lt = refl
bit_set (suc zero) lt = refl
bit_set (suc (suc b)) lt = absurd (omega arith)

pub returns : goal.returns
returns c =
    let flags : ℕ = c.args.flags in
    ap (λ (b : Bool). ref_type b (heap_view c.args.heap)) (ap (λ (n : ℕ). not (eqb n 0)) (and_pow flags 1) ∙ bit_set (flags / 2 % 2) (omega arith))
