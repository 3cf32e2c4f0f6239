use Rattle.std.proofs.Common.{ℕ, nat_eq, ◌/◌, ◌^◌, ap}
use Rattle.std.proofs.lemmas.Nat.{and_mask}
use Rattle.wasmprinter_decoder.proofs.flag_bits.has_bit.Goals as goal

pub returns : goal.returns
returns c = ap (λ (n : ℕ). nat_eq n 1) (and_mask (c.args.flags / 2 ^ c.args.bit) 1)
