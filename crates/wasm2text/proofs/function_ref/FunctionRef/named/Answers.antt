-- The word neither starts with a dollar sign nor is an index.
use Rattle.std.proofs.Common.{inl, inr}
use Rattle.wasm2text.proofs.function_ref.FunctionRef.named.Goals as goal

pub returns-in_err-read_offset-in-None : goal.returns-in_err-read_offset-in-None
returns-in_err-read_offset-in-None c =
    rw c.from_residual.ensures (λ function is. elim is [
      | inl by ↦ c.in-None.ensures.cases by.0 by.1
      | inr by ↦ c.in_err-read_offset-in-None.ensures by.0 by.1
    ])
