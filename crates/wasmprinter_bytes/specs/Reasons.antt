-- The reasons for errors of decoding: what each error says about the bytes.
use Rattle.std.specs.Prelude.{ℕ}
use Rattle.wasmprinter_bytes.specs.declared.library_error.Error.{Error}
use Rattle.wasmprinter_bytes.specs.declared.library_error.Error.TheVariants.{Malformed, Component, TooManyLocals, TooManyFunctions, EmptyTableInit, Memory}

-- The reason for each error that decoding may return. The reason is ⊥ for an error that the reader never returns.
pub record Reasons : Type 1 where
  pub malformed : ℕ → Type 0
  pub component : Type 0
  pub locals : ℕ → Type 0
  pub functions : ℕ → Type 0
  pub tables : ℕ → Type 0
  pub memory : Type 0

-- The error has its reason. Decoding never returns the errors of printing.
abbrev pub HasReason : Reasons → Error → Type 0
HasReason r (Malformed place) = r.malformed place
HasReason r Component = r.component
HasReason r (TooManyLocals place) = r.locals place
HasReason r (TooManyFunctions count) = r.functions count
HasReason r (EmptyTableInit place) = r.tables place
HasReason r Memory = r.memory
HasReason r _ = ⊥
