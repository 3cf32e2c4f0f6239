-- Bytes that encode a module within the limits.
use Rattle.std.specs.Prelude.{ℕ, List}
use Rattle.wasmprinter_spec.specs.Binary.{Spells}
use Rattle.wasmprinter_spec.specs.Placed.{PlacedModule}
use Rattle.wasmprinter_spec.specs.Limits.{IsWithinLimits}

-- The bytes encode a module within the limits.
pub record Decoded (bytes : List ℕ) : Type 0 where
  -- The module, with its places.
  pub placed : PlacedModule
  -- The bytes encode it.
  pub spelled : Spells bytes placed
  -- It is within the limits.
  pub within : IsWithinLimits placed
