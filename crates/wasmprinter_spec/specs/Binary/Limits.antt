-- How bytes encode limits (section 5.3 of the standard, "Limits").
use Rattle.std.specs.Prelude.{ℕ, ◌/◌, ◌%◌, ◌^◌, ◌==◌, Bool, true, false, Some, None}
use Rattle.wasmprinter_spec.specs.Grammar.{Grammar, seq, map_value}
use Rattle.wasmprinter_spec.specs.Leb.{unsigned}
use Rattle.wasmprinter_spec.specs.Types.{Limits, limits_of}

-- Bit k of the flags is set.
abbrev pub has_bit : ℕ → ℕ → Bool
has_bit k flags = flags / 2 ^ k % 2 == 1

-- Limits with or without a maximum size.
abbrev pub limits : Bool → Grammar Limits
limits true = map_value (λ x. limits_of x.0 (Some x.1)) (seq (unsigned 64) (λ _. unsigned 64))
limits false = map_value (λ min. limits_of min None) (unsigned 64)
