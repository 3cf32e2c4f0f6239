use Rattle.std.proofs.Common.{◌≡◌}
use Rattle.std.specs.Prelude.{drop}
use Rattle.wasmprinter_spec.specs.Layout.Customs.{flag_words}
use Rattle.wasmprinter_custom.specs.Flags.{others_by}
use Rattle.wasmprinter_custom.proofs.symbol_flags.SymbolFlags.other_bits.Given as goal

abbrev pub invariant-loop-flag : goal.invariant-loop-flag
invariant-loop-flag l = others_by (drop l.flag-index flag_words) l.left ≡ others_by flag_words l.fn.self.0
