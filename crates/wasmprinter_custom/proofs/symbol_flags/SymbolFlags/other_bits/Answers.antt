use Rattle.std.proofs.Common.{◌+◌, sym, ap, ◌∙◌, arith}
use Rattle.std.specs.Prelude.{drop}
use Rattle.wasmprinter_spec.specs.Layout.Customs.{flag_words}
use Rattle.wasmprinter_custom.specs.Flags.{bits_of, others_by}
use Rattle.wasmprinter_custom.proofs.FlagRows.{other_taken, other_passed, others_end}
use Rattle.wasmprinter_custom.proofs.symbol_flags.SymbolFlags.other_bits.Goals as goal
use Rattle.wasmprinter_custom.proofs.symbol_flags.SymbolFlags.other_bits.Goals.{then-left-bits, else-left-bits}

pub loop-flag-preserved : goal.loop-flag-preserved
loop-flag-preserved c = elim c.if-left-bits.branch [
  | then-left-bits w ↦
      ap (others_by (drop (c.loop-flag.flag-index + 1) flag_words)) w.left-is
      ∙ sym (other_taken (λ flag. (bits_of flag.value, flag.name.now)) c.rows-flag-items.result.now c.rows-flag-items.ensures c.loop-flag.flag-index _ (omega arith) c.loop-flag.left c.bits-bits.result (c.bits-bits.ensures tt) w.if-left-bits.true)
      ∙ c.loop-flag.invariant
  | else-left-bits w ↦
      ap (others_by (drop (c.loop-flag.flag-index + 1) flag_words)) w.left-is
      ∙ sym (other_passed (λ flag. (bits_of flag.value, flag.name.now)) c.rows-flag-items.result.now c.rows-flag-items.ensures c.loop-flag.flag-index _ (omega arith) c.loop-flag.left c.bits-bits.result (c.bits-bits.ensures tt) w.if-left-bits.false)
      ∙ c.loop-flag.invariant
]

pub returns : goal.returns
returns c =
    sym (others_end (λ flag. (bits_of flag.value, flag.name.now)) c.rows-flag-items.result.now c.rows-flag-items.ensures c.loop-flag.flag-index (omega arith) c.loop-flag.left)
    ∙ c.loop-flag.invariant
