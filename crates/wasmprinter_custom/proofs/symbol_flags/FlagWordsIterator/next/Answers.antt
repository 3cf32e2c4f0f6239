use Rattle.std.proofs.Common.{◌+◌, ◌-◌, ◌<◌, rules, length, sym, ap, ◌∙◌, arith}
use Rattle.std.specs.Prelude.{drop}
use Rattle.wasmprinter_spec.specs.Layout.Customs.{flag_words}
use Rattle.wasmprinter_custom.specs.Flags.{bits_of, words_by}
use Rattle.wasmprinter_custom.proofs.FlagRows.{word_first, word_passed, words_end}
use Rattle.wasmprinter_custom.proofs.symbol_flags.FlagWordsIterator.next.Goals as goal

pub returns-then-self-bits-clause-steps : goal.returns-then-self-bits-clause-steps
returns-then-self-bits-clause-steps c =
    sym c.self.view_is ∙ sym c.rows.invariant
    ∙ word_first (λ flag. (bits_of flag.value, flag.name.now)) c.rows-rows.result.now c.rows-rows.ensures c.rows.self-inside.row _ (omega arith) c.rows.self-inside.left c.bits-bits.result (c.bits-bits.ensures tt) c.if-self-bits.true

pub returns-then-self-bits-clause-goes : goal.returns-then-self-bits-clause-goes
returns-then-self-bits-clause-goes c =
    let fewer : length (words_by (drop (c.rows.self-inside.row + 1) flag_words) (c.rows.self-inside.left - c.bits-bits.result)) < length c.args.self.now = omega (arith, ap length (returns-then-self-bits-clause-steps c)) in
    search rules

pub rows-preserved : goal.rows-preserved
rows-preserved c =
    sym (word_passed (λ flag. (bits_of flag.value, flag.name.now)) c.rows-rows.result.now c.rows-rows.ensures c.rows.self-inside.row _ (omega arith) c.rows.self-inside.left c.bits-bits.result (c.bits-bits.ensures tt) c.if-self-bits.false)
    ∙ c.rows.invariant

pub returns-clause-steps : goal.returns-clause-steps
returns-clause-steps c =
    let none = words_end (λ flag. (bits_of flag.value, flag.name.now)) c.rows-rows.result.now c.rows-rows.ensures c.rows.self-inside.row (omega arith) c.rows.self-inside.left in
    (sym c.self.view_is ∙ sym c.rows.invariant ∙ none, none)
