use Rattle.std.proofs.Common.{length, ◌-◌, ◌≡◌}
use Rattle.std.specs.Prelude.{drop}
use Rattle.wasmprinter_spec.specs.Layout.Customs.{flag_words}
use Rattle.wasmprinter_custom.specs.Flags.{words_by}
use Rattle.wasmprinter_custom.proofs.symbol_flags.FlagWordsIterator.next.Given as goal

abbrev pub invariant-rows : goal.invariant-rows
invariant-rows l =
    words_by (drop l.self-inside.row flag_words) l.self-inside.left ≡ words_by (drop l.initial.self-inside.row flag_words) l.initial.self-inside.left

abbrev pub decreases-rows : goal.decreases-rows
decreases-rows l = length l.rows - l.self-inside.row
