use Rattle.std.proofs.Common.{◌-◌, ℕ, List, true, ap, ◌∙◌}
use Rattle.wasmprinter_hidden.specs.Lengths.{bytes_len, list_len}
use Rattle.wasmprinter_hidden.proofs.Kept.{all_taken, filter_all}
use Rattle.wasmprinter_hidden.proofs.custom_data_lengths.DylinkNamesShortest.take_from.Goals as goal

pub returns : goal.returns
returns c =
    all_taken (λ x. true) bytes_len c.args.self.now c.args.excess.now.bytes c.loop-name.name-iterator c.loop-name.excess.bytes c.loop-name.count _
    c.in-None.ensures.steps.0 c.take_from.ensures c.loop-name.invariant.left c.loop-name.invariant.counted
    ∙ ap (λ (xs : List (List ℕ)). c.args.excess.now.bytes - list_len bytes_len xs) (filter_all c.args.self.now)
