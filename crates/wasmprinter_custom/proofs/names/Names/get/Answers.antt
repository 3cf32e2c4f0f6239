use Rattle.std.proofs.Common.{sym, ap, ◌∙◌}
use Rattle.std.specs.Prelude.{false, slice_index_or}
use Rattle.wasmprinter_custom.proofs.Marked.{none_unmarked}
use Rattle.wasmprinter_custom.proofs.names.Names.get.Goals as goal

pub returns-then-not-self-from : goal.returns-then-not-self-from
returns-then-not-self-from c =
    let inside = c.self.inside in
    rw (← c.self.view_is) (none_unmarked inside.entries.items inside.named c.args.key c.self.invariant.2
    (ap (λ s. slice_index_or inside.named s false) (sym c.from.ensures) ∙ c.if-not-self-from.true))
