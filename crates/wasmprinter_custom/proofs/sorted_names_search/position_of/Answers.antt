use Rattle.std.proofs.Common.{None, ◌≡◌, IfSome, IfNone, subst, sym, rules}
use Rattle.std.specs.List.{HoldsAt}
use Rattle.std.specs.declared.cmp.Ordering.TheVariants.{Equal}
use Rattle.std.proofs.lemmas.List.Sorted.{answers_always}
use Rattle.wasmprinter_custom.specs.Lookups.{stored_at}
use Rattle.wasmprinter_custom.specs.Views.{key_cmp}
use Rattle.wasmprinter_custom.proofs.Lookups.{search_at, search_none}
use Rattle.wasmprinter_custom.proofs.sorted_names_search.position_of.Goals as goal

pub returns-clause-at : goal.returns-clause-at
returns-clause-at c =
    let answer = c.binary_search_by_key.ensures.position (λ e. e.0) (answers_always _ _ _ (λ f a r g called. search rules)) in
    subst (λ o. IfSome o (HoldsAt (λ e. key_cmp e.0 c.args.key ≡ Equal) c.args.entries.now)) (sym c.ok.ensures.value)
    (search_at c.args.entries.now c.args.key c.binary_search_by_key.result answer)

pub returns-clause-none : goal.returns-clause-none
returns-clause-none c =
    let answer = c.binary_search_by_key.ensures.position (λ e. e.0) (answers_always _ _ _ (λ f a r g called. search rules)) in
    subst (λ o. IfNone o (stored_at c.args.entries.now c.args.key ≡ None)) (sym c.ok.ensures.value)
    (search_none c.args.entries.now c.requires c.args.key c.binary_search_by_key.result answer)
