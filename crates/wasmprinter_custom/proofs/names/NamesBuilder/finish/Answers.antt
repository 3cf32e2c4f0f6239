use Rattle.std.proofs.Common.{sym, ◌∙◌, subst, true≢false}
use Rattle.wasmprinter_custom.specs.Lookups.{AreUsed}
use Rattle.wasmprinter_custom.proofs.Adding.{same_name_at, same_of_labels}
use Rattle.wasmprinter_custom.proofs.Lookups.{empty_where_none}
use Rattle.wasmprinter_custom.proofs.names.NamesBuilder.finish.Goals as goal

pub invariant_of-result : goal.invariant_of-result
invariant_of-result c =
    let items = c.in_ok-entries.entries.items in (
      c.in_ok-entries.ensures.ascend,
      same_of_labels c.args.self.names items c.in_ok-entries.ensures.all c.args.self.identifiers_of_labels,
      subst (λ es. AreUsed es c.used_subsections-named.result) c.deref-2.ensures.value c.used_subsections-named.ensures,
    )

pub returns-clause-names : goal.returns-clause-names
returns-clause-names c = λ entries h s o i. same_name_at c.args.self.names c.in_ok-entries.entries.items c.in_ok-entries.ensures.all s o i ∙ h.names s o i

pub returns-in_err-entries-clause-succeeds : goal.returns-in_err-entries-clause-succeeds
returns-in_err-entries-clause-succeeds c = λ h. absurd (true≢false (sym (c.in_err-entries.ensures.succeeds (empty_where_none c.args.self.names h.names))))

pub returns-in_err-guesses-clause-succeeds : goal.returns-in_err-guesses-clause-succeeds
returns-in_err-guesses-clause-succeeds c = λ h.
    let items = c.in_ok-entries.entries.items in
    let none = empty_where_none items (λ s o i. same_name_at c.args.self.names items c.in_ok-entries.ensures.all s o i ∙ h.names s o i) in
    absurd (true≢false (sym (c.in_err-guesses.ensures (c.deref.ensures.value ∙ none))))
