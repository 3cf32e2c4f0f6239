use Rattle.std.proofs.Common.{◌≡◌, ◌++◌, is_some, None, false, get_or, slice_set, rules, sym, subst, ap, ◌∙◌, true≢false}
use Rattle.wasmprinter_custom.specs.Lookups.{Ascends, AreDisjoint, stored_at}
use Rattle.wasmprinter_custom.specs.declared.names.Key.{Key}
use Rattle.wasmprinter_custom.specs.declared.names.StoredName.{StoredName}
use Rattle.wasmprinter_custom.proofs.Placing.{before_all, pushed_or_not, pushed_gains, gains_front, gains_by, Replaces, replaces_by, replaced_ascends, replaced_disjoint, replaced_gains_all, disjoint_alone, disjoint_gains, none_either, none_above}
use Rattle.wasmprinter_custom.proofs.sorted_names_builder.SortedNames.insert.Goals as goal

-- ---- A key above all others

pub invariant_of-self : goal.invariant_of-self
invariant_of-self c =
    let list = c.self.inside.ascending.items in
    let alone = c.in_order.ensures.0 c.if-in_order.true in (
      subst Ascends (sym c.push.ensures.items)
          (pushed_or_not _ list (c.args.key, c.args.stored) c.self.invariant.0 (before_all list _ c.args.key c.deref.ensures.value alone.1)),
      disjoint_alone c.push.new.self.items c.self.inside.late.entries alone.0,
    )

pub returns-in_ok-push-clause-gains : goal.returns-in_ok-push-clause-gains
returns-in_ok-push-clause-gains c =
    let list = c.self.inside.ascending.items in
    let alone = c.in_order.ensures.0 c.if-in_order.true in
    gains_by list c.args.self.now _ _ c.args.key c.args.stored (ap (λ es. es ++ list) (sym alone.0) ∙ c.self.view_is)
    (ap (λ es. es ++ c.push.new.self.items) alone.0 ∙ c.in_ok-push.ensures.items)
    (pushed_gains list (c.args.key, c.args.stored) (before_all list _ c.args.key c.deref.ensures.value alone.1))

pub returns-in_err-push-clause-replaces : goal.returns-in_err-push-clause-replaces
returns-in_err-push-clause-replaces c = λ some.
    let list = c.self.inside.ascending.items in
    let late = c.self.inside.late.entries in
    let alone = c.in_order.ensures.0 c.if-in_order.true in
    let none : is_some (stored_at (late ++ list) c.args.key) ≡ false =
    none_either late list c.args.key (ap (λ es. stored_at es c.args.key) alone.0)
    (none_above list c.args.key (before_all list _ c.args.key c.deref.ensures.value alone.1)) in
    absurd (true≢false (sym some ∙ ap (λ es. is_some (stored_at es c.args.key)) (sym c.self.view_is) ∙ none))

-- ---- A key in the list

pub invariant_of-self-in-Some : goal.invariant_of-self-in-Some
invariant_of-self-in-Some c =
    let list = c.self.inside.ascending.items in
    let late = c.self.inside.late.entries in
    let d : Key × StoredName = (c.args.key, c.args.stored) in
    let e = get_or list c.in-Some.position d in
    let r : Replaces list c.in-Some.position e c.args.key =
    replaces_by list c.deref-else-in_order.result.now c.in-Some.position d c.args.key c.deref-else-in_order.ensures.value c.in-Some.ensures.bound c.in-Some.ensures.at in (
      subst Ascends (sym (c.replace.ensures.items d)) (replaced_ascends list c.in-Some.position e c.args.key c.args.stored c.self.invariant.0 r),
      subst (λ es. AreDisjoint es late) (sym (c.replace.ensures.items d))
          (replaced_disjoint list late c.in-Some.position e c.args.key c.args.stored c.self.invariant.0 c.self.invariant.1 r),
    )

pub returns-in-Some-clause-gains : goal.returns-in-Some-clause-gains
returns-in-Some-clause-gains c =
    let list = c.self.inside.ascending.items in
    let late = c.self.inside.late.entries in
    let d : Key × StoredName = (c.args.key, c.args.stored) in
    let e = get_or list c.in-Some.position d in
    let r : Replaces list c.in-Some.position e c.args.key =
    replaces_by list c.deref-else-in_order.result.now c.in-Some.position d c.args.key c.deref-else-in_order.ensures.value c.in-Some.ensures.bound c.in-Some.ensures.at in
    gains_by (late ++ list) c.args.self.now (late ++ slice_set list c.in-Some.position (e.0, c.args.stored)) _ c.args.key c.args.stored c.self.view_is
    (ap (λ es. late ++ es) (c.replace.ensures.items d))
    (replaced_gains_all list late c.in-Some.position e c.args.key c.args.stored c.self.invariant.0 c.self.invariant.1 r)

-- ---- A key in the tree, or a new one

pub invariant_of-self-in_ok-insert : goal.invariant_of-self-in_ok-insert
invariant_of-self-in_ok-insert c =
    let list = c.self.inside.ascending.items in
    let none : stored_at list c.args.key ≡ None = subst (λ es. stored_at es c.args.key ≡ None) c.deref-else-in_order.ensures.value c.in_default.ensures.none in (
      c.self.invariant.0,
      disjoint_gains list c.self.inside.late.entries c.insert.new.self.entries c.args.key c.args.stored c.self.invariant.1 none (λ q. c.in_ok-insert.ensures.updates.0 q),
    )

pub invariant_of-self-in_ok-insert-2 : goal.invariant_of-self-in_ok-insert-2
invariant_of-self-in_ok-insert-2 c =
    let list = c.self.inside.ascending.items in
    let none : stored_at list c.args.key ≡ None = subst (λ es. stored_at es c.args.key ≡ None) c.deref-else-in_order.ensures.value c.in_default.ensures.none in (
      c.self.invariant.0,
      disjoint_gains list c.self.inside.late.entries c.insert.new.self.entries c.args.key c.args.stored c.self.invariant.1 none (λ q. c.in_ok-insert.ensures.updates.0 q),
    )

pub invariant_of-self-in_ok-insert-3 : goal.invariant_of-self-in_ok-insert-3
invariant_of-self-in_ok-insert-3 c =
    let list = c.self.inside.ascending.items in
    let none : stored_at list c.args.key ≡ None = subst (λ es. stored_at es c.args.key ≡ None) c.deref-else-in_order.ensures.value c.in_default.ensures.none in (
      c.self.invariant.0,
      disjoint_gains list c.self.inside.late.entries c.insert.new.self.entries c.args.key c.args.stored c.self.invariant.1 none (λ q. c.in_ok-insert.ensures.updates.0 q),
    )

pub returns-in_ok-insert-clause-gains : goal.returns-in_ok-insert-clause-gains
returns-in_ok-insert-clause-gains c =
    let list = c.self.inside.ascending.items in
    let late = c.self.inside.late.entries in
    gains_by (late ++ list) c.args.self.now (c.insert.new.self.entries ++ list) _ c.args.key c.args.stored c.self.view_is (search rules)
    (gains_front late c.insert.new.self.entries list c.args.key c.args.stored (λ q. c.in_ok-insert.ensures.updates.0 q))

pub returns-in_err-insert-clause-replaces : goal.returns-in_err-insert-clause-replaces
returns-in_err-insert-clause-replaces c = λ some.
    let list = c.self.inside.ascending.items in
    let late = c.self.inside.late.entries in
    let none : is_some (stored_at (late ++ list) c.args.key) ≡ false =
    none_either late list c.args.key c.in_err-insert.ensures.absent
    (subst (λ es. stored_at es c.args.key ≡ None) c.deref-else-in_order.ensures.value c.in_default.ensures.none) in
    absurd (true≢false (sym some ∙ ap (λ es. is_some (stored_at es c.args.key)) (sym c.self.view_is) ∙ none))
