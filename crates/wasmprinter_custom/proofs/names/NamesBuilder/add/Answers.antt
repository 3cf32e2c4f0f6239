use Rattle.std.proofs.Common.{refl, ap, ◌∙◌, not}
use Rattle.std.specs.Prelude.{Some, [], ℕ, List}
use Rattle.wasmprinter_spec.specs.Names.Section.{Entry}
use Rattle.wasmprinter_spec.specs.Names.Content.{entries_in}
use Rattle.wasmprinter_custom.specs.HoldsEntries.{names_given}
use Rattle.wasmprinter_custom.specs.declared.names.Given.{Given}
use Rattle.wasmprinter_custom.proofs.Adding.{HoldsEntries-entry, keeps_of_labels}
use Rattle.wasmprinter_custom.proofs.names.NamesBuilder.add.Goals as goal

pub returns : goal.returns
returns c = λ entries h.
    let e : Entry = record { subsection = c.args.subsection; outer = c.args.outer; index = c.args.index; name = c.args.name.now } in
    let given : Given = record { subsection = c.args.subsection; outer = c.args.outer; name = c.args.name } in
    HoldsEntries-entry entries c.args.self.now _
    e given (record { subsection = c.args.subsection; outer = c.args.outer; index = c.args.index })
    (record { given = c.args.name; marked = c.in_ok-marked.marked })
    (refl, refl, refl) (refl, refl, refl) c.in_ok-is_new.ensures.updates c.in_ok-insert.ensures.gains
    (ap (λ (t : List ℕ). record { given = Some e.name; content = t })
    (c.in_ok-marked.ensures.content e.outer (names_given [] (entries_in e.subsection e.outer entries)) (c.in_ok-is_new.ensures.added ∙ ap not (h.given given)))) h

pub invariant_of-self-2 : goal.invariant_of-self-2
invariant_of-self-2 c = record {
  identifiers_of_labels =
      keeps_of_labels c.insert-2.result c.args.self.now.names c.insert-2.new.self (record { subsection = c.args.subsection; outer = c.args.outer; index = c.args.index })
      (record { given = c.args.name; marked = c.in_ok-marked.marked }) c.insert-2.ensures.gains c.insert-2.ensures.err c.in_ok-marked.ensures.label c.args.self.now.identifiers_of_labels;
}
