use Rattle.wasmprinter_print.specs.Change.{change}
use Rattle.wasmprinter.specs.Outcome.{IsPrintRefusal, Leaves}
use Rattle.std.proofs.Common.{refl, ap, ◌∙◌}
use Rattle.wasmprinter_spec.specs.Names.Section.{label_subsection}
use Rattle.wasmprinter_bytes.specs.declared.library_error.Error.TheVariants.{Memory}
use Rattle.wasmprinter.proofs.Named.{names_refusal, unnamed, not_ok}
use Rattle.wasmprinter.proofs.Outcomes.{decoded_as, handed_on, print_refusal, refusal_left, fold_refusal, fold_left, fold_unmarked, own_ended, ended_printed, ended_refusal, ended_left, ended_unmarked}
use Rattle.wasmprinter.proofs.config.Config.print.Goals as goal

pub returns-in_err-module-clause-refused : goal.returns-in_err-module-clause-refused
returns-in_err-module-clause-refused g c =
    let printer = change g.P.Print.meaning c.args.printer.now c.args.printer.now in
    handed_on (IsPrintRefusal printer c.args.self.now c.args.wasm.now) c.from_residual.result c.in_err-module.field-0.0 c.from_residual.ensures.1
    (print_refusal printer c.args.self.now c.args.wasm.now c.in_err-module.field-0.0 c.in_err-module.ensures.refused)

pub returns-in_err-module-clause-left : goal.returns-in_err-module-clause-left
returns-in_err-module-clause-left g c =
    let printer = change g.P.Print.meaning c.args.printer.now c.args.printer.now in
    let colors = g.P.Print.colors c.args.printer.now in
    handed_on (Leaves printer colors c.args.self.now c.args.wasm.now) c.from_residual.result c.in_err-module.field-0.0 c.from_residual.ensures.1
    (refusal_left printer colors c.args.self.now c.args.wasm.now c.in_err-module.field-0.0 refl c.in_err-module.ensures.refused)

pub returns-in_err-names-clause-refused : goal.returns-in_err-names-clause-refused
returns-in_err-names-clause-refused g c =
    let printer = change g.P.Print.meaning c.args.printer.now c.args.printer.now in
    handed_on (IsPrintRefusal printer c.args.self.now c.args.wasm.now) c.from_residual-in_err-names.result c.in_err-names.field-0.0 c.from_residual-in_err-names.ensures.1
    (print_refusal printer c.args.self.now c.args.wasm.now c.in_err-names.field-0.0
    (rw c.in_err-names.ensures.memory (names_refusal c.args.wasm.now c.in_ok-module.module c.in_ok-module.ensures.ok.0 (λ none. not_ok (c.in_err-names.ensures.succeeds none)))))

pub returns-in_err-labels-clause-refused : goal.returns-in_err-labels-clause-refused
returns-in_err-labels-clause-refused g c =
    let printer = change g.P.Print.meaning c.args.printer.now c.args.printer.now in
    handed_on (IsPrintRefusal printer c.args.self.now c.args.wasm.now) c.from_residual-in_err-labels.result Memory c.from_residual-in_err-labels.ensures.1
    (print_refusal printer c.args.self.now c.args.wasm.now Memory
    (names_refusal c.args.wasm.now c.in_ok-module.module c.in_ok-module.ensures.ok.0
    (λ none. not_ok (c.in_err-labels.ensures.succeeds (λ f n. c.in_ok-names.ensures.names label_subsection f n ∙ unnamed _ none label_subsection f n)))))

pub returns-in_err-check-clause-refused : goal.returns-in_err-check-clause-refused
returns-in_err-check-clause-refused g c =
    let printer = change g.P.Print.meaning c.args.printer.now c.args.printer.now in
    let decoded = decoded_as c.in_ok-module.module c.in_ok-module.ensures.ok in
    handed_on (IsPrintRefusal printer c.args.self.now c.args.wasm.now) c.from_residual-in_err-check.result c.in_err-check.field-0.0 c.from_residual-in_err-check.ensures.1
    (fold_refusal printer c.args.self.now decoded c.in_err-check.ensures.refused.0 c.in_err-check.field-0.0 c.in_err-check.ensures.refused.1)

pub returns-in_err-check-clause-left : goal.returns-in_err-check-clause-left
returns-in_err-check-clause-left g c =
    let printer = change g.P.Print.meaning c.args.printer.now c.args.printer.now in
    let colors = g.P.Print.colors c.args.printer.now in
    let decoded = decoded_as c.in_ok-module.module c.in_ok-module.ensures.ok in
    handed_on (Leaves printer colors c.args.self.now c.args.wasm.now) c.from_residual-in_err-check.result c.in_err-check.field-0.0 c.from_residual-in_err-check.ensures.1
    (fold_left printer c.args.self.now decoded c.in_err-check.ensures.refused.0 colors c.in_err-check.field-0.0 refl c.in_err-check.ensures.refused.1)

pub returns-in_err-check-clause-component : goal.returns-in_err-check-clause-component
returns-in_err-check-clause-component g c =
    let decoded = decoded_as c.in_ok-module.module c.in_ok-module.ensures.ok in
    fold_unmarked c.args.self.now decoded c.from_residual-in_err-check.result c.in_err-check.field-0.0 c.in_err-check.ensures.refused.1 c.from_residual-in_err-check.ensures.1

pub returns : goal.returns
returns g c =
    let o = c.args.self.now in
    let printer = change g.P.Print.meaning c.args.printer.now c.print_module.new.p in
    let colors = g.P.Print.colors c.args.printer.now in
    let decoded = decoded_as c.in_ok-module.module c.in_ok-module.ensures.ok in
    let foldable = c.in_ok-check.ensures.foldable in
    let r = c.print_module.result in
    let laid = rw c.self.view_is at c.print_module.ensures in
    let answers = laid.0 in
    let start = c.in_ok-labels.ensures.start in
    let synthesizes = ap (λ s. s.synthesizes) start ∙ ap (λ i. i.options.synthesizes) c.self-inside.view_is ∙ ap (λ o. o.synthesizes) c.self.view_is in
    let ended = own_ended printer colors o decoded foldable answers r c.in_ok-labels.labels c.in_ok-names.names (ap (λ s. s.item_names) start) synthesizes c.in_ok-names.ensures.names laid.1 in
    record {
      printed = ended_printed printer colors o decoded foldable answers r ended;
      refused = ended_refusal printer colors o decoded foldable answers r ended;
      left = ended_left printer colors o decoded foldable answers r ended;
      component = ended_unmarked printer colors o decoded foldable answers r ended;
    }
