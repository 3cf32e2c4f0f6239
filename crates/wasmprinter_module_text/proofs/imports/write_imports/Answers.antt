use Rattle.std.specs.Prelude.{◌≡◌, refl}
use Rattle.std.proofs.Common.{arith, ap, ◌∙◌, sym}
use Rattle.wasmprinter_spec.specs.Layout.Imports.{number_of, numbers_after}
use Rattle.wasmprinter_decoder.specs.Externs.{extern_view}
use Rattle.wasmprinter_module_text.specs.Scopes.{scope_view}
use Rattle.wasmprinter_module_text.proofs.ImportLines.{imports-none, imports-next, total, total-after, number-total}
use Rattle.wasmprinter_module_text.proofs.imports.write_imports.Goals as goal

pub loop-import-init : goal.loop-import-init
loop-import-init g c = rw c.none-numbers.ensures (record { rest = λ t w. w; scope = refl; count = refl })

pub count-requires : goal.count-requires
count-requires g c =
    omega (arith, number-total (extern_view c.ty-in-loop-import.result) c.loop-import.numbers, c.loop-import.invariant.count, c.loop-import-test.true, c.requires)

pub loop-import-preserved : goal.loop-import-preserved
loop-import-preserved g c =
    let item = c.import-item.result in
    let step = imports-next (scope_view g.O.Output.chosen c.args.scope.now) c.loop-import.numbers c.loop-import.import-index c.args.imports.now item item c.loop-import-test.true c.import-item.is in
    let number : c.of.result ≡ number_of item.value.type c.loop-import.numbers = rw c.ty.ensures.is at c.of.ensures in
    let after : c.count.new.self ≡ numbers_after item.value.type c.loop-import.numbers = rw c.ty-in-loop-import.ensures.is at c.count.ensures in
    let wrote = rw (number, c.loop-import.invariant.scope) at c.write_field.ensures.pieces in
    record {
      rest = rw after (λ t w. c.loop-import.invariant.rest t (rw step (g.met.O.Output.pieces_then _ _ _ _ _ wrote w)));
      scope = c.write_field.ensures.scope ∙ c.loop-import.invariant.scope;
      count = omega (arith, ap total after, total-after item.value.type c.loop-import.numbers, c.loop-import.invariant.count);
    }

pub returns-then-has_failed-clause-pieces : goal.returns-then-has_failed-clause-pieces
returns-then-has_failed-clause-pieces g c = c.loop-import.invariant.rest _ (g.met.O.Output.pieces_skipped _ _ (sym c.has_failed.ensures ∙ c.if-has_failed.true))

pub returns : goal.returns
returns g c =
    let none = imports-none (scope_view g.O.Output.chosen c.args.scope.now) c.loop-import.numbers c.loop-import.import-index c.args.imports.now c.loop-import-test.false in
    record {
      pieces = c.loop-import.invariant.rest _ (rw none (g.met.O.Output.no_piece _));
      scope = c.loop-import.invariant.scope;
    }
