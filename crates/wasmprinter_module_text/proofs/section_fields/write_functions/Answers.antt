use Rattle.std.proofs.Common.{◌+◌, ◌≤◌, ◌∙◌, ◌≡◌, length, arith}
use Rattle.wasmprinter_spec.specs.Types.{FuncKind}
use Rattle.wasmprinter_decoder.specs.Externs.{imported_count}
use Rattle.wasmprinter_module_text.specs.Scopes.{scope_view}
use Rattle.wasmprinter_module_text.proofs.Walking.{functions-found, functions-none}
use Rattle.wasmprinter_module_text.proofs.section_fields.write_functions.Goals as goal

pub returns-then-has_failed-clause-pieces : goal.returns-then-has_failed-clause-pieces
returns-then-has_failed-clause-pieces g c =
    let o = g.O.Output.chosen in
    let law = g.met.O.Output in
    let first = imported_count FuncKind c.args.module.now.imports in
    let step = functions-found o (scope_view o c.args.scope.now) c.loop-index.hints (first + c.loop-index.index) c.loop-index.index c.args.module.now.functions c.function-function.result c.function-function.ensures in
    let written = rw (c.next_function.ensures.gives, c.from.ensures, c.imported_count-first.ensures.is, c.loop-index.invariant.scope) at c.write_function.ensures.pieces in
    c.loop-index.invariant.left _ (rw step (law.pieces_then _ _ _ _ _ written (law.pieces_skipped _ _ (rw c.has_failed.ensures at c.if-has_failed.true))))

pub loop-index-preserved : goal.loop-index-preserved
loop-index-preserved g c =
    let o = g.O.Output.chosen in
    let law = g.met.O.Output in
    let first = imported_count FuncKind c.args.module.now.imports in
    let step = functions-found o (scope_view o c.args.scope.now) c.loop-index.hints (first + c.loop-index.index) c.loop-index.index c.args.module.now.functions c.function-function.result c.function-function.ensures in
    let written = rw (c.next_function.ensures.gives, c.from.ensures, c.imported_count-first.ensures.is, c.loop-index.invariant.scope) at c.write_function.ensures.pieces in
    let number : (first + c.loop-index.index) + 1 ≡ first + (c.loop-index.index + 1) = omega (arith) in
    record {
      left = λ t w. c.loop-index.invariant.left t (rw step (law.pieces_then _ _ _ _ _ written
          (rw (c.next_function.ensures.after, c.from.ensures, c.imported_count-first.ensures.is, ← number) at w)));
      scope = c.write_function.ensures.scope ∙ c.loop-index.invariant.scope;
    }

pub returns-clause-pieces : goal.returns-clause-pieces
returns-clause-pieces g c =
    let o = g.O.Output.chosen in
    let first = imported_count FuncKind c.args.module.now.imports in
    let past : length c.args.module.now.functions ≤ c.loop-index.index = omega (arith, c.loop-index-test.false, c.function_count-index-end.ensures) in
    let none = functions-none o (scope_view o c.args.scope.now) c.loop-index.hints (first + c.loop-index.index) c.loop-index.index c.args.module.now.functions past in
    c.loop-index.invariant.left _ (rw none (g.met.O.Output.no_piece _))
