use Rattle.std.proofs.Common.{◌+◌, ◌∙◌, sym}
use Rattle.wasmprinter_module_text.specs.Scopes.{scope_view}
use Rattle.wasmprinter_module_text.specs.Parts.{field_line}
use Rattle.wasmprinter_module_text.proofs.Numbering.{numbered_pieces-next, numbered_pieces-none}
use Rattle.wasmprinter_module_text.proofs.field_trait.write_each.Goals as goal

pub loop-index-preserved : goal.loop-index-preserved
loop-index-preserved g c =
    let line = field_line g.F.Field.keyword g.F.Field.line_place (g.F.Field.parts g.O.Output.chosen (scope_view g.O.Output.chosen c.args.scope.now)) in
    let step = numbered_pieces-next line c.args.first c.loop-index.index c.args.fields.now c.index-fields-index.result c.loop-index-test.true c.index-fields-index.is in
    let wrote = rw c.loop-index.invariant.scope at c.write_field.ensures.pieces in
    record {
      rest = λ t w. c.loop-index.invariant.rest t (rw step (g.met.O.Output.pieces_then _ _ _ _ _ wrote w));
      scope = c.write_field.ensures.scope ∙ c.loop-index.invariant.scope;
    }

pub returns-then-has_failed-clause-pieces : goal.returns-then-has_failed-clause-pieces
returns-then-has_failed-clause-pieces g c = c.loop-index.invariant.rest _ (g.met.O.Output.pieces_skipped _ _ (sym c.has_failed.ensures ∙ c.if-has_failed.true))

pub returns : goal.returns
returns g c =
    let line = field_line g.F.Field.keyword g.F.Field.line_place (g.F.Field.parts g.O.Output.chosen (scope_view g.O.Output.chosen c.args.scope.now)) in
    let none = numbered_pieces-none line (c.args.first + c.loop-index.index) c.loop-index.index c.args.fields.now c.loop-index-test.false in
    record {
      pieces = c.loop-index.invariant.rest _ (rw none (g.met.O.Output.no_piece _));
      scope = c.loop-index.invariant.scope;
    }
