use Rattle.std.proofs.Common.{sym, ◌∙◌}
use Rattle.wasmprinter_flat.specs.OpenLabels.LabelState.{names_of}
use Rattle.wasmprinter_module_text.proofs.LocalLines.{locals-none, locals-some}
use Rattle.wasmprinter_module_text.proofs.locals.write_locals.Goals as goal

pub returns-in-Some : goal.returns-in-Some
returns-in-Some g c =
    rw (locals-some (names_of c.args.scope.now.labels) c.args.function c.args.parameters c.args.locals.now _ (sym c.in-Some.ensures))
    (g.met.O.Output.piece_then _ _ _ _ _ c.write_break.ensures c.write_entries.ensures)

pub returns-in_default : goal.returns-in_default
returns-in_default g c =
    rw (locals-none (names_of c.args.scope.now.labels) c.args.function c.args.parameters c.args.locals.now (sym c.locals_place.ensures ∙ c.in_default.is))
    (g.met.O.Output.no_piece _)
