use Rattle.std.specs.Prelude.{List}
use Rattle.std.proofs.Common.{sym, subst, ◌∙◌}
use Rattle.wasmprinter_spec.specs.Piece.{Piece}
use Rattle.wasmprinter_flat.specs.Settings.{setting_with_names}
use Rattle.wasmprinter_fold.proofs.Lists.{nothing_of, texts_there, layout_of}
use Rattle.wasmprinter_fold.proofs.fold_printer.Folder.write.Goals as goal

pub returns-then-has_failed-clause-writes : goal.returns-then-has_failed-clause-writes
returns-then-has_failed-clause-writes g c = g.met.O.Output.pieces_skipped _ _ (sym c.has_failed.ensures ∙ c.if-has_failed.true)

pub returns-then-not-folded-clause-writes : goal.returns-then-not-folded-clause-writes
returns-then-not-folded-clause-writes g c =
    let s = setting_with_names g.S.Signatures.signature_at c.args.setting.now c.args.labels.now in
    let e =
    nothing_of c.self.inside.tree.texts.color c.self.inside.callees c.args.self.now c.self.view_is c.args.own s c.args.hints
    c.args.expression.now.items c.fold.new.self c.in-Ok.folded c.if-not-folded.true c.in-Ok.ensures.grown in
    subst (λ (xs : List Piece). g.O.Output.wrote c.args.out.now c.args.out.now xs) (sym e) (g.met.O.Output.no_piece _)

pub write_nodes-requires-clause-texts : goal.write_nodes-requires-clause-texts
write_nodes-requires-clause-texts g c =
    let s = setting_with_names g.S.Signatures.signature_at c.args.setting.now c.args.labels.now in
    texts_there c.self.inside.tree.texts.color c.self.inside.callees c.args.self.now c.self.view_is c.args.own s c.args.hints
    c.args.expression.now.items c.fold.new.self c.in-Ok.folded c.if-not-folded.false c.in-Ok.ensures.grown c.as_str-texts.result.now
    c.as_str-texts.ensures c.nodes-nodes.result.now c.nodes-nodes.ensures.whole c.nodes-nodes.ensures.closed

pub returns-clause-writes : goal.returns-clause-writes
returns-clause-writes g c =
    let s = setting_with_names g.S.Signatures.signature_at c.args.setting.now c.args.labels.now in
    subst (λ (xs : List Piece). g.O.Output.wrote c.args.out.now c.write_nodes.new.out xs)
    (layout_of c.self.inside.tree.texts.color c.self.inside.callees c.args.self.now c.self.view_is c.args.own s c.args.hints
    c.args.expression.now.items c.fold.new.self c.in-Ok.folded c.if-not-folded.false c.in-Ok.ensures.grown c.as_str-texts.result.now
    c.as_str-texts.ensures c.nodes-nodes.result.now c.nodes-nodes.ensures.whole c.nodes-nodes.ensures.closed) c.write_nodes.ensures
