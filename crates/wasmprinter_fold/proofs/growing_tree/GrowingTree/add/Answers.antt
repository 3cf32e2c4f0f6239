use Rattle.std.proofs.Common.{codes}
use Rattle.wasmprinter_ops.specs.Shapes.{role_view}
use Rattle.wasmprinter_flat.specs.Settings.{setting_with_names}
use Rattle.wasmprinter_fold.specs.Counted.{counts_view}
use Rattle.wasmprinter_fold.specs.Growing.{shown_operator, shown_keyword}
use Rattle.wasmprinter_fold.proofs.Growing.{same_step, by_role, ends_role}
use Rattle.wasmprinter_fold.proofs.growing_tree.GrowingTree.add.Goals as goal

pub returns-in-Plain-clause-steps : goal.returns-in-Plain-clause-steps
returns-in-Plain-clause-steps g c =
    let color = c.args.self.now.texts.color in
    let x =
    shown_operator color (setting_with_names g.S.Signatures.signature_at c.args.setting.now c.args.labels.now) c.args.labels.now
    c.args.next.place c.args.next.hint c.args.next.operator.now in
    let then = shown_keyword color c.args.next.place (codes "then") in
    let otherwise = shown_keyword color c.args.next.place (codes "else") in
    same_step c.plain.result c.args.self.now c.plain.new.self _ _
    (by_role (role_view c.args.role) _ x then otherwise (counts_view c.args.counts) c.requires.role)
    (rw (c.in-Plain.is) c.plain.ensures.steps)

pub returns-in-Opens-clause-steps : goal.returns-in-Opens-clause-steps
returns-in-Opens-clause-steps g c =
    let color = c.args.self.now.texts.color in
    let x =
    shown_operator color (setting_with_names g.S.Signatures.signature_at c.args.setting.now c.args.labels.now) c.args.labels.now
    c.args.next.place c.args.next.hint c.args.next.operator.now in
    let then = shown_keyword color c.args.next.place (codes "then") in
    let otherwise = shown_keyword color c.args.next.place (codes "else") in
    same_step c.open.result c.args.self.now c.open.new.self _ _
    (by_role (role_view c.args.role) _ x then otherwise (counts_view c.args.counts) c.requires.role)
    (rw (c.in-Opens.is) c.open.ensures.steps)

pub returns-in-OpensIf-clause-steps : goal.returns-in-OpensIf-clause-steps
returns-in-OpensIf-clause-steps g c =
    let color = c.args.self.now.texts.color in
    let x =
    shown_operator color (setting_with_names g.S.Signatures.signature_at c.args.setting.now c.args.labels.now) c.args.labels.now
    c.args.next.place c.args.next.hint c.args.next.operator.now in
    let then = shown_keyword color c.args.next.place (codes "then") in
    let otherwise = shown_keyword color c.args.next.place (codes "else") in
    same_step c.open_if.result c.args.self.now c.open_if.new.self _ _
    (by_role (role_view c.args.role) _ x then otherwise (counts_view c.args.counts) c.requires.role)
    (rw (c.in-OpensIf.is) c.open_if.ensures.steps)

pub returns-in-Else-clause-steps : goal.returns-in-Else-clause-steps
returns-in-Else-clause-steps g c =
    let color = c.args.self.now.texts.color in
    let x =
    shown_operator color (setting_with_names g.S.Signatures.signature_at c.args.setting.now c.args.labels.now) c.args.labels.now
    c.args.next.place c.args.next.hint c.args.next.operator.now in
    let then = shown_keyword color c.args.next.place (codes "then") in
    let otherwise = shown_keyword color c.args.next.place (codes "else") in
    same_step c.turn.result c.args.self.now c.turn.new.self _ _
    (by_role (role_view c.args.role) _ x then otherwise (counts_view c.args.counts) c.requires.role)
    (rw (c.in-Else.is) c.turn.ensures.steps)

pub returns-in-OpensTry : goal.returns-in-OpensTry
returns-in-OpensTry g c =
    let color = c.args.self.now.texts.color in
    let x =
    shown_operator color (setting_with_names g.S.Signatures.signature_at c.args.setting.now c.args.labels.now) c.args.labels.now
    c.args.next.place c.args.next.hint c.args.next.operator.now in
    let then = shown_keyword color c.args.next.place (codes "then") in
    let otherwise = shown_keyword color c.args.next.place (codes "else") in
    record {
      color = c.end.ensures.color;
      labels = c.end.ensures.labels;
      steps =
          same_step c.end.result c.args.self.now c.end.new.self _ _
          (ends_role c.args.role _ x then otherwise (counts_view c.args.counts) c.in-OpensTry.is c.requires.role) c.end.ensures.steps;
    }
