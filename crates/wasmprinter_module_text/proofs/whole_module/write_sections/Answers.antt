use Rattle.std.proofs.Common.{ap, sym, length, suc, ◌∷◌, [], ◌∙◌, List, refl}
use Rattle.wasmprinter_spec.specs.Kinds.{Kind}
use Rattle.wasmprinter_module_text.specs.Scopes.{scope_view}
use Rattle.wasmprinter_module_text.proofs.SectionWalk.{kinds-next, kinds-none, sections-next, sections-none}
use Rattle.wasmprinter_module_text.proofs.whole_module.write_sections.Goals as goal

pub loop-kind-init : goal.loop-kind-init
loop-kind-init g c =
    let (first, before) = c.write_customs.ensures in
    record {
      left = λ t rest many w. (first, rest, many, g.met.O.Output.parts_then _ _ _ _ _ (rw c.customs.ensures at before) w);
      scope = refl;
    }

pub loop-kind-preserved : goal.loop-kind-preserved
loop-kind-preserved g c =
    let o = g.O.Output.chosen in
    let law = g.met.O.Output in
    let step = kinds-next c.loop-kind.kind-index c.loop-kind-test.true in
    let (a, customs) = c.write_customs-in-loop-kind.ensures in
    let written = law.part_then _ _ _ _ _ (law.part_of _ _ _ (rw c.loop-kind.invariant.scope at c.write_fields_of.ensures.pieces)) (rw c.customs-in-loop-kind.ensures at customs) in
    record {
      left = λ t rest many w. c.loop-kind.invariant.left t (a ∷ rest) (ap suc many ∙ sym (ap (λ (ks : List Kind). length ks) step))
          (rw (sections-next o (scope_view o c.args.scope.now) c.args.module.now a rest _ _ _ step) (law.parts_then _ _ _ _ _ written w));
      scope = c.write_fields_of.ensures.scope ∙ c.loop-kind.invariant.scope;
    }

pub returns : goal.returns
returns g c =
    let o = g.O.Output.chosen in
    let none = kinds-none c.loop-kind.kind-index c.loop-kind-test.false in
    c.loop-kind.invariant.left _ [] (sym (ap (λ (ks : List Kind). length ks) none)) (rw (sections-none o (scope_view o c.args.scope.now) c.args.module.now _ none) (g.met.O.Output.no_part _))
