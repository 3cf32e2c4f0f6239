use Rattle.std.proofs.Common.{◌≡◌, sym, ap, ◌∙◌}
use Rattle.wasmprinter_spec.specs.Placed.{PlacedModule}
use Rattle.wasmprinter_decoder.specs.Modules.{bodies_of}
use Rattle.wasmprinter_decoder.proofs.Pairing.{bodies-functions_of, body_within, body_past}
use Rattle.wasmprinter_decoder.proofs.module.Module.body.Goals as goal

pub returns-in-Some : goal.returns-in-Some
returns-in-Some c =
    let are : bodies_of c.args.self.now.functions ≡ c.deref.result.now =
    ap (λ (m : PlacedModule). bodies_of m.functions) (sym c.self.view_is)
    ∙ bodies-functions_of c.self.inside.type_indices.items c.self.inside.bodies.items c.self.invariant.0.same ∙ sym c.deref.ensures.value in
    let (there, item, must, (lt, at), or_else) = c.in-Some.ensures.lookup in
    body_within c.args.self.now.functions c.deref.result.now c.args.i c.in-Some.body.now c.fork.result are lt item c.fork.ensures

pub returns-in-None : goal.returns-in-None
returns-in-None c =
    let are : bodies_of c.args.self.now.functions ≡ c.deref.result.now =
    ap (λ (m : PlacedModule). bodies_of m.functions) (sym c.self.view_is)
    ∙ bodies-functions_of c.self.inside.type_indices.items c.self.inside.bodies.items c.self.invariant.0.same ∙ sym c.deref.ensures.value in
    let (there, item, must, le, or_else) = c.in-None.ensures.lookup in
    body_past c.args.self.now.functions c.deref.result.now c.args.i are le
