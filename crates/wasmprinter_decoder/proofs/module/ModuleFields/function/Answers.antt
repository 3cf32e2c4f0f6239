use Rattle.std.proofs.Common.{◌≡◌, ◌<◌, ℕ, length, Some, arith, sym, ap, ap₂, ◌∙◌}
use Rattle.std.specs.Prelude.{slice_get}
use Rattle.wasmprinter_spec.specs.Grammar.{Placed}
use Rattle.wasmprinter_spec.specs.Placed.{Body, PlacedModule}
use Rattle.wasmprinter_decoder.proofs.Pairing.{length-functions_of}
use Rattle.wasmprinter_decoder.proofs.FunctionLists.{function-at}
use Rattle.wasmprinter_decoder.proofs.module.ModuleFields.function.Goals as goal

pub index-requires : goal.index-requires
index-requires c =
    let count : length c.args.self.now.functions ≡ length c.self.inside.bodies.items =
    ap (λ (m : PlacedModule). length m.functions) (sym c.self.view_is) ∙ length-functions_of c.self.inside.type_indices.items c.self.inside.bodies.items c.self.invariant.0.same in
    omega (arith, count, c.self.inside.type_indices.ok.0, c.self.invariant.0.same)

pub index-requires-2 : goal.index-requires-2
index-requires-2 c =
    let count : length c.args.self.now.functions ≡ length c.self.inside.bodies.items =
    ap (λ (m : PlacedModule). length m.functions) (sym c.self.view_is) ∙ length-functions_of c.self.inside.type_indices.items c.self.inside.bodies.items c.self.invariant.0.same in
    omega (arith, count, c.self.inside.bodies.ok.0)

pub returns : goal.returns
returns c =
    let count : length c.args.self.now.functions ≡ length c.self.inside.bodies.items =
    ap (λ (m : PlacedModule). length m.functions) (sym c.self.view_is) ∙ length-functions_of c.self.inside.type_indices.items c.self.inside.bodies.items c.self.invariant.0.same in
    let within : c.args.number < length c.self.inside.type_indices.items = omega (arith, count, c.self.invariant.0.same) in
    ap (λ (m : PlacedModule). slice_get m.functions c.args.number) (sym c.self.view_is)
    ∙ function-at c.self.inside.type_indices.items c.self.inside.bodies.items c.args.number c.index.result.now c.index-2.result.now c.self.invariant.0.same within
    ∙ ap₂ (λ (i : ℕ) (b : Placed Body). Some (record { type_index = i; body = b })) (sym c.index.ensures) (sym c.index-2.ensures ∙ sym c.fork.ensures)
