use Rattle.std.proofs.Common.{length, sym, ap, ◌∙◌}
use Rattle.wasmprinter_spec.specs.Placed.{PlacedModule}
use Rattle.wasmprinter_decoder.proofs.Pairing.{length-functions_of}
use Rattle.wasmprinter_decoder.proofs.module.Module.function_count.Goals as goal

pub returns : goal.returns
returns c =
    c.len.ensures ∙ c.self.inside.bodies.ok.0 ∙ sym (length-functions_of c.self.inside.type_indices.items c.self.inside.bodies.items c.self.invariant.0.same)
    ∙ ap (λ (m : PlacedModule). length m.functions) c.self.view_is
