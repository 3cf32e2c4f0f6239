use Rattle.std.proofs.Common.{◌≡◌, ◌∷◌, ◌-◌, ◌<◌, rules, length, List, sym, ap, ◌∙◌, arith}
use Rattle.wasmprinter_spec.specs.Types.{SubType}
use Rattle.wasmprinter_bytes.specs.Items.{items_of}
use Rattle.wasmprinter_spec.specs.Binary.Types.{subtype}
use Rattle.wasmprinter_bytes.proofs.ItemsInBytes.{items_of-first, HasItems-rest}
use Rattle.wasmprinter_ops.proofs.composite_types.SubTypesIterator.next.Goals as goal

pub invariant_of-self : goal.invariant_of-self
invariant_of-self c = HasItems-rest subtype.parse c.self.inside.left c.self.inside.cursor c.in-Ok.sub_type c.read.new.cursor c.if-self-eq0.false c.in-Ok.ensures.reads c.self.invariant

pub returns-clause-steps : goal.returns-clause-steps
returns-clause-steps c = sym c.self.view_is ∙ items_of-first subtype.parse c.self.inside.left c.self.inside.cursor c.in-Ok.sub_type c.read.new.cursor c.if-self-eq0.false c.in-Ok.ensures.reads

pub returns-clause-goes : goal.returns-clause-goes
returns-clause-goes c =
    let rest : List SubType = items_of subtype.parse (c.self.inside.left - 1) c.read.new.cursor in
    let first : c.args.self.now ≡ c.in-Ok.sub_type ∷ rest =
    sym c.self.view_is ∙ items_of-first subtype.parse c.self.inside.left c.self.inside.cursor c.in-Ok.sub_type c.read.new.cursor c.if-self-eq0.false c.in-Ok.ensures.reads in
    let fewer : length rest < length c.args.self.now = omega (arith, ap length first) in
    search rules
