use Rattle.std.proofs.Common.{◌≡◌, ℕ, List, map, sym, ap, ◌∙◌}
use Rattle.std.proofs.lemmas.List.{get_or-map}
use Rattle.wasmprinter_spec.specs.Operator.{opcode}
use Rattle.wasmprinter_spec.specs.Row.{Plain}
use Rattle.wasmprinter_spec.specs.Table.{role_of}
use Rattle.wasmprinter_ops.specs.declared.opcode_shapes_arities_and_roles.Role.{Role}
use Rattle.wasmprinter_ops.specs.declared.opcode_shapes_arities_and_roles.Role.TheVariants as roles
use Rattle.wasmprinter_ops.specs.Shapes.{role_view}
use Rattle.wasmprinter_ops.proofs.Dense.{role_within, same_length_lt, same_length_le, role_past}
use Rattle.wasmprinter_ops.proofs.opcode_shapes_arities_and_roles.OpcodeListed.role.Goals as goal

pub returns-in-Some : goal.returns-in-Some
returns-in-Some c =
    let table : List Role = c.roles_of.result.now in
    let n : ℕ = c.self.inside.number in
    let (there, item, must, (lt, at), or_else) = c.in-Some.ensures.lookup in
    let found : role_view c.in-Some.role.now ≡ role_of (opcode c.self.inside.prefix n) =
    ap role_view (at roles.Plain) ∙ sym (get_or-map role_view table n roles.Plain Plain lt)
    ∙ role_within (opcode c.self.inside.prefix n) (map role_view table) c.roles_of.ensures (same_length_lt role_view table n lt) in
    found ∙ ap role_of c.self.view_is

pub returns-in-None : goal.returns-in-None
returns-in-None c =
    let table : List Role = c.roles_of.result.now in
    let n : ℕ = c.self.inside.number in
    let (there, item, must, le, or_else) = c.in-None.ensures.lookup in
    role_past (opcode c.self.inside.prefix n) (map role_view table) c.roles_of.ensures (same_length_le role_view table n le) ∙ ap role_of c.self.view_is
