use Rattle.std.proofs.Common.{◌≡◌, ℕ, List, map, sym, ap, ◌∙◌, Option, None}
use Rattle.std.specs.Borrow.{Bor}
use Rattle.std.proofs.lemmas.List.{get_or-map}
use Rattle.wasmprinter_spec.specs.Operator.{opcode}
use Rattle.wasmprinter_ops.specs.declared.opcode_shapes_arities_and_roles.Shape.{Shape}
use Rattle.wasmprinter_ops.specs.declared.opcode_shapes_arities_and_roles.Arity.{Arity}
use Rattle.wasmprinter_ops.specs.Shapes.{entry_view}
use Rattle.wasmprinter_ops.specs.ByNumber.{entry_of}
use Rattle.wasmprinter_ops.proofs.Dense.{entry_within, same_length_lt, same_length_le, entry_past}
use Rattle.wasmprinter_ops.proofs.opcode_shapes_arities_and_roles.Opcode.entry.Goals as goal

pub returns-in-Some : goal.returns-in-Some
returns-in-Some c =
    let table : List (Option (Bor (List ℕ) × Shape × Arity)) = c.entries_of.result.now in
    let n : ℕ = c.self.inside.number in
    let (there, item, must, (lt, at), or_else) = c.in-Some.ensures.lookup in
    let found : entry_view c.in-Some.entry.now ≡ entry_of (opcode c.self.inside.prefix n) =
    ap entry_view (at None) ∙ sym (get_or-map entry_view table n None None lt)
    ∙ entry_within (opcode c.self.inside.prefix n) (map entry_view table) c.entries_of.ensures (same_length_lt entry_view table n lt) in
    found ∙ ap entry_of c.self.view_is

pub returns-in-None : goal.returns-in-None
returns-in-None c =
    let table : List (Option (Bor (List ℕ) × Shape × Arity)) = c.entries_of.result.now in
    let n : ℕ = c.self.inside.number in
    let (there, item, must, le, or_else) = c.in-None.ensures.lookup in
    entry_past (opcode c.self.inside.prefix n) (map entry_view table) c.entries_of.ensures (same_length_le entry_view table n le) ∙ ap entry_of c.self.view_is
