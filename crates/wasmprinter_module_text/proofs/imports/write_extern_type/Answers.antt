use Rattle.std.proofs.Common.{◌≡◌, ap, ◌∙◌}
use Rattle.wasmprinter_spec.specs.Layout.Exports.{kind_word}
use Rattle.wasmprinter_spec.specs.Layout.Groups.{line_group_space}
use Rattle.wasmprinter_decoder.specs.Externs.{extern_view, kind_of_type}
use Rattle.wasmprinter_module_text.specs.Scopes.{scope_view}
use Rattle.wasmprinter_module_text.proofs.ImportLines.{extern-group}
use Rattle.wasmprinter_module_text.proofs.imports.write_extern_type.Goals as goal

pub returns : goal.returns
unfolding line_group_space
returns g c =
    let law = g.met.O.Output in
    let keyword : c.kind_word.result.now ≡ kind_word (kind_of_type (extern_view c.args.extern_type)) = c.kind_word.ensures ∙ ap kind_word c.kind.ensures in
    rw (extern-group (scope_view g.O.Output.chosen c.args.scope.now) c.args.number (extern_view c.args.extern_type))
    (law.piece_then _ _ _ _ _ (rw keyword at c.open_group_space.ensures) (law.pieces_then _ _ _ _ _ c.write_extern_parts.ensures c.write_close_paren.ensures))
