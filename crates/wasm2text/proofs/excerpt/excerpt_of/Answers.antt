-- The lines are those of the module's text.
use Rattle.std.proofs.Common.{string_bytes, arith}
use Rattle.wasm2text.proofs.Excerpts.{starts_at_zero, excerpt_of_text}
use Rattle.wasm2text.proofs.excerpt.excerpt_of.Goals as goal

pub excerpt_of_lines-requires : goal.excerpt_of_lines-requires
excerpt_of_lines-requires c = starts_at_zero c.args.config.now c.args.wasm.now _ _ _ c.in_ok-lines.ensures.lines

pub returns-clause-shown : goal.returns-clause-shown
returns-clause-shown c =
    excerpt_of_text c.args.config.now c.args.wasm.now (string_bytes c.new-storage.result) c.in_ok-lines.lines.storage c.in_ok-lines.lines.lines c.args.target c.in-Some.offset
    (string_bytes c.in_ok-excerpt_of_lines.field-0) c.new-storage.ensures.bytes c.in_ok-lines.ensures.lines c.in-Some.ensures
    (omega (arith, c.if-offset-len.false)) (omega arith)
    c.in_ok-excerpt_of_lines.ensures
