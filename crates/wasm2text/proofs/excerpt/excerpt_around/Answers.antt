-- The header and the lines around are the excerpt.
use Rattle.std.proofs.Common.{string_bytes}
use Rattle.wasm2text.proofs.ExcerptLines.{excerpt_is}
use Rattle.wasm2text.proofs.excerpt.excerpt_around.Goals as goal

pub returns : goal.returns
returns c =
    excerpt_is c.args.lines.now c.args.shown c.args.header c.in_ok-window.window (string_bytes c.new-text.result) (string_bytes c.push_header.new.text)
    (string_bytes c.push_lines.new.text) c.in_ok-window.ensures c.new-text.ensures.bytes c.in_ok-push_header.ensures c.in_ok-push_lines.ensures
