use Rattle.std.proofs.Common.{sym, ◌∙◌, ◌≡◌, true, chars}
use Rattle.wasmprinter_spec.specs.Quoted.{is_id}
use Rattle.wasmprinter_text.proofs.Runs.{bytes-is_id, plain-chars}
use Rattle.wasmprinter_text.proofs.identifiers.write_content.Goals as goal

pub returns-then-is_id : goal.returns-then-is_id
returns-then-is_id g c =
    let run : is_id (chars c.args.content.now) ≡ true = sym (bytes-is_id c.args.content.now c.utf8.content) ∙ sym c.is_id.ensures ∙ c.if-is_id.true in
    rw (run, plain-chars c.args.content.now c.utf8.content run) c.write_str.ensures

pub returns-else-is_id : goal.returns-else-is_id
returns-else-is_id g c =
    rw (sym (bytes-is_id c.args.content.now c.utf8.content) ∙ sym c.is_id.ensures ∙ c.if-is_id.false) c.write_in_quotes.ensures
