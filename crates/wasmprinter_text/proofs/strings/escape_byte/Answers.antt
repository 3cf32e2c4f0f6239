use Rattle.std.proofs.Common.{sym, ap, ◌∙◌, arith, ◌++◌, take}
use Rattle.wasmprinter_text.proofs.Tables.{three_stored, first_stored, in_digits, as_itself}
use Rattle.wasmprinter_text.proofs.strings.escape_byte.Goals as goal

pub returns-then-beginning-eq92-clause-text : goal.returns-then-beginning-eq92-clause-text
returns-then-beginning-eq92-clause-text c =
    three_stored c.args.escaped.now c.args.len _ _ _ (omega arith)
    ∙ rw (c.beginning_of-beginning.ensures, c.hex_digit.ensures, c.hex_digit-2.ensures) (ap (λ x. take c.args.len c.args.escaped.now ++ x) (sym (in_digits c.args.byte (sym c.beginning_of-beginning.ensures ∙ c.if-beginning-eq92.true))))

pub returns-else-beginning-eq92-clause-text : goal.returns-else-beginning-eq92-clause-text
returns-else-beginning-eq92-clause-text c =
    first_stored c.args.escaped.now c.args.len _ _ _ (omega arith)
    ∙ rw c.beginning_of-beginning.ensures (ap (λ x. take c.args.len c.args.escaped.now ++ x) (sym (as_itself c.args.byte (λ e. c.if-beginning-eq92.false (c.beginning_of-beginning.ensures ∙ e)))))
