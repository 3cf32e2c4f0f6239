-- The result for the bytes that reading returned is the result for the file.
use Rattle.std.proofs.Common.{rules, Some}
use Rattle.printwasm.proofs.Texts.{gives_text, gives_no_text}
use Rattle.printwasm.proofs.program.text_of_file.Goals as goal

pub returns-clause-printed : goal.returns-clause-printed
returns-clause-printed g c =
    let gave : g.S.Source.may_read c.args.source.now c.args.file.now (Some c.in_ok-wasm.wasm.items) = search rules in
    gives_text c.args.choice.now (λ t. t.items) (g.S.Source.may_read c.args.source.now c.args.file.now) c.in_ok-wasm.wasm.items c.text_of.result gave (rw c.deref.ensures.value at c.text_of.ensures.printed)

pub returns-clause-refused : goal.returns-clause-refused
returns-clause-refused g c =
    let gave : g.S.Source.may_read c.args.source.now c.args.file.now (Some c.in_ok-wasm.wasm.items) = search rules in
    gives_no_text c.args.choice.now (g.S.Source.may_read c.args.source.now c.args.file.now) c.in_ok-wasm.wasm.items c.text_of.result gave (rw c.deref.ensures.value at c.text_of.ensures.refused)
    (rw c.deref.ensures.value at c.text_of.ensures.component)
