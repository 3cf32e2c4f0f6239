-- The word is the value of an option, or a file after `--`.
use Rattle.std.proofs.lemmas.Result.{err_from_is_err_and}
use Rattle.std.proofs.Common.{refl}
use Rattle.wasm2text.specs.declared.parser.Next.TheVariants.{Argument as AnyArgument}
use Rattle.wasm2text.proofs.CommandLines.{reads_file, reads_value, refuses_value}
use Rattle.wasm2text.proofs.parser.Parser.read.Goals as goal

pub returns-in_err-set-in-Value : goal.returns-in_err-set-in-Value
returns-in_err-set-in-Value c words h =
    let p = err_from_is_err_and c.from_residual.result c.from_residual.ensures.1 in
    let refused = c.in_err-set-in-Value.ensures in
    rw (p.1, p.2, refused.0)
    (λ after. refuses_value c.args.self.now c.in-Value.setting c.in-Value.field-1 c.args.word words after c.in-Value.is h refused.1)

pub returns-in_ok-set-in-Value : goal.returns-in_ok-set-in-Value
returns-in_ok-set-in-Value c words h =
    let set = c.in_ok-set-in-Value.ensures in
    reads_value c.args.self.now (record c.set.new.self { next = AnyArgument }) c.in-Value.setting c.in-Value.field-1 c.args.word.now set.0 words
    c.in-Value.is refl set.2.0 set.1 h

pub returns-in_ok-add_file-in-File : goal.returns-in_ok-add_file-in-File
returns-in_ok-add_file-in-File c words h =
    reads_file c.args.self.now (record c.args.self.now { request = c.add_file.new.self }) c.args.word.now words c.in-File.is c.in-File.is
    c.in_ok-add_file-in-File.ensures h
