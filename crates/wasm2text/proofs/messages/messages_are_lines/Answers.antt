-- The law is that of failures and of errors of the command line.
use Rattle.wasm2text.proofs.Lines.{failure_is_line, misuse_is_line}
use Rattle.wasm2text.proofs.messages.messages_are_lines.Goals as goal

pub returns : goal.returns
returns c = (failure_is_line, misuse_is_line)
