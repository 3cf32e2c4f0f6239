use Rattle.wasmprinter_laws.proofs.Lines.FunctionLines.{function_lines}
use Rattle.wasmprinter_laws.proofs.line_places.functions_have_lines.Goals as goal

pub returns : goal.returns
returns c = function_lines
