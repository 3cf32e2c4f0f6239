-- The first code section is the only one, and a module with functions has one.
use Rattle.wasm2text.proofs.CodeOfModules.{functions_have_code}
use Rattle.wasm2text.proofs.CodeSections.{unique}
use Rattle.wasm2text.proofs.code_section.code_starts_once.Goals as goal

pub returns-clause-unique : goal.returns-clause-unique
returns-clause-unique c = unique

pub returns-clause-exists : goal.returns-clause-exists
returns-clause-exists c = functions_have_code
