-- The module and the extents of its sections are those that the bytes encode.
use Rattle.wasmprinter_hidden.proofs.FindingsOnce.{unique, exists}
use Rattle.wasmprinter_hidden.proofs.hidden_bytes.findings_are_unique.Goals as goal

pub returns-clause-unique : goal.returns-clause-unique
returns-clause-unique c = unique

pub returns-clause-exists : goal.returns-clause-exists
returns-clause-exists c = exists
