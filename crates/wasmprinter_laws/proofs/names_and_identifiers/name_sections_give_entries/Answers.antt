use Rattle.wasmprinter_laws.proofs.Names.Fits.{bytes_give_entries}
use Rattle.wasmprinter_laws.proofs.names_and_identifiers.name_sections_give_entries.Goals as goal

pub returns : goal.returns
returns c = bytes_give_entries
