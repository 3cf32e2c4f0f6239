use Rattle.wasmprinter_laws.proofs.Names.Listing.{name_maps_end_at_the_first_error}
use Rattle.wasmprinter_laws.proofs.names_and_identifiers.name_maps_end_at_the_first_error.Goals as goal

pub returns : goal.returns
returns c = name_maps_end_at_the_first_error
