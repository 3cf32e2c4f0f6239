use Rattle.wasmprinter_laws.proofs.Lines.Fed.{lines_after_feeds}
use Rattle.wasmprinter_laws.proofs.line_places.lines_begin_after_feeds.Goals as goal

pub returns : goal.returns
returns c = lines_after_feeds
