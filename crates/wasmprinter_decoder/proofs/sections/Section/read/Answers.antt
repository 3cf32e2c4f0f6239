use Rattle.wasmprinter_decoder.proofs.Contents.{section_taken_by}
use Rattle.wasmprinter_decoder.proofs.sections.Section.read.Goals as goal

pub returns-clause-reads : goal.returns-clause-reads
returns-clause-reads c =
    section_taken_by c.args.cursor.now c.u8.new.self c.u32.new.self c.in_ok-part.part c.part.new.self c.in_ok-id.id c.in_ok-size.size c.in_ok-id.ensures.reads c.in_ok-size.ensures.reads
    c.in_ok-part.ensures.decodes.reads c.in_ok-part.ensures.place c.place-place.result c.place-place.ensures c.read_content.result c.read_content.ensures
