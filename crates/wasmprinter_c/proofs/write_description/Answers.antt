use Rattle.wasmprinter_c.proofs.Texts.{described}
use Rattle.wasmprinter_c.proofs.write_description.Goals as goal

pub returns-clause-same_buffer : goal.returns-clause-same_buffer
returns-clause-same_buffer c =
    (described c.args.copier.now c.describe.new.copier c.describe.result c.args.status c.args.detail c.requires.no_text c.requires.no_event c.requires.roomy c.describe.ensures).same_buffer

pub returns-clause-same_table : goal.returns-clause-same_table
returns-clause-same_table c =
    (described c.args.copier.now c.describe.new.copier c.describe.result c.args.status c.args.detail c.requires.no_text c.requires.no_event c.requires.roomy c.describe.ensures).same_table

pub returns-clause-copied : goal.returns-clause-copied
returns-clause-copied c =
    (described c.args.copier.now c.describe.new.copier c.describe.result c.args.status c.args.detail c.requires.no_text c.requires.no_event c.requires.roomy c.describe.ensures).copied

pub returns-clause-counted : goal.returns-clause-counted
returns-clause-counted c =
    (described c.args.copier.now c.describe.new.copier c.describe.result c.args.status c.args.detail c.requires.no_text c.requires.no_event c.requires.roomy c.describe.ensures).counted
