use Rattle.wasmprinter_spec.specs.Layout.Operators.{catch_pieces}
use Rattle.wasmprinter_flat.proofs.block_immediates.write_catch.Goals as goal

pub returns-in-One : goal.returns-in-One
unfolding catch_pieces
returns-in-One g c = rw c.in-One.is c.write_tagged.ensures

pub returns-in-OneRef : goal.returns-in-OneRef
unfolding catch_pieces
returns-in-OneRef g c = rw c.in-OneRef.is c.write_tagged-in-OneRef.ensures

pub returns-in-All : goal.returns-in-All
unfolding catch_pieces
returns-in-All g c = rw c.in-All.is c.write_untagged.ensures

pub returns-in-AllRef : goal.returns-in-AllRef
unfolding catch_pieces
returns-in-AllRef g c = rw c.in-AllRef.is c.write_untagged-in-AllRef.ensures
