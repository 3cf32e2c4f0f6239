use Rattle.std.proofs.Common.{rules, ◌≡◌, refl}
use Rattle.wasmprinter_spec.specs.Operator.{Catch, One, OneRef, All, AllRef}
use Rattle.wasmprinter_spec.specs.Instructions.{catch}
use Rattle.wasmprinter_ops.specs.Blocks.{catch_view, catch_of_view}
use Rattle.wasmprinter_ops.proofs.ReadValues.{reads_made}
use Rattle.wasmprinter_ops.proofs.block_immediates.read_catches.Goals as goal

seen_made : (c : Catch) → catch_view (catch_of_view c) ≡ c
seen_made (One tag label) = refl
seen_made (OneRef tag label) = refl
seen_made (All label) = refl
seen_made (AllRef label) = refl

pub returns : goal.returns
returns c = record {
  reads = reads_made catch_of_view catch_view seen_made catch.parse c.args.cursor.now c.read_items.new.cursor c.read_items.result c.read_items.ensures.reads;
  within = search rules;
  end = search rules;
  forward = search rules;
}
