use Rattle.std.proofs.Common.{rules, refl, sym, ◌∙◌}
use Rattle.wasmprinter_decoder.proofs.TableEntries.{plain_entry, initialised_entry}
use Rattle.wasmprinter_decoder.proofs.tables.TableGrownIn.read.Goals as goal

pub returns-then-first-eq-WITH_INIT : goal.returns-then-first-eq-WITH_INIT
returns-then-first-eq-WITH_INIT c = record {
  reads =
      initialised_entry (λ x. x) c.args.cursor.now c.read_initialised.new.cursor c.in-Some.first (sym c.peek.ensures ∙ c.in-Some.is) c.if-first-eq-WITH_INIT.true
      c.read_initialised.result c.read_initialised.ensures.reads;
  end = search rules;
  forward = search rules;
}

pub returns : goal.returns
returns c = record {
  reads = plain_entry c.args.cursor.now c.in-Some.first (sym c.peek.ensures ∙ c.in-Some.is) c.if-first-eq-WITH_INIT.false ∙ rw (c.in_ok-ty.ensures.reads, c.place-place.ensures) refl;
  end = search rules;
  forward = search rules;
}
