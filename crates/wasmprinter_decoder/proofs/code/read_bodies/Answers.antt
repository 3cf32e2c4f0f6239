use Rattle.std.proofs.Common.{arith, refl}
use Rattle.std.proofs.lemmas.Result.{err_from_is_err_and}
use Rattle.wasmprinter_spec.specs.Repeated.{items_at}
use Rattle.wasmprinter_spec.specs.Binary.Code.{code_entry}
use Rattle.wasmprinter_bytes.proofs.Fronts.{front_more}
use Rattle.wasmprinter_decoder.proofs.LaterPlaces.{later_none, later_more}
use Rattle.wasmprinter_decoder.proofs.Listing.{few-push, bodies_fault, front_start}
use Rattle.wasmprinter_decoder.proofs.code.read_bodies.Goals as goal

pub loop-init : goal.loop-init
loop-init c = record {
  rest = rw c.new-bodies.ensures.items (front_start c.in_ok-count.count c.u32.new.self c.u32.new.self refl);
  end = refl;
  forward = omega arith;
  few = rw c.new-bodies.ensures.items tt;
  later = later_none c.u32.new.self;
}

pub loop-preserved : goal.loop-preserved
loop-preserved c = record {
  rest = rw c.in_ok-push.ensures.items
      (front_more code_entry.parse c.loop.bodies.items c.in_ok-count.count c.loop.counter c.loop.cursor c.in_ok-read_entry.field-0 c.read_entry.new.cursor
      (items_at code_entry.parse c.in_ok-count.count c.u32.new.self) (omega arith) c.in_ok-read_entry.ensures.reads.0 c.loop.invariant.rest);
  end = omega (arith, c.in_ok-read_entry.ensures.end, c.loop.invariant.end);
  forward = omega (arith, c.in_ok-read_entry.ensures.forward, c.loop.invariant.forward);
  few = rw c.in_ok-push.ensures.items (few-push c.loop.bodies.items c.in_ok-read_entry.field-0 c.loop.invariant.few c.in_ok-read_entry.ensures.reads.1);
  later = later_more code_entry c.u32.new.self c.loop.cursor c.read_entry.new.cursor c.in_ok-read_entry.field-0 c.in_ok-read_entry.ensures.reads.0 c.loop.invariant.later;
}

pub returns-in_err-read_entry-clause-reads : goal.returns-in_err-read_entry-clause-reads
returns-in_err-read_entry-clause-reads c =
    let (fault, failed, is) = err_from_is_err_and c.from_residual-in_err-read_entry.result c.from_residual-in_err-read_entry.ensures.1 in
    rw (failed, is)
    (bodies_fault c.args.cursor.now c.u32.new.self c.loop.cursor c.in_ok-count.count c.loop.counter c.loop.bodies.items
    c.in_ok-count.ensures.reads (omega arith) c.loop.invariant.rest c.loop.invariant.later
    (omega (arith, c.loop.invariant.end, c.in_ok-count.ensures.end)) (omega (arith, c.loop.invariant.forward, c.in_ok-count.ensures.forward))
    c.loop.invariant.few c.in_err-read_entry.field-0.0 c.in_err-read_entry.ensures.reads)
