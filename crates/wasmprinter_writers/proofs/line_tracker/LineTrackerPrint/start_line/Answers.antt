use Rattle.std.proofs.Common.{sym, ◌∙◌, ap, refl}
use Rattle.std.specs.String.{string_bytes}
use Rattle.wasmprinter_writers.specs.Tracked.{Tracked, with_line}
use Rattle.wasmprinter_writers.proofs.CutLaws.{AreLineStarts-begun, tracked_of-begun}
use Rattle.wasmprinter_writers.proofs.line_tracker.LineTrackerPrint.start_line.Goals as goal

pub invariant_of-self-else-is_some : goal.invariant_of-self-else-is_some
invariant_of-self-else-is_some c =
    AreLineStarts-begun c.self.inside.starts.items c.self.inside.waiting (string_bytes c.self.inside.text) c.args.binary_offset
    (sym c.is_some.ensures ∙ c.if-is_some.false) c.self.invariant

pub returns-else-is_some : goal.returns-else-is_some
returns-else-is_some c = record {
  step = (
    tracked_of-begun (string_bytes c.self.inside.text) c.self.inside.starts.items c.self.inside.waiting c.self.inside.lost c.args.binary_offset
        (sym c.is_some.ensures ∙ c.if-is_some.false) c.self.invariant
        ∙ ap (λ (t : Tracked). with_line t c.args.binary_offset) c.self.view_is,
    tt,
  );
  kept = refl;
}
