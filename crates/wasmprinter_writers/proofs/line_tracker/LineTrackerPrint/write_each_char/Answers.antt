use Rattle.wasmprinter_print.specs.MadeLaws.{does}
use Rattle.wasmprinter_writers.specs.Tracking.{tracked_meaning}
use Rattle.wasmprinter_writers.proofs.line_tracker.LineTrackerPrint.write_each_char.Goals as goal

pub returns-then-has_room : goal.returns-then-has_room
returns-then-has_room c = does tracked_meaning c.write_str.result _ c.write_str.ensures
