-- The calls on which a tracker loses no line.
use Rattle.std.specs.Prelude.{◌≡◌, ℕ, List, ◌++◌, false}
use Rattle.wasmprinter_spec.specs.Placed.{PlacedModule}
use Rattle.wasmprinter_spec.specs.Call.{Call, atoms}
use Rattle.wasmprinter_spec.specs.Options.{Options, Answers}
use Rattle.wasmprinter_spec.specs.Layout.{layout}
use Rattle.wasmprinter_spec.specs.Meaning.{Run}
use Rattle.wasmprinter_writers.specs.Tracked.{Tracked, without_lines}
use Rattle.wasmprinter_writers.specs.Tracking.{tracked_meaning}

-- If the calls on a tracker without lines, with any text `base`, are those of a module, or a prefix of them, up to how
-- text is split into calls, then no line is lost. (`rest` are the calls after the prefix, with text split into bytes.)
-- This holds for all options, answers and modules, and also if the calls end where an allocation failed.
abbrev pub NoLineLost : Type 0
NoLineLost =
    (o : Options) (answers : Answers) (m : PlacedModule) (base : List ℕ) (calls rest : List Call) (t : Tracked) →
    Run tracked_meaning (without_lines base) calls t → atoms calls ++ rest ≡ atoms (layout o answers m) → t.lost ≡ false
