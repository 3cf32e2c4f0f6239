-- Line starts in the calls of a layout.
use Rattle.std.specs.Prelude.{◌≡◌, ℕ, List, ◌∷◌, ◌++◌, Option}
use Rattle.wasmprinter_spec.specs.Placed.{PlacedModule}
use Rattle.wasmprinter_spec.specs.Call.{Call, Newline, Line}
use Rattle.wasmprinter_spec.specs.Options.{Options, Answers}
use Rattle.wasmprinter_spec.specs.Layout.{layout}

-- Each `Line` call except the first call directly follows a `Newline` call. So no `Line` call directly follows
-- another. This holds for all options, answers and modules, and for the calls before a refusal.
abbrev pub LinesBeginAfterFeeds : Type 0
LinesBeginAfterFeeds =
    (o : Options) (answers : Answers) (m : PlacedModule) (before after : List Call) (c : Call) (place : Option ℕ) →
    layout o answers m ≡ before ++ (c ∷ (Line place ∷ after)) → c ≡ Newline
