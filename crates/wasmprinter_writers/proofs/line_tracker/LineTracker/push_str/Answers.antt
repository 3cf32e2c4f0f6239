use Rattle.std.proofs.Common.{◌≡◌, ap, ◌∙◌}
use Rattle.std.specs.Prelude.{is_some, false}
use Rattle.std.specs.String.{string_bytes}
use Rattle.std.proofs.lemmas.Str.{IsUtf8-string_bytes}
use Rattle.wasmprinter_writers.specs.Tracked.{Tracked, with_text}
use Rattle.wasmprinter_writers.proofs.CutLaws.{AreLineStarts-pushed, tracked_of-pushed}
use Rattle.wasmprinter_writers.proofs.line_tracker.LineTracker.push_str.Goals as goal

pub invariant_of-self-2 : goal.invariant_of-self-2
invariant_of-self-2 c =
    let entered : is_some c.self.inside.waiting ≡ false = ap (λ (t : Tracked). t.new_line) (c.self.view_is ∙ c.in_ok-enter.ensures.ok) in
    AreLineStarts-pushed c.self.inside.starts.items c.self.inside.waiting (string_bytes c.self.inside.text) c.args.piece.now
    (string_bytes c.push_str.new.self) (IsUtf8-string_bytes c.self.inside.text) c.utf8.piece entered
    c.in_ok-push_str.ensures.bytes c.self.invariant

pub returns-clause-ok : goal.returns-clause-ok
returns-clause-ok c =
    let entered : is_some c.self.inside.waiting ≡ false = ap (λ (t : Tracked). t.new_line) (c.self.view_is ∙ c.in_ok-enter.ensures.ok) in
    tracked_of-pushed (string_bytes c.self.inside.text) c.args.piece.now (string_bytes c.push_str.new.self) c.self.inside.starts.items
    c.self.inside.waiting c.self.inside.lost entered c.in_ok-push_str.ensures.bytes c.self.invariant
    ∙ ap (λ (t : Tracked). with_text t c.args.piece.now) (c.self.view_is ∙ c.in_ok-enter.ensures.ok)
