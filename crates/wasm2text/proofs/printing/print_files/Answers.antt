-- Each file ends in its own way. The failures are reported in the order of the files.
use Rattle.std.proofs.Common.{ℕ, List, ◌++◌, map, max, sym, ap₂, ◌∙◌, subst, append_assoc, append-nil}
use denote.Ref.{Bor}
use Rattle.wasm2text.specs.Outcome.{Reads, series, style_choice, writer, PrintsEach}
use Rattle.wasm2text.proofs.Files.{reports_both, status_both, next_file, last_file, all_files}
use Rattle.wasm2text.proofs.printing.print_files.Goals as goal

pub returns-then-not-goes_on : goal.returns-then-not-goes_on
returns-then-not-goes_on g c =
    let so_far = c.loop-file.invariant in
    let noted = c.note-last.ensures in
    let p = series (Reads g.I.Inputs.reads g.I.Inputs.reads_input) (style_choice c.args.style)
    (writer g.O.Output.takes g.O.Output.flushes g.O.Output.uncreated) in
    let names : List (List ℕ) = map (λ (f : Bor (List ℕ)). f.now) c.args.files.now in (
      so_far.0 ++ noted.0,
      last_file p c.loop-file.inputs c.print_file-ended.new.inputs c.loop-file.out c.print_file-ended.result.1 c.args.files.now c.loop-file.file-index _
          (λ others after new. PrintsEach p c.args.inputs.now c.args.out names (so_far.0 ++ others) after new) c.print_file-ended.result.0 noted.0
          c.note-last.result.1 c.loop-file-test.true c.if-not-goes_on.true so_far.3 c.print_file-ended.ensures noted.1,
      reports_both g.E.Messages.sends c.args.err.now c.loop-file.err c.note-last.new.err so_far.0 noted.0 so_far.1 noted.2,
      c.max-status.ensures ∙ ap₂ max so_far.2 noted.3 ∙ sym (status_both so_far.0 noted.0),
    )

pub loop-file-preserved : goal.loop-file-preserved
loop-file-preserved g c =
    let so_far = c.loop-file.invariant in
    let noted = c.note-last.ensures in
    let p = series (Reads g.I.Inputs.reads g.I.Inputs.reads_input) (style_choice c.args.style)
    (writer g.O.Output.takes g.O.Output.flushes g.O.Output.uncreated) in
    let names : List (List ℕ) = map (λ (f : Bor (List ℕ)). f.now) c.args.files.now in (
      so_far.0 ++ noted.0,
      reports_both g.E.Messages.sends c.args.err.now c.loop-file.err c.note-last.new.err so_far.0 noted.0 so_far.1 noted.2,
      c.max-status.ensures ∙ ap₂ max so_far.2 noted.3 ∙ sym (status_both so_far.0 noted.0),
      λ others after new h. subst (λ fs. PrintsEach p c.args.inputs.now c.args.out names fs after new) (sym (append_assoc so_far.0 noted.0 others))
          (next_file p c.loop-file.inputs c.print_file-ended.new.inputs c.loop-file.out c.print_file-ended.result.1 c.args.files.now c.loop-file.file-index
          _ (λ others after new. PrintsEach p c.args.inputs.now c.args.out names (so_far.0 ++ others) after new) c.print_file-ended.result.0 noted.0
          c.note-last.result.1 c.loop-file-test.true c.if-not-goes_on.false so_far.3 c.print_file-ended.ensures noted.1 others after new h),
    )

pub returns : goal.returns
returns g c =
    let so_far = c.loop-file.invariant in
    let p = series (Reads g.I.Inputs.reads g.I.Inputs.reads_input) (style_choice c.args.style)
    (writer g.O.Output.takes g.O.Output.flushes g.O.Output.uncreated) in
    let names : List (List ℕ) = map (λ (f : Bor (List ℕ)). f.now) c.args.files.now in (
      so_far.0,
      subst (λ fs. PrintsEach p c.args.inputs.now c.args.out names fs c.loop-file.inputs c.loop-file.out) (append-nil so_far.0)
          (all_files p c.loop-file.inputs c.loop-file.out c.args.files.now c.loop-file.file-index
          (λ others after new. PrintsEach p c.args.inputs.now c.args.out names (so_far.0 ++ others) after new) c.loop-file-test.false so_far.3),
      so_far.1,
      so_far.2,
    )
