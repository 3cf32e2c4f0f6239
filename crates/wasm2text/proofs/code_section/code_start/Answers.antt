-- The sections before the code section are passed over, one after the other.
use Rattle.std.proofs.Common.{◌≡◌, ◌++◌, Some, sym, subst, ◌∙◌, ap}
use Rattle.std.proofs.lemmas.Bool.Decides.{Decides-eqb}
use Rattle.std.proofs.lemmas.Slice.Eq.{strip_prefix_is}
use Rattle.wasmprinter_spec.specs.Binary.{preamble_bytes}
use Rattle.wasm2text.specs.CodeSection.{HasCodeAt}
use Rattle.wasm2text.proofs.CodeSections.{skips, goes_back, is_here, ends, of_sections}
use Rattle.wasm2text.proofs.code_section.code_start.Goals as goal

pub returns-then-section-eq-CODE : goal.returns-then-section-eq-CODE
returns-then-section-eq-CODE c =
    let sections = c.in_ok-sections.sections.now in
    let joined : c.args.wasm.now ≡ preamble_bytes ++ sections =
    strip_prefix_is Decides-eqb c.args.wasm.now c.as_slice.result.now (Some c.in_ok-sections.sections) c.in_ok-sections.ensures.cases
    ∙ ap (λ prefix. prefix ++ sections) c.as_slice.ensures in
    let read = is_here c.loop-section.cursor _ c.in-Ok.ensures.reads.reads c.if-section-eq-CODE.true in
    let first = (c.loop-section.invariant c.place.result).1 (subst (HasCodeAt c.loop-section.cursor) (sym c.place.ensures) read) in
    (sections, joined, subst (λ at. HasCodeAt at c.place.result) c.new-cursor.ensures first)

pub loop-section-preserved : goal.loop-section-preserved
loop-section-preserved c place =
    let (there, back) = c.loop-section.invariant place in
    let read = c.in-Ok.ensures.reads.reads in (
      λ h. skips c.loop-section.cursor place _ read c.if-section-eq-CODE.false (there h),
      λ h. back (goes_back c.loop-section.cursor place _ read c.if-section-eq-CODE.false h),
    )

pub returns : goal.returns
returns c place h =
    let sections = c.in_ok-sections.sections.now in
    let joined : c.args.wasm.now ≡ preamble_bytes ++ sections =
    strip_prefix_is Decides-eqb c.args.wasm.now c.as_slice.result.now (Some c.in_ok-sections.sections) c.in_ok-sections.ensures.cases
    ∙ ap (λ prefix. prefix ++ sections) c.as_slice.ensures in
    let first = of_sections c.args.wasm.now sections place joined h in
    ends c.loop-section.cursor place c.in_default.ensures.reads.reads
    ((c.loop-section.invariant place).0 (subst (λ at. HasCodeAt at place) (sym c.new-cursor.ensures) first))
