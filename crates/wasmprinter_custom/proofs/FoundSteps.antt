-- A subsection with a known id is skipped.
use Rattle.std.proofs.Common.{◌≡◌, ◌≢◌, ◌∷◌, ◌<◌, [], length, Some, None, ap, subst, ◌∙◌}
use Rattle.wasmprinter_spec.specs.Grammar.{Input}
use Rattle.wasmprinter_spec.specs.Customs.Dylink.{Subsection, subsection, judgement_of, other_of}
use Rattle.wasmprinter_custom.specs.Sound.{subsections_in, IsFaultless}
use Rattle.wasmprinter_custom.specs.Judgements.{found_view, HasKnownId}
use Rattle.wasmprinter_custom.specs.declared.dylink.Found.{Found}
use Rattle.wasmprinter_custom.specs.declared.dylink.Found.TheVariants.{Known}
use Rattle.wasmprinter_custom.proofs.DylinkSubsections.{shrinks, outcome, outcome_goes_on, whole_goes_on}

module _ (at after : Input) (some : at.bytes ≢ []) (found : Found) (s : Subsection) (known : found ≡ Known s)
    (reads : subsection.parse at ≡ Some (found_view found, after)) (has_id : HasKnownId found) where
  read : subsection.parse at ≡ Some (s, after)
  read = reads ∙ ap (λ f. Some (found_view f, after)) known

  id_known : other_of s.value ≡ None
  id_known = subst HasKnownId known has_id

  pub known_shrinks : length after.bytes < length at.bytes
  known_shrinks = shrinks at (s, after) read

  pub known_outcome : outcome (judgement_of after) ≡ outcome (judgement_of at)
  known_outcome = outcome_goes_on at some (s, after) read id_known

  pub known_whole : IsFaultless (judgement_of at) → IsFaultless (judgement_of after) × (subsections_in (judgement_of at) ≡ s ∷ subsections_in (judgement_of after))
  known_whole w = whole_goes_on at some (s, after) read id_known w
