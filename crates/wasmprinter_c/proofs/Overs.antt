-- Laws of writing over a buffer.
use Rattle.std.proofs.Common.{◌≡◌, ℕ, ◌-◌, ◌≤◌, List, [], ◌∷◌, ◌++◌, length, refl, sym, ap, ◌∙◌}
use Rattle.std.specs.Prelude.{take, drop, slice_set, zero, suc}
use Rattle.std.proofs.Common.{subst, append-nil, le_refl}
use Rattle.std.proofs.Math.Seq.{take-nil, drop-nil}
use Rattle.std.proofs.lemmas.List.{take_all, drop_all}
use Rattle.std.proofs.Common.{length-drop}
use borrow.Rule.Slice.PartMut.{put_mid}
use Rattle.wasmprinter_c.specs.Over.{over, over_from}

module _ {X : Type 0} where
  pub over-nil : (text : List X) → over text [] ≡ []
  over-nil [] = refl
  over-nil (b ∷ text) = refl

  -- Writing one list and then another after it writes the joined list.
  pub over_more : (x y out : List X) → over_from (length x) y (over x out) ≡ over (x ++ y) out
  over_more [] y out = refl
  over_more (b ∷ x) y [] =
      ap (λ (t : List X). t ++ over y (drop (length (b ∷ x)) [])) (take-nil (length (b ∷ x)))
      ∙ ap (λ (t : List X). over y t) (drop-nil (length (b ∷ x))) ∙ over-nil y
  over_more (b ∷ x) y (o ∷ out) = ap (λ (t : List X). b ∷ t) (over_more x y out)

  -- The buffer after the write, by lengths.
  pub over_is : (text out : List X) → over text out ≡ take (length out) text ++ drop (length text) out
  over_is [] out = ap (λ (t : List X). t ++ out) (sym (take-nil (length out)))
  over_is (b ∷ text) [] = sym (drop-nil (length (b ∷ text)))
  over_is (b ∷ text) (o ∷ out) = ap (λ (t : List X). b ∷ t) (over_is text out)

  -- If a list fits, all of it is written.
  pub over_fits : (text out : List X) → length text ≤ length out → over text out ≡ text ++ drop (length text) out
  over_fits text out h = over_is text out ∙ ap (λ (t : List X). t ++ drop (length text) out) (take_all (length out) text h)

  -- If a list does not fit, the buffer is filled with its first elements.
  pub over_cut : (text out : List X) → length out ≤ length text → over text out ≡ take (length out) text
  over_cut text out h =
      over_is text out ∙ ap (λ (t : List X). take (length out) text ++ t) (drop_all (length text) out h) ∙ append-nil (take (length out) text)

  -- -- A write to a part of the buffer

  pub put_fits : (place k : ℕ) (out piece copied : List X) → copied ≡ piece → k ≡ length piece → length piece ≤ length out - place →
      put_mid place k out copied ≡ over_from place piece out
  put_fits place k out piece copied e p h =
      let long : length (drop place out) ≡ length out - place = length-drop place out in
      ap (λ (t : List X). take place out ++ t)
      (ap (λ (t : List X). t ++ drop k (drop place out)) e ∙ ap (λ (n : ℕ). piece ++ drop n (drop place out)) p
      ∙ sym (over_fits piece (drop place out) (subst (λ (n : ℕ). length piece ≤ n) (sym long) h)))

  pub put_cut : (place k : ℕ) (out piece copied : List X) → copied ≡ take k piece → k ≡ length out - place → k ≤ length piece →
      put_mid place k out copied ≡ over_from place piece out
  put_cut place k out piece copied e p h =
      let long : length (drop place out) ≡ k = length-drop place out ∙ sym p in
      ap (λ (t : List X). take place out ++ t)
      (ap (λ (t : List X). t ++ drop k (drop place out)) e ∙ ap (λ (t : List X). take k piece ++ t) (drop_all k (drop place out) (subst (λ (n : ℕ). n ≤ k) (sym long) (le_refl k)))
      ∙ append-nil (take k piece) ∙ ap (λ (n : ℕ). take n piece) (sym long)
      ∙ sym (over_cut piece (drop place out) (subst (λ (n : ℕ). n ≤ length piece) (sym long) h)))

  pub put_past : (place : ℕ) (out piece : List X) → length out ≤ place → out ≡ over_from place piece out
  put_past place out piece h =
      sym (ap (λ (t : List X). t ++ over piece (drop place out)) (take_all place out h) ∙ ap (λ (t : List X). out ++ over piece t) (drop_all place out h)
      ∙ ap (λ (t : List X). out ++ t) (over-nil piece) ∙ append-nil out)

  -- Setting one element writes a list of one element.
  pub set_over : (n : ℕ) (xs : List X) (v : X) → slice_set xs n v ≡ over_from n (v ∷ []) xs
  set_over zero [] v = refl
  set_over (suc n) [] v = refl
  set_over zero (x ∷ xs) v = refl
  set_over (suc n) (x ∷ xs) v = ap (λ (t : List X). x ∷ t) (set_over n xs v)
