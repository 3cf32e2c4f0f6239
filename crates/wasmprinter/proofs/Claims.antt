-- If no claim was answered yes, the layout is that of a module of which no custom section is claimed.
use Rattle.std.specs.Prelude.{◌≡◌, ℕ, ◌+◌, List, [], ◌∷◌, ◌++◌, flat_map, ◌||◌, map, codes, Bool, true, false, Option, Some, None, refl}
use Rattle.std.specs.List.{AllByRecursion}
use Rattle.std.proofs.Common.{sym, ap, ◌∙◌, subst, true≢false}
use Rattle.wasmprinter_spec.specs.Call.{Call, Text, Newline, Line, Start, Claim, IsUnclaimed, calls_of_bytes, atoms}
use Rattle.wasmprinter_spec.specs.Kinds.{Kind}
use Rattle.wasmprinter_spec.specs.Placed.{CustomEntry, PlacedModule}
use Rattle.wasmprinter_spec.specs.Names.{Names}
use Rattle.wasmprinter_spec.specs.ModuleNames.{module_names}
use Rattle.wasmprinter_spec.specs.Options.{Options, Answers}
use Rattle.wasmprinter_spec.specs.Piece.{Piece, Begin, EndLine, Open, all_calls}
use Rattle.wasmprinter_spec.specs.Layout.{early_scope, section_pieces, section_order, section_parts, module_parts, module_pieces_of, module_pieces_with, module_pieces, layout, refusal}
use Rattle.wasmprinter_spec.specs.Layout.Groups.{close, has_break, group_at}
use Rattle.wasmprinter_spec.specs.Layout.Identifiers.{leading_id_and_name_pieces}
use Rattle.wasmprinter_spec.specs.Layout.Customs.{Part, Shown, Stops, Laid, before_laid, laid_parts, custom_part, same_after, parts_at}
use Rattle.wasmprinter_spec.proofs.Each.{all_both, all_parts}
use Rattle.wasmprinter_print.specs.EffectLaws.{all_calls-append}
use Rattle.wasmprinter_module_text.proofs.Joined.{laid_after, joined-append}
use Rattle.wasmprinter.specs.Printed.{no_claims}

-- ---- Calls that are alike

texts_unclaimed : (s : List ℕ) → AllByRecursion IsUnclaimed (map (λ b. Text (b ∷ [])) s)
texts_unclaimed [] = tt
texts_unclaimed (b ∷ bs) = (tt, texts_unclaimed bs)

cut_unclaimed : (c : Call) → IsUnclaimed c → AllByRecursion IsUnclaimed (calls_of_bytes c)
cut_unclaimed (Text s) h = texts_unclaimed s
cut_unclaimed Newline h = (tt, tt)
cut_unclaimed (Line place) h = (tt, tt)
cut_unclaimed (Start style) h = (tt, tt)
cut_unclaimed (Claim name place bytes answer) h = (h, tt)

uncut_unclaimed : (c : Call) → AllByRecursion IsUnclaimed (calls_of_bytes c) → IsUnclaimed c
uncut_unclaimed (Text s) h = tt
uncut_unclaimed Newline h = tt
uncut_unclaimed (Line place) h = tt
uncut_unclaimed (Start style) h = tt
uncut_unclaimed (Claim name place bytes answer) h = h.0

atoms_unclaimed : (cs : List Call) → AllByRecursion IsUnclaimed cs → AllByRecursion IsUnclaimed (atoms cs)
atoms_unclaimed [] h = tt
atoms_unclaimed (c ∷ cs) h = all_both IsUnclaimed (calls_of_bytes c) (atoms cs) (cut_unclaimed c h.0) (atoms_unclaimed cs h.1)

whole_unclaimed : (cs : List Call) → AllByRecursion IsUnclaimed (atoms cs) → AllByRecursion IsUnclaimed cs
whole_unclaimed [] h = tt
whole_unclaimed (c ∷ cs) h =
    (uncut_unclaimed c (all_parts IsUnclaimed (calls_of_bytes c) (atoms cs) h).0, whole_unclaimed cs (all_parts IsUnclaimed (calls_of_bytes c) (atoms cs) h).1)

pub alike_unclaimed : (k l : List Call) → atoms k ≡ atoms l → AllByRecursion IsUnclaimed k → AllByRecursion IsUnclaimed l
alike_unclaimed k l e h = whole_unclaimed l (subst (λ (cs : List Call). AllByRecursion IsUnclaimed cs) e (atoms_unclaimed k h))

-- ---- The parts of a layout

module _ (o : Options) where
  abbrev AreUnclaimedIn : List Piece → Type 0
  AreUnclaimedIn ps = AllByRecursion IsUnclaimed (all_calls o ps)

  pieces_front : (ps qs : List Piece) → AreUnclaimedIn (ps ++ qs) → AreUnclaimedIn ps
  pieces_front ps qs h =
      (all_parts IsUnclaimed (all_calls o ps) (all_calls o qs) (subst (λ (cs : List Call). AllByRecursion IsUnclaimed cs) (all_calls-append o ps qs) h)).0

  pieces_after : (ps qs : List Piece) → AreUnclaimedIn (ps ++ qs) → AreUnclaimedIn qs
  pieces_after ps qs h =
      (all_parts IsUnclaimed (all_calls o ps) (all_calls o qs) (subst (λ (cs : List Call). AllByRecursion IsUnclaimed cs) (all_calls-append o ps qs) h)).1

  -- The layouts of both lists are the same if no claim of the first was answered yes.
  record AreAlike (xs ys : List Part) : Type 0 where
    same : AreUnclaimedIn (laid_parts xs).pieces → laid_parts xs ≡ laid_parts ys

  part_alike : (p : Part) {xs ys : List Part} → AreAlike xs ys → AreAlike (p ∷ xs) (p ∷ ys)
  part_alike (Shown ps) {xs} f = record { same = λ h. ap (before_laid ps) (f.same (pieces_after ps (laid_parts xs).pieces h)) }
  part_alike (Stops ps id) f = record { same = λ h. refl }

  custom_alike : (answer : Bool) (c : CustomEntry) {xs ys : List Part} → AreAlike xs ys →
      AreAlike (custom_part o.skeleton answer c ∷ xs) (custom_part o.skeleton false c ∷ ys)
  custom_alike true c f = record { same = λ h. absurd (true≢false h.0) }
  custom_alike false c f = part_alike (custom_part o.skeleton false c) f

  -- If no claim of a joined layout was answered yes, none of its first part was.
  laid_front : (l k : Laid) → AreUnclaimedIn (laid_after l.pieces l.refused k).pieces → AreUnclaimedIn l.pieces
  laid_front l k h = by l.refused h
    where
      by : (r : Option ℕ) → AreUnclaimedIn (laid_after l.pieces r k).pieces → AreUnclaimedIn l.pieces
      by None h = pieces_front l.pieces k.pieces h
      by (Some id) h = h

  -- The second part of a joined layout, if the first is not refused, can be replaced by one that is alike.
  laid_alike : (l : Laid) (xs ys : List Part) → AreAlike xs ys → AreUnclaimedIn (laid_after l.pieces l.refused (laid_parts xs)).pieces →
      laid_after l.pieces l.refused (laid_parts xs) ≡ laid_after l.pieces l.refused (laid_parts ys)
  laid_alike l xs ys f h = by l.refused h
    where
      by : (r : Option ℕ) → AreUnclaimedIn (laid_after l.pieces r (laid_parts xs)).pieces →
          laid_after l.pieces r (laid_parts xs) ≡ laid_after l.pieces r (laid_parts ys)
      by None h = ap (before_laid l.pieces) (f.same (pieces_after l.pieces (laid_parts xs).pieces h))
      by (Some id) h = refl

  both_alike : {xs ys zs ws : List Part} → AreAlike xs ys → AreAlike zs ws → AreAlike (xs ++ zs) (ys ++ ws)
  both_alike {xs} {ys} {zs} {ws} f g = record {
    same =
        λ h.
        let k : AreUnclaimedIn (laid_after (laid_parts xs).pieces (laid_parts xs).refused (laid_parts zs)).pieces =
        subst (λ (l : Laid). AreUnclaimedIn l.pieces) (joined-append xs zs) h in
        joined-append xs zs
        ∙ (laid_alike (laid_parts xs) zs ws g k
        ∙ (ap (λ (l : Laid). laid_after l.pieces l.refused (laid_parts ws)) (f.same (laid_front (laid_parts xs) (laid_parts zs) k))
        ∙ sym (joined-append ys ws)));
  }

  -- The custom sections at one position.
  after_alike : (answers : Answers) (place : Option Kind) (n : ℕ) (cs : List CustomEntry) →
      AreAlike (parts_at o.skeleton answers place n cs) (parts_at o.skeleton no_claims place n cs)
  after_alike answers place n [] = record { same = λ h. refl }
  after_alike answers place n (c ∷ cs) = by (same_after c.after place) (after_alike answers place (n + 1) cs) refl
    where
      by : (t : Bool) → AreAlike (parts_at o.skeleton answers place (n + 1) cs) (parts_at o.skeleton no_claims place (n + 1) cs) →
          same_after c.after place ≡ t → AreAlike (parts_at o.skeleton answers place n (c ∷ cs)) (parts_at o.skeleton no_claims place n (c ∷ cs))
      by true others e = rw e (custom_alike (answers n) c others)
      by false others e = rw e others

  -- All parts of a module.
  module _ (answers : Answers) (names : Names) (m : PlacedModule) where
    customs_alike : (place : Option Kind) → AreAlike (parts_at o.skeleton answers place 0 m.customs) (parts_at o.skeleton no_claims place 0 m.customs)
    customs_alike place = after_alike answers place 0 m.customs

    section_alike : (k : Kind) → AreAlike (section_parts o (early_scope o names m) m answers k) (section_parts o (early_scope o names m) m no_claims k)
    section_alike k = part_alike (Shown (section_pieces o (early_scope o names m) m k)) (customs_alike (Some k))

    sections_alike : (ks : List Kind) →
        AreAlike (flat_map (section_parts o (early_scope o names m) m answers) ks) (flat_map (section_parts o (early_scope o names m) m no_claims) ks)
    sections_alike [] = record { same = λ h. refl }
    sections_alike (k ∷ ks) = both_alike (section_alike k) (sections_alike ks)

    parts_alike : AreAlike (module_parts o answers names m) (module_parts o no_claims names m)
    unfolding module_parts
    parts_alike = both_alike (customs_alike None) (sections_alike section_order)

  -- If the pieces of a module have no claim that was answered yes, neither have the pieces inside its group.
  inner_unclaimed : (names : Names) (size : ℕ) (ps : List Piece) (refused : Option ℕ) → AreUnclaimedIn (module_pieces_of o names size ps refused) → AreUnclaimedIn ps
  unfolding group_at
  inner_unclaimed names size ps None h =
      let id_and_name : List Piece = leading_id_and_name_pieces names.module_name in
      let closing : List Piece = close (Some size) 0 (o.offsets || has_break (id_and_name ++ ps)) in
      let front : List Piece = Begin 0 ∷ (Open (codes "module") ∷ []) in
      let inner : AreUnclaimedIn (id_and_name ++ ps) =
      pieces_front (id_and_name ++ ps) closing (pieces_front ((id_and_name ++ ps) ++ closing) (EndLine ∷ []) (pieces_after front (((id_and_name ++ ps) ++ closing) ++ (EndLine ∷ [])) h)) in
      pieces_after id_and_name ps inner
  inner_unclaimed names size ps (Some id) h =
      let front : List Piece = Begin 0 ∷ (Open (codes "module") ∷ leading_id_and_name_pieces names.module_name) in
      pieces_after front ps h

-- The layout, and its end, are those of a module of which no custom section is claimed.
pub record IsSame (o : Options) (answers : Answers) (m : PlacedModule) : Type 0 where
  pub layout : layout o answers m ≡ layout o no_claims m
  pub refusal : refusal o answers m ≡ refusal o no_claims m

-- If no claim was answered yes, the layout is the one without claims.
pub unclaimed_layout : (o : Options) (answers : Answers) (m : PlacedModule) → AllByRecursion IsUnclaimed (layout o answers m) → IsSame o answers m
unfolding layout module_pieces module_pieces_with
unclaimed_layout o answers m h =
    let names : Names = module_names o.synthesizes m in
    let laid : Laid = laid_parts (module_parts o answers names m) in
    let same : laid ≡ laid_parts (module_parts o no_claims names m) =
    (parts_alike o answers names m).same (inner_unclaimed o names m.size laid.pieces laid.refused h) in
    record {
      layout = ap (λ (l : Laid). all_calls o (module_pieces_of o names m.size l.pieces l.refused)) same;
      refusal = ap (λ (l : Laid). l.refused) same;
    }
