-- If each claim is answered by whether the section has one of some names, the layout is that of a module from which
-- exactly the sections with these names are left out.
use Rattle.std.specs.Prelude.{◌≡◌, ℕ, ◌+◌, suc, List, [], ◌∷◌, ◌++◌, flat_map, ◌||◌, map, codes, Bool, true, false, Option, Some, None, slice_get, refl}
use Rattle.std.specs.List.{AllByRecursion}
use Rattle.std.proofs.Common.{cond, sym, ap, ◌∙◌, subst, arith}
use Rattle.wasmprinter_spec.specs.Call.{Call, Text, Newline, Line, Start, Claim, calls_of_bytes, atoms}
use Rattle.wasmprinter_spec.specs.Kinds.{Kind}
use Rattle.wasmprinter_spec.specs.Placed.{CustomEntry, PlacedModule}
use Rattle.wasmprinter_spec.specs.Names.{Names}
use Rattle.wasmprinter_spec.specs.ModuleNames.{module_names}
use Rattle.wasmprinter_spec.specs.Options.{Options, Answers}
use Rattle.wasmprinter_spec.specs.Piece.{Piece, Begin, EndLine, Open, Claimed, all_calls}
use Rattle.wasmprinter_spec.specs.Customs.{CustomTreatment, Silent, ProducersFields, DylinkSubsections, Refused, Raw, Malformed, custom_treatment_of}
use Rattle.wasmprinter_spec.specs.Layout.{early_scope, section_pieces, section_order, section_parts, module_parts, module_pieces_of, module_pieces_with, module_pieces, layout, refusal}
use Rattle.wasmprinter_spec.specs.Layout.Groups.{close, has_break, group_at}
use Rattle.wasmprinter_spec.specs.Layout.Identifiers.{leading_id_and_name_pieces}
use Rattle.wasmprinter_spec.specs.Layout.Customs.{Part, Shown, Stops, Laid, before_laid, laid_parts, treatment_part, custom_part, same_after, parts_at}
use Rattle.wasmprinter_spec.proofs.Each.{all_both, all_parts}
use Rattle.wasmprinter_print.specs.EffectLaws.{all_calls-append}
use Rattle.wasmprinter_module_text.proofs.Joined.{laid_after, joined-append}
use Rattle.wasmprinter_c.specs.Omitted.{has_name, is_named, answers_for, IsAnsweredFor}

module _ (names : List (List ℕ)) where
  -- The answers of these calls are those for the names.
  abbrev pub AreAnswered : List Call → Type 0
  AreAnswered cs = AllByRecursion (IsAnsweredFor names) cs

  -- ---- Calls that are alike

  texts_answered : (s : List ℕ) → AreAnswered (map (λ b. Text (b ∷ [])) s)
  texts_answered [] = tt
  texts_answered (b ∷ bs) = (tt, texts_answered bs)

  cut_answered : (c : Call) → IsAnsweredFor names c → AreAnswered (calls_of_bytes c)
  cut_answered (Text s) h = texts_answered s
  cut_answered Newline h = (tt, tt)
  cut_answered (Line place) h = (tt, tt)
  cut_answered (Start style) h = (tt, tt)
  cut_answered (Claim name place bytes answer) h = (h, tt)

  uncut_answered : (c : Call) → AreAnswered (calls_of_bytes c) → IsAnsweredFor names c
  uncut_answered (Text s) h = tt
  uncut_answered Newline h = tt
  uncut_answered (Line place) h = tt
  uncut_answered (Start style) h = tt
  uncut_answered (Claim name place bytes answer) h = h.0

  atoms_answered : (cs : List Call) → AreAnswered cs → AreAnswered (atoms cs)
  atoms_answered [] h = tt
  atoms_answered (c ∷ cs) h = all_both (IsAnsweredFor names) (calls_of_bytes c) (atoms cs) (cut_answered c h.0) (atoms_answered cs h.1)

  whole_answered : (cs : List Call) → AreAnswered (atoms cs) → AreAnswered cs
  whole_answered [] h = tt
  whole_answered (c ∷ cs) h =
      let parts = all_parts (IsAnsweredFor names) (calls_of_bytes c) (atoms cs) h in
      (uncut_answered c parts.0, whole_answered cs parts.1)

  pub alike_answered : (k l : List Call) → atoms k ≡ atoms l → AreAnswered k → AreAnswered l
  alike_answered k l e h = whole_answered l (subst AreAnswered e (atoms_answered k h))

  -- ---- The custom sections at one position, each with the answer for its name

  -- Whether the section has one of the names.
  abbrev pub is_omitted : CustomEntry → Bool
  is_omitted c = has_name names c.section.value.name

  abbrev pub named_parts : Bool → Option Kind → List CustomEntry → List Part
  named_parts skeleton after [] = []
  named_parts skeleton after (c ∷ cs) =
      cond (same_after c.after after) (custom_part skeleton (is_omitted c) c ∷ named_parts skeleton after cs) (named_parts skeleton after cs)

  -- The answers from the number n on are those for the names of these sections.
  abbrev AreFrom : Answers → ℕ → List CustomEntry → Type 0
  AreFrom answers n [] = Unit {0}
  AreFrom answers n (c ∷ cs) = (answers n ≡ is_omitted c) × AreFrom answers (n + 1) cs

  parts-named : (skeleton : Bool) (answers : Answers) (after : Option Kind) (n : ℕ) (cs : List CustomEntry) → AreFrom answers n cs →
      parts_at skeleton answers after n cs ≡ named_parts skeleton after cs
  parts-named skeleton answers after n [] h = refl
  parts-named skeleton answers after n (c ∷ cs) h = by (same_after c.after after) (parts-named skeleton answers after (n + 1) cs h.1)
    where
      others : List Part
      others = parts_at skeleton answers after (n + 1) cs

      by : (t : Bool) → others ≡ named_parts skeleton after cs →
          cond t (custom_part skeleton (answers n) c ∷ others) others
          ≡ cond t (custom_part skeleton (is_omitted c) c ∷ named_parts skeleton after cs) (named_parts skeleton after cs)
      by true e =
          ap (λ (b : Bool). custom_part skeleton b c ∷ others) h.0 ∙ ap (λ (ps : List Part). custom_part skeleton (is_omitted c) c ∷ ps) e
      by false e = e

  answers_from : (answers : Answers) (n : ℕ) (cs : List CustomEntry) → ((i : ℕ) → answers (n + i) ≡ is_named names (slice_get cs i)) → AreFrom answers n cs
  answers_from answers n [] h = tt
  answers_from answers n (c ∷ cs) h =
      let none : n ≡ n + 0 = omega arith in
      (ap answers none ∙ h 0, answers_from answers (n + 1) cs (λ i. ap answers (next i) ∙ h (suc i)))
    where
      next : (i : ℕ) → n + 1 + i ≡ n + suc i
      next i = omega arith

  pub module-named : (skeleton : Bool) (after : Option Kind) (m : PlacedModule) → parts_at skeleton (answers_for names m) after 0 m.customs ≡ named_parts skeleton after m.customs
  module-named skeleton after m =
      parts-named skeleton (answers_for names m) after 0 m.customs (answers_from (answers_for names m) 0 m.customs (λ i. ap (answers_for names m) (start i)))
    where
      start : (i : ℕ) → 0 + i ≡ i
      start i = omega arith

  -- ---- The parts of a layout

  module _ (o : Options) where
    abbrev AreIn : List Piece → Type 0
    AreIn ps = AreAnswered (all_calls o ps)

    pieces_front : (ps qs : List Piece) → AreIn (ps ++ qs) → AreIn ps
    pieces_front ps qs h = (all_parts (IsAnsweredFor names) (all_calls o ps) (all_calls o qs) (subst AreAnswered (all_calls-append o ps qs) h)).0

    pieces_after : (ps qs : List Piece) → AreIn (ps ++ qs) → AreIn qs
    pieces_after ps qs h = (all_parts (IsAnsweredFor names) (all_calls o ps) (all_calls o qs) (subst AreAnswered (all_calls-append o ps qs) h)).1

    -- The layouts of both lists are the same if the first has the answers for the names.
    record AreAlike (xs ys : List Part) : Type 0 where
      same : AreIn (laid_parts xs).pieces → laid_parts xs ≡ laid_parts ys

    part_alike : (p : Part) {xs ys : List Part} → AreAlike xs ys → AreAlike (p ∷ xs) (p ∷ ys)
    part_alike (Shown ps) {xs} f = record { same = λ h. ap (before_laid ps) (f.same (pieces_after ps (laid_parts xs).pieces h)) }
    part_alike (Stops ps id) f = record { same = λ h. refl }

    -- The first call of a section's part asks for its claim.
    asked_by : (c : CustomEntry) (xs : List Part) (r : CustomTreatment) →
        AreIn (laid_parts (treatment_part o.skeleton (Claimed c.section.value.name c.section.value.bytes.place c.section.value.bytes.value false) c r ∷ xs)).pieces →
        false ≡ is_omitted c
    asked_by c xs Silent h = h.0
    asked_by c xs (ProducersFields fields) h = h.0
    asked_by c xs (DylinkSubsections ss) h = h.0
    asked_by c xs (Refused id) h = h.0
    asked_by c xs Raw h = h.0
    asked_by c xs Malformed h = h.0

    asked : (answer : Bool) (c : CustomEntry) (xs : List Part) → AreIn (laid_parts (custom_part o.skeleton answer c ∷ xs)).pieces → answer ≡ is_omitted c
    asked true c xs h = h.0
    asked false c xs h = asked_by c xs (custom_treatment_of c.section.value) h

    custom_alike : (answer : Bool) (c : CustomEntry) {xs ys : List Part} → AreAlike xs ys →
        AreAlike (custom_part o.skeleton answer c ∷ xs) (custom_part o.skeleton (is_omitted c) c ∷ ys)
    custom_alike answer c {xs} {ys} f = record {
      same =
          λ h.
          subst (λ (b : Bool). laid_parts (custom_part o.skeleton answer c ∷ xs) ≡ laid_parts (custom_part o.skeleton b c ∷ ys)) (asked answer c xs h)
          ((part_alike (custom_part o.skeleton answer c) f).same h);
    }

    -- If a joined layout has the answers for the names, its first part has them.
    laid_front : (l k : Laid) → AreIn (laid_after l.pieces l.refused k).pieces → AreIn l.pieces
    laid_front l k h = by l.refused h
      where
        by : (r : Option ℕ) → AreIn (laid_after l.pieces r k).pieces → AreIn l.pieces
        by None h = pieces_front l.pieces k.pieces h
        by (Some id) h = h

    -- The second part of a joined layout, if the first is not refused, can be replaced by one that is alike.
    laid_alike : (l : Laid) (xs ys : List Part) → AreAlike xs ys → AreIn (laid_after l.pieces l.refused (laid_parts xs)).pieces →
        laid_after l.pieces l.refused (laid_parts xs) ≡ laid_after l.pieces l.refused (laid_parts ys)
    laid_alike l xs ys f h = by l.refused h
      where
        by : (r : Option ℕ) → AreIn (laid_after l.pieces r (laid_parts xs)).pieces → laid_after l.pieces r (laid_parts xs) ≡ laid_after l.pieces r (laid_parts ys)
        by None h = ap (before_laid l.pieces) (f.same (pieces_after l.pieces (laid_parts xs).pieces h))
        by (Some id) h = refl

    both_alike : {xs ys zs ws : List Part} → AreAlike xs ys → AreAlike zs ws → AreAlike (xs ++ zs) (ys ++ ws)
    both_alike {xs} {ys} {zs} {ws} f g = record {
      same =
          λ h.
          let k : AreIn (laid_after (laid_parts xs).pieces (laid_parts xs).refused (laid_parts zs)).pieces =
          subst (λ (l : Laid). AreIn l.pieces) (joined-append xs zs) h in
          joined-append xs zs
          ∙ (laid_alike (laid_parts xs) zs ws g k
          ∙ (ap (λ (l : Laid). laid_after l.pieces l.refused (laid_parts ws)) (f.same (laid_front (laid_parts xs) (laid_parts zs) k))
          ∙ sym (joined-append ys ws)));
    }

    -- The custom sections at one position.
    after_alike : (answers : Answers) (place : Option Kind) (n : ℕ) (cs : List CustomEntry) →
        AreAlike (parts_at o.skeleton answers place n cs) (named_parts o.skeleton place cs)
    after_alike answers place n [] = record { same = λ h. refl }
    after_alike answers place n (c ∷ cs) = by (same_after c.after place) (after_alike answers place (n + 1) cs)
      where
        by : (t : Bool) → AreAlike (parts_at o.skeleton answers place (n + 1) cs) (named_parts o.skeleton place cs) →
            AreAlike (cond t (custom_part o.skeleton (answers n) c ∷ parts_at o.skeleton answers place (n + 1) cs) (parts_at o.skeleton answers place (n + 1) cs))
            (cond t (custom_part o.skeleton (is_omitted c) c ∷ named_parts o.skeleton place cs) (named_parts o.skeleton place cs))
        by true others = custom_alike (answers n) c others
        by false others = others

    -- All parts of a module.
    module _ (answers : Answers) (scope : Names) (m : PlacedModule) where
      abbrev own : Answers
      own = answers_for names m

      customs_alike : (place : Option Kind) → AreAlike (parts_at o.skeleton answers place 0 m.customs) (parts_at o.skeleton own place 0 m.customs)
      customs_alike place =
          subst (λ (ps : List Part). AreAlike (parts_at o.skeleton answers place 0 m.customs) ps) (sym (module-named o.skeleton place m)) (after_alike answers place 0 m.customs)

      section_alike : (k : Kind) → AreAlike (section_parts o (early_scope o scope m) m answers k) (section_parts o (early_scope o scope m) m own k)
      section_alike k = part_alike (Shown (section_pieces o (early_scope o scope m) m k)) (customs_alike (Some k))

      sections_alike : (ks : List Kind) →
          AreAlike (flat_map (section_parts o (early_scope o scope m) m answers) ks) (flat_map (section_parts o (early_scope o scope m) m own) ks)
      sections_alike [] = record { same = λ h. refl }
      sections_alike (k ∷ ks) = both_alike (section_alike k) (sections_alike ks)

      parts_alike : AreAlike (module_parts o answers scope m) (module_parts o own scope m)
      unfolding module_parts
      parts_alike = both_alike (customs_alike None) (sections_alike section_order)

    -- If the pieces of a module have the answers for the names, so have the pieces inside its group.
    inner_answered : (scope : Names) (size : ℕ) (ps : List Piece) (refused : Option ℕ) → AreIn (module_pieces_of o scope size ps refused) → AreIn ps
    unfolding group_at
    inner_answered scope size ps None h =
        let id_and_name : List Piece = leading_id_and_name_pieces scope.module_name in
        let closing : List Piece = close (Some size) 0 (o.offsets || has_break (id_and_name ++ ps)) in
        let front : List Piece = Begin 0 ∷ (Open (codes "module") ∷ []) in
        let inner : AreIn (id_and_name ++ ps) =
        pieces_front (id_and_name ++ ps) closing (pieces_front ((id_and_name ++ ps) ++ closing) (EndLine ∷ []) (pieces_after front (((id_and_name ++ ps) ++ closing) ++ (EndLine ∷ [])) h)) in
        pieces_after id_and_name ps inner
    inner_answered scope size ps (Some id) h =
        let front : List Piece = Begin 0 ∷ (Open (codes "module") ∷ leading_id_and_name_pieces scope.module_name) in
        pieces_after front ps h

  -- The layout, and its end, are those in which exactly the sections with the names are claimed.
  pub record IsLayoutFor (o : Options) (answers : Answers) (m : PlacedModule) : Type 0 where
    pub layout : layout o answers m ≡ layout o (answers_for names m) m
    pub refusal : refusal o answers m ≡ refusal o (answers_for names m) m

  pub answered_layout : (o : Options) (answers : Answers) (m : PlacedModule) → AreAnswered (layout o answers m) → IsLayoutFor o answers m
  unfolding layout module_pieces module_pieces_with
  answered_layout o answers m h =
      let scope : Names = module_names o.synthesizes m in
      let laid : Laid = laid_parts (module_parts o answers scope m) in
      let same : laid ≡ laid_parts (module_parts o (answers_for names m) scope m) =
      (parts_alike o answers scope m).same (inner_answered o scope m.size laid.pieces laid.refused h) in
      record {
        layout = ap (λ (l : Laid). all_calls o (module_pieces_of o scope m.size l.pieces l.refused)) same;
        refusal = ap (λ (l : Laid). l.refused) same;
      }
