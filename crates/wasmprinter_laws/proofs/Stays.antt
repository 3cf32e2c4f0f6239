-- The tokens of a layout do not depend on whether lines begin with their places.
use Rattle.std.proofs.Common.{◌≡◌, ℕ, ◌+◌, Bool, true, false, ◌||◌, List, [], ◌∷◌, ◌++◌, Option, Some, None, length, refl, sym, ap, ap₂, subst, ◌∙◌, codes}
use Rattle.std.specs.Prelude.{flat_map}
use Rattle.wasmprinter_spec.specs.Grammar.{Placed}
use Rattle.wasmprinter_spec.specs.Row.{Func}
use Rattle.wasmprinter_spec.specs.Kinds.{Kind, ElementSection, CodeSection, DataSection}
use Rattle.wasmprinter_spec.specs.Names.{Names}
use Rattle.wasmprinter_spec.specs.ModuleNames.{module_names}
use Rattle.wasmprinter_spec.specs.Token.{Token, open_paren, close_paren, word}
use Rattle.wasmprinter_spec.specs.Options.{Options, Answers}
use Rattle.wasmprinter_spec.specs.Customs.Hints.{Hint, FunctionHints, hints_of, hints_of_next, entries_after}
use Rattle.wasmprinter_spec.specs.Piece.{Piece, EndLine}
use Rattle.wasmprinter_spec.specs.Placed.{PlacedFunction, PlacedModule}
use Rattle.wasmprinter_spec.specs.Module.{without_places, imported_types, func_import}
use Rattle.wasmprinter_spec.specs.Layout.Groups.{group_at, group_space_at, close, has_break}
use Rattle.wasmprinter_spec.specs.Layout.Identifiers.{leading_id_and_name_pieces}
use Rattle.wasmprinter_spec.specs.Layout.Declarations.{Scope, scope_of_function}
use Rattle.wasmprinter_spec.specs.Layout.Functions.{header_pieces, inner_pieces, function_pieces, functions_pieces, function_group}
use Rattle.wasmprinter_spec.specs.Layout.Customs.{Part, Shown, Stops, parts_at, Laid, laid_parts}
use Rattle.wasmprinter_spec.specs.Layout.{early_scope, section_pieces, section_order, section_parts, module_parts, module_pieces_of, module_pieces_with, module_pieces}
use Rattle.wasmprinter_laws.proofs.Tokens.Respelled.{all_lexed, all_lexed-append}

-- The tokens of a group: a parenthesis, its keyword, its content and a parenthesis
abbrev group_tokens : List ℕ → List Token → List Token
group_tokens w ts = open_paren ∷ (word w ∷ (ts ++ (close_paren ∷ [])))

close_tokens : (place : Option ℕ) (nesting : ℕ) (t : Bool) → all_lexed (close place nesting t) ≡ close_paren ∷ []
close_tokens place nesting true = refl
close_tokens place nesting false = refl

closed_tokens : (ps : List Piece) (place : Option ℕ) (nesting : ℕ) (t : Bool) → all_lexed (ps ++ close place nesting t) ≡ all_lexed ps ++ (close_paren ∷ [])
closed_tokens ps place nesting t =
    all_lexed-append ps (close place nesting t) ∙ ap (λ ts. all_lexed ps ++ ts) (close_tokens place nesting t)

group_at_tokens : (offsets : Bool) (place nesting : ℕ) (w : List ℕ) (ps : List Piece) → all_lexed (group_at offsets place nesting w ps) ≡ group_tokens w (all_lexed ps)
unfolding group_at
group_at_tokens offsets place nesting w ps = ap (λ ts. open_paren ∷ (word w ∷ ts)) (closed_tokens ps (Some place) nesting (offsets || has_break ps))

group_space_at_tokens : (offsets : Bool) (place nesting : ℕ) (w : List ℕ) (ps : List Piece) → all_lexed (group_space_at offsets place nesting w ps) ≡ group_tokens w (all_lexed ps)
unfolding group_space_at
group_space_at_tokens offsets place nesting w ps = ap (λ ts. open_paren ∷ (word w ∷ ts)) (closed_tokens ps (Some place) nesting (offsets || has_break ps))

-- The tokens of a function do not depend on offsets.
function_stays : (skeleton a b : Bool) (s : Scope) (hs : List (Placed Hint)) (f : PlacedFunction) →
    all_lexed (function_group skeleton a s hs f) ≡ all_lexed (function_group skeleton b s hs f)
unfolding function_group
function_stays true a b s hs f = refl
function_stays false a b s hs f =
    let ps : List Piece = header_pieces s Func (Some s.function) s.function f.type_index ++ inner_pieces s hs f in
    group_space_at_tokens a f.body.value.end 1 (codes "func") ps ∙ sym (group_space_at_tokens b f.body.value.end 1 (codes "func") ps)

-- Pieces with the same tokens, after the same pieces, have the same tokens.
after_stays : (ps qs rs : List Piece) → all_lexed qs ≡ all_lexed rs → all_lexed (ps ++ qs) ≡ all_lexed (ps ++ rs)
after_stays ps qs rs e = all_lexed-append ps qs ∙ ap (λ ts. all_lexed ps ++ ts) e ∙ sym (all_lexed-append ps rs)

-- Two lists of pieces with the same tokens, joined, have the same tokens.
both_stay : (ps ps2 qs qs2 : List Piece) → all_lexed ps ≡ all_lexed ps2 → all_lexed qs ≡ all_lexed qs2 → all_lexed (ps ++ qs) ≡ all_lexed (ps2 ++ qs2)
both_stay ps ps2 qs qs2 e f = all_lexed-append ps qs ∙ ap₂ (λ ts us. ts ++ us) e f ∙ sym (all_lexed-append ps2 qs2)

-- ---- parts with the same tokens and refusals

data PartsStay : List Part → List Part → Type 0 where
  no_parts : PartsStay [] []
  both_shown : {ps qs : List Piece} {xs ys : List Part} → all_lexed ps ≡ all_lexed qs → PartsStay xs ys → PartsStay (Shown ps ∷ xs) (Shown qs ∷ ys)
  both_stop : {ps : List Piece} {id : ℕ} {xs ys : List Part} → PartsStay xs ys → PartsStay (Stops ps id ∷ xs) (Stops ps id ∷ ys)

same_stay : (xs : List Part) → PartsStay xs xs
same_stay [] = no_parts
same_stay (Shown ps ∷ xs) = both_shown refl (same_stay xs)
same_stay (Stops ps id ∷ xs) = both_stop (same_stay xs)

parts_then : {xs ys zs ws : List Part} → PartsStay xs ys → PartsStay zs ws → PartsStay (xs ++ zs) (ys ++ ws)
parts_then no_parts w = w
parts_then (both_shown e v) w = both_shown e (parts_then v w)
parts_then (both_stop v) w = both_stop (parts_then v w)

record LaidAlike (a b : Laid) : Type 0 where
  tokens : all_lexed a.pieces ≡ all_lexed b.pieces
  refused : a.refused ≡ b.refused

joined_alike : {xs ys : List Part} → PartsStay xs ys → LaidAlike (laid_parts xs) (laid_parts ys)
joined_alike no_parts = record { tokens = refl; refused = refl }
joined_alike (both_shown {ps} {qs} {xs} {ys} e v) =
    let rest : LaidAlike (laid_parts xs) (laid_parts ys) = joined_alike v in
    record { tokens = both_stay ps qs (laid_parts xs).pieces (laid_parts ys).pieces e rest.tokens; refused = rest.refused }
joined_alike (both_stop v) = record { tokens = refl; refused = refl }

-- ---- the module

module _ (o r : Options) (same : o.skeleton ≡ r.skeleton) where
  -- The options r, except that operators are folded and colored as by o
  abbrev p : Options
  p = record r { folds = o.folds; color = o.color }

  function_pieces_stay : (s : Scope) (i : ℕ) (hs : List (Placed Hint)) (f : PlacedFunction) → all_lexed (function_pieces o s i hs f) ≡ all_lexed (function_pieces p s i hs f)
  unfolding function_pieces
  function_pieces_stay s i hs f =
      let own : Scope = scope_of_function s i in
      ap (λ t. all_lexed (function_group t o.offsets own hs f)) same ∙ function_stays p.skeleton o.offsets p.offsets own hs f

  functions_stay : (s : Scope) (es : List FunctionHints) (i : ℕ) (fs : List PlacedFunction) → all_lexed (functions_pieces o s es i fs) ≡ all_lexed (functions_pieces p s es i fs)
  unfolding functions_pieces
  functions_stay s es i [] = refl
  functions_stay s es i (f ∷ fs) =
      both_stay (function_pieces o s i (hints_of_next i es) f) (function_pieces p s i (hints_of_next i es) f) _ _ (function_pieces_stay s i (hints_of_next i es) f)
      (functions_stay s (entries_after i es) (i + 1) fs)

  module _ (answers : Answers) (names : Names) (m : PlacedModule) where
    customs_stay : (place : Option Kind) → PartsStay (parts_at o.skeleton answers place 0 m.customs) (parts_at p.skeleton answers place 0 m.customs)
    customs_stay place =
        subst (λ t. PartsStay (parts_at o.skeleton answers place 0 m.customs) (parts_at t answers place 0 m.customs)) same
        (same_stay (parts_at o.skeleton answers place 0 m.customs))

    -- The scope of fields before the functions; it is the same for both options.
    abbrev early : Scope
    early = early_scope o names m

    fields_stay : (k : Kind) → all_lexed (section_pieces o early m k) ≡ all_lexed (section_pieces p early m k)
    fields_stay ElementSection = ap (λ t. all_lexed (section_pieces (record o { skeleton = t }) early m ElementSection)) same
    fields_stay CodeSection =
        functions_stay early (hints_of m.customs) (length (imported_types func_import (without_places m.imports))) m.functions
    fields_stay DataSection = ap (λ t. all_lexed (section_pieces (record o { skeleton = t }) early m DataSection)) same
    fields_stay _ = refl

    -- The fields of sections in order, each followed by its custom sections, have the same tokens.
    kinds_stay : (ks : List Kind) →
        PartsStay (flat_map (section_parts o early m answers) ks) (flat_map (section_parts p early m answers) ks)
    kinds_stay [] = no_parts
    kinds_stay (k ∷ ks) = both_shown (fields_stay k) (parts_then (customs_stay (Some k)) (kinds_stay ks))

    parts_stay : PartsStay (module_parts o answers names m) (module_parts p answers names m)
    unfolding module_parts
    parts_stay = parts_then (customs_stay None) (kinds_stay section_order)

    -- A module has the same tokens, whether it is printed completely or up to a refusal.
    pieces_stay : (r : Option ℕ) (ps qs : List Piece) → all_lexed ps ≡ all_lexed qs →
        all_lexed (module_pieces_of o names m.size ps r) ≡ all_lexed (module_pieces_of p names m.size qs r)
    pieces_stay None ps qs e =
        let name : List Piece = leading_id_and_name_pieces names.module_name in
        all_lexed-append (group_at o.offsets m.size 0 (codes "module") (name ++ ps)) (EndLine ∷ [])
        ∙ ap (λ ts. ts ++ [])
        (group_at_tokens o.offsets m.size 0 (codes "module") (name ++ ps)
        ∙ ap (group_tokens (codes "module")) (after_stays name ps qs e)
        ∙ sym (group_at_tokens p.offsets m.size 0 (codes "module") (name ++ qs)))
        ∙ sym (all_lexed-append (group_at p.offsets m.size 0 (codes "module") (name ++ qs)) (EndLine ∷ []))
    pieces_stay (Some id) ps qs e = ap (λ ts. open_paren ∷ (word (codes "module") ∷ ts)) (after_stays (leading_id_and_name_pieces names.module_name) ps qs e)

    pub module_pieces_with_stay : all_lexed (module_pieces_with o answers names m) ≡ all_lexed (module_pieces_with p answers names m)
    unfolding module_pieces_with
    module_pieces_with_stay =
        let a : Laid = laid_parts (module_parts o answers names m) in
        let b : Laid = laid_parts (module_parts p answers names m) in
        let alike : LaidAlike a b = joined_alike parts_stay in
        ap (λ r. all_lexed (module_pieces_of o names m.size a.pieces r)) alike.refused ∙ pieces_stay b.refused a.pieces b.pieces alike.tokens

  pieces_alike : o.synthesizes ≡ r.synthesizes → (answers : Answers) (m : PlacedModule) → all_lexed (module_pieces o answers m) ≡ all_lexed (module_pieces p answers m)
  unfolding module_pieces
  pieces_alike synthesizes answers m =
      ap (λ t. all_lexed (module_pieces_with o answers (module_names t m) m)) synthesizes ∙ module_pieces_with_stay answers (module_names p.synthesizes m) m

  pub module_pieces_stay : o.folds ≡ r.folds → o.color ≡ r.color → o.synthesizes ≡ r.synthesizes → (answers : Answers) (m : PlacedModule) →
      all_lexed (module_pieces o answers m) ≡ all_lexed (module_pieces r answers m)
  module_pieces_stay folds color synthesizes answers m =
      pieces_alike synthesizes answers m ∙ ap₂ (λ f t. all_lexed (module_pieces (record r { folds = f; color = t }) answers m)) folds color
