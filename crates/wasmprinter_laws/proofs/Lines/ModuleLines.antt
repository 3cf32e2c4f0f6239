-- The lines of all functions among those of the module.
use Rattle.std.proofs.Common.{◌≡◌, ℕ, zero, suc, ◌+◌, ◌||◌, cond, List, [], ◌∷◌, ◌++◌, Bool, true, false, Option, Some, None, length, refl, sym, ap, ap₂, subst, ◌∙◌, inl, inr, append-nil, arith}
use Rattle.std.specs.Prelude.{slice_get}
use Rattle.std.specs.List.{AllByRecursion, flat_map}
use Rattle.std.proofs.lemmas.List.Concat.{flat_map-append}
use Rattle.wasmprinter_spec.specs.Grammar.{Placed, some_is}
use Rattle.wasmprinter_spec.specs.Kinds.{Kind, CustomSection, TypeSection, ImportSection, FunctionSection, TableSection, MemorySection, TagSection, GlobalSection, ExportSection, StartSection, ElementSection, DataCountSection, CodeSection, DataSection}
use Rattle.wasmprinter_spec.specs.Customs.Hints.{FunctionHints, hints_of, hints_of_next, entries_after}
use Rattle.wasmprinter_spec.specs.Names.{Names}
use Rattle.wasmprinter_spec.specs.ModuleNames.{module_names}
use Rattle.wasmprinter_spec.specs.Placed.{PlacedFunction, PlacedModule}
use Rattle.wasmprinter_spec.specs.Module.{imported_types, func_import, without_places}
use Rattle.wasmprinter_spec.specs.Options.{Options, Answers}
use Rattle.wasmprinter_spec.specs.Piece.{Piece, EndLine}
use Rattle.wasmprinter_spec.specs.Layout.Groups.{has_break, close, group_at, numbered_pieces}
use Rattle.wasmprinter_spec.specs.Layout.Identifiers.{leading_id_and_name_pieces}
use Rattle.wasmprinter_spec.specs.Layout.Declarations.{Scope, Folding}
use Rattle.wasmprinter_spec.specs.Layout.Functions.{function_pieces, functions_pieces}
use Rattle.wasmprinter_spec.specs.Layout.Imports.{no_numbers}
use Rattle.wasmprinter_spec.specs.Layout.Tables.{table_pieces}
use Rattle.wasmprinter_spec.specs.Layout.Memories.{memory_pieces}
use Rattle.wasmprinter_spec.specs.Layout.Tags.{tag_pieces}
use Rattle.wasmprinter_spec.specs.Layout.Globals.{global_pieces}
use Rattle.wasmprinter_spec.specs.Layout.Exports.{export_pieces}
use Rattle.wasmprinter_spec.specs.Layout.Elements.{element_pieces}
use Rattle.wasmprinter_spec.specs.Layout.DataSegments.{data_pieces}
use Rattle.wasmprinter_spec.specs.Layout.Customs.{Part, Shown, Stops, parts_at, Laid, laid_parts}
use Rattle.wasmprinter_spec.specs.Layout.{early_scope, scope_after, section_pieces, section_order, section_parts, module_parts, module_pieces_of, module_pieces_with, module_pieces, refusal}
use Rattle.wasmprinter_spec.specs.Lines.{places, hint_places, lines_without}
use Rattle.wasmprinter_spec.specs.Apart.{Rises, IsOutside, body_places, IsApart}
use Rattle.wasmprinter_laws.proofs.Lines.Indexes.{StandsAt, stands_left, stands_right, IsElsewhere, AreElsewhere, RisesAmong, Follows, follows_none, follows_elsewhere, follows_then, follows_both}
use Rattle.wasmprinter_laws.proofs.Lines.Kept.{lines_without-append, each_among}
use Rattle.wasmprinter_spec.proofs.OneLine.{starts, leading_id_and_name_stays}
use Rattle.wasmprinter_laws.proofs.Lines.FieldLines.{numbered_begin, placed_lines, placed_elsewhere, types_elsewhere, table_begins, memory_begins, tag_begins, global_begins, imports_begin, export_begins, start_elsewhere, element_begins, data_begins}
use Rattle.wasmprinter_laws.proofs.Lines.CustomLines.{part_starts, part_lines, customs_elsewhere}
use Rattle.wasmprinter_laws.proofs.Lines.HintLines.{OfEntries, of_next_hints, of_hints_after}
use Rattle.wasmprinter_laws.proofs.Lines.BodyLines.{own_lines, kept_lines, closing_lines, close_begins, function_begins, own_follow, IsHint, IsKept, own_kept}

-- ---- the lines of all functions

functions_follow : (low high : ℕ) (o : Options) (s : Scope) → s.folding ≡ None → o.skeleton ≡ false →
    (es : List FunctionHints) → OfEntries (IsElsewhere low high) es → (i : ℕ) (fs : List PlacedFunction) →
    Follows low high (flat_map (λ f. body_places f.body) fs) (flat_map starts (functions_pieces o s es i fs))
unfolding functions_pieces
functions_follow low high o s flat whole es all i [] = follows_none low high
functions_follow low high o s flat whole es all i (f ∷ fs) =
    let own = function_begins o s flat i (hints_of_next i es) f whole in
    let lines : List (Option ℕ) = own_lines own.closes (hints_of_next i es) f in
    let rest : List (Option ℕ) = flat_map starts (functions_pieces o s (entries_after i es) (i + 1) fs) in
    let joined : flat_map starts (functions_pieces o s es i (f ∷ fs)) ≡ lines ++ rest =
    flat_map-append starts (function_pieces o s i (hints_of_next i es) f) (functions_pieces o s (entries_after i es) (i + 1) fs)
    ∙ ap (λ (ls : List (Option ℕ)). ls ++ rest) own.are in
    subst (Follows low high (body_places f.body ++ flat_map (λ g. body_places g.body) fs)) (sym joined)
    (follows_both low high (body_places f.body) (flat_map (λ g. body_places g.body) fs) lines rest
    (own_follow low high own.closes (hints_of_next i es) f (of_next_hints (IsElsewhere low high) i es all))
    (functions_follow low high o s flat whole (entries_after i es) (of_hints_after (IsElsewhere low high) i es all) (i + 1) fs))

-- ---- where the lines of a function occur, without those of hints

-- The lines of a function occur in the list, one after the other.
pub record Stands (f : PlacedFunction) (ls : List (Option ℕ)) : Type 0 where
  pub closes : Bool
  pub at : ℕ
  pub stands : StandsAt at (kept_lines closes f) ls

Stands-left : {f : PlacedFunction} {xs : List (Option ℕ)} (ys : List (Option ℕ)) → Stands f xs → Stands f (xs ++ ys)
Stands-left {f} {xs} ys h = record { closes = h.closes; at = h.at; stands = stands_left h.at (kept_lines h.closes f) xs ys h.stands }

Stands-right : {f : PlacedFunction} (xs : List (Option ℕ)) {ys : List (Option ℕ)} → Stands f ys → Stands f (xs ++ ys)
Stands-right {f} xs {ys} h =
    record { closes = h.closes; at = length xs + h.at; stands = stands_right h.at (kept_lines h.closes f) xs ys h.stands }

module _ (ps : List ℕ) (f : PlacedFunction) where
  -- The lines of the function occur in the list without the lines of these places.
  abbrev StandsKept : List (Option ℕ) → Type 0
  StandsKept ls = Stands f (lines_without ps ls)

  -- Lines of a function that occur in a list also occur in it joined with lists before and after it.
  left_stands : (xs ys : List (Option ℕ)) → StandsKept xs → StandsKept (xs ++ ys)
  left_stands xs ys h = subst (Stands f) (sym (lines_without-append ps xs ys)) (Stands-left (lines_without ps ys) h)

  right_stands : (xs ys : List (Option ℕ)) → StandsKept ys → StandsKept (xs ++ ys)
  right_stands xs ys h = subst (Stands f) (sym (lines_without-append ps xs ys)) (Stands-right (lines_without ps xs) h)

  function_stands : (o : Options) (s : Scope) → s.folding ≡ None → o.skeleton ≡ false → AllByRecursion (IsKept ps) (body_places f.body) →
      (es : List FunctionHints) → OfEntries (IsHint ps) es → (n i : ℕ) (fs : List PlacedFunction) → slice_get fs i ≡ Some f →
      StandsKept (flat_map starts (functions_pieces o s es n fs))
  unfolding functions_pieces
  function_stands o s flat whole body es all n i [] e = absurd cc
  function_stands o s flat whole body es all n zero (g ∷ fs) e =
      let hs = hints_of_next n es in
      let same : g ≡ f = some_is g f e in
      let own = function_begins o s flat n hs g whole in
      let rest : List Piece = functions_pieces o s (entries_after n es) (n + 1) fs in
      let its : lines_without ps (own_lines own.closes hs g) ≡ kept_lines own.closes g =
      own_kept ps own.closes hs g (of_next_hints (IsHint ps) n es all)
      (subst (λ (h : PlacedFunction). AllByRecursion (IsKept ps) (body_places h.body)) (sym same) body) in
      let lines : lines_without ps (flat_map starts (function_pieces o s n hs g)) ≡ kept_lines own.closes f =
      ap (lines_without ps) own.are ∙ its ∙ ap (kept_lines own.closes) same in
      let here : Stands f (kept_lines own.closes f) = record {
        closes = own.closes;
        at = 0;
        stands = λ k x h. let zeros : 0 + k ≡ k = omega arith in ap (slice_get (kept_lines own.closes f)) zeros ∙ h;
      } in
      subst StandsKept (sym (flat_map-append starts (function_pieces o s n hs g) rest))
      (left_stands (flat_map starts (function_pieces o s n hs g)) (flat_map starts rest) (subst (Stands f) (sym lines) here))
  function_stands o s flat whole body es all n (suc i) (g ∷ fs) e =
      let own : List Piece = function_pieces o s n (hints_of_next n es) g in
      let rest : List Piece = functions_pieces o s (entries_after n es) (n + 1) fs in
      subst StandsKept (sym (flat_map-append starts own rest))
      (right_stands (flat_map starts own) (flat_map starts rest)
      (function_stands o s flat whole body (entries_after n es) (of_hints_after (IsHint ps) n es all) (n + 1) i fs e))

-- ---- joined parts

parts_joined : (xs ys : List Part) → part_lines (xs ++ ys) ≡ part_lines xs ++ part_lines ys
parts_joined xs ys = flat_map-append part_starts xs ys

-- If no section is refused, the layout contains the lines of all parts.
laid_lines : (parts : List Part) → (laid_parts parts).refused ≡ None → flat_map starts (laid_parts parts).pieces ≡ part_lines parts
laid_lines [] e = refl
laid_lines (Shown ps ∷ parts) e =
    flat_map-append starts ps (laid_parts parts).pieces ∙ ap (λ (ls : List (Option ℕ)). flat_map starts ps ++ ls) (laid_lines parts e)
laid_lines (Stops ps id ∷ parts) e = absurd cc

-- ---- the module

-- If the options do not ask for folding, operators are not folded.
nothing_folds : (b : Bool) (f : Option Folding) → b ≡ false → cond b f None ≡ None
nothing_folds true f e = absurd cc
nothing_folds false f e = refl

-- Whether the code section is among sections of these kinds
abbrev has_code : List Kind → Bool
has_code [] = false
has_code (CodeSection ∷ kinds) = true
has_code (_ ∷ kinds) = has_code kinds

-- The lines of a module: the first line, those of its parts, and the line of its closing parenthesis if it has one
-- of its own
abbrev pub module_lines : Bool → ℕ → List Part → List (Option ℕ)
module_lines b size parts = Some 0 ∷ ((part_lines parts ++ closing_lines size b) ++ [])

module _ (o : Options) (answers : Answers) (m : PlacedModule) where
  abbrev pub own_names : Names
  own_names = module_names o.synthesizes m

  abbrev pub own_parts : List Part
  own_parts = module_parts o answers own_names m

  whole_begins : (ps : List Piece) (ls : List (Option ℕ)) → flat_map starts ps ≡ ls →
      (b : Bool) × (flat_map starts (module_pieces_of o own_names m.size ps None) ≡ Some 0 ∷ ((ls ++ closing_lines m.size b) ++ []))
  unfolding group_at
  whole_begins ps ls e =
      let name : List Piece = leading_id_and_name_pieces own_names.module_name in
      let inner : List Piece = name ++ ps in
      let closes : Bool = o.offsets || has_break inner in
      let last : List Piece = close (Some m.size) 0 closes in
      let are : flat_map starts inner ≡ ls =
      flat_map-append starts name ps ∙ ap₂ (λ (xs ys : List (Option ℕ)). xs ++ ys) (leading_id_and_name_stays own_names.module_name).begins e in (
        closes,
        ap (λ (xs : List (Option ℕ)). Some 0 ∷ xs)
            (flat_map-append starts (inner ++ last) (EndLine ∷ [])
            ∙ ap (λ (xs : List (Option ℕ)). xs ++ [])
            (flat_map-append starts inner last ∙ ap₂ (λ (xs ys : List (Option ℕ)). xs ++ ys) are (close_begins m.size 0 closes))),
      )

  pub module_begins : refusal o answers m ≡ None →
      (b : Bool) × (flat_map starts (module_pieces o answers m) ≡ module_lines b m.size own_parts)
  unfolding module_pieces module_pieces_with
  module_begins e =
      let laid : Laid = laid_parts own_parts in
      let all = whole_begins laid.pieces (part_lines own_parts) (laid_lines own_parts e) in
      (all.0, ap (λ (r : Option ℕ). flat_map starts (module_pieces_of o own_names m.size laid.pieces r)) e ∙ all.1)

  -- ---- the sections

  abbrev customs_at : Option Kind → List Part
  customs_at place = parts_at o.skeleton answers place 0 m.customs

  abbrev own_scope : Scope
  own_scope = early_scope o own_names m

  abbrev own_fields : Kind → List Piece
  own_fields kind = section_pieces o own_scope m kind

  abbrev sections_of : List Kind → List Part
  sections_of kinds = flat_map (section_parts o own_scope m answers) kinds

  abbrev functions_before : ℕ
  functions_before = length (imported_types func_import (without_places m.imports))

  -- The lines of sections are those of the first section, its custom sections, and the other sections.
  section_joined : (kind : Kind) (kinds : List Kind) →
      part_lines (sections_of (kind ∷ kinds))
      ≡ (flat_map starts (own_fields kind) ++ part_lines (customs_at (Some kind))) ++ part_lines (sections_of kinds)
  section_joined kind kinds = parts_joined (section_parts o own_scope m answers kind) (sections_of kinds)

  -- ---- the places of the code section's interval increase

  -- The places of that interval that a section has
  abbrev inner_places : Kind → List ℕ
  inner_places CodeSection = flat_map (λ f. body_places f.body) m.functions
  inner_places _ = []

  module _ (a : IsApart m) (unfolded : o.folds ≡ false) where
    flat : own_scope.folding ≡ None
    flat = nothing_folds o.folds _ unfolded

    -- The lines follow these places of the interval.
    abbrev Follow : List ℕ → List (Option ℕ) → Type 0
    Follow ps ls = Follows a.low a.high ps ls

    abbrev AreOut : List ℕ → Type 0
    AreOut ps = AllByRecursion (IsOutside a.low a.high) ps

    customs_out : (place : Option Kind) → AreElsewhere a.low a.high (part_lines (customs_at place))
    customs_out place = customs_elsewhere a.low a.high o.skeleton answers place 0 m.customs a.customs

    -- Fields of one line each, with places elsewhere, follow no place of the interval.
    lines_out : {A : Type 0} (xs : List (Placed A)) {ls : List (Option ℕ)} → ls ≡ placed_lines xs → AreOut (places xs) → Follow [] ls
    lines_out xs {ls} e h =
        follows_elsewhere a.low a.high ls (subst (AreElsewhere a.low a.high) (sym e) (placed_elsewhere a.low a.high xs h))

    items_out : {A : Type 0} (write : ℕ → Placed A → List Piece) →
        ((i : ℕ) (x : Placed A) → flat_map starts (write i x) ≡ Some x.place ∷ []) → (i : ℕ)
        (xs : List (Placed A)) → AreOut (places xs) → Follow [] (flat_map starts (numbered_pieces write i xs))
    items_out write one i xs h = lines_out xs (numbered_begin write one i xs) h

    -- Only functions have places of the interval, and these in order.
    fields_follow : o.skeleton ≡ false → (kind : Kind) → Follow (inner_places kind) (flat_map starts (own_fields kind))
    fields_follow whole TypeSection = follows_elsewhere a.low a.high _ (types_elsewhere a.low a.high own_names 0 m.types a.types)
    fields_follow whole ImportSection = lines_out m.imports (imports_begin own_scope no_numbers m.imports) a.imports
    fields_follow whole FunctionSection = follows_none a.low a.high
    fields_follow whole TableSection = items_out (table_pieces own_scope) (table_begins own_scope flat) _ m.tables a.tables
    fields_follow whole MemorySection = items_out (memory_pieces own_scope) (memory_begins own_scope) _ m.memories a.memories
    fields_follow whole TagSection = items_out (tag_pieces own_scope) (tag_begins own_scope) _ m.tags a.tags
    fields_follow whole GlobalSection = items_out (global_pieces own_scope) (global_begins own_scope flat) _ m.globals a.globals
    fields_follow whole ExportSection =
        items_out (λ i e. export_pieces own_scope e) (λ i e. export_begins own_scope e) 0 m.exports a.exports
    fields_follow whole StartSection = follows_elsewhere a.low a.high _ (start_elsewhere a.low a.high own_scope m.start a.start)
    fields_follow whole ElementSection =
        items_out (element_pieces o.skeleton own_scope) (element_begins o.skeleton own_scope flat) 0 m.elements a.elements
    fields_follow whole DataCountSection = follows_none a.low a.high
    fields_follow whole CodeSection =
        functions_follow a.low a.high o own_scope flat whole (hints_of m.customs) a.hints functions_before m.functions
    fields_follow whole DataSection =
        let s : Scope = scope_after m own_scope in
        items_out (data_pieces o.skeleton s) (data_begins o.skeleton s flat) 0 m.data_segments a.data_segments
    fields_follow whole CustomSection = follows_none a.low a.high

    sections_follow : o.skeleton ≡ false → (kinds : List Kind) → Follow (flat_map inner_places kinds) (part_lines (sections_of kinds))
    sections_follow whole [] = follows_none a.low a.high
    sections_follow whole (kind ∷ kinds) =
        let fields : List (Option ℕ) = flat_map starts (own_fields kind) in
        let customs : List (Option ℕ) = part_lines (customs_at (Some kind)) in
        let own : Follow (inner_places kind) (fields ++ customs) =
        follows_then a.low a.high (inner_places kind) fields customs (fields_follow whole kind) (customs_out (Some kind)) in
        subst (Follow (inner_places kind ++ flat_map inner_places kinds)) (sym (section_joined kind kinds))
        (follows_both a.low a.high (inner_places kind) (flat_map inner_places kinds) (fields ++ customs) (part_lines (sections_of kinds))
        own (sections_follow whole kinds))

    closing_out : (place : ℕ) (b : Bool) → IsOutside a.low a.high place → AreElsewhere a.low a.high (closing_lines place b)
    closing_out place true h = (h, tt)
    closing_out place false h = tt

    parts_follow : o.skeleton ≡ false → Follow (flat_map inner_places section_order) (part_lines own_parts)
    unfolding module_parts
    parts_follow whole =
        let first : List Part = customs_at None in
        let all : List ℕ = flat_map inner_places section_order in
        subst (Follow all) (sym (parts_joined first (sections_of section_order)))
        (follows_both a.low a.high [] all (part_lines first) (part_lines (sections_of section_order))
        (follows_elsewhere a.low a.high (part_lines first) (customs_out None)) (sections_follow whole section_order))

    -- Among all lines of the module, the places of the code section's interval increase.
    pub module_rises : (b : Bool) → o.skeleton ≡ false → RisesAmong a.low a.high a.low (module_lines b m.size own_parts)
    module_rises b whole =
        let bodies : List ℕ = flat_map (λ f. body_places f.body) m.functions in
        let rise : Rises a.low ((bodies ++ []) ++ []) a.high =
        subst (λ (ps : List ℕ). Rises a.low ps a.high) (sym (append-nil (bodies ++ []) ∙ append-nil bodies)) a.bodies in
        let follow : Follow (bodies ++ []) (part_lines own_parts ++ closing_lines m.size b) =
        follows_then a.low a.high (bodies ++ []) (part_lines own_parts) (closing_lines m.size b)
        (parts_follow whole) (closing_out m.size b (inr a.last)) in
        inl (inl a.first, follow a.low [] [] rise (λ q h. tt))

  -- ---- the lines of a function occur among those of the module

  module _ (ps : List ℕ) (f : PlacedFunction) (own : StandsKept ps f (flat_map starts (own_fields CodeSection))) where
    sections_stand : (kinds : List Kind) → has_code kinds ≡ true → StandsKept ps f (part_lines (sections_of kinds))
    sections_stand [] e = absurd cc
    sections_stand (CodeSection ∷ kinds) e =
        let fields : List (Option ℕ) = flat_map starts (own_fields CodeSection) in
        let customs : List (Option ℕ) = part_lines (customs_at (Some CodeSection)) in
        subst (StandsKept ps f) (sym (section_joined CodeSection kinds))
        (left_stands ps f (fields ++ customs) (part_lines (sections_of kinds)) (left_stands ps f fields customs own))
    sections_stand (kind ∷ kinds) e =
        let lines : List (Option ℕ) = flat_map starts (own_fields kind) ++ part_lines (customs_at (Some kind)) in
        subst (StandsKept ps f) (sym (section_joined kind kinds))
        (right_stands ps f lines (part_lines (sections_of kinds)) (sections_stand kinds e))

    parts_stand : StandsKept ps f (part_lines own_parts)
    unfolding module_parts
    parts_stand =
        let first : List Part = customs_at None in
        subst (StandsKept ps f) (sym (parts_joined first (sections_of section_order)))
        (right_stands ps f (part_lines first) (part_lines (sections_of section_order)) (sections_stand section_order refl))

  -- Without the lines of hints, the lines of a function occur among those of the module.
  pub module_stands : (b : Bool) → o.folds ≡ false → o.skeleton ≡ false → (i : ℕ) (f : PlacedFunction) → slice_get m.functions i ≡ Some f →
      AllByRecursion (IsKept (hint_places m)) (body_places f.body) →
      Stands f (lines_without (hint_places m) (module_lines b m.size own_parts))
  module_stands b unfolded whole i f e body =
      let ps : List ℕ = hint_places m in
      let inner : List (Option ℕ) = part_lines own_parts ++ closing_lines m.size b in
      let own : StandsKept ps f (flat_map starts (own_fields CodeSection)) =
      function_stands ps f o own_scope (nothing_folds o.folds _ unfolded) whole body (hints_of m.customs) (each_among ps)
      functions_before i m.functions e in
      let closed : StandsKept ps f inner = left_stands ps f (part_lines own_parts) (closing_lines m.size b) (parts_stand ps f own) in
      right_stands ps f (Some 0 ∷ []) (inner ++ []) (left_stands ps f inner [] closed)
