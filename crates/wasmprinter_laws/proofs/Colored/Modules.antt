-- A module whose folded operators have colors in their text, and the same module without colors.
use Rattle.std.proofs.Common.{◌≡◌, ℕ, ◌+◌, ◌||◌, List, [], ◌∷◌, ◌++◌, Bool, true, false, Option, Some, None, cond, codes, refl, subst}
use Rattle.std.specs.List.{flat_map}
use Rattle.wasmprinter_spec.specs.Grammar.{Placed}
use Rattle.wasmprinter_spec.specs.Types.{signature_at}
use Rattle.wasmprinter_spec.specs.Row.{Func}
use Rattle.wasmprinter_spec.specs.Kinds.{Kind, CustomSection, TypeSection, ImportSection, FunctionSection, TableSection, MemorySection, TagSection, GlobalSection, ExportSection, StartSection, ElementSection, DataCountSection, CodeSection, DataSection}
use Rattle.wasmprinter_spec.specs.Customs.Hints.{Hint, FunctionHints, hints_of, hints_of_next, entries_after}
use Rattle.wasmprinter_spec.specs.Names.{Names}
use Rattle.wasmprinter_spec.specs.ModuleNames.{module_names}
use Rattle.wasmprinter_spec.specs.Indexed.{parameter_count}
use Rattle.wasmprinter_spec.specs.Placed.{Body, PlacedFunction, PlacedModule}
use Rattle.wasmprinter_spec.specs.Options.{Options, Answers}
use Rattle.wasmprinter_spec.specs.Piece.{Piece}
use Rattle.wasmprinter_spec.specs.Folding.Arities.{Signatures, signatures_within}
use Rattle.wasmprinter_spec.specs.Layout.Groups.{group_at, group_space_at}
use Rattle.wasmprinter_spec.specs.Layout.Identifiers.{leading_id_and_name_pieces}
use Rattle.wasmprinter_spec.specs.Layout.Declarations.{Scope, scope_of_function, Folding}
use Rattle.wasmprinter_spec.specs.Layout.Types.{type_section_pieces}
use Rattle.wasmprinter_spec.specs.Layout.Functions.{local_pieces, over_lines, result_count, body_pieces, inner_pieces, function_group, function_pieces, functions_pieces}
use Rattle.wasmprinter_spec.specs.Layout.Imports.{no_numbers}
use Rattle.wasmprinter_spec.specs.Layout.Customs.{Part, Shown, Stops, parts_at, Laid, laid_parts}
use Rattle.wasmprinter_spec.specs.Layout.{scope_before, section_pieces, section_order, section_parts, module_parts, module_pieces_of, module_pieces_with, module_pieces, parts_by, pieces_by, refusal}
use Rattle.wasmprinter_laws.proofs.Colored.Recolored.{Recolored, none, same, same_all, both, after, closed, in_line_group_space, numbered_so}
use Rattle.wasmprinter_laws.proofs.Colored.Nodes.{Bared, flat, folded, body_so}
use Rattle.wasmprinter_laws.proofs.Colored.Fields.{in_way, table_so, global_so, element_so, data_so, imports_same, memory_same, header_same, tag_same, export_same, start_same}

-- The options without colors.
abbrev pub without_color : Options → Options
without_color o = record o { color = false }

-- ---- functions

in_group_space_at : {ps qs : List Piece} (offsets : Bool) (place nesting : ℕ) (w : List ℕ) → Recolored ps qs →
    Recolored (group_space_at offsets place nesting w ps) (group_space_at offsets place nesting w qs)
unfolding group_space_at
in_group_space_at offsets place nesting w h = same (closed (Some place) nesting (λ b. offsets || b) h)

module _ (x y : Option Folding) (d : Bared x y) where
  body_pieces_so : (s : Scope) (t : ℕ) (hs : List (Placed Hint)) (b : Placed Body) →
      Recolored (body_pieces (in_way s x) t hs b) (body_pieces (in_way s y) t hs b)
  unfolding body_pieces
  body_pieces_so s t hs b = body_so d (result_count s t) (over_lines s b.place) hs b.value.operators

  inner_so : (s : Scope) (hs : List (Placed Hint)) (f : PlacedFunction) →
      Recolored (inner_pieces (in_way s x) hs f) (inner_pieces (in_way s y) hs f)
  unfolding inner_pieces
  inner_so s hs f =
      after (local_pieces s.names s.function (parameter_count (signature_at s.types f.type_index)) f.body.value.locals)
      (body_pieces_so s f.type_index hs f.body)

  group_so : (skeleton offsets : Bool) (s : Scope) (hs : List (Placed Hint)) (f : PlacedFunction) →
      Recolored (function_group skeleton offsets (in_way s x) hs f) (function_group skeleton offsets (in_way s y) hs f)
  unfolding function_group
  group_so true offsets s hs f =
      in_line_group_space (codes "func") (both (header_same x y s Func (Some s.function) s.function f.type_index) (same (same none)))
  group_so false offsets s hs f =
      in_group_space_at offsets f.body.value.end 1 (codes "func")
      (both (header_same x y s Func (Some s.function) s.function f.type_index) (inner_so s hs f))

  function_so : (o : Options) (s : Scope) (i : ℕ) (hs : List (Placed Hint)) (f : PlacedFunction) →
      Recolored (function_pieces o (in_way s x) i hs f) (function_pieces (without_color o) (in_way s y) i hs f)
  unfolding function_pieces
  function_so o s i hs f = same (group_so o.skeleton o.offsets (scope_of_function s i) hs f)

  functions_so : (o : Options) (s : Scope) (es : List FunctionHints) (i : ℕ) (fs : List PlacedFunction) →
      Recolored (functions_pieces o (in_way s x) es i fs) (functions_pieces (without_color o) (in_way s y) es i fs)
  unfolding functions_pieces
  functions_so o s es i [] = none
  functions_so o s es i (f ∷ fs) = both (function_so o s i (hints_of_next i es) f) (functions_so o s (entries_after i es) (i + 1) fs)

-- ---- parts

-- Two lists of the parts of a module. They are the same, except that parts of the first may have colors in their
-- text.
data ColoredParts : List Part → List Part → Type 0 where
  no_parts : ColoredParts [] []
  same_part : {part : Part} {ps qs : List Part} → ColoredParts ps qs → ColoredParts (part ∷ ps) (part ∷ qs)
  shown : {a b : List Piece} {ps qs : List Part} → Recolored a b → ColoredParts ps qs → ColoredParts (Shown a ∷ ps) (Shown b ∷ qs)

same_parts : (ps : List Part) → ColoredParts ps ps
same_parts [] = no_parts
same_parts (p ∷ ps) = same_part (same_parts ps)

-- If `ColoredParts` holds for two pairs of lists, then it holds for the concatenated lists.
infixl 65 ◌and_then◌
◌and_then◌ : {ps qs rs ts : List Part} → ColoredParts ps qs → ColoredParts rs ts → ColoredParts (ps ++ rs) (qs ++ ts)
◌and_then◌ no_parts k = k
◌and_then◌ (same_part h) k = same_part (h and_then k)
◌and_then◌ (shown e h) k = shown e (h and_then k)

-- `Recolored` holds for the pieces of both lists up to a refusal, and the refusal is the same.
laid_so : {ps qs : List Part} → ColoredParts ps qs →
    Recolored (laid_parts ps).pieces (laid_parts qs).pieces × ((laid_parts ps).refused ≡ (laid_parts qs).refused)
laid_so no_parts = (none, refl)
laid_so (same_part {part = Shown a} h) = let rest = laid_so h in (after a rest.0, rest.1)
laid_so (same_part {part = Stops a id} h) = (same_all a, refl)
laid_so (shown e h) = let rest = laid_so h in (both e rest.0, rest.1)

-- ---- sections

module _ (o : Options) (answers : Answers) (m : PlacedModule) (x y : Option Folding) (d : Bared x y) (s : Scope) where
  -- `Recolored` holds for the fields of each section.
  fields_so : (kind : Kind) → Recolored (section_pieces o (in_way s x) m kind) (section_pieces (without_color o) (in_way s y) m kind)
  fields_so TypeSection = same_all (type_section_pieces s.names 0 m.types)
  fields_so ImportSection = imports_same x y s no_numbers m.imports
  fields_so FunctionSection = none
  fields_so TableSection = numbered_so _ _ (table_so x y d s) _ m.tables
  fields_so MemorySection = numbered_so _ _ (memory_same x y s) _ m.memories
  fields_so TagSection = numbered_so _ _ (tag_same x y s) _ m.tags
  fields_so GlobalSection = numbered_so _ _ (global_so x y d s) _ m.globals
  fields_so ExportSection = numbered_so _ _ (λ i e. export_same x y s e) 0 m.exports
  fields_so StartSection = start_same x y s m.start
  fields_so ElementSection = numbered_so _ _ (element_so x y d s o.skeleton) 0 m.elements
  fields_so DataCountSection = none
  fields_so CodeSection = functions_so x y d o s (hints_of m.customs) _ m.functions
  fields_so DataSection = numbered_so _ _ (data_so x y d (scope_of_function s _) o.skeleton) 0 m.data_segments
  fields_so CustomSection = none

  -- The custom sections after each section are the same.
  sections_so : (kinds : List Kind) →
      ColoredParts (flat_map (section_parts o (in_way s x) m answers) kinds)
      (flat_map (section_parts (without_color o) (in_way s y) m answers) kinds)
  sections_so [] = no_parts
  sections_so (kind ∷ kinds) =
      shown (fields_so kind) (same_parts (parts_at o.skeleton answers (Some kind) 0 m.customs)) and_then sections_so kinds

folding_bared : (folds color : Bool) (signatures : Option ℕ → Signatures) →
    Bared (cond folds (Some (record { color = color; signatures = signatures })) None)
    (cond folds (Some (record { color = false; signatures = signatures })) None)
folding_bared true color signatures = folded
folding_bared false color signatures = flat

parts_so : {x y : Option Folding} → Bared x y → (o : Options) (answers : Answers) (names : Names) (m : PlacedModule) →
    ColoredParts (parts_by x o answers names m) (parts_by y (without_color o) answers names m)
unfolding parts_by
parts_so {x} {y} d o answers names m =
    same_parts (parts_at o.skeleton answers None 0 m.customs)
    and_then sections_so o answers m x y d (scope_before x names m) section_order

-- ---- the module

pieces_of_so : (o : Options) (names : Names) (size : ℕ) {ps qs : List Piece} (refused : Option ℕ) → Recolored ps qs →
    Recolored (module_pieces_of o names size ps refused) (module_pieces_of (without_color o) names size qs refused)
unfolding group_at
pieces_of_so o names size None h =
    same (same (both (closed (Some size) 0 (λ b. o.offsets || b) (after (leading_id_and_name_pieces names.module_name) h)) (same none)))
pieces_of_so o names size (Some id) h = same (same (after (leading_id_and_name_pieces names.module_name) h))

-- However operators are folded, the pieces of a module with colors in their text are those without colors, except
-- for the escape sequences of some styles.
pub pieces_so : {x y : Option Folding} → Bared x y → (o : Options) (answers : Answers) (names : Names) (m : PlacedModule) →
    Recolored (pieces_by x o answers names m) (pieces_by y (without_color o) answers names m)
unfolding pieces_by
pieces_so {x} {y} d o answers names m =
    let a : Laid = laid_parts (parts_by x o answers names m) in
    let b : Laid = laid_parts (parts_by y (without_color o) answers names m) in
    let h : Recolored a.pieces b.pieces × (a.refused ≡ b.refused) = laid_so (parts_so d o answers names m) in
    let colored : List Piece = module_pieces_of o names m.size a.pieces a.refused in
    subst (λ (r : Option ℕ). Recolored colored (module_pieces_of (without_color o) names m.size b.pieces r)) h.1
    (pieces_of_so o names m.size a.refused h.0)

-- `pieces_so` for operators folded as the options say.
pub module_so : (o : Options) (answers : Answers) (m : PlacedModule) →
    Recolored (module_pieces o answers m) (module_pieces (without_color o) answers m)
unfolding module_pieces module_pieces_with module_parts pieces_by
module_so o answers m = pieces_so (folding_bared o.folds o.color (signatures_within m)) o answers (module_names o.synthesizes m) m

-- The same section, if any, is refused with and without colors.
pub refusal_so : (o : Options) (answers : Answers) (m : PlacedModule) → refusal o answers m ≡ refusal (without_color o) answers m
unfolding module_parts
refusal_so o answers m = (laid_so (parts_so (folding_bared o.folds o.color (signatures_within m)) o answers (module_names o.synthesizes m) m)).1
