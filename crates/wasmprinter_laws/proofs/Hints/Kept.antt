-- The hints of a module whose hint section is well formed are those of its text, which has no other hint annotation.
use Rattle.std.proofs.Common.{◌≡◌, ℕ, ◌+◌, ◌&&◌, Bool, true, false, cond, List, [], ◌∷◌, ◌++◌, Option, Some, None, refl, sym, ap, ◌∙◌, subst, codes, length, map, arith, append-nil}
use Rattle.std.proofs.lemmas.Bool.{and_parts, or_parts, eq-eqb}
use Rattle.std.specs.List.{list_any}
use Rattle.wasmprinter_spec.specs.Choices.{tested}
use Rattle.wasmprinter_spec.specs.Grammar.{◌>>=◌}
use Rattle.wasmprinter_spec.specs.Forest.{Forest, End, Word, Group, onto}
use Rattle.wasmprinter_spec.specs.Call.{text_of}
use Rattle.wasmprinter_spec.specs.Options.{Options, Answers}
use Rattle.wasmprinter_spec.specs.Kinds.{Kind, CustomSection, TypeSection, ImportSection, FunctionSection, TableSection, MemorySection, TagSection, GlobalSection, ExportSection, StartSection, ElementSection, DataCountSection, CodeSection, DataSection}
use Rattle.wasmprinter_spec.specs.Types.{FuncKind}
use Rattle.wasmprinter_spec.specs.Customs.Hints.{FunctionHints, hints_of}
use Rattle.wasmprinter_spec.specs.HintsOfModule.{OperatorHint, all_hints, rise, offsets_rise, module_hints}
use Rattle.wasmprinter_spec.specs.Placed.{PlacedModule}
use Rattle.wasmprinter_spec.specs.Names.{Names, AreNamed}
use Rattle.wasmprinter_spec.specs.ModuleNames.{module_names}
use Rattle.wasmprinter_spec.specs.Module.{without_places, imported_types, func_import}
use Rattle.wasmprinter_spec.specs.Folding.Refusals.{misplaced_hints_from, misplaced_hints}
use Rattle.wasmprinter_spec.specs.Layout.Declarations.{Folding, folding_of}
use Rattle.wasmprinter_spec.specs.Layout.Imports.{no_numbers}
use Rattle.wasmprinter_spec.specs.Layout.{section_order, pieces_by}
use Rattle.wasmprinter_spec.specs.Laws.{HintsStay}
use Rattle.wasmprinter_spec.specs.Text.Hints.{text_hints, forest_hints, hint_count, if_all}
use Rattle.wasmprinter_laws.proofs.Tokens.Noted.{Noted, no_items, a_word, a_group}
use Rattle.wasmprinter_laws.proofs.Tokens.Writes.{writes_forest}
use Rattle.wasmprinter_laws.proofs.Ranged.{IsRanged}
use Rattle.wasmprinter_laws.proofs.Ranges.{ranged}
use Rattle.wasmprinter_laws.proofs.GivenNames.{module_names_named}
use Rattle.wasmprinter_laws.proofs.Identifiers.{id_items}
use Rattle.wasmprinter_laws.proofs.Fields.Functions.{functions_hinted}
use Rattle.wasmprinter_laws.proofs.Back.{early, before, signatures_ranged, numbers_fit}
use Rattle.wasmprinter_laws.proofs.Foldable.{CanFold}
use Rattle.wasmprinter_laws.proofs.AsAsked.{layout_as_asked, refused_as_asked, folds_where_asked, can_fold_as_asked, uncolored_as_asked}
use Rattle.wasmprinter_laws.proofs.Written.{fields_noted, fields_write, noting, noted, kinds_noted, module_noted, module_writes}
use Rattle.wasmprinter_laws.proofs.Hints.Bodies.{all_taken}
use Rattle.wasmprinter_laws.proofs.Folded.Lists.{IsUncolored, is_folding}
use Rattle.wasmprinter_laws.proofs.Hints.Fields.{HasHints, no_hints, notes_before, id_before, rows_before, start_before, types_before, imports_before, functions_before}
use Rattle.wasmprinter_laws.proofs.Hints.Taken.{functions_take}
use Rattle.wasmprinter_laws.proofs.Hints.Counts.{noted_count, hint_count-onto, after_count, written_count, id_count, notes_count}
use Rattle.wasmprinter_laws.proofs.Hints.CountedBodies.{functions_count}

at_number : {i k : ℕ} {g : Forest} {hs : List OperatorHint} → i ≡ k → HasHints i g hs → HasHints k g hs
at_number {g = g} {hs = hs} e h = subst (λ i. HasHints i g hs) e h

module _ (folding : Option Folding) (bare : IsUncolored folding) (o : Options) (whole : o.skeleton ≡ false) (names : Names) (named : AreNamed names) (m : PlacedModule) (h : IsRanged m)
    (foldable : CanFold folding m) (placed : is_folding folding ≡ true → misplaced_hints o m ≡ []) (answers : Answers) where
  abbrev own_taken : List OperatorHint
  own_taken = all_taken (hints_of m.customs) (before folding names m FuncKind) m.functions

  -- The annotations of custom sections have no hints.
  place_before : (place : Option Kind) {i : ℕ} {g : Forest} {hs : List OperatorHint} → HasHints i g hs → HasHints i (onto (noted folding bare o names named m h answers place) g) hs
  place_before place x = notes_before (noted folding bare o names named m h answers place) (noting folding bare o names named m h answers place).are x

  -- If operators are folded, each hint is on an operator that can have one.
  hints_fit : is_folding folding ≡ true → misplaced_hints_from (hints_of m.customs) (before folding names m FuncKind) m.functions ≡ []
  hints_fit e = ap (λ s. cond s [] (misplaced_hints_from (hints_of m.customs) (before folding names m FuncKind) m.functions)) (sym whole) ∙ placed e

  -- Reports whether the fields of a section of this kind are functions or may import some.
  abbrev has_functions : Kind → Bool
  has_functions ImportSection = true
  has_functions CodeSection = true
  has_functions _ = false

  -- All other fields have no hints and do not change the number of the next function.
  fields_before : (k : Kind) → has_functions k ≡ false → {i : ℕ} {g : Forest} {hs : List OperatorHint} → HasHints i g hs →
      HasHints i (onto (fields_noted folding bare o names named m h k) g) hs
  fields_before TypeSection e x = types_before names 0 m.types x
  fields_before ImportSection e x = absurd cc
  fields_before FunctionSection e x = x
  fields_before StartSection e x = start_before (early folding names m) m.start x
  fields_before DataCountSection e x = x
  fields_before CodeSection e x = absurd cc
  fields_before CustomSection e x = x
  fields_before _ e x = rows_before _ (refl, refl) _ _ _ x

  abbrev own_kinds : List Kind → Forest
  own_kinds = kinds_noted folding bare o names named m h answers

  -- Sections without functions, before other sections, have no hints.
  kinds_before : (ks others : List Kind) → list_any has_functions ks ≡ false → {i : ℕ} {hs : List OperatorHint} →
      HasHints i (own_kinds others) hs → HasHints i (own_kinds (ks ++ others)) hs
  kinds_before [] others e x = x
  kinds_before (k ∷ ks) others e x =
      let parts = or_parts (has_functions k) (list_any has_functions ks) e in
      fields_before k parts.0 (place_before (Some k) (kinds_before ks others parts.1 x))

  functions_have : HasHints (before folding names m FuncKind) (own_kinds (CodeSection ∷ DataSection ∷ [])) own_taken
  functions_have =
      let i : ℕ = before folding names m FuncKind in
      let n : ℕ = i + length m.functions in
      let after = place_before (Some CodeSection) (kinds_before (DataSection ∷ []) [] refl (no_hints n)) in
      let rest : Forest = onto (noted folding bare o names named m h answers (Some CodeSection)) (own_kinds (DataSection ∷ [])) in
      subst (λ t. HasHints i (onto (functions_hinted t (early folding names m) (hints_of m.customs) i m.functions) rest) own_taken) (sym whole)
      (subst (HasHints i (onto (functions_hinted false (early folding names m) (hints_of m.customs) i m.functions) rest)) (append-nil own_taken)
      (functions_before (early folding names m) named (signatures_ranged folding names m h) (hints_of m.customs) i m.functions h.each_function
      foldable.functions hints_fit after))

  fields_have : HasHints 0 (onto (id_items names.module_name) (module_noted folding bare o names named m h answers)) own_taken
  unfolding module_noted
  fields_have =
      let defined : List Kind =
      FunctionSection ∷ TableSection ∷ MemorySection ∷ TagSection ∷ GlobalSection ∷ ExportSection ∷ StartSection ∷ ElementSection ∷ [] in
      let after = place_before (Some ImportSection) (kinds_before defined (CodeSection ∷ DataSection ∷ []) refl functions_have) in
      let imports = imports_before (early folding names m) no_numbers m.imports (at_number (omega arith) after) in
      id_before names.module_name (place_before None (fields_before TypeSection refl (place_before (Some TypeSection) imports)))

  -- The text of the module's pieces has the hints that its functions take.
  forest_has : (z : Forest) → Noted z (Group (Word (codes "module") (onto (id_items names.module_name) (module_noted folding bare o names named m h answers))) End) →
      forest_hints z ≡ Some own_taken
  forest_has _ (a_group (a_word {f = y} n) no_items) = fields_have.law y n

  -- ---- no other hints

  -- The number of hints in the text of a section: functions have all of them.
  abbrev section_count : Kind → ℕ
  section_count CodeSection = length own_taken
  section_count _ = 0

  abbrev sections_count : List Kind → ℕ
  sections_count [] = 0
  sections_count (k ∷ ks) = section_count k + sections_count ks

  fields_count : (k : Kind) → hint_count (fields_noted folding bare o names named m h k) ≡ section_count k
  fields_count CodeSection =
      let i : ℕ = before folding names m FuncKind in
      subst (λ t. hint_count (functions_hinted t (early folding names m) (hints_of m.customs) i m.functions) ≡ length own_taken) (sym whole)
      (functions_count (early folding names m) named (signatures_ranged folding names m h) bare (hints_of m.customs) i m.functions
      (numbers_fit folding names m h FuncKind _ h.functions) h.each_function foldable.functions hints_fit)
  fields_count k = written_count (fields_write folding bare o names named m h k)

  place_count : (place : Option Kind) (f : Forest) → hint_count (onto (noted folding bare o names named m h answers place) f) ≡ hint_count f
  place_count place f =
      let a : Forest = noted folding bare o names named m h answers place in
      after_count a f (notes_count a (noting folding bare o names named m h answers place).are)

  kinds_count : (ks : List Kind) → hint_count (own_kinds ks) ≡ sections_count ks
  kinds_count [] = refl
  kinds_count (k ∷ ks) =
      let after : Forest = onto (noted folding bare o names named m h answers (Some k)) (own_kinds ks) in
      omega (arith, hint_count-onto (fields_noted folding bare o names named m h k) after, fields_count k, place_count (Some k) (own_kinds ks), kinds_count ks)

  module_count : hint_count (onto (id_items names.module_name) (module_noted folding bare o names named m h answers)) ≡ length own_taken
  unfolding module_noted
  module_count =
      after_count (id_items names.module_name) (onto (noted folding bare o names named m h answers None) (own_kinds section_order)) (id_count names.module_name)
      ∙ place_count None (own_kinds section_order)
      ∙ omega (arith, kinds_count section_order)

  -- Each hint annotation of the text gives one hint.
  all_given : (z : Forest) → Noted z (Group (Word (codes "module") (onto (id_items names.module_name) (module_noted folding bare o names named m h answers))) End) →
      (forest_hints z >>= if_all z) ≡ Some own_taken
  all_given z n =
      let count : hint_count z ≡ length own_taken = noted_count n ∙ omega (arith, module_count) in
      rw (forest_has z n, eq-eqb (length own_taken) (hint_count z) (sym count)) refl

-- The entries of a well-formed section
record AreWellFormed (m : PlacedModule) (hs : List OperatorHint) : Type 0 where
  functions_up : rise (map (λ e. e.function) (hints_of m.customs)) ≡ true
  offsets_up : offsets_rise (hints_of m.customs) ≡ true
  all : all_hints (length (imported_types func_import (without_places m.imports))) m.functions (hints_of m.customs) ≡ Some hs

well_formed : (m : PlacedModule) (hs : List OperatorHint) → module_hints m ≡ Some hs → AreWellFormed m hs
well_formed m hs e =
    let es : List FunctionHints = hints_of m.customs in
    let t = tested (rise (map (λ x. x.function) es) && offsets_rise es) (all_hints (length (imported_types func_import (without_places m.imports))) m.functions es) hs e in
    let parts = and_parts (rise (map (λ x. x.function) es)) (offsets_rise es) t.0 in
    record { functions_up = parts.0; offsets_up = parts.1; all = t.1 }

pub hints_stay : HintsStay
hints_stay bytes m o answers hs spelled whole plain spaces foldable none e =
    let h : IsRanged m = ranged bytes m spelled in
    let names : Names = module_names o.synthesizes m in
    let named : AreNamed names = module_names_named o.synthesizes m h in
    let own : Option Folding = folding_of o m in
    let bare : IsUncolored own = uncolored_as_asked o m plain in
    let w = module_writes own bare o names named m h answers (sym (refused_as_asked o answers m) ∙ none) in
    let is : AreWellFormed m hs = well_formed m hs e in
    let taken : all_taken (hints_of m.customs) (before own names m FuncKind) m.functions ≡ hs =
    functions_take (before own names m FuncKind) m.functions h.each_function (hints_of m.customs) is.functions_up is.offsets_up hs is.all in
    ap (λ cs. text_hints (text_of cs)) (layout_as_asked o answers m)
    ∙ ap (λ f. f >>= λ z. forest_hints z >>= if_all z) (writes_forest o spaces (pieces_by own o answers names m) w)
    ∙ all_given own bare o whole names named m h (can_fold_as_asked o m whole foldable) (λ t. foldable.hints (folds_where_asked o m t)) answers w.whole w.noted
    ∙ ap (λ t. Some t) taken
