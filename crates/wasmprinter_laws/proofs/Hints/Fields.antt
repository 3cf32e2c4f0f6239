-- The hints of the fields of a module: those of functions. No other field or annotation has a hint.
use Rattle.std.proofs.Common.{◌≡◌, ℕ, ◌+◌, Bool, true, false, List, [], ◌∷◌, ◌++◌, Option, Some, None, refl, sym, subst, codes, bytes_eq, length, arith, append_assoc}
use Rattle.std.specs.List.{AllByRecursion, list_any}
use Rattle.wasmprinter_spec.specs.Grammar.{Placed, ◌>>=◌}
use Rattle.wasmprinter_spec.specs.Forest.{Forest, End, Word, Name, String, Group, Note, onto}
use Rattle.wasmprinter_spec.specs.Types.{ValType, FuncType, SubType, ExternType, FuncExtern, TableExtern, MemoryExtern, GlobalExtern, TagExtern, signature_at}
use Rattle.wasmprinter_spec.specs.Row.{Func}
use Rattle.wasmprinter_spec.specs.Labels.{Named}
use Rattle.wasmprinter_spec.specs.Names.{Names, AreNamed}
use Rattle.wasmprinter_spec.specs.Placed.{TypeGroup, Import, PlacedFunction}
use Rattle.wasmprinter_spec.specs.Module.{without_places, imported_types, with_first_if_any, func_import, locals_of}
use Rattle.wasmprinter_spec.specs.Indexed.{parameter_count}
use Rattle.wasmprinter_spec.specs.Customs.Hints.{Hint, FunctionHints, hints_of_next, entries_after}
use Rattle.wasmprinter_spec.specs.HintsOfModule.{OperatorHint}
use Rattle.wasmprinter_spec.specs.Code.{chunks_of_forest}
use Rattle.wasmprinter_spec.specs.Layout.Variables.{Variables, Alone, Together, variable_groups}
use Rattle.wasmprinter_spec.specs.Layout.Types.{parameters_of}
use Rattle.wasmprinter_spec.specs.Layout.Declarations.{Scope, scope_of_function}
use Rattle.wasmprinter_spec.specs.Layout.Imports.{Numbers, number_of, numbers_after}
use Rattle.wasmprinter_spec.specs.Text.Hints.{header_words, chunk_hints, function_hints_in, field_hints}
use Rattle.wasmprinter_spec.specs.Layout.Functions.{over_lines, result_count}
use Rattle.wasmprinter_spec.specs.Folding.Refusals.{misplaced_hints_in, misplaced_hints_from}
use Rattle.wasmprinter_laws.proofs.Tokens.Grown.{onto_assoc}
use Rattle.wasmprinter_laws.proofs.Tokens.Noted.{Noted, no_items, a_word, a_name, a_noted_name, a_string, a_group, a_note}
use Rattle.wasmprinter_laws.specs.Listed.{AreSignaturesInRange}
use Rattle.wasmprinter_laws.proofs.Folded.Lists.{AreFoldable, is_folding}
use Rattle.wasmprinter_laws.proofs.Ranged.{IsRangedFunction}
use Rattle.wasmprinter_laws.proofs.Identifiers.{id_items}
use Rattle.wasmprinter_laws.proofs.Numbered.{rows}
use Rattle.wasmprinter_laws.proofs.Sorted.{field_rows}
use Rattle.wasmprinter_laws.proofs.Types.Trees.{groups_items, group_items, signature_if_any_items, type_use_items, members_items, type_group_items_by, type_section_items}
use Rattle.wasmprinter_laws.proofs.Fields.Start.{start_items}
use Rattle.wasmprinter_laws.proofs.Fields.Imports.{extern_word, extern_items, imports_items}
use Rattle.wasmprinter_laws.proofs.Fields.Functions.{function_hinted, functions_hinted}
use Rattle.wasmprinter_laws.proofs.Customs.Notes.{AreNotes}
use Rattle.wasmprinter_laws.proofs.Each.{nothing_joined}
use Rattle.wasmprinter_laws.proofs.Hints.FoldedBodies.{list_hints}
use Rattle.wasmprinter_laws.proofs.Hints.Bodies.{taken_hints, all_taken, AreHeader, header_onto, header_noted}

-- Items after `i` functions have these hints, with any annotations after their identifiers.
pub record HasHints (i : ℕ) (g : Forest) (hs : List OperatorHint) : Type 0 where
  pub law : (z : Forest) → Noted z g → field_hints i z ≡ Some hs

pub no_hints : (i : ℕ) → HasHints i End []
no_hints i = record { law = by }
  where
    by : (z : Forest) → Noted z End → field_hints i z ≡ Some []
    by _ no_items = refl

-- ---- fields without hints

pub notes_before : (a : Forest) → AreNotes a → {i : ℕ} {g : Forest} {hs : List OperatorHint} → HasHints i g hs → HasHints i (onto a g) hs
notes_before End h x = x
notes_before (Note id y a) h {i = i} {g = g} {hs = hs} x = record { law = by (notes_before a h.1 x) }
  where
    by : HasHints i (onto a g) hs → (z : Forest) → Noted z (Note id y (onto a g)) → field_hints i z ≡ Some hs
    by more _ (a_note {f = z} m n) = more.law z n
notes_before _ h x = absurd h

pub id_before : (o : Option Named) {i : ℕ} {g : Forest} {hs : List OperatorHint} → HasHints i g hs → HasHints i (onto (id_items o) g) hs
id_before None x = x
id_before (Some d) {i = i} {g = g} {hs = hs} x = record { law = by }
  where
    by : (z : Forest) → Noted z (Name d.content g) → field_hints i z ≡ Some hs
    by _ (a_name {f = z} n) = x.law z n
    by _ (a_noted_name {f = z} n) = x.law z n

-- A field with a word other than `func` and `import`
abbrev pub IsOther : List ℕ → Type 0
IsOther w = (bytes_eq w (codes "func") ≡ false) × (bytes_eq w (codes "import") ≡ false)

field_before : (w : List ℕ) → IsOther w → (x : Forest) {i : ℕ} {g : Forest} {hs : List OperatorHint} → HasHints i g hs → HasHints i (Group (Word w x) g) hs
field_before w other x {i = i} {g = g} {hs = hs} h = record { law = by }
  where
    by : (z : Forest) → Noted z (Group (Word w x) g) → field_hints i z ≡ Some hs
    by _ (a_group {f = z} (a_word m) n) = rw (other.0, other.1, h.law z n)

pub rows_before : {A : Type 0} (w : List ℕ) → IsOther w → (items : ℕ → A → Forest) (k : ℕ) (xs : List A) {i : ℕ} {g : Forest} {hs : List OperatorHint} →
    HasHints i g hs → HasHints i (onto (field_rows w items k xs) g) hs
unfolding rows
rows_before w other items k [] h = h
rows_before w other items k (x ∷ xs) h = field_before w other (items k x) (rows_before w other items (k + 1) xs h)

pub start_before : (s : Scope) (start : Option (Placed ℕ)) {i : ℕ} {g : Forest} {hs : List OperatorHint} → HasHints i g hs → HasHints i (onto (start_items s start) g) hs
start_before s None h = h
start_before s (Some x) h = field_before (codes "start") (refl, refl) _ h

group_before : (names : Names) (written : Bool) (k : ℕ) (ts : List SubType) {i : ℕ} {g : Forest} {hs : List OperatorHint} → HasHints i g hs →
    HasHints i (onto (type_group_items_by names written (members_items names k ts)) g) hs
group_before names true k ts h = field_before (codes "rec") (refl, refl) (members_items names k ts) h
group_before names false k ts h = rows_before (codes "type") (refl, refl) _ k ts h

pub types_before : (names : Names) (k : ℕ) (gs : List (Placed TypeGroup)) {i : ℕ} {g : Forest} {hs : List OperatorHint} → HasHints i g hs →
    HasHints i (onto (type_section_items names k gs) g) hs
types_before names k [] h = h
types_before names k (x ∷ xs) {i = i} {g = g} {hs = hs} h =
    let group : Forest = type_group_items_by names x.value.explicit (members_items names k x.value.types) in
    let rest : Forest = type_section_items names (k + length x.value.types) xs in
    subst (λ t. HasHints i t hs) (sym (onto_assoc group rest g))
    (group_before names x.value.explicit k x.value.types (types_before names (k + length x.value.types) xs h))

-- ---- imports, in which each function has a number

-- An import of the kind with this word
abbrev import_group : List ℕ → List ℕ → List ℕ → Forest → Forest
import_group m n w x = Word (codes "import") (String m (String n (Group (Word w x) End)))

function_import_before : (m n : List ℕ) (x : Forest) {i : ℕ} {g : Forest} {hs : List OperatorHint} → HasHints (i + 1) g hs →
    HasHints i (Group (import_group m n (codes "func") x) g) hs
function_import_before m n x {i = i} {g = g} {hs = hs} h = record { law = by }
  where
    by : (z : Forest) → Noted z (Group (import_group m n (codes "func") x) g) → field_hints i z ≡ Some hs
    by _ (a_group {f = z} (a_word (a_string (a_string (a_group (a_word y) no_items)))) k) = h.law z k

other_import_before : (m n w : List ℕ) (x : Forest) → bytes_eq w (codes "func") ≡ false → {i : ℕ} {g : Forest} {hs : List OperatorHint} → HasHints i g hs →
    HasHints i (Group (import_group m n w x) g) hs
other_import_before m n w x other {i = i} {g = g} {hs = hs} h = record { law = by }
  where
    by : (z : Forest) → Noted z (Group (import_group m n w x) g) → field_hints i z ≡ Some hs
    by _ (a_group {f = z} (a_word (a_string (a_string (a_group (a_word y) no_items)))) k) = rw (other, h.law z k)

pub imports_before : (s : Scope) (n : Numbers) (is : List (Placed Import)) {i : ℕ} {g : Forest} {hs : List OperatorHint} →
    HasHints (i + length (imported_types func_import (without_places is))) g hs → HasHints i (onto (imports_items s n is) g) hs
imports_before s n [] {i = i} {g = g} {hs = hs} h = subst (λ k. HasHints k g hs) (omega arith) h
imports_before s n (x ∷ xs) {i = i} {g = g} {hs = hs} h =
    by x.value.type h (λ j k. imports_before s (numbers_after x.value.type n) xs {i = j} k)
  where
    after : Forest
    after = onto (imports_items s (numbers_after x.value.type n) xs) g

    by : (t : ExternType) → HasHints (i + length (with_first_if_any (func_import t) (imported_types func_import (without_places xs)))) g hs →
        ((j : ℕ) → HasHints (j + length (imported_types func_import (without_places xs))) g hs → HasHints j after hs) →
        HasHints i (Group (import_group x.value.source x.value.name (extern_word t) (extern_items s (number_of x.value.type n) t)) after) hs
    by (FuncExtern f) k more =
        function_import_before x.value.source x.value.name _ (more (i + 1) (subst (λ j. HasHints j g hs) (omega arith) k))
    by (TableExtern t) k more = other_import_before x.value.source x.value.name (codes "table") _ refl (more i k)
    by (MemoryExtern t) k more = other_import_before x.value.source x.value.name (codes "memory") _ refl (more i k)
    by (GlobalExtern t) k more = other_import_before x.value.source x.value.name (codes "global") _ refl (more i k)
    by (TagExtern f) k more = other_import_before x.value.source x.value.name (codes "tag") _ refl (more i k)

-- ---- functions

groups_are : (names : Names) (w : List ℕ) (gs : List Variables) → list_any (λ v. bytes_eq v w) header_words ≡ true → AreHeader (groups_items names w gs)
groups_are names w [] h = tt
groups_are names w (Alone d t ∷ gs) h = (h, groups_are names w gs h)
groups_are names w (Together ts ∷ gs) h = (h, groups_are names w gs h)

results_are : (names : Names) (ts : List ValType) → AreHeader (group_items names (codes "result") ts)
results_are names [] = tt
results_are names (t ∷ ts) = (refl, tt)

signature_is : (names : Names) (f : Option ℕ) (t : Option FuncType) → AreHeader (signature_if_any_items names f t)
signature_is names f None = tt
signature_is names f (Some t) =
    header_onto (groups_items names (codes "param") (variable_groups (parameters_of names f) 0 t.params)) (group_items names (codes "result") t.results)
    (groups_are names (codes "param") (variable_groups (parameters_of names f) 0 t.params) refl) (results_are names t.results)

id_is : (o : Option Named) → AreHeader (id_items o)
id_is None = tt
id_is (Some n) = tt

module _ (s : Scope) (named : AreNamed s.names) (ranged : AreSignaturesInRange (signature_at s.types)) where
  function_has : (i : ℕ) (hs : List (Placed Hint)) (f : PlacedFunction) → IsRangedFunction f → AreFoldable s.folding f.body.value.operators →
      (is_folding s.folding ≡ true → misplaced_hints_in f.body.place hs f.body.value.operators ≡ []) → (y : Forest) → Noted y (function_hinted false s i hs f) →
      function_hints_in i y ≡ Some (taken_hints i 0 f.body.place hs f.body.value.operators)
  function_has i hs f h foldable fit y n =
      let rs : List OperatorHint = taken_hints i 0 f.body.place hs f.body.value.operators in
      let P : Forest → Type 0 = λ b. (chunks_of_forest b >>= chunk_hints i 0) ≡ Some rs in
      let ls : List Variables = variable_groups (s.names.locals i) (parameter_count (signature_at s.types f.type_index)) (locals_of f.body.value.locals) in
      header_noted P (id_items (s.names.items Func i)) (id_is (s.names.items Func i)) _
      (header_noted P (type_use_items s.names (Some i) f.type_index (signature_at s.types f.type_index)) (refl, signature_is s.names (Some i) (signature_at s.types f.type_index)) _
      (header_noted P (groups_items s.names (codes "local") ls) (groups_are s.names (codes "local") ls refl) _
      (list_hints s.folding (result_count (scope_of_function s i) f.type_index) (over_lines (scope_of_function s i) f.body.place) i
      named ranged hs f.body.value.operators h.body.listed h.body.nested foldable fit))) y n

  function_before : (i : ℕ) (x : Forest) (rs : List OperatorHint) → ((y : Forest) → Noted y x → function_hints_in i y ≡ Some rs) →
      {g : Forest} {hs : List OperatorHint} → HasHints (i + 1) g hs → HasHints i (Group (Word (codes "func") x) g) (rs ++ hs)
  function_before i x rs has {g = g} {hs = hs} h = record { law = by }
    where
      by : (z : Forest) → Noted z (Group (Word (codes "func") x) g) → field_hints i z ≡ Some (rs ++ hs)
      by _ (a_group {f = z} (a_word {f = y} m) n) = rw (has y m, h.law z n)

  pub functions_before : (es : List FunctionHints) (i : ℕ) (fs : List PlacedFunction) → AllByRecursion IsRangedFunction fs →
      AllByRecursion (λ f. AreFoldable s.folding f.body.value.operators) fs → (is_folding s.folding ≡ true → misplaced_hints_from es i fs ≡ []) → {g : Forest} {hs : List OperatorHint} →
      HasHints (i + length fs) g hs → HasHints i (onto (functions_hinted false s es i fs) g) (all_taken es i fs ++ hs)
  functions_before es i [] k l fit {g = g} {hs = hs} h = subst (λ j. HasHints j g hs) (omega arith) h
  functions_before es i (f ∷ fs) k l fit {g = g} {hs = hs} h =
      let rs : List OperatorHint = taken_hints i 0 f.body.place (hints_of_next i es) f.body.value.operators in
      let after : List OperatorHint = all_taken (entries_after i es) (i + 1) fs in
      let parts = λ (e : is_folding s.folding ≡ true). nothing_joined (misplaced_hints_in f.body.place (hints_of_next i es) f.body.value.operators) (misplaced_hints_from (entries_after i es) (i + 1) fs) (fit e) in
      let rest = functions_before (entries_after i es) (i + 1) fs k.1 l.1 (λ e. (parts e).1) {g = g} {hs = hs} (subst (λ j. HasHints j g hs) (omega arith) h) in
      subst (HasHints i (onto (functions_hinted false s es i (f ∷ fs)) g)) (sym (append_assoc rs after hs))
      (function_before i (function_hinted false s i (hints_of_next i es) f) rs (function_has i (hints_of_next i es) f k.0 l.0 (λ e. (parts e).0)) rest)
