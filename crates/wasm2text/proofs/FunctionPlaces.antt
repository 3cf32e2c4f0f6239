-- The places of the functions of a module, by their indices.
use Rattle.std.specs.Prelude.{◌≡◌, ℕ, ◌+◌, ◌<◌, ◌≤◌, List, [], ◌∷◌, ◌++◌, Bool, Option, Some, None, map, drop, length, slice_get}
use Rattle.std.specs.List.{filter_map, cons_option}
use Rattle.std.specs.Option.{option_map}
use Rattle.std.proofs.Common.{refl, sym, ap, ◌∙◌, zero, suc, get_or, arith}
use Rattle.std.proofs.lemmas.List.{drop_all, at_drop_more, length-map, length-append}
use Rattle.wasmprinter_spec.specs.Grammar.{Placed}
use Rattle.wasmprinter_spec.specs.Types.{FuncKind, TableKind, MemoryKind, GlobalKind, TagKind, ExternType, FuncExtern, TableExtern, MemoryExtern, GlobalExtern, TagExtern}
use Rattle.wasmprinter_spec.specs.ModuleNames.{module_names, name_entries}
use Rattle.wasmprinter_spec.specs.Names.{name_in, or_synthesized}
use Rattle.wasmprinter_spec.specs.Names.Content.{group_of, name_of}
use Rattle.wasmprinter_spec.specs.Names.Section.{function_subsection}
use Rattle.wasmprinter_spec.specs.Placed.{Body, Import, PlacedFunction, PlacedModule}
use Rattle.wasmprinter_spec.specs.Row.{Func}
use Rattle.wasmprinter_custom.specs.Views.{NamedItem, name_at}
use Rattle.wasmprinter_decoder.specs.Externs.{kind_of_type, imported_count}
use Rattle.wasmprinter_decoder.specs.Modules.{body_at}
use Rattle.wasm2text.specs.declared.function_search.PlaceRange.{PlaceRange}
use Rattle.wasm2text.specs.FunctionText.{only_place, import_range, body_range, function_ranges}

-- ---- Imported functions

-- An import has a range if and only if it is a function.
range_of_type : (i : Placed Import) (t : ExternType) → i.value.type ≡ t → kind_of_type t ≡ FuncKind → import_range i ≡ Some (only_place i.place)
range_of_type i (FuncExtern n) e is = rw e refl
range_of_type i (TableExtern x) e is = absurd (let both : TableKind ≡ FuncKind = is in cc)
range_of_type i (MemoryExtern x) e is = absurd (let both : MemoryKind ≡ FuncKind = is in cc)
range_of_type i (GlobalExtern x) e is = absurd (let both : GlobalKind ≡ FuncKind = is in cc)
range_of_type i (TagExtern n) e is = absurd (let both : TagKind ≡ FuncKind = is in cc)

none_of_type : (i : Placed Import) (t : ExternType) → i.value.type ≡ t → (kind_of_type t ≡ FuncKind → ⊥) → import_range i ≡ None
none_of_type i (FuncExtern n) e other = absurd (other refl)
none_of_type i (TableExtern x) e other = rw e refl
none_of_type i (MemoryExtern x) e other = rw e refl
none_of_type i (GlobalExtern x) e other = rw e refl
none_of_type i (TagExtern n) e other = rw e refl

count_of_type : (i : Placed Import) (is : List (Placed Import)) (t : ExternType) → i.value.type ≡ t →
    length (filter_map import_range is) ≡ imported_count FuncKind is → length (filter_map import_range (i ∷ is)) ≡ imported_count FuncKind (i ∷ is)
count_of_type i is (FuncExtern n) e h = rw e (ap suc h)
count_of_type i is (TableExtern x) e h = rw e h
count_of_type i is (MemoryExtern x) e h = rw e h
count_of_type i is (GlobalExtern x) e h = rw e h
count_of_type i is (TagExtern n) e h = rw e h

-- There are as many ranges as imported functions.
count_ranges : (is : List (Placed Import)) → length (filter_map import_range is) ≡ imported_count FuncKind is
count_ranges [] = refl
count_ranges (i ∷ is) = count_of_type i is i.value.type refl (count_ranges is)

pub ranges_of_all : (m : PlacedModule) → length (function_ranges m) ≡ imported_count FuncKind m.imports + length m.functions
ranges_of_all m =
    let imported : length (filter_map import_range m.imports) ≡ imported_count FuncKind m.imports = count_ranges m.imports in
    let defined : length (map body_range m.functions) ≡ length m.functions = length-map m.functions body_range in
    let all : length (function_ranges m) ≡ length (filter_map import_range m.imports) + length (map body_range m.functions)
    = length-append (filter_map import_range m.imports) (map body_range m.functions) in
    omega (arith, imported, defined, all)

-- The ranges from the import with this number on.
abbrev pub ranges_from : PlacedModule → ℕ → List PlaceRange
ranges_from m i = filter_map import_range (drop i m.imports) ++ map body_range m.functions

module _ (m : PlacedModule) (i : ℕ) (d : Placed Import) (lt : i < length m.imports) where
  next : (o : Option PlaceRange) → import_range (get_or m.imports i d) ≡ o →
      ranges_from m i ≡ cons_option o (filter_map import_range (drop (i + 1) m.imports)) ++ map body_range m.functions
  next o e =
      at_drop_more (λ is. filter_map import_range is ++ map body_range m.functions) m.imports i d lt
      ∙ ap (λ (r : Option PlaceRange). cons_option r (filter_map import_range (drop (i + 1) m.imports)) ++ map body_range m.functions) e

  -- An imported function has the first of these ranges.
  pub from_function : kind_of_type (get_or m.imports i d).value.type ≡ FuncKind →
      ranges_from m i ≡ only_place (get_or m.imports i d).place ∷ ranges_from m (i + 1)
  from_function is =
      next (Some (only_place (get_or m.imports i d).place)) (range_of_type (get_or m.imports i d) (get_or m.imports i d).value.type refl is)

  -- Another import has none.
  pub from_other : (kind_of_type (get_or m.imports i d).value.type ≡ FuncKind → ⊥) → ranges_from m i ≡ ranges_from m (i + 1)
  from_other other = next None (none_of_type (get_or m.imports i d) (get_or m.imports i d).value.type refl other)

-- After the imports come the defined functions.
pub from_end : (m : PlacedModule) (i : ℕ) → length m.imports ≤ i → ranges_from m i ≡ map body_range m.functions
from_end m i past = ap (λ (is : List (Placed Import)). filter_map import_range is ++ map body_range m.functions) (drop_all i m.imports past)

-- ---- Defined functions

abbrev range_of : Placed Body → PlaceRange
range_of b = record { first = b.place; last = b.value.end }

range_at : (functions : List PlacedFunction) (i : ℕ) → slice_get (map body_range functions) i ≡ option_map range_of (body_at functions i)
range_at [] i = refl
range_at (f ∷ functions) zero = refl
range_at (f ∷ functions) (suc i) = range_at functions i

-- The range of a body, if the module has it.
pub range_of_body : (functions : List PlacedFunction) (i : ℕ) (body : Placed Body) → body_at functions i ≡ Some body →
    Some (record { first = body.place; last = body.value.end }) ≡ slice_get (map body_range functions) i
range_of_body functions i body e = sym (range_at functions i ∙ ap (option_map range_of) e)

pub range_of_none : (functions : List PlacedFunction) (i : ℕ) → body_at functions i ≡ None → None ≡ slice_get (map body_range functions) i
range_of_none functions i e = sym (range_at functions i ∙ ap (option_map range_of) e)

-- ---- Identifiers

-- The identifier of a function, by the names that were read.
pub same_name : (synthesizes : Bool) (m : PlacedModule) (items : List NamedItem) →
    ((s outer index : ℕ) → name_at items s outer index ≡ name_of (name_entries m.customs) s outer index) → (n : ℕ) →
    name_in synthesizes (name_at items) function_subsection 0 n ≡ (module_names synthesizes m).items Func n
same_name synthesizes m items are n = ap (or_synthesized synthesizes (group_of function_subsection) n) (are function_subsection 0 n)
