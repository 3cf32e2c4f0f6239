-- The text of one function: the lines of the module's text from the first to the last that belong to the function.
use Rattle.std.specs.Prelude.{◌≡◌, ℕ, ◌-◌, ◌<◌, ◌≤◌, List, [], ◌++◌, map, take, drop, Bool, true, false, nat_le, ◌&&◌, Option, Some, None, IfSome, option_map, slice_get, length}
use Rattle.std.specs.List.{filter_map, list_any}
use Rattle.wasmprinter_spec.specs.Grammar.{Placed}
use Rattle.wasmprinter_spec.specs.Labels.{Named}
use Rattle.wasmprinter_spec.specs.Lines.{TextLine, joined_lines}
use Rattle.wasmprinter_spec.specs.Module.{func_import}
use Rattle.wasmprinter_spec.specs.ModuleNames.{module_names}
use Rattle.wasmprinter_spec.specs.Options.{Options}
use Rattle.wasmprinter_spec.specs.Placed.{Import, PlacedFunction, PlacedModule}
use Rattle.wasmprinter_spec.specs.Row.{Func}
use Rattle.wasmprinter.specs.Lined.{HasLinesBy}
use Rattle.wasmprinter.specs.Printed.{IsTextOf}
use Rattle.wasmprinter.specs.TextOfFile.{AreRefused}
use Rattle.wasm2text.specs.declared.cause.Cause.{Cause}
use Rattle.wasm2text.specs.declared.cause.Cause.TheVariants.{Module, NoFunction}
use Rattle.wasm2text.specs.declared.function_ref.FunctionRef.{FunctionRef}
use Rattle.wasm2text.specs.declared.function_ref.FunctionRef.TheVariants as read
use Rattle.wasm2text.specs.declared.function_search.PlaceRange.{PlaceRange}

-- ---- The function

-- A function of a module: the one with this index, counting imported functions, or the one whose identifier is a dollar
-- sign and this text.
pub data Function : Type 0 where
  Index : ℕ → Function
  Identifier : List ℕ → Function

-- The function that the program's value represents.
abbrev pub function_view : FunctionRef → Function
function_view (read.Index index) = Index index
function_view (read.Identifier word) = Identifier word.now

-- The item has an identifier, and it is a dollar sign and this text.
abbrev pub HasContent : Option Named → List ℕ → Type 0
HasContent named word = option_map (λ n. n.content) named ≡ Some word

-- The function with this index has such an identifier. The Boolean says whether identifiers are synthesized.
abbrev pub IsNamed : Bool → PlacedModule → List ℕ → ℕ → Type 0
IsNamed synthesizes m word n = HasContent ((module_names synthesizes m).items Func n) word

-- The function has this index, if the module has the function.
abbrev pub IsIndexOf : Bool → PlacedModule → Function → ℕ → Type 0
IsIndexOf synthesizes m (Index index) n = n ≡ index
IsIndexOf synthesizes m (Identifier word) n = IsNamed synthesizes m word n

-- ---- Its places

-- Only this place.
abbrev pub only_place : ℕ → PlaceRange
only_place place = record { first = place; last = place }

-- The place of an import, if it is an imported function.
abbrev pub import_range : Placed Import → Option PlaceRange
import_range i = option_map (λ t. only_place i.place) (func_import i.value.type)

-- The places of a defined function: from the first byte of its body to the last one, which is an `end`.
abbrev pub body_range : PlacedFunction → PlaceRange
body_range f = record { first = f.body.place; last = f.body.value.end }

-- The places of each function, in the order of their indices: imported functions come first.
abbrev pub function_ranges : PlacedModule → List PlaceRange
function_ranges m = filter_map import_range m.imports ++ map body_range m.functions

-- The module has the function, and these are its places.
abbrev pub HasRange : Bool → PlacedModule → Function → PlaceRange → Type 0
HasRange synthesizes m function range =
    (n : ℕ) × IsIndexOf synthesizes m function n × (slice_get (function_ranges m) n ≡ Some range)

-- ---- Its lines

-- The place, if there is one, is in the range.
abbrev pub is_in : PlaceRange → Option ℕ → Bool
is_in range None = false
is_in range (Some place) = nat_le range.first place && nat_le place range.last

-- One of the lines has a place in the range.
abbrev pub any_in : PlaceRange → List TextLine → Bool
any_in range lines = list_any (λ line. is_in range line.0) lines

-- The line with this index has a place in the range, if there is such a line.
abbrev pub IsInAt : PlaceRange → List TextLine → ℕ → Type 0
IsInAt range lines i = IfSome (slice_get lines i) (λ line. is_in range line.0 ≡ true)

-- Of these lines, those from the first to the last that have a place in the range.
pub record IsShown (lines : List TextLine) (range : PlaceRange) (shown : List TextLine) : Type 0 where
  pub before : List TextLine
  pub after : List TextLine
  pub are : lines ≡ before ++ (shown ++ after)
  pub none_before : any_in range before ≡ false
  pub none_after : any_in range after ≡ false
  pub first : IsInAt range shown 0
  pub last : IsInAt range shown (length shown - 1)

-- The text of these lines.
abbrev pub IsTextOfRange : List TextLine → PlaceRange → List ℕ → Type 0
IsTextOfRange lines range text = (shown : List TextLine) × IsShown lines range shown × (text ≡ joined_lines shown)

-- The index of the first line that has a place in the range, or the number of lines.
abbrev pub StartsAt : List TextLine → PlaceRange → ℕ → Type 0
StartsAt lines range start = (start ≤ length lines) × (any_in range (take start lines) ≡ false) × IsInAt range lines start

-- The index after that of the last line that has a place in the range, or the index of the first if there is none from
-- there on.
abbrev pub EndsAt : List TextLine → PlaceRange → ℕ → ℕ → Type 0
EndsAt lines range start end =
    (start ≤ end) × (end ≤ length lines) × (any_in range (drop end lines) ≡ false) × (start < end → IsInAt range lines (end - 1))

-- ---- The text of a function of a module

-- The bytes encode a module that has the function, and the text is that of the function's lines in the module's text with
-- these options.
pub record IsFunctionTextOf (o : Options) (wasm : List ℕ) (function : Function) (text : List ℕ) : Type 0 where
  -- The text of the module, and its lines.
  pub whole : List ℕ
  pub lines : List TextLine
  pub given : HasLinesBy o wasm [] whole lines
  -- The places of the function.
  pub range : PlaceRange
  pub has : HasRange o.synthesizes given.printed.decoded.placed function range
  -- At least one line has one of these places.
  pub some : any_in range lines ≡ true
  pub is : IsTextOfRange lines range text

-- The bytes encode a module that can be printed with these options, and does not have the function.
pub record HaveNoFunction (o : Options) (wasm : List ℕ) (function : Function) : Type 0 where
  pub text : List ℕ
  pub printed : IsTextOf o wasm text
  pub none : (range : PlaceRange) → HasRange o.synthesizes printed.decoded.placed function range → ⊥

-- There is no text, for this cause: the module can't be printed, or does not have the function.
abbrev pub IsFunctionRefusal : Options → List ℕ → Function → Cause → Type 0
IsFunctionRefusal o wasm function (Module error) = AreRefused o wasm error
IsFunctionRefusal o wasm function NoFunction = HaveNoFunction o wasm function
IsFunctionRefusal o wasm function cause = ⊥
