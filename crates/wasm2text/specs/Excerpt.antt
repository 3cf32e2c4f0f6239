-- The excerpt of a text that shows a byte of the module: the line that shows the byte, the lines around it, and the
-- header of the byte's function.
use Rattle.std.specs.Prelude.{◌≡◌, ℕ, ◌+◌, ◌-◌, ◌<◌, ◌≤◌, ◌^◌, ◌⊎◌, List, [], ◌∷◌, ◌++◌, Bool, nat_lt, nat_le, ◌==◌, ◌&&◌, ◌||◌, if◌then◌else◌, Option, Some, None, IsSome, slice_get, slice_range, length, min, codes, decimal}
use Rattle.std.specs.List.{repeat}
use Rattle.wasmprinter_spec.specs.Grammar.{Placed}
use Rattle.wasmprinter_spec.specs.Placed.{Body, PlacedFunction, PlacedModule}
use Rattle.wasmprinter_spec.specs.Binary.{Spells}
use Rattle.wasmprinter_spec.specs.Options.{Options}
use Rattle.wasmprinter_spec.specs.Lines.{TextLine, line_places, line_from}
use Rattle.wasmprinter.specs.Printed.{IsTextOf}
use Rattle.wasmprinter.specs.Lined.{HasLinesBy}
use Rattle.wasmprinter.specs.TextOfFile.{AreRefused}
use Rattle.wasm2text.specs.CodeSection.{IsCodeStart}
use Rattle.wasm2text.specs.declared.excerpt.Window.{Window}
use Rattle.wasm2text.specs.declared.cause.Cause.{Cause}
use Rattle.wasm2text.specs.declared.cause.Cause.TheVariants.{Module, NoByte, NoCode}
use Rattle.wasm2text.specs.declared.target.Target.{Target}
use Rattle.wasm2text.specs.declared.target.Target.TheVariants.{Byte, CodeByte}

-- ---- The byte

-- The byte is at this offset from the start of the module. An offset in the code section is counted from the start of
-- the section's contents, and may be after their end.
abbrev pub IsTargetAt : Target → List ℕ → ℕ → Type 0
IsTargetAt (Byte offset) wasm at = at ≡ offset
IsTargetAt (CodeByte offset) wasm at = (start : ℕ) × IsCodeStart wasm start × (at ≡ start + offset)

-- The offset as a number of 64 bits: the greatest one if the offset is greater.
abbrev pub saturated : ℕ → ℕ
saturated offset = min offset (2 ^ 64 - 1)

-- The number is the offset of the byte from the start of the module, as a number of 64 bits.
abbrev pub HasOffset : Target → List ℕ → ℕ → Type 0
HasOffset target wasm number = (at : ℕ) × IsTargetAt target wasm at × (number ≡ saturated at)

-- The module has no code section.
abbrev pub HasNoCode : List ℕ → Type 0
HasNoCode wasm = (start : ℕ) → IsCodeStart wasm start → ⊥

-- The byte is counted from the code section, and the module has no code section.
abbrev pub LacksCode : Target → List ℕ → Type 0
LacksCode target wasm = (offset : ℕ) × (target ≡ CodeByte offset) × HasNoCode wasm

-- ---- The line that shows a byte

-- Of lines with these places, the line with this index shows the byte at this offset.
pub record ShowsByte (places : List (Option ℕ)) (offset index : ℕ) : Type 0 where
  -- The place of the line.
  pub place : ℕ
  pub placed : slice_get places index ≡ Some (Some place)
  -- The place is not after the byte.
  pub before : place ≤ offset
  -- No line has a greater place that is not after the byte.
  pub greatest : (i q : ℕ) → slice_get places i ≡ Some (Some q) → q ≤ offset → q ≤ place
  -- No earlier line has the place.
  pub first : (i : ℕ) → slice_get places i ≡ Some (Some place) → index ≤ i

-- The first of the lines has the place 0.
abbrev pub StartsAtZero : List TextLine → Type 0
StartsAtZero lines = slice_get (line_places lines) 0 ≡ Some (Some 0)

-- A line, by its index and its place, or another line if the place of that one is greater and not after the byte.
abbrev pub nearer : ℕ × ℕ → ℕ → Option ℕ → ℕ → ℕ × ℕ
nearer shown index None offset = shown
nearer shown index (Some place) offset = if nat_le place offset && nat_lt shown.1 place then (index, place) else shown

-- ---- The header of the function

-- The byte belongs to the body: it is not before its first byte, and not after its last one, which is an `end`.
abbrev pub IsInBody : Placed Body → ℕ → Type 0
IsInBody body offset = (body.place ≤ offset) × (offset ≤ body.value.end)

-- The byte belongs to the body of the function with this number, whose first byte is at this place.
abbrev pub IsPlaceOfBody : List PlacedFunction → ℕ → ℕ → ℕ → Type 0
IsPlaceOfBody functions offset number place =
    (f : PlacedFunction) × (slice_get functions number ≡ Some f) × IsInBody f.body offset × (place ≡ f.body.place)

-- The byte does not belong to the body of the function with this number.
abbrev pub IsOutside : List PlacedFunction → ℕ → ℕ → Type 0
IsOutside functions offset number = (place : ℕ) → IsPlaceOfBody functions offset number place → ⊥

-- The header of the function to whose body the byte belongs: the first line whose place is that of the body's first
-- byte. There is none if the byte belongs to no body.
abbrev pub IsHeader : PlacedModule → List TextLine → ℕ → Option ℕ → Type 0
IsHeader m lines offset header =
    ((number place : ℕ) × IsPlaceOfBody m.functions offset number place × (header ≡ line_from 0 place lines))
    ⊎ (((number : ℕ) → IsOutside m.functions offset number) × (header ≡ None))

-- ---- The text of the excerpt

-- The mark of a line, which shows the byte or does not.
abbrev pub mark : Bool → List ℕ
mark is_shown = if is_shown then codes ">" else codes " "

-- A number in decimal, with spaces before it up to this width.
abbrev pub padded_number : ℕ → ℕ → List ℕ
padded_number width number = repeat (width - length (decimal number)) (codes " ") ++ decimal number

-- A line of the excerpt: its mark, its number, and its text, which ends with a line feed. The order is: width of numbers,
-- number of the line that shows the byte, number of the line, text.
abbrev pub excerpt_line : ℕ → ℕ → ℕ → List ℕ → List ℕ
excerpt_line width shown number text =
    mark (number == shown) ++ (codes " " ++ (padded_number width number ++ (codes " " ++ text)))

-- Lines that follow each other, the first of which has this number. The order is that of `excerpt_line`.
abbrev pub excerpt_lines : ℕ → ℕ → ℕ → List TextLine → List ℕ
excerpt_lines width shown number [] = []
excerpt_lines width shown number (line ∷ lines) = excerpt_line width shown number line.1 ++ excerpt_lines width shown (number + 1) lines

-- The lines with the indices from `first` up to `end`, without that of `end`, numbered as in the window.
abbrev pub lines_between : Window → List TextLine → ℕ → ℕ → List ℕ
lines_between w lines first end = excerpt_lines w.numbering.width w.numbering.shown (first + 1) (slice_range lines first end)

-- The line with this index is not one of the lines of the window.
abbrev pub is_outside : Window → ℕ → Bool
is_outside w index = nat_lt index w.first || nat_le w.end index

-- The header, if it is not one of the lines of the window.
abbrev pub header_before : Window → List TextLine → Option ℕ → List ℕ
header_before w lines None = []
header_before w lines (Some header) = if is_outside w header then lines_between w lines header (header + 1) else []

-- Of this number of lines, those from three before the line with this index to three after it, as far as they exist.
-- Numbers are as wide as the greatest of these lines.
abbrev pub window_around : ℕ → ℕ → Window
window_around count index =
    let end : ℕ = min (index + 1 + 3) count in
    record { first = index - 3; end = end; numbering = record { shown = index + 1; width = length (decimal end) } }

-- The lines around the line with this index, and before them the header, if it is not one of them.
abbrev pub excerpt_text : List TextLine → ℕ → Option ℕ → List ℕ
excerpt_text lines index header =
    let w : Window = window_around (length lines) index in
    header_before w lines header ++ lines_between w lines w.first w.end

-- ---- The excerpt of a module's text

-- The text is the excerpt of these lines of this module's text that shows the byte at this offset.
pub record IsExcerptIn (m : PlacedModule) (lines : List TextLine) (offset : ℕ) (text : List ℕ) : Type 0 where
  -- The line that shows the byte.
  pub index : ℕ
  pub shows : ShowsByte (line_places lines) offset index
  -- The header of the function to whose body the byte belongs.
  pub header : Option ℕ
  pub is_header : IsHeader m lines offset header
  pub is : text ≡ excerpt_text lines index header

-- The same, where the bytes encode the module.
abbrev pub IsExcerptOfLines : List ℕ → List TextLine → ℕ → List ℕ → Type 0
IsExcerptOfLines wasm lines offset text = (m : PlacedModule) × Spells wasm m × IsExcerptIn m lines offset text

-- The bytes encode a module, and the text is the excerpt of the module's text with these options that shows this byte.
pub record IsExcerptOf (o : Options) (wasm : List ℕ) (target : Target) (text : List ℕ) : Type 0 where
  -- The text of the module, and its lines.
  pub whole : List ℕ
  pub lines : List TextLine
  pub given : HasLinesBy o wasm [] whole lines
  -- The byte is at this offset, and the module has it.
  pub offset : ℕ
  pub is_at : IsTargetAt target wasm offset
  pub inside : offset < length wasm
  pub excerpt : IsExcerptIn given.printed.decoded.placed lines offset text
  -- A byte in a body has a header.
  pub headed : (number place : ℕ) → IsPlaceOfBody given.printed.decoded.placed.functions offset number place → IsSome excerpt.header

-- The bytes encode a module that can be printed with these options, and they are `len` bytes, so that the byte is not one
-- of them. `number` is its offset, as a number of 64 bits.
pub record HaveNoByte (o : Options) (wasm : List ℕ) (target : Target) (number len : ℕ) : Type 0 where
  pub text : List ℕ
  pub printed : IsTextOf o wasm text
  pub all : len ≡ length wasm
  pub offset : ℕ
  pub is_at : IsTargetAt target wasm offset
  pub outside : len ≤ offset
  pub reported : number ≡ saturated offset

-- The bytes encode a module that can be printed with these options, and has no code section.
pub record HaveNoCode (o : Options) (wasm : List ℕ) : Type 0 where
  pub text : List ℕ
  pub printed : IsTextOf o wasm text
  pub none : HasNoCode wasm

-- There is no excerpt, for this cause: the module can't be printed, does not have the byte, or has no code section.
abbrev pub IsExcerptRefusal : Options → List ℕ → Target → Cause → Type 0
IsExcerptRefusal o wasm target (Module error) = AreRefused o wasm error
IsExcerptRefusal o wasm target (NoByte number len) = HaveNoByte o wasm target number len
IsExcerptRefusal o wasm target NoCode = (offset : ℕ) × (target ≡ CodeByte offset) × HaveNoCode o wasm
IsExcerptRefusal o wasm target cause = ⊥
