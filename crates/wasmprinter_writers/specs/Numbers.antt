-- The numbers of the colors in the code.
use Rattle.std.specs.Prelude.{ℕ, Option, Some, None}
use Rattle.wasmprinter_writers.specs.declared.color_enum.Color.{Color}
use Rattle.wasmprinter_writers.specs.declared.color_enum.Color.TheVariants.{Red, Green, Yellow, Magenta, Cyan}

-- The number of a color in ECMA-48.
abbrev pub number_of : Color → ℕ
number_of Red = 1
number_of Green = 2
number_of Yellow = 3
number_of Magenta = 5
number_of Cyan = 6

-- The number of the color in ECMA-48, if there is one.
abbrev pub color_of : Option Color → Option ℕ
color_of (Some color) = Some (number_of color)
color_of None = None
