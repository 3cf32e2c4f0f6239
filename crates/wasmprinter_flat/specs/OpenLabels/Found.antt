-- The meaning of a label index to a printer.
use Rattle.std.specs.Prelude.{ℕ, ◌-◌, List, Bool, true, false, ◌||◌, length, Some, None}
use Rattle.wasmprinter_spec.specs.Labels.{Label, Named, is_hidden, Target, Around, Own, Nothing, target}

-- The block that a label index refers to, and how the label is printed.
pub data Found : Type 0 where
  ByName : Named → Found  -- an enclosing block that this identifier refers to
  ByNumber : Found  -- an enclosing block whose identifier an inner block shadows, or the body
  ToBlock : ℕ → Found  -- an enclosing block without an identifier, by its number, counted from 1, outermost first
  ToNothing : Found

-- The meaning of an enclosing block with this identifier. The second argument says whether an inner block shadows it.
abbrev pub found_named : Named → Bool → Found
found_named n true = ByNumber
found_named n false = ByName n

-- The meaning of the target of the label index l, with d enclosing blocks and the labels `inner` further in.
abbrev pub found_by : List Label → ℕ → ℕ → Target → Found
found_by inner d l (Around (Some n) further) = found_named n (is_hidden n further || is_hidden n inner)
found_by inner d l (Around None further) = ToBlock (d - l)
found_by inner d l Own = ByNumber
found_by inner d l Nothing = ToNothing

-- The meaning of the label index l among the labels `xs`, with the labels `inner` further in.
abbrev pub found_among : List Label → List Label → ℕ → Found
found_among inner xs l = found_by inner (length xs) l (target l xs)
