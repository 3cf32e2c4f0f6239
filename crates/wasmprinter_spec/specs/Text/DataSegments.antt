-- Data segments in the text format (section 6.6 of the standard, "Data Segments"). Two abbreviations are read: an
-- offset that is a single instruction, and an active segment without its memory, which is then memory 0.
use Rattle.std.specs.Prelude.{ℕ, List, [], ◌++◌, codes, bytes_eq, Option, Some, None, option_map, if◌then◌else◌}
use Rattle.wasmprinter_spec.specs.Grammar.{◌>>=◌}
use Rattle.wasmprinter_spec.specs.Forest.{Forest, End, Word, String, Group}
use Rattle.wasmprinter_spec.specs.Operator.{Operator}
use Rattle.wasmprinter_spec.specs.Placed.{DataMode, PassiveData, ActiveData, Data, data_of}
use Rattle.wasmprinter_spec.specs.IndexSpaces.{index, Context}
use Rattle.wasmprinter_spec.specs.Text.Items.{identifier_in_front}
use Rattle.wasmprinter_spec.specs.Text.Expressions.{expression_group}

-- Strings, one after the other.
abbrev pub strings : Forest → Option (List ℕ)
strings End = Some []
strings (String s f) = option_map (λ bs. s ++ bs) (strings f)
strings _ = None

module _ (c : Context) where
  -- The segment with this mode and with the bytes of these strings.
  abbrev pub with_bytes : DataMode Operator → Forest → Option (Data Operator)
  with_bytes mode f = option_map (data_of mode) (strings f)

  -- An active segment in memory m: an offset in a group, and bytes.
  abbrev pub active_in : ℕ → Forest → Option (Data Operator)
  active_in m (Group g f) = expression_group c (codes "offset") g >>= λ offset. with_bytes (ActiveData m offset) f
  active_in m f = None

  -- A segment without its identifier: passive if no group comes first; otherwise active in the memory of a group
  -- `memory`, or in memory 0.
  abbrev pub segment : Forest → Option (Data Operator)
  segment (Group (Word w g) f) =
      if bytes_eq w (codes "memory") then index c.spaces.memories g >>= (λ m. active_in m f) else active_in 0 (Group (Word w g) f)
  segment f = with_bytes PassiveData f

  -- A segment, which may have an identifier before it.
  abbrev pub read_data : Forest → Option (Data Operator)
  read_data f = segment (identifier_in_front f).1
