-- Limits in the text format (section 6.4 of the standard, "Limits" and "Address Types").
use Rattle.std.specs.Prelude.{ℕ, Bool, true, false, codes, bytes_eq, Option, Some, None, if◌then◌else◌}
use Rattle.wasmprinter_spec.specs.Grammar.{◌>>=◌}
use Rattle.wasmprinter_spec.specs.Numeral.{u64}
use Rattle.wasmprinter_spec.specs.Forest.{Forest, Word}
use Rattle.wasmprinter_spec.specs.Types.{Limits, limits_of}

-- Whether the address type is `i64` (it is `i32` if it is absent), and the items after it.
abbrev pub address_type : Forest → Bool × Forest
address_type (Word w f) =
    if bytes_eq w (codes "i64") then (true, f) else (if bytes_eq w (codes "i32") then (false, f) else (false, Word w f))
address_type f = (false, f)

-- Limits with this minimum and, if there is one, this maximum, and the items after them. `f` are the items after the
-- minimum, `rest` those after the maximum.
abbrev pub with_max : ℕ → Option ℕ → Forest → Forest → Limits × Forest
with_max min (Some max) f rest = (limits_of min (Some max), rest)
with_max min None f rest = (limits_of min None, f)

-- Limits with this minimum size, a maximum size if a number follows, and the items after it.
abbrev pub max_after : ℕ → Forest → Limits × Forest
max_after min (Word w f) = with_max min (u64 w) (Word w f) f
max_after min f = (limits_of min None, f)

-- Limits, and the items after them.
abbrev pub limits : Forest → Option (Limits × Forest)
limits (Word w f) = u64 w >>= λ min. Some (max_after min f)
limits f = None
