-- Memories in the text format (section 6.4 of the standard, "Memory Types"; section 6.6, "Memories"; with page
-- sizes). A memory with inline data or an inline export is an abbreviation that is not read.
use Rattle.std.specs.Prelude.{ℕ, Bool, true, false, codes, bytes_eq, Option, Some, None, if◌then◌else◌}
use Rattle.wasmprinter_spec.specs.Grammar.{◌>>=◌}
use Rattle.wasmprinter_spec.specs.Forest.{Forest, End, Word, Group}
use Rattle.wasmprinter_spec.specs.Types.{MemoryType, memory_type_of}
use Rattle.wasmprinter_spec.specs.Numeral.{exponent_of}
use Rattle.wasmprinter_spec.specs.Text.Limits.{address_type, limits}
use Rattle.wasmprinter_spec.specs.Text.Items.{identifier_in_front, one_word}

-- Whether the first item is the word `shared`, and the items after that word.
abbrev pub shared_in_front : Forest → Bool × Forest
shared_in_front (Word w f) = if bytes_eq w (codes "shared") then (true, f) else (false, Word w f)
shared_in_front f = (false, f)

-- The size of a page, which must be a power of two, by its exponent; it may be absent.
abbrev pub page : Forest → Option (Option ℕ)
page End = Some None
page (Group (Word w f) End) = if bytes_eq w (codes "pagesize") then one_word exponent_of f >>= (λ e. Some (Some e)) else None
page f = None

-- A memory type: an address type, limits, `shared` or not, and a page size or none.
abbrev pub memory_type : Forest → Option MemoryType
memory_type f =
    let wide : Bool × Forest = address_type f in
    limits wide.1 >>= λ l. page (shared_in_front l.1).1 >>= λ e. Some (memory_type_of wide.0 (shared_in_front l.1).0 l.0 e)

-- A memory, which may have an identifier before it.
abbrev pub read_memory : Forest → Option MemoryType
read_memory f = memory_type (identifier_in_front f).1
