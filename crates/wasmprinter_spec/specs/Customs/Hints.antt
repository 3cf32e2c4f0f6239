-- Branch hints (Code Metadata, a document that accompanies the standard; branch hinting proposal): for functions,
-- which operators are likely to branch.
use Rattle.std.specs.Prelude.{ℕ, List, [], ◌∷◌, Bool, true, false, ◌==◌, nat_le, codes, bytes_eq, length, Option, Some, None, if◌then◌else◌}
use Rattle.wasmprinter_spec.specs.Grammar.{Grammar, Remainder, input, Placed, value_with_place, byte, seq, map_value, try_map}
use Rattle.wasmprinter_spec.specs.Sized.{alone}
use Rattle.wasmprinter_spec.specs.FirstByte.{only}
use Rattle.wasmprinter_spec.specs.Name.{u32, vec}
use Rattle.wasmprinter_spec.specs.Placed.{Custom, CustomEntry}

-- The offset of the operator in bytes from the first byte of the body, which is the one after the body's size, and
-- whether the operator is likely to branch.
pub record Hint : Type 0 where
  pub offset : ℕ
  pub taken : Bool

-- The hints of a function, each with the place of its first byte. `function` is the function's index: imported functions
-- are counted.
pub record FunctionHints : Type 0 where
  pub function : ℕ
  pub hints : List (Placed Hint)

-- Whether the branch is likely, by the byte of a hint; `None` for a byte other than 00 and 01.
abbrev pub flag : ℕ → Option Bool
flag b = if b == 0 then Some false else (if b == 1 then Some true else None)

-- An offset, the byte 01 (the size of the flag), and a flag.
abbrev pub hint : Grammar Hint
hint =
    map_value (λ (offset, (_, taken)). record { offset = offset; taken = taken }) (seq u32 (λ _. seq (only 1) (λ _. try_map flag byte)))

-- The greatest number of functions (`most_hinted_functions`), and that of hints in a function (`most_hints`). More of
-- either is an error.
abbrev pub most_hinted_functions : ℕ
most_hinted_functions = 1000000

abbrev pub most_hints : ℕ
most_hints = 131071

-- The list, if it has at most n elements.
abbrev pub at_most : {A : Type 0} → ℕ → List A → Option (List A)
at_most n xs = if nat_le (length xs) n then Some xs else None

-- The index of a function, and its hints.
abbrev pub function_hints : Grammar FunctionHints
function_hints =
    map_value (λ x. record { function = x.0; hints = x.1 }) (seq u32 (λ _. try_map (at_most most_hints) (vec (value_with_place hint))))

-- The data of a hint section: the hints of each function.
abbrev pub hint_section : Remainder (List FunctionHints)
hint_section = alone (try_map (at_most most_hinted_functions) (vec function_hints))

-- ---- The hints of a module

-- The list, empty if there is none.
abbrev pub or_none : {A : Type 0} → Option (List A) → List A
or_none None = []
or_none (Some xs) = xs

-- The hints that the data gives, empty if the data has an error. The data is the section's bytes after its name, with
-- the place of the first.
abbrev pub hints_given : Placed (List ℕ) → List FunctionHints
hints_given d = or_none (hint_section.parse (input d.place d.value))

-- The last section with this name, which is the one that counts, or `last` if no section has it.
abbrev pub last_named : List ℕ → Option Custom → List CustomEntry → Option Custom
last_named n last [] = last
last_named n last (c ∷ cs) = last_named n (if bytes_eq c.section.value.name n then Some c.section.value else last) cs

-- The hints of the section, if there is one.
abbrev pub hints_by : Option Custom → List FunctionHints
hints_by None = []
hints_by (Some c) = hints_given c.bytes

-- The hints of a module: those of its last hint section, none if there is no such section (`None`) or if its data has an
-- error. A section with more functions or hints than the greatest numbers has an error.
abbrev pub hints_of : List CustomEntry → List FunctionHints
hints_of cs = hints_by (last_named (codes "metadata.code.branch_hint") None cs)

-- ---- Functions and operators take hints in order: one that is not taken blocks the hints after it

-- The hints of the function with index i, if its entry is the next; otherwise none.
abbrev pub hints_of_next : ℕ → List FunctionHints → List (Placed Hint)
hints_of_next i [] = []
hints_of_next i (e ∷ es) = if e.function == i then e.hints else []

-- The entries that are left after the function with index i: all, if the next entry is that of another function.
abbrev pub entries_after : ℕ → List FunctionHints → List FunctionHints
entries_after i [] = []
entries_after i (e ∷ es) = if e.function == i then es else e ∷ es

-- The hint of the operator at this offset from the body's first byte, if it is the next.
abbrev pub next_hint : ℕ → List (Placed Hint) → Option (Placed Hint)
next_hint offset [] = None
next_hint offset (h ∷ hs) = if h.value.offset == offset then Some h else None

-- The hints that are left after the operator at this offset: all, if the next hint has another offset.
abbrev pub hints_after : ℕ → List (Placed Hint) → List (Placed Hint)
hints_after offset [] = []
hints_after offset (h ∷ hs) = if h.value.offset == offset then hs else h ∷ hs
