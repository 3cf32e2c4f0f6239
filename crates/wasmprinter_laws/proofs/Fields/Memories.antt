-- Memories among the fields of a module
use Rattle.std.proofs.Common.{◌≡◌, ℕ, ◌<◌, ◌^◌, Bool, true, false, cond, List, ◌++◌, Option, Some, None, refl, ap, ◌∙◌, codes, arith}
use Rattle.std.proofs.lemmas.Bool.{lt-ltb}
use Rattle.std.proofs.Math.Pow.{pow-lt}
use Rattle.std.specs.Fmt.{digits}
use Rattle.wasmprinter_spec.specs.Character.{class}
use Rattle.wasmprinter_spec.specs.Forest.{Forest, End, Word, Group, onto}
use Rattle.wasmprinter_spec.specs.Grammar.{Placed, ◌>>=◌}
use Rattle.wasmprinter_spec.specs.Numeral.{numeral, natural, number_below, exponent_below, exponent_of}
use Rattle.wasmprinter_spec.specs.Types.{MemoryType}
use Rattle.wasmprinter_spec.specs.Row.{Memory}
use Rattle.wasmprinter_spec.specs.Names.{AreNamed}
use Rattle.wasmprinter_spec.specs.Layout.Declarations.{Scope}
use Rattle.wasmprinter_spec.specs.Layout.Memories.{shared_pieces, page_pieces, memory_type_pieces, memory_pieces}
use Rattle.wasmprinter_spec.specs.Text.Items.{identifier_in_front}
use Rattle.wasmprinter_spec.specs.Text.Memories.{shared_in_front, page, memory_type, read_memory}
use Rattle.wasmprinter_laws.proofs.Tokens.Runs.{is_word}
use Rattle.wasmprinter_laws.proofs.Tokens.Numbers.{natural-hexadecimal, is_word-hexadecimal}
use Rattle.wasmprinter_laws.proofs.Tokens.Pieces.{Free, Bound}
use Rattle.wasmprinter_laws.proofs.Tokens.Writes.{Writes, writing, both_write, nothing_writes, one_space_writes, break_writes, line_group_space_writes}
use Rattle.wasmprinter_laws.proofs.Ranged.{IsRangedPage, IsRangedMemory}
use Rattle.wasmprinter_laws.proofs.Identifiers.{declaration-items, declaration_writes}
use Rattle.wasmprinter_laws.proofs.Declarations.{id}
use Rattle.wasmprinter_laws.proofs.Operators.Memory.{exponent_below-power}
use Rattle.wasmprinter_laws.proofs.Fields.Scopes.{own_id}
use Rattle.wasmprinter_laws.proofs.Fields.Limits.{wide_items, limits_items, wide_writes, limits_write, IsNoNumber, address_type-items, limits-items, identifier_in_front-limits}

-- ---- the items of memories

abbrev shared_items : Bool → Forest
shared_items true = Word (codes "shared") End
shared_items false = End

-- The text of the size of a page
abbrev size_text : ℕ → List ℕ
size_text e = codes "0x" ++ digits 16 false (2 ^ e)

abbrev page_items : Option ℕ → Forest
page_items None = End
page_items (Some e) = Group (Word (codes "pagesize") (Word (size_text e) End)) End

abbrev pub memory_type_items : MemoryType → Forest
memory_type_items m = onto (wide_items m.wide) (onto (limits_items m.limits) (onto (shared_items m.shared) (page_items m.page)))

-- The items of a memory after its word
abbrev pub memory_items : Scope → ℕ → MemoryType → Forest
memory_items s i m = onto (own_id s Memory i) (memory_type_items m)

-- ---- pieces write the items

shared_writes : (shared : Bool) → Writes Bound (shared_pieces shared) Bound (shared_items shared)
unfolding class
shared_writes true = search writing
shared_writes false = nothing_writes

-- The size of a page is below 2 ^ 64.
size_fits : (e : ℕ) → e < 64 → 2 ^ e < 2 ^ 64
size_fits e h = pow-lt h

page_writes : (e : Option ℕ) → IsRangedPage e → Writes Bound (page_pieces e) Bound (page_items e)
unfolding class
page_writes None h = nothing_writes
page_writes (Some e) h =
    let small : 2 ^ e < 2 ^ 64 = size_fits e h in
    let word : is_word (size_text e) ≡ true = is_word-hexadecimal (2 ^ e) (omega arith) in
    search writing

pub memory_type_writes : (m : MemoryType) → IsRangedMemory m → Writes Free (memory_type_pieces m) Bound (memory_type_items m)
unfolding memory_type_pieces
memory_type_writes m h =
    both_write (wide_writes m.wide) (both_write (limits_write m.limits h.min h.max) (both_write (shared_writes m.shared) (page_writes m.page h.page)))

pub memory_writes : (s : Scope) → AreNamed s.names → (i : ℕ) (m : Placed MemoryType) → i < 2 ^ 64 → IsRangedMemory m.value →
    Writes Bound (memory_pieces s i m) Bound (Group (Word (codes "memory") (memory_items s i m.value)) End)
unfolding memory_pieces class
memory_writes s named i m h r =
    break_writes (line_group_space_writes (codes "memory") _ refl refl
    (both_write (declaration_writes (s.names.items Memory i) i (named.items Memory i) h) (one_space_writes {a = Bound} refl (memory_type_writes m.value r))))

-- ---- the items read back

-- The items after the limits
abbrev after_items : Bool → Option ℕ → Forest
after_items shared e = onto (shared_items shared) (page_items e)

no_number_after : (shared : Bool) (e : Option ℕ) → IsNoNumber (after_items shared e)
unfolding natural numeral
no_number_after true e min = refl
no_number_after false None min = refl
no_number_after false (Some e) min = refl

shared_in_front-items : (shared : Bool) (e : Option ℕ) → shared_in_front (after_items shared e) ≡ (shared, page_items e)
shared_in_front-items true e = refl
shared_in_front-items false None = refl
shared_in_front-items false (Some e) = refl

exponent_of-size : (e : ℕ) → e < 64 → exponent_of (size_text e) ≡ Some e
exponent_of-size e h =
    let small : 2 ^ e < 2 ^ 64 = size_fits e h in
    ap (λ o. o >>= number_below 64 >>= exponent_below 64) (natural-hexadecimal (2 ^ e) (omega arith))
    ∙ ap (λ b. cond b (Some (2 ^ e)) None >>= exponent_below 64) (lt-ltb (2 ^ e) (2 ^ 64) small)
    ∙ exponent_below-power 64 e h

page-items : (e : Option ℕ) → IsRangedPage e → page (page_items e) ≡ Some e
page-items None h = refl
page-items (Some e) h = ap (λ o. o >>= λ n. Some (Some n)) (exponent_of-size e h)

-- The type does not start with an identifier.
pub identifier_in_front-memory_type : (m : MemoryType) → identifier_in_front (memory_type_items m) ≡ (None, memory_type_items m)
identifier_in_front-memory_type m = identifier_in_front-limits m.wide m.limits (after_items m.shared m.page)

pub memory_type-items : (m : MemoryType) → IsRangedMemory m → memory_type (memory_type_items m) ≡ Some m
memory_type-items m h =
    rw (
      address_type-items m.wide m.limits (after_items m.shared m.page) h.min,
      limits-items m.limits (after_items m.shared m.page) h.min h.max (no_number_after m.shared m.page),
      shared_in_front-items m.shared m.page,
      page-items m.page h.page,
    )

-- The identifier of a memory is read, and the items after it are left.
pub identifier_in_front-memory : (s : Scope) (i : ℕ) (m : MemoryType) → identifier_in_front (memory_items s i m) ≡ (id (s.names.items Memory i), memory_type_items m)
identifier_in_front-memory s i m = declaration-items (s.names.items Memory i) (memory_type_items m) (identifier_in_front-memory_type m)

pub read_memory-items : (s : Scope) (i : ℕ) (m : MemoryType) → IsRangedMemory m → read_memory (memory_items s i m) ≡ Some m
read_memory-items s i m h = rw (identifier_in_front-memory s i m, memory_type-items m h)
