-- Worked rows of the binary format (section 5 of the standard): what single lists of bytes encode.
use Rattle.std.specs.Prelude.{◌≡◌, ℕ, zero, suc, ◌+◌, List, [], ◌∷◌, ◌++◌, take, drop, length, codes, nat_lt, true, Some, None, refl}
use Rattle.std.proofs.Common.{arith, ltb}
use Rattle.std.proofs.lemmas.Bool.{and_parts, ltb-true}
use Rattle.std.specs.List.{list_all}
use Rattle.std.specs.Char.{encode_utf8}
use Rattle.std.specs.Str.{is_utf8, chars}
use Rattle.wasmprinter_spec.specs.Grammar.{input, Placed}
use Rattle.wasmprinter_spec.specs.Types.{I32, FuncKind}
use Rattle.wasmprinter_spec.specs.Placed.{LocalEntry, PlacedModule}
use Rattle.wasmprinter_spec.specs.Binary.{binary, AreBytes, Spells, IsComponent}
use Rattle.wasmprinter_spec.specs.Limits.{most_functions, IsWithinLimits}
use Rattle.wasmprinter_spec.specs.Table.{table}
use Rattle.wasmprinter_spec.proofs.Samples.{head_bytes, local_get, empty_placed, identity_bytes, identity_placed, stored_bytes_to_end, stored_bytes, stored_placed, mixed_bytes, mixed_placed, func, bare}
use Rattle.wasmprinter_spec.proofs.FromBytes.{parsed}
use Rattle.wasmprinter_spec.proofs.Numbers.{number_if}

-- ---- whole modules

empty_module : parsed head_bytes ≡ Some empty_placed
empty_module = refl

identity_module : parsed identity_bytes ≡ Some identity_placed
unfolding table is_utf8 chars encode_utf8
identity_module = refl

stored_module : parsed stored_bytes ≡ Some stored_placed
unfolding table
stored_module = refl

mixed_module : parsed mixed_bytes ≡ Some mixed_placed
unfolding table is_utf8 chars encode_utf8
mixed_module = refl

-- A list is a list of bytes if each element passes the test.
below_256 : (bytes : List ℕ) → list_all (λ b. nat_lt b 256) bytes ≡ true → AreBytes bytes
below_256 [] h = tt
below_256 (b ∷ bs) h =
    let parts : (ltb b 256 ≡ true) × (list_all (λ c. ltb c 256) bs ≡ true) = and_parts (ltb b 256) (list_all (λ c. ltb c 256) bs) h in
    (ltb-true b 256 parts.0, below_256 bs parts.1)

-- Bytes that parse as a module encode it.
identity_spelled : Spells identity_bytes identity_placed
identity_spelled = record {
  are_bytes = below_256 identity_bytes refl;
  spelled = binary.sound (input 0 identity_bytes) identity_placed identity_module;
}

-- Another byte in place of the last `end`
without_end : parsed (stored_bytes_to_end ++ (0x0a ∷ [])) ≡ None
unfolding table
without_end = refl

-- Bytes that do not parse encode no module.
unspelled : (bytes : List ℕ) (m : PlacedModule) → parsed bytes ≡ None → Spells bytes m → ⊥
unspelled bytes m e s = let p : parsed bytes ≡ Some m = binary.complete (input 0 bytes) m s.spelled in absurd (cc (e, p))

without_end_unspelled : (m : PlacedModule) → Spells (stored_bytes_to_end ++ (0x0a ∷ [])) m → ⊥
without_end_unspelled m = unspelled (stored_bytes_to_end ++ (0x0a ∷ [])) m without_end

-- The numbers k below n, in increasing order, for which the first k bytes encode a module
abbrev lengths_below : ℕ → List ℕ → List ℕ
lengths_below zero bytes = []
lengths_below (suc n) bytes = lengths_below n bytes ++ number_if (parsed (take n bytes)) n

-- Only two proper prefixes are modules: the preamble, and the preamble with the type section.
cut_identity : lengths_below 35 identity_bytes ≡ 8 ∷ 16 ∷ []
unfolding table is_utf8 chars encode_utf8
cut_identity = refl

-- ---- sizes

-- The module `identity`, with these bytes as the size of its type section
abbrev identity_sized : List ℕ → List ℕ
identity_sized size = take 9 identity_bytes ++ size ++ drop 10 identity_bytes

-- The module `identity` with all fields one byte further on
abbrev identity_moved : PlacedModule
identity_moved = record empty_placed {
  types = bare 0xc (func (I32 ∷ []) (I32 ∷ [])) ∷ [];
  functions =
      record {
        type_index = 0;
        body = record {
          place = 0x20;
          value = record { locals = []; operators = record { place = 0x21; value = local_get 0 } ∷ []; end = 0x23 };
        };
      }
      ∷ [];
  exports = record { place = 0x18; value = record { name = codes "f"; kind = FuncKind; index = 0 } } ∷ [];
  size = 36;
}

-- An encoding longer than needed
padded_size : parsed (identity_sized (0x86 ∷ 0x00 ∷ [])) ≡ Some identity_moved
unfolding table is_utf8 chars encode_utf8
padded_size = refl

-- Six bytes for a number of 32 bits
overlong_size : parsed (identity_sized (0x86 ∷ 0x80 ∷ 0x80 ∷ 0x80 ∷ 0x80 ∷ 0x00 ∷ [])) ≡ None
overlong_size = refl

size_too_small : parsed (identity_sized (0x05 ∷ [])) ≡ None
size_too_small = refl

size_too_great : parsed (identity_sized (0x07 ∷ [])) ≡ None
size_too_great = refl

-- A byte after the items of a section
left_in_section : parsed (head_bytes ++ (0x01 ∷ 0x02 ∷ 0x00 ∷ 0x00 ∷ [])) ≡ None
left_in_section = refl

size_beyond_end : parsed (head_bytes ++ (0x01 ∷ 0x02 ∷ 0x00 ∷ [])) ≡ None
size_beyond_end = refl

-- A module with one function, whose body has this size and these bytes
abbrev with_body : ℕ → List ℕ → List ℕ
with_body size bytes =
    head_bytes
    ++ (0x01 ∷ 0x04 ∷ 0x01 ∷ 0x60 ∷ 0x00 ∷ 0x00 ∷ [])
    ++ (0x03 ∷ 0x02 ∷ 0x01 ∷ 0x00 ∷ [])
    ++ (0x0a ∷ (length bytes + 2) ∷ 0x01 ∷ size ∷ bytes)

-- A module with one type and one function without operators
abbrev with_locals : List (Placed LocalEntry) → ℕ → ℕ → PlacedModule
with_locals locals end size = record empty_placed {
  types = bare 0xb (func [] []) ∷ [];
  functions = record { type_index = 0; body = record { place = 0x16; value = record { locals = locals; operators = []; end = end } } } ∷ [];
  exports = [];
  size = size;
}

body_exact : parsed (with_body 2 (0x00 ∷ 0x0b ∷ [])) ≡ Some (with_locals [] 0x17 0x18)
unfolding table
body_exact = refl

-- A byte after the last `end`, even if it is another `end`
body_with_more : parsed (with_body 3 (0x00 ∷ 0x0b ∷ 0x0b ∷ [])) ≡ None
unfolding table
body_with_more = refl

body_too_short : parsed (with_body 1 (0x00 ∷ 0x0b ∷ [])) ≡ None
unfolding table
body_too_short = refl

-- A byte that is the opcode of no operator
body_unlisted : parsed (with_body 3 (0x00 ∷ 0xff ∷ 0x0b ∷ [])) ≡ None
unfolding table
body_unlisted = refl

-- The `end` of the body does not also close a block.
body_open_block : parsed (with_body 4 (0x00 ∷ 0x02 ∷ 0x40 ∷ 0x0b ∷ [])) ≡ None
unfolding table
body_open_block = refl

body_else_without_if : parsed (with_body 4 (0x00 ∷ 0x05 ∷ 0x0b ∷ 0x0b ∷ [])) ≡ None
unfolding table
body_else_without_if = refl

body_two_else : parsed (with_body 7 (0x00 ∷ 0x04 ∷ 0x40 ∷ 0x05 ∷ 0x05 ∷ 0x0b ∷ 0x0b ∷ [])) ≡ None
unfolding table
body_two_else = refl

body_catch_in_block : parsed (with_body 7 (0x00 ∷ 0x02 ∷ 0x40 ∷ 0x07 ∷ 0x00 ∷ 0x0b ∷ 0x0b ∷ [])) ≡ None
unfolding table
body_catch_in_block = refl

-- Constants of 32 and 64 bits that are one bit too long
body_long_constant : parsed (with_body 8 (0x00 ∷ 0x41 ∷ 0x80 ∷ 0x80 ∷ 0x80 ∷ 0x80 ∷ 0x08 ∷ 0x0b ∷ [])) ≡ None
unfolding table
body_long_constant = refl

body_longer_constant : parsed (with_body 13 (0x00 ∷ 0x42 ∷ 0x80 ∷ 0x80 ∷ 0x80 ∷ 0x80 ∷ 0x80 ∷ 0x80 ∷ 0x80 ∷ 0x80 ∷ 0x80 ∷ 0x01 ∷ 0x0b ∷ [])) ≡ None
unfolding table
body_longer_constant = refl

-- ---- locals

abbrev many_locals : ℕ → PlacedModule
many_locals n = with_locals (record { place = 0x17; value = record { count = n; type = I32 } } ∷ []) 0x1b 0x1c

most_locals : parsed (with_body 6 (0x01 ∷ 0xd0 ∷ 0x86 ∷ 0x03 ∷ 0x7f ∷ 0x0b ∷ [])) ≡ Some (many_locals 50000)
unfolding table
most_locals = refl

too_many_locals : parsed (with_body 6 (0x01 ∷ 0xd1 ∷ 0x86 ∷ 0x03 ∷ 0x7f ∷ 0x0b ∷ [])) ≡ Some (many_locals 50001)
unfolding table
too_many_locals = refl

most_locals_within : IsWithinLimits (many_locals 50000)
most_locals_within = record { tables = tt; locals = (omega arith, tt); functions = omega arith }

too_many_beyond : IsWithinLimits (many_locals 50001) → ⊥
too_many_beyond w = omega (arith, w.locals.0)

-- The locals of all entries count together.
too_many_in_two_entries : IsWithinLimits (with_locals (record { place = 0x17; value = record { count = 25000; type = I32 } } ∷ record { place = 0x1b; value = record { count = 25001; type = I32 } } ∷ []) 0x1f 0x20) → ⊥
too_many_in_two_entries w = omega (arith, w.locals.0)

function_limit : most_functions ≡ 1000000
function_limit = refl

-- A local whose type is no value type
local_of_no_type : parsed (with_body 4 (0x01 ∷ 0x01 ∷ 0x40 ∷ 0x0b ∷ [])) ≡ None
unfolding table
local_of_no_type = refl

-- ---- sections

-- Sections without items
empty_sections : parsed (head_bytes ++ (0x01 ∷ 0x01 ∷ 0x00 ∷ 0x03 ∷ 0x01 ∷ 0x00 ∷ 0x07 ∷ 0x01 ∷ 0x00 ∷ 0x0a ∷ 0x01 ∷ 0x00 ∷ [])) ≡ Some (record empty_placed { size = 20 })
empty_sections = refl

second_type_section : parsed (head_bytes ++ (0x01 ∷ 0x01 ∷ 0x00 ∷ 0x01 ∷ 0x01 ∷ 0x00 ∷ [])) ≡ None
second_type_section = refl

function_before_type : parsed (head_bytes ++ (0x03 ∷ 0x01 ∷ 0x00 ∷ 0x01 ∷ 0x01 ∷ 0x00 ∷ [])) ≡ None
function_before_type = refl

code_before_export : parsed (head_bytes ++ (0x0a ∷ 0x01 ∷ 0x00 ∷ 0x07 ∷ 0x01 ∷ 0x00 ∷ [])) ≡ None
code_before_export = refl

no_such_section : parsed (head_bytes ++ (0x0e ∷ 0x01 ∷ 0x00 ∷ [])) ≡ None
no_such_section = refl

-- A section id is one byte, not a number in LEB128.
long_id : parsed (head_bytes ++ (0x81 ∷ 0x00 ∷ 0x01 ∷ 0x00 ∷ [])) ≡ None
long_id = refl

-- Two functions and one body
fewer_bodies : parsed (head_bytes ++ (0x03 ∷ 0x03 ∷ 0x02 ∷ 0x00 ∷ 0x00 ∷ 0x0a ∷ 0x04 ∷ 0x01 ∷ 0x02 ∷ 0x00 ∷ 0x0b ∷ [])) ≡ None
unfolding table
fewer_bodies = refl

-- One function and two bodies
more_bodies : parsed (head_bytes ++ (0x03 ∷ 0x02 ∷ 0x01 ∷ 0x00 ∷ 0x0a ∷ 0x07 ∷ 0x02 ∷ 0x02 ∷ 0x00 ∷ 0x0b ∷ 0x02 ∷ 0x00 ∷ 0x0b ∷ [])) ≡ None
unfolding table
more_bodies = refl

no_code_section : parsed (head_bytes ++ (0x03 ∷ 0x02 ∷ 0x01 ∷ 0x00 ∷ [])) ≡ None
no_code_section = refl

no_function_section : parsed (head_bytes ++ (0x0a ∷ 0x04 ∷ 0x01 ∷ 0x02 ∷ 0x00 ∷ 0x0b ∷ [])) ≡ None
unfolding table
no_function_section = refl

-- ---- the preamble

other_version : parsed (0x00 ∷ 0x61 ∷ 0x73 ∷ 0x6d ∷ 0x02 ∷ 0x00 ∷ 0x00 ∷ 0x00 ∷ []) ≡ None
other_version = refl

other_magic : parsed (0x00 ∷ 0x61 ∷ 0x73 ∷ 0x6e ∷ 0x01 ∷ 0x00 ∷ 0x00 ∷ 0x00 ∷ []) ≡ None
other_magic = refl

component : parsed (0x00 ∷ 0x61 ∷ 0x73 ∷ 0x6d ∷ 0x0d ∷ 0x00 ∷ 0x01 ∷ 0x00 ∷ []) ≡ None
component = refl

component_marked : IsComponent (0x00 ∷ 0x61 ∷ 0x73 ∷ 0x6d ∷ 0x0d ∷ 0x00 ∷ 0x01 ∷ 0x00 ∷ [])
component_marked = (0x0d, 0x00, [], refl)

-- The bytes after the component mark do not matter.
long_component_marked : IsComponent (0x00 ∷ 0x61 ∷ 0x73 ∷ 0x6d ∷ 0xff ∷ 0xfe ∷ 0x01 ∷ 0x00 ∷ 0x00 ∷ 0x00 ∷ [])
long_component_marked = (0xff, 0xfe, 0x00 ∷ 0x00 ∷ [], refl)

-- ---- names

-- A module whose only field exports function 0 under this name
abbrev with_name : List ℕ → List ℕ
with_name bytes = head_bytes ++ (0x07 ∷ (length bytes + 4) ∷ 0x01 ∷ length bytes ∷ bytes) ++ (0x00 ∷ 0x00 ∷ [])

abbrev named : List ℕ → ℕ → PlacedModule
named bytes size = record empty_placed { exports = record { place = 0xb; value = record { name = bytes; kind = FuncKind; index = 0 } } ∷ []; size = size }

empty_name : parsed (with_name []) ≡ Some (named [] 14)
unfolding is_utf8 chars encode_utf8
empty_name = refl

-- The character é
long_character : parsed (with_name (0xc3 ∷ 0xa9 ∷ [])) ≡ Some (named (0xc3 ∷ 0xa9 ∷ []) 16)
unfolding is_utf8 chars encode_utf8
long_character = refl

no_character : parsed (with_name (0xff ∷ [])) ≡ None
unfolding is_utf8 chars encode_utf8
no_character = refl

cut_character : parsed (with_name (0xc3 ∷ [])) ≡ None
unfolding is_utf8 chars encode_utf8
cut_character = refl

-- The character 0 encoded in two bytes
overlong_character : parsed (with_name (0xc0 ∷ 0x80 ∷ [])) ≡ None
unfolding is_utf8 chars encode_utf8
overlong_character = refl

surrogate : parsed (with_name (0xed ∷ 0xa0 ∷ 0x80 ∷ [])) ≡ None
unfolding is_utf8 chars encode_utf8
surrogate = refl

-- The number 0x110000, which is no character
beyond_characters : parsed (with_name (0xf4 ∷ 0x90 ∷ 0x80 ∷ 0x80 ∷ [])) ≡ None
unfolding is_utf8 chars encode_utf8
beyond_characters = refl
