-- Worked rows of lines: the places and texts of a module's lines, the lines of hints, and where operators are
-- found in the lines.
use Rattle.std.specs.Prelude.{◌≡◌, ℕ, List, [], ◌∷◌, ◌++◌, codes, Option, Some, None, option_map, refl}
use Rattle.wasmprinter_spec.specs.Grammar.{◌>>=◌}
use Rattle.wasmprinter_spec.specs.Placed.{PlacedModule}
use Rattle.wasmprinter_spec.specs.Options.{defaults}
use Rattle.wasmprinter_spec.specs.Layout.{layout}
use Rattle.wasmprinter_spec.specs.Lines.{TextLine, lines_of, line_places, hint_places, lines_without, place_of}
use Rattle.wasmprinter_spec.proofs.Samples.{head_bytes, identity_placed, stored_placed, section, custom, hinted}
use Rattle.wasmprinter_spec.proofs.Computing.{composing, reading}
use Rattle.wasmprinter_spec.proofs.FromBytes.{parsed, unclaimed}

abbrev printed_lines : PlacedModule → List TextLine
printed_lines m = lines_of (layout defaults unclaimed m)

abbrev line : ℕ → List ℕ → TextLine
line place text = (Some place, text ++ (10 ∷ []))

-- ---- an exported function

identity_lines : printed_lines identity_placed ≡
    line 0 (codes "(module")
    ∷ line 0xb (codes "  (type (;0;) (func (param i32) (result i32)))")
    ∷ line 0x17 (codes "  (export \"f\" (func 0))")
    ∷ line 0x1f (codes "  (func (;0;) (type 0) (param i32) (result i32)")
    ∷ line 0x20 (codes "    local.get 0")
    ∷ line 0x22 (codes "  )")
    ∷ line 0x23 (codes ")")
    ∷ []
unfolding composing reading
identity_lines = refl

identity_first : place_of identity_placed (printed_lines identity_placed) 0 0 ≡ Some (4, 0x20)
unfolding composing reading
identity_first = refl

identity_second : place_of identity_placed (printed_lines identity_placed) 0 1 ≡ None
identity_second = refl

no_second_function : place_of identity_placed (printed_lines identity_placed) 1 0 ≡ None
no_second_function = refl

no_lines : place_of identity_placed [] 0 0 ≡ None
no_lines = refl

stored_first : place_of stored_placed (printed_lines stored_placed) 0 0 ≡ Some (4, 0x1a)
unfolding composing reading
stored_first = refl

stored_last : place_of stored_placed (printed_lines stored_placed) 0 2 ≡ Some (6, 0x1e)
unfolding composing reading
stored_last = refl

-- ---- from bytes

abbrev decoded_lines : List ℕ → Option (List TextLine)
decoded_lines bytes = option_map printed_lines (parsed bytes)

-- The line of the locals has the place of the first entry that declares a local.
with_locals : decoded_lines (
    head_bytes
    ++ (section 0x01 (0x01 ∷ 0x60 ∷ 0x00 ∷ 0x00 ∷ [])
    ++ (section 0x03 (0x01 ∷ 0x00 ∷ [])
    ++ section 0x0a (0x01 ∷ 0x07 ∷ 0x02 ∷ 0x00 ∷ 0x7f ∷ 0x02 ∷ 0x7e ∷ 0x01 ∷ 0x0b ∷ [])))) ≡ Some (
    line 0 (codes "(module")
    ∷ line 0xb (codes "  (type (;0;) (func))")
    ∷ line 0x16 (codes "  (func (;0;) (type 0)")
    ∷ line 0x19 (codes "    (local i64 i64)")
    ∷ line 0x1b (codes "    nop")
    ∷ line 0x1c (codes "  )")
    ∷ line 0x1d (codes ")")
    ∷ [])
unfolding composing reading
with_locals = refl

-- All types of an explicit `(rec ..)` have the same place. The closing parenthesis of the group has none.
with_group : decoded_lines (head_bytes ++ section 0x01 (0x01 ∷ 0x4e ∷ 0x02 ∷ 0x60 ∷ 0x00 ∷ 0x00 ∷ 0x60 ∷ 0x00 ∷ 0x00 ∷ [])) ≡ Some (
    line 0 (codes "(module")
    ∷ line 0xb (codes "  (rec")
    ∷ line 0xd (codes "    (type (;0;) (func))")
    ∷ line 0xd (codes "    (type (;1;) (func))")
    ∷ (None, codes "  )\n")
    ∷ line 0x13 (codes ")")
    ∷ [])
unfolding composing reading
with_group = refl

-- The place of empty data is the place at which the bytes end.
with_fault : decoded_lines (head_bytes ++ custom (codes "producers") []) ≡ Some (
    line 0 (codes "(module")
    ∷ line 0x14 (codes "  ;; failed to parse custom section `producers`")
    ∷ line 0xa (codes "  (@custom \"producers\" (before first) \"\")")
    ∷ line 0x14 (codes ")")
    ∷ [])
unfolding composing reading
with_fault = refl

-- A refused section ends the last line.
with_refusal : decoded_lines (head_bytes ++ custom (codes "dylink.0") (0x09 ∷ 0x00 ∷ [])) ≡ Some ((Some 0, codes "(module") ∷ [])
unfolding composing reading
with_refusal = refl

-- ---- a hint

-- An `if` whose hint is in a section before the code section
abbrev hinted_if : List ℕ
hinted_if = hinted (0x01 ∷ 0x00 ∷ 0x01 ∷ 0x03 ∷ 0x01 ∷ 0x01 ∷ [])

hinted_lines : decoded_lines hinted_if ≡ Some (
    line 0 (codes "(module")
    ∷ line 0xb (codes "  (type (;0;) (func (param i32)))")
    ∷ line 0x39 (codes "  (func (;0;) (type 0) (param i32)")
    ∷ line 0x3a (codes "    local.get 0")
    ∷ line 0x32 (codes "    (@metadata.code.branch_hint \"\\01\")")
    ∷ line 0x3c (codes "    if ;; label = @1")
    ∷ line 0x3e (codes "    end")
    ∷ line 0x3f (codes "  )")
    ∷ line 0x40 (codes ")")
    ∷ [])
unfolding composing reading
hinted_lines = refl

hint_is : option_map hint_places (parsed hinted_if) ≡ Some (0x32 ∷ [])
unfolding composing reading
hint_is = refl

-- Without the lines of hints, the lines of the function are adjacent.
kept_are : option_map (λ m. lines_without (hint_places m) (line_places (printed_lines m))) (parsed hinted_if)
    ≡ Some (Some 0 ∷ Some 0xb ∷ Some 0x39 ∷ Some 0x3a ∷ Some 0x3c ∷ Some 0x3e ∷ Some 0x3f ∷ Some 0x40 ∷ [])
unfolding composing reading
kept_are = refl

-- The `if` is found among all lines.
found_after : (parsed hinted_if >>= λ m. place_of m (printed_lines m) 0 1) ≡ Some (5, 0x3c)
unfolding composing reading
found_after = refl
