-- Worked rows of immediates of each shape: their calls, with styles.
use Rattle.std.specs.Prelude.{◌≡◌, ℕ, List, [], ◌∷◌, ◌++◌, true, false, codes, replicate, refl}
use Rattle.wasmprinter_spec.specs.Grammar.{Placed}
use Rattle.wasmprinter_spec.specs.Types as types
use Rattle.wasmprinter_spec.specs.Types.{ref_type, signature_at}
use Rattle.wasmprinter_spec.specs.Operator.{opcode, mem_arg_of, Immediates, Indices, Types, Heap, Cast, Memory, MemoryLane, Lane, F32, Bytes, Operator}
use Rattle.wasmprinter_spec.specs.Call.{Call, Name, Keyword, TypeName, Literal, atoms}
use Rattle.wasmprinter_spec.specs.Options.{defaults}
use Rattle.wasmprinter_spec.specs.Piece.{all_calls}
use Rattle.wasmprinter_spec.specs.Layout.Operators.{InLine, expression_pieces}
use Rattle.wasmprinter_spec.proofs.Computing.{printing}
use Rattle.wasmprinter_spec.proofs.BlockSamples.{sample_types}
use Rattle.wasmprinter_spec.proofs.StyledCalls.{plain, in_style}
use Rattle.wasmprinter_spec.specs.Names.{no_names}

abbrev called : ℕ → ℕ → Immediates → List Call
called p n i =
    let placed : Placed Operator = record { place = 0; value = record { opcode = opcode p n; immediates = i } } in
    atoms (all_calls defaults (expression_pieces (record { form = InLine; signature = signature_at sample_types; nesting = 0; names = no_names; function = 0; body = 0 }) (placed ∷ [])))

abbrev index : List ℕ → List Call
index digits = plain (codes " ") ++ in_style Name digits

abbrev one_result : List ℕ → List Call
one_result t = plain (codes " (") ++ in_style Keyword (codes "result ") ++ in_style TypeName t ++ plain (codes ")")

-- Indices have the style of names, also those of memories and tables.
index_calls : called 0 0x11 (Indices 0 1) ++ called 0xfc 12 (Indices 3 1) ++ called 0xfc 10 (Indices 0 2)
    ≡ atoms (
    plain (codes "call_indirect") ++ index (codes "1")
    ++ plain (codes " (") ++ in_style Keyword (codes "type ") ++ in_style Name (codes "0") ++ plain (codes ")")
    ++ plain (codes "table.init") ++ index (codes "1") ++ index (codes "3")
    ++ plain (codes "memory.copy") ++ index (codes "0") ++ index (codes "2"))
unfolding printing
index_calls = refl

-- A field has the style of an index; a number of elements does not.
field_calls : called 0xfb 2 (Indices 1 2) ++ called 0xfb 8 (Indices 1 2)
    ≡ atoms (plain (codes "struct.get") ++ index (codes "1") ++ index (codes "2") ++ plain (codes "array.new_fixed") ++ index (codes "1") ++ plain (codes " 2"))
unfolding printing
field_calls = refl

-- Offsets, alignments and lanes have no style.
operand_calls : called 0 0x28 (Memory (mem_arg_of 1 1 4)) ++ called 0xfd 84 (MemoryLane (mem_arg_of 0 2 1) 3) ++ called 0xfd 21 (Lane 15)
    ≡ atoms (
    plain (codes "i32.load") ++ index (codes "1") ++ plain (codes " offset=4 align=2")
    ++ plain (codes "v128.load8_lane") ++ index (codes "2") ++ plain (codes " offset=1 3")
    ++ plain (codes "i8x16.extract_lane_s 15"))
unfolding printing
operand_calls = refl

-- The keyword `result` includes a space only before a single type.
selection_calls : called 0 0x1c (Types (types.I32 ∷ [])) ++ called 0 0x1c (Types []) ++ called 0 0x1c (Types (types.I32 ∷ types.F64 ∷ []))
    ≡ atoms (
    plain (codes "select") ++ one_result (codes "i32")
    ++ plain (codes "select (") ++ in_style Keyword (codes "result") ++ plain (codes ")")
    ++ plain (codes "select (") ++ in_style Keyword (codes "result") ++ plain (codes " ") ++ in_style TypeName (codes "i32")
    ++ plain (codes " ") ++ in_style TypeName (codes "f64") ++ plain (codes ")"))
unfolding printing
selection_calls = refl

reference_calls : called 0 0xd0 (Heap types.Func) ++ called 0xfb 20 (Heap types.Func) ++ called 0xfb 23 (Heap (types.Index 4))
    ≡ atoms (
    plain (codes "ref.null ") ++ in_style TypeName (codes "func")
    ++ plain (codes "ref.test (") ++ in_style Keyword (codes "ref ") ++ in_style TypeName (codes "func") ++ plain (codes ")")
    ++ plain (codes "ref.cast (") ++ in_style Keyword (codes "ref") ++ plain (codes " null ") ++ in_style Name (codes "4") ++ plain (codes ")"))
unfolding printing
reference_calls = refl

cast_calls : called 0xfb 24 (Cast 0 (ref_type true types.Any) (ref_type false (types.Index 1)))
    ≡ atoms (
    plain (codes "br_on_cast") ++ index (codes "0") ++ plain (codes " ") ++ in_style TypeName (codes "anyref")
    ++ plain (codes " (") ++ in_style Keyword (codes "ref ") ++ in_style Name (codes "1") ++ plain (codes ")"))
unfolding printing
cast_calls = refl

-- The numbers of a vector are one literal. The lanes of a shuffle have no style.
vector_calls : called 0xfd 12 (Bytes (1 ∷ replicate 15 0)) ++ called 0xfd 13 (Bytes (replicate 16 7))
    ≡ atoms (
    plain (codes "v128.const") ++ in_style TypeName (codes " i32x4") ++ in_style Literal (codes " 0x00000001 0x00000000 0x00000000 0x00000000")
    ++ plain (codes "i8x16.shuffle 7 7 7 7 7 7 7 7 7 7 7 7 7 7 7 7"))
unfolding printing
vector_calls = refl

float_calls : called 0 0x43 (F32 0x3fc00000) ≡ atoms (plain (codes "f32.const ") ++ in_style Literal (codes "0x1.8p+0"))
unfolding printing
float_calls = refl
