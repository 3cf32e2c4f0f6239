-- Worked rows: lists of operators that meet the premises of their law, and their texts, which therefore read back
use Rattle.std.proofs.Common.{◌≡◌, ℕ, zero, suc, pos, inl, ◌∷◌, [], List, length, Bool, Option, Some, None, true, false, refl, sym, ap, ◌∙◌, subst, codes, arith, lit<, ◌<◌, ◌≤◌, ◌^◌}
use Rattle.std.specs.Fmt.{digits}
use Rattle.std.specs.Str.{chars}
use Rattle.std.proofs.lemmas.Int.{ints}
use Rattle.wasmprinter_spec.specs.Grammar.{Placed, some_is}
use Rattle.wasmprinter_spec.specs.Types as types
use Rattle.wasmprinter_spec.specs.Types.{FieldType, FuncType}
use Rattle.wasmprinter_spec.specs.Row as row
use Rattle.wasmprinter_spec.specs.Row.{Space}
use Rattle.wasmprinter_spec.specs.Operator.{opcode, Empty, Value, OfType, Immediates, NoImmediates, Block, Index, Indices, Types, Heap, mem_arg_of, Memory, I32, F32, Bytes, Operator}
use Rattle.wasmprinter_spec.specs.Table.{table}
use Rattle.wasmprinter_spec.specs.Nesting.{none, plain, block}
use Rattle.wasmprinter_spec.specs.Module.{without_places}
use Rattle.wasmprinter_spec.specs.Indexed.{Counts, IsDeclaredFunc}
use Rattle.wasmprinter_spec.specs.Labels.{Named}
use Rattle.wasmprinter_spec.specs.Names.Section.{Entry, function_subsection, local_subsection, label_subsection, type_subsection, field_subsection}
use Rattle.wasmprinter_spec.specs.Names.{Names, names_of, identifiers, in_function}
use Rattle.wasmprinter_spec.specs.Quoted.{identifier_text}
use Rattle.wasmprinter_spec.specs.Character.{class}
use Rattle.wasmprinter_spec.specs.FloatText.{digits_after, unsigned_text, float_text, unsigned_calls, float_calls}
use Rattle.wasmprinter_spec.specs.Call.{text_of}
use Rattle.wasmprinter_spec.specs.Options.{defaults, IsBlank}
use Rattle.wasmprinter_spec.specs.Piece.{all_calls, repetition_of}
use Rattle.wasmprinter_spec.specs.Layout.Groups.{line_group, line_group_space}
use Rattle.wasmprinter_spec.specs.Layout.Identifiers.{id_and_name_pieces, leading_id_and_name_pieces, index_pieces}
use Rattle.wasmprinter_spec.specs.Layout.ValTypes.{type_index_pieces, heap_pieces, null_ref_pieces, ref_pieces, val_pieces, type_list}
use Rattle.wasmprinter_spec.specs.Layout.Variables.{variables_pieces, groups_pieces}
use Rattle.wasmprinter_spec.specs.Layout.Types.{list_group, signature_pieces, type_use_pieces}
use Rattle.wasmprinter_spec.specs.Layout.Operators.{Form, OverLines, InLine, Setting, label_pieces, ending_pieces, block_pieces, operand_pieces, default_index_pieces, type_and_field_pieces, select_pieces, offset_pieces, align_pieces, mem_arg_pieces, hex_words, vector_pieces, immediate_pieces, operator_pieces, operators_pieces, expression_pieces}
use Rattle.wasmprinter_spec.specs.IndexSpaces.{Identifiers, Spaces, space_in, Context}
use Rattle.wasmprinter_laws.specs.Listed.{AreSignaturesInRange}
use Rattle.wasmprinter_laws.specs.NameLaws.{AreEntries}
use Rattle.wasmprinter_laws.specs.OperatorLaws.{count_in, HaveSameTypes, HaveSameNames, AreOperators, read_alone}
use Rattle.wasmprinter_laws.proofs.Operators.LabelNames.{printed_is_utf8}
use Rattle.wasmprinter_laws.proofs.Operators.ReadBack.{named_operators_read_back}

-- ---- definitions for all rows

abbrev operator : ℕ → Immediates → Placed Operator
operator n i = record { place = 0; value = record { opcode = opcode 0 n; immediates = i } }

abbrev prefixed : ℕ → ℕ → Immediates → Placed Operator
prefixed p n i = record { place = 0; value = record { opcode = opcode p n; immediates = i } }

-- Two types: a function with one parameter of type i32, and a structure with one field of type i32
abbrev one_i32 : FuncType
one_i32 = record { params = types.I32 ∷ []; results = [] }

abbrev signature : ℕ → Option FuncType
signature zero = Some one_i32
signature (suc n) = None

abbrev fields : ℕ → Option (List FieldType)
fields zero = None
fields (suc zero) = Some (types.field_type false (types.Val types.I32) ∷ [])
fields (suc (suc n)) = None

-- Two items of each kind
abbrev counts : Counts
counts = record {
  types = 2;
  functions = 2;
  tables = 2;
  memories = 2;
  tags = 2;
  globals = 2;
  elems = 2;
  data_segments = 2;
  locals = 2;
  signature = signature;
  fields = fields;
}

abbrev setting : Names → Form → Setting
setting names form = record { form = form; signature = signature; nesting = 2; names = names; function = 0; body = 0 }

abbrev spaces : Names → Spaces
spaces names = record {
  types = identifiers (names.items row.Types) 2;
  functions = identifiers (names.items row.Func) 2;
  tables = identifiers (names.items row.Table) 2;
  memories = identifiers (names.items row.Memory) 2;
  tags = identifiers (names.items row.Tag) 2;
  globals = identifiers (names.items row.Global) 2;
  elems = identifiers (names.items row.Elem) 2;
  data_segments = identifiers (names.items row.Data) 2;
  locals = identifiers (names.locals 0) 2;
}

abbrev field_ids : (ℕ → Option Named) → Option (List FieldType) → Identifiers
field_ids named None = []
field_ids named (Some fs) = identifiers named (length fs)

abbrev context : Names → Context
context names = record { spaces = spaces names; signature = signature; fields = λ t. field_ids (names.fields t) (fields t) }

signatures_in_range : AreSignaturesInRange signature
signatures_in_range zero = record { params = (tt, tt); results = tt }
signatures_in_range (suc n) = tt

module _ (names : Names) (form : Form) where
  same_types : HaveSameTypes (setting names form) (context names) counts
  same_types = record { read = λ i. refl; counted = λ i. refl; in_range = signatures_in_range }

  same_spaces : (space : Space) → space_in (spaces names) space ≡ identifiers (in_function names 0 space) (count_in counts space)
  same_spaces row.Label = refl
  same_spaces _ = refl

  few : (space : Space) → count_in counts space ≤ 2 ^ 64
  few row.Label = omega arith
  few _ = omega arith

  few_fields : (t : ℕ) (fs : List FieldType) → fields t ≡ Some fs → length fs ≤ 2 ^ 64
  few_fields zero fs e = absurd cc
  few_fields (suc zero) fs e = subst (λ x. length x ≤ 2 ^ 64) (some_is _ fs e) (omega arith)
  few_fields (suc (suc n)) fs e = absurd cc

  functions_counted : (t : ℕ) (f : FuncType) → signature t ≡ Some f → t < 2
  functions_counted zero f e = omega arith
  functions_counted (suc n) f e = absurd cc

  signatures_counted : (t : ℕ) (f : FuncType) → signature t ≡ Some f → IsDeclaredFunc 2 f
  signatures_counted zero f e = subst (IsDeclaredFunc 2) (some_is one_i32 f e) (record { params = (tt, tt); results = tt })
  signatures_counted (suc n) f e = absurd cc

  structures_counted : (t : ℕ) (fs : List FieldType) → fields t ≡ Some fs → t < 2
  structures_counted zero fs e = absurd cc
  structures_counted (suc zero) fs e = omega arith
  structures_counted (suc (suc n)) fs e = absurd cc

  same_names : HaveSameNames (setting names form) (context names) counts
  same_names = record {
    spaces = same_spaces;
    fields = λ t fs e. ap (field_ids (names.fields t)) e;
    few = few;
    few_fields = few_fields;
    functions = functions_counted;
    signatures = signatures_counted;
    structures = structures_counted;
  }

two_spaces : IsBlank defaults.indent
two_spaces = (inl refl, (inl refl, tt))

-- The text of operators that meet the premises of the law reads as these operators.
reads_by : (synthesizes : Bool) (entries : List Entry) → AreEntries entries → (form : Form) (os : List (Placed Operator)) → AreOperators counts os →
    read_alone (context (names_of synthesizes entries)) (text_of (all_calls defaults (expression_pieces (setting (names_of synthesizes entries) form) os))) ≡ Some (without_places os)
unfolding expression_pieces
reads_by synthesizes entries h form os is =
    named_operators_read_back synthesizes entries h (setting (names_of synthesizes entries) form) refl (context (names_of synthesizes entries)) counts
    (same_types (names_of synthesizes entries) form) (same_names (names_of synthesizes entries) form) [] os is defaults two_spaces

-- Names without name sections, with synthesized identifiers or without
abbrev unnamed : Names
unnamed = names_of false []

abbrev synthesized : Names
synthesized = names_of true []

-- ---- in one line

abbrev one_result : List (Placed Operator)
one_result = operator 0x02 (Block (Value types.I32)) ∷ operator 0x41 (I32 (pos 1)) ∷ operator 0x0b NoImmediates ∷ []

one_result_is : AreOperators counts one_result
unfolding table
one_result_is = record {
  listed = (record { shape = refl; range = tt }, (record { shape = refl; range = (omega (arith, ints), omega (arith, ints)) }, (record { shape = refl; range = tt }, tt)));
  nested = block (plain none) none;
  count = omega arith;
  indexed = (tt, (tt, (tt, tt)));
}

one_result_text : text_of (all_calls defaults (expression_pieces (setting unnamed InLine) one_result)) ≡ codes "block (result i32)  (; label = @1 ;) i32.const 1 end"
unfolding table expression_pieces operators_pieces operator_pieces immediate_pieces leading_id_and_name_pieces block_pieces val_pieces ending_pieces line_group_space digits
one_result_text = refl

one_result_reads : read_alone (context unnamed) (codes "block (result i32)  (; label = @1 ;) i32.const 1 end") ≡ Some (without_places one_result)
one_result_reads =
    ap (read_alone (context unnamed)) (sym one_result_text) ∙ reads_by false [] tt InLine one_result one_result_is

-- The result type of a block may contain a type index.
abbrev reference_result : List (Placed Operator)
reference_result = operator 0x02 (Block (Value (types.Ref (types.ref_type false (types.Index 0))))) ∷ operator 0x0b NoImmediates ∷ []

reference_result_is : AreOperators counts reference_result
unfolding table
reference_result_is = record {
  listed = (record { shape = refl; range = omega arith }, (record { shape = refl; range = tt }, tt));
  nested = block none none;
  count = omega arith;
  indexed = (omega arith, (tt, tt));
}

reference_result_text : text_of (all_calls defaults (expression_pieces (setting unnamed InLine) reference_result)) ≡ codes "block (result (ref 0))  (; label = @1 ;) end"
unfolding table expression_pieces operators_pieces operator_pieces immediate_pieces leading_id_and_name_pieces block_pieces val_pieces ref_pieces heap_pieces type_index_pieces index_pieces ending_pieces line_group_space digits
reference_result_text = refl

reference_result_reads : read_alone (context unnamed) (codes "block (result (ref 0))  (; label = @1 ;) end") ≡ Some (without_places reference_result)
reference_result_reads =
    ap (read_alone (context unnamed)) (sym reference_result_text)
    ∙ reads_by false [] tt InLine reference_result reference_result_is

-- ---- words that several operators share

abbrev sharing : List (Placed Operator)
sharing =
    operator 0x1b NoImmediates ∷ operator 0x1c (Types (types.I32 ∷ []))
    ∷ prefixed 0xfb 20 (Heap types.Any) ∷ prefixed 0xfb 21 (Heap types.Any)
    ∷ prefixed 0xfb 22 (Heap (types.Index 0)) ∷ prefixed 0xfb 23 (Heap (types.Index 0)) ∷ []

abbrev sharing_text : List ℕ
sharing_text = codes "select select (result i32) ref.test (ref any) ref.test anyref ref.cast (ref 0) ref.cast (ref null 0)"

sharing_are : AreOperators counts sharing
unfolding table
sharing_are = record {
  listed = (
    record { shape = refl; range = tt },
    (
      record { shape = refl; range = (tt, tt) },
      (
        record { shape = refl; range = tt },
        (record { shape = refl; range = tt }, (record { shape = refl; range = omega arith }, (record { shape = refl; range = omega arith }, tt))),
      ),
    ),
  );
  nested = plain (plain (plain (plain (plain (plain none)))));
  count = omega arith;
  indexed = (tt, ((tt, tt), (tt, (tt, (omega arith, (omega arith, tt))))));
}

sharing_print : text_of (all_calls defaults (expression_pieces (setting unnamed InLine) sharing)) ≡ sharing_text
unfolding table expression_pieces operators_pieces operator_pieces immediate_pieces select_pieces val_pieces ref_pieces null_ref_pieces heap_pieces type_index_pieces index_pieces line_group line_group_space digits
sharing_print = refl

sharing_read : read_alone (context unnamed) sharing_text ≡ Some (without_places sharing)
sharing_read =
    ap (read_alone (context unnamed)) (sym sharing_print)
    ∙ reads_by false [] tt InLine sharing sharing_are

-- ---- operands of memories, tables, vectors, floats

abbrev operands : List (Placed Operator)
operands =
    operator 0x28 (Memory (mem_arg_of 0 1 8)) ∷ operator 0x28 (Memory (mem_arg_of 2 0 0)) ∷ operator 0x11 (Indices 0 1)
    ∷ prefixed 0xfd 12 (Bytes (0 ∷ 1 ∷ 2 ∷ 3 ∷ 4 ∷ 5 ∷ 6 ∷ 7 ∷ 8 ∷ 9 ∷ 10 ∷ 11 ∷ 12 ∷ 13 ∷ 14 ∷ 255 ∷ [])) ∷ operator 0x43 (F32 0xbfc00000) ∷ []

abbrev operands_text : List ℕ
operands_text = codes "i32.load 1 offset=8 align=1 i32.load call_indirect 1 (type 0) v128.const i32x4 0x03020100 0x07060504 0x0b0a0908 0xff0e0d0c f32.const -0x1.8p+0"

operands_are : AreOperators counts operands
unfolding table
operands_are = record {
  listed = (
    record { shape = refl; range = record { exponent = omega arith; memory = omega arith; offset = omega arith } },
    (
      record { shape = refl; range = record { exponent = omega arith; memory = omega arith; offset = omega arith } },
      (
        record { shape = refl; range = (omega arith, omega arith) },
        (
          record {
            shape = refl;
            range = record {
              count = refl;
              each = (lit< tt, (lit< tt, (lit< tt, (lit< tt, (lit< tt, (lit< tt, (lit< tt, (lit< tt, (lit< tt, (lit< tt, (lit< tt, (lit< tt, (lit< tt, (lit< tt, (lit< tt, (lit< tt, tt))))))))))))))));
            };
          },
          (record { shape = refl; range = omega arith }, tt),
        ),
      ),
    ),
  );
  nested = plain (plain (plain (plain (plain none))));
  count = omega arith;
  indexed = (omega arith, (omega arith, ((tt, omega arith), (tt, (tt, tt)))));
}

operands_print : text_of (all_calls defaults (expression_pieces (setting unnamed InLine) operands)) ≡ operands_text
unfolding table expression_pieces operators_pieces operator_pieces immediate_pieces default_index_pieces index_pieces type_index_pieces mem_arg_pieces offset_pieces align_pieces vector_pieces hex_words line_group_space digits float_calls float_text unsigned_calls unsigned_text digits_after
operands_print = refl

operands_read : read_alone (context unnamed) operands_text ≡ Some (without_places operands)
operands_read =
    ap (read_alone (context unnamed)) (sym operands_print)
    ∙ reads_by false [] tt InLine operands operands_are

-- ---- over several lines

abbrev branches : List (Placed Operator)
branches = operator 0x03 (Block (OfType 0)) ∷ operator 0x02 (Block Empty) ∷ operator 0x0c (Index 1) ∷ operator 0x0b NoImmediates ∷ operator 0x0c (Index 1) ∷ operator 0x0b NoImmediates ∷ []

abbrev branches_text : List ℕ
branches_text = codes "\n    loop $#label0 (type $#type0) (param i32)\n      block $#label1\n        br $#label0\n      end\n      br 1\n    end"

branches_are : AreOperators counts branches
unfolding table
branches_are = record {
  listed = (
    record { shape = refl; range = omega arith },
    (
      record { shape = refl; range = tt },
      (
        record { shape = refl; range = omega arith },
        (record { shape = refl; range = tt }, (record { shape = refl; range = omega arith }, (record { shape = refl; range = tt }, tt))),
      ),
    ),
  );
  nested = block (block (plain none) (plain none)) none;
  count = omega arith;
  indexed = (tt, (tt, (tt, (tt, (tt, (tt, tt))))));
}

branches_print : text_of (all_calls defaults (expression_pieces (setting synthesized OverLines) branches)) ≡ branches_text
unfolding table expression_pieces operators_pieces operator_pieces immediate_pieces operand_pieces index_pieces label_pieces id_and_name_pieces leading_id_and_name_pieces block_pieces type_use_pieces type_index_pieces signature_pieces groups_pieces variables_pieces list_group type_list val_pieces ending_pieces line_group line_group_space digits repetition_of identifier_text chars class
branches_print = refl

branches_read : read_alone (context synthesized) branches_text ≡ Some (without_places branches)
branches_read =
    ap (read_alone (context synthesized)) (sym branches_print) ∙ reads_by true [] tt OverLines branches branches_are

-- ---- with names

abbrev entry : ℕ → ℕ → ℕ → List ℕ → Entry
entry s outer index name = record { subsection = s; outer = outer; index = index; name = name }

-- Names of the structure and its field, of a function, a local and a label
abbrev some_entries : List Entry
some_entries =
    entry type_subsection 0 1 (codes "point") ∷ entry field_subsection 1 0 (codes "x") ∷ entry function_subsection 0 1 (codes "run")
    ∷ entry local_subsection 0 0 (codes "p") ∷ entry label_subsection 0 0 (codes "done") ∷ []

some_are_entries : AreEntries some_entries
some_are_entries = (
  record { index = lit< tt; name = printed_is_utf8 (codes "point") refl },
  (
    record { index = lit< tt; name = printed_is_utf8 (codes "x") refl },
    (
      record { index = lit< tt; name = printed_is_utf8 (codes "run") refl },
      (
        record { index = lit< tt; name = printed_is_utf8 (codes "p") refl },
        (record { index = lit< tt; name = printed_is_utf8 (codes "done") refl }, tt),
      ),
    ),
  ),
)

abbrev some_names : Names
some_names = names_of false some_entries

abbrev accesses : List (Placed Operator)
accesses =
    operator 0x02 (Block Empty) ∷ operator 0x20 (Index 0) ∷ prefixed 0xfb 2 (Indices 1 0) ∷ operator 0x10 (Index 1) ∷ operator 0x20 (Index 1)
    ∷ operator 0x0c (Index 0) ∷ operator 0x0b NoImmediates ∷ []

accesses_are : AreOperators counts accesses
unfolding table
accesses_are = record {
  listed = (
    record { shape = refl; range = tt },
    (
      record { shape = refl; range = omega arith },
      (
        record { shape = refl; range = (omega arith, omega arith) },
        (
          record { shape = refl; range = omega arith },
          (record { shape = refl; range = omega arith }, (record { shape = refl; range = omega arith }, (record { shape = refl; range = tt }, tt))),
        ),
      ),
    ),
  );
  nested = block (plain (plain (plain (plain (plain none))))) none;
  count = omega arith;
  indexed = (tt, (omega arith, (omega arith, (omega arith, (omega arith, (tt, (tt, tt)))))));
}

abbrev named_text : List ℕ
named_text = codes "block $done local.get $p struct.get $point $x call $run local.get 1 br $done end"

named_print : text_of (all_calls defaults (expression_pieces (setting some_names InLine) accesses)) ≡ named_text
unfolding table expression_pieces operators_pieces operator_pieces immediate_pieces operand_pieces index_pieces label_pieces type_and_field_pieces id_and_name_pieces leading_id_and_name_pieces block_pieces ending_pieces digits identifier_text chars class
named_print = refl

named_read : read_alone (context some_names) named_text ≡ Some (without_places accesses)
named_read = ap (read_alone (context some_names)) (sym named_print) ∙ reads_by false some_entries some_are_entries InLine accesses accesses_are

-- The same operators with synthesized identifiers for all items
abbrev synthesized_text : List ℕ
synthesized_text = codes "block $#label0 local.get $#local0 struct.get $#type1 $#field0 call $#func1 local.get $#local1 br $#label0 end"

synthesized_print : text_of (all_calls defaults (expression_pieces (setting synthesized InLine) accesses)) ≡ synthesized_text
unfolding table expression_pieces operators_pieces operator_pieces immediate_pieces operand_pieces index_pieces label_pieces type_and_field_pieces id_and_name_pieces leading_id_and_name_pieces block_pieces ending_pieces digits identifier_text chars class
synthesized_print = refl

synthesized_read : read_alone (context synthesized) synthesized_text ≡ Some (without_places accesses)
synthesized_read = ap (read_alone (context synthesized)) (sym synthesized_print) ∙ reads_by true [] tt InLine accesses accesses_are
