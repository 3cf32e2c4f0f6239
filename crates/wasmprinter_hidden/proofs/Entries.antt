-- The lengths of the shortest encodings of tables, globals, element segments and data segments (section 5.5 of the
-- standard).
use Rattle.std.specs.Prelude.{◌≡◌, ℕ, List, [], ◌∷◌, ◌++◌, ◌+◌, ◌-◌, ◌<◌, ◌≤◌, length, Bool, true, false, ◌==◌, Option, Some, None, refl}
use Rattle.std.proofs.Common.{sym, ap, subst, ◌∙◌, arith, inl, inr, eqb}
use Rattle.std.proofs.lemmas.Bool.{ne_eqb, cases_lt, cases_eq}
use Rattle.std.proofs.lemmas.List.{length-append}
use Rattle.wasmprinter_spec.specs.Grammar.{Grammar, Placed, seq, map_value, succeed, fail, some_is}
use Rattle.wasmprinter_spec.specs.Choices.{tested}
use Rattle.wasmprinter_spec.specs.FirstByte.{only}
use Rattle.wasmprinter_spec.specs.Name.{u32}
use Rattle.wasmprinter_spec.specs.Types.{RefType, ref_type, Func, TableType, GlobalType}
use Rattle.wasmprinter_spec.specs.Operator.{Operator}
use Rattle.wasmprinter_spec.specs.Placed.{Table, table_of, Global, global_of, ElementMode, Passive, Declared, Active, Items, Functions, Expressions, element_of, Element, ElementEntry, entry_of, DataMode, PassiveData, ActiveData, Data, data_of}
use Rattle.wasmprinter_spec.specs.Module.{table_without_places, global_without_places, mode_without_places, items_without_places, data_without_places}
use Rattle.wasmprinter_spec.specs.Instructions.{constant}
use Rattle.wasmprinter_spec.specs.Binary.{AreBytes}
use Rattle.wasmprinter_spec.specs.Binary.ValTypes.{ref_type_after}
use Rattle.wasmprinter_spec.specs.Binary.Tables.{table_type, table}
use Rattle.wasmprinter_spec.specs.Binary.Globals.{global}
use Rattle.wasmprinter_spec.specs.Binary.Elements.{active, active_in, function_items, items_of_kind, expression_items, items_of_type, segment, element_after, element}
use Rattle.wasmprinter_spec.specs.Binary.DataSegments.{byte_vec, data_mode}
use Rattle.wasmprinter_spec.specs.Binary.DataSegments.{segment as data_segment}
use Rattle.wasmprinter_hidden.specs.Lengths.{ref_type_len, table_len, global_len, element_mode_len, omits_type, element_items_len, element_len, data_len}
use Rattle.wasmprinter_hidden.proofs.Numbers.{digits_some}
use Rattle.wasmprinter_hidden.specs.Shortest.{entry_without_places}
use Rattle.wasmprinter_hidden.proofs.Combinators.{Measured, Under, Either, HasWithin, Led, Then, are_joined, split_bytes, joined_length, map_measured, map_measured_where, then_measured, then_by_measured, vec_measured, list_measured, succeed_measured, fail_measured, choose_measured, either_measured, covered_measured, same_measured, led_measured, only_measured, number_after_measured, after_parts, choose_cases, choose_first, choose_second}
use Rattle.wasmprinter_hidden.proofs.Names.{u32_measured, byte_vec_measured}
use Rattle.wasmprinter_hidden.proofs.ValTypes.{ref_first, ref_measured}
use Rattle.wasmprinter_hidden.proofs.ExternTypes.{table_type_measured, global_type_measured}
use Rattle.wasmprinter_hidden.proofs.Operands.{OtherMemory, other_memory_measured, non_zero_is, non_zero_from, u32_some, u32_byte}
use Rattle.wasmprinter_hidden.proofs.Expressions.{constant_measured}

-- The operators of expressions.
abbrev Code : Type 0
Code = List (Placed Operator)

-- ---- Tables

-- The parts of a table with an initialiser.
abbrev InitParts : Type 0
InitParts = ℕ × (ℕ × (TableType × Code))

-- The table of these parts.
abbrev table_of_parts : InitParts → Table (Placed Operator)
table_of_parts x = table_of x.1.1.0 (Some x.1.1.1)

-- The bytes 40 00, a table type and an initialiser.
abbrev init_grammar : Grammar InitParts
init_grammar = seq (only 0x40) (λ _. seq (only 0x00) (λ _. seq table_type (λ _. constant)))

-- A table with an initialiser.
abbrev WithInit : ℕ → List ℕ → Table (Placed Operator) → Type 0
WithInit p t a = (map_value table_of_parts init_grammar).spells p t a

-- The table of this type without an initialiser.
abbrev table_alone : TableType → Table (Placed Operator)
table_alone t = table_of t None

-- A table without an initialiser.
abbrev WithoutInit : ℕ → List ℕ → Table (Placed Operator) → Type 0
WithoutInit p t a = (map_value table_alone table_type).spells p t a

-- The encodings of tables are these.
table_cases : (p : ℕ) (t : List ℕ) (a : Table (Placed Operator)) → table.spells p t a → Either WithInit WithoutInit p t a
table_cases p [] a s = absurd s
table_cases p (b ∷ bs) a s =
    elim (choose_cases (b == 0x40) (map_value table_of_parts init_grammar) (map_value table_alone table_type) p (b ∷ bs) a s) [
      | inl x ↦ inl x.1
      | inr x ↦ inr x.1
    ]

with_init : (p : ℕ) (t : List ℕ) (a : Table (Placed Operator)) → WithInit p t a → table.spells p t a
with_init p [] a (x, made, (t, u, joined, (b, is, byte), others)) = absurd (omega (arith, joined_length [] t u joined, ap length byte))
with_init p (c ∷ cs) a (x, made, (t, u, joined, (b, is, byte), others)) =
    let (forty, value) = tested (eqb b 0x40) (Some b) x.0 is in
    let first : c ∷ cs ≡ b ∷ u = joined ∙ ap (λ (r : List ℕ). r ++ u) byte in
    let head : c ≡ b = cc in
    choose_first (c == 0x40) (map_value table_of_parts init_grammar) _ p (c ∷ cs) a
    (ap (λ (d : ℕ). eqb d 0x40) head ∙ forty) (x, made, (t, u, joined, (b, is, byte), others))

without_init : (p : ℕ) (t : List ℕ) (a : Table (Placed Operator)) → WithoutInit p t a → table.spells p t a
without_init p text a (type, made, (parts, is, (t, u, joined, reference, limits))) =
    let (b, v, front, others) = after_parts ref_type_after p t parts.0 reference in
    let (from, below) = ref_first b (p + 1) v parts.0 others in
    let whole : text ≡ b ∷ (v ++ u) = joined ∙ ap (λ (r : List ℕ). r ++ u) front in
    let spelled : (map_value table_alone table_type).spells p text a = (type, made, (parts, is, (t, u, joined, reference, limits))) in
    subst (λ (r : List ℕ). table.spells p r a) (sym whole)
    (choose_second (b == 0x40) _ (map_value table_alone table_type) p (b ∷ (v ++ u)) a (ne_eqb b 0x40 (λ z. omega (arith, z, from)))
    (subst (λ (r : List ℕ). (map_value table_alone table_type).spells p r a) whole spelled))

-- The view of a table with an initialiser, by the views of its parts.
abbrev table_view : ℕ × (ℕ × (TableType × List Operator)) → Table Operator
table_view x = table_of x.1.1.0 (Some x.1.1.1)

pub table_measured : Measured table_without_places table.spells table_len
table_measured =
    same_measured (λ p t a s. elim s [ inl x ↦ with_init p t a x | inr x ↦ without_init p t a x ]) table_cases
    (either_measured
    (map_measured table_of_parts (λ x. omega arith) (λ x y e. ap table_view e)
    (then_measured (only_measured 0x40) (then_measured (only_measured 0x00) (then_measured table_type_measured constant_measured))))
    (map_measured table_alone (λ t. omega arith) (λ s t e. ap (λ (r : TableType). table_without_places (table_alone r)) e) table_type_measured))

-- ---- Globals

-- The global of this type and initialiser.
abbrev global_of_parts : GlobalType × Code → Global (Placed Operator)
global_of_parts x = global_of x.0 x.1

-- The same without places.
abbrev global_view : GlobalType × List Operator → Global Operator
global_view x = global_of x.0 x.1

pub global_measured : Measured global_without_places global.spells global_len
global_measured =
    map_measured global_of_parts (λ x. refl) (λ x y e. ap global_view e) (then_measured global_type_measured constant_measured)

-- ---- Element segments: modes

-- Active in table 0, with this offset.
abbrev active_of : Code → ElementMode (Placed Operator)
active_of offset = Active 0 offset

active_measured : Measured mode_without_places active.spells (element_mode_len false)
active_measured = map_measured active_of (λ offset. omega arith) (λ x y e. ap (λ (ops : List Operator). Active 0 ops) e) constant_measured

-- Active in this table, with this offset.
abbrev active_in_of : ℕ × Code → ElementMode (Placed Operator)
active_in_of x = Active x.0 x.1

-- The same without places.
abbrev active_view : ℕ × List Operator → ElementMode Operator
active_view x = Active x.0 x.1

active_in_measured : Measured mode_without_places active_in.spells (element_mode_len true)
active_in_measured = map_measured active_in_of (λ x. refl) (λ x y e. ap active_view e) (then_measured u32_measured constant_measured)

passive_measured : Measured mode_without_places (succeed {A = ElementMode (Placed Operator)} Passive).spells (element_mode_len false)
passive_measured = succeed_measured Passive refl

declared_measured : Measured mode_without_places (succeed {A = ElementMode (Placed Operator)} Declared).spells (element_mode_len false)
declared_measured = succeed_measured Declared refl

-- Whether the type of the items is omitted.
active_omits : (p : ℕ) (t : List ℕ) (m : ElementMode (Placed Operator)) → active.spells p t m → omits_type false m ≡ true
active_omits p t m (offset, made, spelled) = ap (omits_type false) (sym (some_is (active_of offset) m made))

passive_keeps : (p : ℕ) (t : List ℕ) (m : ElementMode (Placed Operator)) → (succeed {A = ElementMode (Placed Operator)} Passive).spells p t m →
    omits_type false m ≡ false
passive_keeps p t m s = ap (omits_type false) s.1

declared_keeps : (p : ℕ) (t : List ℕ) (m : ElementMode (Placed Operator)) → (succeed {A = ElementMode (Placed Operator)} Declared).spells p t m →
    omits_type false m ≡ false
declared_keeps p t m s = ap (omits_type false) s.1

-- ---- Element segments: items

-- A list of items has at least a count.
items_some : (i : Items (Placed Operator)) → 1 ≤ element_items_len false i
items_some (Functions indices) = omega arith
items_some (Expressions t es) = omega (arith, digits_some 9 (length es))

-- Function indices without a byte before them.
functions_omitted : Measured items_without_places function_items.spells (element_items_len true)
functions_omitted = map_measured Functions (λ ns. omega arith) (λ x y e. ap Functions e) (list_measured u32 u32_measured)

-- The same items, after a byte.
functions_kept : Measured items_without_places function_items.spells (λ i. element_items_len false i - 1)
functions_kept = map_measured Functions (λ ns. omega arith) (λ x y e. ap Functions e) (list_measured u32 u32_measured)

-- Function indices after the byte 00.
of_kind_measured : Measured items_without_places items_of_kind.spells (element_items_len false)
of_kind_measured =
    map_measured (λ (x : ℕ × Items (Placed Operator)). x.1) (λ x. omega (arith, items_some x.1)) (λ x y e. ap (λ (z : ℕ × Items Operator). z.1) e)
    (then_measured (only_measured 0x00) functions_kept)

-- Expressions without their type before them.
expressions_omitted : (t : RefType) → Measured items_without_places (expression_items t).spells (element_items_len true)
expressions_omitted t =
    map_measured (Expressions t) (λ es. omega arith) (λ x y e. ap (λ (es : List (List Operator)). Expressions t es) e)
    (vec_measured constant constant_measured)

-- With their type, the items have its length more.
type_kept : (t : RefType) (p : ℕ) (u : List ℕ) (i : Items (Placed Operator)) → (expression_items t).spells p u i →
    element_items_len false i ≡ ref_type_len t + element_items_len true i
type_kept t p u i (es, made, spelled) =
    let is : Expressions t es ≡ i = some_is (Expressions t es) i made in
    let size : element_items_len false (Expressions t es) ≡ ref_type_len t + element_items_len true (Expressions t es) = omega arith in
    subst (λ (x : Items (Placed Operator)). element_items_len false x ≡ ref_type_len t + element_items_len true x) is size

-- Expressions after their type.
of_type_measured : Measured items_without_places items_of_type.spells (element_items_len false)
of_type_measured =
    map_measured_where (λ (x : RefType × Items (Placed Operator)). x.1)
    (λ p text x (t, u, joined, type, spelled). type_kept x.0 (p + length t) u x.1 spelled)
    (λ x y e. ap (λ (z : RefType × Items Operator). z.1) e)
    (then_by_measured (λ t. (expression_items t).spells) (λ t. element_items_len true) ref_measured expressions_omitted)

-- ---- Element segments

-- The mode and the items of a segment.
abbrev Entry : Type 0
Entry = ElementMode (Placed Operator) × Items (Placed Operator)

-- The segment with this mode and these items. The first argument says whether the bytes name its table.
abbrev entry_of_parts : Bool → Entry → ElementEntry
entry_of_parts names x = entry_of names (element_of x.0 x.1)

-- The same without places.
abbrev entry_view : ElementMode Operator × Items Operator → Element Operator
entry_view x = element_of x.0 x.1

-- A segment after its flags. `omits` says whether the type of its items is omitted.
segment_measured : (names omits : Bool) (modes : Grammar (ElementMode (Placed Operator))) (contents : Grammar (Items (Placed Operator))) →
    ((p : ℕ) (t : List ℕ) (m : ElementMode (Placed Operator)) → modes.spells p t m → omits_type names m ≡ omits) →
    Measured mode_without_places modes.spells (element_mode_len names) → Measured items_without_places contents.spells (element_items_len omits) →
    Measured entry_without_places (segment names modes contents).spells (λ e. element_len e - 1)
segment_measured names omits modes contents are m n =
    map_measured_where (entry_of_parts names)
    (λ p text x (t, u, joined, mode, items).
    let same_items : element_items_len (omits_type names x.0) x.1 ≡ element_items_len omits x.1 =
    ap (λ (b : Bool). element_items_len b x.1) (are p t x.0 mode) in
    omega (arith, same_items))
    (λ x y e. ap (λ (z : ElementMode Operator × Items Operator). (names, entry_view z)) e) (then_measured m n)

-- The flags of an element segment are below 8.
element_below : (n p : ℕ) (t : List ℕ) (a : ElementEntry) → (element_after n).spells p t a → n < 8
element_below n p t a s =
    elim (cases_lt n 8) [
      | inl less ↦ less
      | inr above ↦
          let none : element_after n ≡ fail =
          rw (
            ne_eqb n 0 (λ z. omega (arith, above, z)),
            ne_eqb n 1 (λ z. omega (arith, above, z)),
            ne_eqb n 2 (λ z. omega (arith, above, z)),
            ne_eqb n 3 (λ z. omega (arith, above, z)),
            ne_eqb n 4 (λ z. omega (arith, above, z)),
            ne_eqb n 5 (λ z. omega (arith, above, z)),
            ne_eqb n 6 (λ z. omega (arith, above, z)),
            ne_eqb n 7 (λ z. omega (arith, above, z)),
          ) refl in
          absurd (subst (λ (g : Grammar ElementEntry). g.spells p t a) none s)
    ]

-- An element segment after each of the flags.
element_after_measured : (n : ℕ) → Measured entry_without_places (element_after n).spells (λ e. element_len e - 1)
element_after_measured n =
    choose_measured (n == 0) _ _ (segment_measured false true active function_items active_omits active_measured functions_omitted)
    (choose_measured (n == 1) _ _ (segment_measured false false (succeed Passive) items_of_kind passive_keeps passive_measured of_kind_measured)
    (choose_measured (n == 2) _ _ (segment_measured true false active_in items_of_kind (λ p t m s. refl) active_in_measured of_kind_measured)
    (choose_measured (n == 3) _ _ (segment_measured false false (succeed Declared) items_of_kind declared_keeps declared_measured of_kind_measured)
    (choose_measured (n == 4) _ _
    (segment_measured false true active (expression_items (ref_type true Func)) active_omits active_measured (expressions_omitted (ref_type true Func)))
    (choose_measured (n == 5) _ _ (segment_measured false false (succeed Passive) items_of_type passive_keeps passive_measured of_type_measured)
    (choose_measured (n == 6) _ _ (segment_measured true false active_in items_of_type (λ p t m s. refl) active_in_measured of_type_measured)
    (choose_measured (n == 7) _ _
    (segment_measured false false (succeed Declared) items_of_type declared_keeps declared_measured of_type_measured) fail_measured)))))))

-- The shortest encoding has a table index if and only if the given encoding has one.
pub element_measured : Measured entry_without_places element.spells element_len
element_measured = number_after_measured element_after 8 (omega arith) element_below (λ e. omega arith) element_after_measured

-- ---- Data segments

-- A data segment with the places of its operators.
abbrev DataEntry : Type 0
DataEntry = Data (Placed Operator)

-- The segment that is active in memory 0, with this offset and these bytes.
abbrev default_data : Code × List ℕ → DataEntry
default_data x = data_of (ActiveData 0 x.0) x.1

-- Active in memory 0, which the bytes omit.
abbrev DefaultData : ℕ → List ℕ → DataEntry → Type 0
DefaultData p t a = Under (λ x. Some (default_data x)) (Led 0x00 (Then constant.spells byte_vec.spells)) p t a

-- The passive segment with these bytes.
abbrev passive_data : List ℕ → DataEntry
passive_data bytes = data_of PassiveData bytes

-- A passive segment.
abbrev PassiveSegment : ℕ → List ℕ → DataEntry → Type 0
PassiveSegment p t a = Under (λ x. Some (passive_data x)) (Led 0x01 byte_vec.spells) p t a

-- The segment that is active in this memory, with this offset and these bytes.
abbrev data_in : (ℕ × Code) × List ℕ → DataEntry
data_in x = data_of (ActiveData x.0.0 x.0.1) x.1

-- Active in another memory.
abbrev OtherData : ℕ → List ℕ → DataEntry → Type 0
OtherData p t a = Under (λ x. Some (data_in x)) (Led 0x02 (Then (Then OtherMemory constant.spells) byte_vec.spells)) p t a

-- The encodings of data segments that have no needless memory index and one byte of flags.
abbrev BriefData : ℕ → List ℕ → DataEntry → Type 0
BriefData p t a = Either DefaultData (Either PassiveSegment OtherData) p t a

-- The same as `default_data` without places.
abbrev default_view : List Operator × List ℕ → Data Operator
default_view x = data_of (ActiveData 0 x.0) x.1

-- The same as `data_in` without places.
abbrev data_view : (ℕ × List Operator) × List ℕ → Data Operator
data_view x = data_of (ActiveData x.0.0 x.0.1) x.1

brief_data_measured : Measured data_without_places BriefData data_len
brief_data_measured =
    either_measured
    (map_measured default_data (λ x. omega arith) (λ x y e. ap default_view e) (led_measured 0x00 (then_measured constant_measured byte_vec_measured)))
    (either_measured
    (map_measured passive_data (λ x. omega arith) (λ x y e. ap (λ (z : List ℕ). data_without_places (passive_data z)) e) (led_measured 0x01 byte_vec_measured))
    (map_measured data_in (λ x. omega arith) (λ x y e. ap data_view e)
    (led_measured 0x02 (then_measured (then_measured other_memory_measured constant_measured) byte_vec_measured))))

-- A segment with flags of one byte.
flagged : (n p : ℕ) (text u : List ℕ) (a : DataEntry) (x : DataMode (Placed Operator) × List ℕ) → n < 128 → text ≡ n ∷ u → data_of x.0 x.1 ≡ a →
    (seq (data_mode n) (λ _. byte_vec)).spells (p + 1) u x → data_segment.spells p text a
flagged n p text u a x less joined is s = ((n, x), ap Some is, (n ∷ [], u, joined, u32_byte n less, s))

-- The encodings of `BriefData` are encodings of data segments.
default_joined : (p : ℕ) (t : List ℕ) (a : DataEntry) → DefaultData p t a → data_segment.spells p t a
default_joined p text a ((offset, bytes), made, (u, joined, (v, w, parts, code, rest))) =
    flagged 0 p text u a (ActiveData 0 offset, bytes) (omega arith) joined (some_is (default_data (offset, bytes)) a made)
    (v, w, parts, (offset, refl, code), rest)

passive_joined : (p : ℕ) (t : List ℕ) (a : DataEntry) → PassiveSegment p t a → data_segment.spells p t a
passive_joined p text a (bytes, made, (u, joined, rest)) =
    flagged 1 p text u a (PassiveData, bytes) (omega arith) joined (some_is (passive_data bytes) a made) ([], u, refl, (refl, refl), rest)

other_joined : (p : ℕ) (t : List ℕ) (a : DataEntry) → OtherData p t a → data_segment.spells p t a
other_joined p text a (((memory, offset), bytes), made, (u, joined, (v, w, parts, (i, j, split, (m, other, index), code), rest))) =
    let same_memory : m ≡ memory = non_zero_is m memory other in
    let value : ◌≡◌ {A = Option (DataMode (Placed Operator))} (Some (ActiveData m offset)) (Some (ActiveData memory offset)) =
    ap (λ (k : ℕ). Some (ActiveData k offset)) same_memory in
    flagged 2 p text u a (ActiveData memory offset, bytes) (omega arith) joined (some_is (data_in ((memory, offset), bytes)) a made)
    (v, w, parts, ((m, offset), value, (i, j, split, index, code)), rest)

-- A segment in memory 0 has an encoding that omits the memory. Its mode is from the place p on.
default_back : (p : ℕ) (v w : List ℕ) (a : DataEntry) (offset : Code) (bytes : List ℕ) (most : ℕ) → 1 ≤ p → AreBytes v → AreBytes w →
    default_data (offset, bytes) ≡ a → constant.spells p v offset → byte_vec.spells p w bytes → 1 + (length v + length w) ≤ most →
    HasWithin BriefData a most
default_back p v w a offset bytes most some are_v are_w is code rest size =
    let place : p - 1 + 1 ≡ p = omega (arith, some) in
    let spelled : constant.spells (p - 1 + 1) v offset = subst (λ (q : ℕ). constant.spells q v offset) (sym place) code in (
      p - 1,
      0x00 ∷ (v ++ w),
      (omega arith, are_joined v w are_v are_w),
      inl ((offset, bytes), ap Some is, (v ++ w, refl, (v, w, refl, spelled, rest))),
      omega (arith, size, length-append v w),
    )

-- A segment in a memory has an encoding with the flags in one byte. Its mode is from the place p on.
memory_back : (p memory : ℕ) (i j w : List ℕ) (a : DataEntry) (offset : Code) (bytes : List ℕ) (most : ℕ) → 1 ≤ p → AreBytes i → AreBytes j →
    AreBytes w → data_in ((memory, offset), bytes) ≡ a → u32.spells p i memory → constant.spells (p + length i) j offset →
    byte_vec.spells p w bytes → 1 + (length i + length j + length w) ≤ most → HasWithin BriefData a most
memory_back p memory i j w a offset bytes most some are_i are_j are_w is index code rest size =
    elim (cases_eq memory 0) [
      | inl zeroth ↦
          let default : default_data (offset, bytes) ≡ a = ap (λ (k : ℕ). data_in ((k, offset), bytes)) (sym zeroth) ∙ is in
          default_back (p + length i) j w a offset bytes most (omega (arith, some)) are_j are_w default code rest (omega (arith, size))
      | inr other ↦
          let place : p - 1 + 1 ≡ p = omega (arith, some) in
          let spelled : constant.spells (p - 1 + 1 + length i) j offset =
          subst (λ (q : ℕ). constant.spells (q + length i) j offset) (sym place) code in (
            p - 1,
            0x02 ∷ ((i ++ j) ++ w),
            (omega arith, are_joined (i ++ j) w (are_joined i j are_i are_j) are_w),
            inr (inr (
              ((memory, offset), bytes),
              ap Some is,
              ((i ++ j) ++ w, refl, (i ++ j, w, refl, (i, j, refl, (memory, non_zero_from memory other, index), spelled), rest)),
            )),
            omega (arith, size, length-append (i ++ j) w, length-append i j),
          )
    ]

-- Each encoding of a data segment is at least as long as one of `BriefData`.
data_back : (p : ℕ) (t : List ℕ) (a : DataEntry) → AreBytes t → data_segment.spells p t a → HasWithin BriefData a (length t)
data_back p text a are ((flags, (kind, bytes)), is, (t, u, joined, number, (v, w, parts, mode, rest))) =
    let (are_t, are_u) = split_bytes text t u joined are in
    let (are_v, are_w) = split_bytes u v w parts are_u in
    let some : 1 ≤ length t = u32_some t flags number in
    let size : length text ≡ length t + (length v + length w) = omega (arith, joined_length text t u joined, joined_length u v w parts) in
    let value : data_of kind bytes ≡ a = some_is (data_of kind bytes) a is in
    let as_kind : (m : DataMode (Placed Operator)) → ◌≡◌ {A = Option (DataMode (Placed Operator))} (Some m) (Some kind) → data_of m bytes ≡ a =
    λ m e. ap (λ (k : DataMode (Placed Operator)). data_of k bytes) (some_is m kind e) ∙ value in
    elim (choose_cases (flags == 0) (map_value (ActiveData 0) constant) _ (p + length t) v kind mode) [
      | inl (zeroth, (offset, made, code)) ↦
          default_back (p + length t) v w a offset bytes (length text) (omega (arith, some)) are_v are_w (as_kind (ActiveData 0 offset) made) code rest
          (omega (arith, some, size))
      | inr (other, x) ↦
          elim (choose_cases (flags == 1) (succeed PassiveData) _ (p + length t) v kind x) [
            | inl (first, (empty, passive)) ↦ (
              p,
              0x01 ∷ w,
              (omega arith, are_w),
              inr (inl (bytes, ap Some (as_kind PassiveData (ap Some (sym passive))), (w, refl, rest))),
              omega (arith, some, size),
            )
            | inr (another, y) ↦
                elim (choose_cases (flags == 2) (map_value (λ (z : ℕ × Code). ActiveData z.0 z.1) (seq u32 (λ _. constant))) fail (p + length t) v kind y) [
                  | inl (second, ((memory, offset), made, (i, j, split, index, code))) ↦
                      let (are_i, are_j) = split_bytes v i j split are_v in
                      memory_back (p + length t) memory i j w a offset bytes (length text) (omega (arith, some)) are_i are_j are_w
                      (as_kind (ActiveData memory offset) made) index code rest (omega (arith, some, size, joined_length v i j split))
                  | inr none ↦ absurd none.1
                ]
          ]
    ]

pub data_measured : Measured data_without_places data_segment.spells data_len
data_measured =
    covered_measured (λ p t a s. elim s [
      | inl x ↦ default_joined p t a x
      | inr (inl x) ↦ passive_joined p t a x
      | inr (inr x) ↦ other_joined p t a x
    ]) data_back brief_data_measured
