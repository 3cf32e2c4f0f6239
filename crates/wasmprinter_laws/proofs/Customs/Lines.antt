-- The lines of the annotations `producers` and `dylink.0` are groups of items. Only this matters for reading.
use Rattle.std.proofs.Common.{◌≡◌, ℕ, ◌<◌, ◌^◌, ◌-◌, ◌&&◌, ◌==◌, Bool, true, false, cond, List, [], ◌∷◌, ◌++◌, Option, refl, subst, codes, chars, decimal, append_assoc, lit<, lt_trans}
use Rattle.std.specs.Prelude.{IsUtf8}
use Rattle.std.specs.Fmt.{digits}
use Rattle.std.specs.List.{AllByRecursion}
use Rattle.std.proofs.lemmas.Bool.{and_parts}
use Rattle.std.proofs.lemmas.Str.{scalars-chars}
use Rattle.wasmprinter_spec.specs.Character.{class}
use Rattle.wasmprinter_spec.specs.Grammar.{Placed}
use Rattle.wasmprinter_spec.specs.Quoted.{is_id}
use Rattle.wasmprinter_spec.specs.Customs.Producers.{Value, Field}
use Rattle.wasmprinter_spec.specs.Customs.Dylink.{MemInfo, ExportInfo, ImportInfo, SubsectionContent, Sizes, Needed, Exports, Imports, Paths, Other, Subsection}
use Rattle.wasmprinter_spec.specs.Piece.{Piece, Break, OneSpace, Open, OpenSpace, OpenPlain, CloseParen, Word, Quoted}
use Rattle.wasmprinter_spec.specs.Layout.Groups.{line_group, line_group_space}
use Rattle.wasmprinter_spec.specs.Layout.Customs.{space_quoted, space_quoted_list, values_pieces, fields_pieces, flag_words, has_flag, flags_by, flags_pieces, sizes_group, sizes_pieces, names_pieces, exports_pieces, import_infos_pieces, content_pieces, subsections_pieces}
use Rattle.wasmprinter_laws.proofs.Tokens.Runs.{is_word}
use Rattle.wasmprinter_laws.proofs.Tokens.Numbers.{is_word-decimal}
use Rattle.wasmprinter_laws.proofs.Tokens.Printed.{is_word-hex}
use Rattle.wasmprinter_laws.proofs.Tokens.Pieces.{Edge, Free, Bound}
use Rattle.wasmprinter_laws.proofs.Tokens.Writes.{IsWritten, written, both_write, nothing_writes, break_writes, one_space_writes, word_writes, quoted_writes, line_group_writes, line_group_space_writes, plain_group_then, run_group_writes}
use Rattle.wasmprinter_laws.proofs.Customs.Roles.{IsRangedValue, IsRangedField, IsRangedMemInfo, IsRangedContent, AreRangedSubsections}

-- ---- parts

both_written : {a b c : Edge} {ps qs : List Piece} → IsWritten a ps b → IsWritten b qs c → IsWritten a (ps ++ qs) c
both_written v w = written (both_write v.writes w.writes)

line_written : {a b : Edge} {place : Option ℕ} {nesting : ℕ} {ps : List Piece} → IsWritten Free ps b → IsWritten a (Break place nesting ∷ ps) b
line_written w = written (break_writes w.writes)

one_space_written : {b : Edge} {ps : List Piece} → IsWritten Free ps b → IsWritten Bound (OneSpace ∷ ps) b
one_space_written w = written (one_space_writes refl w.writes)

quoted_written : {b : Edge} {ps : List Piece} (s : List ℕ) → IsUtf8 s → IsWritten Bound ps b → IsWritten Free (Quoted (chars s) ∷ ps) b
quoted_written s h w = written (quoted_writes (scalars-chars s h) w.writes)

word_written : {b : Edge} {ps : List Piece} {v : List ℕ} → is_word v ≡ true → IsWritten Bound ps b → IsWritten Free (Word v ∷ ps) b
word_written h w = written (word_writes h w.writes)

nothing_written : {a : Edge} → IsWritten a [] a
nothing_written = written nothing_writes

-- A group before other pieces
group_written : {b : Edge} (v : List ℕ) (ps qs : List Piece) → is_word v ≡ true → IsWritten Bound ps Bound → IsWritten Bound qs b →
    IsWritten Free (Open v ∷ (ps ++ (CloseParen ∷ qs))) b
unfolding line_group
group_written {b = b} v ps qs h w x =
    subst (λ t. IsWritten Free (Open v ∷ t) b) (append_assoc ps (CloseParen ∷ []) qs)
    (written (both_write (line_group_writes v ps refl h w.writes) x.writes))

space_group_written : {b : Edge} (v : List ℕ) (ps qs : List Piece) → is_word v ≡ true → IsWritten Free ps Bound → IsWritten Bound qs b →
    IsWritten Free (OpenSpace v ∷ (ps ++ (CloseParen ∷ qs))) b
unfolding line_group_space
space_group_written {b = b} v ps qs h w x =
    subst (λ t. IsWritten Free (OpenSpace v ∷ t) b) (append_assoc ps (CloseParen ∷ []) qs)
    (written (both_write (line_group_space_writes v ps refl h w.writes) x.writes))

space_quoted_written : (s : List ℕ) → IsUtf8 s → IsWritten Bound (space_quoted s) Bound
space_quoted_written s h = one_space_written (quoted_written s h nothing_written)

list_written : (ss : List (List ℕ)) → AllByRecursion IsUtf8 ss → IsWritten Bound (space_quoted_list ss) Bound
unfolding space_quoted_list
list_written [] h = nothing_written
list_written (s ∷ ss) h = both_written (space_quoted_written s h.0) (list_written ss h.1)

-- ---- `producers`

values_written : (field : List ℕ) (vs : List (Placed Value)) → is_id field ≡ true → AllByRecursion (λ v. IsRangedValue v.value) vs →
    IsWritten Bound (values_pieces field vs) Bound
unfolding values_pieces
values_written field [] run h = nothing_written
values_written field (v ∷ vs) run h =
    line_written
    (both_written (run_group_writes field (space_quoted v.value.name ++ space_quoted v.value.version) refl run
    (both_written (space_quoted_written v.value.name h.0.name) (space_quoted_written v.value.version h.0.version)))
    (values_written field vs run h.1))

pub fields_written : (fs : List Field) → AllByRecursion IsRangedField fs → IsWritten Bound (fields_pieces fs) Bound
unfolding fields_pieces
fields_written [] h = nothing_written
fields_written (f ∷ fs) ((run, values), others) = both_written (values_written f.name f.values run values) (fields_written fs others)

-- ---- `dylink.0`

abbrev are_flag_words : List (ℕ × List ℕ) → Bool
are_flag_words [] = true
are_flag_words (row ∷ rows) = is_word row.1 && are_flag_words rows

flags_by_written : (rows : List (ℕ × List ℕ)) (rest : ℕ) → are_flag_words rows ≡ true → IsWritten Bound (flags_by rows rest) Bound
unfolding flags_by
flags_by_written [] rest h = by (rest == 0)
  where
    by : (t : Bool) → IsWritten Bound (cond t [] (OneSpace ∷ (Word (codes "0x" ++ digits 16 false rest) ∷ []))) Bound
    by true = nothing_written
    by false = one_space_written (word_written (is_word-hex rest) nothing_written)
flags_by_written (row ∷ rows) rest h =
    let parts : (is_word row.1 ≡ true) × (are_flag_words rows ≡ true) = and_parts (is_word row.1) (are_flag_words rows) h in
    by (has_flag rest row.0) parts.0 (flags_by_written rows (rest - row.0) parts.1) (flags_by_written rows rest parts.1)
  where
    by : (t : Bool) → is_word row.1 ≡ true → IsWritten Bound (flags_by rows (rest - row.0)) Bound → IsWritten Bound (flags_by rows rest) Bound →
        IsWritten Bound (cond t (OneSpace ∷ (Word row.1 ∷ flags_by rows (rest - row.0))) (flags_by rows rest)) Bound
    by true is w x = one_space_written (word_written is w)
    by false is w x = x

flags_written : (flags : ℕ) → IsWritten Bound (flags_pieces flags) Bound
unfolding flags_pieces class
flags_written flags = flags_by_written flag_words flags refl

number_word : (n : ℕ) → n < 2 ^ 32 → is_word (decimal n) ≡ true
number_word n h = is_word-decimal n (lt_trans h (lit< tt))

sizes_group_written : (w : List ℕ) (a b : ℕ) → is_word w ≡ true → a < 2 ^ 32 → b < 2 ^ 32 → IsWritten Bound (sizes_group w a b) Bound
unfolding sizes_group
sizes_group_written w a b h x y = by ((a == 0) && (b == 0))
  where
    held : IsWritten Bound (OneSpace ∷ (Word (decimal a) ∷ (OneSpace ∷ (Word (decimal b) ∷ [])))) Bound
    held = one_space_written (word_written (number_word a x) (one_space_written (word_written (number_word b y) nothing_written)))

    by : (t : Bool) → IsWritten Bound (cond t [] (OneSpace ∷ (OpenPlain w ∷ (OneSpace ∷ (Word (decimal a) ∷ (OneSpace ∷ (Word (decimal b) ∷ (CloseParen ∷ [])))))))) Bound
    by true = nothing_written
    by false = one_space_written (written (plain_group_then refl h held.writes nothing_writes))

sizes_written : (place : ℕ) (m : MemInfo) → IsRangedMemInfo m → IsWritten Bound (sizes_pieces place m) Bound
unfolding sizes_pieces class
sizes_written place m h =
    let memory : List Piece = sizes_group (codes "memory") m.memory_size m.memory_alignment in
    let table : List Piece = sizes_group (codes "table") m.table_size m.table_alignment in
    let held : IsWritten Bound (memory ++ table) Bound =
    both_written (sizes_group_written (codes "memory") m.memory_size m.memory_alignment refl h.memory_size h.memory_alignment)
    (sizes_group_written (codes "table") m.table_size m.table_alignment refl h.table_size h.table_alignment) in
    line_written
    (subst (λ t. IsWritten Free (Open (codes "mem-info") ∷ t) Bound) (append_assoc memory table (CloseParen ∷ []))
    (group_written (codes "mem-info") (memory ++ table) [] refl held nothing_written))

names_written : (w : List ℕ) (place : ℕ) (ns : List (List ℕ)) → is_word w ≡ true → AllByRecursion IsUtf8 ns → IsWritten Bound (names_pieces w place ns) Bound
unfolding names_pieces
names_written w place ns is h = line_written (group_written w (space_quoted_list ns) [] is (list_written ns h) nothing_written)

exports_written : (place : ℕ) (es : List ExportInfo) → AllByRecursion (λ e. IsUtf8 e.name) es → IsWritten Bound (exports_pieces place es) Bound
unfolding exports_pieces class
exports_written place [] h = nothing_written
exports_written place (e ∷ es) h =
    line_written
    (space_group_written (codes "export-info") (Quoted (chars e.name) ∷ flags_pieces e.flags) (exports_pieces place es) refl
    (quoted_written e.name h.0 (flags_written e.flags)) (exports_written place es h.1))

import_infos_written : (place : ℕ) (is : List ImportInfo) → AllByRecursion (λ i. IsUtf8 i.source × IsUtf8 i.name) is →
    IsWritten Bound (import_infos_pieces place is) Bound
unfolding import_infos_pieces class
import_infos_written place [] h = nothing_written
import_infos_written place (i ∷ is) ((source, name), others) =
    line_written
    (space_group_written (codes "import-info") (Quoted (chars i.source) ∷ (OneSpace ∷ (Quoted (chars i.name) ∷ flags_pieces i.flags)))
    (import_infos_pieces place is) refl
    (quoted_written i.source source (one_space_written (quoted_written i.name name (flags_written i.flags))))
    (import_infos_written place is others))

content_written : (place : ℕ) (c : SubsectionContent) → IsRangedContent c → IsWritten Bound (content_pieces place c) Bound
unfolding class
content_written place (Sizes m) h = sizes_written place m h
content_written place (Needed ns) h = names_written (codes "needed") place ns refl h
content_written place (Exports es) h = exports_written place es h
content_written place (Imports is) h = import_infos_written place is h
content_written place (Paths ps) h = names_written (codes "runtime-path") place ps refl h
content_written place (Other id) h = nothing_written

pub subsections_written : (ss : List Subsection) → AreRangedSubsections ss → IsWritten Bound (subsections_pieces ss) Bound
unfolding subsections_pieces
subsections_written [] h = nothing_written
subsections_written (s ∷ ss) h = both_written (content_written s.place s.value h.0) (subsections_written ss h.1)
