-- The items that the pieces of a module write, field by field, with the custom sections at their positions
use Rattle.std.proofs.Common.{◌≡◌, ℕ, ◌≤◌, ◌+◌, ◌^◌, List, [], ◌∷◌, ◌++◌, length, Option, Some, None, refl, sym, ap, ◌∙◌, suc, ◌-◌, codes, arith, true, subst}
use Rattle.std.specs.Prelude.{flat_map}
use Rattle.std.specs.List.{AllByRecursion}
use Rattle.wasmprinter_spec.specs.Character.{class}
use Rattle.wasmprinter_spec.specs.Grammar.{Placed}
use Rattle.wasmprinter_spec.specs.Forest.{Forest, End, Word, Group, onto}
use Rattle.wasmprinter_spec.specs.Options.{Options, Answers}
use Rattle.wasmprinter_spec.specs.Piece.{Piece, Begin, EndLine, Open}
use Rattle.wasmprinter_spec.specs.Kinds.{Kind, CustomSection, TypeSection, ImportSection, FunctionSection, TableSection, MemorySection, TagSection, GlobalSection, ExportSection, StartSection, ElementSection, DataCountSection, CodeSection, DataSection}
use Rattle.wasmprinter_spec.specs.Types.{FuncKind, TableKind, MemoryKind, TagKind, GlobalKind, signature_at}
use Rattle.wasmprinter_spec.specs.Customs.Hints.{Hint, FunctionHints, hints_of, entries_after}
use Rattle.wasmprinter_spec.specs.Placed.{PlacedModule, PlacedFunction}
use Rattle.wasmprinter_spec.specs.Names.{Names, AreNamed}
use Rattle.wasmprinter_spec.specs.Layout.Identifiers.{leading_id_and_name_pieces}
use Rattle.wasmprinter_spec.specs.Layout.Customs.{Laid, laid_parts}
use Rattle.wasmprinter_spec.specs.Layout.Declarations.{Folding}
use Rattle.wasmprinter_spec.specs.Layout.Functions.{function_pieces, functions_pieces}
use Rattle.wasmprinter_spec.specs.Layout.Imports.{no_numbers}
use Rattle.wasmprinter_spec.specs.Layout.{section_pieces, section_order, section_parts, module_pieces_of, parts_by, pieces_by}
use Rattle.wasmprinter_laws.proofs.Tokens.Pieces.{Free, Bound, pieces_follow, ArePieces}
use Rattle.wasmprinter_laws.proofs.Tokens.Respelled.{Respelled, first_spelled}
use Rattle.wasmprinter_laws.proofs.Tokens.Writes.{Writes, WritesNoted, IsWritten, written, writes_joined, both_write, nothing_writes, break_writes, begin_writes, group_at_then, feed_writes}
use Rattle.wasmprinter_laws.specs.Listed.{AreSignaturesInRange}
use Rattle.wasmprinter_laws.proofs.Ranged.{IsRanged, IsRangedFunction}
use Rattle.wasmprinter_laws.proofs.Identifiers.{id_items, leading_id_and_name_writes}
use Rattle.wasmprinter_laws.proofs.Numbered.{rows, numbered_writes}
use Rattle.wasmprinter_laws.proofs.Fields.Imports.{imports_write}
use Rattle.wasmprinter_laws.proofs.Fields.Tables.{table_writes}
use Rattle.wasmprinter_laws.proofs.Fields.Globals.{global_writes}
use Rattle.wasmprinter_laws.proofs.Fields.Elements.{element_writes}
use Rattle.wasmprinter_laws.proofs.Fields.DataSegments.{data_writes}
use Rattle.wasmprinter_laws.proofs.Fields.Memories.{memory_writes}
use Rattle.wasmprinter_laws.proofs.Fields.Tags.{tag_writes}
use Rattle.wasmprinter_laws.proofs.Fields.Start.{start_writes}
use Rattle.wasmprinter_laws.proofs.Fields.Exports.{export_writes}
use Rattle.wasmprinter_laws.proofs.Fields.Functions.{functions_hinted, function_writes}
use Rattle.wasmprinter_laws.proofs.Folded.Lists.{IsUncolored}
use Rattle.wasmprinter_laws.proofs.Types.Trees.{type_section_writes}
use Rattle.wasmprinter_laws.proofs.Sorted.{field_rows}
use Rattle.wasmprinter_laws.proofs.Back.{early, late, before, waiting, own_hints, own_types, own_function, signatures_ranged, numbers_fit, fields_items, kinds_items, module_items}
use Rattle.wasmprinter_laws.proofs.Customs.Parts.{PartsWrite, no_parts, shown, both_parts, parts_whole, parts_partly}
use Rattle.wasmprinter_laws.proofs.Customs.Notes.{NotesAt, notes_at}
use Rattle.wasmprinter_laws.proofs.Customs.Places.{ordered_anywhere}

-- Pieces that may occur alone, or are printed as other pieces that may
pub record Stands (ps : List Piece) : Type 0 where
  pub printed : List Piece
  pub spelled : Respelled ps printed
  pub joins : pieces_follow Free printed ≡ true
  pub are : ArePieces printed

module _ (folding : Option Folding) (bare : IsUncolored folding) (o : Options) (names : Names) (named : AreNamed names) (m : PlacedModule) (h : IsRanged m) where
  signatures : AreSignaturesInRange (signature_at (own_types folding names m))
  signatures = signatures_ranged folding names m h

  -- ---- the fields of each section

  -- The hints left after a function are those left before the next function.
  pub next_waiting : (i : ℕ) → before folding names m FuncKind ≤ i →
      entries_after i (waiting folding names m (i - before folding names m FuncKind)) ≡ waiting folding names m (i + 1 - before folding names m FuncKind)
  next_waiting i low =
      let b : ℕ = before folding names m FuncKind in
      let same : i ≡ b + (i - b) = omega (arith, low) in
      let more : suc (i - b) ≡ i + 1 - b = omega (arith, low) in
      ap (λ k. entries_after k (waiting folding names m (i - b))) same ∙ ap (waiting folding names m) more

  -- The pieces of functions from index i on, with the hints es left before them, write their items with the hints
  -- that they take.
  abbrev AreWritten : List FunctionHints → ℕ → List PlacedFunction → Type 0
  AreWritten es i fs =
      WritesNoted Bound (functions_pieces o (early folding names m) es i fs) Bound
      (field_rows (codes "func") (own_function folding names m o.skeleton) i fs) (functions_hinted o.skeleton (early folding names m) es i fs)

  -- The pieces of functions write their items with the hints that they take, in order.
  own_functions_write : (i : ℕ) → before folding names m FuncKind ≤ i → (fs : List PlacedFunction) → i + length fs ≤ 2 ^ 64 →
      AllByRecursion IsRangedFunction fs → AreWritten (waiting folding names m (i - before folding names m FuncKind)) i fs
  unfolding functions_pieces function_pieces rows
  own_functions_write i low [] small k = nothing_writes
  own_functions_write i low (f ∷ fs) small k =
      let hs : List (Placed Hint) = own_hints folding names m i in
      both_write
      (break_writes (function_writes (early folding names m) named signatures bare {a = Free} refl o.skeleton o.offsets i hs f (omega arith) k.0))
      (subst (λ es. AreWritten es (i + 1) fs) (sym (next_waiting i low))
      (own_functions_write (i + 1) (omega (arith, low)) fs (omega arith) k.1))

  functions_write : AreWritten (hints_of m.customs) (before folding names m FuncKind) m.functions
  functions_write =
      let b : ℕ = before folding names m FuncKind in
      let none : b - b ≡ 0 = omega arith in
      subst (λ (k : ℕ). AreWritten (waiting folding names m k) b m.functions) none
      (own_functions_write b (omega arith) m.functions (numbers_fit folding names m h FuncKind _ h.functions) h.each_function)

  -- The items of the fields in the section of a kind with their hints, which only functions have
  abbrev pub fields_noted : Kind → Forest
  fields_noted CodeSection = functions_hinted o.skeleton (early folding names m) (hints_of m.customs) (before folding names m FuncKind) m.functions
  fields_noted kind = fields_items folding names m o.skeleton kind

  pub fields_write : (kind : Kind) →
      WritesNoted Bound (section_pieces o (early folding names m) m kind) Bound (fields_items folding names m o.skeleton kind) (fields_noted kind)
  fields_write TypeSection = type_section_writes names named 0 m.types (omega (arith, h.types)) h.each_group
  fields_write ImportSection =
      let small : 0 + length m.imports ≤ 2 ^ 64 = omega (arith, h.imports) in
      imports_write (early folding names m) named signatures no_numbers m.imports
      (record { functions = small; tables = small; memories = small; globals = small; tags = small })
      h.each_import
  fields_write FunctionSection = nothing_writes
  fields_write TableSection =
      numbered_writes _ _ _ (table_writes (early folding names m) named signatures bare)
      _ m.tables (numbers_fit folding names m h TableKind _ h.tables) h.each_table
  fields_write MemorySection =
      numbered_writes _ _ _ (memory_writes (early folding names m) named)
      _ m.memories (numbers_fit folding names m h MemoryKind _ h.memories) h.each_memory
  fields_write TagSection =
      numbered_writes _ _ _ (tag_writes (early folding names m) named signatures)
      _ m.tags (numbers_fit folding names m h TagKind _ h.tags) h.each_tag
  fields_write GlobalSection =
      numbered_writes _ _ _ (global_writes (early folding names m) named signatures bare)
      _ m.globals (numbers_fit folding names m h GlobalKind _ h.globals) h.each_global
  fields_write ExportSection =
      numbered_writes _ _ _ (λ i e small k. export_writes (early folding names m) named e k)
      0 m.exports (omega (arith, h.exports)) h.each_export
  fields_write StartSection = start_writes (early folding names m) named m.start h.start
  fields_write ElementSection =
      numbered_writes _ _ _ (element_writes (early folding names m) named signatures bare o.skeleton)
      0 m.elements (omega (arith, h.elements)) h.each_element
  fields_write DataCountSection = nothing_writes
  fields_write CodeSection = functions_write
  fields_write DataSection =
      numbered_writes _ _ _ (data_writes (late folding names m) named signatures bare o.skeleton)
      0 m.data_segments (omega (arith, h.data_segments)) h.each_data
  fields_write CustomSection = nothing_writes

  -- ---- the fields, and the custom sections among them

  module _ (answers : Answers) where
    pub noting : (place : Option Kind) → NotesAt o.skeleton answers place 0 m.customs
    noting place = notes_at o.skeleton answers place 0 m.customs (ordered_anywhere 0 m.customs h.customs_in_order) h.each_custom

    abbrev pub noted : Option Kind → Forest
    noted place = (noting place).notes

    -- The items of the fields of sections in order, each followed by the custom sections with that place
    abbrev pub kinds_noted : List Kind → Forest
    kinds_noted [] = End
    kinds_noted (k ∷ ks) = onto (fields_noted k) (onto (noted (Some k)) (kinds_noted ks))

    -- The items of a module after its identifier, with custom sections and hints
    unfoldable pub module_noted : Forest
    module_noted = onto (noted None) (kinds_noted section_order)

    kinds_write : (ks : List Kind) →
        PartsWrite (flat_map (section_parts o (early folding names m) m answers) ks) (kinds_items folding names m o.skeleton ks) (kinds_noted ks)
    kinds_write [] = no_parts
    kinds_write (k ∷ ks) = shown (fields_write k) (both_parts (noting (Some k)).write (kinds_write ks))

    pub parts_write : PartsWrite (parts_by folding o answers names m) (module_items folding names m o.skeleton) module_noted
    unfolding parts_by module_noted module_items
    parts_write = both_parts (noting None).write (kinds_write section_order)

    -- ---- the module

    abbrev pub laid : Laid
    laid = laid_parts (parts_by folding o answers names m)

    pub module_writes : laid.refused ≡ None → WritesNoted Free (pieces_by folding o answers names m) Free
        (Group (Word (codes "module") (onto (id_items names.module_name) (module_items folding names m o.skeleton))) End)
        (Group (Word (codes "module") (onto (id_items names.module_name) module_noted)) End)
    unfolding pieces_by class
    module_writes none =
        let last : Writes Bound (EndLine ∷ []) Free End = feed_writes nothing_writes in
        let held = both_write (leading_id_and_name_writes names.module_name named.module_name) (parts_whole parts_write none) in
        let inner : List Piece = leading_id_and_name_pieces names.module_name ++ laid.pieces in
        let written = begin_writes {place = 0} (group_at_then o.offsets m.size 0 (codes "module") inner (EndLine ∷ []) refl refl held last) in
        subst (λ r. WritesNoted Free (module_pieces_of o names m.size laid.pieces r) Free
        (Group (Word (codes "module") (onto (id_items names.module_name) (module_items folding names m o.skeleton))) End)
        (Group (Word (codes "module") (onto (id_items names.module_name) module_noted)) End)) (sym none) written

    -- The pieces of a module, complete or up to a refusal, may occur alone.
    pub module_stands : Stands (pieces_by folding o answers names m)
    unfolding pieces_by class
    module_stands = by laid.refused
      where
        inner : List Piece
        inner = leading_id_and_name_pieces names.module_name ++ laid.pieces

        held : IsWritten Bound inner Bound
        held = written (both_write (leading_id_and_name_writes names.module_name named.module_name) (parts_partly parts_write).writes)

        by : (r : Option ℕ) → Stands (module_pieces_of o names m.size laid.pieces r)
        by None =
            let last : Writes Bound (EndLine ∷ []) Free End = feed_writes nothing_writes in
            let group = group_at_then o.offsets m.size 0 (codes "module") inner (EndLine ∷ []) refl refl held.writes last in
            let w = begin_writes {place = 0} group in
            record { printed = w.printed; spelled = w.spelled; joins = writes_joined w; are = w.are }
        by (Some id) = record {
          printed = Begin 0 ∷ (Open (codes "module") ∷ held.writes.printed);
          spelled = first_spelled (Begin 0) (first_spelled (Open (codes "module")) held.writes.spelled);
          joins = writes_joined held.writes;
          are = (tt, (refl, held.writes.are));
        }
