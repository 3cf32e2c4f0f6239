-- In the calls of a module, each line except the first begins directly after a line feed.
use Rattle.std.proofs.Common.{◌≡◌, ℕ, List, [], ◌∷◌, ◌++◌, Bool, true, false, Option, Some, None, refl, sym, subst, codes, true≢false}
use Rattle.std.specs.List.{flat_map}
use Rattle.wasmprinter_spec.specs.Kinds.{Kind, CustomSection, TypeSection, ImportSection, FunctionSection, TableSection, MemorySection, TagSection, GlobalSection, ExportSection, StartSection, ElementSection, DataCountSection, CodeSection, DataSection}
use Rattle.wasmprinter_spec.specs.Customs.Hints.{hints_of}
use Rattle.wasmprinter_spec.specs.Names.{Names}
use Rattle.wasmprinter_spec.specs.ModuleNames.{module_names}
use Rattle.wasmprinter_spec.specs.Placed.{PlacedModule}
use Rattle.wasmprinter_spec.specs.Call.{Call, Text, Newline, Line, Start, Claim}
use Rattle.wasmprinter_spec.specs.Options.{Options, Answers}
use Rattle.wasmprinter_spec.specs.Piece.{Piece, Begin, EndLine, Break, Open, place_calls, calls, all_calls}
use Rattle.wasmprinter_spec.specs.Layout.Groups.{group_at}
use Rattle.wasmprinter_spec.specs.Layout.Identifiers.{leading_id_and_name_pieces}
use Rattle.wasmprinter_spec.specs.Layout.Declarations.{Scope}
use Rattle.wasmprinter_spec.specs.Layout.Imports.{no_numbers}
use Rattle.wasmprinter_spec.specs.Layout.Tables.{table_pieces}
use Rattle.wasmprinter_spec.specs.Layout.Memories.{memory_pieces}
use Rattle.wasmprinter_spec.specs.Layout.Tags.{tag_pieces}
use Rattle.wasmprinter_spec.specs.Layout.Globals.{global_pieces}
use Rattle.wasmprinter_spec.specs.Layout.Exports.{export_pieces}
use Rattle.wasmprinter_spec.specs.Layout.Elements.{element_pieces}
use Rattle.wasmprinter_spec.specs.Layout.DataSegments.{data_pieces}
use Rattle.wasmprinter_spec.specs.Layout.Customs.{parts_at, laid_parts, Laid}
use Rattle.wasmprinter_spec.specs.Layout.{early_scope, scope_after, section_pieces, section_order, section_parts, module_parts, module_pieces_of, module_pieces_with, module_pieces, layout}
use Rattle.wasmprinter_spec.proofs.OneLine.{leading_id_and_name_stays}
use Rattle.wasmprinter_laws.specs.Feeds.{LinesBeginAfterFeeds}
use Rattle.wasmprinter_laws.proofs.Lines.Starts.{begun, place_begins_none, piece_begins}
use Rattle.wasmprinter_laws.proofs.Lines.NoBegin.{IsNoBegin, HasNoBegin, nothing_none, both_none, then_none, alone_none, line_none, group_at_none, numbered_none}
use Rattle.wasmprinter_laws.proofs.Lines.NoBeginCode.{functions_none}
use Rattle.wasmprinter_laws.proofs.Lines.NoBeginFields.{types_none, table_none, memory_none, tag_none, global_none, imports_none, export_none, start_none, element_none, data_none}
use Rattle.wasmprinter_laws.proofs.Lines.NoBeginCustoms.{HaveNoBegin, parts_none, customs_none, laid_none}

-- ---- calls

-- Each line of these calls begins directly after a line feed. The flag says whether the call before the first one
-- is a line feed.
abbrev pub Fed : Bool → List Call → Type 0
Fed fed [] = Unit {0}
Fed fed (Newline ∷ cs) = Fed true cs
Fed fed (Line place ∷ cs) = (fed ≡ true) × Fed false cs
Fed fed (_ ∷ cs) = Fed false cs

-- Calls that begin no line satisfy `Fed`.
unlined_fed : (cs : List Call) → flat_map begun cs ≡ [] → (fed : Bool) → Fed fed cs
unlined_fed [] e fed = tt
unlined_fed (Line place ∷ cs) e fed = absurd cc
unlined_fed (Newline ∷ cs) e fed = unlined_fed cs e true
unlined_fed (c ∷ cs) e fed = unlined_fed cs e false

-- If calls satisfy `Fed`, and other calls satisfy it after any call, both joined satisfy it.
both_fed : (fed : Bool) (k l : List Call) → Fed fed k → ((after : Bool) → Fed after l) → Fed fed (k ++ l)
both_fed fed [] l h others = others fed
both_fed fed (Newline ∷ k) l h others = both_fed true k l h others
both_fed fed (Line place ∷ k) l h others = (h.0, both_fed false k l h.1 others)
both_fed fed (c ∷ k) l h others = both_fed false k l h others

-- In calls that satisfy `Fed`, the call before a line is a line feed.
pub after_feed : (fed : Bool) (before after : List Call) (c : Call) (place : Option ℕ) → Fed fed (before ++ (c ∷ (Line place ∷ after))) → c ≡ Newline
after_feed fed [] after Newline place h = refl
after_feed fed [] after (Text s) place h = absurd (true≢false (sym h.0))
after_feed fed [] after (Line p) place h = absurd (true≢false (sym h.1.0))
after_feed fed [] after (Start style) place h = absurd (true≢false (sym h.0))
after_feed fed [] after (Claim name p bytes answer) place h = absurd (true≢false (sym h.0))
after_feed fed (Newline ∷ before) after c place h = after_feed true before after c place h
after_feed fed (Line p ∷ before) after c place h = after_feed false before after c place h.1
after_feed fed (d ∷ before) after c place h = after_feed false before after c place h

-- ---- pieces

-- The calls of every piece that does not begin the first line satisfy `Fed`: a break contains its own line feed.
piece_fed : (o : Options) (p : Piece) → IsNoBegin p → (fed : Bool) → Fed fed (calls o p)
piece_fed o (Begin place) h fed = absurd h
piece_fed o (Break place nesting) h fed =
    (refl, both_fed false (place_calls o.offsets place) _ (unlined_fed (place_calls o.offsets place) (place_begins_none o.offsets place) false) (λ after. tt))
piece_fed o p h fed = unlined_fed (calls o p) (piece_begins o p) fed

pieces_fed : (o : Options) (ps : List Piece) → HasNoBegin ps → (fed : Bool) → Fed fed (all_calls o ps)
pieces_fed o [] h fed = tt
pieces_fed o (p ∷ ps) h fed = both_fed fed (calls o p) (all_calls o ps) (piece_fed o p h.each.0 fed) (pieces_fed o ps (record { each = h.each.1 }))

-- ---- the module

module _ (o : Options) (answers : Answers) (m : PlacedModule) where
  section_none : (s : Scope) (kind : Kind) → HasNoBegin (section_pieces o s m kind)
  section_none s TypeSection = types_none s.names 0 m.types
  section_none s ImportSection = imports_none s no_numbers m.imports
  section_none s FunctionSection = nothing_none
  section_none s TableSection = numbered_none (table_pieces s) (table_none s) _ m.tables
  section_none s MemorySection = numbered_none (memory_pieces s) (memory_none s) _ m.memories
  section_none s TagSection = numbered_none (tag_pieces s) (tag_none s) _ m.tags
  section_none s GlobalSection = numbered_none (global_pieces s) (global_none s) _ m.globals
  section_none s ExportSection = numbered_none (λ i e. export_pieces s e) (λ i e. export_none s e) 0 m.exports
  section_none s StartSection = start_none s m.start
  section_none s ElementSection = numbered_none (element_pieces o.skeleton s) (element_none s o.skeleton) 0 m.elements
  section_none s DataCountSection = nothing_none
  section_none s CodeSection = functions_none o s (hints_of m.customs) _ m.functions
  section_none s DataSection =
      let after : Scope = scope_after m s in numbered_none (data_pieces o.skeleton after) (data_none after o.skeleton) 0 m.data_segments
  section_none s CustomSection = nothing_none

  sections_none : (s : Scope) (kinds : List Kind) → HaveNoBegin (flat_map (section_parts o s m answers) kinds)
  sections_none s [] = tt
  sections_none s (kind ∷ kinds) =
      parts_none (section_parts o s m answers kind) (flat_map (section_parts o s m answers) kinds)
      (section_none s kind, customs_none o.skeleton answers (Some kind) 0 m.customs) (sections_none s kinds)

  module_none : (names : Names) → HaveNoBegin (module_parts o answers names m)
  unfolding module_parts
  module_none names =
      let s : Scope = early_scope o names m in
      parts_none (parts_at o.skeleton answers None 0 m.customs) (flat_map (section_parts o s m answers) section_order)
      (customs_none o.skeleton answers None 0 m.customs) (sections_none s section_order)

  -- After the first piece of a module, no piece begins the first line, whether the module is complete or refused.
  whole_none : (names : Names) {ps : List Piece} → HasNoBegin ps →
      HasNoBegin (group_at o.offsets m.size 0 (codes "module") (leading_id_and_name_pieces names.module_name ++ ps) ++ (EndLine ∷ []))
  whole_none names h = both_none (group_at_none o.offsets m.size 0 (codes "module") (both_none (line_none (leading_id_and_name_stays names.module_name)) h)) (alone_none tt)

  refused_none : (names : Names) {ps : List Piece} → HasNoBegin ps → HasNoBegin (Open (codes "module") ∷ (leading_id_and_name_pieces names.module_name ++ ps))
  refused_none names h = then_none tt (both_none (line_none (leading_id_and_name_stays names.module_name)) h)

  -- Only the first call of a module begins a line that does not follow a line feed.
  module_fed : (names : Names) (ps : List Piece) (r : Option ℕ) → HasNoBegin ps → Fed true (all_calls o (module_pieces_of o names m.size ps r))
  module_fed names ps None h = (refl, pieces_fed o _ (whole_none names h) false)
  module_fed names ps (Some id) h = (refl, pieces_fed o _ (refused_none names h) false)

  pub layout_fed : Fed true (layout o answers m)
  unfolding layout module_pieces module_pieces_with
  layout_fed =
      let names : Names = module_names o.synthesizes m in
      let laid : Laid = laid_parts (module_parts o answers names m) in
      module_fed names laid.pieces laid.refused (laid_none (module_parts o answers names m) (module_none names))

pub lines_after_feeds : LinesBeginAfterFeeds
lines_after_feeds o answers m before after c place e = after_feed true before after c place (subst (Fed true) e (layout_fed o answers m))
