-- The excerpt of a module's text.
use Rattle.std.specs.Prelude.{◌≡◌, ◌↔◌, ℕ, ◌+◌, ◌-◌, ◌<◌, ◌^◌, List, [], false, Option, Some, None, Result, Ok, Err, IfSome, IsErrOf, IsSome, is_some, length, slice_get}
use Rattle.std.specs.Borrow.{Bor}
use Rattle.std.proofs.Common.{refl, sym, ap, ◌∙◌, subst, arith, inl, inr}
use Rattle.std.proofs.Math.Nat.{min-eq_left, min-eq_right, le_of_lt}
use Rattle.std.proofs.lemmas.Bool.{cases_lt}
use Rattle.std.proofs.lemmas.List.{length-map}
use Rattle.std.proofs.lemmas.Option.{slice_get_within}
use Rattle.wasmprinter_bytes.specs.declared.library_error.Error.{Error}
use Rattle.wasmprinter_bytes.specs.declared.library_error.Error.TheVariants.{Component, Memory}
use Rattle.wasmprinter_spec.specs.Binary.{Spells, IsComponent}
use Rattle.wasmprinter_spec.specs.Layout.{layout, module_pieces, module_pieces_with, module_pieces_of, module_parts}
use Rattle.wasmprinter_spec.specs.Layout.Customs.{Laid, laid_parts}
use Rattle.wasmprinter_spec.specs.Lines.{TextLine, lines_of, line_places, line_from}
use Rattle.wasmprinter_spec.specs.ModuleNames.{module_names}
use Rattle.wasmprinter_spec.specs.Names.{Names}
use Rattle.wasmprinter_spec.specs.Options.{Options, Answers, with_color}
use Rattle.wasmprinter_spec.specs.Piece.{Piece, all_calls}
use Rattle.wasmprinter_spec.specs.Placed.{PlacedFunction, PlacedModule}
use Rattle.wasmprinter.specs.Found.{text_lines}
use Rattle.wasmprinter.specs.Lined.{HasLinesBy}
use Rattle.wasmprinter.specs.Printed.{no_claims}
use Rattle.wasmprinter.specs.TextOfFile.{AreRefused}
use Rattle.wasmprinter.proofs.Named.{same_module}
use Rattle.wasm2text.specs.declared.target.Target.{Target}
use Rattle.wasm2text.specs.Excerpt.{StartsAtZero, ShowsByte, IsPlaceOfBody, IsHeader, IsExcerptIn, IsExcerptOfLines, IsExcerptOf, IsTargetAt, HasOffset, saturated, excerpt_text}
use Rattle.wasm2text.proofs.FunctionShown.{body_has_line}
use Rattle.wasm2text.proofs.Headers.{line_within, line_found}

-- The first line of a module has the place 0.
first_place : (o : Options) (names : Names) (size : ℕ) (ps : List Piece) (r : Option ℕ) →
    slice_get (line_places (lines_of (all_calls o (module_pieces_of o names size ps r)))) 0 ≡ Some (Some 0)
first_place o names size ps None = refl
first_place o names size ps (Some id) = refl

layout_starts : (o : Options) (answers : Answers) (m : PlacedModule) → StartsAtZero (lines_of (layout o answers m))
unfolding layout module_pieces module_pieces_with
layout_starts o answers m =
    let names : Names = module_names o.synthesizes m in
    let laid : Laid = laid_parts (module_parts o answers names m) in
    first_place o names m.size laid.pieces laid.refused

pub starts_at_zero : (o : Options) (wasm old storage : List ℕ) (lines : List TextLine) → HasLinesBy o wasm old storage lines → StartsAtZero lines
starts_at_zero o wasm old storage lines has = subst StartsAtZero (sym has.are) (layout_starts (with_color o false) no_claims has.printed.decoded.placed)

-- The line that shows a byte is one of the lines, and so is the header.
pub shown_within : (lines : List (Option ℕ × Bor (List ℕ))) (offset index : ℕ) → ShowsByte (line_places (text_lines lines)) offset index → index < length lines
shown_within lines offset index shows =
    let lt : index < length (line_places (text_lines lines)) = slice_get_within (line_places (text_lines lines)) index (Some shows.place) shows.placed in
    simp length-map at lt

pub header_within : (m : PlacedModule) (lines : List (Option ℕ × Bor (List ℕ))) (offset : ℕ) (header : Option ℕ) → IsHeader m (text_lines lines) offset header →
    IfSome header (λ h. h < length lines)
header_within m lines offset None is = tt
header_within m lines offset (Some h) (inl is) =
    let lt : h < 0 + length (text_lines lines) = line_within (text_lines lines) 0 is.1 h (sym is.3) in
    let all : length (text_lines lines) ≡ length lines = length-map lines (λ (line : Option ℕ × Bor (List ℕ)). (line.0, line.1.now)) in
    omega (arith, lt, all)
header_within m lines offset (Some h) (inr is) = absurd (let both : ◌≡◌ {A = Option ℕ} (Some h) None = is.1 in cc)

-- The excerpt of lines that were collected.
pub excerpt_of_collected : (wasm : List ℕ) (m : PlacedModule) (lines : List (Option ℕ × Bor (List ℕ))) (given : List TextLine) (offset index : ℕ)
    (header : Option ℕ) (text : List ℕ) → Spells wasm m → text_lines lines ≡ given → ShowsByte (line_places (text_lines lines)) offset index →
    IsHeader m (text_lines lines) offset header → text ≡ excerpt_text (text_lines lines) index header → IsExcerptOfLines wasm given offset text
excerpt_of_collected wasm m lines given offset index header text spells all shows is_header is =
    subst (λ (ls : List TextLine). IsExcerptOfLines wasm ls offset text) all
    (m, spells, record { index = index; shows = shows; header = header; is_header = is_header; is = is })

-- A byte in a body has a header.
pub has_header : (o : Options) (wasm old storage : List ℕ) (lines : List TextLine) (given : HasLinesBy o wasm old storage lines) (offset : ℕ) (header : Option ℕ) →
    IsHeader given.printed.decoded.placed lines offset header →
    (number place : ℕ) → IsPlaceOfBody given.printed.decoded.placed.functions offset number place → IsSome header
has_header o wasm old storage lines given offset header (inl is) number place within =
    let f : PlacedFunction = is.2.0 in
    let same : header ≡ line_from 0 f.body.place lines = is.3 ∙ ap (λ (p : ℕ). line_from 0 p lines) is.2.3 in
    ap (λ (h : Option ℕ). is_some h) same
    ∙ line_found lines 0 f.body.place
    ∙ body_has_line o wasm old storage lines f is.0 given is.2.1
has_header o wasm old storage lines given offset header (inr none) number place within = absurd (none.0 number place within)

-- An offset is exact if it is below the greatest number of 64 bits.
exact : (offset number : ℕ) → number ≡ saturated offset → number < 2 ^ 64 - 1 → offset ≡ number
exact offset number e lt =
    elim (cases_lt (2 ^ 64 - 1) offset) [
      | inl more ↦ absurd (omega (arith, lt, e ∙ min-eq_right (le_of_lt more)))
      | inr le ↦ sym (min-eq_left le) ∙ sym e
    ]

-- The excerpt of these lines is that of the module's text.
pub excerpt_of_text : (o : Options) (wasm old storage : List ℕ) (lines : List TextLine) (target : Target) (offset : ℕ) (text : List ℕ) → old ≡ [] →
    HasLinesBy o wasm old storage lines → HasOffset target wasm offset → offset < length wasm → length wasm < 2 ^ 64 →
    IsExcerptOfLines wasm lines offset text → IsExcerptOf o wasm target text
excerpt_of_text o wasm old storage lines target offset text e has found lt small is =
    let given : HasLinesBy o wasm [] storage lines = subst (λ (t : List ℕ). HasLinesBy o wasm t storage lines) e has in
    let excerpt : IsExcerptIn given.printed.decoded.placed lines offset text =
    subst (λ (m : PlacedModule). IsExcerptIn m lines offset text) (sym (same_module given.printed.decoded is.0 is.1)) is.2 in
    record {
      whole = storage;
      lines = lines;
      given = given;
      offset = offset;
      is_at = subst (IsTargetAt target wasm) (exact found.0 offset found.2 (omega (arith, lt, small))) found.1;
      inside = lt;
      excerpt = excerpt;
      headed = has_header o wasm [] storage lines given offset excerpt.header excerpt.is_header;
    }

no_error : {T : Type 0} (x : T) (e : Error) → ◌≡◌ {A = Result T Error} (Ok x) (Err e) → ⊥
no_error x e h = cc

other_error : ◌≡◌ {A = Error} Memory Component → ⊥
other_error h = cc

-- An allocation may fail for any module.
pub refused_for_memory : {T : Type 0} (x : T) (o : Options) (wasm old storage : List ℕ) (lines : List TextLine) → HasLinesBy o wasm old storage lines →
    (IsErrOf {T = T} (Ok x) Component ↔ IsComponent wasm) → AreRefused o wasm Memory
refused_for_memory x o wasm old storage lines has component = record {
  refused = record { true_of = inr has.printed.decoded; caused = λ placed spells. tt };
  component = (λ e. absurd (other_error e), λ is. absurd (no_error x Component (component.1 is)));
}
