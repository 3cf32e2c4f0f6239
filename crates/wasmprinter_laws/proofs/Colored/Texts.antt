-- The text of a module with colors is its text without colors, with escape sequences added.
use Rattle.std.proofs.Common.{◌≡◌, List, [], ◌∷◌, ◌++◌, map, Bool, true, false, refl, sym, ap, ap₂, subst, ◌∙◌}
use Rattle.wasmprinter_spec.specs.Placed.{PlacedModule}
use Rattle.wasmprinter_spec.specs.Call.{Call, text_of}
use Rattle.wasmprinter_spec.specs.Color.{uncolor}
use Rattle.wasmprinter_spec.specs.Colored.{bare_call}
use Rattle.wasmprinter_spec.specs.Plain.{IsPlainText}
use Rattle.wasmprinter_spec.specs.Options.{Options, Answers}
use Rattle.wasmprinter_spec.specs.Piece.{Piece, Begin, EndLine, Break, OneSpace, Open, OpenSpace, OpenPlain, OpenUnnamed, OpenTypeSpace, OpenAnnotation, OpenAnnotationSpace, OpenAnnotationWord, CloseParen, Word, TypeWord, TypeWordSpace, SpaceTypeWord, Number, Constant, Literals, SpaceLiterals, Float, IndexComment, BeginName, EndStyle, Quoted, QuotedBytes, Identifier, NameAnnotation, BlockComment, LineComment, PlainLineComment, HintAnnotation, Claimed, calls, all_calls}
use Rattle.wasmprinter_spec.specs.Layout.Folded.{text_in_color}
use Rattle.wasmprinter_spec.specs.Layout.{module_pieces, layout}
use Rattle.wasmprinter_spec.specs.Laws.{PrintsPlainText, ColorAddsSequences, TextsContainColors, ColoredTextKeeps}
use Rattle.wasmprinter_laws.specs.PlainLaws.{ColorAddsSequencesTo, ColoredTextKeepsTo}
use Rattle.wasmprinter_laws.proofs.Colored.Recolored.{Recolored, uncolored}
use Rattle.wasmprinter_laws.proofs.Colored.Calls.{bare_colored}
use Rattle.wasmprinter_laws.proofs.Colored.Modules.{without_color, module_so}

-- A single piece has the same calls under the options with and without colors.
same_calls : (o : Options) (p : Piece) → calls o p ≡ calls (without_color o) p
same_calls o (Begin place) = refl
same_calls o EndLine = refl
same_calls o (Break place nesting) = refl
same_calls o OneSpace = refl
same_calls o (Open w) = refl
same_calls o (OpenSpace w) = refl
same_calls o (OpenPlain w) = refl
same_calls o OpenUnnamed = refl
same_calls o (OpenTypeSpace w) = refl
same_calls o (OpenAnnotation w) = refl
same_calls o (OpenAnnotationSpace w) = refl
same_calls o (OpenAnnotationWord w) = refl
same_calls o CloseParen = refl
same_calls o (Word w) = refl
same_calls o (TypeWord w) = refl
same_calls o (TypeWordSpace w) = refl
same_calls o (SpaceTypeWord w) = refl
same_calls o (Number n) = refl
same_calls o (Constant z) = refl
same_calls o (Literals w ws) = refl
same_calls o (SpaceLiterals ws) = refl
same_calls o (Float w bits) = refl
same_calls o (IndexComment n) = refl
same_calls o BeginName = refl
same_calls o EndStyle = refl
same_calls o (Quoted cs) = refl
same_calls o (QuotedBytes bs) = refl
same_calls o (Identifier cs) = refl
same_calls o (NameAnnotation cs) = refl
same_calls o (BlockComment true s) = refl
same_calls o (BlockComment false s) = refl
same_calls o (LineComment s) = refl
same_calls o (PlainLineComment s) = refl
same_calls o (HintAnnotation taken) = refl
same_calls o (Claimed name place bytes answer) = refl

same_all_calls : (o : Options) (ps : List Piece) → all_calls o ps ≡ all_calls (without_color o) ps
same_all_calls o [] = refl
same_all_calls o (p ∷ ps) = ap₂ (λ (a b : List Call). a ++ b) (same_calls o p) (same_all_calls o ps)

-- If the second text is plain, it is what remains of the first after the escape sequences are deleted: those of
-- every style (if `b`) or only those in the text itself.
pub text_so : (b : Bool) (o : Options) (ps qs : List Piece) → Recolored ps qs → IsPlainText (text_of (all_calls (without_color o) qs)) →
    uncolor (text_in_color b (all_calls o ps)) ≡ text_of (all_calls (without_color o) qs)
text_so b o ps qs h plain =
    let e : text_of (all_calls o qs) ≡ text_of (all_calls (without_color o) qs) = ap text_of (same_all_calls o qs) in
    uncolored b o ps qs h (subst IsPlainText (sym e) plain) ∙ e

pub layout_so : (b : Bool) (m : PlacedModule) (o : Options) (answers : Answers) → IsPlainText (text_of (layout (without_color o) answers m)) →
    uncolor (text_in_color b (layout o answers m)) ≡ text_of (layout (without_color o) answers m)
unfolding layout
layout_so b m o answers plain = text_so b o (module_pieces o answers m) (module_pieces (without_color o) answers m) (module_so o answers m) plain

pub color_adds_sequences_to : ColorAddsSequencesTo
color_adds_sequences_to m o answers plain = layout_so false m o answers plain

pub colored_text_keeps_to : ColoredTextKeepsTo
colored_text_keeps_to m o answers plain = layout_so true m o answers plain

-- The law holds for every module that bytes encode, because its text without colors is plain.
pub color_adds_sequences : PrintsPlainText → ColorAddsSequences
color_adds_sequences all bytes m o answers spells spaces = color_adds_sequences_to m o answers (all bytes m (without_color o) answers spells refl spaces)

pub colored_text_keeps : PrintsPlainText → ColoredTextKeeps
colored_text_keeps all bytes m o answers spells spaces = colored_text_keeps_to m o answers (all bytes m (without_color o) answers spells refl spaces)

-- After the escape sequences are deleted from their texts, the calls are those of the layout without colors, one
-- by one.
calls_so : (m : PlacedModule) (o : Options) (answers : Answers) → IsPlainText (text_of (layout (without_color o) answers m)) →
    map bare_call (layout o answers m) ≡ layout (without_color o) answers m
unfolding layout
calls_so m o answers plain =
    let qs : List Piece = module_pieces (without_color o) answers m in
    let e : all_calls o qs ≡ all_calls (without_color o) qs = same_all_calls o qs in
    bare_colored o (module_so o answers m) (subst IsPlainText (sym (ap text_of e)) plain) ∙ e

pub sequences_stay_within_calls : PrintsPlainText → TextsContainColors
sequences_stay_within_calls all bytes m o answers spells spaces = calls_so m o answers (all bytes m (without_color o) answers spells refl spaces)
