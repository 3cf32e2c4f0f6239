-- The places of the lines that a list of pieces begins. How text is split changes no line.
use Rattle.std.proofs.Common.{◌≡◌, ℕ, List, [], ◌∷◌, ◌++◌, Bool, true, false, Option, Some, None, refl, sym, ap, ◌∙◌, append_assoc}
use Rattle.std.specs.Prelude.{◌/◌, ◌%◌, ◌^◌, ◌-◌, ◌==◌, nat_lt, if◌then◌else◌, codes}
use Rattle.std.specs.List.{flat_map}
use Rattle.std.proofs.lemmas.List.Concat.{flat_map-append}
use Rattle.wasmprinter_spec.specs.Call.{Call, Text, Newline, Line, call_text, text_of}
use Rattle.wasmprinter_spec.specs.Options.{Options}
use Rattle.wasmprinter_spec.specs.Float.{Width, sign_bit, greatest_exponent}
use Rattle.wasmprinter_spec.specs.FloatText.{special_calls, finite_calls, unsigned_calls, float_calls}
use Rattle.wasmprinter_spec.specs.Piece.{Piece, Begin, Break, Float, BlockComment, place_calls, calls, all_calls}
use Rattle.wasmprinter_spec.specs.Lines.{text_before_line, lines_of, line_places}
use Rattle.wasmprinter_spec.specs.Names.{Names}
use Rattle.wasmprinter_spec.specs.ModuleNames.{module_names}
use Rattle.wasmprinter_spec.specs.Layout.Customs.{Laid, laid_parts}
use Rattle.wasmprinter_spec.specs.Layout.{module_parts, module_pieces_of, module_pieces_with, module_pieces, layout}
use Rattle.wasmprinter_spec.proofs.OneLine.{starts}
use Rattle.wasmprinter_spec.specs.PlaceLaws.{AlikeHaveSameLines, LinesJoin}
use Rattle.wasmprinter_spec.proofs.Texts.{alike_lines}

-- The line that a call begins
abbrev pub begun : Call → List (Option ℕ)
begun (Line place) = place ∷ []
begun _ = []

-- The places of the lines are those of the calls that begin them.
places_begun : (cs : List Call) → line_places (lines_of cs) ≡ flat_map begun cs
places_begun [] = refl
places_begun (Line place ∷ cs) = ap (λ (ps : List (Option ℕ)). place ∷ ps) (places_begun cs)
places_begun (c ∷ cs) = places_begun cs

pub place_begins_none : (offsets : Bool) (place : Option ℕ) → flat_map begun (place_calls offsets place) ≡ []
place_begins_none false place = refl
place_begins_none true None = refl
place_begins_none true (Some p) = refl

break_begins : (offsets : Bool) (place : Option ℕ) (indent : List ℕ) → flat_map begun (Newline ∷ (Line place ∷ (place_calls offsets place ++ (Text indent ∷ [])))) ≡ place ∷ []
break_begins offsets place indent =
    ap (λ (ps : List (Option ℕ)). place ∷ ps) (flat_map-append begun (place_calls offsets place) (Text indent ∷ []) ∙ ap (λ (ps : List (Option ℕ)). ps ++ []) (place_begins_none offsets place))

-- If neither of two lists of calls begins a line, neither does the one that a test chooses. So a float begins no
-- line.
if_begins : (b : Bool) (ks ls : List Call) → flat_map begun ks ≡ [] → flat_map begun ls ≡ [] → flat_map begun (if b then ks else ls) ≡ []
if_begins true ks ls e f = e
if_begins false ks ls e f = f

unsigned_begins : (w : Width) (negative : Bool) (exponent fraction : ℕ) → flat_map begun (unsigned_calls w negative exponent fraction) ≡ []
unfolding unsigned_calls
unsigned_begins w negative exponent fraction =
    if_begins (exponent == greatest_exponent w) (special_calls w negative fraction) (finite_calls w exponent fraction) refl refl

float_begins : (w : Width) (bits : ℕ) → flat_map begun (float_calls w bits) ≡ []
unfolding float_calls
float_begins w bits =
    if_begins (nat_lt bits (sign_bit w)) (unsigned_calls w false (bits / 2 ^ w.fraction) (bits % 2 ^ w.fraction)) (Text (codes "-") ∷ unsigned_calls w true ((bits - sign_bit w) / 2 ^ w.fraction) ((bits - sign_bit w) % 2 ^ w.fraction))
    (unsigned_begins w false (bits / 2 ^ w.fraction) (bits % 2 ^ w.fraction))
    (unsigned_begins w true ((bits - sign_bit w) / 2 ^ w.fraction) ((bits - sign_bit w) % 2 ^ w.fraction))

pub piece_begins : (o : Options) (p : Piece) → flat_map begun (calls o p) ≡ starts p
piece_begins o (Break place nesting) = break_begins o.offsets place _
piece_begins o (Begin place) = refl
piece_begins o (Float w bits) = float_begins w bits
piece_begins o (BlockComment true s) = refl
piece_begins o (BlockComment false s) = refl
piece_begins o _ = refl

pieces_begin : (o : Options) (ps : List Piece) → flat_map begun (all_calls o ps) ≡ flat_map starts ps
pieces_begin o [] = refl
pieces_begin o (p ∷ ps) =
    flat_map-append begun (calls o p) (all_calls o ps)
    ∙ ap (λ (qs : List (Option ℕ)). qs ++ flat_map begun (all_calls o ps)) (piece_begins o p)
    ∙ ap (λ (qs : List (Option ℕ)). starts p ++ qs) (pieces_begin o ps)

-- The places of the lines of a list of pieces are those of the pieces that begin them.
pub places_of_pieces : (o : Options) (ps : List Piece) → line_places (lines_of (all_calls o ps)) ≡ flat_map starts ps
places_of_pieces o ps = places_begun (all_calls o ps) ∙ pieces_begin o ps

-- ---- the text of the lines

text_joined : (cs : List Call) → text_before_line cs ++ flat_map (λ line. line.1) (lines_of cs) ≡ text_of cs
text_joined [] = refl
text_joined (Line place ∷ cs) = text_joined cs
text_joined (c ∷ cs) =
    append_assoc (call_text c) (text_before_line cs) (flat_map (λ line. line.1) (lines_of cs)) ∙ ap (λ (t : List ℕ). call_text c ++ t) (text_joined cs)

-- A module, complete or refused, begins with its first line.
first_line : (o : Options) (names : Names) (size : ℕ) (ps : List Piece) (r : Option ℕ) → text_before_line (all_calls o (module_pieces_of o names size ps r)) ≡ []
first_line o names size ps None = refl
first_line o names size ps (Some id) = refl

pub lines_join : LinesJoin
unfolding layout module_pieces module_pieces_with
lines_join o answers m =
    let names : Names = module_names o.synthesizes m in
    let laid : Laid = laid_parts (module_parts o answers names m) in
    let cs : List Call = all_calls o (module_pieces_of o names m.size laid.pieces laid.refused) in
    ap (λ (t : List ℕ). t ++ flat_map (λ line. line.1) (lines_of cs)) (sym (first_line o names m.size laid.pieces laid.refused)) ∙ text_joined cs

pub same_lines : AlikeHaveSameLines
same_lines = alike_lines
