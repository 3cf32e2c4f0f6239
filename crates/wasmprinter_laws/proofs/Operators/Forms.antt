-- Operators over several lines and in one line: which pieces they may follow, and which pieces may follow them
use Rattle.std.proofs.Common.{ℕ, Bool, true, false, List, [], ◌∷◌, ◌++◌, Option, Some, None, codes, refl}
use Rattle.wasmprinter_spec.specs.Grammar.{Placed}
use Rattle.wasmprinter_spec.specs.Forest.{Forest, End, String, Note}
use Rattle.wasmprinter_spec.specs.Customs.Hints.{Hint}
use Rattle.wasmprinter_spec.specs.Piece.{Piece, flag_byte}
use Rattle.wasmprinter_spec.specs.Layout.Operators.{Form, OverLines, InLine, before_word, hint_pieces}
use Rattle.wasmprinter_laws.proofs.Tokens.Pieces.{Edge, Free, Bound, Ended}
use Rattle.wasmprinter_laws.proofs.Tokens.Writes.{Writes, WritesNoted, loosened, nothing_writes, free_writes, break_writes, one_space_writes, hint_note_writes, after_anything, before_line}

-- ---- after an operator

-- If operators are on several lines, the line must end, since its last piece may be a line comment.
abbrev pub after : Form → Edge
after OverLines = Ended
after InLine = Bound

pub may_end : {ps : List Piece} {f k : Forest} (form : Form) → WritesNoted Bound ps Bound f k → WritesNoted Bound ps (after form) f k
may_end OverLines w = before_line Bound w
may_end InLine w = w

-- ---- before an operator, which is the first of its list or not

-- If operators are on several lines, an operator may follow anything, since it begins a line.
abbrev pub ahead : Form → Bool → Edge
ahead OverLines first = Ended
ahead InLine true = Free
ahead InLine false = Bound

pub before_writes : {ps : List Piece} {b : Edge} {f k : Forest} (form : Form) (first : Bool) (place nesting : ℕ) → WritesNoted Free ps b f k →
    WritesNoted (ahead form first) (before_word form first place nesting ++ ps) b f k
before_writes OverLines first place nesting w = break_writes w
before_writes InLine true place nesting w = w
before_writes InLine false place nesting w = one_space_writes refl w

-- ---- hints

abbrev pub hint_items : Option (Placed Hint) → Forest → Forest
hint_items None f = f
hint_items (Some h) f = Note (codes "metadata.code.branch_hint") (String (flag_byte h.value.taken ∷ []) End) f

-- ---- lists of operators

pub no_operators_write : (form : Form) (first : Bool) → Writes (ahead form first) [] (after form) End
no_operators_write OverLines first = nothing_writes
no_operators_write InLine true = free_writes
no_operators_write InLine false = nothing_writes

-- Further operators may follow the first.
pub goes_on : {ps : List Piece} {b : Edge} {f k : Forest} (form : Form) → WritesNoted (ahead form false) ps b f k → WritesNoted (after form) ps b f k
goes_on OverLines w = w
goes_on InLine w = w

-- An operator may also follow a piece that any piece may follow.
pub at_free : {ps : List Piece} {b : Edge} {f k : Forest} (form : Form) (first : Bool) → WritesNoted (ahead form first) ps b f k → WritesNoted Free ps b f k
at_free OverLines first w = after_anything Free w
at_free InLine true w = w
at_free InLine false w = loosened w

-- A hint before an operator, on a line of its own
pub hinted_writes : {ps : List Piece} {b : Edge} {f k : Forest} (form : Form) (first : Bool) (nesting : ℕ) (h : Option (Placed Hint)) → WritesNoted (ahead form first) ps b f k →
    WritesNoted (ahead form first) (hint_pieces nesting h ++ ps) b f (hint_items h k)
hinted_writes form first nesting None w = w
hinted_writes form first nesting (Some h) w = break_writes (hint_note_writes refl (at_free form first w))
