-- The branch hints of a text (Code Metadata, a document that accompanies the standard): each belongs to the
-- operator or group directly after it. A text has no list of hints if a hint annotation occurs elsewhere, or if
-- another annotation occurs between a parenthesis and the keyword of a field or of a part of a function's header.
-- (If one occurs between the parenthesis and the keyword of a folded operator, the group is taken for an immediate of
-- the operator before it or around it. No printed text has such an annotation.)
use Rattle.std.specs.Prelude.{ℕ, suc, ◌+◌, ◌==◌, List, [], ◌∷◌, ◌++◌, length, Bool, true, false, ◌&&◌, codes, bytes_eq, Option, Some, None, if◌then◌else◌, map}
use Rattle.std.specs.List.{list_any}
use Rattle.wasmprinter_spec.specs.Grammar.{◌>>=◌}
use Rattle.wasmprinter_spec.specs.Forest.{Forest, End, Word, Name, String, Reserved, Group, Note, without_annotations, forest}
use Rattle.wasmprinter_spec.specs.Code.{Chunk, is_hint, chunks_of_forest}
use Rattle.wasmprinter_spec.specs.Customs.Hints.{flag}
use Rattle.wasmprinter_spec.specs.HintsOfModule.{OperatorHint, operator_hint}
use Rattle.wasmprinter_spec.specs.Text.Items.{each}

-- Before the operators of a function come its identifier, its type, parameters, results and locals, and
-- annotations.
abbrev pub header_words : List (List ℕ)
header_words = codes "type" ∷ codes "param" ∷ codes "result" ∷ codes "local" ∷ []

-- The items of a function from the first one that is not part of its header. A hint annotation is not part of a
-- header; other annotations before the body are.
abbrev pub body_of : Forest → Forest
body_of (Name s f) = body_of f
body_of (Note id g f) = if is_hint id then Note id g f else body_of f
body_of (Group (Word w g) f) = if list_any (λ v. bytes_eq v w) header_words then body_of f else Group (Word w g) f
body_of f = f

-- A string of one byte, which is a flag.
abbrev pub hint_flag : Forest → Option Bool
hint_flag (String (b ∷ []) End) = flag b
hint_flag _ = None

-- The hints before each operator. The first of the operators has the number n.
abbrev pub chunk_hints : ℕ → ℕ → List Chunk → Option (List OperatorHint)
chunk_hints function n [] = Some []
chunk_hints function n (k ∷ ks) = do
  flags ← each hint_flag k.hints
  rest ← chunk_hints function (n + 1) ks
  Some (map (λ taken. operator_hint function n taken) flags ++ rest)

-- The hints of the function with this index, by the content of its field after the word `func`.
abbrev pub function_hints_in : ℕ → Forest → Option (List OperatorHint)
function_hints_in function f = chunks_of_forest (body_of f) >>= chunk_hints function 0

-- The import is that of a function. (Imported functions have indices too.)
abbrev pub imports_function : Forest → Bool
imports_function (String m (String n (Group (Word w f) End))) = bytes_eq w (codes "func")
imports_function _ = false

-- There are only annotations.
abbrev pub is_empty : Forest → Bool
is_empty End = true
is_empty (Note id f g) = is_empty g
is_empty _ = false

-- The hints of the fields of a module, after the first i functions.
abbrev pub field_hints : ℕ → Forest → Option (List OperatorHint)
field_hints i End = Some []
field_hints i (Group (Word w f) g) =
    if bytes_eq w (codes "func") then (function_hints_in i f >>= λ hs. field_hints (i + 1) g >>= λ rest. Some (hs ++ rest)) else
    (if bytes_eq w (codes "import") && imports_function (without_annotations f) then field_hints (i + 1) g else field_hints i g)
field_hints i (Name s g) = field_hints i g
field_hints i (Note id f g) = field_hints i g
field_hints i _ = None

-- The hints of the group `module`. Only annotations may occur before and after it.
abbrev pub forest_hints : Forest → Option (List OperatorHint)
forest_hints (Group (Word w f) g) = if bytes_eq w (codes "module") && is_empty g then field_hints 0 f else None
forest_hints (Note id f g) = forest_hints g
forest_hints _ = None

-- ---- Hints that belong to no operator

-- The number of hint annotations among items and in their groups. The content of an annotation is part of that
-- annotation.
abbrev pub hint_count : Forest → ℕ
hint_count End = 0
hint_count (Word s f) = hint_count f
hint_count (Name s f) = hint_count f
hint_count (String s f) = hint_count f
hint_count (Reserved f) = hint_count f
hint_count (Group g f) = hint_count g + hint_count f
hint_count (Note id g f) = if is_hint id then suc (hint_count f) else hint_count f

-- The hints of items, if each hint annotation among them gives one.
abbrev pub if_all : Forest → List OperatorHint → Option (List OperatorHint)
if_all f hs = if length hs == hint_count f then Some hs else None

-- ---- Texts

-- The hints of a text, in order, each of the operator or group directly after it; `None` if it has no list of hints,
-- as when a hint annotation occurs elsewhere.
abbrev pub text_hints : List ℕ → Option (List OperatorHint)
text_hints text = do
  f ← forest text
  hs ← forest_hints f
  if_all f hs
