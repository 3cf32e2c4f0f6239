-- Operators in the text format, and folded ones as a flat list (section 6.5 of the standard, "Folded
-- Instructions"): the group of a folded operator gives its operands, each a group, and then the operator. Branch
-- hints are annotations (Code Metadata, a document that accompanies the standard): each belongs to the operator or
-- group directly after it.
use Rattle.std.specs.Prelude.{ℕ, List, [], ◌∷◌, ◌++◌, Bool, true, false, bytes_eq, codes, Option, Some, None, option_map, if◌then◌else◌, map}
use Rattle.std.specs.List.{list_any}
use Rattle.wasmprinter_spec.specs.Grammar.{◌>>=◌}
use Rattle.wasmprinter_spec.specs.Forest.{Forest, End, Word, Name, String, Reserved, Group, Note}
use Rattle.wasmprinter_spec.specs.Row.{Row, Role, Plain, Opens, OpensIf, Ends}
use Rattle.wasmprinter_spec.specs.Table.{rows_of}
use Rattle.wasmprinter_spec.specs.Stepped.{stops}
use Rattle.wasmprinter_spec.specs.Nesting.{advance, at_start}

-- An operator: the rows of its word, the items between the word and the next operator, and the hints before it.
pub record Chunk : Type 0 where
  pub rows : List Row
  pub arguments : Forest
  pub hints : List Forest

-- The operator with these rows and these items, and without hints.
abbrev pub chunk : List Row → Forest → Chunk
chunk rs f = record { rows = rs; arguments = f; hints = [] }

-- An operator by itself; a folded operator, as the operators before its own, its own, and those after it; or the
-- content of the group `then` or `else` of a folded `if`.
pub data Instruction : Type 0 where
  Flat : Chunk → Instruction
  Folded : List Chunk → Chunk → List Chunk → Instruction
  Then : List Chunk → Instruction
  Else : List Chunk → Instruction

-- A row as code: the items before its first operator, and its instructions.
pub record Code : Type 0 where
  pub front : Forest
  pub instructions : List Instruction

-- The code with these items before its first operator, and with these instructions.
abbrev pub code_of : Forest → List Instruction → Code
code_of f is = record { front = f; instructions = is }

-- The code with one more item at its front.
abbrev pub with_front : (Forest → Forest) → Option Code → Option Code
with_front item c = option_map (λ c. code_of (item c.front) c.instructions) c

-- The instructions, if no item comes before them.
abbrev pub only_instructions : Code → Option (List Instruction)
only_instructions c = elim c.front as (λ f. Option (List Instruction)) [ End ↦ Some c.instructions | _ ↦ None ]

-- Code with the word w before it, given the rows of this word. The items after an operator's word, up to the next
-- operator, belong to the operator.
abbrev pub with_word : List Row → List ℕ → Option Code → Option Code
with_word [] w c = with_front (Word w) c
with_word (r ∷ rs) w c = option_map (λ c. code_of End (Flat (chunk (r ∷ rs) c.front) ∷ c.instructions)) c

-- ---- Folded operators

-- The operator of a word, without further items.
abbrev pub word_chunk : List ℕ → Chunk
word_chunk w = chunk (rows_of w) End

-- The operators of code that holds flat and folded operators, and no group `then` or `else`.
abbrev pub chunks_of_instructions : List Instruction → Option (List Chunk)
chunks_of_instructions [] = Some []
chunks_of_instructions (Flat c ∷ is) = option_map (λ cs. c ∷ cs) (chunks_of_instructions is)
chunks_of_instructions (Folded before own after ∷ is) = option_map (λ cs. before ++ (own ∷ (after ++ cs))) (chunks_of_instructions is)
chunks_of_instructions (_ ∷ is) = None

-- The operators of operands, which must be folded too.
abbrev pub operands : List Instruction → Option (List Chunk)
operands [] = Some []
operands (Folded before own after ∷ is) = option_map (λ cs. before ++ (own ∷ (after ++ cs))) (operands is)
operands (_ ∷ is) = None

-- The role of an operator in the nesting of blocks. Operators that share a word have the same role.
abbrev pub role_by : List Row → Role
role_by [] = Plain
role_by (r ∷ rs) = r.role

-- The content of a group, if it is well nested by itself: its operators neither close a block around it nor leave
-- one open.
abbrev pub if_nested : List Chunk → Option (List Chunk)
if_nested cs = if stops advance at_start (map (λ c. role_by c.rows) cs) Ends then Some cs else None

-- The operands of an `if`, and the content of its groups `then` and `else`. The group `else` may be absent.
abbrev pub branches : List Instruction → Option (List Chunk × List Chunk)
branches (Then t ∷ []) = Some ([], t)
branches (Then t ∷ Else e ∷ []) = Some ([], t ++ (word_chunk (codes "else") ∷ e))
branches (Folded before own after ∷ is) = option_map (λ x. (before ++ (own ∷ (after ++ x.0)), x.1)) (branches is)
branches _ = None

-- The folded operator of these rows: operands and the operator; or the opening operator of a block, the content of
-- the block, and its `end`. The operands of an `if` come before it. Legacy exception handling has no folded form
-- here.
abbrev pub folded_instruction : Role → List Row → Code → Option Instruction
folded_instruction Plain rs c = option_map (λ cs. Folded cs (chunk rs c.front) []) (operands c.instructions)
folded_instruction Opens rs c =
    option_map (λ cs. Folded [] (chunk rs c.front) (cs ++ (word_chunk (codes "end") ∷ [])))
    (chunks_of_instructions c.instructions >>= if_nested)
folded_instruction OpensIf rs c =
    option_map (λ x. Folded x.0 (chunk rs c.front) (x.1 ++ (word_chunk (codes "end") ∷ []))) (branches c.instructions)
folded_instruction _ rs c = None

-- The words of groups that are parts of the operator before them or around them, even if the word is also that of
-- an operator.
abbrev pub part_words : List (List ℕ)
part_words =
    codes "type" ∷ codes "param" ∷ codes "result" ∷ codes "catch" ∷ codes "catch_ref" ∷ codes "catch_all" ∷ codes "catch_all_ref" ∷ []

-- The kind of a group: a part of an operator, a case of an `if`, or an operator, with the first of its rows and
-- the others.
pub data GroupHead : Type 0 where
  PartHead : GroupHead
  ThenHead : GroupHead
  ElseHead : GroupHead
  OperatorHead : Row → List Row → GroupHead

-- The kind of a group whose first word has these rows: an operator if there is a row, otherwise a part.
abbrev pub head_by : List Row → GroupHead
head_by [] = PartHead
head_by (r ∷ rs) = OperatorHead r rs

-- The kind of a group, by its first word.
unfoldable pub head : List ℕ → GroupHead
head w =
    if list_any (λ v. bytes_eq v w) part_words then PartHead else
    (if bytes_eq w (codes "then") then ThenHead else (if bytes_eq w (codes "else") then ElseHead else head_by (rows_of w)))

-- A folded instruction before other code, which must consist of instructions.
abbrev pub with_instruction : Instruction → Code → Option Code
with_instruction i c = option_map (λ is. code_of End (i ∷ is)) (only_instructions c)

-- The content of a group as a case of an `if`.
abbrev pub branch : (List Chunk → Instruction) → Option Code → Option Code → Option Code
branch make inner rest = inner >>= only_instructions >>= chunks_of_instructions >>= if_nested >>= λ cs. rest >>= with_instruction (make cs)

-- Code with one more group before it, by the kind of the group. `item` is the group as an item, `inner` its content
-- as code, and `rest` the code after it.
abbrev pub with_group : GroupHead → (Forest → Forest) → Option Code → Option Code → Option Code
with_group PartHead item inner rest = with_front item rest
with_group ThenHead item inner rest = branch Then inner rest
with_group ElseHead item inner rest = branch Else inner rest
with_group (OperatorHead r rs) item inner rest = inner >>= folded_instruction r.role (r ∷ rs) >>= λ i. rest >>= with_instruction i

-- ---- Hints

-- The name of the annotation is that of branch hints.
abbrev pub is_hint : List ℕ → Bool
is_hint id = bytes_eq id (codes "metadata.code.branch_hint")

-- The operator with one more hint before it. A hint is the content of its annotation.
abbrev pub with_hint_group : Forest → Chunk → Chunk
with_hint_group h c = record c { hints = h ∷ c.hints }

-- A hint before a group is that of the group's own operator.
abbrev pub hint_first : Forest → List Instruction → List Instruction
hint_first h [] = []
hint_first h (Flat c ∷ is) = Flat (with_hint_group h c) ∷ is
hint_first h (Folded before own after ∷ is) = Folded before (with_hint_group h own) after ∷ is
hint_first h is = is

-- A hint before anything except an operator or the group of one is ignored.
abbrev pub with_hint : Forest → Code → Code
with_hint h c = elim c.front as (λ f. Code) [ End ↦ code_of End (hint_first h c.instructions) | _ ↦ c ]

-- Code with one more annotation before it, whose content is h. The first argument says whether it is a hint.
abbrev pub with_note : Bool → Forest → Option Code → Option Code
with_note true h c = option_map (with_hint h) c
with_note false h c = c

-- ---- Code

-- A row as code. An annotation is not code, and neither is its content.
abbrev pub code : Forest → Option Code
code End = Some (code_of End [])
code (Word w f) = with_word (rows_of w) w (code f)
code (Name s f) = with_front (Name s) (code f)
code (String s f) = with_front (String s) (code f)
code (Reserved f) = with_front Reserved (code f)
code (Group (Word w g) f) = with_group (head w) (Group (Word w g)) (code g) (code f)
code (Group g f) = with_front (Group g) (code f)
code (Note id g f) = with_note (is_hint id) g (code f)

-- The operators of a row, folded ones in their flat order.
abbrev pub chunks_of_forest : Forest → Option (List Chunk)
chunks_of_forest f = code f >>= only_instructions >>= chunks_of_instructions
