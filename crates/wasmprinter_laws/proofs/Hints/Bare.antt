-- The hints of operators do not depend on annotations after identifiers or on the items between operators: code is
-- compared without them.
use Rattle.std.proofs.Common.{◌≡◌, ℕ, ◌+◌, Bool, true, false, cond, List, [], ◌∷◌, ◌++◌, map, Option, Some, None, option_map, refl, sym, ap, ap₂, ◌∙◌, codes}
use Rattle.std.proofs.lemmas.List.{map-append}
use Rattle.wasmprinter_spec.specs.Grammar.{◌>>=◌}
use Rattle.wasmprinter_spec.specs.Forest.{Forest, End, Word, Name, String, Reserved, Group, Note}
use Rattle.wasmprinter_spec.specs.Row.{Row, Role, Plain, Opens, OpensIf, Ends}
use Rattle.wasmprinter_spec.specs.Table.{rows_of}
use Rattle.wasmprinter_spec.specs.Stepped.{stops}
use Rattle.wasmprinter_spec.specs.Nesting.{advance, at_start}
use Rattle.wasmprinter_spec.specs.Piece.{flag_byte}
use Rattle.wasmprinter_spec.specs.Code.{Chunk, chunk, Instruction, Flat, Folded, Then, Else, Code, code_of, with_front, only_instructions, with_word, word_chunk, chunks_of_instructions, operands, role_by, if_nested, branches, folded_instruction, GroupHead, PartHead, ThenHead, ElseHead, OperatorHead, head, with_instruction, branch, with_group, is_hint, hint_first, with_hint, with_note, code, chunks_of_forest}
use Rattle.wasmprinter_spec.specs.HintsOfModule.{operator_hint}
use Rattle.wasmprinter_spec.specs.Text.Items.{each}
use Rattle.wasmprinter_spec.specs.Text.Hints.{hint_flag, chunk_hints}
use Rattle.wasmprinter_laws.proofs.Tokens.Noted.{Noted, no_items, a_word, a_name, a_noted_name, a_string, a_reserved, a_group, a_note}

-- ---- code without the irrelevant items

-- Of items, only whether there are any
abbrev bare_items : Forest → Forest
bare_items End = End
bare_items _ = Word [] End

-- Of a hint, only its flag, if it has one
abbrev bare_hint_by : Option Bool → Forest
bare_hint_by None = End
bare_hint_by (Some t) = String (flag_byte t ∷ []) End

abbrev bare_hint : Forest → Forest
bare_hint h = bare_hint_by (hint_flag h)

abbrev bare_chunk : Chunk → Chunk
bare_chunk c = record { rows = c.rows; arguments = bare_items c.arguments; hints = map bare_hint c.hints }

abbrev bare_chunks : List Chunk → List Chunk
bare_chunks cs = map bare_chunk cs

abbrev bare_instruction : Instruction → Instruction
bare_instruction (Flat c) = Flat (bare_chunk c)
bare_instruction (Folded front own after) = Folded (bare_chunks front) (bare_chunk own) (bare_chunks after)
bare_instruction (Then cs) = Then (bare_chunks cs)
bare_instruction (Else cs) = Else (bare_chunks cs)

abbrev bare_instructions : List Instruction → List Instruction
bare_instructions is = map bare_instruction is

abbrev bare_code : Code → Code
bare_code c = code_of (bare_items c.front) (bare_instructions c.instructions)

abbrev bare : Option Code → Option Code
bare c = option_map bare_code c

-- A placeholder for any items
abbrev dull : Forest → Forest
dull f = Word [] End

-- ---- the parts of code

only_bare : (f : Forest) (is : List Instruction) → only_instructions (bare_code (code_of f is)) ≡ option_map bare_instructions (only_instructions (code_of f is))
only_bare End is = refl
only_bare (Word s f) is = refl
only_bare (Name s f) is = refl
only_bare (String s f) is = refl
only_bare (Reserved f) is = refl
only_bare (Group g f) is = refl
only_bare (Note id g f) is = refl

joined_bare : (a b cs : List Chunk) (own : Chunk) → bare_chunks a ++ (bare_chunk own ∷ (bare_chunks b ++ bare_chunks cs)) ≡ bare_chunks (a ++ (own ∷ (b ++ cs)))
joined_bare a b cs own = ap (λ l. bare_chunks a ++ (bare_chunk own ∷ l)) (sym (map-append bare_chunk b cs)) ∙ sym (map-append bare_chunk a (own ∷ (b ++ cs)))

folded_before : (a b : List Chunk) (own : Chunk) (o : Option (List Chunk)) →
    option_map (λ cs. bare_chunks a ++ (bare_chunk own ∷ (bare_chunks b ++ cs))) (option_map bare_chunks o) ≡ option_map bare_chunks (option_map (λ cs. a ++ (own ∷ (b ++ cs))) o)
folded_before a b own None = refl
folded_before a b own (Some cs) = ap Some (joined_bare a b cs own)

flat_before : (c : Chunk) (o : Option (List Chunk)) → option_map (λ cs. bare_chunk c ∷ cs) (option_map bare_chunks o) ≡ option_map bare_chunks (option_map (λ cs. c ∷ cs) o)
flat_before c None = refl
flat_before c (Some cs) = refl

flattened_bare : (is : List Instruction) → chunks_of_instructions (bare_instructions is) ≡ option_map bare_chunks (chunks_of_instructions is)
flattened_bare [] = refl
flattened_bare (Flat c ∷ is) = ap (option_map (λ cs. bare_chunk c ∷ cs)) (flattened_bare is) ∙ flat_before c (chunks_of_instructions is)
flattened_bare (Folded a own b ∷ is) =
    ap (option_map (λ cs. bare_chunks a ++ (bare_chunk own ∷ (bare_chunks b ++ cs)))) (flattened_bare is) ∙ folded_before a b own (chunks_of_instructions is)
flattened_bare (Then cs ∷ is) = refl
flattened_bare (Else cs ∷ is) = refl

operands_bare : (is : List Instruction) → operands (bare_instructions is) ≡ option_map bare_chunks (operands is)
operands_bare [] = refl
operands_bare (Flat c ∷ is) = refl
operands_bare (Folded a own b ∷ is) =
    ap (option_map (λ cs. bare_chunks a ++ (bare_chunk own ∷ (bare_chunks b ++ cs)))) (operands_bare is) ∙ folded_before a b own (operands is)
operands_bare (Then cs ∷ is) = refl
operands_bare (Else cs ∷ is) = refl

roles_bare : (cs : List Chunk) → map (λ c. role_by c.rows) (bare_chunks cs) ≡ map (λ c. role_by c.rows) cs
roles_bare [] = refl
roles_bare (c ∷ cs) = ap (λ rs. role_by c.rows ∷ rs) (roles_bare cs)

nested_bare : (cs : List Chunk) → if_nested (bare_chunks cs) ≡ option_map bare_chunks (if_nested cs)
nested_bare cs =
    ap (λ rs. cond (stops advance at_start rs Ends) (Some (bare_chunks cs)) None) (roles_bare cs) ∙ by (stops advance at_start (map (λ c. role_by c.rows) cs) Ends)
  where
    by : (t : Bool) → cond t (Some (bare_chunks cs)) None ≡ option_map bare_chunks (cond t (Some cs) None)
    by true = refl
    by false = refl

-- Both cases of an `if`
abbrev bare_cases : List Chunk × List Chunk → List Chunk × List Chunk
bare_cases x = (bare_chunks x.0, bare_chunks x.1)

branches_bare : (is : List Instruction) → branches (bare_instructions is) ≡ option_map bare_cases (branches is)
branches_bare [] = refl
branches_bare (Flat c ∷ is) = refl
branches_bare (Folded a own b ∷ is) =
    ap (option_map (λ x. (bare_chunks a ++ (bare_chunk own ∷ (bare_chunks b ++ x.0)), x.1))) (branches_bare is) ∙ by (branches is)
  where
    by : (o : Option (List Chunk × List Chunk)) →
        option_map (λ (x : List Chunk × List Chunk). (bare_chunks a ++ (bare_chunk own ∷ (bare_chunks b ++ x.0)), x.1)) (option_map bare_cases o)
        ≡ option_map bare_cases (option_map (λ (x : List Chunk × List Chunk). (a ++ (own ∷ (b ++ x.0)), x.1)) o)
    by None = refl
    by (Some x) = ap (λ (l : List Chunk). Some (l, bare_chunks x.1)) (joined_bare a b x.0 own)
branches_bare (Then t ∷ []) = refl
branches_bare (Then t ∷ Else e ∷ []) = ap (λ (l : List Chunk). Some ([], l)) (sym (map-append bare_chunk t (word_chunk (codes "else") ∷ e)))
branches_bare (Then t ∷ Else e ∷ i ∷ is) = refl
branches_bare (Then t ∷ Flat c ∷ is) = refl
branches_bare (Then t ∷ Folded a own b ∷ is) = refl
branches_bare (Then t ∷ Then c ∷ is) = refl
branches_bare (Else e ∷ is) = refl

before_bare : (i : Instruction) (c : Code) → with_instruction (bare_instruction i) (bare_code c) ≡ bare (with_instruction i c)
before_bare i c = ap (option_map (λ is. code_of End (bare_instruction i ∷ is))) (only_bare c.front c.instructions) ∙ by (only_instructions c)
  where
    by : (o : Option (List Instruction)) → option_map (λ is. code_of End (bare_instruction i ∷ is)) (option_map bare_instructions o) ≡ bare (option_map (λ is. code_of End (i ∷ is)) o)
    by None = refl
    by (Some is) = refl

front_bare : (item : Forest → Forest) → ((f : Forest) → bare_items (item f) ≡ dull f) → (c : Option Code) → bare (with_front item c) ≡ with_front dull (bare c)
front_bare item h None = refl
front_bare item h (Some c) = ap (λ f. Some (code_of f (bare_instructions c.instructions))) (h c.front)

abbrev word_of_rows : List Row → Option Code → Option Code
word_of_rows [] c = with_front dull c
word_of_rows (r ∷ rs) c = with_word (r ∷ rs) [] c

word_bare : (rs : List Row) (w : List ℕ) (c : Option Code) → bare (with_word rs w c) ≡ word_of_rows rs (bare c)
word_bare [] w c = front_bare (Word w) (λ f. refl) c
word_bare (r ∷ rs) w None = refl
word_bare (r ∷ rs) w (Some c) = refl

-- ---- folded operators

held_bare : (is : List Instruction) → (chunks_of_instructions (bare_instructions is) >>= if_nested) ≡ option_map bare_chunks (chunks_of_instructions is >>= if_nested)
held_bare is = ap (λ o. o >>= if_nested) (flattened_bare is) ∙ by (chunks_of_instructions is)
  where
    by : (o : Option (List Chunk)) → (option_map bare_chunks o >>= if_nested) ≡ option_map bare_chunks (o >>= if_nested)
    by None = refl
    by (Some cs) = nested_bare cs

folded_bare : (r : Role) (rs : List Row) (c : Code) → folded_instruction r rs (bare_code c) ≡ option_map bare_instruction (folded_instruction r rs c)
folded_bare Plain rs c = ap (option_map (λ cs. Folded cs (chunk rs (bare_items c.front)) [])) (operands_bare c.instructions) ∙ by (operands c.instructions)
  where
    by : (o : Option (List Chunk)) → option_map (λ cs. Folded cs (chunk rs (bare_items c.front)) []) (option_map bare_chunks o)
        ≡ option_map bare_instruction (option_map (λ cs. Folded cs (chunk rs c.front) []) o)
    by None = refl
    by (Some cs) = refl
folded_bare Opens rs c =
    ap (option_map (λ cs. Folded [] (chunk rs (bare_items c.front)) (cs ++ (word_chunk (codes "end") ∷ [])))) (held_bare c.instructions) ∙ by (chunks_of_instructions c.instructions >>= if_nested)
  where
    by : (o : Option (List Chunk)) → option_map (λ cs. Folded [] (chunk rs (bare_items c.front)) (cs ++ (word_chunk (codes "end") ∷ []))) (option_map bare_chunks o)
        ≡ option_map bare_instruction (option_map (λ cs. Folded [] (chunk rs c.front) (cs ++ (word_chunk (codes "end") ∷ []))) o)
    by None = refl
    by (Some cs) = ap (λ l. Some (Folded [] (chunk rs (bare_items c.front)) l)) (sym (map-append bare_chunk cs (word_chunk (codes "end") ∷ [])))
folded_bare OpensIf rs c =
    ap (option_map (λ x. Folded x.0 (chunk rs (bare_items c.front)) (x.1 ++ (word_chunk (codes "end") ∷ [])))) (branches_bare c.instructions) ∙ by (branches c.instructions)
  where
    by : (o : Option (List Chunk × List Chunk)) →
        option_map (λ (x : List Chunk × List Chunk). Folded x.0 (chunk rs (bare_items c.front)) (x.1 ++ (word_chunk (codes "end") ∷ []))) (option_map bare_cases o)
        ≡ option_map bare_instruction (option_map (λ (x : List Chunk × List Chunk). Folded x.0 (chunk rs c.front) (x.1 ++ (word_chunk (codes "end") ∷ []))) o)
    by None = refl
    by (Some x) = ap (λ l. Some (Folded (bare_chunks x.0) (chunk rs (bare_items c.front)) l)) (sym (map-append bare_chunk x.1 (word_chunk (codes "end") ∷ [])))
folded_bare _ rs c = refl

then_before : (i : Instruction) (rest : Option Code) → bare (rest >>= with_instruction i) ≡ (bare rest >>= with_instruction (bare_instruction i))
then_before i None = refl
then_before i (Some c) = sym (before_bare i c)

branch_bare : (make : List Chunk → Instruction) → ((cs : List Chunk) → bare_instruction (make cs) ≡ make (bare_chunks cs)) → (inner rest : Option Code) →
    bare (branch make inner rest) ≡ branch make (bare inner) (bare rest)
branch_bare make h None rest = refl
branch_bare make h (Some c) rest =
    by (only_instructions c) ∙ sym (ap (λ o. o >>= chunks_of_instructions >>= if_nested >>= λ cs. bare rest >>= with_instruction (make cs)) (only_bare c.front c.instructions))
  where
    made : (o : Option (List Chunk)) → bare (o >>= λ cs. rest >>= with_instruction (make cs)) ≡ (option_map bare_chunks o >>= λ cs. bare rest >>= with_instruction (make cs))
    made None = refl
    made (Some cs) = then_before (make cs) rest ∙ ap (λ i. bare rest >>= with_instruction i) (h cs)

    by : (o : Option (List Instruction)) → bare (o >>= chunks_of_instructions >>= if_nested >>= λ cs. rest >>= with_instruction (make cs))
        ≡ (option_map bare_instructions o >>= chunks_of_instructions >>= if_nested >>= λ cs. bare rest >>= with_instruction (make cs))
    by None = refl
    by (Some is) = made (chunks_of_instructions is >>= if_nested) ∙ sym (ap (λ o. o >>= λ cs. bare rest >>= with_instruction (make cs)) (held_bare is))

group_bare : (h : GroupHead) (item : Forest → Forest) → ((f : Forest) → bare_items (item f) ≡ dull f) → (inner rest : Option Code) →
    bare (with_group h item inner rest) ≡ with_group h dull (bare inner) (bare rest)
group_bare PartHead item e inner rest = front_bare item e rest
group_bare ThenHead item e inner rest = branch_bare Then (λ cs. refl) inner rest
group_bare ElseHead item e inner rest = branch_bare Else (λ cs. refl) inner rest
group_bare (OperatorHead r rs) item e None rest = refl
group_bare (OperatorHead r rs) item e (Some c) rest =
    by (folded_instruction r.role (r ∷ rs) c) ∙ sym (ap (λ o. o >>= λ i. bare rest >>= with_instruction i) (folded_bare r.role (r ∷ rs) c))
  where
    by : (o : Option Instruction) → bare (o >>= λ i. rest >>= with_instruction i) ≡ (option_map bare_instruction o >>= λ i. bare rest >>= with_instruction i)
    by None = refl
    by (Some i) = then_before i rest

-- ---- hints

first_bare : (h : Forest) (is : List Instruction) → bare_instructions (hint_first h is) ≡ hint_first (bare_hint h) (bare_instructions is)
first_bare h [] = refl
first_bare h (Flat c ∷ is) = refl
first_bare h (Folded a own b ∷ is) = refl
first_bare h (Then cs ∷ is) = refl
first_bare h (Else cs ∷ is) = refl

hint_bare : (h f : Forest) (is : List Instruction) → bare_code (with_hint h (code_of f is)) ≡ with_hint (bare_hint h) (bare_code (code_of f is))
hint_bare h End is = ap (code_of End) (first_bare h is)
hint_bare h (Word s f) is = refl
hint_bare h (Name s f) is = refl
hint_bare h (String s f) is = refl
hint_bare h (Reserved f) is = refl
hint_bare h (Group g f) is = refl
hint_bare h (Note id g f) is = refl

note_bare : (t : Bool) (h : Forest) (c : Option Code) → bare (with_note t h c) ≡ with_note t (bare_hint h) (bare c)
note_bare false h c = refl
note_bare true h None = refl
note_bare true h (Some c) = ap Some (hint_bare h c.front c.instructions)

string_flag : (s : List ℕ) {f g : Forest} → Noted f g → hint_flag (String s f) ≡ hint_flag (String s g)
string_flag [] n = refl
string_flag (b ∷ []) no_items = refl
string_flag (b ∷ []) (a_word n) = refl
string_flag (b ∷ []) (a_name n) = refl
string_flag (b ∷ []) (a_noted_name n) = refl
string_flag (b ∷ []) (a_string n) = refl
string_flag (b ∷ []) (a_reserved n) = refl
string_flag (b ∷ []) (a_group m n) = refl
string_flag (b ∷ []) (a_note m n) = refl
string_flag (b ∷ c ∷ s) n = refl

noted_flag : {x h : Forest} → Noted x h → hint_flag x ≡ hint_flag h
noted_flag no_items = refl
noted_flag (a_word n) = refl
noted_flag (a_name n) = refl
noted_flag (a_noted_name n) = refl
noted_flag (a_string {s} n) = string_flag s n
noted_flag (a_reserved n) = refl
noted_flag (a_group m n) = refl
noted_flag (a_note m n) = refl

-- ---- code

-- The content of a group that does not start with a word, before code, does not matter.
other_group : (h i : Forest) (c d : Option Code) → bare c ≡ bare d → bare (with_front (Group h) c) ≡ bare (with_front (Group i) d)
other_group h i c d e = front_bare (Group h) (λ f. refl) c ∙ ap (with_front dull) e ∙ sym (front_bare (Group i) (λ f. refl) d)

noted_code : {z g : Forest} → Noted z g → bare (code z) ≡ bare (code g)
noted_code no_items = refl
noted_code (a_word {s} {f} {g} n) = word_bare (rows_of s) s (code f) ∙ ap (word_of_rows (rows_of s)) (noted_code n) ∙ sym (word_bare (rows_of s) s (code g))
noted_code (a_name {s} {f} {g} n) = front_bare (Name s) (λ x. refl) (code f) ∙ ap (with_front dull) (noted_code n) ∙ sym (front_bare (Name s) (λ x. refl) (code g))
noted_code (a_noted_name {s} {h} {f} {g} n) = front_bare (Name s) (λ x. refl) (code f) ∙ ap (with_front dull) (noted_code n) ∙ sym (front_bare (Name s) (λ x. refl) (code g))
noted_code (a_string {s} {f} {g} n) = front_bare (String s) (λ x. refl) (code f) ∙ ap (with_front dull) (noted_code n) ∙ sym (front_bare (String s) (λ x. refl) (code g))
noted_code (a_reserved {f} {g} n) = front_bare Reserved (λ x. refl) (code f) ∙ ap (with_front dull) (noted_code n) ∙ sym (front_bare Reserved (λ x. refl) (code g))
noted_code (a_group {f = f} {g = g} (a_word {s = s} {f = x} {g = y} m) n) =
    group_bare (head s) (Group (Word s x)) (λ t. refl) (code x) (code f)
    ∙ ap₂ (λ a b. with_group (head s) dull a b) (noted_code m) (noted_code n)
    ∙ sym (group_bare (head s) (Group (Word s y)) (λ t. refl) (code y) (code g))
noted_code (a_group {f = f} {g = g} no_items n) = other_group _ _ (code f) (code g) (noted_code n)
noted_code (a_group {f = f} {g = g} (a_name m) n) = other_group _ _ (code f) (code g) (noted_code n)
noted_code (a_group {f = f} {g = g} (a_noted_name m) n) = other_group _ _ (code f) (code g) (noted_code n)
noted_code (a_group {f = f} {g = g} (a_string m) n) = other_group _ _ (code f) (code g) (noted_code n)
noted_code (a_group {f = f} {g = g} (a_reserved m) n) = other_group _ _ (code f) (code g) (noted_code n)
noted_code (a_group {f = f} {g = g} (a_group k m) n) = other_group _ _ (code f) (code g) (noted_code n)
noted_code (a_group {f = f} {g = g} (a_note k m) n) = other_group _ _ (code f) (code g) (noted_code n)
noted_code (a_note {id} {h} {i} {f} {g} m n) =
    note_bare (is_hint id) h (code f)
    ∙ ap₂ (λ x c. with_note (is_hint id) (bare_hint_by x) c) (noted_flag m) (noted_code n)
    ∙ sym (note_bare (is_hint id) i (code g))

-- ---- the hints of operators

unfolded_bare : (c : Option Code) → option_map bare_chunks (c >>= only_instructions >>= chunks_of_instructions) ≡ (bare c >>= only_instructions >>= chunks_of_instructions)
unfolded_bare None = refl
unfolded_bare (Some c) = by (only_instructions c) ∙ sym (ap (λ o. o >>= chunks_of_instructions) (only_bare c.front c.instructions))
  where
    by : (o : Option (List Instruction)) → option_map bare_chunks (o >>= chunks_of_instructions) ≡ (option_map bare_instructions o >>= chunks_of_instructions)
    by None = refl
    by (Some is) = sym (flattened_bare is)

bare_flag : (t : Option Bool) → hint_flag (bare_hint_by t) ≡ t
bare_flag None = refl
bare_flag (Some true) = refl
bare_flag (Some false) = refl

each_bare : (hs : List Forest) → each hint_flag (map bare_hint hs) ≡ each hint_flag hs
each_bare [] = refl
each_bare (h ∷ hs) = ap₂ (λ t o. t >>= λ x. o >>= λ xs. Some (x ∷ xs)) (bare_flag (hint_flag h)) (each_bare hs)

hints_bare : (f n : ℕ) (cs : List Chunk) → chunk_hints f n (bare_chunks cs) ≡ chunk_hints f n cs
hints_bare f n [] = refl
hints_bare f n (c ∷ cs) =
    ap₂ (λ o p. o >>= λ flags. p >>= λ rest. Some (map (λ taken. operator_hint f n taken) flags ++ rest)) (each_bare c.hints) (hints_bare f (n + 1) cs)

-- Items have the hints of the same items without annotations after identifiers.
pub noted_hints : {z g : Forest} (f n : ℕ) → Noted z g → (chunks_of_forest z >>= chunk_hints f n) ≡ (chunks_of_forest g >>= chunk_hints f n)
noted_hints {z} {g} f n m =
    by (chunks_of_forest z)
    ∙ ap (λ o. o >>= chunk_hints f n) (unfolded_bare (code z) ∙ ap (λ c. c >>= only_instructions >>= chunks_of_instructions) (noted_code m) ∙ sym (unfolded_bare (code g)))
    ∙ sym (by (chunks_of_forest g))
  where
    by : (o : Option (List Chunk)) → (o >>= chunk_hints f n) ≡ (option_map bare_chunks o >>= chunk_hints f n)
    by None = refl
    by (Some cs) = sym (hints_bare f n cs)
