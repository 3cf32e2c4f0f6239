-- The effect of runs of calls on the contents that a writer reports.
use Rattle.std.specs.Prelude.{◌≡◌, ℕ, List, [], ◌∷◌, ◌++◌, Option, Some, None, Ok, refl}
use Rattle.std.specs.List.{concat}
use Rattle.std.specs.Io.KnownBytes.{Appends}
use Rattle.std.proofs.Common.{sym, ap, ◌∙◌, append_assoc, append-nil, inl, inr}
use Rattle.wasmprinter_spec.specs.Call.{Call, Text, Newline, Line, Start, Claim, call_text, text_of}
use Rattle.wasmprinter_spec.specs.Meaning.{Meaning, Run}
use Rattle.wasmprinter_print.specs.TextOnly.{Writes, WritesTextOnly, text_only}
use Rattle.wasmprinter_writers.specs.Writing.{Writing, TakesWhole, WritesNothing, WritesEach}
use Rattle.wasmprinter_spec.specs.Looks.{sequences_of}
use Rattle.wasmprinter_spec.specs.Colored.{look_of, colored_bytes, colored_text}
use Rattle.wasmprinter_writers.specs.ColorCalls.{Coloring, WritesSequences, KeepsColor, WritesInColor, colored_meaning}

appends_nothing : (a : Option (List ℕ)) → Appends a a []
appends_nothing None = tt
appends_nothing (Some xs) = sym (append-nil xs)

appends_both : (a b c : Option (List ℕ)) (x y : List ℕ) → Appends a b x → Appends b c y → Appends a c (x ++ y)
appends_both None b c x y h k = tt
appends_both (Some xs) None c x y h k = absurd h
appends_both (Some xs) (Some ys) None x y h k = absurd k
appends_both (Some xs) (Some ys) (Some zs) x y h k = k ∙ ap (λ l. l ++ y) h ∙ append_assoc xs x y

-- If nothing is written, then the contents grow by no bytes.
stays : {T : Type 0} (view : T → Option (List ℕ)) (s t : T) → WritesNothing s (Ok tt) t → Appends (view s) (view t) []
stays view s t h = rw h.1 (appends_nothing (view s))

-- Each successful write appends its bytes to the contents.
abbrev Grows : {T : Type 0} → (T → Option (List ℕ)) → Writing T → Type 0
Grows {T} view takes = (s : T) (bytes : List ℕ) (t : T) → takes s bytes (Ok tt) t → Appends (view s) (view t) bytes

-- If all byte strings were written, then the contents grow by their concatenation.
each_appended : {T : Type 0} (view : T → Option (List ℕ)) (takes : Writing T) → Grows view takes →
    (all : List (List ℕ)) (s t : T) → WritesEach takes s all (Ok tt) t → Appends (view s) (view t) (concat all)
each_appended view takes grows [] s t h = stays view s t h
each_appended view takes grows (bytes ∷ rest) s t (inl h) = absurd h
each_appended view takes grows (bytes ∷ rest) s t (inr h) =
    appends_both (view s) (view h.0) (view t) bytes (concat rest) (grows s bytes h.0 h.1) (each_appended view takes grows rest h.0 t h.2)

text_call : {P : Type 0} (view : P → Option (List ℕ)) (writes : Writes P) → Grows view writes →
    (s : P) (c : Call) (t : P) → WritesTextOnly writes s c (Ok tt) t → Appends (view s) (view t) (call_text c)
text_call view writes grows s (Text bytes) t h = grows s bytes t h
text_call view writes grows s Newline t h = grows s (10 ∷ []) t h
text_call view writes grows s (Line place) t h = stays view s t h
text_call view writes grows s (Start style) t h = stays view s t h
text_call view writes grows s (Claim name place bytes claimed) t h = stays view s t (h.1, h.2)

colored_call : {T : Type 0} (view : T → Option (List ℕ)) (takes : Writing T) (sets_color : Coloring T) → Grows view takes →
    ((s : T) (look : _) (t : T) → sets_color s look (Ok tt) t → Appends (view s) (view t) (concat (sequences_of look))) →
    (s : T) (c : Call) (t : T) → WritesInColor takes sets_color s c (Ok tt) t → Appends (view s) (view t) (colored_bytes c)
colored_call view takes sets_color grows colored s (Text bytes) t h = grows s bytes t h
colored_call view takes sets_color grows colored s Newline t h = grows s (10 ∷ []) t h
colored_call view takes sets_color grows colored s (Line place) t h = stays view s t h
colored_call view takes sets_color grows colored s (Start style) t h = colored s (look_of style) t h
colored_call view takes sets_color grows colored s (Claim name place bytes claimed) t h = stays view s t h.1

uncolored_call : {T : Type 0} (view : T → Option (List ℕ)) (takes : Writing T) (sets_color : Coloring T) → Grows view takes →
    ((s : T) (look : _) (t : T) → sets_color s look (Ok tt) t → WritesNothing s (Ok tt) t) →
    (s : T) (c : Call) (t : T) → WritesInColor takes sets_color s c (Ok tt) t → Appends (view s) (view t) (call_text c)
uncolored_call view takes sets_color grows idle s (Text bytes) t h = grows s bytes t h
uncolored_call view takes sets_color grows idle s Newline t h = grows s (10 ∷ []) t h
uncolored_call view takes sets_color grows idle s (Line place) t h = stays view s t h
uncolored_call view takes sets_color grows idle s (Start style) t h = stays view s t (idle s (look_of style) t h)
uncolored_call view takes sets_color grows idle s (Claim name place bytes claimed) t h = stays view s t h.1

-- If a view grows by the bytes of each call, then it grows by the bytes of a run.
run_appends : {P : Type 0} (m : Meaning P) (view : P → Option (List ℕ)) (bytes_of : Call → List ℕ) (all : List Call → List ℕ) → all [] ≡ [] →
    ((c : Call) (cs : List Call) → all (c ∷ cs) ≡ bytes_of c ++ all cs) →
    ((s : P) (c : Call) (t : P) → m.after s c t → Appends (view s) (view t) (bytes_of c)) →
    (s t : P) (calls : List Call) → Run m s calls t → Appends (view s) (view t) (all calls)
run_appends m view bytes_of all none more grows s t [] r = rw (none, sym r) (appends_nothing (view s))
run_appends m view bytes_of all none more grows s t (c ∷ calls) r =
    rw (more c calls) (appends_both (view s) (view r.0) (view t) (bytes_of c) (all calls) (grows s c r.0 r.1.step) (run_appends m view bytes_of all none more grows r.0 t calls r.2))

-- The contents of a text-only printer grow by the text of the calls.
pub text_run : {P : Type 0} (view : P → Option (List ℕ)) (s t : P) (calls : List Call) → Run (text_only (TakesWhole view)) s calls t → Appends (view s) (view t) (text_of calls)
text_run view =
    run_appends (text_only (TakesWhole view)) view call_text text_of refl (λ c cs. refl) (λ s c t h. text_call view (TakesWhole view) (λ a b z k. k) s c t h)

-- The contents of a writer that writes nothing for colors grow by the text of the calls.
pub uncolored_run : {P T : Type 0} (writer_of : P → T) (contents : T → Option (List ℕ)) (s t : P) (calls : List Call) →
    Run (colored_meaning writer_of (TakesWhole contents) KeepsColor) s calls t → Appends (contents (writer_of s)) (contents (writer_of t)) (text_of calls)
uncolored_run writer_of contents =
    run_appends (colored_meaning writer_of (TakesWhole contents) KeepsColor) (λ p. contents (writer_of p)) call_text text_of refl (λ c cs. refl)
    (λ s c t h. uncolored_call contents (TakesWhole contents) KeepsColor (λ a b z k. k) (λ a look z k. k) (writer_of s) c (writer_of t) h)

-- The contents of a writer that writes colors as escape sequences grow by the text of the calls with the sequences.
pub colored_run : {P T U : Type 0} (writer_of : P → T) (inner_of : T → U) (contents : U → Option (List ℕ)) (s t : P) (calls : List Call) →
    Run (colored_meaning writer_of (TakesWhole (λ w. contents (inner_of w))) (WritesSequences inner_of (TakesWhole contents))) s calls t →
    Appends (contents (inner_of (writer_of s))) (contents (inner_of (writer_of t))) (colored_text calls)
colored_run {T} writer_of inner_of contents =
    let view : T → Option (List ℕ) = λ w. contents (inner_of w) in
    run_appends (colored_meaning writer_of (TakesWhole view) (WritesSequences inner_of (TakesWhole contents))) (λ p. view (writer_of p)) colored_bytes colored_text refl (λ c cs. refl)
    (λ s c t h. colored_call view (TakesWhole view) (WritesSequences inner_of (TakesWhole contents)) (λ a b z k. k)
    (λ a look z k. each_appended contents (TakesWhole contents) (λ x b y j. j) (sequences_of look) (inner_of a) (inner_of z) k) (writer_of s) c (writer_of t) h)
