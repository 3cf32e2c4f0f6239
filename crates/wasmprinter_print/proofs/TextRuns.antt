-- The effect of runs of calls on a text-only printer.
use Rattle.std.proofs.Common.{◌≡◌, ℕ, List, [], ◌∷◌, ◌++◌, Ok, sym, ap, ◌∙◌, append_assoc, append-nil}
use Rattle.wasmprinter_spec.specs.Call.{Call, Text, Newline, Line, Start, Claim, IsUnclaimed, call_text, text_of}
use Rattle.wasmprinter_print.specs.TextOnly.{Writes, WritesTextOnly, Grows, TextIsGained}

stays : {P : Type 0} (view : P → List ℕ) (s t : P) → t ≡ s → view t ≡ view s ++ []
stays view s t h = ap view h ∙ sym (append-nil (view s))

one_call : {P : Type 0} (view : P → List ℕ) (writes : Writes P) → Grows view writes →
    (s : P) (c : Call) (t : P) → WritesTextOnly writes s c (Ok tt) t → view t ≡ view s ++ call_text c
one_call view writes grows s (Text bytes) t h = grows s bytes t h
one_call view writes grows s Newline t h = grows s (10 ∷ []) t h
one_call view writes grows s (Line place) t h = stays view s t h.1
one_call view writes grows s (Start style) t h = stays view s t h.1
one_call view writes grows s (Claim name place bytes claimed) t h = stays view s t h.2

-- A text-only printer claims no custom section.
pub takes_none : {P : Type 0} (writes : Writes P) (s : P) (c : Call) (t : P) → WritesTextOnly writes s c (Ok tt) t → IsUnclaimed c
takes_none writes s (Text bytes) t h = tt
takes_none writes s Newline t h = tt
takes_none writes s (Line place) t h = tt
takes_none writes s (Start style) t h = tt
takes_none writes s (Claim name place bytes claimed) t h = h.0

pub text_is_gained : {P : Type 0} (view : P → List ℕ) (writes : Writes P) → Grows view writes → TextIsGained view writes
text_is_gained view writes grows s [] t h = ap view (sym h) ∙ sym (append-nil (view s))
text_is_gained view writes grows s (c ∷ cs) t h =
    text_is_gained view writes grows h.0 cs t h.2
    ∙ ap (λ x. x ++ text_of cs) (one_call view writes grows s c h.0 h.1.step)
    ∙ append_assoc (view s) (call_text c) (text_of cs)
