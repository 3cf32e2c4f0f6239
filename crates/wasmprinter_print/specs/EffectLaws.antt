-- Laws of `HasEffect`, for any printer: the law of composition, and its forms for calls, pieces and parts.
use Rattle.std.specs.Prelude.{◌≡◌, ℕ, Bool, true, false, ◌||◌, cond, List, [], ◌∷◌, ◌++◌, Option, Some, None, is_some}
use Rattle.std.proofs.Common.{refl, sym, ap, ap₂, ◌∙◌, subst, append_assoc, append-nil}
use Rattle.std.specs.declared.io.Error.{Error as IoError}
use Rattle.wasmprinter_spec.specs.Call.{Call, Text, atoms}
use Rattle.wasmprinter_spec.specs.Meaning.{Meaning, Succeeded, Failed}
use Rattle.wasmprinter_spec.specs.Options.{Options}
use Rattle.wasmprinter_spec.specs.Piece.{Piece, calls, all_calls}
use Rattle.wasmprinter_spec.specs.Layout.Groups.{breaks, has_break, close}
use Rattle.wasmprinter_spec.specs.Layout.Customs.{Part, Shown, Stops, Laid, laid_parts}
use Rattle.wasmprinter_print.specs.MadeCalls.{Whole, Through, AtCall, Stopped}
use Rattle.wasmprinter_print.specs.MadeLaws.{atoms-text, then_calls, broken_longer, interrupted_longer, alike_calls}
use Rattle.wasmprinter_print.specs.Effects.{State, state, Effect, both, then_by, Opened, LeftGroup, EffectEnds, HasEffectFrom, HasEffect, of_calls, of_pieces, of_laid, of_parts}
use Rattle.wasmprinter_print.specs.declared.halt.Halt.{Halt}
use Rattle.wasmprinter_print.specs.declared.halt.Halt.TheVariants.{Printer, Memory, Refused}

or_assoc : (a b c : Bool) → ((a || b) || c) ≡ (a || (b || c))
or_assoc true b c = refl
or_assoc false b c = refl

-- ---- the law of composition

-- If the first effect was completed, then the end of the second is the end of both.
ended_then : {P : Type 0} (m : Meaning P) (folds : Bool) (a : State P) (s t : P) (b c : Bool) (x : Option Halt) (e f : Effect) →
    Whole m a.printer s e.layout → b ≡ (a.begun || e.lines) →
    EffectEnds m folds (record { printer = s; halt = None; begun = b }) t x c f → EffectEnds m folds a t x c (both e f)
ended_then m folds a s t b c None e f w h v = (
  then_calls m a.printer s t Through e.layout f.layout w v.0,
  v.1 ∙ ap (λ z. z || f.lines) h ∙ or_assoc a.begun e.lines f.lines,
  v.2,
)
ended_then m folds a s t b c (Some (Printer x)) e f w h v = then_calls m a.printer s t (AtCall x) e.layout f.layout w v
ended_then m folds a s t b c (Some Memory) e f w h v = (then_calls m a.printer s t Stopped e.layout f.layout w v.0, v.1)
ended_then m folds a s t b c (Some (Refused id)) e f w h v = (then_calls m a.printer s t Through e.layout f.layout w v.0, v.1)

-- If the first effect has no refusal and ended with an error, then both ended with it.
ended_ends : {P : Type 0} (m : Meaning P) (folds : Bool) (a : State P) (t : P) (b c : Bool) (x : Halt) (e f : Effect) →
    e.refused ≡ None → EffectEnds m folds a t (Some x) b e → EffectEnds m folds a t (Some x) c (both e f)
ended_ends m folds a t b c (Printer x) e f n v = broken_longer m a.printer t x e.layout f.layout v
ended_ends m folds a t b c Memory e f n v = (interrupted_longer m a.printer t e.layout f.layout v.0, v.1)
ended_ends m folds a t b c (Refused id) e f n v = let q : e.refused ≡ Some id = v.1 in cc

effect_then_from : {P : Type 0} (m : Meaning P) (folds : Bool) (p q : P) (x y : Option Halt) (b c : Bool) (t : State P) (e f : Effect) →
    e.refused ≡ None →
    HasEffectFrom m folds (record { printer = p; halt = x; begun = b }) x (record { printer = q; halt = y; begun = c }) e →
    HasEffectFrom m folds (record { printer = q; halt = y; begun = c }) y t f → HasEffectFrom m folds (record { printer = p; halt = x; begun = b }) x t (both e f)
effect_then_from m folds p q None None b c t e f n v w =
    ended_then m folds (record { printer = p; halt = None; begun = b }) q t.printer c t.begun t.halt e f v.0 v.1 w
effect_then_from m folds p q None (Some y) b c t e f n v w =
    let a : State _ = record { printer = p; halt = None; begun = b } in
    subst (λ (z : _). EffectEnds m folds a z t.halt t.begun (both e f)) (sym w.0)
    (subst (λ (z : Option Halt). EffectEnds m folds a q z t.begun (both e f)) (sym w.1) (ended_ends m folds a q c t.begun y e f n v))
effect_then_from m folds p q (Some x) y b c t e f n v w =
    let h = subst (λ (z : Option Halt). HasEffectFrom m folds (record { printer = q; halt = z; begun = c }) z t f) v.1 w in
    (h.0 ∙ v.0, h.1)

-- The law of composition: two effects, the first of which has no refusal.
pub effect_both : {P : Type 0} (m : Meaning P) (o : Options) {a s t : State P} {e f : Effect} → e.refused ≡ None →
    HasEffect m o a s e → HasEffect m o s t f → HasEffect m o a t (both e f)
effect_both m o {a} {s} {t} {e} {f} n v w = record {
  made = effect_then_from m o.folds a.printer s.printer a.halt s.halt a.begun s.begun t e f n v.made w.made;
}

-- ---- nothing

effect_nothing : {P : Type 0} (m : Meaning P) (folds : Bool) (p : P) (x : Option Halt) (b : Bool) →
    HasEffectFrom m folds (record { printer = p; halt = x; begun = b }) x (record { printer = p; halt = x; begun = b })
    (record { layout = []; lines = false; refused = None })
effect_nothing m folds p None true = (record { calls = []; run = refl; alike = refl }, refl, refl)
effect_nothing m folds p None false = (record { calls = []; run = refl; alike = refl }, refl, refl)
effect_nothing m folds p (Some x) b = (refl, refl)

pub effect_none : {P : Type 0} (m : Meaning P) (o : Options) (a : State P) →
    HasEffect m o a a (record { layout = []; lines = false; refused = None })
effect_none m o a = record { made = effect_nothing m o.folds a.printer a.halt a.begun }

-- ---- layouts that are alike

ended_alike : {P : Type 0} (m : Meaning P) (folds : Bool) (a : State P) (t : P) (x : Option Halt) (c : Bool) (l k : List Call)
    (b : Bool) (r : Option ℕ) →
    atoms l ≡ atoms k → EffectEnds m folds a t x c (record { layout = l; lines = b; refused = r }) →
    EffectEnds m folds a t x c (record { layout = k; lines = b; refused = r })
ended_alike m folds a t None c l k b r e v = (alike_calls m a.printer t Through l k e v.0, v.1, v.2)
ended_alike m folds a t (Some (Printer x)) c l k b r e v = alike_calls m a.printer t (AtCall x) l k e v
ended_alike m folds a t (Some Memory) c l k b r e v = (alike_calls m a.printer t Stopped l k e v.0, v.1)
ended_alike m folds a t (Some (Refused id)) c l k b r e v = (alike_calls m a.printer t Through l k e v.0, v.1)

effect_from_alike : {P : Type 0} (m : Meaning P) (folds : Bool) (a : State P) (x : Option Halt) (t : State P) (l k : List Call)
    (b : Bool) (r : Option ℕ) →
    atoms l ≡ atoms k → HasEffectFrom m folds a x t (record { layout = l; lines = b; refused = r }) →
    HasEffectFrom m folds a x t (record { layout = k; lines = b; refused = r })
effect_from_alike m folds a None t l k b r e v = ended_alike m folds a t.printer t.halt t.begun l k b r e v
effect_from_alike m folds a (Some x) t l k b r e v = v

pub effect_alike : {P : Type 0} (m : Meaning P) (o : Options) {a t : State P} (l k : List Call) →
    atoms l ≡ atoms k → HasEffect m o a t (of_calls l) → HasEffect m o a t (of_calls k)
effect_alike m o {a} {t} l k e v = record { made = effect_from_alike m o.folds a a.halt t l k false None e v.made }

-- An empty text needs no call.
pub effect_no_text : {P : Type 0} (m : Meaning P) (o : Options) (a : State P) → HasEffect m o a a (of_calls (Text [] ∷ []))
effect_no_text m o a = effect_alike m o [] (Text [] ∷ []) refl (effect_none m o a)

-- ---- pieces and parts

pub all_calls-append : (o : Options) (xs ys : List Piece) → all_calls o (xs ++ ys) ≡ all_calls o xs ++ all_calls o ys
all_calls-append o [] ys = refl
all_calls-append o (x ∷ xs) ys =
    ap (λ l. calls o x ++ l) (all_calls-append o xs ys) ∙ sym (append_assoc (calls o x) (all_calls o xs) (all_calls o ys))

cond_or : (a b c : Bool) → cond a true (b || c) ≡ (cond a true b || c)
cond_or true b c = refl
cond_or false b c = refl

pub has_break-append : (xs ys : List Piece) → has_break (xs ++ ys) ≡ (has_break xs || has_break ys)
has_break-append [] ys = refl
has_break-append (x ∷ xs) ys = ap (λ b. cond (breaks x) true b) (has_break-append xs ys) ∙ cond_or (breaks x) (has_break xs) (has_break ys)

-- An effect, by its fields.
abbrev effect_of : List Call → Bool → Option ℕ → Effect
effect_of l b r = record { layout = l; lines = b; refused = r }

pub both_pieces : {P : Type 0} (m : Meaning P) (o : Options) {a s t : State P} (xs ys : List Piece) →
    HasEffect m o a s (of_pieces o xs) → HasEffect m o s t (of_pieces o ys) → HasEffect m o a t (of_pieces o (xs ++ ys))
both_pieces m o {a} {s} {t} xs ys v w =
    subst (λ (l : List Call). HasEffect m o a t (effect_of l (has_break (xs ++ ys)) None)) (sym (all_calls-append o xs ys))
    (subst (λ (b : Bool). HasEffect m o a t (effect_of (all_calls o xs ++ all_calls o ys) b None)) (sym (has_break-append xs ys))
    (effect_both m o refl v w))

pub both_calls : {P : Type 0} (m : Meaning P) (o : Options) {a s t : State P} (l k : List Call) →
    HasEffect m o a s (of_calls l) → HasEffect m o s t (of_calls k) → HasEffect m o a t (of_calls (l ++ k))
both_calls m o l k v w = effect_both m o refl v w

pub both_texts : {P : Type 0} (m : Meaning P) (o : Options) {a s t : State P} (x y : List ℕ) (k : List Call) →
    HasEffect m o a s (of_calls (Text x ∷ [])) → HasEffect m o s t (of_calls (Text y ∷ k)) → HasEffect m o a t (of_calls (Text (x ++ y) ∷ k))
both_texts m o x y k v w =
    effect_alike m o (Text x ∷ Text y ∷ k) (Text (x ++ y) ∷ k) (atoms-text x y k) (both_calls m o (Text x ∷ []) (Text y ∷ k) v w)

-- The calls of a piece that begins no line are that piece.
pub one_piece : {P : Type 0} (m : Meaning P) (o : Options) {a t : State P} (x : Piece) → breaks x ≡ false →
    HasEffect m o a t (of_calls (calls o x)) → HasEffect m o a t (of_pieces o (x ∷ []))
one_piece m o {a} {t} x e v =
    subst (λ (b : Bool). HasEffect m o a t (effect_of (calls o x ++ []) (cond b true false) None)) (sym e)
    (subst (λ (l : List Call). HasEffect m o a t (effect_of l false None)) (sym (append-nil (calls o x))) v)

or_true : (a : Bool) → (a || true) ≡ true
or_true true = refl
or_true false = refl

-- If a line begins, then the effect has a line.
effect_breaks : {P : Type 0} (m : Meaning P) (folds : Bool) (a : State P) (x : Option Halt) (t : P) (y : Option Halt) (c : Bool) (l : List Call) →
    HasEffectFrom m folds a x (record { printer = t; halt = y; begun = c }) (of_calls l) →
    HasEffectFrom m folds a x (record { printer = t; halt = y; begun = true }) (effect_of l true None)
effect_breaks m folds a None t None c l v = (v.0, sym (or_true a.begun), refl)
effect_breaks m folds a None t (Some (Printer e)) c l v = v
effect_breaks m folds a None t (Some Memory) c l v = v
effect_breaks m folds a None t (Some (Refused id)) c l v = v
effect_breaks m folds a (Some x) t y c l v = v

-- The calls of a piece that begins a line are that piece, if the line is recorded.
pub one_break : {P : Type 0} (m : Meaning P) (o : Options) {a s : State P} (t : State P) (x : Piece) → breaks x ≡ true →
    t ≡ record s { begun = true } → HasEffect m o a s (of_calls (calls o x)) → HasEffect m o a t (of_pieces o (x ∷ []))
one_break m o {a} {s} t x e q v =
    subst (λ (z : State _). HasEffect m o a z (of_pieces o (x ∷ []))) (sym q)
    (subst (λ (b : Bool). HasEffect m o a (record s { begun = true }) (effect_of (calls o x ++ []) (cond b true false) None)) (sym e)
    (subst (λ (l : List Call). HasEffect m o a (record s { begun = true }) (effect_of l true None)) (sym (append-nil (calls o x)))
    (record { made = effect_breaks m o.folds a a.halt s.printer s.halt s.begun (calls o x) v.made })))

-- ---- after an error

effect_any_by : {P : Type 0} (m : Meaning P) (folds : Bool) (a t : State P) (x : Option Halt) (y : Halt) (e f : Effect) → x ≡ Some y →
    HasEffectFrom m folds a x t e → HasEffectFrom m folds a x t f
effect_any_by m folds a t None y e f q v = cc
effect_any_by m folds a t (Some x) y e f q v = v

-- After an error, what holds for one effect holds for any other.
pub effect_any : {P : Type 0} (m : Meaning P) (o : Options) {a t : State P} (y : Halt) (e f : Effect) → a.halt ≡ Some y →
    HasEffect m o a t e → HasEffect m o a t f
effect_any m o {a} {t} y e f q v = record { made = effect_any_by m o.folds a t a.halt y e f q v.made }

-- ---- parts

-- After an error it does not matter whether a line has begun.
unflag : {P : Type 0} (m : Meaning P) (folds : Bool) (a : State P) (t : P) (y : Halt) (b c : Bool) (e : Effect) →
    EffectEnds m folds a t (Some y) b e → EffectEnds m folds a t (Some y) c e
unflag m folds a t (Printer x) b c e v = v
unflag m folds a t Memory b c e v = v
unflag m folds a t (Refused id) b c e v = v

refused_by : {P : Type 0} (m : Meaning P) (folds : Bool) (a : State P) (x : Option Halt) (q : P) (y : Option Halt) (c : Bool) (t : State P)
    (e f : Effect) (id : ℕ) → e.refused ≡ Some id →
    HasEffectFrom m folds a x (record { printer = q; halt = y; begun = c }) e → HasEffectFrom m folds (record { printer = q; halt = y; begun = c }) y t f →
    HasEffectFrom m folds a x t e
refused_by m folds a None q None c t e f id r v w = let n : e.refused ≡ None = v.2 in cc
refused_by m folds a None q (Some y) c t e f id r v w =
    subst (λ (z : _). EffectEnds m folds a z t.halt t.begun e) (sym w.0)
    (subst (λ (z : Option Halt). EffectEnds m folds a q z t.begun e) (sym w.1) (unflag m folds a q y c t.begun e v))
refused_by m folds a (Some x) q y c t e f id r v w =
    let h = subst (λ (z : Option Halt). HasEffectFrom m folds (record { printer = q; halt = z; begun = c }) z t f) v.1 w in
    (h.0 ∙ v.0, h.1)

effect_then_by : {P : Type 0} (m : Meaning P) (o : Options) {a s t : State P} (r : Option ℕ) (e f : Effect) → e.refused ≡ r →
    HasEffect m o a s e → HasEffect m o s t f → HasEffect m o a t (then_by r e f)
effect_then_by m o None e f q v w = effect_both m o q v w
effect_then_by m o {a} {s} {t} (Some id) e f q v w =
    record { made = refused_by m o.folds a a.halt s.printer s.halt s.begun t e f id q v.made w.made }

-- Two effects, one after the other: after a refusal nothing follows.
pub effect_then : {P : Type 0} (m : Meaning P) (o : Options) {a s t : State P} {e f : Effect} →
    HasEffect m o a s e → HasEffect m o s t f → HasEffect m o a t (then_by e.refused e f)
effect_then m o {e = e} {f} v w = effect_then_by m o e.refused e f refl v w

-- ---- parts of a layout

-- One layout, and then another, unless the first ends at a refusal. The first argument is that refusal.
abbrev laid_by : Option ℕ → Laid → Laid → Laid
laid_by None l k = record { pieces = l.pieces ++ k.pieces; refused = k.refused }
laid_by (Some id) l k = l

-- Pieces, and then a layout.
abbrev after_pieces : List Piece → Laid → Laid
after_pieces xs l = record { pieces = xs ++ l.pieces; refused = l.refused }

shown_by : (xs : List Piece) (r : Option ℕ) (l k : Laid) → after_pieces xs (laid_by r l k) ≡ laid_by r (after_pieces xs l) k
shown_by xs None l k = ap (λ (ys : List Piece). record { pieces = ys; refused = k.refused }) (sym (append_assoc xs l.pieces k.pieces))
shown_by xs (Some id) l k = refl

laid_parts-append : (ps qs : List Part) → laid_parts (ps ++ qs) ≡ laid_by (laid_parts ps).refused (laid_parts ps) (laid_parts qs)
laid_parts-append [] qs = refl
laid_parts-append (Stops xs id ∷ ps) qs = refl
laid_parts-append (Shown xs ∷ ps) qs =
    ap (λ (l : Laid). after_pieces xs l) (laid_parts-append ps qs) ∙ shown_by xs (laid_parts ps).refused (laid_parts ps) (laid_parts qs)

laid_effect : (o : Options) (r : Option ℕ) (l k : Laid) → of_laid o (laid_by r l k) ≡ then_by r (of_laid o l) (of_laid o k)
laid_effect o None l k =
    ap (λ (x : List Call). effect_of x (has_break (l.pieces ++ k.pieces)) k.refused) (all_calls-append o l.pieces k.pieces)
    ∙ ap (λ (b : Bool). effect_of (all_calls o l.pieces ++ all_calls o k.pieces) b k.refused) (has_break-append l.pieces k.pieces)
laid_effect o (Some id) l k = refl

pub both_parts : {P : Type 0} (m : Meaning P) (o : Options) {a s t : State P} (ps qs : List Part) →
    HasEffect m o a s (of_parts o ps) → HasEffect m o s t (of_parts o qs) → HasEffect m o a t (of_parts o (ps ++ qs))
both_parts m o {a} {s} {t} ps qs v w =
    let l : Laid = laid_parts ps in
    subst (λ (e : Effect). HasEffect m o a t e)
    (sym (ap (λ (x : Laid). of_laid o x) (laid_parts-append ps qs) ∙ laid_effect o l.refused l (laid_parts qs)))
    (effect_then m o v w)

pub shown : {P : Type 0} (m : Meaning P) (o : Options) {a t : State P} (xs : List Piece) →
    HasEffect m o a t (of_pieces o xs) → HasEffect m o a t (of_parts o (Shown xs ∷ []))
shown m o {a} {t} xs v = subst (λ (ys : List Piece). HasEffect m o a t (of_laid o (record { pieces = ys; refused = None }))) (sym (append-nil xs)) v

-- ---- groups

lines_by : {P : Type 0} (m : Meaning P) (folds : Bool) (a : State P) (x : Option Halt) (t : State P) (y : Option Halt) (e : Effect) →
    a.begun ≡ false → t.halt ≡ y → HasEffectFrom m folds a x t e → y ≡ None → t.begun ≡ e.lines
lines_by m folds a (Some z) t None e f q v n = let h : t.halt ≡ Some z = v.1 in cc
lines_by m folds a x t (Some y) e f q v n = cc
lines_by m folds a None t None e f q v n =
    let h : EffectEnds m folds a t.printer None t.begun e = subst (λ (z : Option Halt). EffectEnds m folds a t.printer z t.begun e) q v in
    h.1 ∙ ap (λ b. b || e.lines) f

closing_by : {P : Type 0} (m : Meaning P) (o : Options) {s t u : State P} (y : Option Halt) (forced : Bool) (place : Option ℕ) (n : ℕ) (e : Effect) →
    s.begun ≡ false → t.halt ≡ y → HasEffect m o s t e → HasEffect m o t u (of_pieces o (close place n (forced || t.begun))) →
    HasEffect m o t u (of_pieces o (close place n (forced || e.lines)))
closing_by m o {s} {t} {u} None forced place n e f q v w =
    subst (λ (b : Bool). HasEffect m o t u (of_pieces o (close place n (forced || b)))) (lines_by m o.folds s s.halt t None e f q v.made refl) w
closing_by m o {s} {t} {u} (Some y) forced place n e f q v w =
    effect_any m o y (of_pieces o (close place n (forced || t.begun))) (of_pieces o (close place n (forced || e.lines))) q w

reflag_by : {P : Type 0} (m : Meaning P) (folds : Bool) (p : P) (x : Option Halt) (q : P) (y : Option Halt) (b c : Bool) (e : Effect) →
    HasEffectFrom m folds (record { printer = p; halt = x; begun = false }) x (record { printer = q; halt = y; begun = c }) e →
    HasEffectFrom m folds (record { printer = p; halt = x; begun = b }) x (record { printer = q; halt = y; begun = b || c }) e
reflag_by m folds p None q None b c e v = (v.0, ap (λ z. b || z) v.1, v.2)
reflag_by m folds p None q (Some (Printer z)) b c e v = v
reflag_by m folds p None q (Some Memory) b c e v = v
reflag_by m folds p None q (Some (Refused id)) b c e v = v
reflag_by m folds p (Some z) q y b c e v = v

reflag : {P : Type 0} (m : Meaning P) (o : Options) {a s u v : State P} (outer_begun : Bool) (e : Effect) → Opened a s outer_begun → LeftGroup u v outer_begun →
    HasEffect m o s u e → HasEffect m o a v e
reflag m o {a} {s} {u} {v} outer_begun e h l w =
    let from : State _ = record { printer = a.printer; halt = a.halt; begun = false } in
    let s_is : s ≡ from =
    ap₂ (λ (p : _) (x : Option Halt). record { printer = p; halt = x; begun = s.begun }) h.printer h.halt
    ∙ ap (λ (b : Bool). record { printer = a.printer; halt = a.halt; begun = b }) h.begun in
    let to : State _ = record { printer = u.printer; halt = u.halt; begun = a.begun || u.begun } in
    let v_is : v ≡ to =
    ap₂ (λ (p : _) (x : Option Halt). record { printer = p; halt = x; begun = v.begun }) l.printer l.halt
    ∙ ap (λ (b : Bool). record { printer = u.printer; halt = u.halt; begun = b }) (l.begun ∙ ap (λ b. b || u.begun) h.outer_is) in
    let moved : HasEffect m o from u e = subst (λ (z : State _). HasEffect m o z u e) s_is w in
    subst (λ (z : State _). HasEffect m o a z e) (sym v_is)
    (record { made = reflag_by m o.folds a.printer a.halt u.printer u.halt a.begun u.begun e moved.made })

-- The contents of a group, and its closing parenthesis. The parenthesis is on a line of its own if a line begins in
-- the group, or if this is forced.
pub closed : {P : Type 0} (m : Meaning P) (o : Options) {a s t u v : State P} (forced outer_begun : Bool) (place : Option ℕ) (n : ℕ) (xs : List Piece) →
    Opened a s outer_begun → HasEffect m o s t (of_pieces o xs) → HasEffect m o t u (of_pieces o (close place n (forced || t.begun))) → LeftGroup u v outer_begun →
    HasEffect m o a v (of_pieces o (xs ++ close place n (forced || has_break xs)))
closed m o {a} {s} {t} {u} {v} forced outer_begun place n xs h w z l =
    reflag m o outer_begun (of_pieces o (xs ++ close place n (forced || has_break xs))) h l
    (both_pieces m o xs (close place n (forced || has_break xs)) w (closing_by m o t.halt forced place n (of_pieces o xs) h.begun refl w z))

-- The parts in a group, and its closing parenthesis.
pub closed_parts : {P : Type 0} (m : Meaning P) (o : Options) {a s t u v : State P} (forced outer_begun : Bool) (place : Option ℕ) (n : ℕ) (ps : List Part) →
    Opened a s outer_begun → HasEffect m o s t (of_parts o ps) → HasEffect m o t u (of_pieces o (close place n (forced || t.begun))) → LeftGroup u v outer_begun →
    HasEffect m o a v (of_parts o (ps ++ (Shown (close place n (forced || has_break (laid_parts ps).pieces)) ∷ [])))
closed_parts m o {a} {s} {t} {u} {v} forced outer_begun place n ps h w z l =
    let last : List Piece = close place n (forced || has_break (laid_parts ps).pieces) in
    reflag m o outer_begun (of_parts o (ps ++ (Shown last ∷ []))) h l
    (both_parts m o ps (Shown last ∷ []) w (shown m o last (closing_by m o t.halt forced place n (of_parts o ps) h.begun refl w z)))

-- ---- one call

done_by : {P : Type 0} (m : Meaning P) (folds : Bool) (p q : P) (x : Option Halt) (b : Bool) (c : Call) → is_some x ≡ false →
    Succeeded m p c q → HasEffectFrom m folds (state p x b) x (state q x b) (of_calls (c ∷ []))
done_by m folds p q None true c n v = (record { calls = c ∷ []; run = (q, v, refl); alike = refl }, refl, refl)
done_by m folds p q None false c n v = (record { calls = c ∷ []; run = (q, v, refl); alike = refl }, refl, refl)
done_by m folds p q (Some y) b c n v = cc

-- A call that succeeded.
pub call_done : {P : Type 0} (m : Meaning P) (o : Options) {p q : P} (x : Option Halt) (b : Bool) (c : Call) → is_some x ≡ false →
    Succeeded m p c q → HasEffect m o (state p x b) (state q x b) (of_calls (c ∷ []))
call_done m o {p} {q} x b c n v = record { made = done_by m o.folds p q x b c n v }

failed_by : {P : Type 0} (m : Meaning P) (folds : Bool) (p q : P) (x : Option Halt) (b : Bool) (c : Call) (e : IoError) →
    is_some x ≡ false → Failed m p c e q → HasEffectFrom m folds (state p x b) x (state q (Some (Printer e)) b) (of_calls (c ∷ []))
failed_by m folds p q None b c e n v =
    record { calls = []; call = c; rest = []; before = p; run = refl; failed = v; alike = append-nil (atoms (c ∷ [])) }
failed_by m folds p q (Some y) b c e n v = cc

-- A call that failed.
pub call_failed : {P : Type 0} (m : Meaning P) (o : Options) {p q : P} (x : Option Halt) (b : Bool) (c : Call) (e : IoError) →
    is_some x ≡ false → Failed m p c e q → HasEffect m o (state p x b) (state q (Some (Printer e)) b) (of_calls (c ∷ []))
call_failed m o {p} {q} x b c e n v = record { made = failed_by m o.folds p q x b c e n v }

-- ---- pieces, and then the refusal of a section

-- Pieces, and then pieces at which the layout ends.
pub stopped : {P : Type 0} (m : Meaning P) (o : Options) {a s t : State P} (xs ys : List Piece) (id : ℕ) →
    HasEffect m o a s (of_pieces o xs) → HasEffect m o s t (of_parts o (Stops ys id ∷ [])) → HasEffect m o a t (of_parts o (Stops (xs ++ ys) id ∷ []))
stopped m o {a} {s} {t} xs ys id v w =
    subst (λ (l : List Call). HasEffect m o a t (effect_of l (has_break (xs ++ ys)) (Some id))) (sym (all_calls-append o xs ys))
    (subst (λ (b : Bool). HasEffect m o a t (effect_of (all_calls o xs ++ all_calls o ys) b (Some id))) (sym (has_break-append xs ys))
    (effect_both m o refl v w))

-- ---- after an error

skipped_by : {P : Type 0} (m : Meaning P) (folds : Bool) (p : P) (x : Option Halt) (b : Bool) (e : Effect) → is_some x ≡ true →
    HasEffectFrom m folds (state p x b) x (state p x b) e
skipped_by m folds p None b e q = cc
skipped_by m folds p (Some y) b e q = (refl, refl)

-- After an error nothing is printed of any layout.
pub skipped : {P : Type 0} (m : Meaning P) (o : Options) (a : State P) (e : Effect) → is_some a.halt ≡ true → HasEffect m o a a e
skipped m o a e q = record { made = skipped_by m o.folds a.printer a.halt a.begun e q }

-- ---- from the start to the end

-- The end of code that started without an error.
pub effect_end : {P : Type 0} (m : Meaning P) (o : Options) {a t : State P} {e : Effect} → a.halt ≡ None → HasEffect m o a t e →
    EffectEnds m o.folds a t.printer t.halt t.begun e
effect_end m o {a} {t} {e} q v = subst (λ (x : Option Halt). HasEffectFrom m o.folds a x t e) q v.made

-- The end of code that started without an error, between known states of the printer.
pub effect_between : {P : Type 0} (m : Meaning P) (o : Options) {p q : P} (old new : P) {y x : Option Halt} (z : Option Halt) {b c : Bool} {e : Effect} →
    p ≡ old → y ≡ None → new ≡ q → x ≡ z → HasEffect m o (state p y b) (state q x c) e → EffectEnds m o.folds (state old None b) new z c e
effect_between m o {p} {q} old new {y} {x} z {b} {c} {e} h f g i v =
    subst (λ (r : _). EffectEnds m o.folds (state r None b) new z c e) h
    (subst (λ (r : _). EffectEnds m o.folds (state p None b) r z c e) (sym g)
    (subst (λ (r : Option Halt). EffectEnds m o.folds (state p None b) q r c e) i (effect_end m o f v)))
