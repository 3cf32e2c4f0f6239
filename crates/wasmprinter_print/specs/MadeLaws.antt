-- Consequences of `MadeCalls` and `StillToMake` for any printer: how the parts of a layout combine.
use Rattle.std.specs.Prelude.{◌≡◌, ℕ, List, [], ◌∷◌, ◌++◌, Result, Ok, Err, IsErrAnd}
use Rattle.std.proofs.Common.{refl, sym, ap, ap₂, ◌∙◌, subst, append_assoc, append-nil}
use Rattle.std.proofs.lemmas.List.{map-append}
use Rattle.std.specs.declared.io.Error.{Error as IoError}
use Rattle.wasmprinter_spec.specs.Call.{Call, Text, calls_of_bytes, atoms}
use Rattle.wasmprinter_spec.specs.Meaning.{Meaning, Run, Succeeded, Failed}
use Rattle.wasmprinter_print.specs.MadeCalls.{MakesCall, MadeCalls, StillToMake, Calls, Ending, Through, AtCall, Stopped, Never, Whole, Broken, Interrupted, ending}

-- The atoms of two concatenated lists of calls are the atoms of the first followed by those of the second.
pub atoms-append : (k l : List Call) → atoms (k ++ l) ≡ atoms k ++ atoms l
atoms-append [] l = refl
atoms-append (c ∷ k) l =
    ap (λ x. calls_of_bytes c ++ x) (atoms-append k l) ∙ sym (append_assoc (calls_of_bytes c) (atoms k) (atoms l))

-- A run followed by a run is a run of the concatenated calls.
pub Run-append : {P : Type 0} (m : Meaning P) (a s t : P) (k l : List Call) →
    Run m a k s → Run m s l t → Run m a (k ++ l) t
Run-append m a s t [] l e r = subst (λ x. Run m x l t) (sym e) r
Run-append m a s t (c ∷ k) l q r = (q.0, q.1, Run-append m q.0 s t k l q.2 r)

-- If all of `l` and then a prefix of `k` were made, then a prefix of `l ++ k` was made, with the same calls left.
glue : (w v l k rest : List Call) → atoms w ≡ atoms l → atoms v ++ rest ≡ atoms k →
    atoms (w ++ v) ++ rest ≡ atoms (l ++ k)
glue w v l k rest p q =
    ap (λ x. x ++ rest) (atoms-append w v) ∙ append_assoc (atoms w) (atoms v) rest ∙ ap₂ (λ x y. x ++ y) p q ∙ sym (atoms-append l k)

-- A prefix of `l` is a prefix of `l ++ k`.
longer : (w l k rest : List Call) → atoms w ++ rest ≡ atoms l → atoms w ++ (rest ++ atoms k) ≡ atoms (l ++ k)
longer w l k rest p =
    sym (append_assoc (atoms w) rest (atoms k)) ∙ ap (λ x. x ++ atoms k) p ∙ sym (atoms-append l k)

-- If all of `l` was made, and then `k` with some ending, then `l ++ k` was made with that ending.
pub then_calls : {P : Type 0} (m : Meaning P) (a s t : P) (r : Ending) (l k : List Call) →
    Whole m a s l → Calls m s t r k → Calls m a t r (l ++ k)
then_calls m a s t Through l k w v = record {
  calls = w.calls ++ v.calls;
  run = Run-append m a s t w.calls v.calls w.run v.run;
  alike = atoms-append w.calls v.calls ∙ ap₂ (λ x y. x ++ y) w.alike v.alike ∙ sym (atoms-append l k);
}
then_calls m a s t (AtCall e) l k w v = record {
  calls = w.calls ++ v.calls;
  call = v.call;
  rest = v.rest;
  before = v.before;
  run = Run-append m a s v.before w.calls v.calls w.run v.run;
  failed = v.failed;
  alike =
      ap (λ x. atoms x ++ v.rest) (append_assoc w.calls v.calls (v.call ∷ []))
      ∙ glue w.calls (v.calls ++ v.call ∷ []) l k v.rest w.alike v.alike;
}
then_calls m a s t Stopped l k w v = record {
  calls = w.calls ++ v.calls;
  rest = v.rest;
  run = Run-append m a s t w.calls v.calls w.run v.run;
  alike = glue w.calls v.calls l k v.rest w.alike v.alike;
}
then_calls m a s t Never l k w v = v

-- `then_calls`, of `MadeCalls`.
pub then : {P : Type 0} (m : Meaning P) {a s t : P} {r : Ending} {l k : List Call} →
    MadeCalls m a s Through l → MadeCalls m s t r k → MadeCalls m a t r (l ++ k)
then m {a} {s} {t} {r} {l} {k} x y = record { made = then_calls m a s t r l k x.made y.made }

-- Calls that stopped within `l` stopped within `l ++ k`.
pub broken_longer : {P : Type 0} (m : Meaning P) (a t : P) (e : IoError) (l k : List Call) → Broken m a t e l → Broken m a t e (l ++ k)
broken_longer m a t e l k v = record {
  calls = v.calls;
  call = v.call;
  rest = v.rest ++ atoms k;
  before = v.before;
  run = v.run;
  failed = v.failed;
  alike = longer (v.calls ++ v.call ∷ []) l k v.rest v.alike;
}

pub interrupted_longer : {P : Type 0} (m : Meaning P) (a t : P) (l k : List Call) → Interrupted m a t l → Interrupted m a t (l ++ k)
interrupted_longer m a t l k v = record {
  calls = v.calls;
  rest = v.rest ++ atoms k;
  run = v.run;
  alike = longer v.calls l k v.rest v.alike;
}

-- If a call of `l` failed and the function returned its error, then the function has made a prefix of `l ++ k`.
pub ends : {P U : Type 0} (m : Meaning P) {a t : P} (r : Result U IoError) {e : IoError} {l : List Call} (k : List Call) →
    IsErrAnd r (λ y. y ≡ e) → MadeCalls m a t (AtCall e) l → MadeCalls m a t (ending r) (l ++ k)
ends m (Ok x) k f v = absurd f
ends m {a} {t} (Err y) {e} {l} k f v =
    record { made = broken_longer m a t y l k (subst (λ z. Broken m a t z l) (sym f) v.made) }

-- A call that succeeded is a layout of one call.
pub called : {P : Type 0} (m : Meaning P) {a t : P} {c : Call} → Succeeded m a c t → MadeCalls m a t Through (c ∷ [])
called m {a} {t} {c} s =
    record { made = record { calls = c ∷ []; run = (t, s, refl); alike = refl } }

-- A call that failed is a failed layout of one call.
pub call_fails : {P U : Type 0} (m : Meaning P) {a t : P} (r : Result U IoError) (e : IoError) {c : Call} →
    IsErrAnd r (λ y. y ≡ e) → Failed m a c e t → MadeCalls m a t (ending r) (c ∷ [])
call_fails m (Ok x) e f v = absurd f
call_fails m {a} {t} (Err y) e {c} f v = record {
  made = record {
    calls = [];
    call = c;
    rest = [];
    before = a;
    run = refl;
    failed = subst (λ z. Failed m a c z t) (sym f) v;
    alike = append-nil (atoms (c ∷ []));
  };
}

-- A call with its result is a layout of one call.
pub does : {P : Type 0} (m : Meaning P) {a t : P} (r : Result (Unit {0}) IoError) (c : Call) → MakesCall m a c t r → MadeCalls m a t (ending r) (c ∷ [])
does m (Ok x) c v = called m v
does m (Err e) c v = call_fails {U = Unit {0}} m (Err e) e refl v

-- Layouts that differ only in how text is split into calls: who has made one has made the other.
pub alike_calls : {P : Type 0} (m : Meaning P) (a t : P) (r : Ending) (l k : List Call) → atoms l ≡ atoms k → Calls m a t r l → Calls m a t r k
alike_calls m a t Through l k e v = record { calls = v.calls; run = v.run; alike = v.alike ∙ e }
alike_calls m a t (AtCall x) l k e v = record {
  calls = v.calls;
  call = v.call;
  rest = v.rest;
  before = v.before;
  run = v.run;
  failed = v.failed;
  alike = v.alike ∙ e;
}
alike_calls m a t Stopped l k e v = record { calls = v.calls; rest = v.rest; run = v.run; alike = v.alike ∙ e }
alike_calls m a t Never l k e v = v

-- `alike_calls`, of `MadeCalls`.
pub alike : {P : Type 0} (m : Meaning P) {a t : P} {r : Ending} {l : List Call} (k : List Call) →
    atoms l ≡ atoms k → MadeCalls m a t r l → MadeCalls m a t r k
alike m {a} {t} {r} {l} k e v = record { made = alike_calls m a t r l k e v.made }

-- If no call of `whole` is left, then all of it was made.
pub rest_none : {P : Type 0} (m : Meaning P) {a t : P} (whole : List Call) → StillToMake m a t whole [] → MadeCalls m a t Through whole
rest_none m whole o = alike m whole (sym (append-nil (atoms o.layout)) ∙ o.alike) o.made

-- If the next calls that are left were made, then only the calls after them are left.
pub makes_next : {P : Type 0} (m : Meaning P) {a s t : P} {whole l k : List Call} →
    StillToMake m a s whole (l ++ k) → MadeCalls m s t Through l → StillToMake m a t whole k
makes_next m {l = l} {k} o v = record {
  layout = o.layout ++ l;
  made = then m o.made v;
  alike =
      ap (λ x. x ++ atoms k) (atoms-append o.layout l) ∙ append_assoc (atoms o.layout) (atoms l) (atoms k)
      ∙ ap (λ x. atoms o.layout ++ x) (sym (atoms-append l k)) ∙ o.alike;
}

-- The text in the calls that are left may be split in another way.
pub rest_alike : {P : Type 0} (m : Meaning P) {a s : P} {whole l : List Call} (k : List Call) →
    atoms l ≡ atoms k → StillToMake m a s whole l → StillToMake m a s whole k
rest_alike m k e o = record { layout = o.layout; made = o.made; alike = ap (λ x. atoms o.layout ++ x) (sym e) ∙ o.alike }

-- If the calls that are left were made with some ending, then `whole` was made with that ending.
pub makes_rest : {P : Type 0} (m : Meaning P) {a s t : P} {r : Ending} {whole k : List Call} →
    StillToMake m a s whole k → MadeCalls m s t r k → MadeCalls m a t r whole
makes_rest m {whole = whole} {k} o v = alike m whole (atoms-append o.layout k ∙ o.alike) (then m o.made v)

-- A text in two calls has the same atoms as the same text in one call.
pub atoms-text : (x y : List ℕ) (k : List Call) → atoms (Text x ∷ Text y ∷ k) ≡ atoms (Text (x ++ y) ∷ k)
atoms-text x y k =
    sym (append_assoc (calls_of_bytes (Text x)) (calls_of_bytes (Text y)) (atoms k))
    ∙ ap (λ b. b ++ atoms k) (sym (map-append (λ b. Text (b ∷ [])) x y))
