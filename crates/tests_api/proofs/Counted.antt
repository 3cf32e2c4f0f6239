-- The number of failed calls that a printer counts while a module is printed to it.
use Rattle.std.proofs.Common.{◌≡◌, inl, inr, ℕ, Bool, false, List, [], ◌∷◌, sym, ap, ◌∙◌}
use Rattle.std.specs.Prelude.{Result, Ok, Err, OnOk, IfErr}
use Rattle.wasmprinter_spec.specs.Grammar.{some_is}
use Rattle.wasmprinter_spec.specs.Call.{Call}
use Rattle.wasmprinter_spec.specs.Meaning.{Run}
use Rattle.wasmprinter_spec.specs.Options.{Options}
use Rattle.wasmprinter_bytes.specs.declared.library_error.Error.{Error}
use Rattle.wasmprinter_bytes.specs.declared.library_error.Error.TheVariants.{Malformed, Component, TooManyLocals, TooManyFunctions, EmptyTableInit, FoldLegacy, FoldHint, DylinkSubsection, Unreadable, Printer, Memory}
use Rattle.wasmprinter_samples.specs.Counting.{one_fault_more, counting}
use Rattle.wasmprinter_print.specs.Change.{change}
use Rattle.wasmprinter.specs.Printed.{Printed}
use Rattle.wasmprinter.specs.Outcome.{Leaves}
use Rattle.tests_api.specs.Faults.{faults_after}

-- Calls that succeed leave the count unchanged.
run_keeps : (old new : ℕ) (calls : List Call) → Run counting old calls new → new ≡ old
run_keeps old new [] r = sym r
run_keeps old new (c ∷ calls) r = run_keeps r.0 new calls r.2 ∙ some_is r.0 old r.1.kept

-- After a refusal, the count is the one that the error implies.
refusal_counts : (o : Options) (colors : Bool) (bytes : List ℕ) (old new : ℕ) (e : Error) → Leaves (change counting old new) colors o bytes e → new ≡ faults_after e old
refusal_counts o colors bytes old new (Printer x) h =
    some_is new (one_fault_more h.left.before) h.left.failed.counted ∙ ap one_fault_more (run_keeps old h.left.before h.left.calls h.left.run)
refusal_counts o colors bytes old new (DylinkSubsection id) h = run_keeps old new h.left.made.calls h.left.made.run
refusal_counts o colors bytes old new Unreadable h = absurd h
refusal_counts o colors bytes old new Memory (inl h) = h
refusal_counts o colors bytes old new Memory (inr h) = run_keeps old new h.1.left.calls h.1.left.run
refusal_counts o colors bytes old new (Malformed place) h = h
refusal_counts o colors bytes old new Component h = h
refusal_counts o colors bytes old new (TooManyLocals place) h = h
refusal_counts o colors bytes old new (TooManyFunctions count) h = h
refusal_counts o colors bytes old new (EmptyTableInit place) h = h
refusal_counts o colors bytes old new (FoldLegacy place) h = h
refusal_counts o colors bytes old new (FoldHint place) h = h

-- The same facts for a result: after `Ok` the count is unchanged, after `Err` it is the one that the error
-- implies.
pub printed_counts : (o : Options) (bytes : List ℕ) (old new : ℕ) (r : Result (Unit {0}) Error) → OnOk r (Printed (change counting old new) false o bytes) → OnOk r (new ≡ old)
printed_counts o bytes old new (Ok x) v = run_keeps old new v.calls v.run
printed_counts o bytes old new (Err e) v = tt

pub refused_counts : (o : Options) (bytes : List ℕ) (old new : ℕ) (r : Result (Unit {0}) Error) → IfErr r (Leaves (change counting old new) false o bytes) → IfErr r (λ e. new ≡ faults_after e old)
refused_counts o bytes old new (Ok x) h = tt
refused_counts o bytes old new (Err e) h = refusal_counts o false bytes old new e h
