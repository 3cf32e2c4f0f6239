-- Which part of a layout was printed by code that records the first error and makes no call after it.
use Rattle.std.specs.Prelude.{◌≡◌, ℕ, Bool, true, false, ◌||◌, List, ◌++◌, Option, Some, None}
use Rattle.wasmprinter_spec.specs.Call.{Call}
use Rattle.wasmprinter_spec.specs.Meaning.{Meaning}
use Rattle.wasmprinter_spec.specs.Options.{Options}
use Rattle.wasmprinter_spec.specs.Piece.{Piece, all_calls}
use Rattle.wasmprinter_spec.specs.Layout.Groups.{has_break}
use Rattle.wasmprinter_spec.specs.Layout.Customs.{Part, Laid, laid_parts}
use Rattle.wasmprinter_print.specs.MadeCalls.{Whole, Broken, Interrupted}
use Rattle.wasmprinter_print.specs.declared.halt.Halt.{Halt}
use Rattle.wasmprinter_print.specs.declared.halt.Halt.TheVariants.{Printer, Memory, Refused}

-- A printer, the first error, and whether a line has begun in the innermost open group.
pub record State (P : Type 0) : Type 0 where
  pub printer : P
  pub halt : Option Halt
  pub begun : Bool

-- The state with these fields.
abbrev pub state : {P : Type 0} → P → Option Halt → Bool → State P
state printer halt begun = record { printer = printer; halt = halt; begun = begun }

-- The effect of a layout: its calls, whether a line begins in it, and the refused subsection at which it ends, if any.
pub record Effect : Type 0 where
  pub layout : List Call
  pub lines : Bool
  pub refused : Option ℕ

-- Two effects, one after the other.
abbrev pub both : Effect → Effect → Effect
both e f = record {
  layout = e.layout ++ f.layout;
  lines = e.lines || f.lines;
  refused = f.refused;
}

-- The same if the layout may end at a refusal in the first: then nothing follows.
abbrev pub then_by : Option ℕ → Effect → Effect → Effect
then_by None e f = both e f
then_by (Some id) e f = e

-- The end of code with this effect that started without an error. No error: all calls were made. `Printer`: a call
-- failed with this error, and the calls up to it are a prefix of the layout. `Memory`, only if operators are folded:
-- the calls are a prefix of the layout. `Refused`: all calls were made, and the layout ends at this refusal.
abbrev pub EffectEnds : {P : Type 0} → Meaning P → Bool → State P → P → Option Halt → Bool → Effect → Type 0
EffectEnds m folds a new None begun e = Whole m a.printer new e.layout × (begun ≡ (a.begun || e.lines)) × (e.refused ≡ None)
EffectEnds m folds a new (Some (Printer x)) begun e = Broken m a.printer new x e.layout
EffectEnds m folds a new (Some Memory) begun e = Interrupted m a.printer new e.layout × (folds ≡ true)
EffectEnds m folds a new (Some (Refused id)) begun e = Whole m a.printer new e.layout × (e.refused ≡ Some id)

-- The same for any state at the start: after an error nothing is printed.
abbrev pub HasEffectFrom : {P : Type 0} → Meaning P → Bool → State P → Option Halt → State P → Effect → Type 0
HasEffectFrom m folds a None t e = EffectEnds m folds a t.printer t.halt t.begun e
HasEffectFrom m folds a (Some x) t e = (t.printer ≡ a.printer) × (t.halt ≡ Some x)

-- The code between these two states has this effect, up to the first error. (`HasEffectFrom` as a record, so that
-- lemmas can refer to it by name.)
pub record HasEffect {P : Type 0} (m : Meaning P) (o : Options) (a t : State P) (e : Effect) : Type 0 where
  pub made : HasEffectFrom m o.folds a a.halt t e

-- The effects of calls (`of_calls`), of pieces (`of_pieces`), of pieces up to a refusal (`of_laid`) and of parts
-- (`of_parts`).
abbrev pub of_calls : List Call → Effect
of_calls l = record { layout = l; lines = false; refused = None }

abbrev pub of_pieces : Options → List Piece → Effect
of_pieces o xs = record { layout = all_calls o xs; lines = has_break xs; refused = None }

abbrev pub of_laid : Options → Laid → Effect
of_laid o l = record { layout = all_calls o l.pieces; lines = has_break l.pieces; refused = l.refused }

abbrev pub of_parts : Options → List Part → Effect
of_parts o ps = of_laid o (laid_parts ps)

-- A group was opened: no line has begun in it. `outer_begun` says whether a line had begun in the group around it.
pub record Opened {P : Type 0} (a s : State P) (outer_begun : Bool) : Type 0 where
  pub printer : s.printer ≡ a.printer
  pub halt : s.halt ≡ a.halt
  pub begun : s.begun ≡ false
  pub outer_is : outer_begun ≡ a.begun

-- A group was left: a line that began in it has begun in the group around it.
pub record LeftGroup {P : Type 0} (u v : State P) (outer_begun : Bool) : Type 0 where
  pub printer : v.printer ≡ u.printer
  pub halt : v.halt ≡ u.halt
  pub begun : v.begun ≡ (outer_begun || u.begun)
