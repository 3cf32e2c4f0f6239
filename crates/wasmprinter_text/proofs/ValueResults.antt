-- The result of writing a single value to a printer.
use Rattle.std.specs.Prelude.{◌≡◌, List, Bool, Option, Some, None}
use Rattle.wasmprinter_spec.specs.Call.{Call}
use Rattle.wasmprinter_spec.specs.Meaning.{Meaning}
use Rattle.wasmprinter_spec.specs.Options.{defaults}
use Rattle.wasmprinter_print.specs.MadeCalls.{MadeCalls, outcome}
use Rattle.wasmprinter_print.specs.Effects.{HasEffect, EffectEnds, state, of_calls}
use Rattle.wasmprinter_print.specs.EffectLaws.{effect_between}
use Rattle.wasmprinter_print.specs.Errors.{result_of}
use Rattle.wasmprinter_print.specs.declared.halt.Halt.{Halt}
use Rattle.wasmprinter_print.specs.declared.halt.Halt.TheVariants as halt

by_halt : {P : Type 0} (m : Meaning P) (old new : P) (b c : Bool) (l : List Call) (z : Option Halt) →
    EffectEnds m defaults.folds (state old None b) new z c (of_calls l) → MadeCalls m old new (outcome (result_of z)) l
by_halt m old new b c l None v = record { made = v.0 }
by_halt m old new b c l (Some (halt.Printer e)) v = record { made = v }
by_halt m old new b c l (Some halt.Memory) v = absurd cc
by_halt m old new b c l (Some (halt.Refused id)) v = absurd cc

-- Calls that were made from a start without an error, under the default options.
pub value_result : {P : Type 0} (m : Meaning P) {p q : P} (old new : P) {y x : Option Halt} (z : Option Halt) {b c : Bool} (l : List Call) →
    p ≡ old → y ≡ None → new ≡ q → x ≡ z → HasEffect m defaults (state p y b) (state q x c) (of_calls l) → MadeCalls m old new (outcome (result_of z)) l
value_result m old new z {b} {c} l h f g i v = by_halt m old new b c l z (effect_between m defaults old new z h f g i v)
