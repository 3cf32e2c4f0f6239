-- The calls that generic code makes for a layout: all of them, or a prefix up to a failed call or a failed
-- allocation. The order of what is passed is: meaning, state before, state after, result, calls. `MakesCall`, `AsksPrinter`,
-- `Succeeded`, `Failed` and `Run` take their calls between the states.
use Rattle.std.specs.Prelude.{◌≡◌, Bool, true, false, List, [], ◌∷◌, ◌++◌, Result, Ok, Err}
use Rattle.std.specs.declared.io.Error.{Error as IoError}
use Rattle.wasmprinter_spec.specs.Call.{Call, atoms}
use Rattle.wasmprinter_spec.specs.Meaning.{Meaning, Run, Succeeded, Failed}
use Rattle.wasmprinter_bytes.specs.declared.library_error.Error.{Error}
use Rattle.wasmprinter_bytes.specs.declared.library_error.Error.TheVariants.{Printer}

-- `MakesCall m old call new result`: the call was made in the state `old` and left `new`. It succeeded if `result` is `Ok`,
-- with any value, and otherwise failed with this error.
abbrev pub MakesCall : {P T : Type 0} → Meaning P → P → Call → P → Result T IoError → Type 0
MakesCall m old call new (Ok x) = Succeeded m old call new
MakesCall m old call new (Err e) = Failed m old call e new

-- `AsksPrinter m old question new result`: the call `question answer` was made and succeeded if `result` is `Ok answer`.
-- Otherwise the call failed with this error, whatever the answer would have been.
abbrev pub AsksPrinter : {P T : Type 0} → Meaning P → P → (T → Call) → P → Result T IoError → Type 0
AsksPrinter m old question new (Ok answer) = Succeeded m old (question answer) new
AsksPrinter {P} {T} m old question new (Err e) = (answer : T) → Failed m old (question answer) e new

-- All calls of the layout were made and succeeded, up to how text is split into calls.
pub record Whole {P : Type 0} (m : Meaning P) (old new : P) (layout : List Call) : Type 0 where
  pub calls : List Call
  pub run : Run m old calls new
  pub alike : atoms calls ≡ atoms layout

-- One call failed with this error, and all calls before it succeeded. These calls and the failed one are a prefix
-- of the layout, up to how text is split into calls.
pub record Broken {P : Type 0} (m : Meaning P) (old new : P) (error : IoError) (layout : List Call) : Type 0 where
  pub calls : List Call
  pub call : Call
  pub rest : List Call
  pub before : P
  pub run : Run m old calls before
  pub failed : Failed m before call error new
  pub alike : atoms (calls ++ call ∷ []) ++ rest ≡ atoms layout

-- All calls that were made succeeded. They are a prefix of the layout, up to how text is split into calls.
pub record Interrupted {P : Type 0} (m : Meaning P) (old new : P) (layout : List Call) : Type 0 where
  pub calls : List Call
  pub rest : List Call
  pub run : Run m old calls new
  pub alike : atoms calls ++ rest ≡ atoms layout

-- How a function over a printer ends: it completed; a call on the printer failed with this error; it stopped
-- between two calls because an allocation failed; or it returned an error of its own, which never happens.
pub data Ending : Type 0 where
  Through : Ending
  AtCall : IoError → Ending
  Stopped : Ending
  Never : Ending

-- The ending of a function that returns only errors of the printer.
abbrev pub ending : {T : Type 0} → Result T IoError → Ending
ending (Ok x) = Through
ending (Err e) = AtCall e

-- The ending when an allocation failed. Only a function that allocates while it prints can end in this way.
abbrev pub when_out_of_memory : Bool → Ending
when_out_of_memory true = Stopped
when_out_of_memory false = Never

-- The ending of a function that returns an `Error`: it returns only errors of the printer.
abbrev pub ending_of : Error → Ending
ending_of (Printer e) = AtCall e
ending_of _ = Never

-- The ending of a function with this result.
abbrev pub outcome : {T : Type 0} → Result T Error → Ending
outcome (Ok x) = Through
outcome (Err e) = ending_of e

-- The calls that a function with this ending has made.
abbrev pub Calls : {P : Type 0} → Meaning P → P → P → Ending → List Call → Type 0
Calls m old new Through layout = Whole m old new layout
Calls m old new (AtCall e) layout = Broken m old new e layout
Calls m old new Stopped layout = Interrupted m old new layout
Calls m old new Never layout = ⊥

-- `Calls` as a record, so that contracts and lemmas can refer to it by name. A function that returns a result has the
-- ending `ending result` or `outcome result`. After `Ok`, it has made all calls of the layout, up to how text is split into
-- calls. After an error, a call failed with this error, and the calls up to and including this one are a prefix.
pub record MadeCalls {P : Type 0} (m : Meaning P) (old new : P) (end : Ending) (layout : List Call) : Type 0 where
  pub made : Calls m old new end layout

-- The calls that were made so far, followed by those of `rest`, are the calls of `whole`.
pub record StillToMake {P : Type 0} (m : Meaning P) (old new : P) (whole rest : List Call) : Type 0 where
  pub layout : List Call
  pub made : MadeCalls m old new Through layout
  pub alike : atoms layout ++ atoms rest ≡ atoms whole
