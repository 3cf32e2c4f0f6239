-- The meaning of calls on a color printer, as calls on its writer.
use Rattle.std.specs.Prelude.{◌≡◌, [], ◌∷◌, false, Option, None, Result, Ok, Err}
use Rattle.std.specs.declared.io.Error.{Error as IoError}
use Rattle.wasmprinter_spec.specs.Call.{Call, Text, Newline, Line, Start, Claim, IsTextOrStyle}
use Rattle.wasmprinter_spec.specs.Meaning.{Meaning}
use Rattle.wasmprinter_spec.specs.Looks.{Look, sequences_of}
use Rattle.wasmprinter_spec.specs.Colored.{look_of}
use Rattle.wasmprinter_writers.specs.Writing.{Writing, WritesNothing, WritesEach}

-- The results that a call for a look may have, and the states of the writer after it.
abbrev pub Coloring : Type 0 → Type 1
Coloring T = T → Option Look → Result (Unit {0}) IoError → T → Type 0

-- A look is written as its escape sequences to the writer that `inner_of` returns.
abbrev pub WritesSequences : {T U : Type 0} → (T → U) → Writing U → Coloring T
WritesSequences inner_of takes old look answer new = WritesEach takes (inner_of old) (sequences_of look) answer (inner_of new)

-- A look writes nothing.
abbrev pub KeepsColor : {T : Type 0} → Coloring T
KeepsColor old look answer new = WritesNothing old answer new

-- A text and a line feed are each written by one write. A style is one call for its look. The result of the call
-- is that of the write or of the call for the look. A line and a claim write nothing, and no custom section is
-- claimed.
abbrev pub WritesInColor : {T : Type 0} → Writing T → Coloring T → T → Call → Result (Unit {0}) IoError → T → Type 0
WritesInColor takes sets_color old (Text bytes) answer new = takes old bytes answer new
WritesInColor takes sets_color old Newline answer new = takes old (10 ∷ []) answer new
WritesInColor takes sets_color old (Line place) answer new = WritesNothing old answer new
WritesInColor takes sets_color old (Start style) answer new = sets_color old (look_of style) answer new
WritesInColor takes sets_color old (Claim name place bytes claimed) answer new = (claimed ≡ false) × WritesNothing old answer new

-- The meaning of a color printer over the writer that `writer_of` returns: only writes and calls for a look can
-- fail.
abbrev pub colored_meaning : {P T : Type 0} → (P → T) → Writing T → Coloring T → Meaning P
colored_meaning writer_of takes sets_color = record {
  after = λ old call new. WritesInColor takes sets_color (writer_of old) call (Ok tt) (writer_of new);
  may_fail = λ old call. IsTextOrStyle call;
  partly = λ old call error new. WritesInColor takes sets_color (writer_of old) call (Err error) (writer_of new);
  faults = λ old. None;
}
