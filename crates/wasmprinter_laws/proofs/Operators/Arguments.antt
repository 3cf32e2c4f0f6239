-- Arguments: the items that may occur between the word of an operator and the next operator
use Rattle.std.proofs.Common.{◌≡◌, List, [], Some}
use Rattle.wasmprinter_spec.specs.Forest.{Forest, End, Word, Name, Group, onto}
use Rattle.wasmprinter_spec.specs.Table.{rows_of}
use Rattle.wasmprinter_spec.specs.Code.{Instruction, code_of, PartHead, head, code}

-- Words that no operator has, identifiers, and groups that are parts of an operator
abbrev pub AreArguments : Forest → Type 0
AreArguments End = Unit {0}
AreArguments (Word w f) = (rows_of w ≡ []) × AreArguments f
AreArguments (Name s f) = AreArguments f
AreArguments (Group (Word w g) f) = (head w ≡ PartHead) × AreArguments f
AreArguments _ = ⊥

-- Arguments before code are read as the items before its first instruction.
pub arguments_front : (a : Forest) → AreArguments a → (f : Forest) (is : List Instruction) → code f ≡ Some (code_of End is) →
    code (onto a f) ≡ Some (code_of a is)
arguments_front End h f is e = e
arguments_front (Word w a) h f is e = rw (h.0, arguments_front a h.1 f is e)
arguments_front (Name s a) h f is e = rw (arguments_front a h f is e)
arguments_front (Group (Word w g) a) h f is e = rw (h.0, arguments_front a h.1 f is e)
arguments_front _ h f is e = absurd h

pub arguments_onto : (a b : Forest) → AreArguments a → AreArguments b → AreArguments (onto a b)
arguments_onto End b h k = k
arguments_onto (Word w a) b h k = (h.0, arguments_onto a b h.1 k)
arguments_onto (Name s a) b h k = arguments_onto a b h k
arguments_onto (Group (Word w g) a) b h k = (h.0, arguments_onto a b h.1 k)
arguments_onto _ b h k = absurd h
