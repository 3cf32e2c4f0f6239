use Rattle.std.proofs.Common.{ℕ, ◌<◌, ◌*◌, [], ap, sym, ◌∙◌, refl, append-nil, lit≤}
use Rattle.wasmprinter_spec.specs.Call.{text_of}
use Rattle.wasmprinter_spec.specs.Token.{Clear, lex}
use Rattle.wasmprinter_spec.specs.Float.{Width, IsWidth, single, double, sign_bit}
use Rattle.wasmprinter_spec.specs.FloatText.{float_calls}
use Rattle.wasmprinter_spec.specs.Laws.{FloatReads}
use Rattle.wasmprinter_laws.proofs.Tokens.Floats.{float_text-reads}
use Rattle.wasmprinter_laws.proofs.Tokens.FloatPieces.{float_lexes}
use Rattle.wasmprinter_laws.proofs.literals_read_back.float_text_reads.Goals as goal

reads : (w : Width) → IsWidth w → (bits : ℕ) → bits < 2 * sign_bit w → FloatReads w bits
unfolding lex
reads w is bits h = record {
  tokens = ap (lex Clear) (sym (append-nil (text_of (float_calls w bits)))) ∙ float_lexes w is bits [] h refl;
  reads = float_text-reads w is bits h;
}

pub returns : goal.returns
returns c = (
  λ bits h. reads single (record { exponent = (lit≤ tt, lit≤ tt); fraction = (lit≤ tt, lit≤ tt) }) bits h,
  λ bits h. reads double (record { exponent = (lit≤ tt, lit≤ tt); fraction = (lit≤ tt, lit≤ tt) }) bits h,
)
