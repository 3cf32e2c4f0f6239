use Rattle.std.specs.Fmt.{digit_glyph}
use Rattle.std.proofs.Common.{◌≡◌, ℕ, true, false, get_or, refl}
use Rattle.wasmprinter_text.specs.declared.integers.TheConstants.{GLYPHS}
use Rattle.wasmprinter_text.proofs.Tables.{agrees_at, always, equal_below, equal_at}
use Rattle.wasmprinter_text.proofs.integers.hex_digit.Goals as goal

glyph : ℕ → ℕ
glyph d = get_or GLYPHS d 0

table : equal_below glyph (digit_glyph false) 16 ≡ true
unfolding glyph equal_below agrees_at always
table = refl

pub returns : goal.returns
unfolding glyph
returns c = rw c.from.ensures (equal_at glyph (digit_glyph false) 16 c.args.digit table c.requires)
