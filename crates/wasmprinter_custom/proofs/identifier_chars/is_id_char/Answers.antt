use Rattle.std.proofs.Common.{◌≡◌, ℕ, Bool, true, eqb, get_or, refl}
use Rattle.std.proofs.lemmas.Bool.{agree_below, agree_below_at}
use Rattle.wasmprinter_spec.specs.Character.{class}
use Rattle.wasmprinter_spec.specs.Quoted.{is_id_char}
use Rattle.wasmprinter_custom.specs.declared.identifier_chars.TheConstants.{IDENTIFIER_BYTES}
use Rattle.wasmprinter_custom.proofs.identifier_chars.is_id_char.Goals as goal

in_table : ℕ → Bool
in_table b = eqb (get_or IDENTIFIER_BYTES b 0) b

is_id_byte : ℕ → Bool
is_id_byte b = is_id_char (class b)

-- For every byte the table agrees with the byte's class.
table : agree_below in_table is_id_byte 256 ≡ true
unfolding in_table is_id_byte class
table = refl

pub returns : goal.returns
unfolding in_table is_id_byte
returns c = rw c.from.ensures (agree_below_at in_table is_id_byte 256 c.args.byte table c.ranges.byte.fits)
