-- Worked rows of the flags: the options that they choose, and their unknown bits.
use Rattle.std.proofs.Common.{◌≡◌, [], refl}
use Rattle.std.specs.Prelude.{true, false, codes}
use Rattle.wasmprinter_spec.specs.Options.{defaults}
use Rattle.wasmprinter_c.specs.Printing.{options_of, request_of, unknown_bits}

no_option : options_of 0 defaults.indent ≡ defaults
no_option = refl

offsets : options_of 1 defaults.indent ≡ record defaults { offsets = true }
offsets = refl

skeleton : options_of 2 defaults.indent ≡ record defaults { skeleton = true }
skeleton = refl

name_unnamed : options_of 4 defaults.indent ≡ record defaults { synthesizes = true }
name_unnamed = refl

fold : options_of 8 defaults.indent ≡ record defaults { folds = true }
fold = refl

all_options : options_of 15 (codes "\t") ≡ record defaults { offsets = true; skeleton = true; synthesizes = true; folds = true; indent = codes "\t" }
all_options = refl

-- The bit 4 chooses no option of the text, but all events.
events : options_of 16 defaults.indent ≡ defaults
events = refl

all_events : (request_of 16 defaults.indent 0 []).all_events ≡ true
all_events = refl

lines_alone : (request_of 15 defaults.indent 0 []).all_events ≡ false
lines_alone = refl

-- The bits 0 to 4 are known, and the bits from 5 on are not.
known_bits : unknown_bits 31 ≡ 0
known_bits = refl

first_unknown_bit : unknown_bits 32 ≡ 32
first_unknown_bit = refl

-- 4294967285 is 0xfffffff5, and 4294967264 is 0xffffffe0.
known_and_unknown_bits : unknown_bits 4294967285 ≡ 4294967264
known_and_unknown_bits = refl
