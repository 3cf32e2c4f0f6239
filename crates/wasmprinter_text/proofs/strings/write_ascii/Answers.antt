use Rattle.std.proofs.lemmas.Str.{IsUtf8-from_ascii}
use Rattle.wasmprinter_text.proofs.strings.write_ascii.Goals as goal

pub unreachable-requires : goal.unreachable-requires
unreachable-requires g c = c.in_default.ensures.cases.0 (IsUtf8-from_ascii _ c.requires)
