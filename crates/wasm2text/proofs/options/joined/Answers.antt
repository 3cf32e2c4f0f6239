-- The word starts with the name of no option.
use Rattle.wasm2text.specs.declared.options.Setting.TheVariants.{Output, Indent, Color, At, CodeOffset, Func}
use Rattle.wasm2text.proofs.options.joined.Goals as goal

pub returns : goal.returns
returns c Output value e = c.in_default.ensures.cases value e
returns c Indent value e = c.in_default-strip_prefix.ensures.cases value e
returns c Color value e = c.in_default-strip_prefix-2.ensures.cases value e
returns c At value e = c.in_default-strip_prefix-3.ensures.cases value e
returns c CodeOffset value e = c.in_default-strip_prefix-4.ensures.cases value e
returns c Func value e = c.in_default-strip_prefix-5.ensures.cases value e
