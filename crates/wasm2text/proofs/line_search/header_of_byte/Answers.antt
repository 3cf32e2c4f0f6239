-- The first body to which the byte belongs is found.
use Rattle.std.proofs.Common.{◌≤◌, length, inl, below_more, arith}
use Rattle.std.proofs.lemmas.Option.{MatchOption-at_none}
use Rattle.wasmprinter.specs.Found.{text_lines}
use Rattle.wasm2text.proofs.Headers.{no_header}
use Rattle.wasm2text.proofs.line_search.header_of_byte.Goals as goal

pub returns-in-Some : goal.returns-in-Some
returns-in-Some c = inl (c.loop-number.number, c.in-Some.place, c.in-Some.ensures, c.first_line_at.ensures)

pub loop-number-preserved : goal.loop-number-preserved
loop-number-preserved c = below_more _ _ c.loop-number.invariant (MatchOption-at_none _ _ c.in_default.is c.place_of_body.ensures)

pub returns : goal.returns
returns c =
    let all : length c.args.module.now.functions ≤ c.loop-number.number = omega (arith, c.function_count-number-end.ensures) in
    no_header c.args.module.now (text_lines c.args.lines.now) c.args.offset c.loop-number.number all c.loop-number.invariant
