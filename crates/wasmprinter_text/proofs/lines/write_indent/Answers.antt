use Rattle.wasmprinter_text.proofs.lines.write_indent.Goals as goal

pub returns-then-not-write_levels : goal.returns-then-not-write_levels
returns-then-not-write_levels g c =
    g.met.O.Output.calls_then _ _ _ _ _ (rw c.if-not-write_levels.true at c.write_levels.ensures) c.write_each_level.ensures
