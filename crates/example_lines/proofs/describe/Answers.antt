use Rattle.example_lines.proofs.describe.Goals as goal

pub returns-in-None : goal.returns-in-None
returns-in-None c = rw (c.in-None.is, ← c.trim-text.ensures.trim) c.format-in-None.ensures.ok
