-- The code section of all sections is that of the sections that are left.
use Rattle.std.proofs.Common.{ℕ, ◌↔◌, length}
use Rattle.wasm2text.specs.CodeSection.{HasCodeAt}
use Rattle.wasm2text.proofs.code_section.code_start.Given as goal

abbrev pub invariant-loop-section : goal.invariant-loop-section
invariant-loop-section l = (place : ℕ) → HasCodeAt l.initial.cursor place ↔ HasCodeAt l.cursor place

abbrev pub decreases-loop-section : goal.decreases-loop-section
decreases-loop-section l = length l.cursor.bytes
