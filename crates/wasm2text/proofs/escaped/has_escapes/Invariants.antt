use Rattle.std.proofs.Common.{◌≡◌, chars, IsUtf8}
use Rattle.std.specs.List.{list_any}
use Rattle.std.specs.Str.Iter.{chars_rest}
use Rattle.wasm2text.specs.Messages.{is_escaped}
use Rattle.wasm2text.proofs.escaped.has_escapes.Given as goal

abbrev pub invariant-loop-c : goal.invariant-loop-c
invariant-loop-c l =
    IsUtf8 (chars_rest l.c-iterator)
    × (list_any is_escaped (chars l.fn.text) ≡ list_any is_escaped (chars (chars_rest l.c-iterator)))
