-- The parser has read the words so far.
use Rattle.std.proofs.Common.{◌≡◌, ℕ, List, ◌++◌, map, drop, string_bytes}
use Rattle.wasm2text.specs.Parsing.{HasRead}
use Rattle.wasm2text.proofs.parser.parse.Given as goal

abbrev pub invariant-loop-word : goal.invariant-loop-word
invariant-loop-word l =
    (before : List (List ℕ)) × HasRead l.parser before × (map string_bytes l.fn.words ≡ before ++ map string_bytes (drop l.word-index l.fn.words))
