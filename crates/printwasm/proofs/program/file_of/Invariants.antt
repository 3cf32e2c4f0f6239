-- All words name the file that the remaining words name, together with the file found so far.
use Rattle.std.proofs.Common.{◌≡◌, map, drop, option_copied, string_bytes}
use Rattle.printwasm.specs.Words.{named_file}
use Rattle.printwasm.proofs.Files.{named_after}
use Rattle.printwasm.proofs.program.file_of.Given as goal

abbrev pub invariant-loop-word : goal.invariant-loop-word
invariant-loop-word l = named_file (map string_bytes l.fn.words) ≡ named_after (option_copied l.file) (map string_bytes (drop l.word-index l.fn.words))
