-- The word is a file, an option, or an option with its value.
use Rattle.std.proofs.Common.{◌∷◌, [], sym, ◌∙◌, rules}
use Rattle.wasm2text.specs.Arguments.{Flagged, File}
use Rattle.wasm2text.proofs.CommandLines.{reads_argument, is_file, is_option, reads_joined}
use Rattle.wasm2text.proofs.parser.Parser.read_argument.Goals as goal

pub returns-then-not-is_dashed : goal.returns-then-not-is_dashed
returns-then-not-is_dashed c next words h =
    let word = c.args.word.now in
    reads_argument c.args.self.now (record c.args.self.now { request = c.add_file.new.self }) (File word) (word ∷ []) words next next
    c.in_ok-add_file.ensures (is_file word (sym c.is_dashed.ensures ∙ c.if-not-is_dashed.true)) h

pub returns-in-Some : goal.returns-in-Some
returns-in-Some c next words h =
    let word = c.args.word.now in
    reads_argument c.args.self.now (record c.args.self.now { request = c.add_flag.new.self }) (Flagged c.in-Some.flag) (word ∷ []) words next next
    c.add_flag.ensures (is_option word c.in-Some.flag (sym c.in-Some.ensures)) h

pub returns-in-Some-joined : goal.returns-in-Some-joined
returns-in-Some-joined c next words h =
    reads_joined c.args.self.now c.set.new.self c.in-Some-joined.setting c.args.word.now c.in-Some-joined.value words c.set.result next h
    (search rules) c.set.ensures
