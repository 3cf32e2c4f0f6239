-- The state between two words of the command line, and the request that the words so far make.
use Rattle.std.specs.Prelude.{◌≡◌, ℕ, List, [], ◌∷◌, ◌++◌, map, codes, Some, Result, MatchResult, option_copied, option_map}
use Rattle.wasmprinter_spec.specs.Options.{Options, defaults}
use Rattle.wasm2text.specs.Arguments.{Argument, File, AreArguments, setting_named, IsArgumentError, indent_text, Request, request_of}
use Rattle.wasm2text.specs.Parts.{part_view}
use Rattle.wasm2text.specs.declared.misuse.ArgumentError.{ArgumentError}
use Rattle.wasm2text.specs.declared.parser.Next.{Next}
use Rattle.wasm2text.specs.declared.parser.Next.TheVariants.{Argument as AnyArgument, Value, File as OnlyFile}
use Rattle.wasm2text.specs.declared.parser.Parser.{Parser}
use Rattle.wasm2text.specs.declared.request.Request.{Request as ReadRequest}

-- The options of printing that were read.
abbrev pub options_read : ReadRequest → Options
options_read r = record defaults {
  offsets = r.print_offsets;
  skeleton = r.skeleton;
  synthesizes = r.name_unnamed;
  folds = r.fold_instructions;
  indent = indent_text r.indent;
}

-- The request that was read.
abbrev pub request_read : ReadRequest → Request
request_read r = record {
  help = r.help;
  version = r.version;
  options = options_read r;
  color = r.color;
  output = option_copied r.output;
  part = option_map part_view r.part;
  files = map (λ file. file.now) r.files.items;
}

-- The argument was added: if `old` is the request of some arguments, then `new` is that of these and this argument.
abbrev pub Adds : ReadRequest → Argument → ReadRequest → Type 0
Adds old argument new =
    (arguments : List Argument) → request_read old ≡ request_of arguments → request_read new ≡ request_of (arguments ++ argument ∷ [])

-- The words are these arguments, up to the word that comes next: any argument, the value of an option, or a file.
abbrev pub IsBefore : Next → List Argument → List (List ℕ) → Type 0
IsBefore AnyArgument arguments words = AreArguments arguments words
IsBefore (Value setting name) arguments words =
    (before : List (List ℕ)) × (words ≡ before ++ name.now ∷ []) × (setting_named name.now ≡ Some setting) × AreArguments arguments before
IsBefore OnlyFile arguments words =
    (options : List Argument) × (before after : List (List ℕ))
    × (words ≡ before ++ codes "--" ∷ after) × AreArguments options before × (arguments ≡ options ++ map File after)

-- The parser has read these words.
abbrev pub HasRead : Parser → List (List ℕ) → Type 0
HasRead parser words = (arguments : List Argument) × (request_read parser.request ≡ request_of arguments) × IsBefore parser.next arguments words

-- The parser has read one more word, or the words with this one have this error, whatever comes after them.
abbrev pub Reads : Parser → List ℕ → Result (Unit {0}) ArgumentError → Parser → Type 0
Reads old word answer new =
    (words : List (List ℕ)) → HasRead old words →
    MatchResult answer (λ x. HasRead new (words ++ word ∷ [])) (λ error. (after : List (List ℕ)) → IsArgumentError (words ++ word ∷ after) error)

-- The option was set to this value, if it may have it.
abbrev pub Sets : Parser → Argument → Parser → Type 0
Sets old argument new = Adds old.request argument new.request × (new.next ≡ old.next)
