-- The command line: the arguments that the words are, and the request that the arguments make.
use Rattle.std.specs.Prelude.{◌≡◌, ◌≢◌, ℕ, ◌^◌, ◌<◌, ◌⊎◌, List, [], ◌∷◌, ◌++◌, map, Bool, true, false, not, ◌||◌, ◌&&◌, bytes_eq, nat_eq, codes, Option, Some, None, if◌then◌else◌, unwrap_or}
use Rattle.std.specs.List.{starts_with, list_any, filter_map, last_or, repeat}
use Rattle.std.specs.Str.Parse.{IsNumeral, digits_value, without_leading_plus}
use Rattle.wasmprinter_spec.specs.Options.{Options, defaults}
use Rattle.wasm2text.specs.FunctionText.{Function, Index, Identifier}
use Rattle.wasm2text.specs.Parts.{Part, Excerpt, OneFunction, Hidden}
use Rattle.wasm2text.specs.declared.misuse.ArgumentError.{ArgumentError}
use Rattle.wasm2text.specs.declared.misuse.ArgumentError.TheVariants.{UnknownOption, MissingValue, InvalidValue, Memory}
use Rattle.wasm2text.specs.declared.options.Flag.{Flag}
use Rattle.wasm2text.specs.declared.options.Flag.TheVariants.{Help, Version, PrintOffsets, Skeleton, NameUnnamed, FoldInstructions, Hidden as ShowHidden}
use Rattle.wasm2text.specs.declared.options.Setting.{Setting}
use Rattle.wasm2text.specs.declared.options.Setting.TheVariants.{Output, Indent, Color, At as SetAt, CodeOffset as SetCodeOffset, Func as SetFunc}
use Rattle.wasm2text.specs.declared.options.ColorChoice.{ColorChoice}
use Rattle.wasm2text.specs.declared.options.ColorChoice.TheVariants.{Auto, Always, Never}
use Rattle.wasm2text.specs.declared.target.Target.TheVariants.{Byte, CodeByte}

-- The name is one of two names.
abbrev pub is_either : List ℕ → List ℕ → List ℕ → Bool
is_either name short long = bytes_eq name short || bytes_eq name long

-- The option without a value that has this name.
abbrev pub flag_named : List ℕ → Option Flag
flag_named name =
    if is_either name (codes "-h") (codes "--help") then Some Help
    else if is_either name (codes "-V") (codes "--version") then Some Version
    else if is_either name (codes "-p") (codes "--print-offsets") then Some PrintOffsets
    else if bytes_eq name (codes "--skeleton") then Some Skeleton
    else if bytes_eq name (codes "--name-unnamed") then Some NameUnnamed
    else if is_either name (codes "-f") (codes "--fold-instructions") then Some FoldInstructions
    else if bytes_eq name (codes "--hidden") then Some ShowHidden
    else None

-- The option with a value that has this name.
abbrev pub setting_named : List ℕ → Option Setting
setting_named name =
    if is_either name (codes "-o") (codes "--output") then Some Output
    else if bytes_eq name (codes "--indent") then Some Indent
    else if bytes_eq name (codes "--color") then Some Color
    else if bytes_eq name (codes "--at") then Some SetAt
    else if bytes_eq name (codes "--code-offset") then Some SetCodeOffset
    else if bytes_eq name (codes "--func") then Some SetFunc
    else None

-- The choice of colors that has this name.
abbrev pub color_named : List ℕ → Option ColorChoice
color_named name =
    if bytes_eq name (codes "auto") then Some Auto
    else if bytes_eq name (codes "always") then Some Always
    else if bytes_eq name (codes "never") then Some Never
    else None

-- A word that is no file, unless it is after `--` or the value of an option: it starts with `-`, and is not `-` itself.
abbrev pub is_dashed : List ℕ → Bool
is_dashed word = starts_with nat_eq word (codes "-") && not (bytes_eq word (codes "-"))

-- An argument: an option without a value, an option with its value, or a file.
pub data Argument : Type 0 where
  Flagged : Flag → Argument
  WrittenTo : List ℕ → Argument
  IndentedBy : ℕ → Argument
  Colored : ColorChoice → Argument
  Shows : Part → Argument
  File : List ℕ → Argument

-- The word is a decimal number below 2 to the 32, which may start with `+`.
abbrev pub IsNumber : List ℕ → ℕ → Type 0
IsNumber word n =
    let digits : List ℕ = without_leading_plus word in
    IsNumeral 10 digits × (digits_value 10 digits < 2 ^ 32) × (n ≡ digits_value 10 digits)

-- These are digits with this base, and write this number, which is below 2 to the 64.
abbrev pub IsOffsetIn : ℕ → List ℕ → ℕ → Type 0
IsOffsetIn base digits n = IsNumeral base digits × (digits_value base digits < 2 ^ 64) × (n ≡ digits_value base digits)

-- The word is a decimal number, or `0x` and then a hexadecimal number.
abbrev pub IsOffset : List ℕ → ℕ → Type 0
IsOffset word n = IsOffsetIn 10 word n ⊎ ((digits : List ℕ) × (word ≡ codes "0x" ++ digits) × IsOffsetIn 16 digits n)

-- The word names this function: by a dollar sign and the rest of its identifier, or by its index, which is written as an
-- offset is.
abbrev pub IsFunctionWord : List ℕ → Function → Type 0
IsFunctionWord word function =
    ((content : List ℕ) × (word ≡ codes "$" ++ content) × (function ≡ Identifier content))
    ⊎ ((n : ℕ) × IsOffset word n × (function ≡ Index n))

-- The option with this value is this argument.
abbrev pub IsSetTo : Setting → List ℕ → Argument → Type 0
IsSetTo Output value argument = argument ≡ WrittenTo value
IsSetTo Indent value argument = (n : ℕ) × IsNumber value n × (argument ≡ IndentedBy n)
IsSetTo Color value argument = (choice : ColorChoice) × (color_named value ≡ Some choice) × (argument ≡ Colored choice)
IsSetTo SetAt value argument = (n : ℕ) × IsOffset value n × (argument ≡ Shows (Excerpt (Byte n)))
IsSetTo SetCodeOffset value argument = (n : ℕ) × IsOffset value n × (argument ≡ Shows (Excerpt (CodeByte n)))
IsSetTo SetFunc value argument = (function : Function) × IsFunctionWord value function × (argument ≡ Shows (OneFunction function))

-- A word with this prefix is the option and its value.
abbrev pub joined_start : Setting → List ℕ
joined_start Output = codes "--output="
joined_start Indent = codes "--indent="
joined_start Color = codes "--color="
joined_start SetAt = codes "--at="
joined_start SetCodeOffset = codes "--code-offset="
joined_start SetFunc = codes "--func="

-- These words are the option and its value: a name of it and the value, or one word.
abbrev pub IsSetting : Setting → List ℕ → List (List ℕ) → Type 0
IsSetting setting value words =
    ((name : List ℕ) × (setting_named name ≡ Some setting) × (words ≡ name ∷ value ∷ []))
    ⊎ (words ≡ (joined_start setting ++ value) ∷ [])

-- The word starts with `-`, but is no name of an option, not `--`, and no option with its value.
pub record IsUnknown (word : List ℕ) : Type 0 where
  pub dashed : is_dashed word ≡ true
  pub no_end : word ≢ codes "--"
  pub no_flag : flag_named word ≡ None
  pub no_setting : setting_named word ≡ None
  pub no_joined : (setting : Setting) (value : List ℕ) → word ≢ joined_start setting ++ value

-- These words are this argument.
abbrev pub IsArgument : Argument → List (List ℕ) → Type 0
IsArgument argument words =
    ((flag : Flag) × (name : List ℕ) × (flag_named name ≡ Some flag) × (words ≡ name ∷ []) × (argument ≡ Flagged flag))
    ⊎ (((setting : Setting) × (value : List ℕ) × IsSetting setting value words × IsSetTo setting value argument)
    ⊎ ((file : List ℕ) × (is_dashed file ≡ false) × (words ≡ file ∷ []) × (argument ≡ File file)))

-- The words are these arguments, one after the other.
abbrev pub AreArguments : List Argument → List (List ℕ) → Type 0
AreArguments [] words = words ≡ []
AreArguments (argument ∷ arguments) words =
    (first rest : List (List ℕ)) × (words ≡ first ++ rest) × IsArgument argument first × AreArguments arguments rest

-- The words are these arguments. Each word after the first `--` that is no value of an option is a file.
abbrev pub IsCommandLine : List Argument → List (List ℕ) → Type 0
IsCommandLine arguments words =
    AreArguments arguments words
    ⊎ ((options : List Argument) × (before after : List (List ℕ))
    × (words ≡ before ++ codes "--" ∷ after) × AreArguments options before × (arguments ≡ options ++ map File after))

-- The words start with arguments, and then come words that are no argument for this reason: a word that starts with
-- `-` is unknown; the value of an option is missing; or an option can't have this value. `Memory` may be the error for
-- any words.
abbrev pub IsArgumentError : List (List ℕ) → ArgumentError → Type 0
IsArgumentError words Memory = Unit {0}
IsArgumentError words (UnknownOption word) =
    (arguments : List Argument) × (before after : List (List ℕ)) × (words ≡ before ++ word.now ∷ after)
    × AreArguments arguments before × IsUnknown word.now
IsArgumentError words (MissingValue name) =
    (arguments : List Argument) × (before : List (List ℕ)) × (setting : Setting) × (words ≡ before ++ name.now ∷ [])
    × AreArguments arguments before × (setting_named name.now ≡ Some setting)
IsArgumentError words (InvalidValue setting value) =
    (arguments : List Argument) × (before part after : List (List ℕ)) × (words ≡ before ++ (part ++ after))
    × AreArguments arguments before × IsSetting setting value.now part
    × ((argument : Argument) → IsSetTo setting value.now argument → ⊥)

-- The choice among the arguments, if one of them makes it.
abbrev pub output_in : Argument → Option (List ℕ)
output_in (WrittenTo file) = Some file
output_in argument = None

abbrev pub indent_in : Argument → Option ℕ
indent_in (IndentedBy n) = Some n
indent_in argument = None

abbrev pub color_in : Argument → Option ColorChoice
color_in (Colored choice) = Some choice
color_in argument = None

abbrev pub part_in : Argument → Option Part
part_in (Shows part) = Some part
part_in (Flagged ShowHidden) = Some Hidden
part_in argument = None

abbrev pub file_in : Argument → Option (List ℕ)
file_in (File file) = Some file
file_in argument = None

-- The argument is this option.
abbrev pub is_flag : Flag → Argument → Bool
is_flag Help (Flagged Help) = true
is_flag Version (Flagged Version) = true
is_flag PrintOffsets (Flagged PrintOffsets) = true
is_flag Skeleton (Flagged Skeleton) = true
is_flag NameUnnamed (Flagged NameUnnamed) = true
is_flag FoldInstructions (Flagged FoldInstructions) = true
is_flag ShowHidden (Flagged ShowHidden) = true
is_flag flag argument = false

-- The arguments contain this option.
abbrev pub has : Flag → List Argument → Bool
has flag arguments = list_any (is_flag flag) arguments

-- The last value among the arguments.
abbrev pub last_of : {A : Type 0} → (Argument → Option A) → List Argument → Option A
last_of value_in arguments = last_or None (filter_map value_in arguments)

-- The text of one level of nesting: this number of spaces, or two if no number is chosen.
abbrev pub indent_text : Option ℕ → List ℕ
indent_text (Some n) = repeat n (codes " ")
indent_text None = codes "  "

-- What the program is to do.
pub record Request : Type 0 where
  pub help : Bool
  pub version : Bool
  pub options : Options
  pub color : ColorChoice
  pub output : Option (List ℕ)
  pub part : Option Part
  pub files : List (List ℕ)

-- The request that the arguments make, in any order. An option may be repeated; its last value counts.
abbrev pub request_of : List Argument → Request
request_of arguments = record {
  help = has Help arguments;
  version = has Version arguments;
  options = record defaults {
    offsets = has PrintOffsets arguments;
    skeleton = has Skeleton arguments;
    synthesizes = has NameUnnamed arguments;
    folds = has FoldInstructions arguments;
    indent = indent_text (last_of indent_in arguments);
  };
  color = unwrap_or (last_of color_in arguments) Auto;
  output = last_of output_in arguments;
  part = last_of part_in arguments;
  files = filter_map file_in arguments;
}

-- The files of a command line: standard input if it names none.
abbrev pub files_or_input : List (List ℕ) → List (List ℕ)
files_or_input [] = codes "-" ∷ []
files_or_input files = files

-- The request with standard input as its file if it names none.
abbrev pub with_input : Request → Request
with_input request = record request { files = files_or_input request.files }
