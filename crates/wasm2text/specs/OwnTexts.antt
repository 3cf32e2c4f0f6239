-- The texts of `--help` and `--version`.
use Rattle.std.specs.Prelude.{ℕ, List, [], ◌∷◌, ◌++◌, flat_map, codes}

-- The lines of the help.
abbrev pub help_lines : List (List ℕ)
help_lines =
    codes "Usage: wasm2text [OPTIONS] [FILE...]"
    ∷ codes ""
    ∷ codes "Prints WebAssembly modules as text, one after the other."
    ∷ codes "FILE may be -, which is standard input, as is no FILE. Words after -- are files."
    ∷ codes ""
    ∷ codes "Options:"
    ∷ codes "  -p, --print-offsets      Start each line with its byte offset in the module"
    ∷ codes "      --skeleton           Leave out bodies, element items and data bytes"
    ∷ codes "      --name-unnamed       Synthesize identifiers for items without a name"
    ∷ codes "  -f, --fold-instructions  Print each instruction in parentheses"
    ∷ codes "      --indent N           Indent each level by N spaces (default: 2)"
    ∷ codes "      --color WHEN         Print in colors: auto, always or never (default: auto)"
    ∷ codes "      --at OFFSET          Print only the lines around the byte at OFFSET"
    ∷ codes "      --code-offset OFFSET"
    ∷ codes "                           As --at, with OFFSET counted from the code section"
    ∷ codes "      --func FUNCTION      Print only the text of one function"
    ∷ codes "      --hidden             Print only what no text shows, as padded numbers"
    ∷ codes "  -o, --output FILE        Write to FILE instead of standard output"
    ∷ codes "  -h, --help               Print this help"
    ∷ codes "  -V, --version            Print the version"
    ∷ codes ""
    ∷ codes "With --color auto, the text is in colors if standard output is a terminal,"
    ∷ codes "NO_COLOR is unset or empty, and there is no --output."
    ∷ codes ""
    ∷ codes "With --at, the line that shows the byte is marked by >. Up to three lines before"
    ∷ codes "and after it are printed, and the header of its function, with their numbers in"
    ∷ codes "the whole text, without colors. OFFSET is a decimal number, or a hexadecimal one"
    ∷ codes "after 0x. It counts from the start of each module or, with --code-offset, of the"
    ∷ codes "contents of its code section, as in DWARF."
    ∷ codes ""
    ∷ codes "With --func, the lines of one function are printed as they are in the whole"
    ∷ codes "text, without colors. FUNCTION is its index, as OFFSET is written, and imported"
    ∷ codes "functions are counted; or $ and the rest of its identifier, as '$find'."
    ∷ codes ""
    ∷ codes "With --hidden, a line is printed for each part of a module that no text shows,"
    ∷ codes "instead of the text: its byte offset, its name, and the number of its bytes that"
    ∷ codes "are not needed. Such parts are numbers and forms that are longer than needed,"
    ∷ codes "empty sections and lists, and names and branch hints that are not used."
    ∷ codes ""
    ∷ codes "Exit status:"
    ∷ codes "  0  no file failed; the reader of the text may have closed the pipe"
    ∷ codes "  1  a file, the output, an allocation or the arguments failed; if only files"
    ∷ codes "     failed, the others are printed; a part of a text may have been written"
    ∷ codes "  2  the command line is wrong; nothing was printed"
    ∷ []

-- The text of `--help`. Each line ends with a line feed.
abbrev pub help_text : List ℕ
help_text = flat_map (λ line. line ++ codes "\n") help_lines

-- The text of `--version`.
abbrev pub version_text : List ℕ
version_text = codes "wasm2text 0.263.0-r1\n"
