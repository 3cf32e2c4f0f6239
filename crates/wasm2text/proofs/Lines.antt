-- Each message is one line.
use Rattle.std.specs.Prelude.{◌≡◌, ℕ, ◌+◌, ◌/◌, ◌%◌, ◌<◌, ◌≤◌, zero, suc, List, [], ◌∷◌, ◌++◌, map, flat_map, chars, encode_utf8_all, Bool, true, false, cond, ◌==◌, nat_lt, nat_le, codes, decimal, if◌then◌else◌}
use Rattle.std.specs.Char.{is_control}
use Rattle.std.specs.Char.Escape.{short_escape, hex_digit_at, escape_unicode, escape_default}
use Rattle.std.specs.Fmt.{digit_glyph, digits_onto, digits}
use Rattle.std.specs.Int.{is_in_range}
use Rattle.std.specs.IoError.{error_kind}
use Rattle.std.specs.List.{list_all}
use Rattle.std.specs.Str.{NonePass, NoCharPasses}
use Rattle.std.specs.declared.io.ErrorKind.{ErrorKind}
use Rattle.std.specs.declared.io.ErrorKind.TheVariants.{NotFound, PermissionDenied, IsADirectory, NotADirectory, InvalidFilename, FilesystemLoop, ReadOnlyFilesystem, StorageFull, QuotaExceeded, FileTooLarge, BrokenPipe, OutOfMemory}
use Rattle.std.proofs.Common.{refl, sym, ap, ◌∙◌, append_assoc, arith}
use Rattle.std.proofs.lemmas.Bool.{and_parts, and_from, and_left, and_right, or_from, or_parts, leb-true, le-leb, lt-leb, ltb-true, ltb-false, cond_both}
use Rattle.std.proofs.lemmas.Nat.{mod_below}
use Rattle.std.proofs.lemmas.Str.{encode_ascii, NoCharPasses-nil, NoCharPasses-append}
use Rattle.wasmprinter_bytes.specs.declared.library_error.Error.{Error}
use Rattle.wasmprinter_bytes.specs.declared.library_error.Error.TheVariants.{Malformed, Component, TooManyLocals, TooManyFunctions, EmptyTableInit, FoldLegacy, FoldHint, DylinkSubsection, Unreadable, Printer, Memory as OutOfSpace}
use Rattle.wasmprinter_bytes.specs.Messages.{place_text, error_text}
use Rattle.wasm2text.specs.declared.cause.Cause.{Cause}
use Rattle.wasm2text.specs.declared.cause.Cause.TheVariants.{System, Module, NoByte, NoCode, NoFunction, Output}
use Rattle.wasm2text.specs.declared.options.Setting.{Setting}
use Rattle.wasm2text.specs.declared.options.Setting.TheVariants.{Output as SetOutput, Indent, Color, At, CodeOffset, Func}
use Rattle.wasm2text.specs.declared.misuse.ArgumentError.{ArgumentError}
use Rattle.wasm2text.specs.declared.misuse.ArgumentError.TheVariants.{UnknownOption, MissingValue, InvalidValue, Memory}
use Rattle.wasm2text.specs.Messages.{kind_name, cause_text, is_escaped, message_char, in_message, long_name, misuse_text, Failure, failure_line, misuse_line, IsLine}

-- The character is printable ASCII.
abbrev is_printable : ℕ → Bool
is_printable c = is_in_range 32 126 c

-- Each character of the text is printable ASCII.
abbrev IsPrintable : List ℕ → Type 0
IsPrintable cs = list_all is_printable cs ≡ true

printable_between : (c : ℕ) → 32 ≤ c → c ≤ 126 → is_printable c ≡ true
printable_between c low high = and_from (nat_le 32 c) (nat_le c 126) (le-leb 32 c low) (le-leb c 126 high)

between : (c : ℕ) → is_printable c ≡ true → (32 ≤ c) × (c ≤ 126)
between c h = let parts = and_parts (nat_le 32 c) (nat_le c 126) h in (leb-true 32 c parts.0, leb-true c 126 parts.1)

no_control : (c : ℕ) → is_printable c ≡ true → is_control c ≡ false
no_control c h =
    let range = between c h in
    or_from (is_in_range 0 31 c) (is_in_range 127 159 c) (and_right (nat_le 0 c) (nat_le c 31) (lt-leb c 31 (omega (arith, range.0))))
    (and_left (nat_le 127 c) (nat_le c 159) (lt-leb 127 c (omega (arith, range.1))))

first_then : (c : ℕ) (cs : List ℕ) → is_printable c ≡ true → IsPrintable cs → IsPrintable (c ∷ cs)
first_then c cs h t = and_from (is_printable c) (list_all is_printable cs) h t

both_printable : (xs ys : List ℕ) → IsPrintable xs → IsPrintable ys → IsPrintable (xs ++ ys)
both_printable [] ys h t = t
both_printable (x ∷ xs) ys h t =
    let parts = and_parts (is_printable x) (list_all is_printable xs) h in first_then x (xs ++ ys) parts.0 (both_printable xs ys parts.1 t)

none_pass : (cs : List ℕ) → IsPrintable cs → NonePass is_control cs
none_pass [] h = tt
none_pass (c ∷ cs) h =
    let parts = and_parts (is_printable c) (list_all is_printable cs) h in (no_control c parts.0, none_pass cs parts.1)

encoded : (cs : List ℕ) → IsPrintable cs → encode_utf8_all cs ≡ cs
encoded [] h = refl
encoded (c ∷ cs) h =
    let parts = and_parts (is_printable c) (list_all is_printable cs) h in
    let range = between c parts.0 in
    ap (λ (t : List ℕ). t ++ encode_utf8_all cs) (encode_ascii c (omega (arith, range.1))) ∙ ap (λ (t : List ℕ). c ∷ t) (encoded cs parts.1)

-- A printable text has no control characters.
plain : (text : List ℕ) → IsPrintable text → NoCharPasses is_control text
plain text h = (text, encoded text h, none_pass text h)

-- Escapes are printable.
short : (a b d e f g : Bool) → nat_lt 0 (cond a 116 (cond b 114 (cond d 110 (cond e 39 (cond f 34 (cond g 92 0)))))) ≡ true →
    IsPrintable (92 ∷ cond a 116 (cond b 114 (cond d 110 (cond e 39 (cond f 34 (cond g 92 0))))) ∷ [])
short true b d e f g h = refl
short false true d e f g h = refl
short false false true e f g h = refl
short false false false true f g h = refl
short false false false false true g h = refl
short false false false false false true h = refl
short false false false false false false h = absurd (let both : false ≡ true = h in cc)

digit_between : (b : Bool) (d : ℕ) → d < 16 → is_printable (cond b (48 + d) (87 + d)) ≡ true
digit_between true d h = printable_between (48 + d) (omega arith) (omega arith)
digit_between false d h = printable_between (87 + d) (omega arith) (omega arith)

hex_digit : (p c : ℕ) → is_printable (hex_digit_at p c) ≡ true
hex_digit p c = digit_between (nat_lt (c / p % 16) 10) (c / p % 16) (mod_below (c / p) 16 (omega arith))

hex_digits : (places : List ℕ) (c : ℕ) → IsPrintable (map (λ p. hex_digit_at p c) places ++ 125 ∷ [])
hex_digits [] c = refl
hex_digits (p ∷ places) c = first_then (hex_digit_at p c) (map (λ q. hex_digit_at q c) places ++ 125 ∷ []) (hex_digit p c) (hex_digits places c)

unicode : (c : ℕ) → IsPrintable (escape_unicode c)
unicode c =
    cond_both (nat_lt c 0x10) _ _ IsPrintable (λ _. hex_digits (1 ∷ []) c)
    (λ _. cond_both (nat_lt c 0x100) _ _ IsPrintable (λ _. hex_digits (0x10 ∷ 1 ∷ []) c)
    (λ _. cond_both (nat_lt c 0x1000) _ _ IsPrintable (λ _. hex_digits (0x100 ∷ 0x10 ∷ 1 ∷ []) c)
    (λ _. cond_both (nat_lt c 0x1_0000) _ _ IsPrintable (λ _. hex_digits (0x1000 ∷ 0x100 ∷ 0x10 ∷ 1 ∷ []) c)
    (λ _. cond_both (nat_lt c 0x10_0000) _ _ IsPrintable (λ _. hex_digits (0x1_0000 ∷ 0x1000 ∷ 0x100 ∷ 0x10 ∷ 1 ∷ []) c)
    (λ _. hex_digits (0x10_0000 ∷ 0x1_0000 ∷ 0x1000 ∷ 0x100 ∷ 0x10 ∷ 1 ∷ []) c)))))

escape : (c : ℕ) → IsPrintable (escape_default c)
escape c =
    cond_both (nat_lt 0 (short_escape c)) _ _ IsPrintable (short (c == 9) (c == 13) (c == 10) (c == 39) (c == 34) (c == 92))
    (λ _. cond_both (nat_lt c 32) _ _ IsPrintable (λ _. unicode c)
    (λ above. cond_both (nat_lt c 127) _ _ IsPrintable
    (λ below. first_then c [] (printable_between c (ltb-false c 32 above) (omega (arith, ltb-true c 127 below))) refl) (λ _. unicode c)))

-- No character of a name or a word in a message is a control character.
shown : (b : Bool) (c : ℕ) → (b ≡ false → is_control c ≡ false) → NonePass is_control (if b then escape_default c else c ∷ [])
shown true c h = none_pass (escape_default c) (escape c)
shown false c h = (h refl, tt)

none_both : (xs ys : List ℕ) → NonePass is_control xs → NonePass is_control ys → NonePass is_control (xs ++ ys)
none_both [] ys h t = t
none_both (x ∷ xs) ys h t = (h.0, none_both xs ys h.1 t)

all_shown : (cs : List ℕ) → NonePass is_control (flat_map message_char cs)
all_shown [] = tt
all_shown (c ∷ cs) =
    none_both (message_char c) (flat_map message_char cs) (shown (is_escaped c) c (λ e. (or_parts (is_control c) (c == 92) e).0)) (all_shown cs)

name : (text : List ℕ) → NoCharPasses is_control (in_message text)
name text = (flat_map message_char (chars text), refl, all_shown (chars text))

-- Numbers are printable.
digits_printable : (k base n : ℕ) (acc : List ℕ) → 0 < base → base ≤ 16 → IsPrintable acc → IsPrintable (digits_onto k base false n acc)
digits_printable zero base n acc low high h = h
digits_printable (suc k) base n acc low high h =
    let d = mod_below n base low in
    let next : IsPrintable (digit_glyph false (n % base) ∷ acc)
    = first_then (digit_glyph false (n % base)) acc (digit_between (nat_lt (n % base) 10) (n % base) (omega (arith, d))) h in
    cond_both (n / base == 0) _ _ IsPrintable (λ _. next) (λ _. digits_printable k base (n / base) (digit_glyph false (n % base) ∷ acc) low high next)

number : (base n : ℕ) → 0 < base → base ≤ 16 → IsPrintable (digits base false n)
unfolding digits
number base n low high = digits_printable 64 base n [] low high refl

place : (n : ℕ) → IsPrintable (place_text n)
place n = both_printable (codes "0x") (digits 16 false n) refl (number 16 n (omega arith) (omega arith))

count : (n : ℕ) → IsPrintable (decimal n)
count n = number 10 n (omega arith) (omega arith)

-- The causes are printable.
error : (e : Error) → IsPrintable (error_text e)
error (Malformed n) = both_printable (codes "malformed module at byte ") (place_text n) refl (place n)
error Component = refl
error (TooManyLocals n) =
    both_printable (codes "function at byte ") (place_text n ++ codes " has more than 50000 locals") refl (both_printable (place_text n) _ (place n) refl)
error (TooManyFunctions n) =
    both_printable (codes "module has ") (decimal n ++ codes " functions, more than 1000000") refl (both_printable (decimal n) _ (count n) refl)
error (EmptyTableInit n) =
    both_printable (codes "table at byte ") (place_text n ++ codes " has an empty initialiser") refl (both_printable (place_text n) _ (place n) refl)
error (FoldLegacy n) =
    both_printable (codes "legacy exception operator at byte ") (place_text n ++ codes " can't be folded") refl (both_printable (place_text n) _ (place n) refl)
error (FoldHint n) =
    both_printable (codes "branch hint at byte ") (place_text n ++ codes " can't be folded") refl (both_printable (place_text n) _ (place n) refl)
error (DylinkSubsection id) = both_printable (codes "unknown dylink.0 subsection ") (decimal id) refl (count id)
error Unreadable = refl
error (Printer e) = refl
error OutOfSpace = refl

kind : (k : ErrorKind) → IsPrintable (kind_name k)
kind NotFound = refl
kind PermissionDenied = refl
kind IsADirectory = refl
kind NotADirectory = refl
kind InvalidFilename = refl
kind FilesystemLoop = refl
kind ReadOnlyFilesystem = refl
kind StorageFull = refl
kind QuotaExceeded = refl
kind FileTooLarge = refl
kind BrokenPipe = refl
kind OutOfMemory = refl
kind k = refl

cause : (c : Cause) → IsPrintable (cause_text c)
cause (System e) = kind (error_kind e)
cause (Module e) = error e
cause (NoByte offset len) =
    let hex : (n : ℕ) → IsPrintable (digits 16 false n) = λ n. number 16 n (omega arith) (omega arith) in
    both_printable (codes "byte 0x") (digits 16 false offset ++ (codes " is not in the module, which has 0x" ++ (digits 16 false len ++ codes " bytes"))) refl
    (both_printable (digits 16 false offset) (codes " is not in the module, which has 0x" ++ (digits 16 false len ++ codes " bytes")) (hex offset)
    (both_printable (codes " is not in the module, which has 0x") (digits 16 false len ++ codes " bytes") refl
    (both_printable (digits 16 false len) (codes " bytes") (hex len) refl)))
cause NoCode = refl
cause NoFunction = refl
cause (Output e) = both_printable (codes "can't write the text: ") (kind_name (error_kind e)) refl (kind (error_kind e))

-- The errors of the command line have no control characters.
both : (xs ys : List ℕ) → NoCharPasses is_control xs → NoCharPasses is_control ys → NoCharPasses is_control (xs ++ ys)
both xs ys h t = NoCharPasses-append is_control xs ys h t

around : (start text end : List ℕ) → IsPrintable start → IsPrintable end → NoCharPasses is_control (start ++ in_message text ++ end)
around start text end h t = both (start ++ in_message text) end (both start (in_message text) (plain start h) (name text)) (plain end t)

before_value : (s : Setting) → IsPrintable (codes "option '" ++ long_name s ++ codes "' can't have the value '")
before_value SetOutput = refl
before_value Indent = refl
before_value Color = refl
before_value At = refl
before_value CodeOffset = refl
before_value Func = refl

misuse : (e : ArgumentError) → NoCharPasses is_control (misuse_text e)
misuse (UnknownOption word) = around (codes "unknown option '") word.now (codes "'") refl refl
misuse (MissingValue option) = around (codes "option '") option.now (codes "' needs a value") refl refl
misuse (InvalidValue setting value) =
    around (codes "option '" ++ long_name setting ++ codes "' can't have the value '") value.now (codes "'") (before_value setting) refl
misuse Memory = plain (codes "out of memory") refl

-- A line feed is a line, and so is a text without control characters before a line.
line_feed : IsLine (10 ∷ [])
line_feed = ([], refl, NoCharPasses-nil is_control)

before : (text line : List ℕ) → NoCharPasses is_control text → IsLine line → IsLine (text ++ line)
before text line h l = (
  text ++ l.0,
  ap (λ (t : List ℕ). text ++ t) l.1 ∙ sym (append_assoc text l.0 (10 ∷ [])),
  both text l.0 h l.2,
)

pub failure_is_line : (failure : Failure) → IsLine (failure_line failure)
failure_is_line failure =
    before (codes "wasm2text: ") (in_message failure.name ++ (codes ": " ++ (cause_text failure.cause ++ 10 ∷ []))) (plain _ refl)
    (before (in_message failure.name) (codes ": " ++ (cause_text failure.cause ++ 10 ∷ [])) (name failure.name)
    (before (codes ": ") (cause_text failure.cause ++ 10 ∷ []) (plain _ refl)
    (before (cause_text failure.cause) (10 ∷ []) (plain _ (cause failure.cause)) line_feed)))

pub misuse_is_line : (error : ArgumentError) → IsLine (misuse_line error)
misuse_is_line error =
    before (codes "wasm2text: ") (misuse_text error ++ (codes ". Try 'wasm2text --help'." ++ 10 ∷ [])) (plain _ refl)
    (before (misuse_text error) (codes ". Try 'wasm2text --help'." ++ 10 ∷ []) (misuse error)
    (before (codes ". Try 'wasm2text --help'.") (10 ∷ []) (plain _ refl) line_feed))
