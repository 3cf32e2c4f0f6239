-- The texts of errors, which the standard does not specify.
use Rattle.std.specs.Prelude.{ℕ, List, ◌++◌, codes, decimal, false}
use Rattle.std.specs.Fmt.{digits}
use Rattle.wasmprinter_bytes.specs.declared.library_error.Error.{Error}
use Rattle.wasmprinter_bytes.specs.declared.library_error.Error.TheVariants.{Malformed, Component, TooManyLocals, TooManyFunctions, EmptyTableInit, FoldLegacy, FoldHint, DylinkSubsection, Unreadable, Printer, Memory}

-- A place in hexadecimal, after `0x`.
abbrev pub place_text : ℕ → List ℕ
place_text place = codes "0x" ++ digits 16 false place

-- The text of an error.
abbrev pub error_text : Error → List ℕ
error_text (Malformed place) = codes "malformed module at byte " ++ place_text place
error_text Component = codes "components are not supported"
error_text (TooManyLocals place) = codes "function at byte " ++ (place_text place ++ codes " has more than 50000 locals")
error_text (TooManyFunctions count) = codes "module has " ++ (decimal count ++ codes " functions, more than 1000000")
error_text (EmptyTableInit place) = codes "table at byte " ++ (place_text place ++ codes " has an empty initialiser")
error_text (FoldLegacy place) = codes "legacy exception operator at byte " ++ (place_text place ++ codes " can't be folded")
error_text (FoldHint place) = codes "branch hint at byte " ++ (place_text place ++ codes " can't be folded")
error_text (DylinkSubsection id) = codes "unknown dylink.0 subsection " ++ decimal id
error_text Unreadable = codes "the file can't be read"
error_text (Printer e) = codes "the printer failed"
error_text Memory = codes "out of memory"
