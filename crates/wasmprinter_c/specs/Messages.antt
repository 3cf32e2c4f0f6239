-- The descriptions of statuses: those of the library's errors, and some that only the C interface has.
use Rattle.std.specs.Prelude.{ℕ, List, ◌++◌, codes, decimal, false, if◌then◌else◌, ◌==◌}
use Rattle.std.specs.Fmt.{digits}

-- A text with a place in hexadecimal.
abbrev pub with_place : List ℕ → ℕ → List ℕ → List ℕ
with_place before place after = before ++ (digits 16 false place ++ after)

-- A text with a number in decimal.
abbrev pub with_number : List ℕ → ℕ → List ℕ → List ℕ
with_number before n after = before ++ (decimal n ++ after)

-- The description of a status with this detail. 1 to 11 are the numbers that `number_of` gives to errors, 0 is
-- `ok_status`, 12 `indent_status`, 13 `option_status` and 14 `list_status`.
abbrev pub message : ℕ → ℕ → List ℕ
message status detail =
    if status == 0 then codes "success"
    else (if status == 1 then with_place (codes "malformed module at byte 0x") detail (codes "")
    else (if status == 2 then codes "components are not supported"
    else (if status == 3 then with_place (codes "function at byte 0x") detail (codes " has more than 50000 locals")
    else (if status == 4 then with_number (codes "module has ") detail (codes " functions, more than 1000000")
    else (if status == 5 then with_place (codes "table at byte 0x") detail (codes " has an empty initialiser")
    else (if status == 6 then with_place (codes "legacy exception operator at byte 0x") detail (codes " can't be folded")
    else (if status == 7 then with_place (codes "branch hint at byte 0x") detail (codes " can't be folded")
    else (if status == 8 then with_number (codes "unknown dylink.0 subsection ") detail (codes "")
    else (if status == 9 then codes "the file can't be read"
    else (if status == 10 then codes "the text is too long"
    else (if status == 11 then codes "out of memory"
    else (if status == 12 then codes "the indent is not UTF-8"
    else (if status == 13 then with_place (codes "unknown options 0x") detail (codes "")
    else (if status == 14 then with_place (codes "the list of names is cut off at byte 0x") detail (codes "")
    else codes "unknown status"))))))))))))))
