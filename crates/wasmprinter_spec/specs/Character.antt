-- The class of each byte of a text (sections 6.2 and 6.3 of the standard). A text is UTF-8; bytes of at least 128
-- occur only in strings and comments.
use Rattle.std.specs.Prelude.{ℕ, Bool, cond, ◌==◌, ◌||◌, nat_lt, nat_le}

-- A class of bytes.
pub data Class : Type 0 where
  Space : Class
  Tab : Class
  Feed : Class  -- line feed and carriage return; each ends a line
  OpenParen : Class
  CloseParen : Class
  Semicolon : Class
  Quote : Class
  Backslash : Class  -- an identifier character, and the start of an escape in a string
  Dollar : Class  -- an identifier character, and the start of an identifier
  At : Class  -- an identifier character, and the start of an annotation after a parenthesis
  Plain : Class  -- any other identifier character
  Reserved : Class  -- , [ ] { }
  Control : Class  -- occurs only in comments
  Foreign : Class  -- a byte of a character beyond ASCII

-- The byte is a line feed or a carriage return.
abbrev pub is_feed : ℕ → Bool
is_feed b = (b == 10) || (b == 13)

-- The byte is one of `,` `[` `]` `{` `}`.
abbrev pub is_reserved : ℕ → Bool
is_reserved b = (b == 44) || (b == 91) || (b == 93) || (b == 123) || (b == 125)

-- The byte is a control character: below the space, or delete.
abbrev pub is_control : ℕ → Bool
is_control b = nat_lt b 32 || (b == 127)

-- The class of a byte, by the first row that matches.
unfoldable pub class : ℕ → Class
class b =
    cond (b == 32) Space (cond (b == 9) Tab (cond (is_feed b) Feed
    (cond (b == 40) OpenParen (cond (b == 41) CloseParen (cond (b == 59) Semicolon
    (cond (b == 34) Quote (cond (b == 92) Backslash (cond (b == 36) Dollar (cond (b == 64) At
    (cond (is_reserved b) Reserved (cond (is_control b) Control (cond (nat_le 128 b) Foreign Plain))))))))))))
