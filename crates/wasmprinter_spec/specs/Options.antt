-- The options of a layout, and the answers to claims. The standard defines neither.
use Rattle.std.specs.Prelude.{◌≡◌, ℕ, List, Bool, false, codes, ◌⊎◌}
use Rattle.std.specs.List.{AllByRecursion}

-- The options of a layout.
pub record Options : Type 0 where
  -- Each line after the first begins with its place, in a comment.
  pub offsets : Bool
  -- Bodies, the items of element segments, and the bytes of data segments and custom sections are left out.
  pub skeleton : Bool
  -- Identifiers are synthesized for items without a name.
  pub synthesizes : Bool
  -- Operators are folded: each is in parentheses with its operands.
  pub folds : Bool
  -- The styles within the text of a folded operator become ANSI escape sequences. Otherwise that text has no styles.
  -- The user does not choose this: it holds if the printer can write colors as text.
  pub color : Bool
  -- The text that is written once for each level of nesting, up to `most_indents` of `Piece`.
  pub indent : List ℕ

-- The default options: an indent of two spaces, and all else off.
abbrev pub defaults : Options
defaults = record { offsets = false; skeleton = false; synthesizes = false; folds = false; color = false; indent = codes "  " }

-- The options with or without ANSI escape sequences in the text of folded operators.
abbrev pub with_color : Options → Bool → Options
with_color o color = record o { color = color }

-- The answer to the claim of each custom section, by the number of the section among the custom sections.
abbrev pub Answers : Type 0
Answers = ℕ → Bool

-- No custom section is claimed.
abbrev pub AreUnclaimed : Answers → Type 0
AreUnclaimed answers = (n : ℕ) → answers n ≡ false

-- The indent consists of spaces and tabs.
abbrev pub IsBlank : List ℕ → Type 0
IsBlank indent = AllByRecursion (λ b. (b ≡ 32) ⊎ (b ≡ 9)) indent
