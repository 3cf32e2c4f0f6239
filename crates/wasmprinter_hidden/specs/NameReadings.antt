-- Reading the data of a name section, as the program does it.
use Rattle.std.specs.Prelude.{◌≡◌, ℕ, ◌-◌, List, [], ◌∷◌, ◌++◌, nat_lt, if◌then◌else◌, Bool, Option, Some, None}
use Rattle.wasmprinter_spec.specs.Grammar.{Input}
use Rattle.wasmprinter_spec.specs.Name.{u32}
use Rattle.wasmprinter_hidden.specs.Lengths.{unsigned_len}
use Rattle.wasmprinter_hidden.specs.Findings.{finding, if_longer}
use Rattle.wasmprinter_hidden.specs.HiddenNames.{Reading}
use Rattle.wasmprinter_hidden.specs.declared.finding.Part.{Part}
use Rattle.wasmprinter_hidden.specs.declared.finding.Part.TheVariants.{UnreadNames}
use Rattle.wasmprinter_hidden.specs.declared.finding.Finding.{Finding}

-- The findings of the reading r were appended to the findings `old`, which gives `now`. The program is at the input `at`, and
-- `stopped` says whether it stopped. The program does not keep the names.
pub record IsRead (r : Reading) (old : List Finding) (at : Input) (now : List Finding) (stopped : Bool) : Type 0 where
  pub found : now ≡ old ++ r.found
  pub left : at ≡ r.left
  pub stops : stopped ≡ r.stopped

-- A number that encodes this part was read, and the finding in it was appended, if there is one. Nothing was read if the input
-- does not start with a number.
abbrev pub IsNumberRead : Part → Input → List Finding → Option ℕ → Input → List Finding → Type 0
IsNumberRead part at old None after now = (u32.parse at ≡ None) × (after ≡ at) × (now ≡ old)
IsNumberRead part at old (Some n) after now =
    (u32.parse at ≡ Some (n, after)) × (now ≡ old ++ if_longer part at.place after.place (unsigned_len n))

-- The finding that the bytes from a place up to the place `end` are not read, if there are any.
abbrev pub unread_up_to : ℕ → ℕ → List Finding
unread_up_to place end = if nat_lt place end then finding place UnreadNames (end - place) ∷ [] else []
