-- Parts of a module that are read one after the other. The place where a part ends is known once the next part is read.
use Rattle.std.specs.Prelude.{◌≡◌, ℕ, ◌<◌, ◌-◌, ◌^◌, List, ◌++◌, map, min}
use Rattle.wasmprinter_spec.specs.Grammar.{Placed}
use Rattle.wasmprinter_spec.specs.Operator.{Operator}
use Rattle.wasmprinter_spec.specs.Placed.{LocalEntry}
use Rattle.wasmprinter_hidden.specs.Lengths.{operator_len}
use Rattle.wasmprinter_hidden.specs.Findings.{if_longer}
use Rattle.wasmprinter_hidden.specs.Hidden.{first_place, in_items, shown_group_len}
use Rattle.wasmprinter_hidden.specs.declared.finding.Part.{Part}
use Rattle.wasmprinter_hidden.specs.declared.finding.Finding.{Finding}
use Rattle.wasmprinter_hidden.specs.declared.findings.OpenPart.{OpenPart}

-- The number, or the greatest number of 64 bits if it is greater.
abbrev pub capped : ℕ → ℕ
capped n = min n (2 ^ 64 - 1)

-- The part with this shortest encoding, which starts at the place.
abbrev pub open_part : Part → ℕ → ℕ → OpenPart
open_part part place len = record { part = part; place = place; len = capped len }

-- The place of each item, with the number of bytes of the item's shortest encoding.
abbrev pub lengths : {A : Type 0} → (A → ℕ) → (A → ℕ) → List A → List (Placed ℕ)
lengths place len xs = map (λ x. record { place = place x; value = len x }) xs

-- The places and lengths of groups of locals.
abbrev pub lengths_of_groups : List (Placed LocalEntry) → List (Placed ℕ)
lengths_of_groups es = lengths (λ e. e.place) (λ e. shown_group_len e.value) es

-- The places and lengths of operators.
abbrev pub lengths_of_operators : List (Placed Operator) → List (Placed ℕ)
lengths_of_operators os = lengths (λ o. o.place) (λ o. operator_len o.value) os

-- The findings in the part if it ends here.
abbrev pub in_open : OpenPart → ℕ → List Finding
in_open last end = if_longer last.part last.place end last.len

-- The findings in the part, and in the items that follow it up to the end.
abbrev pub in_run : OpenPart → Part → List (Placed ℕ) → ℕ → List Finding
in_run first part xs end = in_open first (first_place xs end) ++ in_items part (λ n. n) xs end

-- The items that follow the part `first` were read, and the part `last` is still open. At any end that it may have, the
-- findings are those that there were before, those in the first part and those in the items. The place where the first part
-- ends is a number of 64 bits.
abbrev pub HasRead : Part → List Finding → OpenPart → List (Placed ℕ) → List Finding → OpenPart → Type 0
HasRead part old first xs found last =
    (end : ℕ) → end < 2 ^ 64 → (first_place xs end < 2 ^ 64) × (found ++ in_open last end ≡ old ++ in_run first part xs end)
