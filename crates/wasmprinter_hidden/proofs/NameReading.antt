-- Reading the data of a name section, item by item.
use Rattle.std.proofs.Common.{◌≡◌, ℕ, suc, ◌+◌, ◌-◌, ◌<◌, Bool, true, false, cond, List, [], ◌++◌, Option, Some, sym, ap, subst, ◌∙◌, arith, append_assoc, append-nil}
use Rattle.wasmprinter_spec.specs.Grammar.{Input}
use Rattle.wasmprinter_spec.specs.Repeated.{some_or}
use Rattle.wasmprinter_hidden.specs.Lengths.{unsigned_len}
use Rattle.wasmprinter_hidden.specs.Findings.{if_longer}
use Rattle.wasmprinter_hidden.specs.HiddenNames.{Reading, reading, stop, passed, and_then, read_number, repeat}
use Rattle.wasmprinter_hidden.specs.NameReadings.{IsRead, IsNumberRead}
use Rattle.wasmprinter_hidden.specs.declared.finding.Part.{Part}
use Rattle.wasmprinter_hidden.specs.declared.finding.Finding.{Finding}

-- ---- One reading after another

module _ (r : Reading) (next : Input → Reading) where
  -- What is read by both.
  abbrev pub joined : Reading
  joined = reading (r.found ++ (next r.left).found) (r.names ++ (next r.left).names) (next r.left).left (next r.left).stopped

  pub then_stopped : r.stopped ≡ true → and_then r next ≡ r
  then_stopped e = ap (λ (b : Bool). cond b r joined) e

  pub then_goes_on : r.stopped ≡ false → and_then r next ≡ joined
  then_goes_on e = ap (λ (b : Bool). cond b r joined) e

-- Findings of something that gives no names, and then what is read after it.
pub after_findings : (first old mid now : List Finding) (r : Reading) (after : Input) (stopped : Bool) → mid ≡ old ++ first → IsRead r mid after now stopped →
    IsRead (reading (first ++ r.found) r.names r.left r.stopped) old after now stopped
after_findings first old mid now r after stopped is_mid read = record {
  found = read.found ∙ ap (λ (f : List Finding). f ++ r.found) is_mid ∙ append_assoc old first r.found;
  left = read.left;
  stops = read.stops;
}

-- ---- A number, and what depends on it

module _ (part : Part) (next : ℕ → Input → Reading) (at : Input) (old : List Finding) where
  -- What is read once it is known what the number is.
  abbrev after_number : Option (ℕ × Input) → Reading
  after_number o =
      some_or o (stop at) (λ x. and_then (passed (if_longer part at.place x.1.place (unsigned_len x.0)) x.1) (next x.0))

  pub number_read : (n : ℕ) (mid after : Input) (now found : List Finding) (stopped : Bool) → IsNumberRead part at old (Some n) mid now →
      IsRead (next n mid) now after found stopped → IsRead (read_number part next at) old after found stopped
  number_read n mid after now found stopped h r =
      subst (λ (o : Option (ℕ × Input)). IsRead (after_number o) old after found stopped) (sym h.0)
      (after_findings (if_longer part at.place mid.place (unsigned_len n)) old now found (next n mid) after stopped h.1 r)

-- ---- Reading n times

-- Reading the rest completes reading the whole: the findings `now` come from the findings `old` and from what was read.
pub record Completes (rest : Reading) (now : List Finding) (whole : Reading) (old : List Finding) : Type 0 where
  pub found : now ++ rest.found ≡ old ++ whole.found
  pub left : rest.left ≡ whole.left
  pub stops : rest.stopped ≡ whole.stopped

module _ (read : Input → Reading) (whole : Reading) (old : List Finding) where
  -- One more item was read.
  pub times_more : (k : ℕ) (at after : Input) (now found : List Finding) → Completes (repeat (suc k) read at) now whole old →
      IsRead (read at) now after found false → Completes (repeat k read after) found whole old
  times_more k at after now found c r =
      let rest : Reading = repeat k read (read at).left in
      let goes = then_goes_on (read at) (repeat k read) (sym r.stops) in
      let h = subst (λ (x : Reading). Completes x now whole old) goes c in
      subst (λ (i : Input). Completes (repeat k read i) found whole old) (sym r.left)
      (record {
        found = ap (λ (f : List Finding). f ++ rest.found) r.found ∙ append_assoc now (read at).found rest.found ∙ h.found;
        left = h.left;
        stops = h.stops;
      })

  -- Reading stopped at an item.
  pub times_stopped : (k : ℕ) (at after : Input) (now found : List Finding) → Completes (repeat (suc k) read at) now whole old →
      IsRead (read at) now after found true → IsRead whole old after found true
  times_stopped k at after now found c r =
      let stop = then_stopped (read at) (repeat k read) (sym r.stops) in
      let h = subst (λ (x : Reading). Completes x now whole old) stop c in
      record { found = r.found ∙ h.found; left = r.left ∙ h.left; stops = r.stops ∙ h.stops }

  -- All items were read.
  pub times_done : (at : Input) (now : List Finding) → Completes (passed [] at) now whole old → IsRead whole old at now false
  times_done at now c = record { found = sym (append-nil now) ∙ c.found; left = c.left; stops = c.stops }

module _ (read : Input → Reading) (start : Input) (old : List Finding) (n : ℕ) where
  -- Of n items, those from number i on are left.
  abbrev pub TimesLeft : ℕ → Input → List Finding → Type 0
  TimesLeft i at now = Completes (repeat (n - i) read at) now (repeat n read start) old

  one_left : (i : ℕ) (at : Input) (now : List Finding) → i < n → TimesLeft i at now → Completes (repeat (suc (n - (i + 1))) read at) now (repeat n read start) old
  one_left i at now lt left =
      let one : n - i ≡ suc (n - (i + 1)) = omega arith in
      subst (λ (k : ℕ). Completes (repeat k read at) now (repeat n read start) old) one left

  pub left_after_one : (i : ℕ) (at after : Input) (now found : List Finding) → i < n → TimesLeft i at now → IsRead (read at) now after found false →
      TimesLeft (i + 1) after found
  left_after_one i at after now found lt left r =
      times_more read (repeat n read start) old (n - (i + 1)) at after now found (one_left i at now lt left) r
