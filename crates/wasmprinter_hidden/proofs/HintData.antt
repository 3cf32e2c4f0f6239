-- The data of a hint section has as many entries as its count says.
use Rattle.std.proofs.Common.{◌≡◌, ℕ, ◌<◌, ◌≤◌, length, List, [], Option, Some, None, refl, sym, ap, ◌∙◌, arith, le-leb}
use Rattle.std.proofs.lemmas.Bool.{lt-leb}
use Rattle.wasmprinter_spec.specs.Grammar.{Input, ◌>>=◌, some_is}
use Rattle.wasmprinter_spec.specs.Sized.{value_at_end}
use Rattle.wasmprinter_spec.specs.Repeated.{items_at, times_sound}
use Rattle.wasmprinter_spec.specs.Name.{u32}
use Rattle.wasmprinter_spec.specs.Customs.Hints.{FunctionHints, function_hints, hint_section, at_most, most_hinted_functions}
use Rattle.wasmprinter_bytes.specs.Lists.{vec_at}

-- Entries, and the input that is left after them.
abbrev pub Read : Type 0
Read = List FunctionHints × Input

-- The entries, unless they are too many.
abbrev pub if_few : Read → Option Read
if_few x = at_most most_hinted_functions x.0 >>= λ es. Some (es, x.1)

-- The entries, unless they are too many or bytes are left after them.
abbrev pub checked : Option Read → Option (List FunctionHints)
checked r = (r >>= if_few) >>= λ x. value_at_end x.1.bytes x.0

-- The entries with their count.
abbrev pub with_count : ℕ → Read → Option ((ℕ × List FunctionHints) × Input)
with_count n x = Some ((n, x.0), x.1)

-- The entries without their count.
abbrev pub without_count : (ℕ × List FunctionHints) × Input → Option Read
without_count x = Some (x.0.1, x.1)

module _ (at mid : Input) (n : ℕ) (counted : u32.parse at ≡ Some (n, mid)) where
  as_counted_by : (r : Option Read) (es : List FunctionHints) (after : Input) → items_at function_hints.parse n mid ≡ r →
      ((r >>= with_count n) >>= without_count) ≡ Some (es, after) → length es ≡ n
  as_counted_by None es after parsed e = absurd cc
  as_counted_by (Some (xs, end)) es after parsed e =
      let s = times_sound function_hints n mid (xs, end) parsed in
      ap (λ (x : Read). length x.0) (sym (some_is (xs, end) (es, after) e)) ∙ s.spelled.0

  as_counted : (es : List FunctionHints) (after : Input) → vec_at function_hints.parse at ≡ Some (es, after) → length es ≡ n
  as_counted es after e = as_counted_by (items_at function_hints.parse n mid) es after refl (rw counted at e)

  too_many_by : (r : Option Read) → vec_at function_hints.parse at ≡ r → most_hinted_functions < n → checked r ≡ None
  too_many_by None e lt = refl
  too_many_by (Some (es, after)) e lt = rw (lt-leb (length es) most_hinted_functions (omega (arith, as_counted es after e, lt))) refl

  -- If the count is too great, there is an error.
  pub too_many : most_hinted_functions < n → None ≡ hint_section.parse at
  too_many lt = sym (too_many_by (vec_at function_hints.parse at) refl lt)

  -- If the count is not too great, these are the entries.
  pub few : (es : List FunctionHints) (after : Input) → n ≤ most_hinted_functions → vec_at function_hints.parse at ≡ Some (es, after) →
      after.bytes ≡ [] → Some es ≡ hint_section.parse at
  few es after le e empty =
      sym (ap checked e ∙ rw (le-leb (length es) most_hinted_functions (omega (arith, as_counted es after e, le)), empty) refl)

-- Without a count, there is an error.
pub uncounted : (at : Input) → u32.parse at ≡ None → None ≡ hint_section.parse at
uncounted at e = rw e refl
