-- Counts before lists.
use Rattle.std.proofs.Common.{◌≡◌, ℕ, ◌<◌, List, length, Some, sym, ap, ◌∙◌, arith}
use Rattle.wasmprinter_spec.specs.Grammar.{Input, Grammar, ◌>>=◌, bind_some, some_is, seq}
use Rattle.wasmprinter_spec.specs.Name.{u32, vec}
use Rattle.wasmprinter_spec.specs.Repeated.{items_at, times, times_sound}
use Rattle.wasmprinter_bytes.specs.Lists.{CountsItems}
use Rattle.wasmprinter_decoder.specs.Contents.{CountStands}

module _ {A : Type 0} (g : Grammar A) (at : Input) (x : List A × Input) (read : (vec g).parse at ≡ Some x) where
  -- The count before a list is the number of its items.
  pub vec_counted : CountStands at (length x.0)
  vec_counted =
      let (listed, parsed, given) = bind_some ((seq u32 (λ n. times g n)).parse at) (λ ((_, xs), rest). Some (xs, rest)) x read in
      let ((front, list), end) = listed in
      let ((count, after), has_count, remains) =
      bind_some (u32.parse at) (λ n. items_at g.parse n.0 n.1 >>= λ xs. Some ((n.0, xs.0), xs.1)) listed parsed in
      let (items, has_items, together) = bind_some (items_at g.parse count after) (λ xs. Some ((count, xs.0), xs.1)) listed remains in
      let first : items.0 ≡ list = ap (λ (((_, xs), _) : (ℕ × List A) × Input). xs) (some_is ((count, items.0), items.1) listed together) in
      let made : list ≡ x.0 = ap (λ (y : List A × Input). y.0) (some_is (list, end) x given) in
      let same : count ≡ length x.0 = sym (times_sound g count after items has_items).spelled.0 ∙ ap length (first ∙ made) in
      record { after = after; counted = has_count ∙ ap (λ (n : ℕ). Some (n, after)) same }

  -- If a list has items, its count is above zero.
  pub counts_items : 0 < length x.0 → CountsItems at
  counts_items some = let v = vec_counted in record { count = length x.0; after = v.after; counted = v.counted; some = some }

  -- If the count is above zero, the list has items.
  pub vec_some : CountsItems at → 0 < length x.0
  vec_some c =
      let v = vec_counted in
      let same : c.count ≡ length x.0 = ap (λ (y : ℕ × Input). y.0) (some_is (c.count, c.after) (length x.0, v.after) (sym c.counted ∙ v.counted)) in
      omega (arith, c.some)
