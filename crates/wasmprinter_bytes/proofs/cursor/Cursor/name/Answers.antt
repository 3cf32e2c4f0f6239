use Rattle.std.proofs.Common.{rules, ◌≡◌, List, ℕ, Some, true, false, sym, ap, refl}
use Rattle.std.specs.Str.{is_utf8}
use Rattle.std.proofs.lemmas.Bool.{false_from_ne_true}
use Rattle.std.proofs.lemmas.Str.{IsUtf8-from_is_utf8, is_utf8-from_IsUtf8}
use Rattle.wasmprinter_bytes.proofs.cursor.Cursor.name.Goals as goal

pub returns-in-Ok : goal.returns-in-Ok
returns-in-Ok c = record {
  reads =
      let u : is_utf8 c.in_ok-bytes.bytes.now ≡ true = is_utf8-from_IsUtf8 c.in_ok-bytes.bytes.now c.in-Ok.ensures.cases.1 in
      rw (c.in_ok-len.ensures.reads, c.in_ok-bytes.ensures.reads, u) (ap (λ (t : List ℕ). Some (t, c.take.new.self)) (sym c.in-Ok.ensures.cases.0));
  within = search rules;
  end = search rules;
  forward = search rules;
}

pub returns-in-Err : goal.returns-in-Err
returns-in-Err c = record {
  reads =
      let u : is_utf8 c.in_ok-bytes.bytes.now ≡ false = false_from_ne_true (is_utf8 c.in_ok-bytes.bytes.now) (λ e. c.in-Err.ensures.cases.0 (IsUtf8-from_is_utf8 c.in_ok-bytes.bytes.now e)) in
      rw (c.in_ok-len.ensures.reads, c.in_ok-bytes.ensures.reads, u) refl;
  within = search rules;
  end = search rules;
  forward = search rules;
}
