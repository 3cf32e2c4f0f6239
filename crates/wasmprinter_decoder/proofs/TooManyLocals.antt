-- Bodies with more locals than are allowed.
use Rattle.std.proofs.Common.{◌≡◌, ℕ, ◌<◌, List, [], Some, None, refl, sym, ap, subst, ◌∙◌, arith, ◌≤◌}
use Rattle.wasmprinter_spec.specs.Grammar.{Input, input, ◌>>=◌, bind_some, some_is, seq, Placed, value_with_place}
use Rattle.wasmprinter_spec.specs.Sized.{front_at, alone}
use Rattle.wasmprinter_spec.specs.Name.{u32, vec}
use Rattle.wasmprinter_spec.specs.Placed.{LocalEntry, Body}
use Rattle.wasmprinter_spec.specs.Operator.{Operator}
use Rattle.wasmprinter_spec.specs.Instructions.{Closed, expression}
use Rattle.wasmprinter_spec.specs.Binary.Code.{local_entry, body, body_from, code_entry}
use Rattle.wasmprinter_spec.specs.Limits.{local_count, most_locals}
use Rattle.wasmprinter_decoder.proofs.Parts.{alone_some, alone_none, sized, sized_none, sized_some, old_parts, part_within}
use Rattle.wasmprinter_decoder.proofs.LaterPlaces.{many_in_part}
use Rattle.wasmprinter_bytes.specs.Lists.{reader_reasons}
use Rattle.wasmprinter_bytes.specs.Reads.{end_of}
use Rattle.wasmprinter_ops.specs.Operators.{ReachesBlock}
use Rattle.wasmprinter_bytes.specs.declared.library_error.Error.{Error}
use Rattle.wasmprinter_bytes.specs.Reasons.{HasReason}
use Rattle.wasmprinter_bytes.proofs.Reasons.{reason_implied}
use Rattle.wasmprinter_decoder.specs.Refusals.{HasManyLocals, IsOver}
use Rattle.wasmprinter_decoder.specs.Growing.{HasBlocks}
use Rattle.wasmprinter_decoder.specs.Bodies.{body_reasons, HasEntryBlocks}

-- The entries of locals.
abbrev Entries : Type 0
Entries = List (Placed LocalEntry)

-- The locals that were read are those of the body, if the bytes encode one.
module _ (at mid : Input) (locals : Entries) (read : (vec (value_with_place local_entry)).parse at ≡ Some (locals, mid)) where
  -- The locals of the body are those that were read.
  body_locals : (x : Body × Input) → body.parse at ≡ Some x → x.0.locals ≡ locals
  body_locals x e =
      let (read_parts, parsed, given) =
      bind_some ((seq (vec (value_with_place local_entry)) (λ _. expression)).parse at)
      (λ ((ls, code), end). Some (body_from ls code, end)) x e in
      let ((kept, closed), after) = read_parts in
      let (own, has_own, remains) =
      bind_some ((vec (value_with_place local_entry)).parse at) (λ l. expression.parse l.1 >>= λ c. Some ((l.0, c.0), c.1))
      read_parts parsed in
      let (code, has_code, together) = bind_some (expression.parse own.1) (λ c. Some ((own.0, c.0), c.1)) read_parts remains in
      let same : own.0 ≡ locals = ap (λ (y : Entries × Input). y.0) (some_is own (locals, mid) (sym has_own ∙ read)) in
      let first : own.0 ≡ kept =
      ap (λ (((ls, _), _) : (Entries × Closed (Placed Operator)) × Input). ls)
      (some_is ((own.0, code.0), code.1) read_parts together) in
      let made : kept ≡ x.0.locals = ap (λ (y : Body × Input). y.0.locals) (some_is (body_from kept closed, after) x given) in
      sym made ∙ sym first ∙ same

  -- If too many locals were read, the body has too many locals.
  is_over : (place : ℕ) → place ≡ at.place → most_locals < local_count locals → (x : Placed Body × Input) → (value_with_place body).parse at ≡ Some x → IsOver place x.0
  is_over place begins many x e =
      let with_place : Body × Input → Placed Body × Input = λ a. (record { place = at.place; value = a.0 }, a.1) in
      let (read_body, parsed, placed) = bind_some (body.parse at) (λ a. Some (with_place a)) x e in
      let here : IsOver place (with_place read_body).0 =
      (sym begins, subst (λ (ls : Entries). most_locals < local_count ls) (sym (body_locals read_body parsed)) many) in
      subst (λ (y : Placed Body × Input). IsOver place y.0) (some_is (with_place read_body) x placed) here

  -- If too many locals were read, this is a reason for `TooManyLocals` of the body.
  pub body_over : (place : ℕ) → place ≡ at.place → most_locals < local_count locals → HasManyLocals at place × ((x : Placed Body × Input) → (value_with_place body).parse at ≡ Some x → IsOver place x.0)
  body_over place begins many =
      let s = (vec (value_with_place local_entry)).sound at (locals, mid) read in (
        record {
          before = [];
          text = s.text;
          after = mid.bytes;
          parts = s.parts;
          starts = omega arith;
          locals = locals;
          spelled = subst (λ (p : ℕ). (vec (value_with_place local_entry)).spells p s.text locals) (sym begins) s.spelled;
          many = many;
        },
        is_over place begins many,
      )

  -- An error of the expression is an error of the body.
  pub body_fault : end_of mid ≡ end_of at → at.place ≤ mid.place → (f : Error) → HasReason (reader_reasons (expression.parse mid ≡ None) (ReachesBlock mid) mid) f → HasReason (body_reasons (value_with_place body).parse (HasBlocks at) at) f
  body_fault ends forward = reason_implied (reader_reasons (expression.parse mid ≡ None) (ReachesBlock mid) mid) (body_reasons (value_with_place body).parse (HasBlocks at) at) (record {
    malformed = λ place h. (rw (read, h.0) refl, omega (arith, h.1, ends, forward));
    component = λ h. h;
    locals = λ place h. absurd h;
    functions = λ count h. h;
    tables = λ place h. absurd h;
    memory = λ h. record { value = locals; after = mid; read = read; holds = h };
  })

-- An error of the body is an error of the entry.
module _ (old mid part new : Input) (size : ℕ) (size_read : u32.parse old ≡ Some (size, mid)) (cut : front_at size mid ≡ Some (part.bytes, new)) (begins : part.place ≡ mid.place) where
  -- If the entry can be read, the body in it can be read from the part.
  entry_body : (x : Placed Body × Input) → code_entry.parse old ≡ Some x → (after : Input) × ((value_with_place body).parse part ≡ Some (x.0, after))
  entry_body x e =
      let (entry, parsed, given) =
      bind_some ((sized old mid part new size size_read cut begins (alone (value_with_place body))).parse old)
      (λ ((_, b), rest). Some (b, rest)) x e in
      let ((own_size, read), after) = entry in
      let same : read ≡ x.0 = ap (λ (y : Placed Body × Input). y.0) (some_is (read, after) x given) in
      let there : (alone (value_with_place body)).parse part ≡ Some read =
      sized_some old mid part new size size_read cut begins (alone (value_with_place body)) entry parsed in
      alone_some (value_with_place body) part x.0 (there ∙ ap (λ (b : Placed Body). Some b) same)

  -- A reason for `TooManyLocals` of the body is one of the entry.
  entry_over : (place : ℕ) → (body_reasons (value_with_place body).parse (HasBlocks part) part).locals place → (body_reasons code_entry.parse (HasEntryBlocks old) old).locals place
  entry_over place h =
      let (size_text, split, after, spelled) = old_parts old mid part new size size_read cut begins in
      (many_in_part old part size_text new.bytes place split after h.0, λ x f. let b = entry_body x f in h.1 (x.0, b.0) b.1)

  -- A reason for `Malformed` of the body is one of the entry.
  entry_malformed : (place : ℕ) → (body_reasons (value_with_place body).parse (HasBlocks part) part).malformed place → (body_reasons code_entry.parse (HasEntryBlocks old) old).malformed place
  entry_malformed place h =
      let none : code_entry.parse old ≡ None = rw (sized_none old mid part new size size_read cut begins (alone (value_with_place body)) (alone_none (value_with_place body) part h.0)) refl in
      let within = part_within old mid part new size size_read cut begins in
      (none, omega (arith, h.1, within))

  -- Each error of the body is an error of the entry.
  pub entry_fault : (f : Error) → HasReason (body_reasons (value_with_place body).parse (HasBlocks part) part) f → HasReason (body_reasons code_entry.parse (HasEntryBlocks old) old) f
  entry_fault = reason_implied (body_reasons (value_with_place body).parse (HasBlocks part) part) (body_reasons code_entry.parse (HasEntryBlocks old) old) (record {
    malformed = entry_malformed;
    component = λ h. h;
    locals = entry_over;
    functions = λ count h. h;
    tables = λ place h. absurd h;
    memory = λ h. record {
      size = size;
      after = mid;
      sized = size_read;
      part = part.bytes;
      rest = new;
      cut = cut;
      blocks = subst (λ (p : ℕ). HasBlocks (input p part.bytes)) begins h;
    };
  })
