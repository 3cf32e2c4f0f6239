-- Element segments after their flags.
use Rattle.std.proofs.Common.{◌≡◌, ℕ, zero, suc, ◌<◌, ◌≤◌, Some, None, refl, ◌∙◌, arith}
use Rattle.std.proofs.lemmas.Bool.{ne_eqb}
use Rattle.wasmprinter_spec.specs.Grammar.{Input, Placed, value_with_place}
use Rattle.wasmprinter_spec.specs.Name.{u32}
use Rattle.wasmprinter_spec.specs.Operator.{Operator}
use Rattle.wasmprinter_spec.specs.Placed.{ElementMode, Items, element_of, entry_of}
use Rattle.wasmprinter_spec.specs.Binary.Elements.{segment, element_after, element}
use Rattle.wasmprinter_decoder.specs.Segments.{has_table_index, mode_by, items_by}

-- For flags below 8, the mode and the items can be read separately.
in_parts : (flags : ℕ) (at : Input) → flags < 8 → (element_after flags).parse at ≡ (segment (has_table_index flags) (mode_by flags) (items_by flags)).parse at
in_parts zero at lt = refl
in_parts (suc zero) at lt = refl
in_parts (suc (suc zero)) at lt = refl
in_parts (suc (suc (suc zero))) at lt = refl
in_parts (suc (suc (suc (suc zero)))) at lt = refl
in_parts (suc (suc (suc (suc (suc zero))))) at lt = refl
in_parts (suc (suc (suc (suc (suc (suc zero)))))) at lt = refl
in_parts (suc (suc (suc (suc (suc (suc (suc zero))))))) at lt = refl
in_parts (suc (suc (suc (suc (suc (suc (suc (suc n)))))))) at lt = absurd (omega arith)

-- The flags were read.
module _ (old mid : Input) (flags : ℕ) (read : u32.parse old ≡ Some (flags, mid)) where
  -- Flags that are too large do not encode a segment.
  pub element_past : 8 ≤ flags → (value_with_place element).parse old ≡ None
  element_past le =
      let none : (element_after flags).parse mid ≡ None =
      rw (
        ne_eqb flags 0 (λ z. omega arith),
        ne_eqb flags 1 (λ z. omega arith),
        ne_eqb flags 2 (λ z. omega arith),
        ne_eqb flags 3 (λ z. omega arith),
        ne_eqb flags 4 (λ z. omega arith),
        ne_eqb flags 5 (λ z. omega arith),
        ne_eqb flags 6 (λ z. omega arith),
        ne_eqb flags 7 (λ z. omega arith),
      ) refl in
      rw (read, none) refl

  module _ (lt : flags < 8) where
    -- If no mode can be read after the flags, no segment can be read.
    pub element_no_mode : (mode_by flags).parse mid ≡ None → (value_with_place element).parse old ≡ None
    element_no_mode e =
        let parts : (segment (has_table_index flags) (mode_by flags) (items_by flags)).parse mid ≡ None = rw e refl in
        let none : (element_after flags).parse mid ≡ None = in_parts flags mid lt ∙ parts in
        rw (read, none) refl

    module _ (after : Input) (mode : ElementMode (Placed Operator)) (first : (mode_by flags).parse mid ≡ Some (mode, after)) where
      -- If a mode can be read, but no items, no segment can be read.
      pub element_no_items : (items_by flags).parse after ≡ None → (value_with_place element).parse old ≡ None
      element_no_items e =
          let parts : (segment (has_table_index flags) (mode_by flags) (items_by flags)).parse mid ≡ None = rw (first, e) refl in
          let none : (element_after flags).parse mid ≡ None = in_parts flags mid lt ∙ parts in
          rw (read, none) refl

      -- If a mode and items are read, they are those of the segment.
      pub element_read : (new : Input) (items : Items (Placed Operator)) → (items_by flags).parse after ≡ Some (items, new)
          → (value_with_place element).parse old ≡ Some (record { place = old.place; value = entry_of (has_table_index flags) (element_of mode items) }, new)
      element_read new items e =
          let parts : (segment (has_table_index flags) (mode_by flags) (items_by flags)).parse mid ≡ Some (entry_of (has_table_index flags) (element_of mode items), new) = rw (first, e) refl in
          let some : (element_after flags).parse mid ≡ Some (entry_of (has_table_index flags) (element_of mode items), new) = in_parts flags mid lt ∙ parts in
          rw (read, some) refl
