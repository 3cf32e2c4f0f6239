use Rattle.std.proofs.Common.{rules, ◌≡◌, None, refl, arith, ◌∙◌, inl, inr}
use Rattle.std.proofs.lemmas.Result.{err_from_is_err_and}
use Rattle.wasmprinter_spec.specs.Grammar.{value_with_place}
use Rattle.wasmprinter_spec.specs.Binary.Elements.{element}
use Rattle.wasmprinter_bytes.proofs.Grown.{part_fault}
use Rattle.wasmprinter_decoder.specs.Segments.{mode_by, items_by, element_mode_view, element_items_view}
use Rattle.wasmprinter_decoder.specs.Growing.{ModeGrows, ItemsGrow, ElementGrows}
use Rattle.wasmprinter_decoder.proofs.ElementFlags.{element_past, element_no_mode, element_no_items, element_read}
use Rattle.wasmprinter_decoder.proofs.elements.ElementGrownIn.read.Goals as goal

pub returns-then-flags-ge-FLAGS_END : goal.returns-then-flags-ge-FLAGS_END
returns-then-flags-ge-FLAGS_END c = record {
  reads = (element_past c.args.cursor.now c.u32.new.self c.in_ok-flags.flags c.in_ok-flags.ensures.reads (omega arith), omega (arith, c.place-place.ensures));
  end = search rules;
  forward = search rules;
}

pub returns-in_err-mode : goal.returns-in_err-mode
returns-in_err-mode c = record {
  reads =
      let (fault, failed, is) = err_from_is_err_and c.from_residual-in_err-mode.result c.from_residual-in_err-mode.ensures.1 in
      rw (failed, is)
      (part_fault ((mode_by c.in_ok-flags.flags).parse c.u32.new.self ≡ None) (ModeGrows c.in_ok-flags.flags c.u32.new.self)
      ((value_with_place element).parse c.args.cursor.now ≡ None) (ElementGrows c.args.cursor.now) c.u32.new.self c.args.cursor.now
      (element_no_mode c.args.cursor.now c.u32.new.self c.in_ok-flags.flags c.in_ok-flags.ensures.reads (omega arith))
      (λ more. record { value = c.in_ok-flags.flags; after = c.u32.new.self; read = c.in_ok-flags.ensures.reads; holds = inl more }) c.in_ok-flags.ensures.end c.in_ok-flags.ensures.forward
      c.in_err-mode.field-0.0 c.in_err-mode.ensures.reads);
  end = search rules;
  forward = search rules;
}

pub returns-in_err-items : goal.returns-in_err-items
returns-in_err-items c = record {
  reads =
      let (fault, failed, is) = err_from_is_err_and c.from_residual-in_err-items.result c.from_residual-in_err-items.ensures.1 in
      rw (failed, is)
      (part_fault ((items_by c.in_ok-flags.flags).parse c.read.new.cursor ≡ None) (ItemsGrow c.in_ok-flags.flags c.read.new.cursor)
      ((value_with_place element).parse c.args.cursor.now ≡ None) (ElementGrows c.args.cursor.now) c.read.new.cursor c.args.cursor.now
      (element_no_items c.args.cursor.now c.u32.new.self c.in_ok-flags.flags c.in_ok-flags.ensures.reads (omega arith) c.read.new.cursor (element_mode_view c.in_ok-mode.mode) c.in_ok-mode.ensures.reads)
      (λ more. record {
        value = c.in_ok-flags.flags;
        after = c.u32.new.self;
        read = c.in_ok-flags.ensures.reads;
        holds = inr (record { value = element_mode_view c.in_ok-mode.mode; after = c.read.new.cursor; read = c.in_ok-mode.ensures.reads; holds = more });
      }) (c.in_ok-mode.ensures.end ∙ c.in_ok-flags.ensures.end) (omega (arith, c.in_ok-flags.ensures.forward, c.in_ok-mode.ensures.forward)) c.in_err-items.field-0.0 c.in_err-items.ensures.reads);
  end = search rules;
  forward = search rules;
}

pub returns : goal.returns
returns c = record {
  reads =
      element_read c.args.cursor.now c.u32.new.self c.in_ok-flags.flags c.in_ok-flags.ensures.reads (omega arith) c.read.new.cursor (element_mode_view c.in_ok-mode.mode) c.in_ok-mode.ensures.reads
      c.read-2.new.cursor (element_items_view c.in_ok-items.items) c.in_ok-items.ensures.reads
      ∙ rw (c.place-place.ensures, c.announce_table.ensures) refl;
  end = search rules;
  forward = search rules;
}
