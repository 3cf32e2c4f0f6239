use Rattle.std.proofs.Common.{◌≡◌, ◌+◌, ◌<◌, ◌≤◌, true, false, List, [], get_or, drop, length, sym, ap, subst, ◌∙◌, arith}
use Rattle.std.specs.Prelude.{bytes_eq}
use Rattle.std.proofs.Math.ListN.{drop_of_length-le}
use Rattle.wasmprinter_spec.specs.Placed.{CustomEntry, custom_entry}
use Rattle.wasmprinter_spec.specs.Customs.{name_section}
use Rattle.wasmprinter_spec.specs.ModuleNames.{name_entries}
use Rattle.wasmprinter_spec.specs.Names.Section.{Entry}
use Rattle.wasmprinter_decoder.specs.Places.{after_view}
use Rattle.wasmprinter_custom.specs.HoldsEntries.{HoldsEntries}
use Rattle.wasmprinter_decoder.proofs.Naming.{Naming, naming_none, naming_other, naming_read, naming_nothing, naming_done}
use Rattle.wasmprinter_decoder.proofs.module.Module.names.Goals.{then-is_name_section+in_ok-read_names, else-is_name_section}
use Rattle.wasmprinter_decoder.proofs.module.Module.names.Goals as goal

pub loop-custom-init : goal.loop-custom-init
loop-custom-init c = naming_none c.args.self.now.customs c.new-builder.result c.new-builder.ensures

pub returns-in_err-read_names-clause-succeeds : goal.returns-in_err-read_names-clause-succeeds
returns-in_err-read_names-clause-succeeds c none =
    let lt : c.loop-custom.custom-index < length c.args.self.now.customs = omega (arith, c.loop-custom-test.true, ap length c.customs-custom-items.ensures) in
    let entry : CustomEntry = custom_entry (after_view c.custom.inside.after) c.custom.inside.section in
    let found = c.custom-item.is ∙ ap (λ (xs : List CustomEntry). get_or xs c.loop-custom.custom-index c.custom-item.result) c.customs-custom-items.ensures in
    let same : entry ≡ get_or c.args.self.now.customs c.loop-custom.custom-index entry =
    subst (λ (e : CustomEntry). e ≡ get_or c.args.self.now.customs c.loop-custom.custom-index e) (sym c.custom.view_is) found in
    let ok = c.in_err-read_names.ensures.succeeds (naming_nothing c.args.self.now.customs c.loop-custom.custom-index c.loop-custom.builder entry lt same c.loop-custom.invariant
    c.cursor.result (sym c.is_name_section.ensures ∙ c.if-is_name_section.true) c.cursor.ensures none) in
    absurd cc

pub loop-custom-preserved : goal.loop-custom-preserved
loop-custom-preserved c =
    let lt : c.loop-custom.custom-index < length c.args.self.now.customs = omega (arith, c.loop-custom-test.true, ap length c.customs-custom-items.ensures) in
    let entry : CustomEntry = custom_entry (after_view c.custom.inside.after) c.custom.inside.section in
    let found = c.custom-item.is ∙ ap (λ (xs : List CustomEntry). get_or xs c.loop-custom.custom-index c.custom-item.result) c.customs-custom-items.ensures in
    let same : entry ≡ get_or c.args.self.now.customs c.loop-custom.custom-index entry =
    subst (λ (e : CustomEntry). e ≡ get_or c.args.self.now.customs c.loop-custom.custom-index e) (sym c.custom.view_is) found in
    elim c.if-is_name_section.branch [
      | then-is_name_section+in_ok-read_names w ↦
          let is : bytes_eq entry.section.value.name name_section ≡ true = sym c.is_name_section.ensures ∙ w.if-is_name_section.true in
          let named = naming_read c.args.self.now.customs c.loop-custom.custom-index c.loop-custom.builder entry lt same c.loop-custom.invariant
          w.cursor.result is w.cursor.ensures w.read_names.new.builder w.in_ok-read_names.ensures.names in
          subst (Naming c.args.self.now.customs (c.loop-custom.custom-index + 1)) (sym w.builder-is) named
      | else-is_name_section w ↦
          let other : bytes_eq entry.section.value.name name_section ≡ false = sym c.is_name_section.ensures ∙ w.if-is_name_section.false in
          let same_builder = naming_other c.args.self.now.customs c.loop-custom.custom-index c.loop-custom.builder entry lt same c.loop-custom.invariant other in
          subst (Naming c.args.self.now.customs (c.loop-custom.custom-index + 1)) (sym w.builder-is) same_builder
    ]

pub returns-clause-names : goal.returns-clause-names
returns-clause-names c =
    let past : length c.args.self.now.customs ≤ c.loop-custom.custom-index = omega (arith, c.loop-custom-test.false, ap length c.customs-custom-items.ensures) in
    let none : drop c.loop-custom.custom-index c.args.self.now.customs ≡ [] = drop_of_length-le c.args.self.now.customs past in
    c.in_ok-finish.ensures.names (name_entries c.args.self.now.customs) (naming_done c.args.self.now.customs c.loop-custom.custom-index c.loop-custom.builder none c.loop-custom.invariant)

pub returns-in_err-finish-clause-succeeds : goal.returns-in_err-finish-clause-succeeds
returns-in_err-finish-clause-succeeds c nameless =
    let past : length c.args.self.now.customs ≤ c.loop-custom.custom-index = omega (arith, c.loop-custom-test.false, ap length c.customs-custom-items.ensures) in
    let none : drop c.loop-custom.custom-index c.args.self.now.customs ≡ [] = drop_of_length-le c.args.self.now.customs past in
    let kept = naming_done c.args.self.now.customs c.loop-custom.custom-index c.loop-custom.builder none c.loop-custom.invariant in
    let ok = c.in_err-finish.ensures.succeeds (subst (λ (es : List Entry). HoldsEntries es c.loop-custom.builder) nameless kept) in
    absurd cc
