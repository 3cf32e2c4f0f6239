use Rattle.std.specs.Prelude.{◌≡◌, ◌++◌, List, None, length, drop}
use Rattle.wasmprinter_spec.specs.Options.{Answers}
use Rattle.wasmprinter_spec.specs.Layout.{section_order}
use Rattle.wasmprinter_spec.specs.Layout.Customs.{parts_at}
use Rattle.wasmprinter_module_text.specs.Scopes.{scope_view}
use Rattle.wasmprinter_module_text.specs.Sections.{sections_parts}
use Rattle.wasmprinter_module_text.proofs.whole_module.write_sections.Given as goal

abbrev pub invariant-loop-kind : goal.invariant-loop-kind
invariant-loop-kind g l =
    let o = g.O.Output.chosen in
    let scope = scope_view o l.fn.scope in record {
      left : (t : _) (rest : List Answers) → length rest ≡ length (drop l.kind-index section_order) →
          g.O.Output.laid l.out t (sections_parts o scope l.module rest (drop l.kind-index section_order)) →
          (first : Answers) × (answers : List Answers) × (length answers ≡ length section_order)
          × g.O.Output.laid l.fn.out t (parts_at o.skeleton first None 0 l.module.customs ++ sections_parts o scope l.module answers section_order);
      scope : scope_view o l.scope ≡ scope;
    }
