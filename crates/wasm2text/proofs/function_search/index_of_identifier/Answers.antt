-- The first function with the identifier is found, or there is none.
use Rattle.std.proofs.Common.{◌≡◌, ℕ, rules, sym, subst, arith}
use Rattle.wasmprinter_spec.specs.Names.Content.{name_of}
use Rattle.wasmprinter_spec.specs.ModuleNames.{name_entries}
use Rattle.wasmprinter_custom.specs.Views.{name_at}
use Rattle.wasm2text.specs.FunctionText.{HasContent}
use Rattle.wasm2text.proofs.FunctionPlaces.{ranges_of_all, same_name}
use Rattle.wasm2text.proofs.function_search.index_of_identifier.Goals as goal

pub returns-then-branch : goal.returns-then-branch
returns-then-branch c =
    let m = c.args.module.now in
    let are : (s outer index : ℕ) → name_at c.in_ok-names.names s outer index ≡ name_of (name_entries m.customs) s outer index = search rules in (
      omega (arith, c.loop-index-test.true, ranges_of_all m, c.imported_count.ensures.is, c.function_count.ensures, c.from.ensures),
      subst (λ named. HasContent named c.args.word.now) (same_name c.args.synthesizes m c.in_ok-names.names are c.loop-index.index)
          (c.in_ok-has_content.ensures.0 c.if-branch.true),
    )

pub returns : goal.returns
returns c n lt is =
    let m = c.args.module.now in
    let are : (s outer index : ℕ) → name_at c.in_ok-names.names s outer index ≡ name_of (name_entries m.customs) s outer index = search rules in
    c.loop-index.invariant n
    (omega (arith, lt, c.loop-index-test.false, ranges_of_all m, c.imported_count.ensures.is, c.function_count.ensures, c.from.ensures))
    (subst (λ named. HasContent named c.args.word.now) (sym (same_name c.args.synthesizes m c.in_ok-names.names are n)) is)
