use Rattle.std.proofs.Common.{◌≡◌, Option, Some, None, length, refl, ap, sym, ◌∙◌}
use Rattle.std.specs.Prelude.{slice_get}
use Rattle.wasmprinter_spec.specs.Repeated.{some_or}
use Rattle.wasmprinter_spec.specs.Placed.{PlacedModule}
use Rattle.std.proofs.lemmas.Option.{slice_get_read, slice_get_past}
use Rattle.wasmprinter_hidden.specs.NameCounts.{function_counts}
use Rattle.wasmprinter_hidden.specs.declared.name_counts.FunctionCounts.{FunctionCounts}
use Rattle.wasmprinter_hidden.proofs.FunctionCounting.{local_count_is, block_count_is}
use Rattle.wasmprinter_hidden.proofs.name_counts.NameCounts.function.Goals as goal

pub returns-in-Some : goal.returns-in-Some
returns-in-Some c =
    let m = c.args.self.now in
    let all = c.deref.result.now in
    let are : all ≡ function_counts m =
    c.deref.ensures.value ∙ c.self.invariant.of_functions ∙ ap (λ (x : PlacedModule). function_counts x) c.self.view_is in
    let (there, item, must, (lt, at), or_else) = c.in-Some.ensures.lookup in
    let found : slice_get all c.args.index ≡ Some c.in-Some.counts.now = slice_get_read all (length all) c.args.index c.in-Some.counts.now refl lt item in
    record {
      locals = sym (local_count_is m c.args.index all are ∙ ap (λ (o : Option FunctionCounts). some_or o 0 (λ x. x.locals)) found);
      labels = sym (block_count_is m c.args.index all are ∙ ap (λ (o : Option FunctionCounts). some_or o 0 (λ x. x.labels)) found);
    }

pub returns-in-None : goal.returns-in-None
returns-in-None c =
    let m = c.args.self.now in
    let all = c.deref.result.now in
    let are : all ≡ function_counts m =
    c.deref.ensures.value ∙ c.self.invariant.of_functions ∙ ap (λ (x : PlacedModule). function_counts x) c.self.view_is in
    let (there, item, must, le, or_else) = c.in-None.ensures.lookup in
    let none : slice_get all c.args.index ≡ None = slice_get_past all c.args.index le in
    record {
      locals = sym (local_count_is m c.args.index all are ∙ ap (λ (o : Option FunctionCounts). some_or o 0 (λ x. x.locals)) none);
      labels = sym (block_count_is m c.args.index all are ∙ ap (λ (o : Option FunctionCounts). some_or o 0 (λ x. x.labels)) none);
    }
