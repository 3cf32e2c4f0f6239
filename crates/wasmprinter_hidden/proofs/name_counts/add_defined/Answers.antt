use Rattle.std.proofs.Common.{◌+◌, ◌++◌, List, ap, sym, subst, ◌∙◌}
use Rattle.wasmprinter_hidden.specs.NameCounts.{params_of, declared_in, blocks_in, of_defined}
use Rattle.wasmprinter_hidden.specs.declared.name_counts.FunctionCounts.{FunctionCounts}
use Rattle.wasmprinter_hidden.proofs.NameCounting.{FunctionsLeft, functions_more}
use Rattle.wasmprinter_hidden.proofs.name_counts.add_defined.Goals as goal

pub loop-number-preserved : goal.loop-number-preserved
loop-number-preserved c =
    let m = c.args.module.now in
    let all : List FunctionCounts = c.args.counts.now.items ++ of_defined m in
    subst (λ (now : List FunctionCounts). FunctionsLeft m m.functions (c.loop-number.number + 1) now all) (sym c.in_ok-push.ensures.items)
    (functions_more m m.functions c.loop-number.number c.function-function.result c.from-params.result c.declared_count.result c.block_count.result
    c.loop-number.counts.items all c.function-function.ensures
    (c.from-params.ensures ∙ c.param_count.ensures ∙ ap (params_of m) c.type_index.ensures)
    (c.declared_count.ensures.all ∙ ap declared_in c.body.ensures)
    (c.block_count.ensures ∙ ap blocks_in c.body-in-loop-number.ensures)
    c.loop-number.invariant)
