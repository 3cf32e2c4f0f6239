use Rattle.std.proofs.Common.{◌≡◌, ℕ, ◌<◌, List, [], ◌∷◌, ◌++◌, length, length-append, append_assoc, append-nil, refl, sym, ap, ◌∙◌, arith}
use Rattle.std.proofs.lemmas.Result.{err_from_is_err_and}
use Rattle.wasmprinter_spec.specs.Name.{u32}
use Rattle.wasmprinter_decoder.proofs.Counting.{counts_items}
use Rattle.wasmprinter_decoder.proofs.function_section.read_type_indices.Goals as goal

pub returns-then-count-gt-MOST_FUNCTIONS-clause-reads : goal.returns-then-count-gt-MOST_FUNCTIONS-clause-reads
returns-then-count-gt-MOST_FUNCTIONS-clause-reads c = record {
  indices = c.in_ok-indices.indices;
  after = c.read_items.new.cursor;
  read = c.in_ok-indices.ensures.reads;
  counted = sym c.len-count.ensures;
  many = omega arith;
}

pub loop-index-init : goal.loop-index-init
loop-index-init c = record { can = tt; ends = tt; all = rw c.new-kept.ensures.items refl }

pub loop-index-preserved : goal.loop-index-preserved
loop-index-preserved c =
    let front : List ℕ = c.loop-index.kept.items in
    let rest : List ℕ = c.next.new.self in
    let all : (front ++ c.in-Some.index ∷ []) ++ rest ≡ c.into_iter-index-iterator.result =
    append_assoc front (c.in-Some.index ∷ []) rest ∙ ap (λ (xs : List ℕ). front ++ xs) (sym c.in-Some.ensures.steps) ∙ c.loop-index.invariant.all in
    record { can = tt; ends = tt; all = rw c.in_ok-push.ensures.items all }

pub returns-in_err-push-clause-reads : goal.returns-in_err-push-clause-reads
returns-in_err-push-clause-reads c =
    let (fault, failed, is) = err_from_is_err_and c.from_residual-in_err-push.result c.from_residual-in_err-push.ensures.1 in
    let same : c.into_iter-index-iterator.result ≡ c.in_ok-indices.indices = c.into_iter-index-iterator.ensures.into_iter_gives ∙ c.iter-index-items.ensures in
    let some : 0 < length c.in_ok-indices.indices =
    omega (arith, ap length c.in-Some.ensures.steps, ap length c.loop-index.invariant.all, ap length same, length-append c.loop-index.kept.items c.loop-index.index-iterator) in
    rw (failed, is) (counts_items u32 c.args.cursor.now (c.in_ok-indices.indices, c.read_items.new.cursor) c.in_ok-indices.ensures.reads some)

pub returns-clause-reads : goal.returns-clause-reads
returns-clause-reads c =
    let front : List ℕ = c.loop-index.kept.items in
    let same : c.into_iter-index-iterator.result ≡ c.in_ok-indices.indices = c.into_iter-index-iterator.ensures.into_iter_gives ∙ c.iter-index-items.ensures in
    let all : front ≡ c.in_ok-indices.indices = sym (append-nil front) ∙ ap (λ (xs : List ℕ). front ++ xs) (sym c.in-None.ensures.steps.0) ∙ c.loop-index.invariant.all ∙ same in
    (rw all c.in_ok-indices.ensures.reads, omega (arith, ap length all, c.len-count.ensures))
