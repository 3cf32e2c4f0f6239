use Rattle.std.proofs.Common.{◌≡◌, List, [], ◌∷◌, ◌++◌, append_assoc, append-nil, refl, sym, ap, ◌∙◌}
use Rattle.wasmprinter_spec.specs.Types.{SubType}
use Rattle.wasmprinter_decoder.proofs.type_section.add_types.Goals as goal

pub loop-sub_type-init : goal.loop-sub_type-init
loop-sub_type-init c = record { can = tt; ends = tt; all = refl }

pub loop-sub_type-preserved : goal.loop-sub_type-preserved
loop-sub_type-preserved c =
    let front : List SubType = c.loop-sub_type.types.items in
    let rest : List SubType = c.next.new.self in
    let all : (front ++ c.in-Some.sub_type ∷ []) ++ rest ≡ c.args.types.now.items ++ c.into_iter-sub_type-iterator.result =
    append_assoc front (c.in-Some.sub_type ∷ []) rest ∙ ap (λ (ts : List SubType). front ++ ts) (sym c.in-Some.ensures.steps) ∙ c.loop-sub_type.invariant.all in
    record { can = tt; ends = tt; all = rw c.in_ok-push.ensures.items all }

pub returns : goal.returns
returns c =
    let front : List SubType = c.loop-sub_type.types.items in
    let group : c.into_iter-sub_type-iterator.result ≡ c.args.group.now.value.types = c.into_iter-sub_type-iterator.ensures.into_iter_gives ∙ c.types-sub_type-items.ensures in
    sym (append-nil front) ∙ ap (λ (ts : List SubType). front ++ ts) (sym c.in-None.ensures.steps.0) ∙ c.loop-sub_type.invariant.all
    ∙ ap (λ (ts : List SubType). c.args.types.now.items ++ ts) group
