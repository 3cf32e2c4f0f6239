use Rattle.std.proofs.Common.{◌≡◌, ◌+◌, ℕ, List, ◌∷◌, drop, ap, sym, ◌∙◌, arith}
use Rattle.wasmprinter_spec.specs.Grammar.{Placed}
use Rattle.wasmprinter_hidden.specs.OpenParts.{lengths}
use Rattle.wasmprinter_hidden.proofs.OpenParts.{left_more, left_none, lengths-drop, lengths-all}
use Rattle.wasmprinter_hidden.proofs.findings.Findings.add_items.Goals as goal

pub loop-item-preserved : goal.loop-item-preserved
loop-item-preserved g c =
    let place = g.T.Entry.place in
    let len = g.T.Shortest.len in
    let items = c.args.items.now in
    let item = c.item-item.result in
    let rest : List (Placed ℕ) = lengths place len (drop (c.loop-item.item-index + 1) items) in
    let step : lengths place len (drop c.loop-item.item-index items) ≡ record { place = c.place-place.result; value = len item } ∷ rest =
    lengths-drop place len items c.loop-item.item-index item c.loop-item-test.true c.item-item.is
    ∙ ap (λ (p : ℕ). record { place = p; value = len item } ∷ rest) (sym c.place-place.ensures) in
    left_more c.args.part c.args.self.now c.args.first (lengths place len items) c.loop-item.self c.close.new.self c.loop-item.last c.of_item-last.result
    c.place-place.result (len item) (lengths place len (drop c.loop-item.item-index items)) rest
    (omega (arith, c.place-place.type_inv)) c.in_ok-close.ensures c.of_item-last.ensures step c.loop-item.invariant

pub returns : goal.returns
returns g c =
    let place = g.T.Entry.place in
    let len = g.T.Shortest.len in
    let items = c.args.items.now in
    left_none c.args.part c.args.self.now c.args.first (lengths place len items) c.loop-item.self c.loop-item.last
    (lengths place len (drop c.loop-item.item-index items)) (lengths-all place len items c.loop-item.item-index c.loop-item-test.false) c.loop-item.invariant
