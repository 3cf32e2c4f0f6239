-- The number of values that the label of an operator's block expects, by the operator's immediates.
use Rattle.std.proofs.Common.{◌≡◌, List, Bool, sym, ap, ◌∙◌}
use Rattle.wasmprinter_spec.specs.Operator.{Opcode, BlockType, Catch, Immediates, Block, TryTable, Operator}
use Rattle.wasmprinter_spec.specs.Folding.Arities.{Signatures, is_loop, block_results, label_of_type, label_of_block}

module _ (s : Signatures) (p : Opcode) (i : Immediates) (o : Operator) (t : BlockType) where
  pub label_in_block : (b : Bool) → record { opcode = p; immediates = i } ≡ o → i ≡ Block t → b ≡ is_loop p → label_of_type s b t ≡ label_of_block s o
  label_in_block b e is l =
      ap (λ (b : Bool). label_of_type s b t) l ∙ ap (λ (i : Immediates). label_of_block s (record { opcode = p; immediates = i })) (sym is) ∙ ap (label_of_block s) e

  pub label_in_try : (cs : List Catch) → record { opcode = p; immediates = i } ≡ o → i ≡ TryTable t cs → block_results s t ≡ label_of_block s o
  label_in_try cs e is = ap (λ (i : Immediates). label_of_block s (record { opcode = p; immediates = i })) (sym is) ∙ ap (label_of_block s) e
