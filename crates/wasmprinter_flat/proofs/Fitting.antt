-- Immediates that have the shape of their opcode.
use Rattle.std.specs.Prelude.{◌≡◌, ℕ, ℤ, suc, List, [], ◌∷◌, ◌++◌, length, Option, Some, None, MatchOption, refl}
use Rattle.std.proofs.Common.{subst}
use Rattle.wasmprinter_spec.specs.Grammar.{some_is}
use Rattle.wasmprinter_spec.specs.Float.{single, double}
use Rattle.wasmprinter_spec.specs.Row.{Row, Shape, NoneShape, FenceShape, BlockShape, TryTableShape, BranchTableShape, SelectShape, CastShape, LaneShape}
use Rattle.wasmprinter_spec.specs.Row.{I32Shape, I64Shape, F32Shape, F64Shape}
use Rattle.wasmprinter_spec.specs.Types.{RefType, ValType}
use Rattle.wasmprinter_spec.specs.Operator.{Opcode, BlockType, Catch, Immediates, NoImmediates, Block, TryTable, BranchTable, Types, Cast, Lane, I32, I64, F32, F64}
use Rattle.wasmprinter_spec.specs.Table.{by_opcode, shape_of_row, shape_of}
use Rattle.wasmprinter_spec.specs.Labels.{Label}
use Rattle.wasmprinter_spec.specs.Piece.{OneSpace, Constant, Float}
use Rattle.wasmprinter_spec.specs.Layout.Identifiers.{leading_id_and_name_pieces}
use Rattle.wasmprinter_spec.specs.Layout.ValTypes.{ref_pieces}
use Rattle.wasmprinter_spec.specs.Layout.Operators.{Setting, block_pieces, ending_pieces, catches_pieces, label_pieces, labels_pieces, select_pieces, lane_pieces, immediate_pieces}
use Rattle.wasmprinter_ops.specs.Immediates.{HasShape, IsListedAs}

module _ (s : Setting) (inner xs : List Label) (own : Label) where
  pub none-out : (shape : Shape) → HasShape shape NoImmediates → immediate_pieces s inner xs own shape NoImmediates ≡ []
  unfolding immediate_pieces
  none-out NoneShape h = refl
  none-out FenceShape h = refl
  none-out _ h = absurd cc

  pub block-out : (shape : Shape) (t : BlockType) → HasShape shape (Block t) →
      immediate_pieces s inner xs own shape (Block t) ≡ leading_id_and_name_pieces own ++ (block_pieces s t ++ ending_pieces s.form own (suc (length xs)))
  unfolding immediate_pieces
  block-out BlockShape t h = refl
  block-out _ t h = absurd cc

  pub try_table-out : (shape : Shape) (t : BlockType) (cs : List Catch) → HasShape shape (TryTable t cs) →
      immediate_pieces s inner xs own shape (TryTable t cs)
      ≡ leading_id_and_name_pieces own ++ (block_pieces s t ++ (catches_pieces s inner xs cs ++ ending_pieces s.form own (suc (length xs))))
  unfolding immediate_pieces
  try_table-out TryTableShape t cs h = refl
  try_table-out _ t cs h = absurd cc

  pub branch-out : (shape : Shape) (ls : List ℕ) (l : ℕ) → HasShape shape (BranchTable ls l) →
      immediate_pieces s inner xs own shape (BranchTable ls l) ≡ labels_pieces inner xs ls l
  unfolding immediate_pieces
  branch-out BranchTableShape ls l h = refl
  branch-out _ ls l h = absurd cc

  pub select-out : (shape : Shape) (ts : List ValType) → HasShape shape (Types ts) → immediate_pieces s inner xs own shape (Types ts) ≡ select_pieces s.names ts
  unfolding immediate_pieces
  select-out SelectShape ts h = refl
  select-out _ ts h = absurd cc

  pub cast-out : (shape : Shape) (l : ℕ) (r t : RefType) → HasShape shape (Cast l r t) →
      immediate_pieces s inner xs own shape (Cast l r t) ≡ label_pieces inner xs l ++ (OneSpace ∷ (ref_pieces s.names r ++ (OneSpace ∷ ref_pieces s.names t)))
  unfolding immediate_pieces
  cast-out CastShape l r t h = refl
  cast-out _ l r t h = absurd cc

  pub lane-out : (shape : Shape) (k : ℕ) → HasShape shape (Lane k) → immediate_pieces s inner xs own shape (Lane k) ≡ lane_pieces k
  unfolding immediate_pieces
  lane-out LaneShape k h = refl
  lane-out _ k h = absurd cc

  pub i32-out : (shape : Shape) (z : ℤ) → HasShape shape (I32 z) → immediate_pieces s inner xs own shape (I32 z) ≡ Constant z ∷ []
  unfolding immediate_pieces
  i32-out I32Shape z h = refl
  i32-out _ z h = absurd cc

  pub i64-out : (shape : Shape) (z : ℤ) → HasShape shape (I64 z) → immediate_pieces s inner xs own shape (I64 z) ≡ Constant z ∷ []
  unfolding immediate_pieces
  i64-out I64Shape z h = refl
  i64-out _ z h = absurd cc

  pub f32-out : (shape : Shape) (bits : ℕ) → HasShape shape (F32 bits) → immediate_pieces s inner xs own shape (F32 bits) ≡ OneSpace ∷ (Float single bits ∷ [])
  unfolding immediate_pieces
  f32-out F32Shape bits h = refl
  f32-out _ bits h = absurd cc

  pub f64-out : (shape : Shape) (bits : ℕ) → HasShape shape (F64 bits) → immediate_pieces s inner xs own shape (F64 bits) ≡ OneSpace ∷ (Float double bits ∷ [])
  unfolding immediate_pieces
  f64-out F64Shape bits h = refl
  f64-out _ bits h = absurd cc

-- The immediates of a listed opcode have the shape that the table gives it.
row-fits : (r : Option Row) (s : Shape) (i : Immediates) → MatchOption r ⊥ (λ x. HasShape x.shape i) → shape_of_row r ≡ Some s → HasShape s i
row-fits None s i h e = absurd h
row-fits (Some r) s i h e = subst (λ (x : Shape). HasShape x i) (some_is r.shape s e) h

pub listed-fits : (c : Opcode) (s : Shape) (i : Immediates) → IsListedAs c i → shape_of c ≡ Some s → HasShape s i
listed-fits c s i h e = row-fits (by_opcode c) s i h e
