-- Parts of a layout, up to the first refusal
use Rattle.std.proofs.Common.{◌≡◌, ℕ, List, [], ◌∷◌, ◌++◌, None, sym, subst}
use Rattle.wasmprinter_spec.specs.Forest.{Forest, End, onto}
use Rattle.wasmprinter_spec.specs.Piece.{Piece}
use Rattle.wasmprinter_spec.specs.Layout.Customs.{Part, Shown, Stops, laid_parts}
use Rattle.wasmprinter_laws.proofs.Tokens.Grown.{onto_assoc}
use Rattle.wasmprinter_laws.proofs.Tokens.Pieces.{Bound}
use Rattle.wasmprinter_laws.proofs.Tokens.Writes.{WritesNoted, IsWritten, written, both_write, nothing_writes}

-- The items that parts write, if none is refused
pub data PartsWrite : List Part → Forest → Forest → Type 0 where
  no_parts : PartsWrite [] End End
  shown : {ps : List Piece} {parts : List Part} {f g k h : Forest} → WritesNoted Bound ps Bound f k → PartsWrite parts g h →
      PartsWrite (Shown ps ∷ parts) (onto f g) (onto k h)
  stopped : {ps : List Piece} {id : ℕ} {parts : List Part} {g h : Forest} → WritesNoted Bound ps Bound End End → PartsWrite parts g h →
      PartsWrite (Stops ps id ∷ parts) g h

-- Two lists of parts, joined
pub both_parts : {xs ys : List Part} {f g k h : Forest} → PartsWrite xs f k → PartsWrite ys g h → PartsWrite (xs ++ ys) (onto f g) (onto k h)
both_parts no_parts w = w
both_parts {ys = ys} {g = g'} {h = h'} (shown {ps} {parts} {f} {g} {k} {h} x rest) w =
    subst (λ t. PartsWrite (Shown ps ∷ (parts ++ ys)) t (onto (onto k h) h')) (sym (onto_assoc f g g'))
    (subst (PartsWrite (Shown ps ∷ (parts ++ ys)) (onto f (onto g g'))) (sym (onto_assoc k h h')) (shown x (both_parts rest w)))
both_parts (stopped x rest) w = stopped x (both_parts rest w)

pub parts_whole : {parts : List Part} {f k : Forest} → PartsWrite parts f k → (laid_parts parts).refused ≡ None → WritesNoted Bound (laid_parts parts).pieces Bound f k
parts_whole no_parts e = nothing_writes
parts_whole (shown x rest) e = both_write x (parts_whole rest e)
parts_whole (stopped x rest) e = absurd cc

pub parts_partly : {parts : List Part} {f k : Forest} → PartsWrite parts f k → IsWritten Bound (laid_parts parts).pieces Bound
parts_partly no_parts = written nothing_writes
parts_partly (shown x rest) = written (both_write x (parts_partly rest).writes)
parts_partly (stopped x rest) = written x
