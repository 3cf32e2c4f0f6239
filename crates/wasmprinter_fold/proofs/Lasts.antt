-- The last node of a row.
use Rattle.std.proofs.Common.{◌≡◌, ℕ, suc, ◌+◌, ◌-◌, ◌≤◌, List, [], ◌∷◌, ◌++◌, length, take, drop, sym, ◌∙◌, ap, subst, arith, length-append}
use Rattle.std.proofs.lemmas.List.{same_from_push, take_at, drop_at}
use Rattle.wasmprinter_spec.specs.Folding.Tree.{NodesOf, Nil, Snoc, count, front}
use Rattle.wasmprinter_fold.specs.declared.nodes.NodeText.{NodeText}
use Rattle.wasmprinter_fold.specs.declared.nodes.Node.{Node}
use Rattle.wasmprinter_fold.specs.Postorder.{postorder, forest_of, IsPostorder}
use Rattle.wasmprinter_fold.specs.Rows.{IsLast}
use Rattle.wasmprinter_fold.proofs.Postorders.{forest_of-postorder, length-postorder, IsPostorder-postorder, length-row}

pub record EndsIn (f : NodesOf NodeText) (rest : List Node) (node : Node) : Type 0 where
  pub before : NodesOf NodeText
  pub parts : NodesOf NodeText
  pub is : f ≡ Snoc before node.head node.results parts
  pub is_rest : postorder before ++ postorder parts ≡ rest
  pub is_size : suc (count parts) ≡ node.size

ends_in : (f : NodesOf NodeText) (rest : List Node) (node : Node) → postorder f ≡ rest ++ node ∷ [] → EndsIn f rest node
ends_in Nil rest node e = absurd (omega (arith, ap length e, length-append rest (node ∷ [])))
ends_in (Snoc b h r parts) rest node e =
    let mine : Node = record { head = h; results = r; size = suc (count parts) } in
    let p = same_from_push (postorder b ++ postorder parts) rest mine node e in
    record {
      before = b;
      parts = parts;
      is = ap (λ (n : Node). Snoc b n.head n.results parts) p.1;
      is_rest = p.0;
      is_size = ap (λ (n : Node). n.size) p.1;
    }

module _ (row rest : List Node) (node : Node) (h : IsPostorder row) (e : row ≡ rest ++ node ∷ []) where
  last_of : EndsIn (forest_of row) rest node
  last_of = ends_in (forest_of row) rest node (h.whole ∙ e)

  lengths_of : length rest ≡ count last_of.before + count last_of.parts
  lengths_of =
      sym (ap length last_of.is_rest)
      ∙ (length-append (postorder last_of.before) (postorder last_of.parts)
      ∙ omega (arith, length-postorder last_of.before, length-postorder last_of.parts))

  pub size_above_zero : 1 ≤ node.size
  size_above_zero = omega (arith, last_of.is_size)

  pub size_fits : node.size - 1 ≤ length rest
  size_fits = omega (arith, last_of.is_size, lengths_of)

  pub is_last : (before parts : List Node) → before ≡ take (length rest - (node.size - 1)) rest
      → parts ≡ drop (length rest - (node.size - 1)) rest → IsLast row before node parts
  is_last before parts eb ep =
      let k : ℕ = length rest - (node.size - 1) in
      let at : length (postorder last_of.before) ≡ k =
      omega (arith, last_of.is_size, lengths_of, length-postorder last_of.before) in
      let b : before ≡ postorder last_of.before =
      eb ∙ (ap (take k) (sym last_of.is_rest) ∙ take_at (postorder last_of.before) (postorder last_of.parts) k at) in
      let p : parts ≡ postorder last_of.parts =
      ep ∙ (ap (drop k) (sym last_of.is_rest) ∙ drop_at (postorder last_of.before) (postorder last_of.parts) k at) in
      let fb : forest_of before ≡ last_of.before = ap forest_of b ∙ forest_of-postorder last_of.before in
      let fp : forest_of parts ≡ last_of.parts = ap forest_of p ∙ forest_of-postorder last_of.parts in
      record {
        whole =
            last_of.is
            ∙ (ap (λ (x : NodesOf NodeText). Snoc x node.head node.results last_of.parts) (sym fb)
            ∙ ap (λ (x : NodesOf NodeText). Snoc (forest_of before) node.head node.results x) (sym fp));
        before_row = subst IsPostorder (sym b) (IsPostorder-postorder last_of.before);
        parts_row = subst IsPostorder (sym p) (IsPostorder-postorder last_of.parts);
        lengths =
            omega (arith, ap length e, length-append rest (node ∷ []), lengths_of, ap length b, ap length p, length-postorder last_of.before, length-postorder last_of.parts);
      }

-- The length of the row before the last node is the number of nodes before it, at every depth.
pub front_count : (row before : List Node) (node : Node) (parts : List Node) → IsLast row before node parts
    → length before ≡ count (front (forest_of row))
front_count row before node parts is =
    length-row before is.before_row ∙ ap (λ (f : NodesOf NodeText). count (front f)) (sym is.whole)
