-- The effect of each operator on the lists.
use Rattle.std.proofs.Common.{◌≡◌, ℕ, suc, ◌+◌, ◌-◌, ◌≤◌, List, [], ◌∷◌, ◌++◌, length, take, drop, refl, sym, ◌∙◌, ap, subst, arith, append_assoc, length-append}
use Rattle.std.proofs.lemmas.List.{same_from_push, drop_at, take_at, append-nil, length-take-le}
use Rattle.std.proofs.Math.Seq.{take-append-add}
use Rattle.wasmprinter_spec.specs.Folding.Arities.{greatest}
use Rattle.wasmprinter_spec.specs.Folding.Tree.{NodesOf, Nil, Snoc, row_of_both, front, last, count, operand_search, with_operands}
use Rattle.wasmprinter_spec.proofs.Folding.{row_of_both-front-last}
use Rattle.wasmprinter_fold.specs.declared.nodes.NodeText.{NodeText}
use Rattle.wasmprinter_fold.specs.declared.nodes.Node.{Node}
use Rattle.wasmprinter_fold.specs.declared.nodes.builder.Frame.{Frame}
use Rattle.wasmprinter_fold.specs.declared.nodes.builder.Arm.{Arm}
use Rattle.wasmprinter_fold.specs.declared.nodes.builder.Arm.TheVariants as arm
use Rattle.wasmprinter_fold.specs.declared.nodes.candidates.Candidate.{Candidate}
use Rattle.wasmprinter_fold.specs.declared.nodes.candidates.Cut.{Cut}
use Rattle.wasmprinter_fold.specs.Postorder.{postorder}
use Rattle.wasmprinter_fold.specs.Candidates.{width, candidate_after, candidates, IsCut, IsOperandsCut, IsEndOf, IsLimited}
use Rattle.wasmprinter_fold.specs.Building.{OpenNodes, Top, InBlock, InThen, InElse, state_at, state_after_end, state_after_else}
use Rattle.wasmprinter_fold.specs.Frames.{State, base, base_candidates, frame_in, frames, AreLimited, AreListsOf, with_node, with_case, with_block}
use Rattle.wasmprinter_fold.proofs.Postorders.{length-postorder, postorder-row_of_both, count-row_of_both}
use Rattle.wasmprinter_fold.proofs.Candidates.{length-candidates, width-row_of_both, take-candidates, left-limited, front-limited}

-- ---- The innermost block

-- The frame t of the innermost block comes after the frames `rest` of the others.
abbrev pub IsTop : OpenNodes NodeText → List Frame → Frame → Type 0
IsTop Top rest t = ⊥
IsTop (InBlock o b x q) rest t = (rest ≡ frames o) × (t ≡ frame_in o b Nil arm.Block x q)
IsTop (InThen o b d x y q) rest t = (rest ≡ frames o) × (t ≡ frame_in o b d (arm.Then y) x q)
IsTop (InElse o b d x y q) rest t = (rest ≡ frames o) × (t ≡ frame_in o b d (arm.Else y) x q)

is_top : (o : OpenNodes NodeText) (rest : List Frame) (t : Frame) → frames o ≡ rest ++ t ∷ [] → IsTop o rest t
is_top Top rest t e = absurd (omega (arith, ap length e, length-append rest (t ∷ [])))
is_top (InBlock o b x q) rest t e = let p = same_from_push _ _ _ _ e in (sym p.0, sym p.1)
is_top (InThen o b d x y q) rest t e = let p = same_from_push _ _ _ _ e in (sym p.0, sym p.1)
is_top (InElse o b d x y q) rest t e = let p = same_from_push _ _ _ _ e in (sym p.0, sym p.1)

-- The innermost frame says where the candidates of the open part begin.
part-top : (o : OpenNodes NodeText) (rest : List Frame) (t : Frame) → IsTop o rest t → t.candidates_start ≡ length (base_candidates o)
part-top Top rest t h = absurd h
part-top (InBlock o b x q) rest t h = ap (λ (u : Frame). u.candidates_start) h.1
part-top (InThen o b d x y q) rest t h = ap (λ (u : Frame). u.candidates_start) h.1
part-top (InElse o b d x y q) rest t h = ap (λ (u : Frame). u.candidates_start) h.1

pub part_some : (o : OpenNodes NodeText) (all rest : List Frame) (t : Frame) → all ≡ frames o → all ≡ rest ++ t ∷ []
    → t.candidates_start ≡ length (base_candidates o)
part_some o all rest t e h = part-top o rest t (is_top o rest t (sym e ∙ h))

pub part_none : (o : OpenNodes NodeText) (all : List Frame) → all ≡ frames o → length all ≡ 0 → 0 ≡ length (base_candidates o)
part_none Top all e h = refl
part_none (InBlock o b x q) all e h = absurd (omega (arith, h, ap length e, length-append {A = Frame}))
part_none (InThen o b d x y q) all e h = absurd (omega (arith, h, ap length e, length-append {A = Frame}))
part_none (InElse o b d x y q) all e h = absurd (omega (arith, h, ap length e, length-append {A = Frame}))

-- ---- One more node

-- A node that is added after the nodes that it holds gives the row with that node last.
wrapped : (before : List Node) (b parts : NodesOf NodeText) (x : NodeText) (r from : ℕ) (nodes : List Node)
    → nodes ≡ (before ++ postorder b) ++ postorder parts → from ≡ length (before ++ postorder b)
    → with_node nodes x r from ≡ before ++ postorder (Snoc b x r parts)
wrapped before b parts x r from nodes e at =
    let size : length nodes - from ≡ count parts =
    omega (arith, ap length e, length-append (before ++ postorder b) (postorder parts), length-postorder parts, at) in
    let node : ℕ → Node = λ n. record { head = x; results = r; size = suc n } in
    ap (λ (n : ℕ). nodes ++ node n ∷ []) size
    ∙ (ap (λ (l : List Node). l ++ node (count parts) ∷ []) e ∙ simp append_assoc)

-- A row in two parts.
two_rows : (nodes before : List Node) (f b parts : NodesOf NodeText) → nodes ≡ before ++ postorder f → f ≡ row_of_both b parts
    → nodes ≡ (before ++ postorder b) ++ postorder parts
two_rows nodes before f b parts e h =
    e
    ∙ (ap (λ (g : NodesOf NodeText). before ++ postorder g) h
    ∙ (ap (λ (l : List Node). before ++ l) (postorder-row_of_both b parts)
    ∙ sym (append_assoc before (postorder b) (postorder parts))))

-- ---- The open part

module _ (nodes : List Node) (row : List Candidate) (blocks : List Frame) (s : State) (h : AreListsOf nodes row blocks s) where
  ends_at : length nodes ≡ length (base s.outer) + count s.groups
  ends_at = ap length h.rows ∙ (length-append (base s.outer) (postorder s.groups) ∙ ap (λ (n : ℕ). length (base s.outer) + n) (length-postorder s.groups))

  pub part_fits : (part : ℕ) → part ≡ length (base_candidates s.outer) → part ≤ length row
  part_fits part e = omega (arith, e, ap length h.open_row, length-append (base_candidates s.outer) (candidates (length (base s.outer)) s.groups))

  pub is_end : (part end : ℕ) → part ≡ length (base_candidates s.outer) → end ≡ length nodes
      → IsEndOf (drop part row) end (length (base s.outer)) s.groups
  is_end part end p e =
      record {
        whole =
            ap (λ (n : ℕ). drop n row) p
            ∙ (ap (drop (length (base_candidates s.outer))) h.open_row
            ∙ drop_at (base_candidates s.outer) (candidates (length (base s.outer)) s.groups) (length (base_candidates s.outer)) refl);
        ends = e ∙ ends_at;
      }

  -- Where the open part is cut, the nodes after the cut are at the end of the lists.
  module _ (b parts : NodesOf NodeText) (whole : s.groups ≡ row_of_both b parts) (part : ℕ) (begins : part ≡ length (base_candidates s.outer)) (cut : Cut)
      (is : IsCut (length (base s.outer)) b cut) where
    pub cut_fits : cut.start ≤ length nodes
    cut_fits = omega (arith, is.start, ends_at, ap count whole, count-row_of_both b parts)

    pub cut_at : cut.start ≡ length (base s.outer ++ postorder b)
    cut_at = omega (arith, is.start, length-append (base s.outer) (postorder b), length-postorder b)

    pub kept_row : take (part + cut.kept) row ≡ base_candidates s.outer ++ candidates (length (base s.outer)) b
    kept_row =
        let first : ℕ = length (base s.outer) in
        let outer : List Candidate = base_candidates s.outer in
        ap (λ (n : ℕ). take (n + cut.kept) row) begins
        ∙ (ap (take (length outer + cut.kept)) h.open_row
        ∙ (take-append-add outer (candidates first s.groups) cut.kept
        ∙ (ap (λ (n : ℕ). outer ++ take n (candidates first s.groups)) is.kept
        ∙ (ap (λ (f : NodesOf NodeText). outer ++ take (width b) (candidates first f)) whole
        ∙ ap (λ (l : List Candidate). outer ++ l) (take-candidates first b parts)))))

    pub kept_fits : part + cut.kept ≤ length row
    kept_fits =
        omega (arith, begins, is.kept, ap length h.open_row, length-append (base_candidates s.outer) (candidates (length (base s.outer)) s.groups), length-candidates (length (base s.outer)) s.groups, ap width whole, width-row_of_both b parts)

-- ---- A plain operator

-- The premises and results of adding a plain operator, if the nodes after the cut are its operands.
pub record AddsPlain (nodes : List Node) (row : List Candidate) (blocks : List Frame) (s : State) (x : NodeText) (operands own part : ℕ) (cut : Cut)
    (results : ℕ) : Type 0 where
  pub before : NodesOf NodeText
  pub fits : cut.start ≤ length nodes
  pub within : part + cut.kept ≤ length row
  pub cuts : IsCut (length (base s.outer)) before cut
  pub limited : IsLimited before
  pub stands : (new : List Node) (more : List Candidate) → new ≡ with_node nodes x results cut.start
      → more ≡ take (part + cut.kept) row ++ candidate_after (length (base s.outer)) before results ∷ []
      → AreListsOf new more blocks (state_at s.outer (with_operands s.groups x own (operand_search operands s.groups)))

module _ (nodes : List Node) (row : List Candidate) (blocks : List Frame) (s : State) (h : AreListsOf nodes row blocks s) (x : NodeText)
    (operands own part end : ℕ) (begins : part ≡ length (base_candidates s.outer)) (ends : end ≡ length nodes) (cut : Cut) (results : ℕ)
    (most : results ≤ greatest)
    (found : (first : ℕ) (f : NodesOf NodeText) → IsEndOf (drop part row) end first f → IsOperandsCut first f own (operand_search operands f) cut results) where
  pub adds_plain : AddsPlain nodes row blocks s x operands own part cut results
  adds_plain =
      let at = found (length (base s.outer)) s.groups (is_end nodes row blocks s h part end begins ends) in
      let b : NodesOf NodeText = at.before in
      let t : NodesOf NodeText = at.taken in
      record {
        before = b;
        fits = cut_fits nodes row blocks s h b t at.whole part begins cut at.cuts;
        within = kept_fits nodes row blocks s h b t at.whole part begins cut at.cuts;
        cuts = at.cuts;
        limited = left-limited s.groups b t at.whole h.limited;
        stands =
            λ new more e m.
            let next : Candidate = candidate_after (length (base s.outer)) b results in
            let P : NodesOf NodeText → Type 0 = λ f. AreListsOf new more blocks (state_at s.outer f) in
            subst P (sym (at.folds x))
            (record {
              rows =
                  e
                  ∙ wrapped (base s.outer) b t x results cut.start nodes (two_rows nodes (base s.outer) s.groups b t h.rows at.whole)
                  (cut_at nodes row blocks s h b t at.whole part begins cut at.cuts);
              open_row =
                  m
                  ∙ (ap (λ (l : List Candidate). l ++ next ∷ []) (kept_row nodes row blocks s h b t at.whole part begins cut at.cuts)
                  ∙ append_assoc (base_candidates s.outer) (candidates (length (base s.outer)) b) (next ∷ []));
              open_blocks = h.open_blocks;
              outer_limited = h.outer_limited;
              limited = (left-limited s.groups b t at.whole h.limited, most);
            });
      }

-- ---- Opening a block

pub opens_block : (nodes : List Node) (row : List Candidate) (blocks : List Frame) (s : State) → AreListsOf nodes row blocks s
    → (start part own : ℕ) (x : NodeText) → own ≤ greatest → start ≡ length nodes → part ≡ length row → (new : List Frame)
    → new ≡ blocks ++ record { arm = arm.Block; head = x; results = own; operands_start = start; start = start; candidates_start = part } ∷ []
    → AreListsOf nodes row new (state_at (InBlock s.outer s.groups x own) Nil)
opens_block nodes row blocks s h start part own x most here width new e =
    let all : List Node = base s.outer ++ postorder s.groups in
    let row_is : List Candidate = base_candidates s.outer ++ candidates (length (base s.outer)) s.groups in
    let frame : ℕ → ℕ → ℕ → Frame = λ a b c. record { arm = arm.Block; head = x; results = own; operands_start = a; start = b; candidates_start = c } in
    record {
      rows = h.rows ∙ sym (append-nil all);
      open_row = h.open_row ∙ sym (append-nil row_is);
      open_blocks =
          e
          ∙ (ap (λ (l : List Frame). l ++ frame start start part ∷ []) h.open_blocks
          ∙ (ap (λ (n : ℕ). frames s.outer ++ frame n n part ∷ []) (here ∙ ap length h.rows)
          ∙ (ap (λ (n : ℕ). frames s.outer ++ frame (length all) n part ∷ []) (ap length (sym (append-nil all)))
          ∙ ap (λ (n : ℕ). frames s.outer ++ frame (length all) (length (all ++ [])) n ∷ []) (width ∙ ap length h.open_row))));
      outer_limited = (h.outer_limited, h.limited, most);
      limited = tt;
    }

pub opens_if : (nodes : List Node) (row : List Candidate) (blocks : List Frame) (s : State) → AreListsOf nodes row blocks s
    → (outer start own : ℕ) (x y : NodeText) → own ≤ greatest → outer ≡ length (base_candidates s.outer) → (cut : Cut)
    → IsCut (length (base s.outer)) (front s.groups) cut → start ≡ length nodes → (more : List Candidate) → more ≡ take (outer + cut.kept) row → (new : List Frame)
    → new ≡ blocks ++ record { arm = arm.Then y; head = x; results = own; operands_start = cut.start; start = start; candidates_start = outer + cut.kept } ∷ []
    → AreListsOf nodes more new (state_at (InThen s.outer (front s.groups) (last s.groups) x y own) Nil)
opens_if nodes row blocks s h outer start own x y most begins cut is here more m new e =
    let g : NodesOf NodeText = s.groups in
    let whole : g ≡ row_of_both (front g) (last g) = sym (row_of_both-front-last g) in
    let split : nodes ≡ (base s.outer ++ postorder (front g)) ++ postorder (last g) = two_rows nodes (base s.outer) g (front g) (last g) h.rows whole in
    let kept : take (outer + cut.kept) row ≡ base_candidates s.outer ++ candidates (length (base s.outer)) (front g) =
    kept_row nodes row blocks s h (front g) (last g) whole outer begins cut is in
    let fits : outer + cut.kept ≤ length row = kept_fits nodes row blocks s h (front g) (last g) whole outer begins cut is in
    let at : cut.start ≡ length (base s.outer ++ postorder (front g)) = cut_at nodes row blocks s h (front g) (last g) whole outer begins cut is in
    let part : outer + cut.kept ≡ length (base_candidates s.outer ++ candidates (length (base s.outer)) (front g)) =
    sym (length-take-le (outer + cut.kept) row fits) ∙ ap length kept in
    let frame : ℕ → ℕ → ℕ → Frame = λ a b c. record { arm = arm.Then y; head = x; results = own; operands_start = a; start = b; candidates_start = c } in
    record {
      rows = split ∙ sym (append-nil ((base s.outer ++ postorder (front g)) ++ postorder (last g)));
      open_row = m ∙ (kept ∙ sym (append-nil (base_candidates s.outer ++ candidates (length (base s.outer)) (front g))));
      open_blocks =
          e
          ∙ (ap (λ (l : List Frame). l ++ frame cut.start start (outer + cut.kept) ∷ []) h.open_blocks
          ∙ (ap (λ (n : ℕ). frames s.outer ++ frame n start (outer + cut.kept) ∷ []) at
          ∙ (ap (λ (n : ℕ). frames s.outer ++ frame (length (base s.outer ++ postorder (front g))) n (outer + cut.kept) ∷ []) (here ∙ ap length split)
          ∙ ap (λ (n : ℕ). frames s.outer ++ frame (length (base s.outer ++ postorder (front g))) (length ((base s.outer ++ postorder (front g)) ++ postorder (last g))) n ∷ []) part)));
      outer_limited = (h.outer_limited, front-limited g h.limited, most);
      limited = tt;
    }

-- ---- The end of a block, and an `else`

-- Closing the innermost block, whose frame is t, gives the state s.
pub record Closes (nodes : List Node) (row : List Candidate) (rest : List Frame) (t : Frame) (s : State) : Type 0 where
  pub fits : t.start ≤ length nodes
  pub in_order : t.operands_start ≤ t.start
  pub outer : OpenNodes NodeText
  pub before : NodesOf NodeText
  pub open_blocks : rest ≡ frames outer
  pub part_fits : length (base_candidates outer) ≤ length (take t.candidates_start row)
  pub open_end : (part : ℕ) → part ≡ length (base_candidates outer)
      → IsEndOf (drop part (take t.candidates_start row)) t.operands_start (length (base outer)) before
  pub limited : IsLimited before
  pub stands : (new : List Node) (more : List Candidate) → new ≡ with_block nodes t
      → more ≡ take t.candidates_start row ++ candidate_after (length (base outer)) before t.results ∷ [] → AreListsOf new more rest s

-- The first case of an `if` is closed and the second one opened.
pub record Turned (nodes : List Node) (row : List Candidate) (rest : List Frame) (t : Frame) (case otherwise : NodeText) (s : State) : Type 0 where
  pub fits : t.start ≤ length nodes
  pub stands : (mid : List Node) → mid ≡ with_node nodes case 0 t.start
      → AreListsOf mid (take t.candidates_start row) (rest ++ record t { arm = arm.Else otherwise; start = length mid } ∷ []) s

Closes-at : (o : OpenNodes NodeText) (b d f : NodesOf NodeText) (a : Arm) (x : NodeText) (q : ℕ) (nodes : List Node) (row : List Candidate) (s : State)
    → AreLimited o → IsLimited b → q ≤ greatest
    → nodes ≡ ((base o ++ postorder b) ++ postorder d) ++ postorder f
    → row ≡ (base_candidates o ++ candidates (length (base o)) b) ++ candidates (length ((base o ++ postorder b) ++ postorder d)) f
    → (held : NodesOf NodeText) → with_case nodes a (length ((base o ++ postorder b) ++ postorder d)) ≡ (base o ++ postorder b) ++ postorder held
    → s ≡ state_at o (Snoc b x q held)
    → Closes nodes row (frames o) (frame_in o b d a x q) s
Closes-at o b d f a x q nodes row s outer limited most e r held case is =
    let kept : List Candidate = base_candidates o ++ candidates (length (base o)) b in
    let kept_is : take (length kept) row ≡ kept =
    ap (take (length kept)) r ∙ take_at kept (candidates (length ((base o ++ postorder b) ++ postorder d)) f) (length kept) refl in
    let next : Candidate = candidate_after (length (base o)) b q in
    record {
      fits = omega (arith, ap length e, length-append ((base o ++ postorder b) ++ postorder d) (postorder f));
      in_order = omega (arith, length-append (base o ++ postorder b) (postorder d));
      outer = o;
      before = b;
      open_blocks = refl;
      part_fits = omega (arith, ap length kept_is, length-append (base_candidates o) (candidates (length (base o)) b));
      open_end =
          λ part p. record {
            whole =
                ap (λ (n : ℕ). drop n (take (length kept) row)) p
                ∙ (ap (drop (length (base_candidates o))) kept_is
                ∙ drop_at (base_candidates o) (candidates (length (base o)) b) (length (base_candidates o)) refl);
            ends = length-append (base o) (postorder b) ∙ ap (λ (n : ℕ). length (base o) + n) (length-postorder b);
          };
      limited = limited;
      stands =
          λ new more n m.
          let P : State → Type 0 = λ t. AreListsOf new more (frames o) t in
          subst P (sym is)
          (record {
            rows = n ∙ wrapped (base o) b held x q _ _ case refl;
            open_row =
                m
                ∙ (ap (λ (l : List Candidate). l ++ next ∷ []) kept_is
                ∙ append_assoc (base_candidates o) (candidates (length (base o)) b) (next ∷ []));
            open_blocks = refl;
            outer_limited = outer;
            limited = (limited, most);
          });
    }

module _ (nodes : List Node) (row : List Candidate) (rest : List Frame) (t : Frame) where
  closes_top : (o : OpenNodes NodeText) (f : NodesOf NodeText) → nodes ≡ base o ++ postorder f
      → row ≡ base_candidates o ++ candidates (length (base o)) f → AreLimited o → IsTop o rest t → Closes nodes row rest t (state_after_end o f)
  closes_top Top f e r l h = absurd h
  closes_top (InBlock o b x q) f e r l h =
      let all : List Node = base o ++ postorder b in
      let empty : all ++ [] ≡ all = append-nil all in
      rw (h.0, h.1)
      (Closes-at o b Nil f arm.Block x q nodes row (state_after_end (InBlock o b x q) f) l.0 l.1 l.2
      (e ∙ ap (λ (l : List Node). l ++ postorder f) (sym empty))
      (r ∙ ap (λ (l : List Node). (base_candidates o ++ candidates (length (base o)) b) ++ candidates (length l) f) (sym empty))
      f e refl)
  closes_top (InThen o b d x y q) f e r l h =
      rw (h.0, h.1)
      (Closes-at o b d f (arm.Then y) x q nodes row (state_after_end (InThen o b d x y q) f) l.0 l.1 l.2 e r (Snoc d y 0 f)
      (wrapped (base o ++ postorder b) d f y 0 _ nodes e refl) refl)
  closes_top (InElse o b d x y q) f e r l h =
      rw (h.0, h.1)
      (Closes-at o b d f (arm.Else y) x q nodes row (state_after_end (InElse o b d x y q) f) l.0 l.1 l.2 e r (Snoc d y 0 f)
      (wrapped (base o ++ postorder b) d f y 0 _ nodes e refl) refl)

Turned-at : (o : OpenNodes NodeText) (b d f : NodesOf NodeText) (x y z : NodeText) (q : ℕ) (nodes : List Node) (row : List Candidate)
    → AreLimited (InThen o b d x y q) → nodes ≡ ((base o ++ postorder b) ++ postorder d) ++ postorder f
    → row ≡ (base_candidates o ++ candidates (length (base o)) b) ++ candidates (length ((base o ++ postorder b) ++ postorder d)) f
    → Turned nodes row (frames o) (frame_in o b d (arm.Then y) x q) y z (state_after_else z (InThen o b d x y q) f)
Turned-at o b d f x y z q nodes row limited e r =
    let kept : List Candidate = base_candidates o ++ candidates (length (base o)) b in
    let case : with_node nodes y 0 (length ((base o ++ postorder b) ++ postorder d)) ≡ (base o ++ postorder b) ++ postorder (Snoc d y 0 f) =
    wrapped (base o ++ postorder b) d f y 0 _ nodes e refl in
    record {
      fits = omega (arith, ap length e, length-append ((base o ++ postorder b) ++ postorder d) (postorder f));
      stands =
          λ mid m. record {
            rows = (m ∙ case) ∙ sym (append-nil ((base o ++ postorder b) ++ postorder (Snoc d y 0 f)));
            open_row =
                ap (take (length kept)) r
                ∙ (take_at kept (candidates (length ((base o ++ postorder b) ++ postorder d)) f) (length kept) refl ∙ sym (append-nil kept));
            open_blocks =
                ap (λ (n : ℕ). frames o ++ record { arm = arm.Else z; head = x; results = q; operands_start = length (base o ++ postorder b); start = n; candidates_start = length kept } ∷ [])
                (ap length (m ∙ case));
            outer_limited = limited;
            limited = tt;
          };
    }

turn_top : (o : OpenNodes NodeText) (f : NodesOf NodeText) (nodes : List Node) (row : List Candidate) (rest : List Frame) (t : Frame) (z otherwise : NodeText)
    → nodes ≡ base o ++ postorder f → row ≡ base_candidates o ++ candidates (length (base o)) f → AreLimited o → IsTop o rest t → t.arm ≡ arm.Then z
    → Turned nodes row rest t z otherwise (state_after_else otherwise o f)
turn_top Top f nodes row rest t z w e r l h a = absurd h
turn_top (InBlock o b x q) f nodes row rest t z w e r l h a = absurd (cc (ap (λ (u : Frame). u.arm) h.1))
turn_top (InThen o b d x y q) f nodes row rest t z w e r l h a =
    let same : z ≡ y = cc (ap (λ (u : Frame). u.arm) h.1) in
    rw (h.0, h.1, same) (Turned-at o b d f x y w q nodes row l e r)
turn_top (InElse o b d x y q) f nodes row rest t z w e r l h a = absurd (cc (ap (λ (u : Frame). u.arm) h.1))

module _ (nodes : List Node) (row : List Candidate) (blocks rest : List Frame) (t : Frame) (s : State) (h : AreListsOf nodes row blocks s)
    (e : blocks ≡ rest ++ t ∷ []) where
  top : IsTop s.outer rest t
  top = is_top s.outer rest t (sym h.open_blocks ∙ e)

  pub closes : Closes nodes row rest t (state_after_end s.outer s.groups)
  closes = closes_top nodes row rest t s.outer s.groups h.rows h.open_row h.outer_limited top

  pub turns : (case otherwise : NodeText) → t.arm ≡ arm.Then case → Turned nodes row rest t case otherwise (state_after_else otherwise s.outer s.groups)
  turns case otherwise = turn_top s.outer s.groups nodes row rest t case otherwise h.rows h.open_row h.outer_limited top
