-- The text of folded operators reads back.
use Rattle.std.proofs.Common.{◌≡◌, ℕ, Bool, List, [], ◌∷◌, Some, true, false, map, sym, ap, ◌∙◌, subst}
use Rattle.std.proofs.lemmas.Simd.{map-map}
use Rattle.std.specs.List.{AllByRecursion}
use Rattle.wasmprinter_spec.specs.Grammar.{Placed, ◌>>=◌}
use Rattle.wasmprinter_spec.specs.Forest.{without_annotations}
use Rattle.wasmprinter_spec.specs.Operator.{Operator}
use Rattle.wasmprinter_spec.specs.Module.{without_places}
use Rattle.wasmprinter_spec.specs.Names.{AreNamed}
use Rattle.wasmprinter_spec.specs.Customs.Hints.{Hint}
use Rattle.wasmprinter_spec.specs.Options.{Options, IsBlank}
use Rattle.wasmprinter_spec.specs.Code.{chunks_of_forest}
use Rattle.wasmprinter_spec.specs.Text.Operators.{read_operators}
use Rattle.wasmprinter_spec.specs.Layout.Operators.{Form, Setting}
use Rattle.wasmprinter_spec.specs.Layout.Folded.{items, node_pieces}
use Rattle.wasmprinter_spec.specs.Folding.Arities.{Signatures}
use Rattle.wasmprinter_spec.specs.Folding.Code.{Item, NestedCode, flat, nested_code_of}
use Rattle.wasmprinter_spec.specs.Folding.Tree.{Nodes, tree}
use Rattle.wasmprinter_spec.proofs.Folding.{unfolding_of-tree}
use Rattle.wasmprinter_spec.proofs.FoldingCode.{nested_code_of-tree}
use Rattle.wasmprinter_laws.proofs.Tokens.Noted.{noted-without_annotations}
use Rattle.wasmprinter_laws.proofs.Tokens.Pieces.{Free, Bound}
use Rattle.wasmprinter_laws.proofs.Tokens.Writes.{WritesNoted, writes_forest, respelled_write}
use Rattle.wasmprinter_laws.specs.Listed.{IsListed, AreSignaturesInRange}
use Rattle.wasmprinter_laws.specs.FoldedLaws.{without_counts, FoldedOperatorsReadBack}
use Rattle.wasmprinter_laws.proofs.Operators.Lists.{chunks_of, expression_reads}
use Rattle.wasmprinter_laws.proofs.Folded.Items.{IsPrinted, own_chunk, IsHintless, unasked, told_chunks, told_items, items_printed, items_chunks}
use Rattle.wasmprinter_laws.proofs.Folded.Heads.{heads-tree}
use Rattle.wasmprinter_laws.proofs.Folded.Rows.{IsRow, row-tree}
use Rattle.wasmprinter_laws.proofs.Folded.Reads.{row_items, row_unfolds}
use Rattle.wasmprinter_laws.proofs.Folded.Texts.{nodes_spelled}
use Rattle.wasmprinter_laws.proofs.Folded.Spelled.{row_spelled}
use Rattle.wasmprinter_laws.proofs.Folded.Writes.{nodes_write}

-- The pieces of nodes, as they are printed, write their groups.
pub printed_nodes_write : (o : Options) → IsBlank o.indent → (form : Form) (f : Nodes) → IsRow form f → (nesting : ℕ) →
    WritesNoted Free (node_pieces o false form true nesting f) Bound (row_items false f) (row_items true f)
printed_nodes_write o spaces form f h nesting =
    respelled_write (nodes_spelled o spaces form true nesting f (row_spelled o spaces form f h)) (nodes_write o form f h nesting)

-- ---- items that are folded

-- The items have any numbers of operands and results.
module _ (form : Form) (xs : List Item) (printed : AllByRecursion (IsPrinted form) xs) (code : NestedCode) (is : nested_code_of xs ≡ Some code) where
  code_printed : AllByRecursion (IsPrinted form) (flat code)
  code_printed = subst (AllByRecursion (IsPrinted form)) (sym (nested_code_of-tree xs code is).0) printed

  -- Their nodes are a row that a text may contain.
  pub nodes_row : IsRow form (tree code)
  nodes_row = row-tree form code (nested_code_of-tree xs code is).1 code_printed

  -- The groups read as the operators in their flat order, each with its hint if hints are shown.
  nodes_unfold : (hints : Bool) → AllByRecursion (IsHintless hints) xs → chunks_of_forest (row_items hints (tree code)) ≡ Some (map (own_chunk hints) xs)
  nodes_unfold hints h =
      let rule = nested_code_of-tree xs code is in
      let hintless : AllByRecursion (IsHintless hints) (flat code) = subst (AllByRecursion (IsHintless hints)) (sym rule.0) h in
      row_unfolds hints form (tree code) nodes_row (heads-tree (IsHintless hints) code hintless)
      ∙ ap (λ ts. Some (told_chunks hints ts)) (unfolding_of-tree code rule.1)
      ∙ ap (λ cs. Some cs) (told_items hints form (flat code) code_printed hintless)
      ∙ ap (λ xs. Some (map (own_chunk hints) xs)) rule.0

-- ---- the list of operators, folded by the numbers that signatures give

module _ (s : Setting) (named : AreNamed s.names) (ranged : AreSignaturesInRange s.signature) (signatures : Signatures)
    (hs : List (Placed Hint)) (os : List (Placed Operator)) (listed : AllByRecursion IsListed (without_places os)) (code : NestedCode)
    (is : nested_code_of (items s signatures hs 0 [] [] os) ≡ Some code) where
  abbrev own_items : List Item
  own_items = items s signatures hs 0 [] [] os

  own_printed : AllByRecursion (IsPrinted s.form) own_items
  own_printed = items_printed s named ranged signatures hs 0 [] [] os tt listed

  -- Its nodes are a row that a text may contain.
  pub tree_row : IsRow s.form (tree code)
  tree_row = nodes_row s.form own_items own_printed code is

  -- The groups read as the operators in their flat order, each with its hint if hints are shown.
  pub tree_unfolds_at : (hints : Bool) → AllByRecursion (IsHintless hints) (items s signatures hs 0 [] [] os) →
      chunks_of_forest (row_items hints (tree code)) ≡ Some (map (own_chunk hints) (items s signatures hs 0 [] [] os))
  tree_unfolds_at hints h = nodes_unfold s.form own_items own_printed code is hints h

  -- Without hints, these are the operators of the flat text.
  pub tree_unfolds : chunks_of_forest (row_items false (tree code)) ≡ Some (chunks_of s 0 [] (without_places os))
  tree_unfolds = tree_unfolds_at false (unasked own_items) ∙ ap (λ cs. Some cs) (items_chunks s named ranged signatures hs 0 [] [] os tt listed)

-- ---- other numbers of operands and results

-- The pieces of an item do not depend on these numbers.
recounted : (form : Form) (x : Item) (operands results : ℕ) → IsPrinted form x → IsPrinted form (record x { operands = operands; results = results })
recounted form x operands results h = record { listed = h.listed; pieces = h.pieces; are = h.are; writes = h.writes; bare = h.bare; line = h.line }

printed_uncounted : (form : Form) (xs : List Item) → AllByRecursion (IsPrinted form) xs → AllByRecursion (IsPrinted form) (map without_counts xs)
printed_uncounted form [] h = tt
printed_uncounted form (x ∷ xs) h = (recounted form x 0 0 h.0, printed_uncounted form xs h.1)

uncounted_printed : (form : Form) (xs : List Item) → AllByRecursion (IsPrinted form) (map without_counts xs) → AllByRecursion (IsPrinted form) xs
uncounted_printed form [] h = tt
uncounted_printed form (x ∷ xs) h = (recounted form (without_counts x) x.operands x.results h.0, uncounted_printed form xs h.1)

-- The chunk of an item does not depend on them either.
chunks-without_counts : (xs : List Item) → map (own_chunk false) (map without_counts xs) ≡ map (own_chunk false) xs
chunks-without_counts xs = map-map (own_chunk false) without_counts xs

-- Items of the same operators have the same pieces.
pub all_printed : (s : Setting) → AreNamed s.names → AreSignaturesInRange s.signature → (signatures : Signatures) (hs : List (Placed Hint)) (os : List (Placed Operator)) →
    AllByRecursion IsListed (without_places os) → (xs : List Item) → map without_counts xs ≡ map without_counts (items s signatures hs 0 [] [] os) → AllByRecursion (IsPrinted s.form) xs
all_printed s named ranged signatures hs os listed xs e =
    let own : AllByRecursion (IsPrinted s.form) (items s signatures hs 0 [] [] os) = items_printed s named ranged signatures hs 0 [] [] os tt listed in
    uncounted_printed s.form xs (subst (AllByRecursion (IsPrinted s.form)) (sym e) (printed_uncounted s.form (items s signatures hs 0 [] [] os) own))

-- ---- the law

pub folded_operators_read_back : FoldedOperatorsReadBack
folded_operators_read_back s apart named c n types same signatures hs os h xs e code is o spaces =
    let ys : List Item = items s signatures hs 0 [] [] os in
    let printed : AllByRecursion (IsPrinted s.form) xs = all_printed s named types.in_range signatures hs os h.listed xs e in
    let chunks : map (own_chunk false) xs ≡ chunks_of s 0 [] (without_places os) =
    sym (chunks-without_counts xs) ∙ ap (map (own_chunk false)) e ∙ chunks-without_counts ys ∙ items_chunks s named types.in_range signatures hs 0 [] [] os tt h.listed in
    let f : Nodes = tree code in
    let w = printed_nodes_write o spaces s.form f (nodes_row s.form xs printed code is) s.nesting in
    ap (λ g. g >>= λ k. chunks_of_forest (without_annotations k) >>= read_operators c) (writes_forest o spaces (node_pieces o false s.form true s.nesting f) w)
    ∙ ap (λ g. chunks_of_forest g >>= read_operators c) (noted-without_annotations w.noted ∙ w.without)
    ∙ ap (λ cs. cs >>= read_operators c) (nodes_unfold s.form xs printed code is false (unasked xs) ∙ ap (λ cs. Some cs) chunks)
    ∙ expression_reads s c n types same apart os h
