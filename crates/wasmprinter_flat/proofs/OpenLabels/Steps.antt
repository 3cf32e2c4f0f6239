-- The state after an operator.
use Rattle.std.proofs.Common.{◌≡◌, ◌≢◌, ℕ, zero, suc, ◌-◌, ◌<◌, List, [], ◌∷◌, ◌++◌, length, refl, sym, ap, ◌∙◌, subst, arith}
use Rattle.std.proofs.lemmas.List.Elements.{All-contains}
use Rattle.std.specs.Prelude.{Bool, nat_eq, bytes_eq, Some, None}
use Rattle.std.specs.List.{All, AllByRecursion, list_any}
use Rattle.wasmprinter_spec.specs.Labels.{Label, same_name}
use Rattle.wasmprinter_custom.specs.Views.{NamedItem, name_view}
use Rattle.wasmprinter_flat.specs.OpenLabels.Found.{found_named, found_among}
use Rattle.wasmprinter_flat.specs.OpenLabels.LabelState.{LabelState, after_opening, after_closing}
use Rattle.wasmprinter_flat.specs.OpenLabels.Stack.{Block, Stack, depths, AreBelow, Descend, without_block_at, StandsAtDepth, unnamed_label, labels_from}
use Rattle.wasmprinter_flat.specs.OpenLabels.Numbers.{given_of, AreNumbered}
use Rattle.wasmprinter_flat.specs.OpenLabels.Inside.{label_of, IsOf, IsKept}
use Rattle.wasmprinter_flat.specs.declared.open_labels.label_numbering.NumberedLabel.{NumberedLabel}
use Rattle.wasmprinter_flat.proofs.OpenLabels.Cursors.{own_some, own_none, cursor_named, cursor_unnamed, next_is_one}
use Rattle.wasmprinter_flat.proofs.OpenLabels.Targets.{labels_length, labels_named, labels_unnamed, below_more, below_closed, length_closed, all_closed, unnamed_found, found_at_name, found_unnamed}

abbrev pub scan : List NamedItem → Bool → ℕ → ℕ → List Label → LabelState
scan named synthesizes f n ls = record { item_names = named; synthesizes = synthesizes; function = f; count = n; labels = ls }

abbrev pub block_of : ℕ → NumberedLabel → Block
block_of d x = record { depth = d; name_number = x.name_number; name = name_view x.label.name }

module _ (named : List NamedItem) (xs zs : List NumberedLabel) (synthesizes : Bool) (next f n d : ℕ) (s : Stack) (k : IsKept named xs next f n d s) (same : zs ≡ xs) where
  -- ---- An operator that opens a block whose label has no name

  module _ (e : label_of zs next f n ≡ None) where
    none : label_of xs next f n ≡ None
    none = ap (λ l. label_of l next f n) (sym same) ∙ e

    pub kept_unnamed : IsKept named xs next f (suc n) (suc d) s
    kept_unnamed = record {
      lists = k.lists;
      ascend = k.ascend;
      identifiers_of_labels = k.identifiers_of_labels;
      numbered = k.numbered;
      limit = k.limit;
      few = k.few;
      blocks = k.blocks;
      cursor = cursor_unnamed f n next xs _ k.lists none k.cursor;
      below = below_more d (depths s.blocks) k.below;
      shallow = omega (arith, k.shallow);
    }

    pub scan_unnamed : scan named synthesizes f (suc n) (labels_from synthesizes s.blocks (suc d)) ≡ after_opening (scan named synthesizes f n (labels_from synthesizes s.blocks d))
    scan_unnamed =
        ap (scan named synthesizes f (suc n)) (labels_unnamed synthesizes s.blocks d k.below ∙ ap (λ (x : Label). x ∷ labels_from synthesizes s.blocks d) (sym
        (own_none named xs synthesizes f n next (length (labels_from synthesizes s.blocks d)) k.lists k.ascend k.identifiers_of_labels k.cursor zs same e
        ∙ ap (unnamed_label synthesizes) (labels_length synthesizes s.blocks d))))

  -- ---- An operator that opens a block whose label has a name

  module _ (x : NumberedLabel) (e : label_of zs next f n ≡ Some x) where
    some : label_of xs next f n ≡ Some x
    some = ap (λ l. label_of l next f n) (sym same) ∙ e

    pub has_room : length s.blocks < s.limit
    has_room = let p = next_is_one f n next xs x some in omega (arith, p.1, k.few, k.limit)

    pub has_number : x.name_number < s.limit
    has_number =
        let p = next_is_one f n next xs x some in
        let lt = All-contains (λ (y : NumberedLabel). y.name_number < length xs) xs x k.numbered.few p.0 in
        omega (arith, lt, k.limit)

    pub not_last : next < length xs
    not_last = (next_is_one f n next xs x some).1

    pub kept_named : IsKept named xs (suc next) f (suc n) (suc d) (record { blocks = block_of d x ∷ s.blocks; limit = s.limit })
    kept_named = record {
      lists = k.lists;
      ascend = k.ascend;
      identifiers_of_labels = k.identifiers_of_labels;
      numbered = k.numbered;
      limit = k.limit;
      few = omega (arith, k.few);
      blocks = (record { label = x; is_one = (next_is_one f n next xs x some).0; name_number = refl; name = refl }, k.blocks);
      cursor = cursor_named f n next xs _ x k.lists k.ascend some k.cursor;
      below = (omega arith, below_more d (depths s.blocks) k.below);
      shallow = omega (arith, k.shallow);
    }

    pub scan_named : scan named synthesizes f (suc n) (labels_from synthesizes (block_of d x ∷ s.blocks) (suc d)) ≡ after_opening (scan named synthesizes f n (labels_from synthesizes s.blocks d))
    scan_named =
        ap (scan named synthesizes f (suc n)) (labels_named synthesizes (block_of d x) s.blocks d refl ∙ ap (λ (y : Label). y ∷ labels_from synthesizes s.blocks d) (sym
        (own_some named xs synthesizes f n next (length (labels_from synthesizes s.blocks d)) k.lists k.ascend k.identifiers_of_labels k.cursor zs same x e)))

-- ---- An operator that closes a block

pub kept_closed : (named : List NamedItem) (xs : List NumberedLabel) (next f n d e : ℕ) (s : Stack) → IsKept named xs next f n e s → e ≡ suc d → Descend (depths s.blocks)
    → IsKept named xs next f n d (record { blocks = without_block_at d s.blocks; limit = s.limit })
kept_closed named xs next f n d e s k is descend = record {
  lists = k.lists;
  ascend = k.ascend;
  identifiers_of_labels = k.identifiers_of_labels;
  numbered = k.numbered;
  limit = k.limit;
  cursor = k.cursor;
  few = let le = length_closed d s.blocks in omega (arith, le, k.few);
  blocks = all_closed (IsOf xs) d s.blocks k.blocks;
  below = below_closed d s.blocks (subst (λ m. AreBelow m (depths s.blocks)) is k.below) descend;
  shallow = omega (arith, k.shallow, is);
}

pub scan_closed : (named : List NamedItem) (synthesizes : Bool) (f n d e : ℕ) (bs : List Block) → e ≡ suc d
    → scan named synthesizes f n (labels_from synthesizes (without_block_at d bs) d) ≡ after_closing (scan named synthesizes f n (labels_from synthesizes bs e))
scan_closed named synthesizes f n d e bs is = ap (λ m. after_closing (scan named synthesizes f n (labels_from synthesizes bs m))) (sym is)

-- ---- Given names

-- Two blocks have the same number exactly if their labels have the same given name.
same_numbers : (xs : List NumberedLabel) (a b : Block) → AreNumbered xs → IsOf xs a → IsOf xs b → nat_eq a.name_number b.name_number ≡ same_name a.name.given b.name.given
same_numbers xs a b m p q =
    let h = All-contains (λ (y : NumberedLabel). nat_eq p.label.name_number y.name_number ≡ bytes_eq (given_of p.label) (given_of y)) xs q.label
    (All-contains (λ (x : NumberedLabel). All (λ y. nat_eq x.name_number y.name_number ≡ bytes_eq (given_of x) (given_of y)) xs) xs p.label m.same p.is_one) q.is_one in
    rw (p.name_number, q.name_number, p.name, q.name) h

all_after : (P : Block → Type 0) (front rest : List Block) (b : Block) → AllByRecursion P (front ++ b ∷ rest) → P b
all_after P [] rest b h = h.0
all_after P (x ∷ front) rest b h = all_after P front rest b h.1

pub hidden_alike : (xs : List NumberedLabel) (b : Block) (front rest : List Block) → AreNumbered xs → AllByRecursion (IsOf xs) (front ++ b ∷ rest)
    → list_any (λ x. same_name x.name.given b.name.given) front ≡ list_any (λ x. nat_eq x.name_number b.name_number) front
hidden_alike xs b [] rest m h = refl
hidden_alike xs b (x ∷ front) rest m h =
    let e = same_numbers xs x b m h.0 (all_after (IsOf xs) front rest b h.1) in
    rw (e, hidden_alike xs b front rest m h.1) refl

-- ---- The result of looking up a label

named_at : (synthesizes : Bool) (d l e : ℕ) (bs : List Block) (b : Block) (hidden : Bool) (s : StandsAtDepth bs e b hidden) → Descend (depths bs) → AreBelow d (depths bs) → l < d → e ≡ d - 1 - l
    → list_any (λ x. same_name x.name.given b.name.given) s.front ≡ hidden → found_among [] (labels_from synthesizes bs d) l ≡ found_named b.name hidden
named_at synthesizes zero l e bs b hidden s descend below lt is h = absurd (omega (arith, lt))
named_at synthesizes (suc d) l e bs b hidden s descend below lt is h =
    found_at_name synthesizes l d bs b hidden (record { front = s.front; rest = s.rest; is = s.is; depth = refl; hides = s.hides }) descend below (omega (arith, s.depth, is, lt)) h

pub found_other : (synthesizes : Bool) (d l e : ℕ) (bs : List Block) → AllByRecursion (λ b. b.depth ≢ e) bs → l < d → e ≡ d - 1 - l
    → found_among [] (labels_from synthesizes bs d) l ≡ unnamed_found (unnamed_label synthesizes e) (d - l)
found_other synthesizes zero l e bs h lt is = absurd (omega (arith, lt))
found_other synthesizes (suc d) l e bs h lt is = found_unnamed synthesizes l d e bs h (omega (arith, is, lt))

pub found_name : (named : List NamedItem) (xs : List NumberedLabel) (next f n d : ℕ) (s : Stack) → IsKept named xs next f n d s → (synthesizes : Bool) (l e : ℕ) (b : Block) (hidden : Bool)
    → StandsAtDepth s.blocks e b hidden → Descend (depths s.blocks) → l < d → e ≡ d - 1 - l → found_among [] (labels_from synthesizes s.blocks d) l ≡ found_named b.name hidden
found_name named xs next f n d s k synthesizes l e b hidden at descend lt is =
    named_at synthesizes d l e s.blocks b hidden at descend k.below lt is
    (hidden_alike xs b at.front at.rest k.numbered (subst (AllByRecursion (IsOf xs)) at.is k.blocks) ∙ at.hides)
