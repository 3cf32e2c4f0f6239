-- Open blocks whose labels have names.
use Rattle.std.specs.Prelude.{◌≡◌, ℕ, suc, zero, ◌<◌, ◌==◌, List, [], ◌∷◌, ◌++◌, map, Bool, true, false, if◌then◌else◌, Some, None}
use Rattle.std.specs.List.{list_any}
use Rattle.wasmprinter_spec.specs.Labels.{Named, Label}
use Rattle.wasmprinter_spec.specs.LabelNames.{label_named}

-- An open block: the number of blocks around it, the number shared by labels with its given name, and its name.
pub record Block : Type 0 where
  pub depth : ℕ
  pub name_number : ℕ
  pub name : Named

-- The open blocks, innermost first, and a limit that all their numbers are below.
pub record Stack : Type 0 where
  pub blocks : List Block
  pub limit : ℕ

-- The number of blocks around each block.
abbrev pub depths : List Block → List ℕ
depths bs = map (λ b. b.depth) bs

-- Each number is below d.
abbrev pub AreBelow : ℕ → List ℕ → Type 0
AreBelow d [] = Unit {0}
AreBelow d (x ∷ xs) = (x < d) × AreBelow d xs

-- Each number is above all numbers after it.
abbrev pub Descend : List ℕ → Type 0
Descend [] = Unit {0}
Descend (x ∷ xs) = AreBelow x xs × Descend xs

-- The innermost block was removed; if there was none, nothing changed.
abbrev pub Pops : Stack → Bool → Stack → Type 0
Pops old true new = (b : Block) × (old.blocks ≡ b ∷ new.blocks) × (new.limit ≡ old.limit)
Pops old false new = (old.blocks ≡ []) × (new ≡ old)

-- The blocks without the innermost, if that is at depth d.
abbrev pub without_block_at : ℕ → List Block → List Block
without_block_at d [] = []
without_block_at d (b ∷ bs) = if b.depth == d then bs else b ∷ bs

-- The block at depth d is b, and `hidden` says whether a block further in has its number.
pub record StandsAtDepth (bs : List Block) (d : ℕ) (b : Block) (hidden : Bool) : Type 0 where
  pub front : List Block
  pub rest : List Block
  pub is : bs ≡ front ++ b ∷ rest
  pub depth : b.depth ≡ d
  pub hides : list_any (λ x. x.name_number == b.name_number) front ≡ hidden

-- ---- Labels

-- The label without a name of a block at depth d.
abbrev pub unnamed_label : Bool → ℕ → Label
unnamed_label synthesizes d = label_named synthesizes 0 d None

-- The label of the block at depth d: the name of the first of these blocks if it is at this depth, otherwise a label
-- without a name.
abbrev pub label_here : Bool → ℕ → List Block → Label
label_here synthesizes d [] = unnamed_label synthesizes d
label_here synthesizes d (b ∷ bs) = if b.depth == d then Some b.name else unnamed_label synthesizes d

-- The labels of d open blocks, given the blocks whose labels have names.
abbrev pub labels_from : Bool → List Block → ℕ → List Label
labels_from synthesizes bs zero = []
labels_from synthesizes bs (suc d) = label_here synthesizes d bs ∷ labels_from synthesizes (without_block_at d bs) d
