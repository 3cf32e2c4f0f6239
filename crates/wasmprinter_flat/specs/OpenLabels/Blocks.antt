-- Open blocks whose labels have names, as the program keeps them.
use Rattle.std.specs.Prelude.{◌≡◌, ◌≢◌, ℕ, ◌<◌, ◌≤◌, ◌==◌, List, [], ◌∷◌, length, map, reverse, true, false, Option, Some, None, if◌then◌else◌, slice_index_or}
use Rattle.std.specs.List.{AllByRecursion}
use Rattle.wasmprinter_custom.specs.Views.{name_view}
use Rattle.wasmprinter_flat.specs.OpenLabels.Stack.{Block, depths, Descend, StandsAtDepth}
use Rattle.wasmprinter_flat.specs.declared.open_labels.label_shadowing.NamedBlock.{NamedBlock}
use Rattle.wasmprinter_flat.specs.declared.open_labels.label_shadowing.NameAt.{NameAt}
use Rattle.wasmprinter_flat.specs.declared.open_labels.label_shadowing.NameAt.TheVariants.{Visible, Hidden, Unnamed}

-- The block that the program's value represents.
abbrev pub block_view : NamedBlock → Block
block_view b = record { depth = b.depth; name_number = b.name_number; name = name_view b.name }

-- The blocks, innermost first. The program keeps the outermost first.
abbrev pub blocks_view : List NamedBlock → List Block
blocks_view bs = map block_view (reverse bs)

-- The position of the innermost block with a number, counted from the outermost block.
abbrev pub innermost_of : ℕ → List NamedBlock → Option ℕ
innermost_of a [] = None
innermost_of a (b ∷ bs) = if b.name_number == a then Some (length bs) else innermost_of a bs

-- Each block records the position of the block that it hides, and has a number below the limit.
abbrev pub Hide : ℕ → List NamedBlock → Type 0
Hide limit [] = Unit {0}
Hide limit (b ∷ bs) = (b.hides ≡ innermost_of b.name_number bs) × (b.name_number < limit) × Hide limit bs

-- The invariant: `bs` are the blocks, innermost first; `last` has the position of the innermost block of each
-- number; `space` is the number of blocks that fit.
pub record AreKept (bs : List NamedBlock) (last : List (Option ℕ)) (space : ℕ) : Type 0 where
  pub descend : Descend (depths (map block_view bs))
  pub hide : Hide (length last) bs
  pub innermost : (a : ℕ) (o : Option ℕ) → a < length last → slice_index_or last a o ≡ innermost_of a bs
  pub room : length last ≤ space

-- The result of looking up the block at a depth.
abbrev pub IsNameAt : List Block → ℕ → NameAt → Type 0
IsNameAt bs d (Visible name) = (b : Block) × StandsAtDepth bs d b false × (b.name ≡ name_view name)
IsNameAt bs d Hidden = (b : Block) × StandsAtDepth bs d b true
IsNameAt bs d Unnamed = AllByRecursion (λ b. b.depth ≢ d) bs
