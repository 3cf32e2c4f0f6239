-- Rows of groups: the fields of one kind, each printed with its number
use Rattle.std.proofs.Common.{ℕ, ◌<◌, ◌^◌, ◌≤◌, ◌+◌, length, List, [], ◌∷◌, arith}
use Rattle.std.specs.List.{AllByRecursion}
use Rattle.wasmprinter_spec.specs.Forest.{Forest, End, Group}
use Rattle.wasmprinter_spec.specs.Piece.{Piece}
use Rattle.wasmprinter_spec.specs.Layout.Groups.{numbered_pieces}
use Rattle.wasmprinter_laws.proofs.Tokens.Pieces.{Bound}
use Rattle.wasmprinter_laws.proofs.Tokens.Writes.{Writes, both_write, nothing_writes}

unfoldable pub rows : List Forest → Forest
rows [] = End
rows (g ∷ gs) = Group g (rows gs)

-- The value of f for each element with its number, from i on
abbrev pub map_numbered : {A B : Type 0} → (ℕ → A → B) → ℕ → List A → List B
map_numbered f i [] = []
map_numbered f i (x ∷ xs) = f i x ∷ map_numbered f (i + 1) xs

-- The pieces of numbered fields of one kind write their items.
pub numbered_writes : {A : Type 0} (P : A → Type 0) (write : ℕ → A → List Piece) (items : ℕ → A → Forest) → ((i : ℕ) (x : A) → i < 2 ^ 64 → P x → Writes Bound (write i x) Bound (Group (items i x) End)) →
    (i : ℕ) (xs : List A) → i + length xs ≤ 2 ^ 64 → AllByRecursion P xs → Writes Bound (numbered_pieces write i xs) Bound (rows (map_numbered items i xs))
unfolding numbered_pieces rows
numbered_writes P write items law i [] small h = nothing_writes
numbered_writes P write items law i (x ∷ xs) small h =
    both_write (law i x (omega arith) h.0) (numbered_writes P write items law (i + 1) xs (omega arith) h.1)
