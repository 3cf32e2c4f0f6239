-- The laws of an output: how calls, pieces and parts compose. The trait `Output` has each of them as a member.
use Rattle.std.specs.Prelude.{◌≡◌, ℕ, Bool, true, false, ◌||◌, List, [], ◌∷◌, ◌++◌, Option, Some}
use Rattle.wasmprinter_spec.specs.Call.{Call, Text}
use Rattle.wasmprinter_spec.specs.Options.{Options}
use Rattle.wasmprinter_spec.specs.Piece.{Piece, calls}
use Rattle.wasmprinter_spec.specs.Layout.Customs.{Part, Shown, Stops, laid_parts}
use Rattle.wasmprinter_spec.specs.Layout.Groups.{breaks, close, has_break}

-- What an output says of groups: which pieces were written, whether a line has begun in the innermost open group,
-- and that this group was left. The Boolean then says whether a line had begun in the group around it.
pub record Groups (S : Type 0) : Type 1 where
  pub wrote : S → S → List Piece → Type 0
  pub begun : S → Bool
  pub left_group : S → S → Bool → Type 0

-- The three of them, in this order.
abbrev pub groups : {S : Type 0} → (S → S → List Piece → Type 0) → (S → Bool) → (S → S → Bool → Type 0) → Groups S
groups w b l = record { wrote = w; begun = b; left_group = l }

-- The closing parenthesis of a group that ends at a place, by whether a line has begun in the group. It is also on a
-- line of its own if lines begin with their places. The order of the numbers is: place, nesting depth.
abbrev pub close_at : Options → ℕ → ℕ → Bool → List Piece
close_at o place nesting begun = close (Some place) nesting (o.offsets || begun)

-- A group was closed: its closing parenthesis was written, and then the group was left. `parenthesis` is what closes
-- it, by whether a line has begun in it.
pub record ClosedGroup {S : Type 0} (g : Groups S) (old new : S) (parenthesis : Bool → List Piece) (outer_begun : Bool) : Type 0 where
  pub last : S
  pub written : g.wrote old last (parenthesis (g.begun old))
  pub leaves : g.left_group last new outer_begun

module _ {S : Type 0} (called : S → S → List Call → Type 0) where
  -- A call, and then others.
  abbrev pub CallThen : Type 0
  CallThen = (a s t : S) (c : Call) (k : List Call) → called a s (c ∷ []) → called s t k → called a t (c ∷ k)

  -- Calls, and then others.
  abbrev pub CallsThen : Type 0
  CallsThen = (a s t : S) (l k : List Call) → called a s l → called s t k → called a t (l ++ k)

  -- The first part of a text, and then the rest.
  abbrev pub TextThen : Type 0
  TextThen = (a s t : S) (x y : List ℕ) (k : List Call) → called a s (Text x ∷ []) → called s t (Text y ∷ k) → called a t (Text (x ++ y) ∷ k)

  -- The first byte of a text, and then the rest.
  abbrev pub ByteThen : Type 0
  ByteThen = (a s t : S) (x : ℕ) (y : List ℕ) (k : List Call) → called a s (Text (x ∷ []) ∷ []) → called s t (Text y ∷ k) →
      called a t (Text (x ∷ y) ∷ k)

  -- An empty text needs no call.
  abbrev pub NoText : Type 0
  NoText = (a : S) → called a a (Text [] ∷ [])

module _ {S I : Type 0} (wrote : S → S → List I → Type 0) where
  -- A piece or a part, and then others.
  abbrev pub OneThen : Type 0
  OneThen = (a s t : S) (x : I) (xs : List I) → wrote a s (x ∷ []) → wrote s t xs → wrote a t (x ∷ xs)

  -- Pieces or parts, and then others.
  abbrev pub AllThen : Type 0
  AllThen = (a s t : S) (xs ys : List I) → wrote a s xs → wrote s t ys → wrote a t (xs ++ ys)

  -- None at all.
  abbrev pub NoneOf : Type 0
  NoneOf = (a : S) → wrote a a []

  -- After an error nothing is written, whatever was to follow.
  abbrev pub Skipped : (S → Bool) → Type 0
  Skipped failed = (a : S) (xs : List I) → failed a ≡ true → wrote a a xs

module _ {S : Type 0} (o : Options) (called : S → S → List Call → Type 0) (wrote : S → S → List Piece → Type 0) where
  -- The calls of a piece that begins no line.
  abbrev pub PieceOf : Type 0
  PieceOf = (a t : S) (x : Piece) → breaks x ≡ false → called a t (calls o x) → wrote a t (x ∷ [])

module _ {S : Type 0} (o : Options) (called : S → S → List Call → Type 0) (wrote : S → S → List Piece → Type 0) (begins : S → S → Type 0) where
  -- The calls of a piece that begins a line.
  abbrev pub BreakOf : Type 0
  BreakOf = (a s t : S) (x : Piece) → begins s t → breaks x ≡ true → called a s (calls o x) → wrote a t (x ∷ [])

module _ {S : Type 0} (wrote : S → S → List Piece → Type 0) (laid : S → S → List Part → Type 0) where
  -- Pieces are a part.
  abbrev pub PartOf : Type 0
  PartOf = (a t : S) (xs : List Piece) → wrote a t xs → laid a t (Shown xs ∷ [])

  -- Pieces, and then a part at which the layout ends.
  abbrev pub StopOf : Type 0
  StopOf = (a s t : S) (xs ys : List Piece) (id : ℕ) → wrote a s xs → laid s t (Stops ys id ∷ []) → laid a t (Stops (xs ++ ys) id ∷ [])

module _ {S : Type 0} (wrote : S → S → List Piece → Type 0) (begun : S → Bool) (opened left_group : S → S → Bool → Type 0) where
  -- The contents of a group, and its closing parenthesis.
  abbrev pub GroupOf : Type 0
  GroupOf =
      (a s t v : S) (outer_begun : Bool) (place : Option ℕ) (n : ℕ) (xs : List Piece) → opened a s outer_begun → wrote s t xs →
      ClosedGroup (groups wrote begun left_group) t v (close place n) outer_begun → wrote a v (xs ++ close place n (has_break xs))

module _ {S : Type 0} (o : Options) (wrote : S → S → List Piece → Type 0) (begun : S → Bool) (opened left_group : S → S → Bool → Type 0) where
  -- The contents of a group that ends at a place, and its closing parenthesis.
  abbrev pub GroupAtOf : Type 0
  GroupAtOf =
      (a s t v : S) (outer_begun : Bool) (place n : ℕ) (xs : List Piece) → opened a s outer_begun → wrote s t xs →
      ClosedGroup (groups wrote begun left_group) t v (close_at o place n) outer_begun → wrote a v (xs ++ close (Some place) n (o.offsets || has_break xs))

module _ {S : Type 0} (o : Options) (wrote : S → S → List Piece → Type 0) (laid : S → S → List Part → Type 0) (begun : S → Bool)
    (opened left_group : S → S → Bool → Type 0) where
  -- The parts in a group that ends at a place, and its closing parenthesis. If the layout ends at one of the parts,
  -- then the parenthesis is not written.
  abbrev pub PartsAtOf : Type 0
  PartsAtOf =
      (a s t v : S) (outer_begun : Bool) (place n : ℕ) (ps : List Part) → opened a s outer_begun → laid s t ps →
      ClosedGroup (groups wrote begun left_group) t v (close_at o place n) outer_begun →
      laid a v (ps ++ (Shown (close (Some place) n (o.offsets || has_break (laid_parts ps).pieces)) ∷ []))
