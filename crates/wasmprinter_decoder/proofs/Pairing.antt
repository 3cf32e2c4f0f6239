-- Functions from type indices and bodies.
use Rattle.std.proofs.Common.{◌≡◌, ℕ, suc, ◌<◌, ◌≤◌, get_or, List, [], ◌∷◌, length, Some, None, refl, sym, ap, subst, ◌∙◌, arith}
use Rattle.std.proofs.lemmas.List.{length-map}
use Rattle.std.specs.Prelude.{slice_get}
use Rattle.std.proofs.lemmas.Option.{slice_get-get_or, slice_get_past}
use Rattle.wasmprinter_spec.specs.Grammar.{Placed, some_is, bind_some}
use Rattle.wasmprinter_spec.specs.Placed.{Body, PlacedFunction}
use Rattle.wasmprinter_spec.specs.Binary.{function_pairs}
use Rattle.wasmprinter_decoder.specs.Modules.{functions_of, bodies_of, body_at}

-- The body of a function.
abbrev body_of : PlacedFunction → Placed Body
body_of f = f.body

-- The type indices and bodies form functions, and the bodies of these functions are the given ones.
pub record Pairs (is : List ℕ) (bs : List (Placed Body)) : Type 0 where
  pub functions : List PlacedFunction
  pub are : function_pairs is bs ≡ Some functions
  pub bodies : bodies_of functions ≡ bs

-- If there are as many bodies as type indices, then they form functions.
pub pairs_of : (is : List ℕ) (bs : List (Placed Body)) → length is ≡ length bs → Pairs is bs
pairs_of [] [] e = record { functions = []; are = refl; bodies = refl }
pairs_of [] (b ∷ bs) e = absurd (omega arith)
pairs_of (i ∷ is) [] e = absurd (omega arith)
pairs_of (i ∷ is) (b ∷ bs) e =
    let p = pairs_of is bs (omega arith) in
    record { functions = record { type_index = i; body = b } ∷ p.functions; are = rw p.are refl; bodies = ap (λ (xs : List (Placed Body)). b ∷ xs) p.bodies }

-- The bodies of the functions are the given ones.
pub bodies-functions_of : (is : List ℕ) (bs : List (Placed Body)) → length is ≡ length bs → bodies_of (functions_of is bs) ≡ bs
bodies-functions_of is bs e = let p = pairs_of is bs e in rw p.are p.bodies

-- There are as many functions as bodies.
pub length-functions_of : (is : List ℕ) (bs : List (Placed Body)) → length is ≡ length bs → length (functions_of is bs) ≡ length bs
length-functions_of is bs e = let l : length (bodies_of (functions_of is bs)) ≡ length bs = ap length (bodies-functions_of is bs e) in sym (length-map (functions_of is bs) body_of) ∙ l

-- The body with a given number, from the list of bodies.
module _ (fs : List PlacedFunction) (bs : List (Placed Body)) (i : ℕ) where
  -- If `i` is below the number of bodies, then `body_at` returns body `i`.
  pub body_within : (b c : Placed Body) → bodies_of fs ≡ bs → i < length bs → b ≡ get_or bs i b → c ≡ b → Some c ≡ body_at fs i
  body_within b c e lt is same =
      ap (λ (x : Placed Body). Some x) (same ∙ is) ∙ sym (slice_get-get_or bs i b lt) ∙ ap (λ (xs : List (Placed Body)). slice_get xs i) (sym e)

  -- If `i` is not below the number of bodies, then `body_at` returns `None`.
  pub body_past : bodies_of fs ≡ bs → length bs ≤ i → None ≡ body_at fs i
  body_past e le = sym (slice_get_past bs i le) ∙ ap (λ (xs : List (Placed Body)). slice_get xs i) (sym e)

-- The functions have the given bodies, and there are as many functions as type indices.
pub record Paired (is : List ℕ) (bs : List (Placed Body)) (fs : List PlacedFunction) : Type 0 where
  pub bodies : bodies_of fs ≡ bs
  pub count : length fs ≡ length is

-- If type indices and bodies form functions, then these have the given bodies, and there are as many as type
-- indices.
pub paired_of : (is : List ℕ) (bs : List (Placed Body)) (fs : List PlacedFunction) → function_pairs is bs ≡ Some fs → Paired is bs fs
paired_of [] [] fs e = subst (Paired [] []) (some_is [] fs e) (record { bodies = refl; count = refl })
paired_of [] (b ∷ bs) fs e = absurd cc
paired_of (i ∷ is) [] fs e = absurd cc
paired_of (i ∷ is) (b ∷ bs) fs e =
    let (others, pairs, whole) = bind_some (function_pairs is bs) (λ xs. Some (record { type_index = i; body = b } ∷ xs)) fs e in
    let p = paired_of is bs others pairs in
    subst (Paired (i ∷ is) (b ∷ bs)) (some_is (record { type_index = i; body = b } ∷ others) fs whole)
    (record { bodies = ap (λ (xs : List (Placed Body)). b ∷ xs) p.bodies; count = ap suc p.count })

-- If type indices and bodies form functions, then there are as many bodies as type indices.
pub paired_length : (is : List ℕ) (bs : List (Placed Body)) (fs : List PlacedFunction) → function_pairs is bs ≡ Some fs → length is ≡ length bs
paired_length is bs fs e =
    let p = paired_of is bs fs e in
    sym p.count ∙ sym (length-map fs body_of) ∙ ap length p.bodies
