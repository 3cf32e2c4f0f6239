-- The request of arguments, and of one argument more.
use Rattle.std.specs.Prelude.{◌≡◌, ℕ, List, [], ◌∷◌, ◌++◌, Bool, true, false, ◌||◌, Option, Some, None, unwrap_or, codes}
use Rattle.std.specs.List.{list_any, filter_map, cons_option, last_or, repeat}
use Rattle.std.proofs.Common.{refl, sym, ap, ◌∙◌}
use Rattle.wasm2text.specs.declared.options.Flag.TheVariants.{Help, Version, PrintOffsets, Skeleton, NameUnnamed, FoldInstructions}
use Rattle.wasm2text.specs.declared.options.ColorChoice.TheVariants.{Auto}
use Rattle.wasm2text.specs.declared.request.Request.{Request as ReadRequest}
use Rattle.wasm2text.specs.Arguments.{Argument, is_flag, indent_in, color_in, output_in, part_in, file_in, indent_text, last_of, Request, request_of}
use Rattle.wasm2text.specs.Parsing.{request_read, Adds}

-- The first value, or the second one if there is no first.
abbrev first_of : {A : Type 0} → Option A → Option A → Option A
first_of (Some a) b = Some a
first_of None b = b

-- The values, and one more after them if there is one.
abbrev put_last : {A : Type 0} → Option A → List A → List A
put_last None xs = xs
put_last (Some x) xs = xs ++ x ∷ []

or_swap : (a b c : Bool) → (a || (b || c)) ≡ (b || (a || c))
or_swap true true c = refl
or_swap true false c = refl
or_swap false true c = refl
or_swap false false c = refl

any_more : {A : Type 0} (t : A → Bool) (xs : List A) (x : A) → list_any t (xs ++ x ∷ []) ≡ (t x || list_any t xs)
any_more t [] x = refl
any_more t (y ∷ xs) x = ap (λ b. t y || b) (any_more t xs x) ∙ or_swap (t y) (t x) (list_any t xs)

cons_none : {A : Type 0} (o : Option A) → cons_option o [] ≡ put_last o []
cons_none None = refl
cons_none (Some x) = refl

cons_last : {A : Type 0} (o p : Option A) (xs : List A) → cons_option o (put_last p xs) ≡ put_last p (cons_option o xs)
cons_last None p xs = refl
cons_last (Some x) None xs = refl
cons_last (Some x) (Some y) xs = refl

filter_more : {A B : Type 0} (h : A → Option B) (xs : List A) (x : A) → filter_map h (xs ++ x ∷ []) ≡ put_last (h x) (filter_map h xs)
filter_more h [] x = cons_none (h x)
filter_more h (y ∷ xs) x = ap (cons_option (h y)) (filter_more h xs x) ∙ cons_last (h y) (h x) (filter_map h xs)

last_now : {A : Type 0} (o : Option A) (xs : List A) (x : A) → last_or o (xs ++ x ∷ []) ≡ Some x
last_now o [] x = refl
last_now o (y ∷ xs) x = last_now (Some y) xs x

last_put : {A : Type 0} (p : Option A) (xs : List A) → last_or None (put_last p xs) ≡ first_of p (last_or None xs)
last_put None xs = refl
last_put (Some x) xs = last_now None xs x

last_more : {A : Type 0} (value_in : Argument → Option A) (arguments : List Argument) (a : Argument) →
    last_of value_in (arguments ++ a ∷ []) ≡ first_of (value_in a) (last_of value_in arguments)
last_more value_in arguments a =
    ap (last_or None) (filter_more value_in arguments a) ∙ last_put (value_in a) (filter_map value_in arguments)

-- The text of an indent after an argument.
abbrev indent_after : Option ℕ → List ℕ → List ℕ
indent_after (Some n) old = repeat n (codes " ")
indent_after None old = old

indent_first : (p q : Option ℕ) → indent_text (first_of p q) ≡ indent_after p (indent_text q)
indent_first (Some n) q = refl
indent_first None q = refl

unwrap_first : {A : Type 0} (p q : Option A) (other : A) → unwrap_or (first_of p q) other ≡ unwrap_or p (unwrap_or q other)
unwrap_first (Some x) q other = refl
unwrap_first None q other = refl

-- The request with one argument more.
abbrev pub changed : Request → Argument → Request
changed r a = record {
  help = is_flag Help a || r.help;
  version = is_flag Version a || r.version;
  options = record r.options {
    offsets = is_flag PrintOffsets a || r.options.offsets;
    skeleton = is_flag Skeleton a || r.options.skeleton;
    synthesizes = is_flag NameUnnamed a || r.options.synthesizes;
    folds = is_flag FoldInstructions a || r.options.folds;
    indent = indent_after (indent_in a) r.options.indent;
  };
  color = unwrap_or (color_in a) r.color;
  output = first_of (output_in a) r.output;
  part = first_of (part_in a) r.part;
  files = put_last (file_in a) r.files;
}

request_more : (arguments : List Argument) (a : Argument) → request_of (arguments ++ a ∷ []) ≡ changed (request_of arguments) a
request_more arguments a =
    rw (
      any_more (is_flag Help) arguments a,
      any_more (is_flag Version) arguments a,
      any_more (is_flag PrintOffsets) arguments a,
      any_more (is_flag Skeleton) arguments a,
      any_more (is_flag NameUnnamed) arguments a,
      any_more (is_flag FoldInstructions) arguments a,
      ap indent_text (last_more indent_in arguments a) ∙ indent_first (indent_in a) (last_of indent_in arguments),
      ap (λ o. unwrap_or o Auto) (last_more color_in arguments a) ∙ unwrap_first (color_in a) (last_of color_in arguments) Auto,
      last_more output_in arguments a,
      last_more part_in arguments a,
      filter_more file_in arguments a,
    ) refl

-- If the request that was read changed by an argument, then the argument was added.
pub adds : (old new : ReadRequest) (a : Argument) → request_read new ≡ changed (request_read old) a → Adds old a new
adds old new a e arguments same = e ∙ ap (λ r. changed r a) same ∙ sym (request_more arguments a)
