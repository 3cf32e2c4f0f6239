-- Words as arguments, and one word more.
use Rattle.std.specs.Prelude.{◌≡◌, ℕ, ◌+◌, List, [], ◌∷◌, ◌++◌, map, drop, false, codes, Some, Result, Ok, Err, MatchResult}
use Rattle.std.proofs.Common.{refl, sym, ap, ◌∙◌, subst, append_assoc, append-nil, inl, inr}
use Rattle.std.proofs.lemmas.List.{map-append}
use denote.Ref.{Bor}
use Rattle.wasm2text.specs.declared.misuse.ArgumentError.{ArgumentError}
use Rattle.wasm2text.specs.declared.misuse.ArgumentError.TheVariants.{UnknownOption, InvalidValue}
use Rattle.wasm2text.specs.declared.options.Flag.{Flag}
use Rattle.wasm2text.specs.declared.options.Setting.{Setting}
use Rattle.wasm2text.specs.declared.parser.Next.TheVariants.{Argument as AnyArgument, Value, File as OnlyFile}
use Rattle.wasm2text.specs.declared.parser.Parser.{Parser}
use Rattle.wasm2text.specs.Arguments.{Argument, Flagged, File, IsArgument, AreArguments, IsSetTo, IsUnknown, IsArgumentError, flag_named, setting_named, is_dashed, joined_start}
use Rattle.wasm2text.specs.Parsing.{request_read, Adds, IsBefore, HasRead, Sets}

-- Arguments and one more are the words of both.
one_more : (arguments : List Argument) (a : Argument) (words part : List (List ℕ)) → AreArguments arguments words → IsArgument a part →
    AreArguments (arguments ++ a ∷ []) (words ++ part)
one_more [] a words part are is = (part, [], ap (λ w. w ++ part) are ∙ sym (append-nil part), is, refl)
one_more (b ∷ bs) a words part are is = (
  are.0,
  are.1 ++ part,
  ap (λ w. w ++ part) are.2 ∙ append_assoc are.0 are.1 part,
  are.3,
  one_more bs a are.1 part are.4 is,
)

abbrev before_argument : (p : Parser) (words : List (List ℕ)) → p.next ≡ AnyArgument → (h : HasRead p words) → AreArguments h.0 words
before_argument p words pn h = subst (λ n. IsBefore n h.0 words) pn h.2

-- An argument was read.
pub reads_argument : (p q : Parser) (a : Argument) (part words : List (List ℕ)) → p.next ≡ AnyArgument → q.next ≡ AnyArgument →
    Adds p.request a q.request → IsArgument a part → HasRead p words → HasRead q (words ++ part)
reads_argument p q a part words pn qn adds is h = (
  h.0 ++ a ∷ [],
  adds h.0 h.1,
  subst (λ n. IsBefore n (h.0 ++ a ∷ []) (words ++ part)) (sym qn) (one_more h.0 a words part (before_argument p words pn h) is),
)

pub is_file : (word : List ℕ) → is_dashed word ≡ false → IsArgument (File word) (word ∷ [])
is_file word e = inr (inr (word, e, refl, refl))

pub is_option : (word : List ℕ) (flag : Flag) → flag_named word ≡ Some flag → IsArgument (Flagged flag) (word ∷ [])
is_option word flag e = inl (flag, word, e, refl, refl)

pub is_joined : (word value : List ℕ) (setting : Setting) (a : Argument) → word ≡ joined_start setting ++ value → IsSetTo setting value a →
    IsArgument a (word ∷ [])
is_joined word value setting a e set = inr (inl (setting, value, inr (ap (λ w. w ∷ []) e), set))

-- The name of an option was read, whose value comes next.
pub reads_name : (p q : Parser) (word : Bor (List ℕ)) (words : List (List ℕ)) (setting : Setting) → p.next ≡ AnyArgument → q.next ≡ Value setting word →
    q.request ≡ p.request → setting_named word.now ≡ Some setting → HasRead p words → HasRead q (words ++ word.now ∷ [])
reads_name p q word words setting pn qn same named h = (
  h.0,
  ap request_read same ∙ h.1,
  subst (λ n. IsBefore n h.0 (words ++ word.now ∷ [])) (sym qn) (words, refl, named, before_argument p words pn h),
)

-- The word `--` was read.
pub reads_end : (p q : Parser) (words : List (List ℕ)) → p.next ≡ AnyArgument → q.next ≡ OnlyFile → q.request ≡ p.request →
    HasRead p words → HasRead q (words ++ codes "--" ∷ [])
reads_end p q words pn qn same h = (
  h.0,
  ap request_read same ∙ h.1,
  subst (λ n. IsBefore n h.0 (words ++ codes "--" ∷ [])) (sym qn) (h.0, words, [], refl, before_argument p words pn h, sym (append-nil h.0)),
)

-- A file was read after `--`.
pub reads_file : (p q : Parser) (word : List ℕ) (words : List (List ℕ)) → p.next ≡ OnlyFile → q.next ≡ OnlyFile → Adds p.request (File word) q.request →
    HasRead p words → HasRead q (words ++ word ∷ [])
reads_file p q word words pn qn adds h =
    let b = subst (λ n. IsBefore n h.0 words) pn h.2 in (
      h.0 ++ File word ∷ [],
      adds h.0 h.1,
      subst (λ n. IsBefore n (h.0 ++ File word ∷ []) (words ++ word ∷ [])) (sym qn) (
        b.0,
        b.1,
        b.2 ++ word ∷ [],
        ap (λ w. w ++ word ∷ []) b.3 ∙ append_assoc b.1 (codes "--" ∷ b.2) (word ∷ []),
        b.4,
        ap (λ w. w ++ File word ∷ []) b.5 ∙ append_assoc b.0 (map File b.2) (File word ∷ []) ∙ ap (λ w. b.0 ++ w) (sym (map-append File b.2 (word ∷ []))),
      ),
    )

-- The value of an option was read.
pub reads_value : (p q : Parser) (setting : Setting) (name : Bor (List ℕ)) (value : List ℕ) (a : Argument) (words : List (List ℕ)) → p.next ≡ Value setting name →
    q.next ≡ AnyArgument → Adds p.request a q.request → IsSetTo setting value a → HasRead p words → HasRead q (words ++ value ∷ [])
reads_value p q setting name value a words pn qn adds set h =
    let b = subst (λ n. IsBefore n h.0 words) pn h.2 in
    let joins : words ++ value ∷ [] ≡ b.0 ++ name.now ∷ value ∷ [] = ap (λ w. w ++ value ∷ []) b.1 ∙ append_assoc b.0 (name.now ∷ []) (value ∷ []) in (
      h.0 ++ a ∷ [],
      adds h.0 h.1,
      subst (λ n. IsBefore n (h.0 ++ a ∷ []) (words ++ value ∷ [])) (sym qn)
          (subst (λ w. AreArguments (h.0 ++ a ∷ []) w) (sym joins)
          (one_more h.0 a b.0 (name.now ∷ value ∷ []) b.3 (inr (inl (setting, value, inl (name.now, b.2, refl), set))))),
    )

-- The option can't have the value that is the next word.
pub refuses_value : (p : Parser) (setting : Setting) (name value : Bor (List ℕ)) (words after : List (List ℕ)) → p.next ≡ Value setting name → HasRead p words →
    ((a : Argument) → IsSetTo setting value.now a → ⊥) → IsArgumentError (words ++ value.now ∷ after) (InvalidValue setting value)
refuses_value p setting name value words after pn h never =
    let b = subst (λ n. IsBefore n h.0 words) pn h.2 in (
      h.0,
      b.0,
      name.now ∷ value.now ∷ [],
      after,
      ap (λ w. w ++ value.now ∷ after) b.1 ∙ append_assoc b.0 (name.now ∷ []) (value.now ∷ after),
      b.3,
      inl (name.now, b.2, refl),
      never,
    )

-- The option can't have the value that is in the same word.
pub refuses_joined : (p : Parser) (setting : Setting) (word : List ℕ) (value : Bor (List ℕ)) (words after : List (List ℕ)) → p.next ≡ AnyArgument → HasRead p words →
    word ≡ joined_start setting ++ value.now → ((a : Argument) → IsSetTo setting value.now a → ⊥) →
    IsArgumentError (words ++ word ∷ after) (InvalidValue setting value)
refuses_joined p setting word value words after pn h e never =
    (h.0, words, word ∷ [], after, refl, before_argument p words pn h, inr (ap (λ w. w ∷ []) e), never)

-- An option was set to the value in the same word, or can't have it.
pub reads_joined : (p q : Parser) (setting : Setting) (word : List ℕ) (value : Bor (List ℕ)) (words : List (List ℕ))
    (answer : Result (Unit {0}) ArgumentError) → p.next ≡ AnyArgument → HasRead p words → word ≡ joined_start setting ++ value.now →
    MatchResult answer (λ x. (a : Argument) × IsSetTo setting value.now a × Sets p a q)
    (λ error. (error ≡ InvalidValue setting value) × ((a : Argument) → IsSetTo setting value.now a → ⊥)) →
    MatchResult answer (λ x. HasRead q (words ++ word ∷ [])) (λ error. (after : List (List ℕ)) → IsArgumentError (words ++ word ∷ after) error)
reads_joined p q setting word value words (Ok x) next h e s =
    reads_argument p q s.0 (word ∷ []) words next (s.2.1 ∙ next) s.2.0 (is_joined word value.now setting s.0 e s.1) h
reads_joined p q setting word value words (Err error) next h e s =
    λ after. subst (λ x. IsArgumentError (words ++ word ∷ after) x) (sym s.0) (refuses_joined p setting word value words after next h e s.1)

-- The word is no option.
pub refuses_word : (p : Parser) (word : Bor (List ℕ)) (words after : List (List ℕ)) → p.next ≡ AnyArgument → HasRead p words → IsUnknown word.now →
    IsArgumentError (words ++ word.now ∷ after) (UnknownOption word)
refuses_word p word words after pn h unknown = (h.0, words, after, refl, before_argument p words pn h, unknown)

-- The words up to and with one more.
pub joins : {A : Type 0} (f : A → List ℕ) (words : List A) (i : ℕ) (item : A) (word : List ℕ) (before : List (List ℕ)) →
    drop i words ≡ item ∷ drop (i + 1) words → word ≡ f item → map f words ≡ before ++ map f (drop i words) →
    map f words ≡ before ++ word ∷ map f (drop (i + 1) words)
joins f words i item word before here same e =
    e ∙ ap (λ r. before ++ map f r) here ∙ ap (λ t. before ++ t ∷ map f (drop (i + 1) words)) (sym same)
