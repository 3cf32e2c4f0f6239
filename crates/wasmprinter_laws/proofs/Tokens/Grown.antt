-- The tokens of a sequence of items grow into that sequence.
use Rattle.std.proofs.Common.{◌≡◌, List, [], ◌∷◌, ◌++◌, refl, sym, ap, ◌∙◌, append_assoc, append-nil, Some, bytes_eq, codes, cond, Bool, true, false}
use Rattle.wasmprinter_spec.specs.Token as token
use Rattle.wasmprinter_spec.specs.Token.{Token}
use Rattle.wasmprinter_spec.specs.Forest.{Forest, End, Word, Name, String, Reserved, Group, Note, add_token, grow, the_one, onto, flat, without_annotations, row_customs}

pub onto-End : (f : Forest) → onto f End ≡ f
onto-End End = refl
onto-End (Word s f) = ap (Word s) (onto-End f)
onto-End (Name s f) = ap (Name s) (onto-End f)
onto-End (String s f) = ap (String s) (onto-End f)
onto-End (Reserved f) = ap Reserved (onto-End f)
onto-End (Group g f) = ap (Group g) (onto-End f)
onto-End (Note id g f) = ap (Note id g) (onto-End f)

pub flat-onto : (f g : Forest) → flat (onto f g) ≡ flat f ++ flat g
flat-onto End g = refl
flat-onto (Word s f) g = ap (λ t. token.word s ∷ t) (flat-onto f g)
flat-onto (Name s f) g = ap (λ t. token.name s ∷ t) (flat-onto f g)
flat-onto (String s f) g = ap (λ t. token.string s ∷ t) (flat-onto f g)
flat-onto (Reserved f) g = ap (λ t. token.reserved ∷ t) (flat-onto f g)
flat-onto (Group h f) g =
    ap (λ t. token.open_paren ∷ (flat h ++ (token.close_paren ∷ t))) (flat-onto f g)
    ∙ ap (λ t. token.open_paren ∷ t) (sym (append_assoc (flat h) (token.close_paren ∷ flat f) (flat g)))
flat-onto (Note id h f) g =
    ap (λ t. token.open_annotation id ∷ (flat h ++ (token.close_paren ∷ t))) (flat-onto f g)
    ∙ ap (λ t. token.open_annotation id ∷ t) (sym (append_assoc (flat h) (token.close_paren ∷ flat f) (flat g)))

pub grow-flat : (f : Forest) (ts : List Token) (g : Forest) (rows : List Forest) → grow ts ≡ g ∷ rows → grow (flat f ++ ts) ≡ onto f g ∷ rows
grow-flat End ts g rows h = h
grow-flat (Word s f) ts g rows h = ap (add_token (token.word s)) (grow-flat f ts g rows h)
grow-flat (Name s f) ts g rows h = ap (add_token (token.name s)) (grow-flat f ts g rows h)
grow-flat (String s f) ts g rows h = ap (add_token (token.string s)) (grow-flat f ts g rows h)
grow-flat (Reserved f) ts g rows h = ap (add_token token.reserved) (grow-flat f ts g rows h)
grow-flat (Group a f) ts g rows h =
    ap (λ t. add_token token.open_paren (grow t)) (append_assoc (flat a) (token.close_paren ∷ flat f) ts)
    ∙ ap (add_token token.open_paren) (grow-flat a (token.close_paren ∷ (flat f ++ ts)) End (onto f g ∷ rows) (ap (add_token token.close_paren) (grow-flat f ts g rows h)))
    ∙ ap (λ t. Group t (onto f g) ∷ rows) (onto-End a)
grow-flat (Note id a f) ts g rows h =
    ap (λ t. add_token (token.open_annotation id) (grow t)) (append_assoc (flat a) (token.close_paren ∷ flat f) ts)
    ∙ ap (add_token (token.open_annotation id)) (grow-flat a (token.close_paren ∷ (flat f ++ ts)) End (onto f g ∷ rows) (ap (add_token token.close_paren) (grow-flat f ts g rows h)))
    ∙ ap (λ t. Note id t (onto f g) ∷ rows) (onto-End a)

-- The tokens of a sequence of items grow into exactly that sequence.
pub one-flat : (f : Forest) → the_one (grow (flat f)) ≡ Some f
one-flat f =
    ap (λ t. the_one (grow t)) (sym (append-nil (flat f)))
    ∙ ap the_one (grow-flat f [] End [] refl)
    ∙ ap (λ v. Some v) (onto-End f)

pub onto_assoc : (f g h : Forest) → onto (onto f g) h ≡ onto f (onto g h)
onto_assoc End g h = refl
onto_assoc (Word s f) g h = ap (Word s) (onto_assoc f g h)
onto_assoc (Name s f) g h = ap (Name s) (onto_assoc f g h)
onto_assoc (String s f) g h = ap (String s) (onto_assoc f g h)
onto_assoc (Reserved f) g h = ap Reserved (onto_assoc f g h)
onto_assoc (Group a f) g h = ap (Group a) (onto_assoc f g h)
onto_assoc (Note id a f) g h = ap (Note id a) (onto_assoc f g h)

pub without_annotations-onto : (f g : Forest) → without_annotations (onto f g) ≡ onto (without_annotations f) (without_annotations g)
without_annotations-onto End g = refl
without_annotations-onto (Word s f) g = ap (Word s) (without_annotations-onto f g)
without_annotations-onto (Name s f) g = ap (Name s) (without_annotations-onto f g)
without_annotations-onto (String s f) g = ap (String s) (without_annotations-onto f g)
without_annotations-onto (Reserved f) g = ap Reserved (without_annotations-onto f g)
without_annotations-onto (Group a f) g = ap (Group (without_annotations a)) (without_annotations-onto f g)
without_annotations-onto (Note id a f) g = without_annotations-onto f g

pub row_customs-onto : (f g : Forest) → row_customs (onto f g) ≡ row_customs f ++ row_customs g
row_customs-onto End g = refl
row_customs-onto (Word s f) g = row_customs-onto f g
row_customs-onto (Name s f) g = row_customs-onto f g
row_customs-onto (String s f) g = row_customs-onto f g
row_customs-onto (Reserved f) g = row_customs-onto f g
row_customs-onto (Group a f) g = row_customs-onto f g
row_customs-onto (Note id a f) g = by (bytes_eq id (codes "custom")) (row_customs-onto f g)
  where
    by : (t : Bool) → row_customs (onto f g) ≡ row_customs f ++ row_customs g → cond t (a ∷ row_customs (onto f g)) (row_customs (onto f g)) ≡ cond t (a ∷ row_customs f) (row_customs f) ++ row_customs g
    by true e = ap (λ t. a ∷ t) e
    by false e = e
