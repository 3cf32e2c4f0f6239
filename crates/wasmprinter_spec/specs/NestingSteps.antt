-- Steps over open blocks accept exactly the roles that are well nested, with an `end` after them. The standard
-- nests operators by its grammar (section 5.4, "Control Instructions"), and has no such steps.
use Rattle.std.specs.Prelude.{◌≡◌, ◌⊎◌, List, [], ◌∷◌, ◌++◌, Bool, true, false, refl}
use Rattle.std.proofs.Common.{sym, ap, subst, ◌∙◌, append_assoc, append-nil, inl, inr}
use Rattle.std.proofs.lemmas.List.{same_from_push}
use Rattle.wasmprinter_spec.specs.Row.{Role, Plain, Opens, OpensIf, Else, OpensTry, Catches, CatchesAll, Delegates, Ends}
use Rattle.wasmprinter_spec.specs.Stepped.{Move, On, Stop, Never, by_move, stops}
use Rattle.wasmprinter_spec.specs.Nesting.{FramePart, Sequence, Handlers, Nests, none, plain, block, one_armed, two_armed, tried, delegated, no_handler, caught, caught_all, Frame, InBlock, InIf, InTry, InCatch, Open, open_frames, at_start, move_outwards, advance}

-- ---- Well-nested roles leave the open blocks as they are

-- From the open blocks f and fs on, each of the roles xs leads to next open blocks, and `last` closes the expression.
abbrev stops_in : Frame → List Frame → List Role → Role → Bool
stops_in f fs xs last = stops advance (open_frames f fs) xs last

-- The open block is a `try` or one of its `catch` handlers, so that handlers may follow.
abbrev Handles : Frame → Type 0
Handles InBlock = ⊥
Handles InIf = ⊥
Handles InTry = Unit {0}
Handles InCatch = Unit {0}

-- After a sequence of operators, the same blocks are open. After the handlers and the `end` of a `try`, the `try`
-- is closed.
abbrev Goes : FramePart → List Role → Type 0
Goes Sequence xs = (f : Frame) (fs : List Frame) (more : List Role) (last : Role) → stops_in f fs (xs ++ more) last ≡ stops_in f fs more last
Goes Handlers xs =
    (f : Frame) → Handles f → (fs : List Frame) (more : List Role) (last : Role) →
    stops_in f fs (xs ++ Ends ∷ more) last ≡ by_move (move_outwards fs) (λ t. stops advance t more last) false false

catches : (f : Frame) → Handles f → (fs : List Frame) (more : List Role) (last : Role) →
    stops_in f fs (Catches ∷ more) last ≡ stops_in InCatch fs more last
catches InBlock h fs more last = absurd h
catches InIf h fs more last = absurd h
catches InTry h fs more last = refl
catches InCatch h fs more last = refl

catches_all : (f : Frame) → Handles f → (fs : List Frame) (more : List Role) (last : Role) →
    stops_in f fs (CatchesAll ∷ more) last ≡ stops_in InBlock fs more last
catches_all InBlock h fs more last = absurd h
catches_all InIf h fs more last = absurd h
catches_all InTry h fs more last = refl
catches_all InCatch h fs more last = refl

goes : {part : FramePart} {xs : List Role} → Nests part xs → Goes part xs
goes none = λ f fs more last. refl
goes (plain r) = λ f fs more last. goes r f fs more last
goes (block {body} {rest} b r) = λ f fs more last.
    ap (λ (ys : List Role). stops_in InBlock (f ∷ fs) ys last) (append_assoc body (Ends ∷ rest) more)
    ∙ goes b InBlock (f ∷ fs) (Ends ∷ (rest ++ more)) last
    ∙ goes r f fs more last
goes (one_armed {body} {rest} b r) = λ f fs more last.
    ap (λ (ys : List Role). stops_in InIf (f ∷ fs) ys last) (append_assoc body (Ends ∷ rest) more)
    ∙ goes b InIf (f ∷ fs) (Ends ∷ (rest ++ more)) last
    ∙ goes r f fs more last
goes (two_armed {yes} {no} {rest} y n r) = λ f fs more last.
    ap (λ (ys : List Role). stops_in InIf (f ∷ fs) ys last) (append_assoc yes (Else ∷ (no ++ Ends ∷ rest)) more)
    ∙ goes y InIf (f ∷ fs) (Else ∷ ((no ++ Ends ∷ rest) ++ more)) last
    ∙ ap (λ (ys : List Role). stops_in InBlock (f ∷ fs) ys last) (append_assoc no (Ends ∷ rest) more)
    ∙ goes n InBlock (f ∷ fs) (Ends ∷ (rest ++ more)) last
    ∙ goes r f fs more last
goes (tried {body} {handlers} {rest} b h r) = λ f fs more last.
    ap (λ (ys : List Role). stops_in InTry (f ∷ fs) ys last) (append_assoc body (handlers ++ Ends ∷ rest) more)
    ∙ goes b InTry (f ∷ fs) ((handlers ++ Ends ∷ rest) ++ more) last
    ∙ ap (λ (ys : List Role). stops_in InTry (f ∷ fs) ys last) (append_assoc handlers (Ends ∷ rest) more)
    ∙ goes h InTry tt (f ∷ fs) (rest ++ more) last
    ∙ goes r f fs more last
goes (delegated {body} {rest} b r) = λ f fs more last.
    ap (λ (ys : List Role). stops_in InTry (f ∷ fs) ys last) (append_assoc body (Delegates ∷ rest) more)
    ∙ goes b InTry (f ∷ fs) (Delegates ∷ (rest ++ more)) last
    ∙ goes r f fs more last
goes no_handler = λ f k fs more last. refl
goes (caught {body} {handlers} b h) = λ f k fs more last.
    catches f k fs ((body ++ handlers) ++ Ends ∷ more) last
    ∙ ap (λ (ys : List Role). stops_in InCatch fs ys last) (append_assoc body handlers (Ends ∷ more))
    ∙ goes b InCatch fs (handlers ++ Ends ∷ more) last
    ∙ goes h InCatch tt fs more last
goes (caught_all {body} b) = λ f k fs more last.
    catches_all f k fs (body ++ Ends ∷ more) last
    ∙ goes b InBlock fs (Ends ∷ more) last

-- Well-nested roles and then an `end` are accepted.
pub stops_at_end : (xs : List Role) → Nests Sequence xs → stops advance at_start xs Ends ≡ true
stops_at_end xs n = ap (λ (ys : List Role). stops advance at_start ys Ends) (sym (append-nil xs)) ∙ goes n InBlock [] [] Ends

-- ---- Accepted roles close all blocks

-- xs are the handlers and the `end` of a `try`, and then `rest`.
record Caught (xs rest : List Role) : Type 0 where
  handlers : List Role
  nested : Nests Handlers handlers
  is : xs ≡ handlers ++ Ends ∷ rest

-- xs are an `else` and the `end` of an `if`, and then `rest`.
record Otherwise (xs rest : List Role) : Type 0 where
  no : List Role
  nested : Nests Sequence no
  is : xs ≡ Else ∷ (no ++ Ends ∷ rest)

-- xs are the roles after the operators of an open block, up to those that close it, and then `rest`.
abbrev Tail : Frame → List Role → List Role → Type 0
Tail InBlock xs rest = xs ≡ Ends ∷ rest
Tail InIf xs rest = (xs ≡ Ends ∷ rest) ⊎ Otherwise xs rest
Tail InTry xs rest = Caught xs rest ⊎ (xs ≡ Delegates ∷ rest)
Tail InCatch xs rest = Caught xs rest

-- xs close the open block and continue with `rest`.
record Closing (f : Frame) (xs rest : List Role) : Type 0 where
  body : List Role
  tail : List Role
  nested : Nests Sequence body
  is : xs ≡ body ++ tail
  ends : Tail f tail rest

-- xs close all open blocks, and nothing follows.
abbrev Closes : List Frame → List Role → Type 0
Closes [] xs = xs ≡ []
Closes (f ∷ fs) xs = (rest : List Role) × Closing f xs rest × Closes fs rest

-- Well-nested roles may come before roles that close a block.
grown : (front : List Role) → ((ys : List Role) → Nests Sequence ys → Nests Sequence (front ++ ys)) →
    (f : Frame) (xs rest : List Role) → Closing f xs rest → Closing f (front ++ xs) rest
grown front wraps f xs rest c = record {
  body = front ++ c.body;
  tail = c.tail;
  nested = wraps c.body c.nested;
  is = ap (λ (ys : List Role). front ++ ys) c.is ∙ sym (append_assoc front c.body c.tail);
  ends = c.ends;
}

-- x and the roles up to `mid` are one complete block.
record Group (x : Role) (xs mid : List Role) : Type 0 where
  text : List Role
  is : x ∷ xs ≡ text ++ mid
  wraps : (ys : List Role) → Nests Sequence ys → Nests Sequence (text ++ ys)

group_of : (x : Role) (xs mid body closer : List Role) → xs ≡ body ++ (closer ++ mid) →
    ((ys : List Role) → Nests Sequence ys → Nests Sequence (x ∷ (body ++ (closer ++ ys)))) → Group x xs mid
group_of x xs mid body closer e make = record {
  text = x ∷ (body ++ closer);
  is = ap (λ (ys : List Role). x ∷ ys) (e ∙ sym (append_assoc body closer mid));
  wraps = λ ys n. subst (λ (zs : List Role). Nests Sequence (x ∷ zs)) (sym (append_assoc body closer ys)) (make ys n);
}

block_group : (xs mid : List Role) → Closing InBlock xs mid → Group Opens xs mid
block_group xs mid c =
    group_of Opens xs mid c.body (Ends ∷ []) (c.is ∙ ap (λ (ys : List Role). c.body ++ ys) c.ends) (λ ys n. block c.nested n)

if_tail : (xs mid body tail : List Role) → Nests Sequence body → xs ≡ body ++ tail → Tail InIf tail mid → Group OpensIf xs mid
if_tail xs mid body tail b e (inl c) =
    group_of OpensIf xs mid body (Ends ∷ []) (e ∙ ap (λ (ys : List Role). body ++ ys) c) (λ ys n. one_armed b n)
if_tail xs mid body tail b e (inr c) =
    group_of OpensIf xs mid body (Else ∷ (c.no ++ Ends ∷ []))
    (e ∙ ap (λ (ys : List Role). body ++ ys) (c.is ∙ ap (λ (ys : List Role). Else ∷ ys) (sym (append_assoc c.no (Ends ∷ []) mid))))
    (λ ys n. subst (λ (zs : List Role). Nests Sequence (OpensIf ∷ (body ++ Else ∷ zs))) (sym (append_assoc c.no (Ends ∷ []) ys))
    (two_armed b c.nested n))

try_tail : (xs mid body tail : List Role) → Nests Sequence body → xs ≡ body ++ tail → Tail InTry tail mid → Group OpensTry xs mid
try_tail xs mid body tail b e (inl c) =
    group_of OpensTry xs mid body (c.handlers ++ Ends ∷ [])
    (e ∙ ap (λ (ys : List Role). body ++ ys) (c.is ∙ sym (append_assoc c.handlers (Ends ∷ []) mid)))
    (λ ys n. subst (λ (zs : List Role). Nests Sequence (OpensTry ∷ (body ++ zs))) (sym (append_assoc c.handlers (Ends ∷ []) ys))
    (tried b c.nested n))
try_tail xs mid body tail b e (inr c) =
    group_of OpensTry xs mid body (Delegates ∷ []) (e ∙ ap (λ (ys : List Role). body ++ ys) c) (λ ys n. delegated b n)

-- If x opens a block, the roles that close it are a part of those that close the block around it.
entered : (x : Role) (f g : Frame) (fs : List Frame) (xs : List Role) → ((mid : List Role) → Closing g xs mid → Group x xs mid) →
    Closes (g ∷ f ∷ fs) xs → Closes (f ∷ fs) (x ∷ xs)
entered x f g fs xs group d =
    let (mid, inner, (rest, outer, all_closed)) = d in
    let w = group mid inner in
    (rest, subst (λ (zs : List Role). Closing f zs rest) (sym w.is) (grown w.text w.wraps f mid rest outer), all_closed)

-- The roles that close a block may follow its start directly.
bare : (f : Frame) (xs rest : List Role) → Tail f xs rest → Closing f xs rest
bare f xs rest t = record { body = []; tail = xs; nested = none; is = refl; ends = t }

else_tail : (xs rest : List Role) → Closing InBlock xs rest → Tail InIf (Else ∷ xs) rest
else_tail xs rest c =
    inr (record {
      no = c.body;
      nested = c.nested;
      is = ap (λ (ys : List Role). Else ∷ ys) (c.is ∙ ap (λ (ys : List Role). c.body ++ ys) c.ends);
    })

catch_tail : (xs rest : List Role) → Closing InCatch xs rest → Caught (Catches ∷ xs) rest
catch_tail xs rest c = record {
  handlers = Catches ∷ (c.body ++ c.ends.handlers);
  nested = caught c.nested c.ends.nested;
  is =
      ap (λ (ys : List Role). Catches ∷ ys)
      (c.is ∙ ap (λ (ys : List Role). c.body ++ ys) c.ends.is ∙ sym (append_assoc c.body c.ends.handlers (Ends ∷ rest)));
}

catch_all_tail : (xs rest : List Role) → Closing InBlock xs rest → Caught (CatchesAll ∷ xs) rest
catch_all_tail xs rest c = record {
  handlers = CatchesAll ∷ c.body;
  nested = caught_all c.nested;
  is = ap (λ (ys : List Role). CatchesAll ∷ ys) (c.is ∙ ap (λ (ys : List Role). c.body ++ ys) c.ends);
}

end_tail : (f : Frame) (xs : List Role) → Tail f (Ends ∷ xs) xs
end_tail InBlock xs = refl
end_tail InIf xs = inl refl
end_tail InTry xs = inl (record { handlers = []; nested = no_handler; is = refl })
end_tail InCatch xs = record { handlers = []; nested = no_handler; is = refl }

-- The roles xs close the blocks that are open after this move.
abbrev After : Move Open → List Role → Type 0
After (On s) xs = Closes (s.innermost ∷ s.outer) xs
After Stop xs = xs ≡ []
After Never xs = ⊥

left_closes : (fs : List Frame) (xs : List Role) → After (move_outwards fs) xs → Closes fs xs
left_closes [] xs a = a
left_closes (f ∷ fs) xs a = a

one : (x : Role) (f : Frame) (fs : List Frame) (xs : List Role) → After (advance (open_frames f fs) x) xs → Closes (f ∷ fs) (x ∷ xs)
one Plain f fs xs a = let (rest, closing, closed) = a in (rest, grown (Plain ∷ []) (λ ys n. plain n) f xs rest closing, closed)
one Opens f fs xs a = entered Opens f InBlock fs xs (block_group xs) a
one OpensIf f fs xs a = entered OpensIf f InIf fs xs (λ mid c. if_tail xs mid c.body c.tail c.nested c.is c.ends) a
one OpensTry f fs xs a = entered OpensTry f InTry fs xs (λ mid c. try_tail xs mid c.body c.tail c.nested c.is c.ends) a
one Ends f fs xs a = (xs, bare f (Ends ∷ xs) xs (end_tail f xs), left_closes fs xs a)
one Else InIf fs xs a = let (rest, closing, closed) = a in (rest, bare InIf (Else ∷ xs) rest (else_tail xs rest closing), closed)
one Else InBlock fs xs a = absurd a
one Else InTry fs xs a = absurd a
one Else InCatch fs xs a = absurd a
one Catches InTry fs xs a =
    let (rest, closing, closed) = a in
    (rest, bare InTry (Catches ∷ xs) rest (inl (catch_tail xs rest closing)), closed)
one Catches InCatch fs xs a =
    let (rest, closing, closed) = a in
    (rest, bare InCatch (Catches ∷ xs) rest (catch_tail xs rest closing), closed)
one Catches InBlock fs xs a = absurd a
one Catches InIf fs xs a = absurd a
one CatchesAll InTry fs xs a =
    let (rest, closing, closed) = a in
    (rest, bare InTry (CatchesAll ∷ xs) rest (inl (catch_all_tail xs rest closing)), closed)
one CatchesAll InCatch fs xs a =
    let (rest, closing, closed) = a in
    (rest, bare InCatch (CatchesAll ∷ xs) rest (catch_all_tail xs rest closing), closed)
one CatchesAll InBlock fs xs a = absurd a
one CatchesAll InIf fs xs a = absurd a
one Delegates InTry fs xs a = (xs, bare InTry (Delegates ∷ xs) xs (inr refl), left_closes fs xs a)
one Delegates InBlock fs xs a = absurd a
one Delegates InIf fs xs a = absurd a
one Delegates InCatch fs xs a = absurd a

after_last : (m : Move Open) → by_move m (λ t. false) true false ≡ true → After m []
after_last (On s) e = absurd cc
after_last Stop e = refl
after_last Never e = absurd cc

after_item : (m : Move Open) (xs : List Role) (last : Role) → by_move m (λ t. stops advance t xs last) false false ≡ true
    → ((t : Open) → stops advance t xs last ≡ true → Closes (t.innermost ∷ t.outer) (xs ++ last ∷ [])) → After m (xs ++ last ∷ [])
after_item (On s) xs last e more = more s e
after_item Stop xs last e more = absurd cc
after_item Never xs last e more = absurd cc

closes : (xs : List Role) (last : Role) (s : Open) → stops advance s xs last ≡ true → Closes (s.innermost ∷ s.outer) (xs ++ last ∷ [])
closes [] last s e = one last s.innermost s.outer [] (after_last (advance s last) e)
closes (x ∷ xs) last s e = one x s.innermost s.outer (xs ++ last ∷ []) (after_item (advance s x) xs last e (λ t k. closes xs last t k))

-- Accepted roles are well nested, and the last one is an `end`.
pub nested_to_end : (xs : List Role) (last : Role) → stops advance at_start xs last ≡ true → Nests Sequence xs × (last ≡ Ends)
nested_to_end xs last e =
    let (_, c, none_left) = closes xs last at_start e in
    let tail : c.tail ≡ Ends ∷ [] = c.ends ∙ ap (λ (ys : List Role). Ends ∷ ys) none_left in
    let end : xs ++ last ∷ [] ≡ c.body ++ Ends ∷ [] = c.is ∙ ap (λ (ys : List Role). c.body ++ ys) tail in
    let same = same_from_push xs c.body last Ends end in
    (subst (λ (ys : List Role). Nests Sequence ys) (sym same.0) c.nested, same.1)
