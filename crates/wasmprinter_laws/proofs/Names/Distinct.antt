-- No two indices of one space have the same identifier.
use Rattle.std.proofs.Common.{◌≡◌, ◌≢◌, ℕ, ◌<◌, ◌^◌, List, [], ◌∷◌, ◌++◌, Bool, true, false, ◌||◌, ◌&&◌, not, bytes_eq, decimal, Option, Some, None, refl, sym, ap, ◌∙◌, subst, arith, true≢false}
use Rattle.std.specs.Prelude.{nat_eq, if◌then◌else◌}
use Rattle.std.proofs.lemmas.Bool.{eqb-true, eqb-false, or_left, or_right, or_parts}
use Rattle.std.proofs.lemmas.Fmt.{decimal_injective}
use Rattle.wasmprinter_spec.specs.Labels.{Named}
use Rattle.wasmprinter_spec.specs.LabelNames.{is_clean}
use Rattle.wasmprinter_spec.specs.Row.{Space, Types, Func, Table, Memory, Tag, Global, Elem, Data, Local, Label}
use Rattle.wasmprinter_spec.specs.Names.Section.{Entry, function_subsection, local_subsection, type_subsection, table_subsection, memory_subsection, global_subsection, elem_subsection, data_subsection, field_subsection, tag_subsection}
use Rattle.wasmprinter_spec.specs.Names.Content.{group_of, index_content, marked_content, is_counted, is_among, content, entry_name, last_name, is_in, entries_in, name_of}
use Rattle.wasmprinter_spec.specs.Names.{names_of, no_names, or_synthesized, name_in, AreDistinct, AreApart}
use Rattle.wasmprinter_laws.specs.NameLaws.{AreEntries, IsEntry, IdentifiersAreApart}
use Rattle.wasmprinter_laws.proofs.Bytes.{same_bytes}
use Rattle.wasmprinter_laws.proofs.Operators.LabelNames.{no_blank-decimal, around_blank, has_blank, label_naming_apart, no_label_names_are_apart}

-- ---- entries of one space

keeps_entry : (b : Bool) (e : Entry) (xs : List Entry) → IsEntry e → AreEntries xs → AreEntries (if b then e ∷ xs else xs)
keeps_entry true e xs h hs = (h, hs)
keeps_entry false e xs h hs = hs

pub are_entries-in : (s outer : ℕ) (entries : List Entry) → AreEntries entries → AreEntries (entries_in s outer entries)
are_entries-in s outer [] h = tt
are_entries-in s outer (e ∷ entries) h = keeps_entry (is_in s outer e) e (entries_in s outer entries) h.0 (are_entries-in s outer entries h.1)

-- ---- the index in a content

-- Two equal texts with the same prefix have the same rest.
after_group : (g xs ys : List ℕ) → g ++ xs ≡ g ++ ys → xs ≡ ys
after_group [] xs ys e = e
after_group (c ∷ g) xs ys e = after_group g xs ys (let f : g ++ xs ≡ g ++ ys = cc in f)

after_sign : (g xs ys : List ℕ) → ◌≡◌ {A = List ℕ} (35 ∷ (g ++ xs)) (35 ∷ (g ++ ys)) → xs ≡ ys
after_sign g xs ys e = after_group g xs ys (let f : g ++ xs ≡ g ++ ys = cc in f)

number : (i j : ℕ) → i < 2 ^ 64 → j < 2 ^ 64 → decimal i ≡ decimal j → i ≡ j
number i j p q e = decimal_injective i j p q e

marked-index : (g m n : List ℕ) (i j : ℕ) → i < 2 ^ 64 → j < 2 ^ 64 → marked_content g i m ≡ marked_content g j n → i ≡ j
marked-index g m n i j p q e =
    number i j p q (around_blank (decimal i) (decimal j) m n (no_blank-decimal i) (no_blank-decimal j)
    (after_sign g (decimal i ++ (32 ∷ m)) (decimal j ++ (32 ∷ n)) e)).0

index-index : (g : List ℕ) (i j : ℕ) → i < 2 ^ 64 → j < 2 ^ 64 → index_content g i ≡ index_content g j → i ≡ j
index-index g i j p q e = number i j p q (after_sign g (decimal i) (decimal j) e)

marked-not_index : (g n : List ℕ) (i j : ℕ) → marked_content g j n ≡ index_content g i → ⊥
marked-not_index g n i j e = has_blank (decimal j) (decimal i) n (no_blank-decimal i) (after_sign g (decimal j ++ (32 ∷ n)) (decimal i) e)

-- ---- the identifier of an index

-- The identifier of an index, synthesized if it has no name
abbrev text_at : ℕ → Option Named → ℕ → List ℕ
text_at s None index = index_content (group_of s) index
text_at s (Some n) index = n.content

-- An identifier contains its own index, or it is a name that was given.
data Calls (s : ℕ) (given : List (List ℕ)) (i : ℕ) (c : List ℕ) : Type 0 where
  Marked : (n : List ℕ) → c ≡ marked_content (group_of s) i n → Calls s given i c
  Synthesized : c ≡ index_content (group_of s) i → Calls s given i c
  Given : is_among c given ≡ true → is_clean c ≡ true → Calls s given i c

not-false : (a : Bool) → not a ≡ false → a ≡ true
not-false true e = refl
not-false false e = absurd (true≢false e)

and-right : (a b : Bool) → a ≡ true → (a && b) ≡ false → b ≡ false
and-right true b e f = f
and-right false b e f = absurd (true≢false (sym e))

-- Reports whether a name can't be the identifier, so that the identifier has to contain the index.
abbrev needs_mark : ℕ → List (List ℕ) → Entry → Bool
needs_mark s given e = not (is_clean e.name) || (is_counted s && is_among e.name given)

clean : (s : ℕ) (given : List (List ℕ)) (e : Entry) → needs_mark s given e ≡ false → is_clean e.name ≡ true
clean s given e h = not-false (is_clean e.name) (or_parts (not (is_clean e.name)) (is_counted s && is_among e.name given) h).0

unclean : (c d : List ℕ) → is_clean c ≡ true → is_clean d ≡ false → c ≢ d
unclean c d h k e = true≢false (sym h ∙ ap is_clean e ∙ k)

-- The identifier that an entry gives is one of its index.
calls_by : (s : ℕ) (given : List (List ℕ)) (e : Entry) (b : Bool) → needs_mark s given e ≡ b
    → Calls s (e.name ∷ given) e.index (if b then marked_content (group_of s) e.index e.name else e.name)
calls_by s given e true h = Marked e.name refl
calls_by s given e false h = Given (or_left (bytes_eq e.name e.name) (is_among e.name given) (same_bytes e.name)) (clean s given e h)

still_calls : (s : ℕ) (given : List (List ℕ)) (i : ℕ) (c n : List ℕ) → Calls s given i c → Calls s (n ∷ given) i c
still_calls s given i c n (Marked m e) = Marked m e
still_calls s given i c n (Synthesized e) = Synthesized e
still_calls s given i c n (Given h k) = Given (or_right (bytes_eq n c) (is_among c given) h) k

-- ---- two indices

module _ (s : ℕ) (counted : is_counted s ≡ true) where
  -- The identifier that an entry gives differs from that of another index.
  apart_by : (given : List (List ℕ)) (e : Entry) (b : Bool) (j : ℕ) (d : List ℕ) → needs_mark s given e ≡ b
      → e.index < 2 ^ 64 → j < 2 ^ 64 → e.index ≢ j → Calls s given j d → (if b then marked_content (group_of s) e.index e.name else e.name) ≢ d
  apart_by given e true j d h p q ne (Marked n r) f = ne (marked-index (group_of s) e.name n e.index j p q (f ∙ r))
  apart_by given e true j d h p q ne (Synthesized r) f = marked-not_index (group_of s) e.name j e.index (f ∙ r)
  apart_by given e true j d h p q ne (Given a k) f = unclean d (marked_content (group_of s) e.index e.name) k refl (sym f)
  apart_by given e false j d h p q ne (Marked n r) f = unclean e.name (marked_content (group_of s) j n) (clean s given e h) refl (f ∙ r)
  apart_by given e false j d h p q ne (Synthesized r) f = unclean e.name (index_content (group_of s) j) (clean s given e h) refl (f ∙ r)
  apart_by given e false j d h p q ne (Given a k) f =
      let new : is_among e.name given ≡ false =
      and-right (is_counted s) (is_among e.name given) counted (or_parts (not (is_clean e.name)) (is_counted s && is_among e.name given) h).1 in
      true≢false (sym a ∙ ap (λ x. is_among x given) (sym f) ∙ new)

  -- The name of an index after an entry
  abbrev next : List (List ℕ) → Entry → Bool → Option Named → Option Named
  next given e hit a = if hit then Some (entry_name s given e) else a

  calls_next : (given : List (List ℕ)) (e : Entry) (hit : Bool) (i : ℕ) (a : Option Named) → nat_eq e.index i ≡ hit
      → Calls s given i (text_at s a i) → Calls s (e.name ∷ given) i (text_at s (next given e hit a) i)
  calls_next given e true i a h r =
      subst (λ (k : ℕ). Calls s (e.name ∷ given) k (content s given e)) (eqb-true e.index i h) (calls_by s given e (needs_mark s given e) refl)
  calls_next given e false i a h r = still_calls s given i (text_at s a i) e.name r

  -- If two indices have different identifiers before an entry, they have different identifiers after it.
  apart_next : (given : List (List ℕ)) (e : Entry) (hit strike : Bool) (i j : ℕ) (a b : Option Named)
      → nat_eq e.index i ≡ hit → nat_eq e.index j ≡ strike → e.index < 2 ^ 64 → i < 2 ^ 64 → j < 2 ^ 64 → i ≢ j
      → Calls s given i (text_at s a i) → Calls s given j (text_at s b j) → text_at s a i ≢ text_at s b j
      → text_at s (next given e hit a) i ≢ text_at s (next given e strike b) j
  apart_next given e true true i j a b h k small p q ne r t apart f = ne (sym (eqb-true e.index i h) ∙ eqb-true e.index j k)
  apart_next given e true false i j a b h k small p q ne r t apart f =
      apart_by given e (needs_mark s given e) j (text_at s b j) refl small q (λ l. ne (sym (eqb-true e.index i h) ∙ l)) t f
  apart_next given e false true i j a b h k small p q ne r t apart f =
      apart_by given e (needs_mark s given e) i (text_at s a i) refl small p (λ l. ne (sym l ∙ eqb-true e.index j k)) r (sym f)
  apart_next given e false false i j a b h k small p q ne r t apart f = apart f

  stay_apart : (entries : List Entry) (given : List (List ℕ)) (a b : Option Named) (i j : ℕ) → AreEntries entries
      → i < 2 ^ 64 → j < 2 ^ 64 → i ≢ j → Calls s given i (text_at s a i) → Calls s given j (text_at s b j) → text_at s a i ≢ text_at s b j
      → text_at s (last_name s given a entries i) i ≢ text_at s (last_name s given b entries j) j
  stay_apart [] given a b i j h p q ne r t apart = apart
  stay_apart (e ∷ entries) given a b i j h p q ne r t apart =
      stay_apart entries (e.name ∷ given) (next given e (nat_eq e.index i) a) (next given e (nat_eq e.index j) b) i j h.1 p q ne
      (calls_next given e (nat_eq e.index i) i a refl r) (calls_next given e (nat_eq e.index j) j b refl t)
      (apart_next given e (nat_eq e.index i) (nat_eq e.index j) i j a b refl refl (omega (arith, h.0.index)) p q ne r t apart)

  texts_apart : (entries : List Entry) (outer i j : ℕ) → AreEntries entries → i < 2 ^ 64 → j < 2 ^ 64 → i ≢ j
      → text_at s (name_of entries s outer i) i ≢ text_at s (name_of entries s outer j) j
  texts_apart entries outer i j h p q ne =
      stay_apart (entries_in s outer entries) [] None None i j (are_entries-in s outer entries h) p q ne (Synthesized refl) (Synthesized refl)
      (λ e. ne (index-index (group_of s) i j p q e))

  text-content : (synthesizes : Bool) (o : Option Named) (i : ℕ) (n : Named) → or_synthesized synthesizes (group_of s) i o ≡ Some n → n.content ≡ text_at s o i
  text-content synthesizes (Some m) i n e = let same : m ≡ n = cc in ap (λ (x : Named). x.content) (sym same)
  text-content true None i n e =
      let same : record { given = None; content = index_content (group_of s) i } ≡ n = cc in
      ap (λ (x : Named). x.content) (sym same)
  text-content false None i n e = absurd cc

  distinct : (synthesizes : Bool) (entries : List Entry) (outer : ℕ) → AreEntries entries → AreDistinct (name_in synthesizes (name_of entries) s outer)
  distinct synthesizes entries outer h i j a b p q f g e = by (nat_eq i j) refl
    where
      texts : text_at s (name_of entries s outer i) i ≡ text_at s (name_of entries s outer j) j
      texts = sym (text-content synthesizes (name_of entries s outer i) i a f) ∙ e ∙ text-content synthesizes (name_of entries s outer j) j b g

      by : (t : Bool) → nat_eq i j ≡ t → i ≡ j
      by true t = eqb-true i j t
      by false t = absurd (texts_apart entries outer i j h p q (eqb-false i j t) texts)

items_distinct : (synthesizes : Bool) (entries : List Entry) → AreEntries entries → (space : Space) → AreDistinct ((names_of synthesizes entries).items space)
items_distinct synthesizes entries h Types = distinct type_subsection refl synthesizes entries 0 h
items_distinct synthesizes entries h Func = distinct function_subsection refl synthesizes entries 0 h
items_distinct synthesizes entries h Table = distinct table_subsection refl synthesizes entries 0 h
items_distinct synthesizes entries h Memory = distinct memory_subsection refl synthesizes entries 0 h
items_distinct synthesizes entries h Tag = distinct tag_subsection refl synthesizes entries 0 h
items_distinct synthesizes entries h Global = distinct global_subsection refl synthesizes entries 0 h
items_distinct synthesizes entries h Elem = distinct elem_subsection refl synthesizes entries 0 h
items_distinct synthesizes entries h Data = distinct data_subsection refl synthesizes entries 0 h
items_distinct synthesizes entries h Local = λ i j a b p q f g e. absurd cc
items_distinct synthesizes entries h Label = λ i j a b p q f g e. absurd cc

pub identifiers_are_apart : IdentifiersAreApart
identifiers_are_apart synthesizes entries h = record {
  items = items_distinct synthesizes entries h;
  fields = λ t. distinct field_subsection refl synthesizes entries t h;
  locals = λ f. distinct local_subsection refl synthesizes entries f h;
  labels = λ f. label_naming_apart synthesizes _;
}

pub no_names_are_apart : AreApart no_names
no_names_are_apart = record {
  items = λ space i j a b p q f g e. absurd cc;
  fields = λ t i j a b p q f g e. absurd cc;
  locals = λ t i j a b p q f g e. absurd cc;
  labels = λ f. no_label_names_are_apart;
}
