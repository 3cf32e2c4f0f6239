-- Each identifier is UTF-8 and not empty.
use Rattle.std.proofs.Common.{◌≡◌, ℕ, ◌<◌, List, [], ◌∷◌, ◌++◌, Bool, true, false, ◌||◌, ◌&&◌, not, codes, decimal, length, Option, Some, None, refl, sym, subst, arith, true≢false}
use Rattle.std.specs.Prelude.{nat_eq, ◌==◌, IsUtf8, if◌then◌else◌}
use Rattle.std.proofs.lemmas.Str.{IsUtf8-append}
use Rattle.wasmprinter_laws.proofs.Tokens.Printed.{all_printed}
use Rattle.wasmprinter_spec.specs.Grammar.{◌>>=◌}
use Rattle.wasmprinter_spec.specs.Labels.{Named}
use Rattle.wasmprinter_spec.specs.LabelNames.{is_clean}
use Rattle.wasmprinter_spec.specs.Row.{Space, Types, Func, Table, Memory, Tag, Global, Elem, Data, Local, Label}
use Rattle.wasmprinter_spec.specs.Names.Section.{Entry, module_subsection, function_subsection, local_subsection, label_subsection, type_subsection, table_subsection, memory_subsection, global_subsection, elem_subsection, data_subsection, field_subsection, tag_subsection}
use Rattle.wasmprinter_spec.specs.Names.Content.{group_of, index_content, marked_content, is_counted, is_among, entry_name, last_name, entries_in, name_of}
use Rattle.wasmprinter_spec.specs.Names.{names_of, no_names, or_synthesized, name_in, IsGiven, IsNamed, IsNamedIfAny, AreNamed}
use Rattle.wasmprinter_laws.specs.NameLaws.{AreEntries, IsEntry, IdentifiersAreNamed}
use Rattle.wasmprinter_laws.proofs.Operators.LabelNames.{printed_is_utf8, utf8-decimal, label_naming_names}
use Rattle.wasmprinter_laws.proofs.Names.Distinct.{are_entries-in}

-- ---- contents

either : (b : Bool) (x y : List ℕ) → all_printed x ≡ true → all_printed y ≡ true → all_printed (if b then x else y) ≡ true
either true x y h k = h
either false x y h k = k

group-printed : (s : ℕ) → all_printed (group_of s) ≡ true
group-printed s =
    either (s == module_subsection) (codes "module") _ refl
    (either (s == function_subsection) (codes "func") _ refl
    (either (s == local_subsection) (codes "local") _ refl
    (either (s == label_subsection) (codes "label") _ refl
    (either (s == type_subsection) (codes "type") _ refl
    (either (s == table_subsection) (codes "table") _ refl
    (either (s == memory_subsection) (codes "memory") _ refl
    (either (s == global_subsection) (codes "global") _ refl
    (either (s == elem_subsection) (codes "elem") _ refl
    (either (s == data_subsection) (codes "data") _ refl
    (either (s == field_subsection) (codes "field") (codes "tag") refl refl))))))))))

-- The sign `#` and the word for the kind of item, before a text in UTF-8, are UTF-8.
signed : (s : ℕ) (text : List ℕ) → IsUtf8 text → IsUtf8 (35 ∷ (group_of s ++ text))
signed s text h =
    IsUtf8-append (35 ∷ []) (group_of s ++ text) (printed_is_utf8 (35 ∷ []) refl)
    (IsUtf8-append (group_of s) text (printed_is_utf8 (group_of s) (group-printed s)) h)

index-named : (s i : ℕ) → IsNamed (record { given = None; content = index_content (group_of s) i })
index-named s i = record { given = tt; content = signed s (decimal i) (utf8-decimal i); some = omega arith }

clean_is_long : (name : List ℕ) → is_clean name ≡ true → 0 < length name
clean_is_long [] h = absurd (true≢false (sym h))
clean_is_long (b ∷ bs) h = omega arith

not_or : (a b : Bool) → (not a || b) ≡ false → a ≡ true
not_or true b h = refl
not_or false b h = absurd (true≢false h)

entry-named : (s : ℕ) (given : List (List ℕ)) (e : Entry) → IsEntry e → IsNamed (entry_name s given e)
entry-named s given e h = by (not (is_clean e.name) || (is_counted s && is_among e.name given)) refl
  where
    by : (b : Bool) → (not (is_clean e.name) || (is_counted s && is_among e.name given)) ≡ b
        → IsNamed (record { given = Some e.name; content = if b then marked_content (group_of s) e.index e.name else e.name })
    by true t = record {
      given = h.name;
      content = signed s (decimal e.index ++ (32 ∷ e.name))
          (IsUtf8-append (decimal e.index) (32 ∷ e.name) (utf8-decimal e.index) (IsUtf8-append (32 ∷ []) e.name (printed_is_utf8 (32 ∷ []) refl) h.name));
      some = omega arith;
    }
    by false t = record { given = h.name; content = h.name; some = clean_is_long e.name (not_or (is_clean e.name) (is_counted s && is_among e.name given) t) }

-- ---- names of items

last-named : (s : ℕ) (given : List (List ℕ)) (before : Option Named) (entries : List Entry) (i : ℕ) → IsNamedIfAny before → AreEntries entries
    → IsNamedIfAny (last_name s given before entries i)
last-named s given before [] i b h = b
last-named s given before (e ∷ entries) i b h = last-named s (e.name ∷ given) _ entries i (by (nat_eq e.index i)) h.1
  where
    by : (hit : Bool) → IsNamedIfAny (if hit then Some (entry_name s given e) else before)
    by true = entry-named s given e h.0
    by false = b

name_of-named : (entries : List Entry) (s outer i : ℕ) → AreEntries entries → IsNamedIfAny (name_of entries s outer i)
name_of-named entries s outer i h = last-named s [] None (entries_in s outer entries) i tt (are_entries-in s outer entries h)

or_synthesized-named : (synthesizes : Bool) (s i : ℕ) (o : Option Named) → IsNamedIfAny o → IsNamedIfAny (or_synthesized synthesizes (group_of s) i o)
or_synthesized-named synthesizes s i (Some n) h = h
or_synthesized-named true s i None h = index-named s i
or_synthesized-named false s i None h = tt

named : (synthesizes : Bool) (entries : List Entry) (s outer i : ℕ) → AreEntries entries → IsNamedIfAny (name_in synthesizes (name_of entries) s outer i)
named synthesizes entries s outer i h = or_synthesized-named synthesizes s i (name_of entries s outer i) (name_of-named entries s outer i h)

items_named : (synthesizes : Bool) (entries : List Entry) → AreEntries entries → (space : Space) (i : ℕ) → IsNamedIfAny ((names_of synthesizes entries).items space i)
items_named synthesizes entries h Types i = named synthesizes entries type_subsection 0 i h
items_named synthesizes entries h Func i = named synthesizes entries function_subsection 0 i h
items_named synthesizes entries h Table i = named synthesizes entries table_subsection 0 i h
items_named synthesizes entries h Memory i = named synthesizes entries memory_subsection 0 i h
items_named synthesizes entries h Tag i = named synthesizes entries tag_subsection 0 i h
items_named synthesizes entries h Global i = named synthesizes entries global_subsection 0 i h
items_named synthesizes entries h Elem i = named synthesizes entries elem_subsection 0 i h
items_named synthesizes entries h Data i = named synthesizes entries data_subsection 0 i h
items_named synthesizes entries h Local i = tt
items_named synthesizes entries h Label i = tt

-- ---- names of labels

raw_name : List Entry → ℕ → ℕ → Option (List ℕ)
raw_name entries f i = name_of entries label_subsection f i >>= λ n. n.given

given-utf8 : (o : Option Named) (text : List ℕ) → IsNamedIfAny o → (o >>= λ n. n.given) ≡ Some text → IsUtf8 text
given-utf8 (Some n) text h e = subst IsGiven e h.given
given-utf8 None text h e = absurd cc

pub identifiers_are_named : IdentifiersAreNamed
identifiers_are_named synthesizes entries h = record {
  module_name = name_of-named entries module_subsection 0 0 h;
  items = items_named synthesizes entries h;
  fields = λ t i. named synthesizes entries field_subsection t i h;
  locals = λ f i. named synthesizes entries local_subsection f i h;
  labels = λ f.
      label_naming_names synthesizes (λ j. name_of entries label_subsection f j >>= λ n. n.given)
      (λ j text e. given-utf8 (name_of entries label_subsection f j) text (name_of-named entries label_subsection f j h) e);
}

pub no_names_are_named : AreNamed no_names
no_names_are_named = record { module_name = tt; items = λ space i. tt; fields = λ t i. tt; locals = λ f i. tt; labels = λ f i d. tt }
