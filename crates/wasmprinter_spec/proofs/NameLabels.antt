-- The name that entries of name sections give a label is the name that the text uses for it.
use Rattle.std.specs.Prelude.{◌≡◌, ℕ, List, [], ◌∷◌, ◌++◌, Bool, true, false, not, ◌||◌, ◌&&◌, nat_eq, codes, decimal, cond, Option, Some, None, if◌then◌else◌, refl}
use Rattle.std.proofs.Common.{ap, sym}
use Rattle.std.proofs.lemmas.Bool.{eqb-true}
use Rattle.wasmprinter_spec.specs.Grammar.{◌>>=◌}
use Rattle.wasmprinter_spec.specs.Labels.{Named, Label}
use Rattle.wasmprinter_spec.specs.LabelNames.{is_clean, label_content, label_named}
use Rattle.wasmprinter_spec.specs.Names.Section.{Entry, label_subsection}
use Rattle.wasmprinter_spec.specs.Names.Content.{is_among, content, entry_name, last_name, entries_in, name_of}
use Rattle.wasmprinter_spec.specs.Names.{names_of}

-- The name of a label. A label without a name gets one by the number of enclosing blocks, or none.
abbrev pub or_label : Bool → ℕ → ℕ → Option Named → Label
or_label synthesizes i d None = label_named synthesizes i d None
or_label synthesizes i d (Some n) = Some n

-- The label has this name.
abbrev IsOfLabel : ℕ → Option Named → Type 0
IsOfLabel i o = (synthesizes : Bool) (d : ℕ) → label_named synthesizes i d (o >>= λ n. n.given) ≡ or_label synthesizes i d o

content-label : (given : List (List ℕ)) (e : Entry) → content label_subsection given e ≡ label_content e.index e.name
content-label given e = by (is_clean e.name)
  where
    by : (b : Bool) → (if not b || (false && is_among e.name given) then 35 ∷ (codes "label" ++ (decimal e.index ++ (32 ∷ e.name))) else e.name)
        ≡ cond b e.name (codes "#label" ++ (decimal e.index ++ (32 ∷ e.name)))
    by true = refl
    by false = refl

entry-label : (given : List (List ℕ)) (e : Entry) → IsOfLabel e.index (Some (entry_name label_subsection given e))
entry-label given e synthesizes d = ap (λ (t : List ℕ). Some (record { given = Some e.name; content = t })) (sym (content-label given e))

last-label : (given : List (List ℕ)) (before : Option Named) (entries : List Entry) (i : ℕ) → IsOfLabel i before → IsOfLabel i (last_name label_subsection given before entries i)
last-label given before [] i h = h
last-label given before (e ∷ entries) i h = last-label (e.name ∷ given) _ entries i (by (nat_eq e.index i) refl)
  where
    by : (hit : Bool) → nat_eq e.index i ≡ hit → IsOfLabel i (if hit then Some (entry_name label_subsection given e) else before)
    by true t = rw (← eqb-true e.index i t) (entry-label given e)
    by false t = h

pub label-name_of : (synthesizes : Bool) (entries : List Entry) (f i d : ℕ) → (names_of synthesizes entries).labels f i d ≡ or_label synthesizes i d (name_of entries label_subsection f i)
label-name_of synthesizes entries f i d = last-label [] None (entries_in label_subsection f entries) i (λ t e. refl) synthesizes d
