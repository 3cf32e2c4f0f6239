-- The items of the operators of a body start with a word, or with a group that is an operator.
use Rattle.std.proofs.Common.{◌≡◌, ℕ, true, false, Bool, List, [], ◌∷◌, Option, Some, None, refl, ap, sym, ◌∙◌, subst}
use Rattle.std.specs.List.{AllByRecursion}
use Rattle.wasmprinter_spec.specs.Grammar.{Placed}
use Rattle.wasmprinter_spec.specs.Forest.{Forest, End, Word, Group, Note, onto}
use Rattle.wasmprinter_spec.specs.Operator.{Operator}
use Rattle.wasmprinter_spec.specs.Table.{word_of_row, role_of_row}
use Rattle.wasmprinter_spec.specs.Module.{without_places}
use Rattle.wasmprinter_spec.specs.Names.{AreNamed}
use Rattle.wasmprinter_spec.specs.Customs.Hints.{Hint}
use Rattle.wasmprinter_spec.specs.Code.{is_hint}
use Rattle.wasmprinter_spec.specs.Layout.Declarations.{Folding}
use Rattle.wasmprinter_spec.specs.Layout.Operators.{Form, Setting}
use Rattle.wasmprinter_spec.specs.Layout.Folded.{items}
use Rattle.wasmprinter_spec.specs.Folding.Code as folding
use Rattle.wasmprinter_spec.specs.Folding.Code.{Item, NestedCode, role}
use Rattle.wasmprinter_spec.specs.Folding.Tree.{Nodes, tree}
use Rattle.wasmprinter_laws.specs.Listed.{IsListed, AreSignaturesInRange}
use Rattle.wasmprinter_laws.proofs.Tabled.{HasRow, row_for, StandsAlone}
use Rattle.wasmprinter_laws.proofs.Operators.Lists.{expression_items}
use Rattle.wasmprinter_laws.proofs.Folded.Words.{is_folded, leads_alone}
use Rattle.wasmprinter_laws.proofs.Folded.Items.{word, IsPrinted}
use Rattle.wasmprinter_laws.proofs.Folded.Rows.{IsRow, no_nodes, a_plain, a_block, an_if, an_if_else}
use Rattle.wasmprinter_laws.proofs.Folded.Reads.{hint_at, row_items}
use Rattle.wasmprinter_laws.proofs.Folded.ReadBack.{tree_row}
use Rattle.wasmprinter_laws.proofs.Folded.Lists.{code_items, list_items}

-- No items, or items that start with a word, with a group that starts with the word of an operator, or with a hint
abbrev pub BeginsCode : Forest → Type 0
BeginsCode End = Unit {0}
BeginsCode (Word w f) = Unit {0}
BeginsCode (Group (Word w g) f) = StandsAlone w
BeginsCode (Note id g f) = is_hint id ≡ true
BeginsCode _ = ⊥

begins_onto : (a b : Forest) → BeginsCode a → BeginsCode b → BeginsCode (onto a b)
begins_onto End b h k = k
begins_onto (Word w a) b h k = tt
begins_onto (Group (Word w g) a) b h k = h
begins_onto (Note id g a) b h k = h
begins_onto _ b h k = absurd h

-- The word of an operator that has a node can start a group.
pub stands_alone : {form : Form} (x : Item) → IsPrinted form x → is_folded (role x) ≡ true → StandsAlone (word x)
stands_alone x p e =
    let r : HasRow x.operator.value = row_for x.operator.value p.listed in
    subst StandsAlone (sym (ap word_of_row r.found)) (leads_alone r.row r.in_table (ap is_folded (sym (ap role_of_row r.found)) ∙ e))

hint_begins : (hints : Bool) (h : Option (Placed Hint)) (w : List ℕ) (g : Forest) → StandsAlone w → BeginsCode (hint_at hints h (Group (Word w g) End))
hint_begins true (Some h) w g a = refl
hint_begins true None w g a = a
hint_begins false h w g a = a

-- The items of a row start in this way, with or without hints before the nodes.
pub row_begins : (hints : Bool) (form : Form) (f : Nodes) → IsRow form f → BeginsCode (row_items hints f)
row_begins hints form f no_nodes = tt
row_begins hints form f (a_plain b x r held e p rb rh) =
    begins_onto (row_items hints b) _ (row_begins hints form b rb) (hint_begins hints x.hint _ _ (stands_alone x p (ap is_folded e)))
row_begins hints form f (a_block b x r held e p rb rh n) =
    begins_onto (row_items hints b) _ (row_begins hints form b rb) (hint_begins hints x.hint _ _ (stands_alone x p (ap is_folded e)))
row_begins hints form f (an_if b x r given q held e p rb rg rh n) =
    begins_onto (row_items hints b) _ (row_begins hints form b rb) (hint_begins hints x.hint _ _ (stands_alone x p (ap is_folded e)))
row_begins hints form f (an_if_else b x r given q held y t other e p rb rg rh n i py ro m) =
    begins_onto (row_items hints b) _ (row_begins hints form b rb) (hint_begins hints x.hint _ _ (stands_alone x p (ap is_folded e)))

flat_begins : (s : Setting) (os : List Operator) → BeginsCode (expression_items s os)
flat_begins s [] = tt
flat_begins s (o ∷ os) = tt

pub list_begins : (folding : Option Folding) (own : Option ℕ) (s : Setting) → AreNamed s.names → AreSignaturesInRange s.signature → (hs : List (Placed Hint)) (os : List (Placed Operator)) →
    AllByRecursion IsListed (without_places os) → BeginsCode (list_items false folding own s hs os)
list_begins None own s named ranged hs os l = flat_begins s (without_places os)
list_begins (Some f) own s named ranged hs os l = by (folding.nested_code_of (items s (f.signatures own) hs 0 [] [] os)) refl
  where
    by : (c : Option NestedCode) → folding.nested_code_of (items s (f.signatures own) hs 0 [] [] os) ≡ c → BeginsCode (code_items false c)
    by None e = tt
    by (Some code) e = row_begins false s.form (tree code) (tree_row s named ranged (f.signatures own) hs os l code e)
