-- The reading law: printed text reads back, and its tokens do not depend on places and indent.
use Rattle.std.proofs.Common.{◌≡◌, ℕ, ◌+◌, cond, List, [], ◌∷◌, ◌++◌, Option, Some, None, refl, sym, ap, ◌∙◌, codes, Bool, false, subst, append-nil, map}
use Rattle.std.specs.List.{AllByRecursion}
use Rattle.std.proofs.lemmas.Str.{is_utf8-from_IsUtf8}
use Rattle.wasmprinter_spec.specs.Grammar.{◌>>=◌}
use Rattle.wasmprinter_spec.specs.Forest.{Forest, End, Word, Name, String, Reserved, Group, Note, onto, forest, without_annotations, row_customs, customs}
use Rattle.wasmprinter_spec.specs.Token.{tokens}
use Rattle.wasmprinter_spec.specs.Call.{text_of}
use Rattle.wasmprinter_spec.specs.Options.{Options, Answers, AreUnclaimed, IsBlank}
use Rattle.wasmprinter_spec.specs.Plain.{IsPlainText}
use Rattle.wasmprinter_spec.specs.Piece.{Piece, all_calls}
use Rattle.wasmprinter_spec.specs.Kinds.{Kind, CodeSection}
use Rattle.wasmprinter_spec.specs.Types.{FuncKind}
use Rattle.wasmprinter_spec.specs.Customs.{RawCustom, raw_customs}
use Rattle.wasmprinter_spec.specs.Customs.Hints.{FunctionHints, hints_of, entries_after}
use Rattle.wasmprinter_spec.specs.Placed.{PlacedModule, PlacedFunction}
use Rattle.wasmprinter_spec.specs.Names.{Names, AreNamed}
use Rattle.wasmprinter_spec.specs.Labels.{Named}
use Rattle.wasmprinter_spec.specs.Layout.Declarations.{Folding, Scope, folding_of}
use Rattle.wasmprinter_spec.specs.ModuleNames.{module_names}
use Rattle.wasmprinter_spec.specs.Limits.{HasNoEmptyInit}
use Rattle.wasmprinter_spec.specs.Indexed.{IsIndexed}
use Rattle.wasmprinter_spec.specs.Module.{Module, module_of}
use Rattle.wasmprinter_spec.specs.Layout.Customs.{laid_parts}
use Rattle.wasmprinter_spec.specs.Layout.{section_order, module_pieces, layout, parts_by, pieces_by}
use Rattle.wasmprinter_spec.specs.Laws.{ReadsBack, TokensStay, PrintsPlainText}
use Rattle.wasmprinter_spec.specs.Read.{read, read_groups, read_forest, read_customs}
use Rattle.wasmprinter_spec.specs.Text.Items.{each}
use Rattle.wasmprinter_spec.specs.Text.Customs.{read_custom}
use Rattle.wasmprinter_laws.proofs.Tokens.Plain.{plain_is_utf8}
use Rattle.wasmprinter_laws.proofs.Tokens.PrintedPieces.{text_is_plain}
use Rattle.wasmprinter_laws.proofs.Ranged.{IsRanged}
use Rattle.wasmprinter_laws.proofs.Ranges.{ranged}
use Rattle.wasmprinter_laws.proofs.GivenNames.{module_names_apart, module_names_named}
use Rattle.wasmprinter_laws.proofs.Stays.{module_pieces_stay}
use Rattle.wasmprinter_laws.proofs.Tokens.Pieces.{Bound, text_of-all_calls}
use Rattle.wasmprinter_laws.proofs.Tokens.Respelled.{all_lexed, pieces_lexed}
use Rattle.wasmprinter_laws.proofs.Tokens.Noted.{Noted, noted-without_annotations, noted-raw_groups}
use Rattle.wasmprinter_laws.proofs.Tokens.Writes.{Writes, pieces_tokens, writes_text, writes_forest}
use Rattle.wasmprinter_laws.proofs.Identifiers.{id_items}
use Rattle.wasmprinter_laws.proofs.Folded.Lists.{IsUncolored}
use Rattle.wasmprinter_laws.proofs.Fields.Functions.{functions_hinted}
use Rattle.wasmprinter_laws.proofs.Customs.Notes.{customs_after_kind, RowReads, both_rows}
use Rattle.wasmprinter_laws.proofs.Customs.Places.{raws_over, raws_over_all}
use Rattle.wasmprinter_laws.proofs.Written.{fields_noted, fields_write, noting, noted, kinds_noted, module_noted, laid, module_writes, Stands, module_stands}
use Rattle.wasmprinter_laws.proofs.Foldable.{CanFold}
use Rattle.wasmprinter_laws.proofs.AsAsked.{pieces_as_asked, layout_as_asked, refused_as_asked, can_fold_as_asked, uncolored_as_asked}
use Rattle.wasmprinter_laws.proofs.Back.{early, before, module_items, module_reads}

-- ---- raw custom sections read back

-- Without annotations, a row has no custom sections.
row_customs-without_annotations : (f : Forest) → row_customs (without_annotations f) ≡ []
row_customs-without_annotations End = refl
row_customs-without_annotations (Word s f) = row_customs-without_annotations f
row_customs-without_annotations (Name s f) = row_customs-without_annotations f
row_customs-without_annotations (String s f) = row_customs-without_annotations f
row_customs-without_annotations (Reserved f) = row_customs-without_annotations f
row_customs-without_annotations (Group g f) = row_customs-without_annotations f
row_customs-without_annotations (Note id g f) = row_customs-without_annotations f

-- The raw custom sections of a row read as these.
record RawRow (f : Forest) (rs : List RawCustom) : Type 0 where
  reads : RowReads f rs

raw_rows : {f g : Forest} {rs ts : List RawCustom} → RawRow f rs → RawRow g ts → RawRow (onto f g) (rs ++ ts)
raw_rows {f = f} {g = g} {rs = rs} {ts = ts} a b = record { reads = both_rows f g rs ts a.reads b.reads }

plain_row : {ps : List Piece} {f : Forest} → Writes Bound ps Bound f → RawRow f []
plain_row {f = f} w =
    let none : row_customs f ≡ [] = ap row_customs (sym w.without) ∙ row_customs-without_annotations f in
    record { reads = ap (λ cs. each read_custom (map without_annotations cs)) none }

functions_row : (skeleton : Bool) (s : Scope) (es : List FunctionHints) (i : ℕ) (fs : List PlacedFunction) → RowReads (functions_hinted skeleton s es i fs) []
functions_row skeleton s es i [] = refl
functions_row skeleton s es i (f ∷ fs) = functions_row skeleton s (entries_after i es) (i + 1) fs

id_row : (o : Option Named) → RawRow (id_items o) []
id_row None = record { reads = refl }
id_row (Some n) = record { reads = refl }

each-map : {A B C : Type 0} (f : B → Option C) (g : A → B) (xs : List A) → each (λ x. f (g x)) xs ≡ each f (map g xs)
each-map f g [] = refl
each-map f g (x ∷ xs) = ap (λ t. f (g x) >>= λ y. t >>= λ ys. Some (y ∷ ys)) (each-map f g xs)

module _ (folding : Option Folding) (bare : IsUncolored folding) (o : Options) (names : Names) (named : AreNamed names) (m : PlacedModule) (h : IsRanged m) (answers : Answers)
    (unclaimed : AreUnclaimed answers) (whole : o.skeleton ≡ false) where
  raws : Option Kind → List RawCustom
  raws after = raw_customs (customs_after_kind after m.customs)

  own_noted : Option Kind → Forest
  own_noted after = noted folding bare o names named m h answers after

  after_row : (after : Option Kind) → RawRow (own_noted after) (raws after)
  unfolding own_noted raws
  after_row after = record { reads = (noting folding bare o names named m h answers after).reads unclaimed whole }

  -- The fields of a section contain no custom section.
  fields_row : (k : Kind) → RawRow (fields_noted folding bare o names named m h k) []
  fields_row CodeSection =
      record { reads = functions_row o.skeleton (early folding names m) (hints_of m.customs) (before folding names m FuncKind) m.functions }
  fields_row k = plain_row (fields_write folding bare o names named m h k)

  -- The custom sections after the fields of sections in order read as the raw ones with those places.
  kinds_row : (ks : List Kind) → RawRow (kinds_noted folding bare o names named m h answers ks) (raws_over (map Some ks) m.customs)
  unfolding own_noted raws
  kinds_row [] = record { reads = refl }
  kinds_row (k ∷ ks) = raw_rows (fields_row k) (raw_rows (after_row (Some k)) (kinds_row ks))

  module_row : RawRow (module_noted folding bare o names named m h answers) (raw_customs m.customs)
  unfolding module_noted own_noted raws
  module_row =
      subst (RawRow (module_noted folding bare o names named m h answers)) (raws_over_all 0 m.customs h.customs_in_order)
      (raw_rows (after_row None) (kinds_row section_order))

  abbrev own_items : Forest
  own_items = Group (Word (codes "module") (onto (id_items names.module_name) (module_items folding names m o.skeleton))) End

  abbrev own_forest : Forest
  own_forest = Group (Word (codes "module") (onto (id_items names.module_name) (module_noted folding bare o names named m h answers))) End

  customs_read : (f : Forest) → Noted f own_forest → read_customs f ≡ Some (raw_customs m.customs)
  customs_read f n =
      each-map read_custom without_annotations (customs f)
      ∙ ap (each read_custom) (noted-raw_groups n)
      ∙ ap (λ cs. each read_custom (map without_annotations cs)) (append-nil (row_customs (onto (id_items names.module_name) (module_noted folding bare o names named m h answers))))
      ∙ (raw_rows (id_row names.module_name) module_row).reads

  -- ---- the text reads as the module

  read_pieces : IsBlank o.indent → (laid folding bare o names named m h answers).refused ≡ None → (x : Module) → read_forest own_items ≡ Some x →
      read (text_of (all_calls o (pieces_by folding o answers names m))) ≡ Some (record x { customs = raw_customs m.customs })
  read_pieces spaces none x e =
      let ps : List Piece = pieces_by folding o answers names m in
      let w = module_writes folding bare o names named m h answers none in
      let readable : IsPlainText (text_of (all_calls o ps)) = subst IsPlainText (sym (writes_text o ps w)) (text_is_plain o spaces w.printed w.are) in
      ap (λ t. cond t (forest (text_of (all_calls o ps)) >>= read_groups) None) (is_utf8-from_IsUtf8 _ (plain_is_utf8 _ readable))
      ∙ ap (λ f. f >>= read_groups) (writes_forest o spaces ps w)
      ∙ ap (λ f. read_forest f >>= λ y. read_customs w.whole >>= λ cs. Some (record y { customs = cs })) (noted-without_annotations w.noted ∙ w.without)
      ∙ ap (λ r. r >>= λ y. read_customs w.whole >>= λ cs. Some (record y { customs = cs })) e
      ∙ ap (λ r. r >>= λ cs. Some (record x { customs = cs })) (customs_read w.whole w.noted)

-- ---- a module with its own identifiers

module _ (folding : Option Folding) (bare : IsUncolored folding) (o : Options) (answers : Answers) (m : PlacedModule) (h : IsRanged m) (spaces : IsBlank o.indent) where
  abbrev own_names : Names
  own_names = module_names o.synthesizes m

  abbrev own_pieces : List Piece
  own_pieces = pieces_by folding o answers own_names m

  named : AreNamed own_names
  named = module_names_named o.synthesizes m h

  pieces_stand : Stands own_pieces
  pieces_stand = module_stands folding bare o own_names named m h answers

  pieces_text : text_of (all_calls o own_pieces) ≡ text_of (all_calls o pieces_stand.printed)
  pieces_text = text_of-all_calls o own_pieces ∙ pieces_stand.spelled.text o ∙ sym (text_of-all_calls o pieces_stand.printed)

  tokens_of_pieces : tokens (text_of (all_calls o own_pieces)) ≡ all_lexed own_pieces
  tokens_of_pieces =
      ap tokens pieces_text
      ∙ pieces_tokens o spaces pieces_stand.printed pieces_stand.joins pieces_stand.are
      ∙ sym (pieces_stand.spelled.tokens ∙ pieces_lexed pieces_stand.printed pieces_stand.are)

  pub pieces_are_plain : IsPlainText (text_of (all_calls o own_pieces))
  pieces_are_plain = subst IsPlainText (sym pieces_text) (text_is_plain o spaces pieces_stand.printed pieces_stand.are)

  -- The text reads back as the module, for any way to fold its operators.
  pub pieces_read_back : AreUnclaimed answers → o.skeleton ≡ false → IsIndexed (module_of m) → AllByRecursion (λ t. HasNoEmptyInit t.value.init) m.tables →
      CanFold folding m → (laid_parts (parts_by folding o answers own_names m)).refused ≡ None → read (text_of (all_calls o own_pieces)) ≡ Some (module_of m)
  pieces_read_back unclaimed whole indexed some foldable none =
      read_pieces folding bare o own_names named m h answers unclaimed whole spaces none (record (module_of m) { customs = [] })
      (ap (λ s. read_forest (Group (Word (codes "module") (onto (id_items own_names.module_name) (module_items folding own_names m s))) End)) whole
      ∙ module_reads folding own_names m (module_names_apart o.synthesizes m h) named foldable indexed h some)

-- ---- the laws, if operators are folded as the options say

pub reads_back : ReadsBack
reads_back bytes m o answers spelled indexed some whole plain spaces unclaimed foldable none =
    ap (λ cs. read (text_of cs)) (layout_as_asked o answers m)
    ∙ pieces_read_back (folding_of o m) (uncolored_as_asked o m plain) o answers m (ranged bytes m spelled) spaces unclaimed whole indexed some
    (can_fold_as_asked o m whole foldable) (sym (refused_as_asked o answers m) ∙ none)

pub prints_plain_text : PrintsPlainText
prints_plain_text bytes m o answers spelled plain spaces =
    subst (λ cs. IsPlainText (text_of cs)) (sym (layout_as_asked o answers m))
    (pieces_are_plain (folding_of o m) (uncolored_as_asked o m plain) o answers m (ranged bytes m spelled) spaces)

layout_tokens : (o : Options) (answers : Answers) (m : PlacedModule) → IsRanged m → o.color ≡ false → IsBlank o.indent →
    tokens (text_of (layout o answers m)) ≡ all_lexed (module_pieces o answers m)
unfolding module_pieces
layout_tokens o answers m h plain spaces =
    ap (λ cs. tokens (text_of cs)) (layout_as_asked o answers m)
    ∙ tokens_of_pieces (folding_of o m) (uncolored_as_asked o m plain) o answers m h spaces
    ∙ ap all_lexed (sym (pieces_as_asked o answers (module_names o.synthesizes m) m))

pub tokens_stay : TokensStay
tokens_stay bytes m o p answers spelled same synthesizes folds plain_o plain_p spaces_o spaces_p =
    let h : IsRanged m = ranged bytes m spelled in
    layout_tokens o answers m h plain_o spaces_o ∙ module_pieces_stay o p same folds (plain_o ∙ sym plain_p) synthesizes answers m ∙ sym (layout_tokens p answers m h plain_p spaces_p)
