-- The identifier and the type of a block
use Rattle.std.proofs.Common.{◌≡◌, ℕ, ◌+◌, ◌<◌, ◌^◌, true, List, [], ◌∷◌, ◌++◌, Option, Some, None, refl, ◌∙◌, codes, decimal, subst}
use Rattle.wasmprinter_spec.specs.Character.{class}
use Rattle.wasmprinter_spec.specs.Grammar.{◌>>=◌}
use Rattle.wasmprinter_spec.specs.Forest.{Forest, End, Word, Group, onto}
use Rattle.wasmprinter_spec.specs.Row as row
use Rattle.wasmprinter_spec.specs.Types.{ValType, FuncType}
use Rattle.wasmprinter_spec.specs.Operator.{BlockType, Empty, Value, OfType}
use Rattle.wasmprinter_spec.specs.Labels.{Label}
use Rattle.wasmprinter_spec.specs.Names.{Names, AreNamed, AreApart}
use Rattle.wasmprinter_spec.specs.Indexed.{Counts, IsFunctionType, IsBlockType, IsDeclaredVal, IsDeclaredFunc}
use Rattle.wasmprinter_spec.specs.Code.{PartHead, head}
use Rattle.wasmprinter_spec.specs.IndexSpaces.{Context}
use Rattle.wasmprinter_spec.specs.Text.Items.{ids_of}
use Rattle.wasmprinter_spec.specs.Text.Types.{signature}
use Rattle.wasmprinter_spec.specs.Text.Operators.{id_of, after_id, are_unnamed, type_with, block_type}
use Rattle.wasmprinter_spec.specs.Layout.Variables.{Variables, Alone, Together, variable_groups}
use Rattle.wasmprinter_spec.specs.Layout.Types.{parameters_of}
use Rattle.wasmprinter_spec.specs.Layout.Operators.{Setting, Form, OverLines, InLine, ending_pieces, block_pieces}
use Rattle.wasmprinter_laws.proofs.Tokens.Printed.{is_remark, is_remark-decimal, is_remark-append}
use Rattle.wasmprinter_laws.proofs.Tokens.Pieces.{Bound}
use Rattle.wasmprinter_laws.proofs.Tokens.Writes.{Writes, writing, nothing_writes, one_space_writes, line_group_space_writes}
use Rattle.wasmprinter_laws.specs.Listed.{IsBlockInRange, IsSignatureInRange, AreSignaturesInRange}
use Rattle.wasmprinter_laws.specs.OperatorLaws.{HaveSameTypes, HaveSameNames}
use Rattle.wasmprinter_laws.proofs.Identifiers.{id_items, of_least}
use Rattle.wasmprinter_laws.proofs.Declarations.{id, declared_from}
use Rattle.wasmprinter_laws.proofs.Types.Trees.{val_items, group_items, groups_items, signature_if_any_items, type_use_items, val_writes, type_use_writes}
use Rattle.wasmprinter_laws.proofs.Types.Back.{IsAfterSignature, end_after_signature, val_types-one, signature-items, printed_agrees}
use Rattle.wasmprinter_laws.proofs.Operators.Arguments.{AreArguments, arguments_onto}
use Rattle.wasmprinter_laws.proofs.Operators.Forms.{after, may_end}
use Rattle.wasmprinter_laws.proofs.Operators.Spaces.{least, item_reads, types_read}

-- ---- the items

abbrev pub block_items : Setting → BlockType → Forest
block_items s Empty = End
block_items s (Value t) = Group (Word (codes "result") (val_items s.names t)) End
block_items s (OfType n) = type_use_items s.names None n (s.signature n)

-- ---- arguments

pub id_arguments : (own : Label) → AreArguments (id_items own)
id_arguments None = tt
id_arguments (Some n) = tt

group_arguments : (names : Names) (w : List ℕ) (ts : List ValType) → head w ≡ PartHead → AreArguments (group_items names w ts)
group_arguments names w [] h = tt
group_arguments names w (t ∷ ts) h = (h, tt)

groups_arguments : (names : Names) (w : List ℕ) (gs : List Variables) → head w ≡ PartHead → AreArguments (groups_items names w gs)
groups_arguments names w [] h = tt
groups_arguments names w (Alone n t ∷ gs) h = (h, groups_arguments names w gs h)
groups_arguments names w (Together ts ∷ gs) h = (h, groups_arguments names w gs h)

after_arguments : (names : Names) (t : Option FuncType) → AreArguments (signature_if_any_items names None t)
unfolding head
after_arguments names None = tt
after_arguments names (Some t) =
    arguments_onto (groups_items names (codes "param") (variable_groups (parameters_of names None) 0 t.params)) (group_items names (codes "result") t.results)
    (groups_arguments names (codes "param") (variable_groups (parameters_of names None) 0 t.params) refl) (group_arguments names (codes "result") t.results refl)

pub block_arguments : (s : Setting) (t : BlockType) → AreArguments (block_items s t)
unfolding head
block_arguments s Empty = tt
block_arguments s (Value t) = (refl, tt)
block_arguments s (OfType n) = (refl, after_arguments s.names (s.signature n))

-- ---- the items read back

-- The items that may follow a block type: they start with no identifier, no block type and no signature.
pub record IsAfterBlock (c : Context) (f : Forest) : Type 0 where
  pub no_id : id_of f ≡ None
  pub all_after_id : after_id f ≡ f
  pub no_type : block_type c f ≡ Some (Empty, f)
  pub no_signature : IsAfterSignature c.spaces.types f

pub end_after_block : (c : Context) → IsAfterBlock c End
end_after_block c = record { no_id = refl; all_after_id = refl; no_type = refl; no_signature = end_after_signature c.spaces.types }

pub after_id-block : (s : Setting) (own : Label) (t : BlockType) (f : Forest) → after_id f ≡ f →
    after_id (onto (id_items own) (onto (block_items s t) f)) ≡ onto (block_items s t) f
after_id-block s (Some n) t f e = refl
after_id-block s None Empty f e = e
after_id-block s None (Value t) f e = refl
after_id-block s None (OfType n) f e = refl

pub id_of-block : (s : Setting) (own : Label) (t : BlockType) (f : Forest) → id_of f ≡ None →
    id_of (onto (id_items own) (onto (block_items s t) f)) ≡ id own
id_of-block s (Some n) t f e = refl
id_of-block s None Empty f e = e
id_of-block s None (Value t) f e = refl
id_of-block s None (OfType n) f e = refl

nameless : (k : ℕ) (ts : List ValType) → are_unnamed (ids_of (declared_from (λ i. None) k ts)) ≡ true
nameless k [] = refl
nameless k (t ∷ ts) = nameless (k + 1) ts

module _ (s : Setting) (c : Context) (k : Counts) (types : HaveSameTypes s c k) (same : HaveSameNames s c k) (apart : AreApart s.names) where
  -- The signature after the index of its type reads as that type.
  type_reads : (n : ℕ) (x : Option FuncType) (f : Forest) → IsFunctionType x → ((t : FuncType) → x ≡ Some t → IsDeclaredFunc (least k) t) → IsAfterSignature c.spaces.types f →
      (signature c.spaces.types (onto (signature_if_any_items s.names None x) f) >>= type_with n x) ≡ Some (OfType n, f)
  type_reads n None f i r h = absurd i
  type_reads n (Some t) f i r h =
      rw (
        signature-items s.names c.spaces.types (least k) (types_read s c k same apart) None t f (r t refl) h,
        printed_agrees (λ i. None) t,
        nameless 0 t.params,
      )

  -- The signature of a declared type names only declared types.
  pub declared_signature : (n : ℕ) (t : FuncType) → s.signature n ≡ Some t → IsDeclaredFunc (least k) t
  declared_signature n t e =
      let ranged : IsSignatureInRange (Some t) = subst IsSignatureInRange e (types.in_range n) in
      of_least (λ m. IsDeclaredFunc m t) (2 ^ 32) k.types ranged (same.signatures n t (types.counted n ∙ e))

  pub function_is_type : (n : ℕ) (x : Option FuncType) → k.signature n ≡ x → IsFunctionType x → n < k.types
  function_is_type n None e i = absurd i
  function_is_type n (Some t) e i = same.functions n t e

  pub block_reads : (t : BlockType) (f : Forest) → IsBlockInRange t → IsBlockType k t → IsAfterBlock c f → block_type c (onto (block_items s t) f) ≡ Some (t, f)
  block_reads Empty f r d h = h.no_type
  block_reads (Value t) f r d h =
      rw (val_types-one s.names c.spaces.types (least k) (types_read s c k same apart) t (of_least (λ m. IsDeclaredVal m t) (2 ^ 32) k.types r d))
  block_reads (OfType n) f r d h =
      let is : IsFunctionType (s.signature n) = subst IsFunctionType (types.counted n) d in
      let declared : n < k.types = function_is_type n (k.signature n) refl d in
      rw (
        item_reads s c k same apart row.Types n refl r declared,
        types.read n,
        type_reads n (s.signature n) f is (declared_signature n) h.no_signature,
      )

-- ---- pieces write the items

pub block_writes : (s : Setting) → AreNamed s.names → AreSignaturesInRange s.signature → (t : BlockType) → IsBlockInRange t →
    Writes Bound (block_pieces s t) Bound (block_items s t)
unfolding block_pieces class
block_writes s named ranged Empty h = search writing
block_writes s named ranged (Value t) h = one_space_writes refl (line_group_space_writes (codes "result") _ refl refl (val_writes s.names named t h))
block_writes s named ranged (OfType n) h = one_space_writes refl (type_use_writes s.names named None n (s.signature n) refl h (ranged n))

pub comment_writes : (form : Form) (own : Label) (d : ℕ) → Writes Bound (ending_pieces form own d) (after form) End
unfolding ending_pieces class
comment_writes form (Some n) d = may_end form nothing_writes
comment_writes OverLines None d =
    let held : is_remark (codes "label = @" ++ decimal d) ≡ true = is_remark-decimal d in
    search writing
comment_writes InLine None d =
    let held : is_remark (codes " label = @" ++ (decimal d ++ codes " ")) ≡ true =
    is_remark-append (codes " label = @") (decimal d ++ codes " ") refl (is_remark-append (decimal d) (codes " ") (is_remark-decimal d) refl) in
    search writing
