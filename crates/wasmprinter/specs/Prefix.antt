-- The text that a call leaves when it ends with an error: a prefix of the module's text.
use Rattle.std.specs.Prelude.{◌≡◌, ◌++◌, ℕ, List, false, Some}
use Rattle.std.specs.List.{AllByRecursion}
use Rattle.wasmprinter_spec.specs.Placed.{PlacedModule}
use Rattle.wasmprinter_spec.specs.Call.{Call, IsUnclaimed, atoms, text_of}
use Rattle.wasmprinter_spec.specs.Options.{Options, Answers, with_color}
use Rattle.wasmprinter_spec.specs.Layout.{layout, refusal}
use Rattle.wasmprinter.specs.Outcome.{WhilePrinting}

-- The text is that of calls that are a prefix of a layout.
pub record IsPrefixText (layout : List Call) (text : List ℕ) : Type 0 where
  -- The calls.
  pub calls : List Call
  -- The calls of the layout after them, with each text cut into single bytes.
  pub rest : List Call
  -- With each text cut into single bytes, `calls` and then `rest` are the calls of the layout.
  pub alike : atoms calls ++ rest ≡ atoms layout
  -- The calls claim no custom section.
  pub unclaimed : AllByRecursion IsUnclaimed calls
  -- The text is that of `calls`.
  pub is : text ≡ text_of calls

-- The text is that of a whole layout that ends at a refused `dylink.0` section.
pub record IsTextBefore (id : ℕ) (o : Options) (placed : PlacedModule) (answers : Answers) (text : List ℕ) : Type 0 where
  -- The layout ends at this section because of its subsection with this id.
  pub ends : refusal o answers placed ≡ Some id
  -- No custom section is claimed in the layout.
  pub unclaimed : AllByRecursion IsUnclaimed (layout o answers placed)
  -- The text is that of the layout.
  pub is : text ≡ text_of (layout o answers placed)

-- The module that the bytes encode was being printed, and a prefix of its text satisfies `Put`.
abbrev pub PutsPrefix : Options → List ℕ → (List ℕ → Type 0) → Type 0
PutsPrefix o bytes Put =
    WhilePrinting o bytes (λ placed answers. (text : List ℕ) × IsPrefixText (layout (with_color o false) answers placed) text × Put text)

-- The module that the bytes encode was being printed, and its text before the `dylink.0` section that is refused for
-- the subsection with this id satisfies `Put`.
abbrev pub PutsTextBefore : ℕ → Options → List ℕ → (List ℕ → Type 0) → Type 0
PutsTextBefore id o bytes Put =
    WhilePrinting o bytes (λ placed answers. (text : List ℕ) × IsTextBefore id (with_color o false) placed answers text × Put text)
