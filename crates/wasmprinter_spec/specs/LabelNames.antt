-- The identifiers of labels: from the names that a name section gives them, or synthesized from the number of
-- blocks around them. The standard leaves identifiers open (section 6.3, "Identifiers"): these are this printer's
-- own.
use Rattle.std.specs.Prelude.{ℕ, List, [], ◌∷◌, ◌++◌, Bool, true, false, not, cond, ◌==◌, codes, decimal, Option, Some, None}
use Rattle.wasmprinter_spec.specs.Labels.{Label, LabelNaming}

-- The name is not empty and does not begin with the sign #.
abbrev pub is_clean : List ℕ → Bool
is_clean [] = false
is_clean (b ∷ bs) = not (b == 35)

-- The content of the identifier of label n with the name s.
abbrev pub label_content : ℕ → List ℕ → List ℕ
label_content n s = cond (is_clean s) s (codes "#label" ++ (decimal n ++ (32 ∷ s)))

-- The identifier of the block that is opened as number n, with d blocks around it, by its name if it has one. The
-- first argument says whether identifiers are synthesized.
abbrev pub label_named : Bool → ℕ → ℕ → Option (List ℕ) → Label
label_named synthesizes n d (Some s) = Some (record { given = Some s; content = label_content n s })
label_named true n d None = Some (record { given = None; content = codes "#label" ++ decimal d })
label_named false n d None = None

-- The identifiers of labels by their names. For labels without a name they are synthesized or absent.
abbrev pub label_naming : Bool → (ℕ → Option (List ℕ)) → LabelNaming
label_naming synthesizes names n d = label_named synthesizes n d (names n)

-- No label has an identifier.
abbrev pub no_label_names : LabelNaming
no_label_names i d = None
