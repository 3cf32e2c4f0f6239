-- The identifiers of the items that operators refer to by index.
use Rattle.std.specs.Prelude.{◌≡◌, ℕ, Bool, Some, None, if◌then◌else◌, refl}
use Rattle.wasmprinter_spec.specs.Grammar.{◌>>=◌}
use Rattle.wasmprinter_spec.specs.Row.{Space, Types, Func, Table, Memory, Tag, Global, Elem, Data, Local, Label}
use Rattle.wasmprinter_spec.specs.Names.{Names, Naming, name_in, names_by, in_function}
use Rattle.wasmprinter_spec.specs.Names.Section.{is_indirect}
use Rattle.wasmprinter_custom.specs.Shown.{names_of_identifiers}
use Rattle.wasmprinter_custom.specs.Spaces.{id_of, outer_of}
use Rattle.wasmprinter_custom.specs.Views.{name_at}
use Rattle.wasmprinter_custom.specs.declared.item_identifiers.Identifiers.{Identifiers}
use Rattle.wasmprinter_custom.specs.declared.index_space.Space.{Space as NamedSpace}
use Rattle.wasmprinter_flat.specs.Contexts.{operand_subsection}

-- An item has the identifier that the name subsection of its space gives it. If the space has no subsection, the
-- item has no identifier.
item-by : (synthesizes : Bool) (named : Naming) (f : ℕ) (space : Space) (n : ℕ) →
    in_function (names_by synthesizes named) f space n ≡ operand_subsection space >>= λ s. name_in synthesizes named s (if is_indirect s then f else 0) n
item-by synthesizes named f Types n = refl
item-by synthesizes named f Func n = refl
item-by synthesizes named f Table n = refl
item-by synthesizes named f Memory n = refl
item-by synthesizes named f Tag n = refl
item-by synthesizes named f Global n = refl
item-by synthesizes named f Elem n = refl
item-by synthesizes named f Data n = refl
item-by synthesizes named f Local n = refl
item-by synthesizes named f Label n = refl

module _ (x : Identifiers) (names : Names) (same : names_of_identifiers x ≡ names) (f : ℕ) (space : Space) (n : ℕ) where
  -- If the program's space of names has that subsection, looking the item up there gives its identifier.
  pub item-named : (named : NamedSpace) → Some (id_of named) ≡ operand_subsection space →
      name_in x.synthesizes (name_at x.names.now) (id_of named) (outer_of named f) n ≡ in_function names f space n
  item-named named e = rw (← same, item-by x.synthesizes (name_at x.names.now) f space n, ← e) refl

-- A label has no identifier by this rule.
pub item-unnamed : (synthesizes : Bool) (named : Naming) (f : ℕ) (space : Space) (n : ℕ) → None ≡ operand_subsection space →
    None ≡ in_function (names_by synthesizes named) f space n
item-unnamed synthesizes named f space n e = rw (item-by synthesizes named f space n, ← e) refl
