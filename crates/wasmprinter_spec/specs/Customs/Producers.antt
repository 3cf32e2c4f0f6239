-- The section `producers` (tool conventions, "Producers Section"): fields, each with the names and versions of its
-- values.
use Rattle.std.specs.Prelude.{ℕ, List, [], ◌∷◌, Bool, true, ◌&&◌}
use Rattle.wasmprinter_spec.specs.Grammar.{Grammar, Remainder, Placed, value_with_place, seq, map_value}
use Rattle.wasmprinter_spec.specs.Sized.{alone}
use Rattle.wasmprinter_spec.specs.Name.{vec, name}
use Rattle.wasmprinter_spec.specs.Quoted.{is_id}

-- A value of a field: its name and its version.
pub record Value : Type 0 where
  pub name : List ℕ
  pub version : List ℕ

-- A field: its name and its values, each with its place.
pub record Field : Type 0 where
  pub name : List ℕ
  pub values : List (Placed Value)

-- A value: its name and its version.
abbrev pub value : Grammar Value
value = map_value (λ x. record { name = x.0; version = x.1 }) (seq name (λ _. name))

-- A field: its name and a list of values.
abbrev pub field : Grammar Field
field = map_value (λ x. record { name = x.0; values = x.1 }) (seq name (λ _. vec (value_with_place value)))

-- The fields, which all bytes of the section encode.
abbrev pub producers : Remainder (List Field)
producers = alone (vec field)

-- The name of each field consists of identifier characters, at least one, so that it can begin a group.
abbrev pub have_id_names : List Field → Bool
have_id_names [] = true
have_id_names (f ∷ fs) = is_id f.name && have_id_names fs
