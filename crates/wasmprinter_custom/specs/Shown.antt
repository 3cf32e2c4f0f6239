-- The identifiers that the program's identifiers represent.
use Rattle.std.specs.Prelude.{ℕ, Bool, true, false, Option, Some, None}
use Rattle.wasmprinter_spec.specs.Labels.{Named}
use Rattle.wasmprinter_spec.specs.Names.{Names, names_by}
use Rattle.wasmprinter_spec.specs.Names.Content.{group_of, index_content}
use Rattle.wasmprinter_custom.specs.Spaces.{id_of}
use Rattle.wasmprinter_custom.specs.Views.{name_view, name_at}
use Rattle.wasmprinter_custom.specs.declared.item_identifiers.Identifier.{Identifier}
use Rattle.wasmprinter_custom.specs.declared.item_identifiers.Identifier.TheVariants.{Given, Synthesized}
use Rattle.wasmprinter_custom.specs.declared.item_identifiers.Identifiers.{Identifiers}

-- The synthesized identifier of an item of a subsection.
abbrev pub synthesized_name : ℕ → ℕ → Named
synthesized_name s number = record { given = None; content = index_content (group_of s) number }

-- The synthesized identifier of an item without a name, if identifiers are synthesized.
abbrev pub synthesized_view : Bool → ℕ → ℕ → Option Named
synthesized_view true s number = Some (synthesized_name s number)
synthesized_view false s number = None

-- The identifier that the program's value represents: the given name, `None` if it is synthesized, and the characters
-- after the dollar sign.
abbrev pub identifier_view : Identifier → Named
identifier_view (Given name) = name_view name
identifier_view (Synthesized space number) = synthesized_name (id_of space) number

-- The identifiers of all items of a module, from its names and from whether identifiers are synthesized.
abbrev pub names_of_identifiers : Identifiers → Names
names_of_identifiers x = names_by x.synthesizes (name_at x.names.now)
