-- Synthesized identifiers.
use Rattle.std.specs.Prelude.{◌≡◌, true, refl}
use Rattle.wasmprinter_spec.specs.Character.{class}
use Rattle.wasmprinter_spec.specs.Names.Content.{group_of}
use Rattle.wasmprinter_spec.specs.Quoted.{all_id_chars}
use Rattle.wasmprinter_custom.specs.Spaces.{id_of}
use Rattle.wasmprinter_custom.specs.declared.index_space.Space.{Space}
use Rattle.wasmprinter_custom.specs.declared.index_space.Space.TheVariants.{Func, Local, Label, Types, Table, Memory, Global, Elem, Data, Field, Tag}

-- The word for the items of an index space consists of identifier characters.
pub word-runs : (space : Space) → all_id_chars (group_of (id_of space)) ≡ true
unfolding class
word-runs Func = refl
word-runs Local = refl
word-runs Label = refl
word-runs Types = refl
word-runs Table = refl
word-runs Memory = refl
word-runs Global = refl
word-runs Elem = refl
word-runs Data = refl
word-runs Field = refl
word-runs Tag = refl
