use Rattle.std.proofs.Common.{ap₂}
use Rattle.wasmprinter_spec.specs.Names.{names_by, name_in}
use Rattle.wasmprinter_custom.specs.Spaces.{id_of, outer_of}
use Rattle.wasmprinter_custom.specs.Views.{name_at}
use Rattle.wasmprinter_module_text.proofs.printing_scope.Scope.identifiers.Goals as goal

pub returns : goal.returns
returns c = record {
  all = ap₂ (λ synthesizes named. names_by synthesizes (name_at named)) c.identifiers.ensures.synthesizes c.identifiers.ensures.item_names;
  items = λ space n. ap₂ (λ synthesizes named. name_in synthesizes (name_at named) (id_of space) (outer_of space 0) n) c.identifiers.ensures.synthesizes c.identifiers.ensures.item_names;
}
