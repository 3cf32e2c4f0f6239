use Rattle.std.proofs.Common.{◌∙◌}
use Rattle.wasmprinter_custom.proofs.Placing.{none_in_front}
use Rattle.wasmprinter_custom.proofs.sorted_names_builder.SortedNames.into_list.Goals as goal

pub returns-clause-succeeds : goal.returns-clause-succeeds
returns-clause-succeeds c = λ none. none_in_front c.self.inside.late.entries _ _ (c.self.view_is ∙ none) c.is_empty.ensures c.if-is_empty.false
