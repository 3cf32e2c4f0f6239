-- The text of nested operators reads back.
use Rattle.std.proofs.Common.{[], true, ap, ◌∙◌, sym, subst}
use Rattle.wasmprinter_spec.specs.Grammar.{◌>>=◌}
use Rattle.wasmprinter_spec.specs.Forest.{without_annotations}
use Rattle.wasmprinter_spec.specs.Module.{without_places}
use Rattle.wasmprinter_spec.specs.Names.{AreApart, AreNamed}
use Rattle.wasmprinter_spec.specs.Code.{chunks_of_forest}
use Rattle.wasmprinter_spec.specs.Text.Operators.{read_operators}
use Rattle.wasmprinter_spec.specs.Layout.Operators.{operators_pieces}
use Rattle.wasmprinter_laws.proofs.Tokens.Noted.{noted-without_annotations}
use Rattle.wasmprinter_laws.proofs.Tokens.Writes.{writes_forest}
use Rattle.wasmprinter_laws.specs.OperatorLaws.{OperatorsReadBack, NamedOperatorsReadBack}
use Rattle.wasmprinter_laws.proofs.Names.Distinct.{identifiers_are_apart}
use Rattle.wasmprinter_laws.proofs.Names.Named.{identifiers_are_named}
use Rattle.wasmprinter_laws.proofs.Operators.Lists.{chunks_of_forest-operators, expression_reads, hinted_write}
use Rattle.wasmprinter_laws.proofs.Operators.Forms.{at_free}

pub operators_read_back : OperatorsReadBack
operators_read_back s apart named c n types same hs os h o spaces =
    let w = at_free s.form true (hinted_write s named types.in_range hs os h.listed) in
    ap (λ f. f >>= λ g. chunks_of_forest (without_annotations g) >>= read_operators c) (writes_forest o spaces (operators_pieces s hs true 0 [] os) w)
    ∙ ap (λ g. chunks_of_forest g >>= read_operators c) (noted-without_annotations w.noted ∙ w.without)
    ∙ ap (λ cs. cs >>= read_operators c) (chunks_of_forest-operators s 0 [] (without_places os) h.listed)
    ∙ expression_reads s c n types same apart os h

pub named_operators_read_back : NamedOperatorsReadBack
named_operators_read_back synthesizes entries h s e =
    operators_read_back s (subst AreApart (sym e) (identifiers_are_apart synthesizes entries h)) (subst AreNamed (sym e) (identifiers_are_named synthesizes entries h))
