use Rattle.std.proofs.Common.{[], ◌∷◌, refl, sym, ap, ◌∙◌, append-nil, chars}
use Rattle.std.proofs.lemmas.Str.{encodes-chars, scalars-chars}
use Rattle.wasmprinter_spec.specs.Quoted.{quoted_text}
use Rattle.wasmprinter_spec.specs.Token.{tokens, string, lex}
use Rattle.wasmprinter_laws.proofs.Tokens.Quotes.{text_lexes}
use Rattle.wasmprinter_laws.proofs.literals_read_back.quoted_text_reads.Goals as goal

pub returns : goal.returns
unfolding lex
returns c s h =
    ap tokens (sym (append-nil (quoted_text (chars s))))
    ∙ text_lexes (chars s) [] (scalars-chars s h) refl
    ∙ ap (λ t. string t ∷ []) (encodes-chars s h)
