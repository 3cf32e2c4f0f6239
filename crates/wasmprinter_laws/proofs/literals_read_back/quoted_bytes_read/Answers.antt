use Rattle.std.proofs.Common.{[], refl, sym, ap, ◌∙◌, append-nil}
use Rattle.wasmprinter_spec.specs.Quoted.{quoted_bytes}
use Rattle.wasmprinter_spec.specs.Token.{tokens, lex}
use Rattle.wasmprinter_laws.proofs.Tokens.Quotes.{quoted_bytes_lex}
use Rattle.wasmprinter_laws.proofs.literals_read_back.quoted_bytes_read.Goals as goal

pub returns : goal.returns
unfolding lex
returns c bytes h = ap tokens (sym (append-nil (quoted_bytes bytes))) ∙ quoted_bytes_lex bytes [] h refl
