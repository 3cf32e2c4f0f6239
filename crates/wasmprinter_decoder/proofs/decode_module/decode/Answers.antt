use Rattle.wasmprinter_decoder.proofs.Assembling.{within_alone, nothing_decoded}
use Rattle.wasmprinter_decoder.proofs.decode_module.decode.Goals as goal

pub returns-clause-within : goal.returns-clause-within
returns-clause-within c = within_alone c.args.wasm.now c.read_module.result c.read_module.ensures

pub returns-clause-empty : goal.returns-clause-empty
returns-clause-empty c = nothing_decoded c.args.wasm.now c.read_module.result c.read_module.ensures
