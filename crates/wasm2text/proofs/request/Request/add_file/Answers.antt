-- The file comes after the others.
use Rattle.std.proofs.Common.{◌≡◌, ◌∷◌, [], ◌++◌, map, refl, ap, ◌∙◌}
use Rattle.std.proofs.lemmas.List.{map-append}
use Rattle.wasm2text.specs.Arguments.{File}
use Rattle.wasm2text.proofs.Requests.{adds}
use Rattle.wasm2text.proofs.request.Request.add_file.Goals as goal

pub returns : goal.returns
returns c =
    let files = c.args.self.now.files.items in
    let more : map (λ f. f.now) c.push.new.self.items ≡ map (λ f. f.now) files ++ c.args.file.now ∷ [] =
    ap (map (λ f. f.now)) c.in_ok-push.ensures.items ∙ map-append (λ f. f.now) files (c.args.file ∷ []) in
    adds c.args.self.now (record c.args.self.now { files = c.push.new.self }) (File c.args.file.now) (rw more refl)
