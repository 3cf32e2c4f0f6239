use Rattle.std.proofs.Common.{◌≡◌, Bool, ap, ◌∙◌}
use Rattle.std.proofs.lemmas.Result.{IfOk-weaker}
use Rattle.wasmprinter_spec.specs.Placed.{PlacedModule}
use Rattle.wasmprinter_custom.specs.Spaces.{id_of, outer_of}
use Rattle.wasmprinter_hidden.specs.HiddenNames.{item_count, name_map, content}
use Rattle.wasmprinter_hidden.specs.NameReadings.{IsRead}
use Rattle.wasmprinter_hidden.proofs.SubsectionReading.{content_of_items}
use Rattle.wasmprinter_hidden.proofs.name_findings.read_items.Goals as goal

pub returns : goal.returns
returns c =
    let m = c.args.named.now in
    let space = c.args.space in
    let at = c.args.cursor.now in
    let old = c.args.findings.now in
    let now = c.read_name_map.new.findings in
    let after = c.read_name_map.new.cursor in
    let counted : c.items.result ≡ item_count m (id_of space) = c.items.ensures ∙ ap (λ (x : PlacedModule). item_count x (id_of space)) c.counts.ensures in
    IfOk-weaker c.read_name_map.result
    (λ (stopped : Bool). IsRead (name_map m (id_of space) (outer_of space 0) c.items.result at) old after now stopped)
    (λ (stopped : Bool). IsRead (content m (id_of space) at) old after now stopped)
    (λ stopped r. content_of_items m space at c.items.result old now after stopped c.in_default.ensures counted r)
    c.read_name_map.ensures
