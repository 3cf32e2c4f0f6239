use Rattle.std.proofs.Common.{◌≡◌, ℕ, Bool, Option, ap, subst, ◌∙◌}
use Rattle.std.proofs.lemmas.Result.{IfOk-weaker}
use Rattle.wasmprinter_spec.specs.Placed.{PlacedModule}
use Rattle.wasmprinter_custom.specs.Spaces.{id_of, outer_of}
use Rattle.wasmprinter_hidden.specs.HiddenNames.{name_map, owned_names, inner_count}
use Rattle.wasmprinter_hidden.specs.NamedItems.{inner_id}
use Rattle.wasmprinter_hidden.specs.NameReadings.{IsRead, IsNumberRead}
use Rattle.wasmprinter_hidden.specs.declared.finding.Part.TheVariants.{NameOwner}
use Rattle.wasmprinter_hidden.proofs.NameReading.{number_read}
use Rattle.wasmprinter_hidden.proofs.name_findings.read_owned_names.Goals as goal

pub returns : goal.returns
returns c =
    let m = c.args.named.now in
    let s = inner_id c.args.space in
    let outer = c.in-Some.outer in
    let mid = c.read_number.new.cursor in
    let now = c.read_number.new.findings in
    let after = c.read_name_map.new.cursor in
    let found = c.read_name_map.new.findings in
    let counted : c.inner_items.result ≡ inner_count m s outer = c.inner_items.ensures ∙ ap (λ (x : PlacedModule). inner_count x s outer) c.counts.ensures in
    let number = subst (λ (o : Option ℕ). IsNumberRead NameOwner c.args.cursor.now c.args.findings.now o mid now) c.in-Some.is c.in_ok-outer.ensures in
    IfOk-weaker c.read_name_map.result
    (λ (stopped : Bool). IsRead (name_map m (id_of c.space.result) (outer_of c.space.result outer) c.inner_items.result mid) now after found stopped)
    (λ (stopped : Bool). IsRead (owned_names m s c.args.cursor.now) c.args.findings.now after found stopped)
    (λ stopped r. number_read NameOwner (λ outer. name_map m s outer (inner_count m s outer)) c.args.cursor.now c.args.findings.now outer mid
    after now found stopped number
    (subst (λ (n : ℕ). IsRead (name_map m s outer n mid) now after found stopped) counted
    (subst (λ (o : ℕ). IsRead (name_map m s o c.inner_items.result mid) now after found stopped) (c.space.ensures.outer outer)
    (subst (λ (i : ℕ). IsRead (name_map m i (outer_of c.space.result outer) c.inner_items.result mid) now after found stopped) c.space.ensures.id r))))
    c.read_name_map.ensures
