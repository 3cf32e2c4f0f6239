use Rattle.std.proofs.Common.{◌≡◌, ◌++◌, [], ℕ, length, ap, sym, subst, ◌∙◌, arith}
use Rattle.std.proofs.lemmas.Bool.{eqb-false}
use Rattle.std.proofs.lemmas.List.{length-map}
use Rattle.std.proofs.lemmas.Result.{on_ok_weaker}
use Rattle.wasmprinter_hidden.specs.Lengths.{unsigned_len}
use Rattle.wasmprinter_hidden.specs.Hidden.{Extent, extent, in_size, in_entries}
use Rattle.wasmprinter_hidden.specs.OpenParts.{lengths, HasRead}
use Rattle.wasmprinter_hidden.specs.declared.finding.Part.TheVariants.{Count, Entry}
use Rattle.wasmprinter_hidden.proofs.SectionParts.{entries_read}
use Rattle.wasmprinter_hidden.proofs.section_findings.add_entries.Goals as goal

pub returns : goal.returns
returns g c =
    let s = c.section.inside in
    let x : Extent = extent s.place s.id s.contents s.end in
    let old = c.args.findings.now in
    let xs = lengths g.T.Entry.place g.T.Shortest.len c.args.entries.now in
    let count : length xs ≡ length c.args.entries.now = length-map c.args.entries.now (λ e. record { place = g.T.Entry.place e; value = g.T.Shortest.len e }) in
    let some : xs ≡ [] → ⊥ = λ none. eqb-false (length c.args.entries.now) 0 (sym c.if-is_empty.ensures) (sym count ∙ ap length none) in
    let counted : c.unsigned_len.result ≡ unsigned_len (length xs) = c.unsigned_len.ensures ∙ ap unsigned_len (sym count) in
    let sized : c.add_size.new.findings ≡ old ++ in_size x = subst (λ (y : Extent). c.add_size.new.findings ≡ old ++ in_size y) (sym c.section.view_is) c.in_ok-add_size.ensures in
    let read = subst
    (λ (n : ℕ). HasRead (Entry s.id) c.add_size.new.findings (record { part = Count s.id; place = s.contents; len = n }) xs c.add_items.new.self c.in_ok-last.last)
    counted c.in_ok-last.ensures in
    on_ok_weaker c.close.result
    (λ e. subst (λ (y : Extent). c.close.new.self ≡ old ++ in_entries (λ n. n) xs y) c.section.view_is
    (entries_read xs x old c.add_size.new.findings c.add_items.new.self c.close.new.self c.in_ok-last.last some sized read (omega arith) e))
    c.close.ensures
