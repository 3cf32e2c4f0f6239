use Rattle.std.proofs.Common.{◌≡◌, ℕ, ◌<◌, List, [], ◌∷◌, Option, Some, map, length, get_or, slice_get, Bor, refl}
use Rattle.std.proofs.lemmas.Option.{slice_get-map, slice_get_read}
use Rattle.std.proofs.lemmas.Iterator.Consumers.{YieldsList-from_first, map_from_collect}
use Rattle.wasmprinter_spec.specs.Lines.{TextLine, line_places}
use Rattle.example_lines.specs.Answers.{IsIndexFor, IsOutside}
use Rattle.example_lines.specs.declared.query.Query.{Query}
use Rattle.example_lines.proofs.answer_for_bytes.Goals as goal

-- A line, with its text.
abbrev shown : Option ℕ × Bor (List ℕ) → TextLine
shown line = (line.0, line.1.now)

-- The places of lines.
abbrev places : List (Option ℕ × Bor (List ℕ)) → List (Option ℕ)
places items = map (λ line. line.0) items

places_shown : (items : List (Option ℕ × Bor (List ℕ))) → line_places (map shown items) ≡ places items
places_shown [] = refl
places_shown (line ∷ items) = cc (places_shown items)

outside : (items given : List (Option ℕ × Bor (List ℕ))) (lines : List TextLine) (len : ℕ) (query : Query) →
    map shown items ≡ lines → given ≡ items →
    IsOutside (places given) len query → IsOutside (line_places lines) len query
outside items given lines len query e f h = rw (← e, places_shown, ← f) h

found : (items given : List (Option ℕ × Bor (List ℕ))) (lines : List TextLine) (len : ℕ) (query : Query) (index : ℕ) →
    map shown items ≡ lines → given ≡ items →
    IsIndexFor (places given) len query index → IsIndexFor (line_places lines) len query index
found items given lines len query index e f h = rw (← e, places_shown, ← f) h

at : (items given : List (Option ℕ × Bor (List ℕ))) (lines : List TextLine) (index : ℕ) (line : Option ℕ × Bor (List ℕ)) →
    map shown items ≡ lines → given ≡ items → index < length given → line ≡ get_or items index line → slice_get lines index ≡ Some (shown line)
at items given lines index line e f k h = rw (← e, slice_get-map, slice_get_read items (length items) index line refl (rw f at k) h) refl

pub returns-in-None-clause-answered : goal.returns-in-None-clause-answered
returns-in-None-clause-answered c =
    let collected = map_from_collect c.collect.result c.collect.ensures.ran (YieldsList-from_first shown (λ it. it.lines) c.in_ok-text.text.lines refl) in
    let lines = rw c.in_ok-lines.was at collected in
    let have = c.in_ok-text.ensures.lines in
    record {
      lines = c.in_ok-text.text.lines;
      have = (c.in_ok-text.text.storage, rw (c.new.ensures, c.new-storage.ensures.bytes) at have);
      outside = outside c.in_ok-lines.lines.items c.deref.result.now c.in_ok-text.text.lines (length c.args.wasm.now) c.args.query
          lines c.deref.ensures.value c.in-None.ensures.found;
    }

pub returns-clause-answered : goal.returns-clause-answered
returns-clause-answered c =
    let collected = map_from_collect c.collect.result c.collect.ensures.ran (YieldsList-from_first shown (λ it. it.lines) c.in_ok-text.text.lines refl) in
    let lines = rw c.in_ok-lines.was at collected in
    let have = c.in_ok-text.ensures.lines in
    record {
      lines = c.in_ok-text.text.lines;
      have = (c.in_ok-text.text.storage, rw (c.new.ensures, c.new-storage.ensures.bytes) at have);
      index = c.in-Some.index;
      found = found c.in_ok-lines.lines.items c.deref.result.now c.in_ok-text.text.lines (length c.args.wasm.now) c.args.query c.in-Some.index
          lines c.deref.ensures.value c.in-Some.ensures.found;
      line = shown c.index.result.now;
      at = at c.in_ok-lines.lines.items c.deref.result.now c.in_ok-text.text.lines c.in-Some.index c.index.result.now lines c.deref.ensures.value c.in-Some.ensures.within c.index.ensures;
      is = c.in_ok-describe-in-Some.ensures;
    }
