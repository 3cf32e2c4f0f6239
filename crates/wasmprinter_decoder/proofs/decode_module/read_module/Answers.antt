use Rattle.std.proofs.Common.{◌<◌, ℕ, List, Option, get_or, Fits, w8, arith, sym, ap, subst, ◌∙◌}
use Rattle.std.proofs.lemmas.List.Elements.{All-from_get_or, recursion_from_All}
use Rattle.std.proofs.lemmas.Result.{err_from_is_err_and}
use Rattle.wasmprinter_spec.specs.Grammar.{Placed}
use Rattle.wasmprinter_spec.specs.Types.{MemoryType}
use Rattle.wasmprinter_spec.specs.Kinds.{Kind}
use Rattle.wasmprinter_spec.specs.Operator.{Operator}
use Rattle.wasmprinter_spec.specs.Placed.{TypeGroup, Import, Global, Export, ElementEntry, Body, Data, CustomEntry}
use Rattle.wasmprinter_spec.specs.Binary.{AreBytes, preamble, preamble_bytes}
use Rattle.wasmprinter_bytes.specs.Reads.{end_of}
use Rattle.wasmprinter_decoder.specs.Gathering.{Gathered, IsWhole, HoldsSections}
use Rattle.wasmprinter_decoder.specs.Refusals.{PlacedTable}
use Rattle.wasmprinter_decoder.specs.Places.{after_view}
use Rattle.wasmprinter_decoder.proofs.Assembling.{module_fault, module_unpaired, module_kept, module_spelled, module_within}
use Rattle.wasmprinter_decoder.proofs.decode_module.read_module.Goals as goal

are_bytes : (bytes : List ℕ) → ((i : ℕ) → Fits w8 (get_or bytes i 0)) → AreBytes bytes
are_bytes bytes h = recursion_from_All (λ b. b < 256) bytes (All-from_get_or (λ b. b < 256) bytes 0 (λ i l. (h i).fits))

abbrev gathered_of : ℕ → Option Kind → List (Placed TypeGroup) → List (Placed Import) → List ℕ → List PlacedTable → List (Placed MemoryType) → List (Placed ℕ) →
    List (Placed (Global (Placed Operator))) → List (Placed Export) → Option (Placed ℕ) → List (Placed ElementEntry) → Option ℕ → List (Placed Body) →
    List (Placed (Data (Placed Operator))) → List CustomEntry → Gathered
gathered_of n last ts is js us ms gs vs es f ss k bs ds cs =
    record {
      rank = n;
      after = last;
      types = ts;
      imports = is;
      type_indices = js;
      tables = us;
      memories = ms;
      tags = gs;
      globals = vs;
      exports = es;
      start = f;
      elements = ss;
      data_count = k;
      bodies = bs;
      data_segments = ds;
      customs = cs;
    }

pub returns-in_err-gathered : goal.returns-in_err-gathered
returns-in_err-gathered c =
    let (fault, failed, is) = err_from_is_err_and c.from_residual-in_err-gathered.result c.from_residual-in_err-gathered.ensures.1 in
    let first = ap preamble.parse (sym c.new-cursor.ensures) ∙ c.in_ok-read_preamble.ensures.reads in
    rw (failed, is)
    (module_fault c.args.wasm.now preamble_bytes c.read_preamble.new.cursor first (omega (arith, c.in_ok-read_preamble.ensures.end, ap end_of c.new-cursor.ensures))
    c.in_err-gathered.field-0.0 c.in_err-gathered.ensures)

pub returns-then-not-is_whole : goal.returns-then-not-is_whole
returns-then-not-is_whole c =
    let first = ap preamble.parse (sym c.new-cursor.ensures) ∙ c.in_ok-read_preamble.ensures.reads in
    let g : Gathered =
    gathered_of c.gathered.inside.rank (after_view c.gathered.inside.after) c.gathered.inside.types c.gathered.inside.imports.items c.gathered.inside.type_indices.items
    c.gathered.inside.tables.items c.gathered.inside.memories.items c.gathered.inside.tags.items c.gathered.inside.globals.items
    c.gathered.inside.exports.items c.gathered.inside.start c.gathered.inside.elements.items c.gathered.inside.data_count c.gathered.inside.bodies.items
    c.gathered.inside.data_segments.items c.gathered.inside.customs.items in
    let h : HoldsSections c.read_preamble.new.cursor g = subst (HoldsSections c.read_preamble.new.cursor) (sym c.gathered.view_is) c.in_ok-gathered.ensures in
    module_unpaired c.args.wasm.now preamble_bytes c.read_preamble.new.cursor first g h
    (λ whole. let t = c.is_whole.ensures.1 (subst IsWhole c.gathered.view_is whole) in let f = c.if-not-is_whole.true in cc)

pub invariant_of-result : goal.invariant_of-result
invariant_of-result c =
    let first = ap preamble.parse (sym c.new-cursor.ensures) ∙ c.in_ok-read_preamble.ensures.reads in
    let g : Gathered =
    gathered_of c.gathered.inside.rank (after_view c.gathered.inside.after) c.gathered.inside.types c.gathered.inside.imports.items c.gathered.inside.type_indices.items
    c.gathered.inside.tables.items c.gathered.inside.memories.items c.gathered.inside.tags.items c.gathered.inside.globals.items
    c.gathered.inside.exports.items c.gathered.inside.start c.gathered.inside.elements.items c.gathered.inside.data_count c.gathered.inside.bodies.items
    c.gathered.inside.data_segments.items c.gathered.inside.customs.items in
    let h : HoldsSections c.read_preamble.new.cursor g = subst (HoldsSections c.read_preamble.new.cursor) (sym c.gathered.view_is) c.in_ok-gathered.ensures in
    let whole : IsWhole g = subst IsWhole (sym c.gathered.view_is) (c.is_whole.ensures.0 c.if-not-is_whole.false) in
    module_kept c.args.wasm.now preamble_bytes c.read_preamble.new.cursor first g h whole (are_bytes c.args.wasm.now c.type_inv.wasm)

pub returns : goal.returns
returns c =
    let first = ap preamble.parse (sym c.new-cursor.ensures) ∙ c.in_ok-read_preamble.ensures.reads in
    let g : Gathered =
    gathered_of c.gathered.inside.rank (after_view c.gathered.inside.after) c.gathered.inside.types c.gathered.inside.imports.items c.gathered.inside.type_indices.items
    c.gathered.inside.tables.items c.gathered.inside.memories.items c.gathered.inside.tags.items c.gathered.inside.globals.items
    c.gathered.inside.exports.items c.gathered.inside.start c.gathered.inside.elements.items c.gathered.inside.data_count c.gathered.inside.bodies.items
    c.gathered.inside.data_segments.items c.gathered.inside.customs.items in
    let h : HoldsSections c.read_preamble.new.cursor g = subst (HoldsSections c.read_preamble.new.cursor) (sym c.gathered.view_is) c.in_ok-gathered.ensures in
    let whole : IsWhole g = subst IsWhole (sym c.gathered.view_is) (c.is_whole.ensures.0 c.if-not-is_whole.false) in (
      module_spelled c.args.wasm.now preamble_bytes c.read_preamble.new.cursor first g h whole (are_bytes c.args.wasm.now c.type_inv.wasm),
      module_within c.args.wasm.now preamble_bytes c.read_preamble.new.cursor first g h whole,
    )
