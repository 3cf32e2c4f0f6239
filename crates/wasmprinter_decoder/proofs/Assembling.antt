-- Assembling a module from its sections.
use Rattle.std.proofs.Common.{◌≡◌, ℕ, ◌+◌, ◌<◌, ◌≤◌, true, List, [], ◌∷◌, length, Option, Some, refl, sym, ap, ap₂, subst, ◌∙◌, arith, inl, inr, lit≤}
use Rattle.std.specs.Prelude.{Bool, ◌&&◌, Result, Ok, Err, IsOk, IsOkUnless}
use Rattle.std.proofs.lemmas.Bool.{and_parts}
use Rattle.std.proofs.lemmas.List.{nil_from_length}
use Rattle.std.specs.List.{AllByRecursion}
use Rattle.wasmprinter_spec.specs.Grammar.{Input, input, ◌>>=◌, bind_some, some_is, Placed}
use Rattle.wasmprinter_spec.specs.Choices.{tested}
use Rattle.wasmprinter_spec.specs.Repeated.{until_end}
use Rattle.wasmprinter_spec.specs.Sized.{seq_to_end}
use Rattle.wasmprinter_spec.specs.Operator.{Operator}
use Rattle.wasmprinter_spec.specs.Types.{MemoryType}
use Rattle.wasmprinter_spec.specs.Placed.{TypeGroup, Import, Global, Export, ElementEntry, Data, CustomEntry, PlacedFunction, PlacedModule}
use Rattle.wasmprinter_spec.specs.Sections.{CustomSection, TypeSection, ImportSection, FunctionSection, TableSection, MemorySection, TagSection, GlobalSection}
use Rattle.wasmprinter_spec.specs.Sections.{ExportSection, StartSection, ElementSection, DataCountSection, CodeSection, DataSection, Section, section, are_above}
use Rattle.wasmprinter_spec.specs.Binary.{AreBytes, preamble, types_in, imports_in, type_indices_in, tables_in, memories_in, tags_in, globals_in, exports_in, elements_in, data_count_in, bodies_in, datas_in, customs_in}
use Rattle.wasmprinter_spec.specs.Binary.{counts_data, function_pairs, module_from, module_of_sections, binary, Spells}
use Rattle.wasmprinter_spec.specs.Limits.{HasFewLocals, IsWithinLimits, most_functions}
use Rattle.wasmprinter_bytes.specs.Reads.{end_of}
use Rattle.wasmprinter_bytes.specs.declared.library_error.Error.{Error}
use Rattle.wasmprinter_bytes.specs.declared.library_error.Error.TheVariants as e
use Rattle.wasmprinter_bytes.specs.Reasons.{HasReason}
use Rattle.wasmprinter_bytes.proofs.Reasons.{reason_implied, memory_alone}
use Rattle.wasmprinter_spec.proofs.Each.{all_parts}
use Rattle.wasmprinter_decoder.specs.Refusals.{HasFew, FirstIsOver, PlacedTable, FirstIsEmpty}
use Rattle.wasmprinter_decoder.specs.Contents.{HasNoEmpty}
use Rattle.wasmprinter_decoder.specs.Gathering.{Gathered, IsWhole, sections_at, item_count_in, HoldsSections, sections_reasons}
use Rattle.wasmprinter_decoder.specs.Modules.{functions_of, bodies_of, IsPaired, HasFewItems}
use Rattle.wasmprinter_decoder.specs.Decoding.{HoldsSome, HoldsNothing, module_reasons, IsFaultOf, TakesModule}
use Rattle.wasmprinter_decoder.proofs.LaterPlaces.{IsLater, later_none, later_more, many_later, empty_later, section_later, kept_later}
use Rattle.wasmprinter_decoder.proofs.Emptied.{not_empty}
use Rattle.wasmprinter_decoder.proofs.Pairing.{Paired, Pairs, paired_of, paired_length, pairs_of}
use Rattle.wasmprinter_decoder.proofs.OrderedSections.{HoldsFew, few_held}
use Rattle.wasmprinter_decoder.proofs.Listed.{sections_listed, items_held}

-- The bytes after the preamble are sections in order, with as many type indices as bodies and as many data
-- segments as the data count says. The module is assembled from them.
record Spelled (at : Input) (m : PlacedModule) (size : ℕ) : Type 0 where
  sections : List Section
  read : sections_at at ≡ Some sections
  rise : are_above 0 sections ≡ true
  counted : counts_data (data_count_in sections) (length (datas_in sections)) ≡ true
  functions : List PlacedFunction
  pairs : function_pairs (type_indices_in sections) (bodies_in sections) ≡ Some functions
  is : module_from size sections functions ≡ m

-- Modules with equal parts are equal.
equal_fields : {ts ts' : List (Placed TypeGroup)}
    {is is' : List (Placed Import)}
    {us us' : List PlacedTable}
    {ms ms' : List (Placed MemoryType)}
    {gs gs' : List (Placed ℕ)}
    {vs vs' : List (Placed (Global (Placed Operator)))}
    {es es' : List (Placed Export)}
    {f f' : Option (Placed ℕ)}
    {ss ss' : List (Placed ElementEntry)}
    {fs fs' : List PlacedFunction}
    {ds ds' : List (Placed (Data (Placed Operator)))}
    {cs cs' : List CustomEntry}
    {n n' : ℕ}
    → ts ≡ ts' → is ≡ is' → us ≡ us' → ms ≡ ms' → gs ≡ gs' → vs ≡ vs' → es ≡ es' → f ≡ f' → ss ≡ ss' → fs ≡ fs' → ds ≡ ds' → cs ≡ cs' → n ≡ n'
    → ◌≡◌ {A = PlacedModule}
    (record { types = ts; imports = is; tables = us; memories = ms; tags = gs; globals = vs; exports = es; start = f; elements = ss; functions = fs; data_segments = ds; customs = cs; size = n })
    (record { types = ts'; imports = is'; tables = us'; memories = ms'; tags = gs'; globals = vs'; exports = es'; start = f'; elements = ss'; functions = fs'; data_segments = ds'; customs = cs'; size = n' })
equal_fields a b c d h i j k l m n o p = rw (a, b, c, d, h, i, j, k, l, m, n, o, p) refl

-- If the number of locals in each body is within the limit, then so is that in each function.
few_functions : (fs : List PlacedFunction) → AllByRecursion HasFew (bodies_of fs) → AllByRecursion HasFewLocals fs
few_functions [] all = tt
few_functions (f ∷ fs) all = (all.0, few_functions fs all.1)

module _ (bytes pre : List ℕ) (at : Input) (first : preamble.parse (input 0 bytes) ≡ Some (pre, at)) where
  -- The number of bytes, as the definitions compute it.
  abbrev size : ℕ
  size = 0 + length bytes

  -- If the definitions assemble a module from sections, then these sections are as `Spelled` says.
  assembled_of : (ss : List Section) (m : PlacedModule) → sections_at at ≡ Some ss → module_of_sections size ss ≡ Some m → Spelled at m size
  assembled_of ss m read e =
      let up : Bool = are_above 0 ss in
      let count : Bool = counts_data (data_count_in ss) (length (datas_in ss)) in
      let t = tested (up && count) (function_pairs (type_indices_in ss) (bodies_in ss) >>= λ fs. Some (module_from size ss fs)) m e in
      let both = and_parts up count t.0 in
      let (fs, pairs, made) = bind_some (function_pairs (type_indices_in ss) (bodies_in ss)) (λ fs. Some (module_from size ss fs)) m t.1 in
      record {
        sections = ss;
        read = read;
        rise = both.0;
        counted = both.1;
        functions = fs;
        pairs = pairs;
        is = some_is (module_from size ss fs) m made;
      }

  -- If the bytes encode a module, then its sections are as `Spelled` says.
  spelled_of : (m : PlacedModule) → Spells bytes m → Spelled at m size
  spelled_of m s =
      let read = binary.complete (input 0 bytes) m s.spelled in
      let ((front, all), parsed, made) =
      bind_some ((seq_to_end preamble (until_end section)).parse (input 0 bytes)) (λ x. module_of_sections size x.1) m read in
      let ((begun, mid), begun_parsed, after) =
      bind_some (preamble.parse (input 0 bytes)) (λ a. sections_at a.1 >>= λ ss. Some (a.0, ss)) (front, all) parsed in
      let (ss, ss_parsed, whole) = bind_some (sections_at mid) (λ ss. Some (begun, ss)) (front, all) after in
      let there : mid ≡ at = ap (λ (x : List ℕ × Input). x.1) (some_is (begun, mid) (pre, at) (sym begun_parsed ∙ first)) in
      let same : ss ≡ all = ap (λ (x : List ℕ × List Section). x.1) (some_is (begun, ss) (front, all) whole) in
      assembled_of ss m (ap sections_at (sym there) ∙ ss_parsed) (ap (module_of_sections size) same ∙ made)

  -- The sections come after the preamble.
  later : IsLater (input 0 bytes) at
  later = later_more preamble (input 0 bytes) (input 0 bytes) at pre first (later_none (input 0 bytes))

  -- The functions of the module are formed by the type indices and bodies of its sections.
  functions_are : (m : PlacedModule) (s : Spelled at m size) → Paired (type_indices_in s.sections) (bodies_in s.sections) m.functions
  functions_are m s = subst (Paired (type_indices_in s.sections) (bodies_in s.sections)) (ap (λ (x : PlacedModule). x.functions) s.is)
      (paired_of (type_indices_in s.sections) (bodies_in s.sections) s.functions s.pairs)

  -- If its sections have an item, then the module has one.
  holds_some : (m : PlacedModule) (s : Spelled at m size) → 0 < item_count_in s.sections → HoldsSome m
  holds_some m s some =
      let types : length m.types ≡ length (types_in s.sections) = ap (λ (x : PlacedModule). length x.types) (sym s.is) in
      let imports : length m.imports ≡ length (imports_in s.sections) = ap (λ (x : PlacedModule). length x.imports) (sym s.is) in
      let tables : length m.tables ≡ length (tables_in s.sections) = ap (λ (x : PlacedModule). length x.tables) (sym s.is) in
      let memories : length m.memories ≡ length (memories_in s.sections) = ap (λ (x : PlacedModule). length x.memories) (sym s.is) in
      let tags : length m.tags ≡ length (tags_in s.sections) = ap (λ (x : PlacedModule). length x.tags) (sym s.is) in
      let globals : length m.globals ≡ length (globals_in s.sections) = ap (λ (x : PlacedModule). length x.globals) (sym s.is) in
      let exports : length m.exports ≡ length (exports_in s.sections) = ap (λ (x : PlacedModule). length x.exports) (sym s.is) in
      let elements : length m.elements ≡ length (elements_in s.sections) = ap (λ (x : PlacedModule). length x.elements) (sym s.is) in
      let data_segments : length m.data_segments ≡ length (datas_in s.sections) = ap (λ (x : PlacedModule). length x.data_segments) (sym s.is) in
      let customs : length m.customs ≡ length (customs_in s.sections) = ap (λ (x : PlacedModule). length x.customs) (sym s.is) in
      let bodies = paired_length (type_indices_in s.sections) (bodies_in s.sections) s.functions s.pairs in
      omega (arith, (functions_are m s).count)

  -- The tables of the module are those of its sections.
  tables_are : (m : PlacedModule) (s : Spelled at m size) → tables_in s.sections ≡ m.tables
  tables_are m s = ap (λ (x : PlacedModule). x.tables) s.is

  -- A true reason for an error of the sections is a true reason for that error of the module.
  pub module_fault : end_of at ≡ length bytes → (f : Error) → HasReason (sections_reasons at) f → IsFaultOf bytes f
  module_fault ends = reason_implied (sections_reasons at) (module_reasons bytes ⊥) (record {
    malformed = λ place h. (λ m s. let p = spelled_of m s in h.0 p.sections p.read p.rise, omega (arith, h.1, ends));
    component = λ h. h;
    locals = λ place h. (
      many_later (input 0 bytes) at place later h.0,
      λ m s.
          let p = spelled_of m s in
          subst (FirstIsOver place) (sym (functions_are m p).bodies) (h.1 p.sections p.read p.rise),
    );
    functions = λ count (begins, many, counted). (
      section_later (input 0 bytes) at FunctionSection count later begins,
      many,
      λ m s. let p = spelled_of m s in (functions_are m p).count ∙ counted p.sections p.read p.rise,
    );
    tables = λ place h. (
      empty_later (input 0 bytes) at place later h.0,
      λ m s. let p = spelled_of m s in subst (FirstIsEmpty place) (tables_are m p) (h.1 p.sections p.read p.rise),
    );
    memory = λ h. (kept_later (input 0 bytes) at later h.0, λ m s. let p = spelled_of m s in holds_some m p (h.1 p.sections p.read p.rise));
  })

  -- The sections were read.
  module _ (g : Gathered) (h : HoldsSections at g) where
    -- The gathered contents are within the limits.
    few : HoldsFew g
    few = few_held g h.sections h.small h.held

    -- If the bytes encode a module, then its sections are the ones that were read.
    those : (m : PlacedModule) (p : Spelled at m size) → p.sections ≡ h.sections
    those m p = some_is p.sections h.sections (sym p.read ∙ h.read)

    -- If the numbers of type indices and bodies differ, or the data count is wrong, then the bytes are malformed
    -- at their end.
    pub module_unpaired : (IsWhole g → ⊥) → IsFaultOf bytes (e.Malformed (length bytes))
    module_unpaired ne = (
      λ m s.
          let p = spelled_of m s in
          let same : p.sections ≡ h.sections = those m p in
          let lengths : length (type_indices_in p.sections) ≡ length (bodies_in p.sections) =
          paired_length (type_indices_in p.sections) (bodies_in p.sections) p.functions p.pairs in
          let counted : counts_data (data_count_in h.sections) (length (datas_in h.sections)) ≡ true =
          subst (λ (ss : List Section). counts_data (data_count_in ss) (length (datas_in ss)) ≡ true) same p.counted in
          ne (record {
            as_many = ap length (h.held FunctionSection ∙ ap type_indices_in (sym same)) ∙ lengths ∙ ap length (ap bodies_in same ∙ sym (h.held CodeSection));
            counted =
                ap₂ (λ (n : Option ℕ) (ds : List (Placed (Data (Placed Operator)))). counts_data n (length ds)) (h.held DataCountSection) (h.held DataSection) ∙ counted;
          }),
      omega arith,
    )

    -- The numbers of type indices and bodies are equal, and the data count is right.
    module _ (whole : IsWhole g) where
      -- The type indices and bodies can be paired, and no list is longer than its count can say.
      pub module_kept : AreBytes bytes → IsPaired g.type_indices g.bodies × HasFewItems g.imports g.tables g.memories g.tags g.globals
      module_kept all =
          let s = preamble.sound (input 0 bytes) (pre, at) first in
          let rest : AreBytes at.bytes = (all_parts (λ b. b < 256) s.text at.bytes (subst AreBytes s.parts all)).1 in
          (record { same = whole.as_many; few = few.functions }, items_held g h.sections (sections_listed at h.sections h.read rest) h.held)

      -- The assembled module.
      abbrev module_of_gathered : PlacedModule
      module_of_gathered = record {
        types = g.types;
        imports = g.imports;
        tables = g.tables;
        memories = g.memories;
        tags = g.tags;
        globals = g.globals;
        exports = g.exports;
        start = g.start;
        elements = g.elements;
        functions = functions_of g.type_indices g.bodies;
        data_segments = g.data_segments;
        customs = g.customs;
        size = length bytes;
      }

      -- The gathered type indices and bodies form functions.
      made : Pairs g.type_indices g.bodies
      made = pairs_of g.type_indices g.bodies whole.as_many

      -- These functions are those of the assembled module.
      functions_made : functions_of g.type_indices g.bodies ≡ made.functions
      functions_made = rw made.are refl

      -- The type indices and bodies of the sections form the same functions.
      pairs : function_pairs (type_indices_in h.sections) (bodies_in h.sections) ≡ Some made.functions
      pairs = ap (λ (is : List ℕ). function_pairs is (bodies_in h.sections)) (sym (h.held FunctionSection)) ∙ ap (function_pairs g.type_indices) (sym (h.held CodeSection)) ∙ made.are

      -- The data count of the sections is right.
      counts : counts_data (data_count_in h.sections) (length (datas_in h.sections)) ≡ true
      counts = ap₂ (λ (n : Option ℕ) (ds : List (Placed (Data (Placed Operator)))). counts_data n (length ds)) (sym (h.held DataCountSection)) (sym (h.held DataSection)) ∙ whole.counted

      -- The definitions read the module of these sections and functions from the bytes.
      read : binary.parse (input 0 bytes) ≡ Some (module_from size h.sections made.functions)
      read = rw (first, h.read, h.rise, counts, pairs) refl

      -- The bytes encode the assembled module.
      pub module_spelled : AreBytes bytes → Spells bytes module_of_gathered
      module_spelled all =
          let same_module : module_from size h.sections made.functions ≡ module_of_gathered =
          equal_fields (sym (h.held TypeSection)) (sym (h.held ImportSection)) (sym (h.held TableSection)) (sym (h.held MemorySection)) (sym (h.held TagSection)) (sym (h.held GlobalSection)) (sym (h.held ExportSection)) (sym (h.held StartSection)) (sym (h.held ElementSection)) (sym functions_made) (sym (h.held DataSection)) (sym (h.held CustomSection)) (omega arith) in
          record { are_bytes = all; spelled = binary.sound (input 0 bytes) module_of_gathered (read ∙ ap (λ (m : PlacedModule). Some m) same_module) }

      -- The assembled module is within the limits.
      pub module_within : IsWithinLimits module_of_gathered
      module_within =
          let p = paired_of g.type_indices g.bodies made.functions made.are in
          let locals : AllByRecursion HasFew (bodies_of made.functions) = subst (AllByRecursion HasFew) (sym made.bodies) few.locals in
          record {
            tables = few.tables;
            locals = subst (AllByRecursion HasFewLocals) (sym functions_made) (few_functions made.functions locals);
            functions = omega (arith, ap length functions_made, p.count, few.functions);
          }

-- If every function is within the limit of locals, then no function exceeds it.
over_few : (place : ℕ) (fs : List PlacedFunction) → AllByRecursion HasFewLocals fs → FirstIsOver place (bodies_of fs) → ⊥
over_few place [] few over = over
over_few place (f ∷ fs) few (inl here) = absurd (omega (arith, here.1, few.0))
over_few place (f ∷ fs) few (inr there) = over_few place fs few.1 there.1

-- If no table has an empty initialiser, then there is no first one that has.
empty_none : (place : ℕ) (ts : List PlacedTable) → AllByRecursion HasNoEmpty ts → FirstIsEmpty place ts → ⊥
empty_none place [] none any = any
empty_none place (t ∷ ts) none (inl here) = not_empty t.value.init none.0 here.1
empty_none place (t ∷ ts) none (inr there) = empty_none place ts none.1 there.1

-- If the bytes encode a module within the limits, and an error other than `Component` has a true reason, then the
-- error is `Memory`, and the module has an item.
pub within_fault : (bytes : List ℕ) (f : Error) → IsFaultOf bytes f → (m : PlacedModule) → Spells bytes m → IsWithinLimits m → (f ≡ e.Memory) × HoldsSome m
within_fault bytes f h m s w =
    let (is, (stands, some)) =
    memory_alone (module_reasons bytes ⊥) (λ place r. r.0 m s) (λ r. r) (λ place r. over_few place m.functions w.locals (r.1 m s))
    (λ count (begins, many, counted). let same = counted m s in omega (arith, many, w.functions))
    (λ place r. empty_none place m.tables w.tables (r.1 m s)) f h in
    (is, some m s)

-- If the bytes encode a module within the limits, then the result is a module or the error `Memory`.
pub within_alone : (bytes : List ℕ) (r : Result PlacedModule Error) → TakesModule bytes r → (m : PlacedModule) → Spells bytes m → IsWithinLimits m → IsOkUnless r e.Memory
within_alone bytes (Ok x) h m s w = tt
within_alone bytes (Err f) h m s w = (within_fault bytes f h m s w).0

-- A module without items is within the limits.
nothing_within : (m : PlacedModule) → HoldsNothing m → IsWithinLimits m
nothing_within m none =
    let nil : m.functions ≡ [] = nil_from_length m.functions (omega arith) in
    let no_tables : m.tables ≡ [] = nil_from_length m.tables (omega arith) in
    let least : 0 ≤ most_functions = lit≤ tt in
    record { tables = subst (AllByRecursion HasNoEmpty) (sym no_tables) tt; locals = subst (AllByRecursion HasFewLocals) (sym nil) tt; functions = omega (arith, least) }

-- If the bytes encode a module without items, then the result is a module.
pub nothing_decoded : (bytes : List ℕ) (r : Result PlacedModule Error) → TakesModule bytes r → (m : PlacedModule) → Spells bytes m → HoldsNothing m → IsOk r
nothing_decoded bytes (Ok x) h m s none = refl
nothing_decoded bytes (Err f) h m s none =
    let some : HoldsSome m = (within_fault bytes f h m s (nothing_within m none)).1 in
    absurd (omega arith)
