-- Functions among the fields of a module
use Rattle.std.proofs.Common.{◌≡◌, ℕ, zero, suc, ◌+◌, ◌-◌, ◌<◌, ◌≤◌, ◌^◌, true, false, Bool, bytes_eq, cond, List, [], ◌∷◌, ◌++◌, length, Option, Some, None, refl, ap, ◌∙◌, subst, codes, replicate, arith}
use Rattle.std.specs.List.{AllByRecursion}
use Rattle.wasmprinter_spec.specs.Character.{class}
use Rattle.wasmprinter_spec.specs.Forest.{Forest, End, Word, Group, Note, onto}
use Rattle.wasmprinter_spec.specs.Grammar.{Placed}
use Rattle.wasmprinter_spec.specs.Types.{ValType, FuncType, signature_at}
use Rattle.wasmprinter_spec.specs.Row as row
use Rattle.wasmprinter_spec.specs.Row.{Space, Types, Func}
use Rattle.wasmprinter_spec.specs.Labels.{Named}
use Rattle.wasmprinter_spec.specs.Names.{AreNamed, AreDistinct, identifiers_at, identifiers, in_function}
use Rattle.wasmprinter_spec.specs.Operator.{Operator}
use Rattle.wasmprinter_spec.specs.Customs.Hints.{Hint, FunctionHints, next_hint, hints_of_next, entries_after}
use Rattle.wasmprinter_spec.specs.Placed.{LocalEntry, PlacedFunction}
use Rattle.wasmprinter_spec.specs.Module.{without_places, locals_of, function_of}
use Rattle.wasmprinter_spec.specs.Indexed.{Counts, IsDeclaredVal, IsIndexedOperator, parameter_count}
use Rattle.wasmprinter_spec.specs.Piece as piece
use Rattle.wasmprinter_spec.specs.Piece.{Piece, OneSpace}
use Rattle.wasmprinter_spec.specs.Layout.Groups.{group_space_at, breaks, has_break}
use Rattle.wasmprinter_spec.specs.Layout.Variables.{Variables, variable_groups}
use Rattle.wasmprinter_spec.specs.Layout.Declarations.{Scope, Folding, scope_of_function}
use Rattle.wasmprinter_spec.specs.Layout.Types.{parameters_of}
use Rattle.wasmprinter_spec.specs.Layout.Operators.{Setting, operator_pieces, operators_pieces}
use Rattle.wasmprinter_spec.specs.Layout.Functions.{locals_place, local_line, local_pieces, header_pieces, over_lines, result_count, body_by, body_pieces, inner_pieces, function_group}
use Rattle.wasmprinter_spec.specs.IndexSpaces.{Identifiers, index_space, space_in, index, Context}
use Rattle.wasmprinter_spec.specs.Text.Items.{identifier_in_front, groups, ids_of}
use Rattle.wasmprinter_spec.specs.Text.Types.{val_types, variables, signature}
use Rattle.wasmprinter_spec.specs.Text.Functions.{function_of_type, read_function}
use Rattle.wasmprinter_spec.specs.Text.Operators.{read_operators}
use Rattle.wasmprinter_spec.proofs.OneLine.{hint_breaks}
use Rattle.wasmprinter_laws.proofs.Tokens.Pieces.{Edge, Bound, Ended}
use Rattle.wasmprinter_laws.proofs.Tokens.Writes.{Writes, WritesNoted, writing, is_open, both_write, after_anything, nothing_writes, break_writes, line_group_space_writes, group_space_at_writes, ended_group_space_at_writes}
use Rattle.wasmprinter_laws.specs.Listed.{AreSignaturesInRange, IsListed}
use Rattle.wasmprinter_laws.specs.OperatorLaws.{count_in, HaveSameTypes, HaveSameNames}
use Rattle.wasmprinter_laws.proofs.Ranged.{IsRangedLocal, IsRangedFunction}
use Rattle.wasmprinter_laws.proofs.Declarations.{id, declared_from, types_of-declared, ids_of-declared, identifiers_at-more}
use Rattle.wasmprinter_laws.proofs.Spaces.{identifiers_space}
use Rattle.wasmprinter_laws.proofs.Types.Ranged.{IsRangedVal}
use Rattle.wasmprinter_laws.proofs.Types.Trees.{groups_items, signature_items, type_use_items, HaveTypes, HaveNames, grouped_types, grouped_names, variables_write, groups_write}
use Rattle.wasmprinter_laws.proofs.Types.Back.{variables_leave, variables_take, IsAfterSignature, printed_signature, signature-items, own_parameters}
use Rattle.wasmprinter_laws.proofs.Operators.Lists.{expression_items, hinted_items, chunks_of, hinted_write, expression_reads}
use Rattle.wasmprinter_laws.proofs.Tabled.{StandsAlone, differs}
use Rattle.wasmprinter_laws.proofs.Folded.Lists.{IsUncolored, AreFoldable, list_items, folded_list_writes, chunks_of_forest-list}
use Rattle.wasmprinter_laws.proofs.Folded.Begins.{BeginsCode, list_begins}
use Rattle.wasmprinter_laws.proofs.Fields.Scopes.{own_index, AreScoped, own_index-reads, type_bound, type_indices-read, vals_bounded, signature_bounded, signature_declared}
use Rattle.wasmprinter_laws.proofs.Fields.Headers.{header_items, header_writes, identifier_in_front-header}

-- ---- the items of functions

-- The locals after `count` parameters
abbrev local_items : Scope → ℕ → List ValType → Forest
local_items s count ls = groups_items s.names (codes "local") (variable_groups (s.names.locals s.function) count ls)

-- The operators, with their hints or without
abbrev pub body_items : Bool → Scope → List (Placed Hint) → PlacedFunction → Forest
body_items hints s hs f = list_items hints s.folding (result_count s f.type_index) (over_lines s f.body.place) hs f.body.value.operators

-- The items of a function after its type
abbrev inner_items : Bool → Scope → List (Placed Hint) → ℕ → PlacedFunction → Forest
inner_items hints s hs count f = onto (local_items s count (locals_of f.body.value.locals)) (body_items hints s hs f)

-- A function with these items after its type, or `...` in a skeleton
abbrev function_items_by : Bool → Scope → PlacedFunction → Forest → Forest
function_items_by true s f inner = header_items s Func (Some s.function) s.function f.type_index (Word (codes "...") End)
function_items_by false s f inner = header_items s Func (Some s.function) s.function f.type_index inner

abbrev own_parameter_count : Scope → PlacedFunction → ℕ
own_parameter_count s f = parameter_count (signature_at s.types f.type_index)

abbrev pub function_items : Bool → Scope → ℕ → List (Placed Hint) → PlacedFunction → Forest
function_items skeleton s i hs f =
    function_items_by skeleton (scope_of_function s i) f (inner_items false (scope_of_function s i) hs (own_parameter_count s f) f)

abbrev pub function_hinted : Bool → Scope → ℕ → List (Placed Hint) → PlacedFunction → Forest
function_hinted skeleton s i hs f =
    function_items_by skeleton (scope_of_function s i) f (inner_items true (scope_of_function s i) hs (own_parameter_count s f) f)

-- Functions from index `i` on, each with its hints
abbrev pub functions_hinted : Bool → Scope → List FunctionHints → ℕ → List PlacedFunction → Forest
functions_hinted skeleton s es i [] = End
functions_hinted skeleton s es i (f ∷ fs) =
    Group (Word (codes "func") (function_hinted skeleton s i (hints_of_next i es) f)) (functions_hinted skeleton s (entries_after i es) (i + 1) fs)

-- ---- pieces write the items

-- If a type is in range, then so is each of its repetitions.
replicated_ranged : (n : ℕ) (t : ValType) (ts : List ValType) → IsRangedVal t → AllByRecursion IsRangedVal ts → AllByRecursion IsRangedVal (replicate n t ++ ts)
replicated_ranged zero t ts h r = r
replicated_ranged (suc n) t ts h r = (h, replicated_ranged n t ts h r)

locals_ranged : (es : List (Placed LocalEntry)) → AllByRecursion (λ e. IsRangedLocal e.value) es → AllByRecursion IsRangedVal (locals_of es)
locals_ranged [] r = tt
locals_ranged (e ∷ es) r = replicated_ranged e.value.count e.value.type (locals_of es) r.0.type (locals_ranged es r.1)

has_break-after : (hs ps : List Piece) → has_break ps ≡ true → has_break (hs ++ ps) ≡ true
has_break-after [] ps h = h
has_break-after (p ∷ hs) ps h = by (breaks p) (has_break-after hs ps h)
  where
    by : (t : Bool) → has_break (hs ++ ps) ≡ true → cond t true (has_break (hs ++ ps)) ≡ true
    by true e = refl
    by false e = e

-- The first operator begins a line.
body_breaks : (s : Scope) (place : ℕ) (hs : List (Placed Hint)) (o : Placed Operator) (os : List (Placed Operator)) →
    has_break (operators_pieces (over_lines s place) hs true 0 [] (o ∷ os)) ≡ true
unfolding operators_pieces operator_pieces
body_breaks s place hs o os = hint_breaks (2 + 0) (next_hint (o.place - place) hs) _ refl

module _ (s : Scope) (named : AreNamed s.names) (ranged : AreSignaturesInRange (signature_at s.types)) (bare : IsUncolored s.folding) where
  local_line_writes : (place : Option ℕ) (gs : List Variables) → AllByRecursion HaveNames gs → AllByRecursion (HaveTypes IsRangedVal) gs →
      Writes Bound (local_line s.names place gs) Bound (groups_items s.names (codes "local") gs)
  unfolding local_line class
  local_line_writes place [] h r = nothing_writes
  local_line_writes place (g ∷ gs) h r =
      break_writes (both_write (variables_write s.names named (codes "local") g refl refl h.0 r.0)
      (groups_write s.names named (codes "local") gs refl h.1 r.1))

  local_writes : (count : ℕ) (es : List (Placed LocalEntry)) → AllByRecursion (λ e. IsRangedLocal e.value) es →
      Writes Bound (local_pieces s.names s.function count es) Bound (local_items s count (locals_of es))
  unfolding local_pieces
  local_writes count es r =
      let own : ℕ → Option Named = s.names.locals s.function in
      local_line_writes (locals_place es) (variable_groups own count (locals_of es))
      (grouped_names own (named.locals s.function) count (locals_of es))
      (grouped_types IsRangedVal own count (locals_of es) (locals_ranged es r))

  body_writes : (place : ℕ) (hs : List (Placed Hint)) (os : List (Placed Operator)) → AllByRecursion IsListed (without_places os) →
      WritesNoted Bound (operators_pieces (over_lines s place) hs true 0 [] os) Ended (expression_items (over_lines s place) (without_places os))
      (hinted_items (over_lines s place) hs 0 [] os)
  body_writes place hs os l = after_anything Bound (hinted_write (over_lines s place) named ranged hs os l)

  empty_body_writes : (place : ℕ) (hs : List (Placed Hint)) → Writes Bound (operators_pieces (over_lines s place) hs true 0 [] []) Bound End
  unfolding operators_pieces
  empty_body_writes place hs = nothing_writes

  -- A function closes on a line of its own after its operators, so that no line comment contains its parenthesis.
  pub function_group_writes : {a : Edge} → is_open a ≡ true → (skeleton offsets : Bool) (hs : List (Placed Hint)) (f : PlacedFunction) → s.function < 2 ^ 64 → IsRangedFunction f →
      WritesNoted a (function_group skeleton offsets s hs f) Bound
      (Group (Word (codes "func") (function_items_by skeleton s f (inner_items false s hs (own_parameter_count s f) f))) End)
      (Group (Word (codes "func") (function_items_by skeleton s f (inner_items true s hs (own_parameter_count s f) f))) End)
  unfolding function_group inner_pieces body_pieces body_by class
  function_group_writes e true offsets hs f h r =
      let rest : Writes Bound (OneSpace ∷ (piece.Word (codes "...") ∷ [])) Bound (Word (codes "...") End) = search writing in
      line_group_space_writes (codes "func") _ e refl (header_writes s named ranged Func (Some s.function) s.function f.type_index _ _ _ h r.type_index rest)
  function_group_writes {a = a} e false offsets hs f h r = by s.folding bare
    where
      place : ℕ
      place = f.body.place

      locals : List (Placed LocalEntry)
      locals = f.body.value.locals

      header : List Piece
      header = header_pieces s Func (Some s.function) s.function f.type_index

      own_locals : List Piece
      own_locals = local_pieces s.names s.function (own_parameter_count s f) locals

      own_items : Forest → Forest
      own_items x = header_items s Func (Some s.function) s.function f.type_index (onto (local_items s (own_parameter_count s f) (locals_of locals)) x)

      flat : (os : List (Placed Operator)) → AllByRecursion IsListed (without_places os) →
          WritesNoted a (group_space_at offsets f.body.value.end 1 (codes "func") (header ++ (own_locals ++ operators_pieces (over_lines s place) hs true 0 [] os))) Bound
          (Group (Word (codes "func") (own_items (expression_items (over_lines s place) (without_places os)))) End)
          (Group (Word (codes "func") (own_items (hinted_items (over_lines s place) hs 0 [] os))) End)
      flat [] l =
          group_space_at_writes offsets f.body.value.end 1 (codes "func") _ e refl
          (header_writes s named ranged Func (Some s.function) s.function f.type_index _ _ _ h r.type_index
          (both_write (local_writes (own_parameter_count s f) locals r.body.locals) (empty_body_writes place hs)))
      flat (o ∷ os) l =
          ended_group_space_at_writes offsets f.body.value.end 1 (codes "func") _ e refl
          (has_break-after header _ (has_break-after own_locals _ (body_breaks s place hs o os)))
          (header_writes s named ranged Func (Some s.function) s.function f.type_index _ _ _ h r.type_index
          (both_write (local_writes (own_parameter_count s f) locals r.body.locals) (body_writes place hs (o ∷ os) l)))

      own : Option ℕ
      own = result_count s f.type_index

      by : (folding : Option Folding) → IsUncolored folding →
          WritesNoted a (group_space_at offsets f.body.value.end 1 (codes "func") (header ++ (own_locals ++ body_by folding own (over_lines s place) hs f.body.value.operators))) Bound
          (Group (Word (codes "func") (own_items (list_items false folding own (over_lines s place) hs f.body.value.operators))) End)
          (Group (Word (codes "func") (own_items (list_items true folding own (over_lines s place) hs f.body.value.operators))) End)
      by None b = flat f.body.value.operators r.body.listed
      by (Some x) b =
          group_space_at_writes offsets f.body.value.end 1 (codes "func") _ e refl
          (header_writes s named ranged Func (Some s.function) s.function f.type_index _ _ _ h r.type_index
          (both_write (local_writes (own_parameter_count s f) locals r.body.locals)
          (folded_list_writes x b own (over_lines s place) named ranged hs f.body.value.operators r.body.listed)))

pub function_writes : (s : Scope) → AreNamed s.names → AreSignaturesInRange (signature_at s.types) → IsUncolored s.folding → {a : Edge} → is_open a ≡ true → (skeleton offsets : Bool) (i : ℕ)
    (hs : List (Placed Hint)) (f : PlacedFunction) → i < 2 ^ 64 → IsRangedFunction f →
    WritesNoted a (function_group skeleton offsets (scope_of_function s i) hs f) Bound
    (Group (Word (codes "func") (function_items skeleton s i hs f)) End)
    (Group (Word (codes "func") (function_hinted skeleton s i hs f)) End)
function_writes s named ranged bare e skeleton offsets i hs f h r =
    function_group_writes (scope_of_function s i) named ranged bare e skeleton offsets hs f h r

-- ---- the items read back

-- Operators do not start as parameters, results or locals do.
groups_operators : {A : Type 0} (read : Forest → Option (List A)) (w : List ℕ) → ((v : List ℕ) → StandsAlone v → bytes_eq v w ≡ false) → (f : Forest) → BeginsCode f →
    groups read w f ≡ Some ([], f)
unfolding groups
groups_operators read w off End b = refl
groups_operators read w off (Word v f) b = refl
groups_operators read w off (Group (Word v g) f) b = rw (off v b)
groups_operators read w off (Note id g f) b = refl
groups_operators read w off _ b = absurd b

no_param : (v : List ℕ) → StandsAlone v → bytes_eq v (codes "param") ≡ false
no_param v a = differs v (codes "param") a refl

no_result : (v : List ℕ) → StandsAlone v → bytes_eq v (codes "result") ≡ false
no_result v a = differs v (codes "result") a refl

no_local : (v : List ℕ) → StandsAlone v → bytes_eq v (codes "local") ≡ false
no_local v a = differs v (codes "local") a refl

-- The parameters and the locals after them are one index space.
variables_space : (named : ℕ → Option Named) → AreDistinct named → (count : ℕ) (ls : List ValType) → count + length ls ≤ 2 ^ 64 →
    index_space (identifiers named count ++ ids_of (declared_from named count ls)) ≡ Some (identifiers named (count + length ls))
variables_space named apart count ls few =
    let start : count ≡ 0 + count = omega arith in
    let are : identifiers named count ++ ids_of (declared_from named count ls) ≡ identifiers named (count + length ls) =
    ap (λ ids. identifiers named count ++ ids) (ids_of-declared named count ls)
    ∙ ap (λ (k : ℕ). identifiers named count ++ identifiers_at named k (length ls)) start
    ∙ identifiers_at-more named 0 count (length ls) in
    ap index_space are ∙ identifiers_space named apart (count + length ls) few

module _ (s : Scope) (c : Context) (n : Counts) (scoped : AreScoped s c n) (i count : ℕ) (few : count ≤ 2 ^ 64) (place : ℕ) where
  -- The counts and the context of the operators of a function with this number of parameters and locals
  abbrev own_counts : Counts
  own_counts = record n { locals = count }

  abbrev own_locals : Identifiers
  own_locals = identifiers (s.names.locals i) count

  abbrev own_context : Context
  own_context = record c { spaces = record c.spaces { locals = own_locals } }

  own_spaces : (space : Space) → space_in own_context.spaces space ≡ identifiers (in_function s.names i space) (count_in own_counts space)
  own_spaces Types = scoped.names.spaces Types
  own_spaces Func = scoped.names.spaces Func
  own_spaces row.Table = scoped.names.spaces row.Table
  own_spaces row.Memory = scoped.names.spaces row.Memory
  own_spaces row.Tag = scoped.names.spaces row.Tag
  own_spaces row.Global = scoped.names.spaces row.Global
  own_spaces row.Elem = scoped.names.spaces row.Elem
  own_spaces row.Data = scoped.names.spaces row.Data
  own_spaces row.Local = refl
  own_spaces row.Label = scoped.names.spaces row.Label

  own_few : (space : Space) → count_in own_counts space ≤ 2 ^ 64
  own_few row.Local = few
  own_few Types = scoped.names.few Types
  own_few Func = scoped.names.few Func
  own_few row.Table = scoped.names.few row.Table
  own_few row.Memory = scoped.names.few row.Memory
  own_few row.Tag = scoped.names.few row.Tag
  own_few row.Global = scoped.names.few row.Global
  own_few row.Elem = scoped.names.few row.Elem
  own_few row.Data = scoped.names.few row.Data
  own_few row.Label = scoped.names.few row.Label

  own_names : HaveSameNames (over_lines (scope_of_function s i) place) own_context own_counts
  own_names = record {
    spaces = own_spaces;
    fields = scoped.names.fields;
    few = own_few;
    few_fields = scoped.names.few_fields;
    functions = scoped.names.functions;
    signatures = scoped.names.signatures;
    structures = scoped.names.structures;
  }

  own_types : HaveSameTypes (over_lines (scope_of_function s i) place) own_context own_counts
  own_types = record { read = scoped.types.read; counted = scoped.types.counted; in_range = scoped.types.in_range }

  body_reads : (f : PlacedFunction) → IsRangedFunction f → AllByRecursion (IsIndexedOperator own_counts) (without_places f.body.value.operators) →
      read_operators own_context (chunks_of (over_lines (scope_of_function s i) place) 0 [] (without_places f.body.value.operators))
      ≡ Some (without_places f.body.value.operators)
  body_reads f h d =
      expression_reads (over_lines (scope_of_function s i) place) own_context own_counts own_types own_names scoped.apart
      f.body.value.operators (record { listed = h.body.listed; nested = h.body.nested; count = h.body.count; indexed = d })

-- The number of parameters and locals of a function
abbrev pub variable_count : Option FuncType → PlacedFunction → ℕ
variable_count t f = parameter_count t + length (locals_of f.body.value.locals)

-- The counts for the operators of a function
abbrev pub counts_with : Counts → Option FuncType → PlacedFunction → Counts
counts_with n t f = record n { locals = variable_count t f }

module _ (s : Scope) (c : Context) (n : Counts) (scoped : AreScoped s c n) where
  -- The items of a function after its identifier read back.
  typed-items : (i : ℕ) (hs : List (Placed Hint)) (t : FuncType) (f : PlacedFunction) → signature_at s.types f.type_index ≡ Some t → IsRangedFunction f →
      AllByRecursion (IsDeclaredVal n.types) (locals_of f.body.value.locals) → variable_count (Some t) f ≤ 2 ^ 64 →
      AllByRecursion (IsIndexedOperator (counts_with n (Some t) f)) (without_places f.body.value.operators) → AreFoldable s.folding f.body.value.operators →
      function_of_type c
      (onto (type_use_items s.names (Some i) f.type_index (Some t)) (inner_items false (scope_of_function s i) hs (length t.params) f))
      ≡ Some (function_of f)
  typed-items i hs t f own h locals few d foldable =
      let ids : Identifiers = c.spaces.types in
      let os : List Operator = without_places f.body.value.operators in
      let ls : List ValType = locals_of f.body.value.locals in
      let named : ℕ → Option Named = s.names.locals i in
      let count : ℕ = length t.params in
      let setting : Setting = over_lines (scope_of_function s i) f.body.place in
      let code : Forest = body_items false (scope_of_function s i) hs f in
      let results : Option ℕ = result_count (scope_of_function s i) f.type_index in
      let begins : BeginsCode code =
      list_begins s.folding results setting scoped.named scoped.types.in_range hs f.body.value.operators h.body.listed in
      let gs : List Variables = variable_groups named count ls in
      let rest : Forest = onto (groups_items s.names (codes "local") gs) code in
      let bound : ℕ = type_bound s c n scoped in
      let reads = type_indices-read s c n scoped in
      let after : IsAfterSignature ids rest = record {
        params = variables_leave s.names (variables ids) (codes "param") (codes "local") gs code refl (groups_operators (variables ids) (codes "param") no_param code begins);
        results = variables_leave s.names (val_types ids) (codes "result") (codes "local") gs code refl (groups_operators (val_types ids) (codes "result") no_result code begins);
      } in
      let type : index ids (own_index s Types f.type_index) ≡ Some f.type_index =
      own_index-reads s c n scoped Types (λ names g. refl) f.type_index (signature_declared s c n scoped t f.type_index own) h.type_index in
      let sig : signature ids (onto (signature_items s.names (Some i) t) rest) ≡ Some (printed_signature (parameters_of s.names (Some i)) t, rest) =
      signature-items s.names ids bound reads (Some i) t rest (signature_bounded s c n scoped t f.type_index own) after in
      let variables : groups (variables ids) (codes "local") rest ≡ Some (declared_from named count ls, code) =
      variables_take s.names ids bound reads named count (codes "local") ls code
      (vals_bounded s c n scoped ls (locals_ranged f.body.value.locals h.body.locals) locals) (groups_operators (variables ids) (codes "local") no_local code begins) in
      let read : c.signature f.type_index ≡ Some t = scoped.types.read f.type_index ∙ own in
      rw (
        type,
        sig,
        variables,
        chunks_of_forest-list s.folding results setting scoped.named scoped.types.in_range hs f.body.value.operators h.body.listed
            h.body.nested foldable,
        read,
        own_parameters (parameters_of s.names (Some i)) t,
        variables_space named (scoped.apart.locals i) count ls few,
        body_reads s c n scoped i (count + length ls) few f.body.place f h d,
        types_of-declared named count ls,
      )

  pub read_function-items : (i : ℕ) (hs : List (Placed Hint)) (t : FuncType) (f : PlacedFunction) → signature_at s.types f.type_index ≡ Some t → IsRangedFunction f →
      AllByRecursion (IsDeclaredVal n.types) (locals_of f.body.value.locals) → variable_count (signature_at s.types f.type_index) f ≤ 2 ^ 64 →
      AllByRecursion (IsIndexedOperator (counts_with n (signature_at s.types f.type_index) f)) (without_places f.body.value.operators) →
      AreFoldable s.folding f.body.value.operators → read_function c (function_items false s i hs f) ≡ Some (function_of f)
  read_function-items i hs t f own h locals few d foldable =
      let rest : Option FuncType → Forest = λ x. inner_items false (scope_of_function s i) hs (parameter_count x) f in
      let os : List Operator = without_places f.body.value.operators in
      ap (λ x. function_of_type c x.1)
      (identifier_in_front-header (scope_of_function s i) Func (Some i) i f.type_index (rest (signature_at s.types f.type_index)))
      ∙ ap (λ x. function_of_type c (onto (type_use_items s.names (Some i) f.type_index x) (rest x))) own
      ∙ typed-items i hs t f own h locals (subst (λ x. variable_count x f ≤ 2 ^ 64) own few)
      (subst (λ x. AllByRecursion (IsIndexedOperator (counts_with n x f)) os) own d) foldable

-- The identifier of a function is read.
pub identifier_in_front-function : (s : Scope) (i : ℕ) (hs : List (Placed Hint)) (f : PlacedFunction) → (identifier_in_front (function_items false s i hs f)).0 ≡ id (s.names.items Func i)
identifier_in_front-function s i hs f =
    ap (λ x. x.0)
    (identifier_in_front-header (scope_of_function s i) Func (Some i) i f.type_index
    (inner_items false (scope_of_function s i) hs (own_parameter_count s f) f))
