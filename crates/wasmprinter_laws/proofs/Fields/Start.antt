-- The start function among the fields of a module
use Rattle.std.proofs.Common.{◌≡◌, ℕ, ◌<◌, Option, Some, None, option_map, refl, ap, codes, arith}
use Rattle.wasmprinter_spec.specs.Character.{class}
use Rattle.wasmprinter_spec.specs.Forest.{Forest, End, Word, Group}
use Rattle.wasmprinter_spec.specs.Grammar.{Placed}
use Rattle.wasmprinter_spec.specs.Row.{Func}
use Rattle.wasmprinter_spec.specs.Names.{AreNamed}
use Rattle.wasmprinter_spec.specs.Indexed.{Counts}
use Rattle.wasmprinter_spec.specs.Layout.Declarations.{Scope}
use Rattle.wasmprinter_spec.specs.Layout.Start.{start_pieces}
use Rattle.wasmprinter_spec.specs.IndexSpaces.{Context}
use Rattle.wasmprinter_spec.specs.Text.Start.{read_start}
use Rattle.wasmprinter_laws.proofs.Tokens.Pieces.{Bound}
use Rattle.wasmprinter_laws.proofs.Tokens.Writes.{Writes, nothing_writes, break_writes, line_group_space_writes}
use Rattle.wasmprinter_laws.proofs.Ranged.{IsRangedStart}
use Rattle.wasmprinter_laws.proofs.Identifiers.{index_writes}
use Rattle.wasmprinter_laws.proofs.Fields.Scopes.{own_index, AreScoped, own_index-reads}

-- The items of the field after its word, if there is a start function
abbrev pub start_held : Scope → Option (Placed ℕ) → Option Forest
start_held s start = option_map (λ i. own_index s Func i.value) start

abbrev pub start_items : Scope → Option (Placed ℕ) → Forest
start_items s None = End
start_items s (Some i) = Group (Word (codes "start") (own_index s Func i.value)) End

pub start_writes : (s : Scope) → AreNamed s.names → (start : Option (Placed ℕ)) → IsRangedStart start → Writes Bound (start_pieces s start) Bound (start_items s start)
unfolding start_pieces class
start_writes s named None h = nothing_writes
start_writes s named (Some i) h =
    break_writes (line_group_space_writes (codes "start") _ refl refl (index_writes (s.names.items Func i.value) i.value (named.items Func i.value) (omega (arith, h))))

-- The index of the start function is declared.
abbrev pub IsIndexedStart : Counts → Option (Placed ℕ) → Type 0
IsIndexedStart n None = Unit {0}
IsIndexedStart n (Some i) = i.value < n.functions

pub read_start-items : (s : Scope) (c : Context) (n : Counts) → AreScoped s c n → (start : Option (Placed ℕ)) → IsRangedStart start → IsIndexedStart n start →
    read_start c.spaces (start_held s start) ≡ Some (option_map (λ i. i.value) start)
read_start-items s c n scoped None h d = refl
read_start-items s c n scoped (Some i) h d = ap (option_map Some) (own_index-reads s c n scoped Func (λ names f. refl) i.value d h)
