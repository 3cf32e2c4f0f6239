-- Implication between records of reasons.
use Rattle.std.proofs.Common.{◌≡◌, ℕ, refl}
use Rattle.wasmprinter_bytes.specs.Reasons.{Reasons, HasReason}
use Rattle.wasmprinter_bytes.specs.declared.library_error.Error.{Error}
use Rattle.wasmprinter_bytes.specs.declared.library_error.Error.TheVariants as e

-- Each reason of `r` implies the reason of `s` for the same error.
pub record Implies (r s : Reasons) : Type 0 where
  pub malformed : (place : ℕ) → r.malformed place → s.malformed place
  pub component : r.component → s.component
  pub locals : (place : ℕ) → r.locals place → s.locals place
  pub functions : (count : ℕ) → r.functions count → s.functions count
  pub tables : (place : ℕ) → r.tables place → s.tables place
  pub memory : r.memory → s.memory

-- If `r` implies `s`, an error that has its reason in `r` has its reason in `s`.
pub reason_implied : (r s : Reasons) → Implies r s → (f : Error) → HasReason r f → HasReason s f
reason_implied r s i (e.Malformed place) h = i.malformed place h
reason_implied r s i e.Component h = i.component h
reason_implied r s i (e.TooManyLocals place) h = i.locals place h
reason_implied r s i (e.TooManyFunctions count) h = i.functions count h
reason_implied r s i (e.EmptyTableInit place) h = i.tables place h
reason_implied r s i (e.FoldLegacy place) h = absurd h
reason_implied r s i (e.FoldHint place) h = absurd h
reason_implied r s i (e.DylinkSubsection id) h = absurd h
reason_implied r s i e.Unreadable h = absurd h
reason_implied r s i (e.Printer x) h = absurd h
reason_implied r s i e.Memory h = i.memory h

-- If no reason except that of `Memory` can hold, the error is `Memory`, and its reason holds.
pub memory_alone : (r : Reasons) → ((place : ℕ) → r.malformed place → ⊥) → (r.component → ⊥) → ((place : ℕ) → r.locals place → ⊥) → ((count : ℕ) → r.functions count → ⊥)
    → ((place : ℕ) → r.tables place → ⊥) → (f : Error) → HasReason r f → (f ≡ e.Memory) × r.memory
memory_alone r no_malformed no_component no_locals no_functions no_tables (e.Malformed place) h = absurd (no_malformed place h)
memory_alone r no_malformed no_component no_locals no_functions no_tables e.Component h = absurd (no_component h)
memory_alone r no_malformed no_component no_locals no_functions no_tables (e.TooManyLocals place) h = absurd (no_locals place h)
memory_alone r no_malformed no_component no_locals no_functions no_tables (e.TooManyFunctions count) h = absurd (no_functions count h)
memory_alone r no_malformed no_component no_locals no_functions no_tables (e.EmptyTableInit place) h = absurd (no_tables place h)
memory_alone r no_malformed no_component no_locals no_functions no_tables (e.FoldLegacy place) h = absurd h
memory_alone r no_malformed no_component no_locals no_functions no_tables (e.FoldHint place) h = absurd h
memory_alone r no_malformed no_component no_locals no_functions no_tables (e.DylinkSubsection id) h = absurd h
memory_alone r no_malformed no_component no_locals no_functions no_tables e.Unreadable h = absurd h
memory_alone r no_malformed no_component no_locals no_functions no_tables (e.Printer x) h = absurd h
memory_alone r no_malformed no_component no_locals no_functions no_tables e.Memory h = (refl, h)
