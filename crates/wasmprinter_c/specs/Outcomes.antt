-- The outcome of a call that prints a module.
use Rattle.std.specs.Prelude.{◌≡◌, ◌↔◌, ◌⊎◌, ℕ, List}
use Rattle.std.specs.Str.{IsUtf8}
use Rattle.wasmprinter_spec.specs.Binary.{IsComponent}
use Rattle.wasmprinter_c.specs.Printing.{Request, Buffers, HasEventsOver}
use Rattle.wasmprinter_c.specs.Omitted.{IsCutAt, IsCutOff}
use Rattle.wasmprinter_c.specs.Refused.{IsRefusedWith}
use Rattle.wasmprinter_c.specs.Statuses.{ok_status, component_status, indent_status, option_status, list_status}
use Rattle.wasmprinter_c.specs.declared.Outcome.{Outcome}
use Rattle.wasmprinter_c.specs.declared.WasmprinterResult.{WasmprinterResult}

-- The outcome with this status, and with the lengths and the detail that were stored.
abbrev pub outcome_with : ℕ → WasmprinterResult → Outcome
outcome_with status stored = record { status = status; length = stored.length; count = stored.count; detail = stored.detail }

-- The call changed neither the buffer nor the table. It stored 0 as the length of the text and as the number of
-- events, and this detail.
pub record StoresOnlyDetail (b : Buffers) (detail : ℕ) (stored : WasmprinterResult) : Type 0 where
  pub same_buffer : b.new ≡ b.old
  pub same_table : b.after ≡ b.before
  pub uncounted : stored.length ≡ 0
  pub unlisted : stored.count ≡ 0
  pub detailed : stored.detail ≡ detail

-- The outcome of a call that prints a module, if the flags have no unknown bit.
pub record IsOutcome (r : Request) (bytes : List ℕ) (b : Buffers) (outcome : Outcome) : Type 0 where
  -- If the status is `ok_status`, the module was printed: the buffer has the first bytes of its text and the table
  -- has its first events, as many as fit, if they can be counted.
  pub printed : outcome.status ≡ ok_status → HasEventsOver r bytes b outcome.length outcome.count
  -- Any status except `ok_status`, `indent_status` and `list_status` is the number of an error for which the module was
  -- refused.
  pub refused : ¬ (outcome.status ≡ ok_status) → ¬ (outcome.status ≡ indent_status) → ¬ (outcome.status ≡ list_status) → IsRefusedWith r bytes b outcome
  -- The status is `component_status` if and only if the bytes are marked as a component.
  pub component : (outcome.status ≡ component_status) ↔ IsComponent bytes
  -- The status is `indent_status` if and only if the indent is not UTF-8 and the bytes are not marked as a component.
  pub wrong_indent : (outcome.status ≡ indent_status) ↔ ((¬ IsComponent bytes) × (¬ IsUtf8 r.options.indent))
  -- The status is `list_status` if and only if the list of names is cut off, the indent is UTF-8, and the bytes are not
  -- marked as a component.
  pub wrong_list : (outcome.status ≡ list_status) ↔ ((¬ IsComponent bytes) × IsUtf8 r.options.indent × IsCutOff r.omitted)
  -- The detail is then the offset in the list at which no complete name follows.
  pub cut_at : outcome.status ≡ list_status → IsCutAt outcome.detail r.omitted
  -- If the status is `indent_status` or `list_status`, the buffer and the table are unchanged, and the counts of bytes and
  -- events are 0.
  pub untouched : (outcome.status ≡ indent_status) ⊎ (outcome.status ≡ list_status) →
      (b.new ≡ b.old) × (b.after ≡ b.before) × (outcome.length ≡ 0) × (outcome.count ≡ 0)
  -- The status is not the one for an unknown bit.
  pub known : ¬ (outcome.status ≡ option_status)
  -- If the status is `ok_status` or `indent_status`, the detail is 0.
  pub no_detail : (outcome.status ≡ ok_status) ⊎ (outcome.status ≡ indent_status) → outcome.detail ≡ 0
