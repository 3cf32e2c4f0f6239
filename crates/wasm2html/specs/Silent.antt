-- The meaning of a printer whose calls no contract describes: every call may succeed and may fail.
use Rattle.std.specs.Prelude.{None}
use Rattle.wasmprinter_spec.specs.Meaning.{Meaning}
use Rattle.wasm2html.specs.declared.page.Page.{Page}

-- Each call may succeed with any page after it, and may fail with any error and any page after it.
abbrev pub silent : Meaning Page
silent = record {
  after = λ old call new. Unit {0};
  may_fail = λ old call. Unit {0};
  partly = λ old call error new. Unit {0};
  faults = λ page. None;
}
