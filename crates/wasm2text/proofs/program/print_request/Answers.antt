-- The files are printed, or an allocation failed.
use Rattle.std.proofs.Common.{refl, ap, ◌∙◌, inl, inr}
use Rattle.wasm2text.specs.Outcome.{own_text}
use Rattle.wasm2text.proofs.Runs.{serves_same}
use Rattle.wasm2text.proofs.program.print_request.Goals as goal

pub returns-in-Ok : goal.returns-in-Ok
returns-in-Ok g c none =
    let done = c.in-Ok.ensures in
    inl (serves_same _ _ _ _ done.0 (c.print_completed.ensures done.1 (ap own_text done.0 ∙ none)))

pub returns-in-Err : goal.returns-in-Err
returns-in-Err g c none = inr (
  none,
  record { reports = c.refuse.ensures.reports; unread = refl; uncreated = refl; silent = refl; status = c.refuse.ensures.status },
)
