-- The failure is that of an output that is not created, or of a failed write.
use Rattle.std.proofs.Common.{refl, ap, ◌∙◌, subst}
use Rattle.wasm2text.specs.Outcome.{write_failures, Reports, status_of}
use Rattle.wasm2text.proofs.printing.report_unwritten.Goals as goal

pub returns-in-Some-clause-reports : goal.returns-in-Some-clause-reports
returns-in-Some-clause-reports g c =
    subst (λ o. Reports g.E.Messages.sends c.args.err.now (write_failures c.args.name.now o c.args.error) c.report.new.err) c.in-Some.ensures
    (c.report.new.err, c.report.ensures, refl)

pub returns-in-Some-clause-status : goal.returns-in-Some-clause-status
returns-in-Some-clause-status g c = ap (λ o. status_of (write_failures c.args.name.now o c.args.error)) c.in-Some.ensures

pub returns-in-None-clause-reports : goal.returns-in-None-clause-reports
returns-in-None-clause-reports g c =
    subst (λ o. Reports g.E.Messages.sends c.args.err.now (write_failures c.args.name.now o c.args.error) c.report_failed_write.new.err) c.in-None.ensures
    c.report_failed_write.ensures.reports

pub returns-in-None-clause-status : goal.returns-in-None-clause-status
returns-in-None-clause-status g c =
    c.report_failed_write.ensures.status ∙ ap (λ o. status_of (write_failures c.args.name.now o c.args.error)) c.in-None.ensures
