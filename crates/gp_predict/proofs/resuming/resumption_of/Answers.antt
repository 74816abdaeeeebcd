use Rattle.std.specs.Prelude.{List}
use Rattle.gp_analysis.specs.Tickets.{too_much}
use Rattle.gp_property.specs.PropertyForm.{PropertyForm}
use Rattle.gp_resumed.specs.Question.{resumed}
use Rattle.gp_predict.proofs.WithinLimit.{none_asked, resumed_means, within_limit}
use Rattle.gp_predict.proofs.resuming.resumption_of.Goals as goal

pub resumption_report-requires-clause-limit : goal.resumption_report-requires-clause-limit
resumption_report-requires-clause-limit g c _ _ =
    within_limit (resumed c.args.submission.now.listing.properties c.args.submission.now.report) c.args.submission.now.listing.recording c.args.asked.budget
    (none_asked (λ (ps : List PropertyForm). too_much (resumed ps c.args.submission.now.report) c.args.submission.now.listing.recording c.args.asked.budget)
    c.as_slice-properties.result.now c.args.submission.now.listing.properties c.in_ok-total.field-0
    c.as_slice-properties.ensures c.in_ok-total.ensures c.in-None.is)

pub returns-in_ok-resumption_report-in-None-clause-due : goal.returns-in_ok-resumption_report-in-None-clause-due
returns-in_ok-resumption_report-in-None-clause-due g c =
    resumed_means c.args.submission.now c.args.asked c.in_ok-resumption_report-in-None.field-0
    (none_asked (λ (ps : List PropertyForm). too_much (resumed ps c.args.submission.now.report) c.args.submission.now.listing.recording c.args.asked.budget)
    c.as_slice-properties.result.now c.args.submission.now.listing.properties c.in_ok-total.field-0
    c.as_slice-properties.ensures c.in_ok-total.ensures c.in-None.is)
    c.in_ok-resumption_report-in-None.ensures
