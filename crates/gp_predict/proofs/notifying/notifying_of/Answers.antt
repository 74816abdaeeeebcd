use Rattle.std.specs.Prelude.{List}
use Rattle.gp_analysis.specs.Tickets.{too_much}
use Rattle.gp_notified.specs.Question.{notified}
use Rattle.gp_property.specs.PropertyForm.{PropertyForm}
use Rattle.gp_predict.proofs.WithinLimit.{none_asked, notified_means, within_limit}
use Rattle.gp_predict.proofs.notifying.notifying_of.Goals as goal

pub notify_report-requires-clause-limit : goal.notify_report-requires-clause-limit
notify_report-requires-clause-limit g c _ _ =
    within_limit (notified c.args.listing.now.properties) c.args.listing.now.recording c.args.asked.budget
    (none_asked (λ (ps : List PropertyForm). too_much (notified ps) c.args.listing.now.recording c.args.asked.budget)
    c.as_slice-properties.result.now c.args.listing.now.properties c.in_ok-total.field-0
    c.as_slice-properties.ensures c.in_ok-total.ensures c.in-None.is)

pub returns-in_ok-notify_report-in-None-clause-due : goal.returns-in_ok-notify_report-in-None-clause-due
returns-in_ok-notify_report-in-None-clause-due g c =
    notified_means c.args.listing.now c.args.asked c.in_ok-notify_report-in-None.field-0
    (none_asked (λ (ps : List PropertyForm). too_much (notified ps) c.args.listing.now.recording c.args.asked.budget)
    c.as_slice-properties.result.now c.args.listing.now.properties c.in_ok-total.field-0
    c.as_slice-properties.ensures c.in_ok-total.ensures c.in-None.is)
    c.in_ok-notify_report-in-None.ensures
