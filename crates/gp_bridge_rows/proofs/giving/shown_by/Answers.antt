use Rattle.gp_bridge_rows.proofs.Asked.{ends_shown, solves_window}
use Rattle.gp_bridge_rows.proofs.giving.shown_by.Goals as goal

pub executed_of-requires : goal.executed_of-requires
executed_of-requires c = solves_window c.args.encoded.now c.args.ids.now c.args.valuation.now c.requires.meets

pub returns : goal.returns
returns c =
    ends_shown c.args.encoded.now c.args.ids.now c.args.valuation.now c.in_ok-schedule.schedule.events c.requires.ask c.requires.meets c.in_ok-schedule.ensures.order c.in_ok-schedule.ensures.feasible
